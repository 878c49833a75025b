-- Each number is in range, and two closed conclusions with the same number are the same; each mark says one statement, and each
-- statement has one mark.
use mathlib.Core.Path.{◌≡◌, ap}
use mathlib.Core.Logic.{◌⊎◌, inl, inr}
use Prim.Native.Nat.{ℕ, ◌-◌, ◌/◌, ◌%◌, ◌<◌}
use native.Mathlib.Omega.{arith}
use native.Mathlib.Decide.{dec_lt}
use Rattle.sorts.specs.declared.Prin.{Prin}
use Rattle.sorts.specs.declared.GrantNo.{GrantNo}
use Rattle.sorts.specs.declared.Pack.{Pack}
use Rattle.sorts.specs.declared.Res.{Res}
use Rattle.sorts.specs.declared.Res.TheVariants.{Issue, Run, Export}
use Rattle.sorts.specs.declared.Concl.{Concl}
use Rattle.sorts.specs.declared.Concl.TheVariants.{Property, Perm}
use Rattle.sorts.specs.Numbers.{ClosedRes, ClosedConcl, slot_of, number_of, conclusions, all_marks, Truth, Saying}

pub slot_lt : (r : Res) → ClosedRes r → slot_of r < 144
slot_lt (Issue g) h = omega arith
slot_lt (Run n) h = omega arith
slot_lt (Export n) h = omega arith

-- "from 0 to 2,303"
pub number_lt : (c : Concl) → ClosedConcl c → number_of c < conclusions
number_lt (Property k p) h = omega arith
number_lt (Perm p r) h = omega (arith, slot_lt r h.1)

-- A tuple struct of one number is known by the number.
pub prin_is : (p q : Prin) → p.0 ≡ q.0 → p ≡ q
prin_is p q e = λ i. record { 0 = e i }

pub grant_is : (g h : GrantNo) → g.0 ≡ h.0 → g ≡ h
grant_is g h e = λ i. record { 0 = e i }

pub pack_is : (m n : Pack) → m.0 ≡ n.0 → m ≡ n
pack_is m n e = λ i. record { 0 = e i }

pub slot_same : (r t : Res) → ClosedRes r → ClosedRes t → slot_of r ≡ slot_of t → r ≡ t
slot_same (Issue g) (Issue h) a b e = ap Issue (grant_is g h (omega arith))
slot_same (Issue g) (Run n) a b e = absurd (omega arith)
slot_same (Issue g) (Export n) a b e = absurd (omega arith)
slot_same (Run m) (Issue h) a b e = absurd (omega arith)
slot_same (Run m) (Run n) a b e = ap Run (pack_is m n (omega arith))
slot_same (Run m) (Export n) a b e = absurd (omega arith)
slot_same (Export m) (Issue h) a b e = absurd (omega arith)
slot_same (Export m) (Run n) a b e = absurd (omega arith)
slot_same (Export m) (Export n) a b e = ap Export (pack_is m n (omega arith))

-- no right has a slot below 16, where the properties are
slot_high : (r : Res) → 15 < slot_of r
slot_high (Issue g) = omega arith
slot_high (Run n) = omega arith
slot_high (Export n) = omega arith

pub number_same : (c d : Concl) → ClosedConcl c → ClosedConcl d → number_of c ≡ number_of d → c ≡ d
number_same (Property k p) (Property j q) a b e =
    let x : p ≡ q = prin_is p q (omega arith) in
    let y : k ≡ j = omega arith in
    cc
number_same (Property k p) (Perm q t) a b e = absurd (omega (arith, slot_high t, slot_lt t b.1))
number_same (Perm p r) (Property j q) a b e = absurd (omega (arith, slot_high r, slot_lt r a.1))
number_same (Perm p r) (Perm q t) a b e =
    let l = slot_lt r a.1 in
    let m = slot_lt t b.1 in
    let x : p ≡ q = prin_is p q (omega arith) in
    let y : r ≡ t = slot_same r t a.1 b.1 (omega arith) in
    cc

number_onto : (n : ℕ) → n < conclusions → Truth n
number_onto n l = go (dec_lt (n % 144) 16) (dec_lt (n % 144) 80) (dec_lt (n % 144) 112)
  where
    go : Dec (n % 144 < 16) → Dec (n % 144 < 80) → Dec (n % 144 < 112) → Truth n
    go (yes p) q r = (Property (n % 144) (record { 0 = n / 144 }), (omega arith, omega arith), omega arith)
    go (no p) (yes q) r = (Perm (record { 0 = n / 144 }) (Issue (record { 0 = n % 144 - 16 })), (omega arith, omega arith), omega arith)
    go (no p) (no q) (yes r) = (Perm (record { 0 = n / 144 }) (Run (record { 0 = n % 144 - 80 })), (omega arith, omega arith), omega arith)
    go (no p) (no q) (no r) = (Perm (record { 0 = n / 144 }) (Export (record { 0 = n % 144 - 112 })), (omega arith, omega arith), omega arith)

-- "So there are 39,168 marks": every mark says a statement,
pub mark_onto : (n : ℕ) → n < all_marks → Truth n ⊎ Saying n
mark_onto n l = go (dec_lt n conclusions)
  where
    go : Dec (n < conclusions) → Truth n ⊎ Saying n
    go (yes p) = inl (number_onto n p)
    go (no p) = let c = number_onto (n % conclusions) (omega arith) in inr (n / conclusions - 1, c.0, omega arith, c.1, omega (arith, c.2))

-- every statement has a mark,
pub mark_lt : (n : ℕ) → Truth n ⊎ Saying n → n < all_marks
mark_lt n (inl (c, h, e)) = omega (arith, number_lt c h)
mark_lt n (inr (s, c, l, h, e)) = omega (arith, number_lt c h)

-- and no mark says two: a truth or a saying, of one conclusion and one principal.
pub mark_one : (n : ℕ) → Truth n → Saying n → ⊥
mark_one n (c, h, e) (s, d, l, k, f) = omega (arith, number_lt c h)

pub truth_same : (n : ℕ) (x y : Truth n) → x.0 ≡ y.0
truth_same n (c, h, e) (d, k, f) = number_same c d h k (omega arith)

pub saying_same : (n : ℕ) (x y : Saying n) → (x.0 ≡ y.0) × (x.1 ≡ y.1)
saying_same n (s, c, l, h, e) (t, d, m, k, f) =
    let i = number_lt c h in
    let j = number_lt d k in
    (omega arith, number_same c d h k (omega arith))
