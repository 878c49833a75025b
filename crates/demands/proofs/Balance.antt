-- The counts of two lists of marks.
use Prim.Native.Nat.{ℕ, zero, suc, ◌+◌, ◌-◌, ◌≤◌, ◌<◌, min}
use mathlib.Core.Path.{◌≡◌, refl, sym, ap, ◌∙◌}
use mathlib.Core.Bool.{cond}
use mathlib.Core.List.{List, [], ◌∷◌, ◌++◌}
use native.Mathlib.Omega.{arith}
use lib.ListN.{length, get_or, take, drop, replicate, length-take, length-drop, take-append-drop, get_or-eq_default}
use lib.Seq.{get_or-take, get_or-drop}
use native.Mathlib.Decide.{dec_lt}
use native.Mathlib.Nat.{min-le_left}
use lib.Dec.{eqb}
use Rattle.sorts.specs.Numbers.{conclusions}
use Rattle.rules.specs.Standing.{In, Above, Bits}
use Rattle.marks.specs.Gains.{risen, gains}
use Rattle.marks.specs.Counts.{Statements, truths, sayings, ones, marks_of}

-- a mark that is 0 or 1 before and after
one_balance : (a b : ℕ) → a ≤ 1 → b ≤ 1 → risen a b + cond (eqb a 1) 1 0 ≡ cond (eqb b 1) 1 0 + risen b a
one_balance zero zero p q = refl
one_balance zero (suc zero) p q = refl
one_balance zero (suc (suc b)) p q = absurd (omega arith)
one_balance (suc zero) zero p q = refl
one_balance (suc zero) (suc zero) p q = refl
one_balance (suc zero) (suc (suc b)) p q = absurd (omega arith)
one_balance (suc (suc a)) b p q = absurd (omega arith)

-- what was gained and stood before is what stands now and was lost
pub balance : (m n : List ℕ) → length m ≡ length n → Bits m → Bits n → gains m n + ones m ≡ ones n + gains n m
unfolding gains ones
balance [] [] l p q = refl
balance [] (b ∷ n) l p q = absurd (omega arith)
balance (a ∷ m) [] l p q = absurd (omega arith)
balance (a ∷ m) (b ∷ n) l p q = omega (arith, one_balance a b (p 0) (q 0), balance m n (omega arith) (λ i. p (suc i)) (λ i. q (suc i)))

none_risen : (a b : ℕ) → a ≤ 1 → b ≤ 1 → (b ≡ 1 → a ≡ 1) → risen a b ≡ 0
none_risen zero zero p q f = refl
none_risen zero (suc zero) p q f = let e = f refl in absurd (omega arith)
none_risen zero (suc (suc b)) p q f = absurd (omega arith)
none_risen (suc zero) zero p q f = refl
none_risen (suc zero) (suc zero) p q f = refl
none_risen (suc zero) (suc (suc b)) p q f = absurd (omega arith)
none_risen (suc (suc a)) b p q f = absurd (omega arith)

-- nothing is gained where all that stands now stood before
pub none_gained : (m n : List ℕ) → Bits m → Bits n → Above n (In m) → gains m n ≡ 0
unfolding gains
none_gained [] n p q f = refl
none_gained (a ∷ m) [] p q f = refl
none_gained (a ∷ m) (b ∷ n) p q f = omega (arith, none_risen a b (p 0) (q 0) (f 0), none_gained m n (λ i. p (suc i)) (λ i. q (suc i)) (λ i. f (suc i)))

-- marks of which none is 1
pub ones_zero : (m : List ℕ) → Bits m → ((i : ℕ) → In m i → ⊥) → ones m ≡ 0
unfolding ones
ones_zero [] b f = refl
ones_zero (zero ∷ m) b f = omega (arith, ones_zero m (λ i. b (suc i)) (λ i. f (suc i)))
ones_zero (suc zero ∷ m) b f = absurd (f 0 refl)
ones_zero (suc (suc a) ∷ m) b f = absurd (omega (arith, b 0))

pub ones_none : (k : ℕ) → ones (replicate k 0) ≡ 0
unfolding ones
ones_none zero = refl
ones_none (suc k) = omega (arith, ones_none k)

-- the marks of one kind

part_bits : (n : ℕ) (m : List ℕ) → Bits m → Bits (take n m)
part_bits n m b i = go (dec_lt i n)
  where
    go : Dec (i < n) → get_or (take n m) i 0 ≤ 1
    go (yes l) = let e = get_or-take n m i 0 l in let h = b i in omega arith
    go (no l) = let e = get_or-eq_default (take n m) 0 {n = i} (let k = length-take n m in let h = min-le_left n (length m) in omega arith) in omega arith

pub kind_bits : (k : Statements) (m : List ℕ) → Bits m → Bits (marks_of k m)
kind_bits truths m b = part_bits conclusions m b
kind_bits sayings m b = λ i. let e = get_or-drop conclusions m i 0 in let h = b (conclusions + i) in omega arith

pub kind_length : (k : Statements) (m n : List ℕ) → length m ≡ length n → length (marks_of k m) ≡ length (marks_of k n)
kind_length truths m n l = length-take conclusions m ∙ ap (min conclusions) l ∙ sym (length-take conclusions n)
kind_length sayings m n l = length-drop conclusions m ∙ ap (λ (x : ℕ). x - conclusions) l ∙ sym (length-drop conclusions n)

-- what is marked in the one is marked in the other, of each kind
pub kind_above : (k : Statements) (m n : List ℕ) → Above n (In m) → Above (marks_of k n) (In (marks_of k m))
kind_above truths m n f i h = go (dec_lt i conclusions)
  where
    go : Dec (i < conclusions) → get_or (take conclusions m) i 0 ≡ 1
    go (yes l) = get_or-take conclusions m i 0 l ∙ f i (sym (get_or-take conclusions n i 0 l) ∙ h)
    go (no l) =
        let e = get_or-eq_default (take conclusions n) 0 {n = i} (let k = length-take conclusions n in let z = min-le_left conclusions (length n) in omega arith) in
        absurd (omega arith)
kind_above sayings m n f i h = get_or-drop conclusions m i 0 ∙ f (conclusions + i) (sym (get_or-drop conclusions n i 0) ∙ h)

-- truths and sayings are all the marks
ones_join : (l m : List ℕ) → ones (l ++ m) ≡ ones l + ones m
unfolding ones
ones_join [] m = omega arith
ones_join (a ∷ l) m = let e = ones_join l m in omega arith

pub ones_kinds : (m : List ℕ) → ones (marks_of truths m) + ones (marks_of sayings m) ≡ ones m
ones_kinds m = sym (ones_join (take conclusions m) (drop conclusions m)) ∙ ap ones (take-append-drop conclusions m)
