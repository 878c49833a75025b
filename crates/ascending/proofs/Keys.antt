-- The words of conclusions and conditions in form stand as the order of rows says.
use Prim.Native.Nat.{ℕ, ◌+◌, ◌*◌, ◌<◌, ◌≤◌, compare, Ordering}
use mathlib.Core.Path.{◌≡◌, refl, sym, ap, ap₂, ◌∙◌}
use mathlib.Core.Bool.{Bool, true, false, cond}
use mathlib.Core.Logic.{◌⊎◌, inl, inr}
use native.Mathlib.Omega.{arith}
use lib.Dec.{eqb}
use borrow.Author.Tests.{eqb-false}
use Rattle.sorts.specs.Numbers.{grants, item_var}
use Rattle.sorts.specs.declared.Prin.{Prin}
use Rattle.sorts.specs.declared.Pack.{Pack}
use Rattle.sorts.specs.declared.Res.{Res}
use Rattle.sorts.specs.declared.Res.TheVariants.{Issue, Run, Export}
use Rattle.sorts.specs.declared.Concl.{Concl}
use Rattle.sorts.specs.declared.Concl.TheVariants.{Property, Perm}
use Rattle.sorts.specs.declared.Cond.{Cond}
use Rattle.sorts.specs.RowForm.{PrinForm, PackForm, ResForm, ConclForm, CondForm}
use Rattle.canon.specs.Canon.{and_then}
use Rattle.canon.specs.RowOrder.{kind_res, res_by, concl_by, cond_by}
use Rattle.canon.proofs.Order.{and_then_eq, and_then_assoc, compare_eq, lt_compare}
use Rattle.rows.specs.Words.{res_key, res_inner, concl_key, concl_inner, concl_word, cond_key, cond_word}
use Rattle.ascending.specs.Inner.Words.{by_word}
use Rattle.ascending.proofs.Comparing.{gt_compare, packed, both_eq, by_parts, counted, counted_at, counted_left, counted_right}

-- what stands in a byte

prin_byte : (v : ℕ) (p : Prin) → PrinForm v p → p.0 < 256
prin_byte v p (inl h) = omega arith
prin_byte v p (inr (inl h)) = omega arith
prin_byte v p (inr (inr h)) = omega arith

pack_byte : (s : ℕ) (n : Pack) → PackForm s n → n.0 < 256
pack_byte s n (inl h) = omega arith
pack_byte s n (inr h) = omega arith

variable_or_not : (g : ℕ) → cond (eqb g item_var) 1 0 ≤ 1
variable_or_not g = go (eqb g item_var)
  where
    go : (b : Bool) → cond b 1 0 ≤ 1
    go true = omega arith
    go false = omega arith

-- a right's key, between those of properties and the next speaker's
res_key_lem : (n s p : ℕ) (x : Res) → p < 256 → ResForm n s x → (65536 ≤ res_key p x) × (res_key p x < 262144)
unfolding res_key
res_key_lem n s p (Issue g) l a = let h = variable_or_not g.0 in (omega arith, omega arith)
res_key_lem n s p (Run k) l a = let h = pack_byte s k a in (omega arith, omega arith)
res_key_lem n s p (Export k) l a = let h = pack_byte s k a in (omega arith, omega arith)

concl_key_lem : (n v s : ℕ) (e : Concl) → ConclForm n v s e → concl_key e < 262144
unfolding concl_key
concl_key_lem n v s (Property k p) a = let h = prin_byte v p a.1 in omega arith
concl_key_lem n v s (Perm p x) a = (res_key_lem n s p.0 x (prin_byte v p a.0) a.1).1

-- the inner grant, of a lower number
pub concl_inner_lem : (n v s : ℕ) (e : Concl) → ConclForm n v s e → concl_inner e ≤ n
unfolding concl_inner res_inner
concl_inner_lem n v s (Property k p) a = omega arith
concl_inner_lem n v s (Perm p (Issue g)) a = go (eqb g.0 item_var) refl a.1
  where
    go : (b : Bool) → eqb g.0 item_var ≡ b → (g.0 < n) ⊎ ((g.0 ≡ item_var) × (s ≡ 1)) → cond b 0 (g.0 + 1) ≤ n
    go true e h = omega arith
    go false e (inl h) = omega arith
    go false e (inr h) = absurd (eqb-false g.0 item_var e h.0)
concl_inner_lem n v s (Perm p (Run k)) a = omega arith
concl_inner_lem n v s (Perm p (Export k)) a = omega arith

module _ (f : ℕ → ℕ → Ordering) where
  -- where the keys decide, what comes after them does not
  keys_below : (k l : ℕ) (o : Ordering) → k < l → Ordering.lt ≡ and_then (compare k l) o
  keys_below k l o h = ap (λ (q : Ordering). and_then q o) (sym (lt_compare k l h))

  keys_above : (k l : ℕ) (o : Ordering) → l < k → Ordering.gt ≡ and_then (compare k l) o
  keys_above k l o h = ap (λ (q : Ordering). and_then q o) (sym (gt_compare k l h))

  -- and where nothing comes after them, the keys decide
  keys_all : (k l : ℕ) (o q : Ordering) → compare k l ≡ o → q ≡ Ordering.eq → o ≡ and_then (compare k l) q
  keys_all k l o q h e = sym h ∙ sym (and_then_eq (compare k l)) ∙ ap (and_then (compare k l)) (sym e)

  pair : (c p q x y : ℕ) → x < 256 → y < 256 → compare (c + (256 * p + x)) (c + (256 * q + y)) ≡ and_then (compare p q) (compare x y)
  pair c p q x y l m = packed (c + (256 * p + x)) (c + (256 * q + y)) p q x y (λ h. omega arith) (λ h. omega arith) (λ e h. omega arith) (λ e h. omega arith) (λ e h. omega arith)

  pair_low : (p q x y : ℕ) → x < 256 → y < 256 → compare (256 * p + x) (256 * q + y) ≡ and_then (compare p q) (compare x y)
  pair_low p q x y l m = packed (256 * p + x) (256 * q + y) p q x y (λ h. omega arith) (λ h. omega arith) (λ e h. omega arith) (λ e h. omega arith) (λ e h. omega arith)

  res_by_lem : (m n s t p q : ℕ) (x y : Res) → p < 256 → q < 256 → ResForm m s x → ResForm n t y
      → and_then (compare (kind_res x) (kind_res y)) (and_then (compare p q) (res_by f x y)) ≡ and_then (compare (res_key p x) (res_key q y)) (counted f (res_inner x) (res_inner y))
  unfolding res_key res_inner
  res_by_lem m n s t p q (Issue g) (Issue h) k l a b = go (eqb g.0 item_var) (eqb h.0 item_var)
    where
      go : (u w : Bool) → and_then (compare p q) (cond u (cond w Ordering.eq Ordering.gt) (cond w Ordering.lt (f g.0 h.0)))
          ≡ and_then (compare (65536 + (256 * p + cond u 1 0)) (65536 + (256 * q + cond w 1 0))) (counted f (cond u 0 (g.0 + 1)) (cond w 0 (h.0 + 1)))
      go true true = keys_all _ _ _ _ (pair 65536 p q 1 1 (omega arith) (omega arith)) (counted_left f 0)
      go true false = keys_all _ _ _ _ (pair 65536 p q 1 0 (omega arith) (omega arith)) (counted_left f (h.0 + 1))
      go false true = keys_all _ _ _ _ (pair 65536 p q 0 1 (omega arith) (omega arith)) (counted_right f (g.0 + 1))
      go false false = ap₂ and_then (sym (pair 65536 p q 0 0 (omega arith) (omega arith) ∙ and_then_eq (compare p q))) (sym (counted_at f g.0 h.0))
  res_by_lem m n s t p q (Issue g) (Run j) k l a b = let u = variable_or_not g.0 in keys_below (res_key p (Issue g)) (res_key q (Run j)) (counted f (res_inner (Issue g)) (res_inner (Run j))) (omega arith)
  res_by_lem m n s t p q (Issue g) (Export j) k l a b = let u = variable_or_not g.0 in keys_below (res_key p (Issue g)) (res_key q (Export j)) (counted f (res_inner (Issue g)) (res_inner (Export j))) (omega arith)
  res_by_lem m n s t p q (Run i) (Issue h) k l a b = let u = variable_or_not h.0 in keys_above (res_key p (Run i)) (res_key q (Issue h)) (counted f (res_inner (Run i)) (res_inner (Issue h))) (omega arith)
  res_by_lem m n s t p q (Run i) (Run j) k l a b = keys_all _ _ _ _ (pair 131072 p q i.0 j.0 (pack_byte s i a) (pack_byte t j b)) (counted_left f 0)
  res_by_lem m n s t p q (Run i) (Export j) k l a b = let u = pack_byte s i a in keys_below (res_key p (Run i)) (res_key q (Export j)) (counted f (res_inner (Run i)) (res_inner (Export j))) (omega arith)
  res_by_lem m n s t p q (Export i) (Issue h) k l a b = let u = variable_or_not h.0 in keys_above (res_key p (Export i)) (res_key q (Issue h)) (counted f (res_inner (Export i)) (res_inner (Issue h))) (omega arith)
  res_by_lem m n s t p q (Export i) (Run j) k l a b = let u = pack_byte t j b in keys_above (res_key p (Export i)) (res_key q (Run j)) (counted f (res_inner (Export i)) (res_inner (Run j))) (omega arith)
  res_by_lem m n s t p q (Export i) (Export j) k l a b = keys_all _ _ _ _ (pair 196608 p q i.0 j.0 (pack_byte s i a) (pack_byte t j b)) (counted_left f 0)

  concl_by_lem : (m n v s w t : ℕ) (d e : Concl) → ConclForm m v s d → ConclForm n w t e → concl_by f d e ≡ and_then (compare (concl_key d) (concl_key e)) (counted f (concl_inner d) (concl_inner e))
  unfolding concl_key concl_inner
  concl_by_lem m n v s w t (Property k p) (Property j q) a b = keys_all _ _ _ _ (pair_low k j p.0 q.0 (prin_byte v p a.1) (prin_byte w q b.1)) (counted_left f 0)
  concl_by_lem m n v s w t (Property k p) (Perm q y) a b = let h = prin_byte v p a.1 in keys_below (concl_key (Property k p)) (concl_key (Perm q y)) (counted f (concl_inner (Property k p)) (concl_inner (Perm q y))) (omega (arith, (res_key_lem n t q.0 y (prin_byte w q b.0) b.1).0))
  concl_by_lem m n v s w t (Perm p x) (Property j q) a b = let h = prin_byte w q b.1 in keys_above (concl_key (Perm p x)) (concl_key (Property j q)) (counted f (concl_inner (Perm p x)) (concl_inner (Property j q))) (omega (arith, (res_key_lem m s p.0 x (prin_byte v p a.0) a.1).0))
  concl_by_lem m n v s w t (Perm p x) (Perm q y) a b = res_by_lem m n s t p.0 q.0 x y (prin_byte v p a.0) (prin_byte w q b.0) a.1 b.1

  -- conclusions with the same key have the same inner grant where f cannot tell theirs apart
  concl_same : (m n v s w t : ℕ) (d e : Concl) → ((i j : ℕ) → i < m → j < n → f i j ≡ Ordering.eq → i ≡ j) → ConclForm m v s d → ConclForm n w t e
      → concl_key d ≡ concl_key e → counted f (concl_inner d) (concl_inner e) ≡ Ordering.eq → concl_inner d ≡ concl_inner e
  unfolding concl_key concl_inner res_key res_inner
  concl_same m n v s w t (Property k p) (Property j q) apart a b same e = refl
  concl_same m n v s w t (Property k p) (Perm q y) apart a b same e = let h = prin_byte v p a.1 in let u = (res_key_lem n t q.0 y (prin_byte w q b.0) b.1).0 in absurd (omega arith)
  concl_same m n v s w t (Perm p x) (Property j q) apart a b same e = let h = prin_byte w q b.1 in let u = (res_key_lem m s p.0 x (prin_byte v p a.0) a.1).0 in absurd (omega arith)
  concl_same m n v s w t (Perm p (Issue g)) (Perm q (Issue h)) apart a b same e = go (eqb g.0 item_var) refl (eqb h.0 item_var) refl a.1 b.1 same e
    where
      go : (u : Bool) → eqb g.0 item_var ≡ u → (z : Bool) → eqb h.0 item_var ≡ z → (g.0 < m) ⊎ ((g.0 ≡ item_var) × (s ≡ 1)) → (h.0 < n) ⊎ ((h.0 ≡ item_var) × (t ≡ 1))
          → 65536 + (256 * p.0 + cond u 1 0) ≡ 65536 + (256 * q.0 + cond z 1 0) → counted f (cond u 0 (g.0 + 1)) (cond z 0 (h.0 + 1)) ≡ Ordering.eq → cond u 0 (g.0 + 1) ≡ cond z 0 (h.0 + 1)
      go true i true j c d k r = refl
      go true i false j c d k r = absurd (omega arith)
      go false i true j c d k r = absurd (omega arith)
      go false i false j (inl c) (inl d) k r = ap (λ (x : ℕ). x + 1) (apart g.0 h.0 c d (sym (counted_at f g.0 h.0) ∙ r))
      go false i false j (inr c) d k r = absurd (eqb-false g.0 item_var i c.0)
      go false i false j (inl c) (inr d) k r = absurd (eqb-false h.0 item_var j d.0)
  concl_same m n v s w t (Perm p (Issue g)) (Perm q (Run j)) apart a b same e = let x = prin_byte v p a.0 in let u = variable_or_not g.0 in absurd (omega arith)
  concl_same m n v s w t (Perm p (Issue g)) (Perm q (Export j)) apart a b same e = let x = prin_byte v p a.0 in let u = variable_or_not g.0 in absurd (omega arith)
  concl_same m n v s w t (Perm p (Run i)) (Perm q (Issue h)) apart a b same e = let x = prin_byte w q b.0 in let u = variable_or_not h.0 in absurd (omega arith)
  concl_same m n v s w t (Perm p (Run i)) (Perm q (Run j)) apart a b same e = refl
  concl_same m n v s w t (Perm p (Run i)) (Perm q (Export j)) apart a b same e = refl
  concl_same m n v s w t (Perm p (Export i)) (Perm q (Issue h)) apart a b same e = let x = prin_byte w q b.0 in let u = variable_or_not h.0 in absurd (omega arith)
  concl_same m n v s w t (Perm p (Export i)) (Perm q (Run j)) apart a b same e = refl
  concl_same m n v s w t (Perm p (Export i)) (Perm q (Export j)) apart a b same e = refl

  module _ (m n v s w t : ℕ) (small : m ≤ grants) (little : n ≤ grants) where
    -- Conclusions stand as their words do,
    pub concl_words : (d e : Concl) → ConclForm m v s d → ConclForm n w t e → concl_by f d e ≡ by_word (counted f) (concl_word d) (concl_word e)
    unfolding concl_word
    concl_words d e a b =
        let i = concl_inner_lem m v s d a in
        let j = concl_inner_lem n w t e b in
        concl_by_lem m n v s w t d e a b ∙ sym (by_parts (counted f) (concl_word d) (concl_word e) (concl_key d) (concl_key e) (concl_inner d) (concl_inner e) refl refl (omega arith) (omega arith))

    cond_by_lem : (a b : Cond) → CondForm m v s a → CondForm n w t b → cond_by f a b ≡ and_then (compare (cond_key a) (cond_key b)) (counted f (concl_inner a.what) (concl_inner b.what))
    unfolding cond_key
    cond_by_lem a b g h =
        let k = concl_key_lem m v s a.what g.1 in
        let l = concl_key_lem n w t b.what h.1 in
        ap (and_then (compare a.who.0 b.who.0)) (concl_by_lem m n v s w t a.what b.what g.1 h.1)
        ∙ sym (and_then_assoc (compare a.who.0 b.who.0) (compare (concl_key a.what) (concl_key b.what)) (counted f (concl_inner a.what) (concl_inner b.what)))
        ∙ ap (λ (o : Ordering). and_then o (counted f (concl_inner a.what) (concl_inner b.what)))
        (sym (packed (cond_key a) (cond_key b) a.who.0 b.who.0 (concl_key a.what) (concl_key b.what) (λ x. omega arith) (λ x. omega arith) (λ e x. omega arith) (λ e x. omega arith) (λ e x. omega arith)))

    -- and so do conditions.
    pub cond_words : (a b : Cond) → CondForm m v s a → CondForm n w t b → cond_by f a b ≡ by_word (counted f) (cond_word a) (cond_word b)
    unfolding cond_word
    cond_words a b g h =
        let i = concl_inner_lem m v s a.what g.1 in
        let j = concl_inner_lem n w t b.what h.1 in
        cond_by_lem a b g h ∙ sym (by_parts (counted f) (cond_word a) (cond_word b) (cond_key a) (cond_key b) (concl_inner a.what) (concl_inner b.what) refl refl (omega arith) (omega arith))

    -- Words that stand as the same are the same.

    module _ (apart : (i j : ℕ) → i < m → j < n → f i j ≡ Ordering.eq → i ≡ j) where
      pub cond_apart : (a b : Cond) → CondForm m v s a → CondForm n w t b → by_word (counted f) (cond_word a) (cond_word b) ≡ Ordering.eq → cond_word a ≡ cond_word b
      unfolding cond_word cond_key
      cond_apart a b g h q =
          let r = both_eq (compare (cond_key a) (cond_key b)) (counted f (concl_inner a.what) (concl_inner b.what)) (sym (cond_by_lem a b g h) ∙ cond_words a b g h ∙ q) in
          let k = compare_eq (cond_key a) (cond_key b) r.0 in
          let x = concl_key_lem m v s a.what g.1 in
          let y = concl_key_lem n w t b.what h.1 in
          ap₂ (λ (x y : ℕ). 256 * x + y) k (concl_same m n v s w t a.what b.what apart g.1 h.1 (omega arith) r.1)
