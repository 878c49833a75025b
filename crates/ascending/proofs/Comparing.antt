-- Comparing numbers, one after the other and packed into one; and words, by key and then by inner grant.
use Prim.Native.Nat.{ℕ, zero, suc, ◌+◌, ◌*◌, ◌/◌, ◌%◌, ◌<◌, compare, Ordering}
use mathlib.Core.Path.{◌≡◌, refl, ap, ◌∙◌}
use native.Mathlib.Omega.{arith}
use native.Mathlib.Nat.{div-add-mod, mod-lt}
use native.Mathlib.Numerals.{add-one}
use Rattle.canon.specs.Canon.{and_then}
use Rattle.canon.proofs.Order.{lt_eq, flip, compare_refl, compare_eq, compare_lt, lt_compare, compare_flip}
use Rattle.ascending.specs.Inner.Words.{by_word}

pub gt_compare : (a b : ℕ) → b < a → compare a b ≡ Ordering.gt
gt_compare a b h = compare_flip b a ∙ ap flip (lt_compare b a h)

compare_gt : (a b : ℕ) → compare a b ≡ Ordering.gt → b < a
compare_gt a b h = compare_lt b a (compare_flip a b ∙ ap flip h)

-- Numbers that stand as a and b do, and where these are the same as x and y do.
pub packed : (A B a b x y : ℕ) → (a < b → A < B) → (b < a → B < A) → (a ≡ b → x < y → A < B) → (a ≡ b → x ≡ y → A ≡ B) → (a ≡ b → y < x → B < A)
    → compare A B ≡ and_then (compare a b) (compare x y)
packed A B a b x y p q r s t = go (compare a b) refl
  where
    low : a ≡ b → (o : Ordering) → compare x y ≡ o → compare A B ≡ o
    low e Ordering.lt h = lt_compare A B (r e (compare_lt x y h))
    low e Ordering.eq h = rw (s e (compare_eq x y h)) (compare_refl B)
    low e Ordering.gt h = gt_compare A B (t e (compare_gt x y h))

    go : (o : Ordering) → compare a b ≡ o → compare A B ≡ and_then o (compare x y)
    go Ordering.lt h = lt_compare A B (p (compare_lt a b h))
    go Ordering.eq h = low (compare_eq a b h) (compare x y) refl
    go Ordering.gt h = gt_compare A B (q (compare_gt a b h))

-- The first that decides.

pub skip : (o p : Ordering) → o ≡ Ordering.eq → and_then o p ≡ p
skip o p e = ap (λ (q : Ordering). and_then q p) e

pub decided : (o p : Ordering) → (o ≡ Ordering.eq → ⊥) → and_then o p ≡ o
decided Ordering.lt p n = refl
decided Ordering.eq p n = absurd (n refl)
decided Ordering.gt p n = refl

pub both_eq : (o p : Ordering) → and_then o p ≡ Ordering.eq → (o ≡ Ordering.eq) × (p ≡ Ordering.eq)
both_eq Ordering.lt p e = absurd (lt_eq e)
both_eq Ordering.eq p e = (refl, e)
both_eq Ordering.gt p e = absurd (lt_eq (ap flip e))

-- The parts of a word.

pub word_key : (w k i : ℕ) → w ≡ 256 * k + i → i < 256 → w / 256 ≡ k
word_key w k i e l = let d = div-add-mod w 256 in let m : w % 256 < 256 = mod-lt w (omega arith) in omega arith

pub word_inner : (w k i : ℕ) → w ≡ 256 * k + i → i < 256 → w % 256 ≡ i
word_inner w k i e l = let d = div-add-mod w 256 in let m : w % 256 < 256 = mod-lt w (omega arith) in omega arith

-- How two words stand, by their parts; f says how two inner grants stand.

module _ (f : ℕ → ℕ → Ordering) where
  pub by_parts : (v w k l i j : ℕ) → v ≡ 256 * k + i → w ≡ 256 * l + j → i < 256 → j < 256 → by_word f v w ≡ and_then (compare k l) (f i j)
  by_parts v w k l i j d e p q = rw (word_key v k i d p, word_key w l j e q, word_inner v k i d p, word_inner w l j e q)

  pub key_below : (v w : ℕ) → v / 256 < w / 256 → by_word f v w ≡ Ordering.lt
  key_below v w l = ap (λ (o : Ordering). and_then o (f (v % 256) (w % 256))) (lt_compare (v / 256) (w / 256) l)

-- An order of numbers counted from 1, with 0 for none.
unfoldable pub counted : (ℕ → ℕ → Ordering) → ℕ → ℕ → Ordering
counted f zero j = Ordering.eq
counted f (suc i) zero = Ordering.eq
counted f (suc i) (suc j) = f i j

module _ (f : ℕ → ℕ → Ordering) where
  pub counted_at : (i j : ℕ) → counted f (i + 1) (j + 1) ≡ f i j
  unfolding counted
  counted_at i j = rw (add-one i, add-one j)

  pub counted_left : (j : ℕ) → counted f 0 j ≡ Ordering.eq
  unfolding counted
  counted_left j = refl

  pub counted_right : (i : ℕ) → counted f i 0 ≡ Ordering.eq
  unfolding counted
  counted_right zero = refl
  counted_right (suc i) = refl

  pub counted_same : ((i : ℕ) → f i i ≡ Ordering.eq) → (i : ℕ) → counted f i i ≡ Ordering.eq
  unfolding counted
  counted_same h zero = refl
  counted_same h (suc i) = h i
