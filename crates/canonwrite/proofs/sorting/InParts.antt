-- Bytes in order, as the library compares them; and a part of a buffer turned.
use Prim.Native.Nat.{ℕ, ◌+◌, ◌-◌, ◌≤◌, compare, Ordering}
use mathlib.Core.List.{List, [], ◌∷◌, ◌++◌, append_assoc}
use mathlib.Core.Path.{◌≡◌, refl, sym, ap, ap₂, ◌∙◌}
use native.Mathlib.Omega.{arith}
use lib.ListN.{take, drop}
use borrow.Rule.Slice.PartMut.{put_mid, Post-is}
use Rattle.std.proofs.lemmas.List.{drop-take, drop-drop}
use lib.Seq.{take-take}
use Rattle.canonwrite.specs.Segments.{part, turn}
use Rattle.std.specs.Ordering.{nat_cmp, ordering_then}
use Rattle.std.specs.Cmp.Lexicographic.{slice_cmp}
use Rattle.std.proofs.lemmas.Bool.Decides.{nat_tests}
use Rattle.canon.specs.Canon.{and_then, order}
use Rattle.canon.proofs.Order.{compare_lt, compare_eq, compare_flip, flip}
use Rattle.canonwrite.specs.Inner.Ranges.{ordering_of}

-- two numbers, as the library compares them
number_cmp : (a b : ℕ) (o : Ordering) → compare a b ≡ o → nat_cmp a b ≡ ordering_of o
number_cmp a b Ordering.lt e = let h = compare_lt a b e in grind (arith, nat_tests)
number_cmp a b Ordering.eq e = let h = compare_eq a b e in grind (arith, nat_tests)
number_cmp a b Ordering.gt e = let h = compare_lt b a (compare_flip a b ∙ ap flip e) in grind (arith, nat_tests)

pub order_cmp : (x y : List ℕ) → slice_cmp nat_cmp x y ≡ ordering_of (order x y)
unfolding order
order_cmp [] [] = refl
order_cmp [] (b ∷ y) = refl
order_cmp (a ∷ x) [] = refl
order_cmp (a ∷ x) (b ∷ y) = rw (number_cmp a b (compare a b) refl) (go (compare a b) (order_cmp x y))
  where
    go : (o : Ordering) → slice_cmp nat_cmp x y ≡ ordering_of (order x y) → ordering_then (ordering_of o) (slice_cmp nat_cmp x y) ≡ ordering_of (and_then o (order x y))
    go Ordering.lt e = refl
    go Ordering.eq e = e
    go Ordering.gt e = refl

-- A part, as the library cuts it out.
pub part_cut : (l : List ℕ) (a e : ℕ) → a ≤ e → take (e - a) (drop a l) ≡ part a e l
part_cut l a e h = let q : a + (e - a) ≡ e = omega arith in sym (drop-take a (e - a) l) ∙ ap (λ (n : ℕ). drop a (take n l)) q

-- A part whose two halves change places.
module _ (l : List ℕ) (a b e : ℕ) (h : a ≤ b) (k : b ≤ e) where
  second : drop (b - a) (part a e l) ≡ part b e l
  second = drop-drop (b - a) a (take e l) ∙ ap (λ (n : ℕ). drop n (take e l)) (omega arith)

  first : take (b - a) (part a e l) ≡ part a b l
  first = ap (take (b - a)) (sym (part_cut l a e (omega arith))) ∙ take-take (b - a) (e - a) (drop a l) (omega arith) ∙ part_cut l a b h

  pub turned : (r : List ℕ) → r ≡ drop (b - a) (take (e - a) (drop a l)) ++ take (b - a) (take (e - a) (drop a l)) → put_mid a (e - a) l r ≡ turn l a b e
  turned r q =
      let c = part_cut l a e (omega arith) in
      let s : r ≡ part b e l ++ part a b l = q ∙ ap₂ ◌++◌ (ap (drop (b - a)) c ∙ second) (ap (take (b - a)) c ∙ first) in
      ap (λ (x : List ℕ). take a l ++ x) (ap₂ ◌++◌ s (Post-is a e l (omega arith)) ∙ append_assoc (part b e l) (part a b l) (drop e l))

-- Two parts, as the library compares them.
pub parts_cmp : (l : List ℕ) (a e b n : ℕ) → a ≤ e → slice_cmp nat_cmp (take (e - a) (drop a l)) (take (b + n - b) (drop b l)) ≡ ordering_of (order (part a e l) (part b (b + n) l))
parts_cmp l a e b n h = ap₂ (slice_cmp nat_cmp) (part_cut l a e h) (part_cut l b (b + n) (omega arith)) ∙ order_cmp (part a e l) (part b (b + n) l)
