-- A segment's place among others, looked for from the first on; and a length put among lengths.
use Prim.Native.Nat.{ℕ, zero, suc, ◌+◌, ◌≤◌, ◌<◌, Ordering}
use mathlib.Core.List.{List, [], ◌∷◌, ◌++◌}
use mathlib.Core.Path.{◌≡◌, refl, ◌∙◌, ap}
use native.Mathlib.Omega.{arith}
use native.Mathlib.Numerals.{add-one}
use lib.ListN.{length, get_or, set, take, drop}
use lib.Seq.{drop-cons, take-take}
use lib.ListN as list
use Rattle.std.specs.declared.cmp.Ordering.TheVariants.{Less, Equal, Greater}
use Rattle.std.specs.Prelude.{Option, Some, None, sum}
use Rattle.std.proofs.lemmas.List.Sums.{sum_by-cons, sum_by-drop_more, sum_by-take-le, sum_by-insert}
use Rattle.canon.specs.Canon.{pick, order}
use Rattle.canonwrite.specs.Segments.{part, seat}
use Rattle.canonwrite.specs.Inner.Ranges.{ordering_of}

side_below : (o : Ordering) → ordering_of o ≡ Less → o ≡ Ordering.lt
side_below Ordering.lt e = refl
side_below Ordering.eq e = absurd (cc)
side_below Ordering.gt e = absurd (cc)

side_same : (o : Ordering) → ordering_of o ≡ Equal → o ≡ Ordering.eq
side_same Ordering.lt e = absurd (cc)
side_same Ordering.eq e = refl
side_same Ordering.gt e = absurd (cc)

side_above : (o : Ordering) → ordering_of o ≡ Greater → o ≡ Ordering.gt
side_above Ordering.lt e = absurd (cc)
side_above Ordering.eq e = absurd (cc)
side_above Ordering.gt e = refl

module _ (x out : List ℕ) (k at : ℕ) (l : List ℕ) (h : k < length l) where
  -- the next segment is looked at
  seat_step : seat x out k at (drop k l) ≡ pick (order x (part at (at + get_or l k 0) out)) (Some (k, at)) None (seat x out (k + 1) (at + get_or l k 0) (drop (k + 1) l))
  unfolding seat
  seat_step = rw (add-one k) (ap (seat x out k at) (drop-cons l k 0 h) ∙ ap (λ (m : ℕ). pick (order x (part at (at + get_or l k 0) out)) (Some (k, at)) None (seat x out m (at + get_or l k 0) (drop (suc k) l))) (add-one k))

  picked : (o : Ordering) → order x (part at (at + get_or l k 0) out) ≡ o
      → seat x out k at (drop k l) ≡ pick o (Some (k, at)) None (seat x out (k + 1) (at + get_or l k 0) (drop (k + 1) l))
  picked o e = seat_step ∙ ap (λ (p : Ordering). pick p (Some (k, at)) None (seat x out (k + 1) (at + get_or l k 0) (drop (k + 1) l))) e

  pub seat_below : ordering_of (order x (part at (at + get_or l k 0) out)) ≡ Less → seat x out k at (drop k l) ≡ Some (k, at)
  seat_below e = picked Ordering.lt (side_below (order x (part at (at + get_or l k 0) out)) e)

  pub seat_same : ordering_of (order x (part at (at + get_or l k 0) out)) ≡ Equal → seat x out k at (drop k l) ≡ None
  seat_same e = picked Ordering.eq (side_same (order x (part at (at + get_or l k 0) out)) e)

  pub seat_above : ordering_of (order x (part at (at + get_or l k 0) out)) ≡ Greater → seat x out k at (drop k l) ≡ seat x out (k + 1) (at + get_or l k 0) (drop (k + 1) l)
  seat_above e = picked Ordering.gt (side_above (order x (part at (at + get_or l k 0) out)) e)

-- none is left
pub seat_ended : (x out : List ℕ) (k at : ℕ) (l : List ℕ) → length l ≤ k → seat x out k at (drop k l) ≡ Some (k, at)
unfolding seat
seat_ended x out k at l h = ap (seat x out k at) (list.drop_of_length-le l {i = k} h)

-- the sum of lengths, the first apart
pub sum_step : (l : List ℕ) (k : ℕ) → k < length l → sum (drop k l) ≡ get_or l k 0 + sum (drop (k + 1) l)
sum_step l k h = sum_by-drop_more (λ x. x) l k 0 h

same_seat : {k b j p : ℕ} → ◌≡◌ {A = Option (ℕ × ℕ)} (Some (k, b)) (Some (j, p)) → (k ≡ j) × (b ≡ p)
same_seat {k = k} {b = b} {j = j} {p = p} e = let f : ◌≡◌ {A = ℕ × ℕ} (k, b) (j, p) = cc in (ap (λ (z : ℕ × ℕ). z.0) f, ap (λ (z : ℕ × ℕ). z.1) f)

-- what is found lies among the segments
pub seat_fits : (x out : List ℕ) (l : List ℕ) (k b j p : ℕ) → seat x out k b l ≡ Some (j, p) → (j ≤ k + length l) × (b ≤ p) × (p ≤ b + sum l)
unfolding seat
seat_fits x out [] k b j p e = let f = same_seat e in (omega arith, omega arith, omega arith)
seat_fits x out (n ∷ ns) k b j p e = rw (sum_by-cons (λ x. x) n ns) (go (order x (part b (b + n) out)) e (seat_fits x out ns (k + 1) (b + n) j p))
  where
    go : (o : Ordering) → pick o (Some (k, b)) None (seat x out (k + 1) (b + n) ns) ≡ Some (j, p) → (seat x out (k + 1) (b + n) ns ≡ Some (j, p) → (j ≤ k + 1 + length ns) × (b + n ≤ p) × (p ≤ b + n + sum ns))
        → (j ≤ k + suc (length ns)) × (b ≤ p) × (p ≤ b + (n + sum ns))
    go Ordering.lt e ih = let f = same_seat e in (omega arith, omega arith, omega arith)
    go Ordering.eq e ih = absurd (cc)
    go Ordering.gt e ih = let f = ih e in (omega arith, omega arith, omega arith)

-- a length put among lengths, of which the first c count
put_length : (k c n : ℕ) (l : List ℕ) → k ≤ c → take (suc c) (take k l ++ (n ∷ drop k l)) ≡ take k (take c l) ++ (n ∷ drop k (take c l))
put_length zero c n l h = refl
put_length (suc k) zero n l h = absurd (omega arith)
put_length (suc k) (suc c) n [] h = refl
put_length (suc k) (suc c) n (x ∷ l) h = ap (λ (m : List ℕ). x ∷ m) (put_length k c n l (omega arith))

pub length_put : (k c n : ℕ) (l : List ℕ) → k ≤ c → c < 4 → take (c + 1) (take 4 (take k l ++ (n ∷ drop k l))) ≡ take k (take c l) ++ (n ∷ drop k (take c l))
length_put k c n l h f = rw (add-one c) (take-take (suc c) 4 (take k l ++ (n ∷ drop k l)) (omega arith) ∙ put_length k c n l h)

pub sum_more : (k n : ℕ) (l : List ℕ) → sum (take 4 (take k l ++ (n ∷ drop k l))) ≤ n + sum l
sum_more k n l = omega (arith, sum_by-take-le (λ x. x) (take k l ++ (n ∷ drop k l)) 4, sum_by-insert (λ x. x) l k n)
