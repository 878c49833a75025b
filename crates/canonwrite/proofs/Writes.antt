-- A segment left out or turned into its place, as the code has it.
use Prim.Native.Nat.{ℕ, ◌+◌, ◌-◌, ◌≤◌, ◌<◌}
use mathlib.Core.List.{List, ◌∷◌, ◌++◌}
use mathlib.Core.Path.{◌≡◌, sym, ◌∙◌, ap}
use native.Mathlib.Omega.{arith}
use lib.ListN.{length, take, drop}
use lib.Seq.{length-take-le}
use Rattle.std.specs.Prelude.{Some, None, sum}
use Rattle.canonwrite.specs.declared.Place.{Place}
use Rattle.canonwrite.specs.declared.Segments.{Segments}
use Rattle.canonwrite.specs.Segments.{part, turn, seat}
use Rattle.canonwrite.specs.Buffer.{Kept, seated, put_in}
use Rattle.canonwrite.specs.Inner.Writing.{spot_of, kept_of, SegmentsFit}
use Rattle.std.proofs.lemmas.List.Sums.{sum_by-take-le}
use Rattle.canonwrite.proofs.sorting.Seats.{seat_fits, sum_more, length_put}

kept_path : (o o' : List ℕ) (at to : ℕ) (l l' : List ℕ) → o ≡ o' → l ≡ l' → ◌≡◌ {A = Kept} (record { out = o; at = at; to = to; lens = l }) (record { out = o'; at = at; to = to; lens = l' })
kept_path o o' at to l l' e f = λ i. record { out = e i; at = at; to = to; lens = f i }

module _ (b : ℕ) (was : Segments) (one : Place) (out : List ℕ) where
  -- the segment is there already
  pub left_there : seat (part was.to one.to out) out 0 b (take was.count was.lens) ≡ None
      → kept_of out (record { at = one.at; to = was.to; count = was.count; lens = was.lens }) ≡ put_in b was.to (take was.count was.lens) (spot_of out one)
  unfolding put_in
  left_there e = sym (ap (seated was.to (take was.count was.lens) (spot_of out one)) e)

  module _ (fit : SegmentsFit b was) (long : length was.lens ≡ 4) (few : was.count < 4) (k p : ℕ) (e : seat (part was.to one.to out) out 0 b (take was.count was.lens) ≡ Some (k, p)) where
    -- its number and its place lie among the segments
    pub number_fits : k ≤ was.count
    number_fits = let f = seat_fits (part was.to one.to out) out (take was.count was.lens) 0 b k p e in omega (arith, length-take-le was.count was.lens (omega arith))

    pub place_fits : p ≤ was.to
    place_fits = let f = seat_fits (part was.to one.to out) out (take was.count was.lens) 0 b k p e in omega (arith, sum_by-take-le (λ x. x) was.lens was.count)

    module _ (out' more : List ℕ) (t : out' ≡ turn out p was.to one.to) (m : more ≡ take 4 (take k was.lens ++ ((one.to - was.to) ∷ drop k was.lens))) where
      -- it is turned into its place
      pub turned_there : kept_of out' (record { at = one.at; to = one.to; count = was.count + 1; lens = more }) ≡ put_in b was.to (take was.count was.lens) (spot_of out one)
      unfolding put_in
      turned_there =
          kept_path out' (turn out p was.to one.to) one.at one.to (take (was.count + 1) more) (take k (take was.count was.lens) ++ ((one.to - was.to) ∷ drop k (take was.count was.lens)))
          t (ap (take (was.count + 1)) m ∙ length_put k was.count (one.to - was.to) was.lens number_fits few)
          ∙ sym (ap (seated was.to (take was.count was.lens) (spot_of out one)) e)

      pub turned_fits : was.to ≤ one.to → SegmentsFit b (record { at = one.at; to = one.to; count = was.count + 1; lens = more })
      turned_fits h = record {
        count = omega arith;
        sums = omega (arith, fit.sums, ap sum m, sum_more k (one.to - was.to) was.lens);
      }
