-- What the code of writing has at hand, told as the model tells it.
use Rattle.std.specs.Prelude.{ℕ, zero, suc, ◌+◌, ◌≤◌, List, sum, take}
use Rattle.sorts.specs.Numbers.{conditions}
use Rattle.canonwrite.specs.declared.Place.{Place}
use Rattle.canonwrite.specs.declared.Segments.{Segments}
use Rattle.canonwrite.specs.Buffer.{Spot, Kept}

abbrev pub spot_of : List ℕ → Place → Spot
spot_of out p = record { out = out; at = p.at; to = p.to }

abbrev pub kept_of : List ℕ → Segments → Kept
kept_of out k = record { out = out; at = k.at; to = k.to; lens = take k.count k.lens }

-- the most bytes of k conditions and a conclusion, whose inner grants have at most m
unfoldable pub room : ℕ → ℕ → ℕ
room zero m = 3 + m
room (suc k) m = 4 + m + room k m

-- the segments from b on end before the place up to which the buffer is written
pub record SegmentsFit (b : ℕ) (k : Segments) : Type 0 where
  pub count : k.count ≤ conditions
  pub sums : b + sum k.lens ≤ k.to
