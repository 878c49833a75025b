-- The same into a buffer, step by step as code does it. `out` is the buffer, `to` the place in it up to which it is written;
-- what stands behind is of no account.
use Rattle.std.specs.Prelude.{ℕ, zero, suc, ◌+◌, ◌-◌, min, cond, ◌&&◌, Option, Some, None, List, [], ◌∷◌, ◌++◌, length, get_or, set, take, drop, eqb}
use Rattle.sorts.specs.Numbers.{conditions}
use Rattle.canonwrite.specs.Segments.{part, turn, seat}

pub record Spot : Type 0 where
  pub out : List ℕ
  pub at : ℕ
  pub to : ℕ

-- the segments begin at one place and follow each other; `lens` has the length of each
pub record Kept : Type 0 where
  pub out : List ℕ
  pub at : ℕ
  pub to : ℕ
  pub lens : List ℕ

abbrev pub copy_three : List ℕ → ℕ → List ℕ → ℕ → List ℕ
copy_three s at out to = set (set (set out to (get_or s at 0)) (to + 1) (get_or s (at + 1) 0)) (to + 2) (get_or s (at + 2) 0)

unfoldable pub put_concl : (ℕ → List ℕ → ℕ → Spot) → List ℕ → ℕ → List ℕ → ℕ → Spot
put_concl inner s at out to =
    cond (eqb (get_or s at 0) 1 && eqb (get_or s (at + 2) 0) 0) (inner (at + 3) (copy_three s at out to) (to + 3))
    (record { out = copy_three s at out to; at = at + 3; to = to + 3 })

-- A segment was written behind others, whose end was `to`: "repeats are dropped", or it is turned into its place.
abbrev pub seated : ℕ → List ℕ → Spot → Option (ℕ × ℕ) → Kept
seated to lens one None = record { out = one.out; at = one.at; to = to; lens = lens }
seated to lens one (Some (k, p)) = record { out = turn one.out p to one.to; at = one.at; to = one.to; lens = take k lens ++ ((one.to - to) ∷ drop k lens) }

unfoldable pub put_in : ℕ → ℕ → List ℕ → Spot → Kept
put_in b to lens one = seated to lens one (seat (part to one.to one.out) one.out 0 b lens)

unfoldable pub put_conds : (ℕ → List ℕ → ℕ → Spot) → List ℕ → ℕ → ℕ → Kept → Kept
put_conds inner s b zero was = was
put_conds inner s b (suc k) was =
    put_conds inner s b k (put_in b was.to was.lens (put_concl inner s (was.at + 1) (set was.out was.to (get_or s was.at 0)) (was.to + 1)))

unfoldable pub put_with : (ℕ → List ℕ → ℕ → Spot) → List ℕ → ℕ → List ℕ → ℕ → Spot
put_with inner s at out to =
    let cs = put_conds inner s (to + 3) (min (get_or s (at + 2) 0) conditions) (record { out = copy_three s at out to; at = at + 3; to = to + 3; lens = [] }) in
    put_concl inner s cs.at (set cs.out (to + 2) (length cs.lens)) cs.to

unfoldable pub put_grant : ℕ → List ℕ → ℕ → List ℕ → ℕ → Spot
put_grant zero s at out to = record { out = out; at = at; to = to }
put_grant (suc below) s at out to = put_with (put_grant below s) s at out to
