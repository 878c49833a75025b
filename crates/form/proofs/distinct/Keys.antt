-- The keys of the rows that a loop has passed.
use Prim.Native.Nat.{ℕ, ◌<◌}
use mathlib.Core.List.{List}
use mathlib.Core.Path.{◌≡◌}
use lib.ListN.{get_or}
use Rattle.sorts.specs.declared.Row.{Row}
use Rattle.sorts.specs.Blank.{no_row}
use Rattle.form.specs.Inner.Keys.{row_key}

-- the first n keys are those of the first n rows
abbrev pub Keyed : List ℕ → List Row → ℕ → Type 0
Keyed keys rows n = (j : ℕ) → j < n → get_or keys j 0 ≡ row_key (get_or rows j no_row)
