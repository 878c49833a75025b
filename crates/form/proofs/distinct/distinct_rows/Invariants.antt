use Prim.Native.Nat.{ℕ, ◌<◌}
use mathlib.Core.Path.{◌≡◌}
use lib.ListN.{length, get_or}
use Rattle.sorts.specs.Numbers.{grants}
use Rattle.sorts.specs.Blank.{no_row}
use Rattle.form.proofs.distinct.Keys.{Keyed}
use Rattle.form.proofs.distinct.distinct_rows.Given as goal

abbrev pub invariant-loop-i : goal.invariant-loop-i
invariant-loop-i l = (length l.keys ≡ grants) × Keyed l.keys l.t.rows l.i × ((a : ℕ) → a < l.i → (b : ℕ) → b < a → get_or l.t.rows b no_row ≡ get_or l.t.rows a no_row → ⊥)
