use Prim.Native.Nat.{ℕ, ◌<◌}
use mathlib.Core.Path.{◌≡◌}
use lib.ListN.{length, get_or}
use Rattle.sorts.specs.Blank.{no_row}
use Rattle.rows.specs.Form.{TableForm}
use Rattle.canon.specs.RowOrder.{Ascends}
use Rattle.ascending.proofs.Places.{Worded}
use Rattle.ascending.proofs.Rows.{stands}
use Rattle.ascending.proofs.conditions_ascend.Given as goal

abbrev pub invariant-loop-i : goal.invariant-loop-i
invariant-loop-i l = (length l.words ≡ 64) × Worded l.words l.t.rows l.i × ((form : TableForm l.t) → (k : ℕ) → k < l.i → Ascends (stands l.t form) (get_or l.t.rows k no_row))
