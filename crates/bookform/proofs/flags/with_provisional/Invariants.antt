use Prim.Native.Nat.{ℕ, ◌<◌}
use mathlib.Core.Path.{◌≡◌}
use lib.ListN.{length, get_or}
use Rattle.sorts.specs.Flags.{all_flags}
use Rattle.bookform.specs.Both.{both_at}
use Rattle.bookform.proofs.flags.with_provisional.Given as goal

abbrev pub invariant-loop-i : goal.invariant-loop-i
invariant-loop-i l = (length l.both ≡ all_flags) × ((k : ℕ) → k < l.i → get_or l.both k 0 ≡ both_at l.flags k)
