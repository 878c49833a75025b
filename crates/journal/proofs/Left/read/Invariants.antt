use Prim.Native.Nat.{◌-◌}
use lib.ListN.{length}
use Rattle.journal.proofs.Leaving.{ReadTo}
use Rattle.journal.proofs.Left.read.Given as goal

abbrev pub invariant-loop-at : goal.invariant-loop-at
invariant-loop-at l = ReadTo l.initial.self l.s l.self l.at

abbrev pub decreases-loop-at : goal.decreases-loop-at
decreases-loop-at l = length l.s - l.at
