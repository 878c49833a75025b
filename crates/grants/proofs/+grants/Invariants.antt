-- Each inner grant leaves one depth less.
use Rattle.std.proofs.Common.{◌+◌, ◌*◌, ◌-◌}
use Rattle.grants.specs.Inner.OnePass.{blank_conds, num_conds, num_grant}
use Rattle.grants.proofs.Steps.{GoesOn}
use Rattle.grants.proofs.+grants.Given as goal

abbrev pub decreases-read_concl : goal.decreases-read_concl
decreases-read_concl l = 4 * l.below + 2

abbrev pub decreases-read_conds : goal.decreases-read_conds
decreases-read_conds l = 4 * l.below + 3

abbrev pub decreases-read_grant : goal.decreases-read_grant
decreases-read_grant l = 4 * l.left

abbrev pub decreases-read_issue : goal.decreases-read_issue
decreases-read_issue l = 4 * l.below + 1

abbrev pub invariant-read_conds-loop-i : goal.invariant-read_conds-loop-i
invariant-read_conds-loop-i l =
    GoesOn l.fn.c (λ s at. num_conds (num_grant l.below s) l.v s l.count at 0 blank_conds l.fn.t) l.n (λ s at. num_conds (num_grant l.below s) l.v s (l.count - l.i) at l.i l.conds l.t)
