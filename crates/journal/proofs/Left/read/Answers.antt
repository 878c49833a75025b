use native.Mathlib.Omega.{arith}
use Rattle.journal.proofs.Rests.{call_rest}
use Rattle.journal.proofs.places.Places.{next_further}
use Rattle.journal.proofs.Leaving.{to_none, to_next, to_end}
use Rattle.journal.proofs.Left.read.Goals as goal

pub loop-at-init : goal.loop-at-init
loop-at-init c = to_none _ _

pub slice_bounds-call-count : goal.slice_bounds-call-count
slice_bounds-call-count c = omega (arith, c.loop-at.invariant.within)

pub next_place-at-requires : goal.next_place-at-requires
next_place-at-requires c = omega (arith, c.loop-at.invariant.within)

pub loop-at-smaller : goal.loop-at-smaller
loop-at-smaller c = omega (arith, c.next_place-at.ensures, next_further c.args.s.now c.loop-at.at c.call-a.result.used c.loop-at-test.true)

pub loop-at-preserved : goal.loop-at-preserved
loop-at-preserved c = to_next c.args.s.now c.loop-at.at c.loop-at.invariant c.call-a.result _ _ _ c.next_place-at.result c.loop-at-test.true (call_rest c.args.s.now c.loop-at.at c.call-a.ensures) c.next_place-at.ensures

pub returns : goal.returns
returns c = to_end c.args.s.now c.loop-at.at c.loop-at.invariant c.loop-at-test.false
