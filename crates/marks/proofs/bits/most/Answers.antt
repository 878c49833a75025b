use native.Mathlib.Omega.{arith}
use Rattle.marks.proofs.Loops.{most_more}
use Rattle.marks.proofs.bits.most.Goals as goal

pub loop-b-preserved : goal.loop-b-preserved
loop-b-preserved c = (most_more c.args.s.now c.loop-b.b-index c.loop-b.m c.max-m.result c.loop-b.invariant.0 (omega arith) (omega arith), λ n f. omega (arith, c.loop-b.invariant.1 n f, f c.loop-b.b-index))
