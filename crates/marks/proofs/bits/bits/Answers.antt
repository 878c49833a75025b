use Rattle.marks.proofs.Loops.{bits_decide}
use Rattle.marks.proofs.bits.bits.Goals as goal

pub returns : goal.returns
returns c = bits_decide c.args.s.now c.most.result c.most.ensures
