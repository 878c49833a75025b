use Rattle.journal.proofs.Leaving.{from_fresh}
use Rattle.journal.proofs.left_by.Goals as goal

pub returns : goal.returns
returns c = from_fresh c.fresh-left.ensures c.read.ensures
