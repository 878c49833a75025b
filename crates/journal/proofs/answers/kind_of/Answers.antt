use Rattle.journal.proofs.Letters.{told_letters}
use Rattle.journal.proofs.answers.kind_of.Goals as goal

pub returns : goal.returns
returns c = told_letters _ _ _ _ c.read_mark.ensures c.in-Ok.is
