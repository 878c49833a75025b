use Rattle.journal.proofs.Joining.{record_joined}
use Rattle.journal.proofs.answers.record_line.Goals as goal

pub returns : goal.returns
returns c = record_joined _ _ _ _ c.saying.ensures
