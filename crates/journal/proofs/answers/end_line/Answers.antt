use Rattle.journal.proofs.Joining.{end_joined}
use Rattle.journal.proofs.answers.end_line.Goals as goal

pub returns : goal.returns
returns c = end_joined _ _ _ c.standing.ensures
