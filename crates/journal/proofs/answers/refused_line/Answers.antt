use Rattle.journal.proofs.Joining.{refused_joined}
use Rattle.journal.proofs.answers.refused_line.Goals as goal

pub returns : goal.returns
returns c = refused_joined _
