use Rattle.canonwrite.proofs.sorting.InParts.{turned}
use Rattle.canonwrite.proofs.sorting.turn.Goals as goal

pub returns : goal.returns
returns c = let a = c.args in turned a.out.now a.a a.b a.e c.requires.0 c.requires.1 c.rotate_left.new.self c.rotate_left.ensures.after
