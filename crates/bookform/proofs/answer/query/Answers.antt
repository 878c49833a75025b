use Rattle.bookform.proofs.answer.query.Goals as goal

pub returns : goal.returns
returns c = rw c.answer_for.ensures
