use Rattle.bookform.proofs.Book.new.Goals as goal

pub returns : goal.returns
returns c = rw c.blank-rows.ensures
