use mathlib.Core.Path.{ap}
use Rattle.bookform.specs.declared.Book.{Book}
use Rattle.bookform.specs.Books.{fresh_marks}
use Rattle.journal.specs.declared.Left.{Left}
use Rattle.journal.proofs.Left.fresh.Goals as goal

pub returns : goal.returns
unfolding fresh_marks
returns c =
    let with_book : Book → Left = λ b. record { book = b; marks = fresh_marks; second = fresh_marks; preview = fresh_marks } in
    ap with_book c.new.ensures
