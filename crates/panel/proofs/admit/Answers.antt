use Rattle.std.proofs.lemmas.Bool.{not_from_true, not_from_false}
use Rattle.bookform.specs.Books.{BookForm}
use Rattle.bookform.proofs.Decided.{decided_no, decided_yes}
use Rattle.panel.specs.Inner.Words.{admitted, unformed, above}
use Rattle.panel.proofs.admit.Goals as goal

pub returns-then-not-in_form : goal.returns-then-not-in_form
returns-then-not-in_form c = unformed (decided_no (BookForm c.args.b c.args.marks.now c.args.second.now) c.in_form.result (not_from_false _ c.if-not-in_form.true) c.in_form.ensures)

pub returns-then-p-ge-SPEAKERS : goal.returns-then-p-ge-SPEAKERS
returns-then-p-ge-SPEAKERS c = above (decided_yes (BookForm c.args.b c.args.marks.now c.args.second.now) c.in_form.result (not_from_true _ c.if-not-in_form.false) c.in_form.ensures) c.if-p-ge-SPEAKERS.true

pub returns : goal.returns
returns c = admitted (decided_yes (BookForm c.args.b c.args.marks.now c.args.second.now) c.in_form.result (not_from_true _ c.if-not-in_form.false) c.in_form.ensures) c.if-p-ge-SPEAKERS.false
