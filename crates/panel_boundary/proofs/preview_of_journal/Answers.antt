use Rattle.std.proofs.Common.{ℕ, sym, ap, subst, ◌∙◌}
use Rattle.sorts.specs.Refusals.{refusal_number}
use Rattle.bookform.specs.Books.{fresh_marks}
use Rattle.journal.proofs.Leaving.{from_fresh}
use Rattle.panel_boundary.specs.Crossing.{JournalPreview, blank, left}
use Rattle.panel_boundary.proofs.preview_of_journal.Goals as goal

pub returns-in-Ok : goal.returns-in-Ok
returns-in-Ok c = left _ _ _ _ c.in-Ok.ensures (from_fresh c.fresh-left.ensures c.read.ensures)

pub returns-in-Err : goal.returns-in-Err
unfolding fresh_marks
returns-in-Err c =
    let h = c.in-Err.ensures in
    subst (λ (n : ℕ). JournalPreview c.args.s.now n fresh_marks) (sym (c.from.ensures ∙ ap refusal_number h.1)) (blank h.0)
