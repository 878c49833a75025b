use mathlib.Core.Path.{ap, ◌∙◌}
use borrow.Author.Rules.{rules}
use Rattle.rows.specs.declared.Numbering.{Numbering}
use Rattle.reader.specs.Inner.Numbered.{asked, known, num_revision}
use Rattle.reader.proofs.contents.Asked.{asked_is, revised_is}
use Rattle.reader.proofs.contents.read_revision.Goals as goal

pub returns-in_err-no : goal.returns-in_err-no
unfolding num_revision
returns-in_err-no g c q m = search rules

pub returns : goal.returns
unfolding num_revision
returns g c q m =
    rw (← c.t.view_is)
    (revised_is q _ _ _ _ _ _ _ _ (rw (c.start-u.ensures, ← c.t.view_is) at c.read_grant.ensures) c.in_ok-no.was
    (asked_is _ q m _ _ c.map.ensures.cases ∙ ap (asked q) (c.known.ensures ∙ ap (λ (w : Numbering). known c.t.inside.table.count w.full c.in_ok-no.no) c.u.view_is)))
