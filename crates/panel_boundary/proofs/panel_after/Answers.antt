use Rattle.std.proofs.Common.{◌≡◌, Err, rules, sym, ap, subst, ◌∙◌}
use Rattle.sorts.specs.declared.Refusal.{Refusal}
use Rattle.journal.proofs.Leaving.{from_fresh}
use Rattle.panel_boundary.specs.Crossing.{JournalPanel, over, read}
use Rattle.panel_boundary.proofs.panel_after.Goals as goal

pub returns-in_err-admit : goal.returns-in_err-admit
returns-in_err-admit c =
    let e : c.from_residual.result ≡ Err c.in_err-admit.field-0.0 = search rules in
    let h = c.in_err-admit.ensures in
    subst (JournalPanel c.args.s.now c.args.p) (sym (e ∙ ap (λ (j : Refusal). Err j) h.1)) (over h.0)

pub returns : goal.returns
returns c = read _ _ _ _ c.show.result c.in_ok-admit.ensures (from_fresh c.fresh-left.ensures c.read.ensures) c.show.ensures
