use Rattle.std.proofs.Common.{◌≡◌, Err, rules, sym, subst}
use Rattle.panel.specs.Panels.{PanelOf}
use Rattle.panel.proofs.Showing.{admitted_form, panel_shown, panel_refused}
use Rattle.panel.proofs.show.Goals as goal

pub word-run-requires : goal.word-run-requires
word-run-requires c = let h = admitted_form _ _ _ _ _ c.in_ok-admit.ensures in (h.1, h.0.marks.count, h.0.second.count)

pub word-export-requires : goal.word-export-requires
word-export-requires c = let h = admitted_form _ _ _ _ _ c.in_ok-admit.ensures in (h.1, h.0.marks.count, h.0.second.count)

pub returns-in_err-admit : goal.returns-in_err-admit
returns-in_err-admit c =
    let e : c.from_residual.result ≡ Err c.in_err-admit.field-0.0 = search rules in
    subst (PanelOf c.args.b c.args.marks.now c.args.second.now c.args.p) (sym e) (panel_refused _ _ _ _ _ c.in_err-admit.ensures)

pub returns : goal.returns
returns c = let h = admitted_form _ _ _ _ _ c.in_ok-admit.ensures in panel_shown _ _ _ _ h.0 h.1 _ _ c.word-run.ensures c.word-export.ensures
