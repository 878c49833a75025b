use mathlib.Core.Path.{sym, ap, ◌∙◌}
use Rattle.panel.specs.Inner.Words.{one_for}
use Rattle.panel.proofs.one.Goals as goal

pub returns-in-Permitted : goal.returns-in-Permitted
returns-in-Permitted c = ap one_for (sym c.in-Permitted.is ∙ c.answer_for.ensures)
