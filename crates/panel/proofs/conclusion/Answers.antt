use borrow.Author.Rules.{rules}
use Rattle.panel.proofs.conclusion.Goals as goal

pub returns-in-Run : goal.returns-in-Run
returns-in-Run c = (rw c.in-Run.is, search rules)

pub returns-in-Export : goal.returns-in-Export
returns-in-Export c = (rw c.in-Export.is, search rules)
