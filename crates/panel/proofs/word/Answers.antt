use mathlib.Core.Path.{ap, ◌∙◌}
use borrow.Author.Rules.{rules}
use Rattle.sorts.specs.declared.Concl.{Concl}
use Rattle.sorts.specs.Numbers.{number_of}
use Rattle.bookform.specs.Answers.{answer_at}
use Rattle.panel.specs.Inner.Words.{one_for}
use Rattle.panel.proofs.Words.{word_next}
use Rattle.panel.proofs.word.Goals as goal

pub loop-n-preserved : goal.loop-n-preserved
loop-n-preserved c = word_next c.args.marks.now c.args.second.now c.args.p c.args.x c.loop-n.n c.loop-n.w (search rules) (search rules) c.loop-n.invariant c.one.result (c.one.ensures ∙ ap (λ (e : Concl). one_for (answer_at c.args.marks.now c.args.second.now (number_of e))) c.conclusion.ensures.0)
