use mathlib.Core.Path.{sym, subst, ap, ◌∙◌}
use mathlib.Core.List.{◌++◌}
use Rattle.journal.specs.Lines.{said}
use Rattle.lines.specs.Words.{newline}
use Rattle.bookform.specs.declared.answer.Answer.{Answer}
use Rattle.journal.specs.Lines.{Opened}
use Rattle.journal.proofs.Joining.{permitted_joined, open_joined, not_permitted_joined, changed_joined, previewed_joined, refusal_joined}
use Rattle.journal.proofs.answers.saying.Goals as goal

pub kind_of-requires : goal.kind_of-requires
kind_of-requires c = subst (λ (x : Answer). Opened c.args.s.now x) c.in-Permitted.is (c.requires)

pub kind_of-requires-in-Open : goal.kind_of-requires-in-Open
kind_of-requires-in-Open c = subst (λ (x : Answer). Opened c.args.s.now x) c.in-Open.is (c.requires)

pub kind_of-requires-in-NotPermitted : goal.kind_of-requires-in-NotPermitted
kind_of-requires-in-NotPermitted c = subst (λ (x : Answer). Opened c.args.s.now x) c.in-NotPermitted.is (c.requires)

pub kind_of-requires-in-Changed : goal.kind_of-requires-in-Changed
kind_of-requires-in-Changed c = subst (λ (x : Answer). Opened c.args.s.now x) c.in-Changed.is (c.requires)

pub kind_of-requires-in-Previewed : goal.kind_of-requires-in-Previewed
kind_of-requires-in-Previewed c = subst (λ (x : Answer). Opened c.args.s.now x) c.in-Previewed.is (c.requires)

pub returns-in-Permitted : goal.returns-in-Permitted
returns-in-Permitted c = permitted_joined c.args.s.now c.kind_of.result c.kind_of.ensures ∙ ap (λ (x : Answer). said c.args.s.now x ++ newline) (sym c.in-Permitted.is)

pub returns-in-Open : goal.returns-in-Open
returns-in-Open c = open_joined c.args.s.now c.kind_of-in-Open.result c.kind_of-in-Open.ensures ∙ ap (λ (x : Answer). said c.args.s.now x ++ newline) (sym c.in-Open.is)

pub returns-in-NotPermitted : goal.returns-in-NotPermitted
returns-in-NotPermitted c = not_permitted_joined c.args.s.now c.kind_of-in-NotPermitted.result c.kind_of-in-NotPermitted.ensures ∙ ap (λ (x : Answer). said c.args.s.now x ++ newline) (sym c.in-NotPermitted.is)

pub returns-in-Changed : goal.returns-in-Changed
returns-in-Changed c = changed_joined c.args.s.now c.kind_of-in-Changed.result _ c.kind_of-in-Changed.ensures ∙ ap (λ (x : Answer). said c.args.s.now x ++ newline) (sym c.in-Changed.is)

pub returns-in-Previewed : goal.returns-in-Previewed
returns-in-Previewed c = previewed_joined c.args.s.now c.kind_of-in-Previewed.result _ c.kind_of-in-Previewed.ensures ∙ ap (λ (x : Answer). said c.args.s.now x ++ newline) (sym c.in-Previewed.is)

pub returns-in-Refused : goal.returns-in-Refused
returns-in-Refused c = refusal_joined c.args.s.now _ ∙ ap (λ (x : Answer). said c.args.s.now x ++ newline) (sym c.in-Refused.is)
