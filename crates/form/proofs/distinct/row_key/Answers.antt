use mathlib.Core.Path.{◌≡◌, ap, ◌∙◌}
use borrow.Author.Rules.{rules}
use Rattle.form.specs.Inner.Keys.{digits, row_key}
use Rattle.form.proofs.distinct.row_key.Goals as goal

pub returns : goal.returns
unfolding row_key
returns c = let e : c.loop-w.w-index ≡ 6 = search rules in c.loop-w.invariant ∙ ap (digits c.args.x) e
