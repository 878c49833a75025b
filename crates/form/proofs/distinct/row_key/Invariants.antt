use mathlib.Core.Path.{◌≡◌}
use Rattle.form.specs.Inner.Keys.{digits}
use Rattle.form.proofs.distinct.row_key.Given as goal

abbrev pub invariant-loop-w : goal.invariant-loop-w
invariant-loop-w l = l.k ≡ digits l.fn.x l.w-index
