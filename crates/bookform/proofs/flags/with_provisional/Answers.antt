use native.Mathlib.Omega.{arith}
use Rattle.std.proofs.lemmas.List.FromFn.{fill_by_all}
use Rattle.sorts.specs.Flags.{all_flags}
use Rattle.bookform.specs.Both.{both_at, both_flags}
use Rattle.bookform.proofs.flags.with_provisional.Goals as goal

pub returns : goal.returns
unfolding both_flags
returns c = fill_by_all (both_at c.args.flags) c.loop-i.both all_flags 0 c.loop-i.invariant.0 (λ k h. c.loop-i.invariant.1 k (omega (arith, h, c.loop-i-test.false)))
