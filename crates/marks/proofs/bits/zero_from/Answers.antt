use Prim.Native.Nat.{ℕ, ◌-◌, min}
use mathlib.Core.Path.{◌≡◌, subst}
use mathlib.Core.List.{List}
use native.Mathlib.Omega.{arith}
use lib.ListN.{length}
use Rattle.marks.specs.Inner.Most.{Most}
use Rattle.marks.proofs.Halves.{half_rest}
use Rattle.marks.proofs.Loops.{zeros_decide}
use Rattle.marks.proofs.bits.zero_from.Goals as goal

pub returns : goal.returns
returns c =
    let s = c.args.s.now in
    let at = c.min.result in
    let e : at ≡ min c.args.from (length s) = c.min.ensures in
    zeros_decide s c.args.from at c.most.result (omega arith) (λ l. omega arith) (subst (λ (xs : List ℕ). Most xs c.most.result) (half_rest at (length s - at) s (omega arith)) c.most.ensures)
