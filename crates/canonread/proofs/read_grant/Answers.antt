use mathlib.Core.List.{List}
use Prim.Native.Nat.{ℕ}
use mathlib.Core.Path.{ap}
use Rattle.sorts.specs.Numbers.{depths}
use Rattle.grants.specs.Inner.OnePass.{num_grant}
use Rattle.canonread.specs.Inner.Again.{num_form}
use Rattle.canonread.proofs.Twice.{form_goes, form_stops}
use Rattle.canonread.proofs.Whole.{grant_form}
use Rattle.canonread.proofs.read_grant.Goals as goal

pub returns-in_err-no : goal.returns-in_err-no
unfolding num_form
returns-in_err-no c =
    let form = grant_form c.args.c.bytes.now c.args.c.at _ c.min.ensures _ c.write_grant.ensures in
    form_stops _ _ _ _ c.read_grant.ensures.value c.in_ok-after.was c.read_grant-2.ensures (ap (λ (l : List ℕ). num_grant depths l 0 c.args.t.now) form) c.in_err-no.was c.from_residual-in_err-no.ensures.1

pub returns : goal.returns
unfolding num_form
returns c =
    let form = grant_form c.args.c.bytes.now c.args.c.at _ c.min.ensures _ c.write_grant.ensures in
    form_goes _ _ _ _ c.read_grant.ensures.value c.in_ok-after.was c.read_grant-2.ensures (ap (λ (l : List ℕ). num_grant depths l 0 c.args.t.now) form) c.in_ok-no.was
