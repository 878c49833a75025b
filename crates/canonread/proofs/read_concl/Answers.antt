use mathlib.Core.List.{List}
use Prim.Native.Nat.{ℕ}
use mathlib.Core.Path.{ap}
use Rattle.grants.proofs.Steps.{along}
use Rattle.canonread.specs.Inner.Again.{read_concl_whole}
use Rattle.canonread.proofs.Twice.{concl_twice, form_goes, form_stops}
use Rattle.canonread.proofs.Whole.{told, concl_form}
use Rattle.canonread.proofs.read_concl.Goals as goal

pub returns-in_err-what : goal.returns-in_err-what
returns-in_err-what c =
    let some = told c.args.c.bytes.now c.args.c.at _ c.min.ensures c.holds_grant.ensures c.if-not-holds_grant.false in
    let form = concl_form c.args.c.bytes.now c.args.c.at _ c.min.ensures _ c.write_concl.ensures in
    along (concl_twice _ _ _ some)
    (form_stops _ _ _ _ c.read_concl-2.ensures.value c.in_ok-after.was c.read_concl-3.ensures (ap (λ (l : List ℕ). read_concl_whole c.args.v l 0 c.args.t.now) form) c.in_err-what.was c.from_residual-in_err-what.ensures.1)

pub returns : goal.returns
returns c =
    let some = told c.args.c.bytes.now c.args.c.at _ c.min.ensures c.holds_grant.ensures c.if-not-holds_grant.false in
    let form = concl_form c.args.c.bytes.now c.args.c.at _ c.min.ensures _ c.write_concl.ensures in
    along (concl_twice _ _ _ some)
    (form_goes _ _ _ _ c.read_concl-2.ensures.value c.in_ok-after.was c.read_concl-3.ensures (ap (λ (l : List ℕ). read_concl_whole c.args.v l 0 c.args.t.now) form) c.in_ok-what.was)
