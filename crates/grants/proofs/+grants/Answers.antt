use Prim.Native.Nat.{◌+◌, ◌-◌}
use mathlib.Core.Path.{◌≡◌}
use native.Mathlib.Omega.{arith}
use Rattle.grants.specs.Inner.OnePass.{num_with}
use Rattle.frames.proofs.ranges.Answers.{was_got}
use Rattle.grants.proofs.Found.{header_found}
use Rattle.grants.proofs.Steps.{plain, along, further, on_got, goes, stops, grant_step, conds_step_lem}
use Rattle.grants.proofs.+grants.Goals as goal

pub read_conds-returns-in_err-who : goal.read_conds-returns-in_err-who
read_conds-returns-in_err-who t c =
    along (further c.loop-i.invariant (conds_step_lem _ _ _ _ _ _ _ (omega arith))) (stops _ _ (plain c.prin.ensures) c.in_err-who.was c.from_residual.ensures.1)

pub read_conds-returns-in_err-what : goal.read_conds-returns-in_err-what
read_conds-returns-in_err-what t c =
    along (further c.loop-i.invariant (conds_step_lem _ _ _ _ _ _ _ (omega arith)))
    (goes _ _ (plain c.prin.ensures) c.in_ok-who.was (stops _ _ c.read_concl.ensures c.in_err-what.was c.from_residual-in_err-what.ensures.1))

pub read_conds-loop-i-preserved : goal.read_conds-loop-i-preserved
read_conds-loop-i-preserved t c =
    let left : c.args.count - (c.loop-i.i + 1) ≡ c.args.count - c.loop-i.i - 1 = omega arith in
    rw left (further c.loop-i.invariant (further (conds_step_lem _ _ _ _ _ _ _ (omega arith))
    (further (on_got _ _ (plain c.prin.ensures) c.in_ok-who.was) (on_got _ _ c.read_concl.ensures c.in_ok-what.was))))

pub read_grant-read_conds-requires : goal.read_grant-read_conds-requires
read_grant-read_conds-requires t c = let h = (header_found _ _ _ _ (was_got c.args.c _ c.header.ensures c.in_ok-h.was).found).count in (omega arith, h)

pub read_grant-returns-in_err-conds : goal.read_grant-returns-in_err-conds
unfolding num_with
read_grant-returns-in_err-conds t c =
    along (grant_step _ _ _ c.if-left-eq0.false)
    (goes _ _ (plain c.header.ensures) c.in_ok-h.was (stops _ _ c.read_conds.ensures c.in_err-conds.was c.from_residual-in_err-conds.ensures.1))

pub read_grant-returns-in_err-head : goal.read_grant-returns-in_err-head
unfolding num_with
read_grant-returns-in_err-head t c =
    along (grant_step _ _ _ c.if-left-eq0.false)
    (goes _ _ (plain c.header.ensures) c.in_ok-h.was (goes _ _ c.read_conds.ensures c.in_ok-conds.was
    (stops _ _ c.read_concl.ensures c.in_err-head.was c.from_residual-in_err-head.ensures.1)))

pub read_grant-returns : goal.read_grant-returns
unfolding num_with
read_grant-returns t c =
    along (grant_step _ _ _ c.if-left-eq0.false)
    (goes _ _ (plain c.header.ensures) c.in_ok-h.was (goes _ _ c.read_conds.ensures c.in_ok-conds.was
    (goes _ _ c.read_concl.ensures c.in_ok-head.was (record { value = rw c.enter-no.ensures.no; numbering = c.enter-no.ensures.numbering }))))
