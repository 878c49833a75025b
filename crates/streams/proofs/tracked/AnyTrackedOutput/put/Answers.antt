use Rattle.std.proofs.Common.{ℕ, ◌+◌, ◌-◌, ◌≡◌, List, ◌++◌, length, take, drop, arith, sym, ap, ◌∙◌, subst, take_all, length-drop}
use Rattle.std.proofs.Math.Seq.{take-add}
use Rattle.std.specs.Io.KnownBytes.{Appends}
use Rattle.std.proofs.KnownBytes.{Appends-trans, Appends-kept}
use Rattle.streams.proofs.output.Taken.{appends_one, began_one}
use Rattle.streams.proofs.output.Taking.{on_err}
use Rattle.streams.proofs.tracked.AnyTrackedOutput.put.Goals as goal

-- The first n of xs that are left from a place on come after those before it.
together : (at n : ℕ) (xs : List ℕ) → take at xs ++ take n (take (length xs - at) (drop at xs)) ≡ take (at + n) xs
together at n xs =
    ap (λ ys. take at xs ++ take n ys) (take_all (length xs - at) (drop at xs) (omega (arith, length-drop at xs)))
    ∙ sym (take-add at n xs)

pub loop-done-preserved : goal.loop-done-preserved
loop-done-preserved g c =
    let here = c.loop-done in (
      omega (arith, c.in_ok-n.ensures.bound),
      subst (Appends _ _) (together here.done c.in_ok-n.n c.args.piece.now) (Appends-trans _ _ _ _ _ here.invariant.1 c.in_ok-n.ensures.bytes),
    )

pub returns : goal.returns
returns g c =
    let here = c.loop-done in
    appends_one _ _ _ (subst (Appends _ _) (take_all here.done c.args.piece.now (omega (arith, c.loop-done-test.false))) here.invariant.1)

-- A write that fails takes nothing.
pub returns-in_err-n : goal.returns-in_err-n
returns-in_err-n g c =
    let here = c.loop-done in
    let held = Appends-kept _ _ _ _ here.invariant.1 c.in_err-n.ensures.bytes in
    on_err c.from_residual.result _ _ c.from_residual.ensures.0 (began_one _ _ here.done c.args.piece.now held)

pub returns-then-n-eq0 : goal.returns-then-n-eq0
returns-then-n-eq0 g c =
    let here = c.loop-done in
    let held = Appends-trans _ _ _ _ _ here.invariant.1 c.in_ok-n.ensures.bytes in
    began_one _ _ (here.done + c.in_ok-n.n) c.args.piece.now (subst (Appends _ _) (together here.done c.in_ok-n.n c.args.piece.now) held)
