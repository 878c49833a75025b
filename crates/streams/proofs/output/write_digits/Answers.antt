use Rattle.std.proofs.Common.{rules, arith, subst, drop, ◌+◌, [], ◌∷◌}
use Rattle.lines.specs.Numerals.{each}
use Rattle.lines.specs.Decimals.{decimal}
use Rattle.streams.proofs.output.Taking.{each_none, each_more, each_whole, broken}
use Rattle.streams.proofs.output.write_digits.Goals as goal

pub loop-i-init : goal.loop-i-init
loop-i-init g c = subst (g.P.TrackedOutput.took _ _) (each_none (decimal c.args.n)) (g.met.P.TrackedOutput.took_none _)

pub loop-i-preserved : goal.loop-i-preserved
loop-i-preserved g c =
    let one : g.P.TrackedOutput.took c.loop-i.out c.put.new.self ((c.digit.result ∷ []) ∷ []) = search rules in
    subst (g.P.TrackedOutput.took _ _) (each_more _ _ _ (omega (arith, c.loop-i-test.true, c.count-d.ensures.0)) c.digit.ensures)
    (g.met.P.TrackedOutput.took_more _ _ _ _ _ c.loop-i.invariant one)

pub returns-in_err-put : goal.returns-in_err-put
returns-in_err-put g c =
    let p = g.met.P.TrackedOutput in
    let i = c.loop-i.i in
    broken g.P.TrackedOutput.took g.P.TrackedOutput.broke p.broke_later p.broke_earlier _ _ _ _ _ (each (drop (i + 1) (decimal c.args.n))) _ c.from_residual.result c.from_residual.ensures.0
    (each_whole _ i c.digit.result (omega (arith, c.loop-i-test.true, c.count-d.ensures.0)) c.digit.ensures) c.loop-i.invariant c.in_err-put.ensures
