use Rattle.std.proofs.Common.{refl, [], ◌∷◌}
use Rattle.streams.proofs.output.Taking.{at_last, broken}
use Rattle.streams.proofs.output.write_number.Goals as goal

pub returns-in_err-write_digits : goal.returns-in_err-write_digits
returns-in_err-write_digits g c =
    let p = g.met.P.TrackedOutput in
    broken g.P.TrackedOutput.took g.P.TrackedOutput.broke p.broke_later p.broke_earlier _ _ _ [] _ (c.args.word.now ∷ []) _ c.from_residual.result c.from_residual.ensures.0 refl (p.took_none _) c.in_err-write_digits.ensures

pub returns : goal.returns
returns g c =
    let p = g.met.P.TrackedOutput in
    at_last g.P.TrackedOutput.took g.P.TrackedOutput.broke p.took_more p.broke_later _ _ _ _ _ _ c.put.result refl c.in_ok-write_digits.ensures c.put.ensures
