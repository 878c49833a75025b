use Rattle.std.proofs.Common.{ℕ, [], ◌∷◌, ap, refl}
use Rattle.lines.specs.Words.{refused_word}
use Rattle.lines.specs.Numerals.{last_number}
use Rattle.streams.proofs.output.Taking.{at_last, broken}
use Rattle.streams.proofs.output.write_refusal.Goals as goal

pub returns-in_err-put : goal.returns-in_err-put
returns-in_err-put g c =
    let p = g.met.P.TrackedOutput in
    broken g.P.TrackedOutput.took g.P.TrackedOutput.broke p.broke_later p.broke_earlier _ _ _ [] (refused_word ∷ []) (last_number _) _ c.from_residual.result c.from_residual.ensures.0 refl (p.took_none _) c.in_err-put.ensures

pub returns : goal.returns
returns g c =
    let p = g.met.P.TrackedOutput in
    at_last g.P.TrackedOutput.took g.P.TrackedOutput.broke p.took_more p.broke_later _ _ _ _ _ _ c.write_number.result (ap (λ (n : ℕ). refused_word ∷ last_number n) c.from.ensures) c.in_ok-put.ensures
    c.write_number.ensures
