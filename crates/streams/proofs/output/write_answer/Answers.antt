use Rattle.std.proofs.Common.{List, ℕ, [], ◌∷◌, ap}
use Rattle.lines.specs.Words.{newline}
use Rattle.streams.proofs.output.Taking.{at_last, broken}
use Rattle.streams.proofs.output.write_answer.Goals as goal

pub returns-in_err-put : goal.returns-in_err-put
returns-in_err-put g c =
    let p = g.met.P.TrackedOutput in
    broken g.P.TrackedOutput.took g.P.TrackedOutput.broke p.broke_later p.broke_earlier _ _ _ [] _ (c.args.word.now ∷ newline ∷ []) _ c.from_residual.result c.from_residual.ensures.0
    (ap (λ (k : List ℕ). k ∷ c.args.word.now ∷ newline ∷ []) c.letters.ensures) (p.took_none _) c.in_err-put.ensures

pub returns-in_err-put-2 : goal.returns-in_err-put-2
returns-in_err-put-2 g c =
    let p = g.met.P.TrackedOutput in
    broken g.P.TrackedOutput.took g.P.TrackedOutput.broke p.broke_later p.broke_earlier _ _ _ _ _ (newline ∷ []) _ c.from_residual-in_err-put-2.result c.from_residual-in_err-put-2.ensures.0
    (ap (λ (k : List ℕ). k ∷ c.args.word.now ∷ newline ∷ []) c.letters.ensures) c.in_ok-put.ensures c.in_err-put-2.ensures

pub returns : goal.returns
returns g c =
    let p = g.met.P.TrackedOutput in
    let two = p.took_more _ _ _ _ _ c.in_ok-put.ensures c.in_ok-put-2.ensures in
    at_last g.P.TrackedOutput.took g.P.TrackedOutput.broke p.took_more p.broke_later _ _ _ _ _ _ c.put-3.result (ap (λ (k : List ℕ). k ∷ c.args.word.now ∷ newline ∷ []) c.letters.ensures) two c.put-3.ensures
