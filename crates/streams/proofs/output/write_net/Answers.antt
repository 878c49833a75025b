use Rattle.std.proofs.Common.{refl, rules, List, ℕ, [], ◌∷◌, ap, sym, ◌∙◌}
use Rattle.lines.specs.Decimals.{decimal, signed}
use Rattle.lines.specs.Words.{space}
use Rattle.lines.specs.Numerals.{each}
use Rattle.streams.proofs.output.NetAs.{net_as}
use Rattle.streams.proofs.output.Taking.{at_last, each_cons, broken}
use Rattle.streams.proofs.output.write_net.Goals as goal

pub returns-in_err-put : goal.returns-in_err-put
returns-in_err-put g c =
    let p = g.met.P.TrackedOutput in
    broken g.P.TrackedOutput.took g.P.TrackedOutput.broke p.broke_later p.broke_earlier _ _ _ [] (space ∷ []) (each (signed c.args.z)) _ c.from_residual.result c.from_residual.ensures.0 refl (p.took_none _) c.in_err-put.ensures

pub returns-in_err-put-2 : goal.returns-in_err-put-2
unfolding each
returns-in_err-put-2 g c =
    let p = g.met.P.TrackedOutput in
    let net = ap each (sym c.sign.ensures ∙ ap signed (net_as c.args.z (search rules))) in
    broken g.P.TrackedOutput.took g.P.TrackedOutput.broke p.broke_later p.broke_earlier _ _ _ (space ∷ []) ((c.sign.result ∷ []) ∷ []) _ _ c.from_residual-in_err-put-2.result c.from_residual-in_err-put-2.ensures.0
    (ap (λ (ps : List (List ℕ)). space ∷ ps) net) c.in_ok-put.ensures c.in_err-put-2.ensures

pub returns : goal.returns
returns g c =
    let p = g.met.P.TrackedOutput in
    let one : g.P.TrackedOutput.took c.args.out.now c.put.new.self (space ∷ []) = search rules in
    let sign : g.P.TrackedOutput.took c.put.new.self c.put-2.new.self ((c.sign.result ∷ []) ∷ []) = search rules in
    let two = p.took_more _ _ _ _ _ one sign in
    let net = each_cons c.sign.result (decimal c.size.result) ∙ ap each (ap (λ (n : ℕ). c.sign.result ∷ decimal n) c.size.ensures ∙ sym c.sign.ensures ∙ ap signed (net_as c.args.z (search rules))) in
    at_last g.P.TrackedOutput.took g.P.TrackedOutput.broke p.took_more p.broke_later _ _ _ _ _ _ c.write_digits.result (ap (λ (ps : List (List ℕ)). space ∷ ps) net) two c.write_digits.ensures
