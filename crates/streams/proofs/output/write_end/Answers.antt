use Rattle.std.proofs.Common.{List, ℕ, [], ◌∷◌, ◌++◌, ap, append_assoc, refl}
use Rattle.lines.specs.Decimals.{decimal}
use Rattle.lines.specs.Words.{end_word, marks_word}
use Rattle.lines.specs.Numerals.{each, last_number}
use Rattle.streams.proofs.output.Taking.{at_last, broken}
use Rattle.streams.proofs.output.write_end.Goals as goal

pub returns-in_err-put : goal.returns-in_err-put
returns-in_err-put g c =
    let p = g.met.P.TrackedOutput in
    let rest = each (decimal c.args.n) ++ (marks_word ∷ last_number c.args.marks) in
    broken g.P.TrackedOutput.took g.P.TrackedOutput.broke p.broke_later p.broke_earlier _ _ _ [] (end_word ∷ []) rest _ c.from_residual.result c.from_residual.ensures.0 refl (p.took_none _) c.in_err-put.ensures

pub returns-in_err-write_number : goal.returns-in_err-write_number
returns-in_err-write_number g c =
    let p = g.met.P.TrackedOutput in
    let all = ap (λ (ps : List (List ℕ)). end_word ∷ ps) (append_assoc (each (decimal c.args.n)) (marks_word ∷ []) (last_number c.args.marks)) in
    broken g.P.TrackedOutput.took g.P.TrackedOutput.broke p.broke_later p.broke_earlier _ _ _ _ _ (last_number c.args.marks) _ c.from_residual-in_err-write_number.result c.from_residual-in_err-write_number.ensures.0 all c.in_ok-put.ensures c.in_err-write_number.ensures

pub returns : goal.returns
returns g c =
    let p = g.met.P.TrackedOutput in
    let two = p.took_more _ _ _ _ _ c.in_ok-put.ensures c.in_ok-write_number.ensures in
    let all = ap (λ (ps : List (List ℕ)). end_word ∷ ps) (append_assoc (each (decimal c.args.n)) (marks_word ∷ []) (last_number c.args.marks)) in
    at_last g.P.TrackedOutput.took g.P.TrackedOutput.broke p.took_more p.broke_later _ _ _ _ _ _ c.write_number-2.result all two c.write_number-2.ensures
