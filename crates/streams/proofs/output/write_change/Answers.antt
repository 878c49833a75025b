use Rattle.std.proofs.Common.{rules, ap, List, ℕ, [], ◌∷◌}
use Rattle.lines.specs.Words.{space, newline}
use Rattle.lines.specs.Numerals.{net_pieces}
use Rattle.lines.specs.Decimals.{signed}
use Rattle.lines.specs.Pieces.{said_pieces}
use Rattle.streams.proofs.output.NetAs.{net_as}
use Rattle.streams.proofs.output.Taking.{at_last, change_is, change_left, broken}
use Rattle.streams.proofs.output.write_change.Goals as goal

pub returns-in_err-put : goal.returns-in_err-put
unfolding said_pieces
returns-in_err-put g c =
    let p = g.met.P.TrackedOutput in
    broken g.P.TrackedOutput.took g.P.TrackedOutput.broke p.broke_later p.broke_earlier _ _ _ [] _ (space ∷ net_pieces c.args.c) _ c.from_residual.result c.from_residual.ensures.0
    (ap (λ (k : List ℕ). k ∷ space ∷ net_pieces c.args.c) c.letters.ensures) (p.took_none _) c.in_err-put.ensures

pub returns-in_err-write_net : goal.returns-in_err-write_net
unfolding said_pieces
returns-in_err-write_net g c =
    let p = g.met.P.TrackedOutput in
    let truths = ap signed (net_as c.args.c.truths.net (search rules)) in
    let sayings = ap signed (net_as c.args.c.sayings.net (search rules)) in
    broken g.P.TrackedOutput.took g.P.TrackedOutput.broke p.broke_later p.broke_earlier _ _ _ _ _ _ _ c.from_residual-in_err-write_net.result c.from_residual-in_err-write_net.ensures.0
    (change_left c.letters.ensures truths sayings) c.in_ok-put.ensures c.in_err-write_net.ensures

pub returns-in_err-write_net-2 : goal.returns-in_err-write_net-2
unfolding said_pieces
returns-in_err-write_net-2 g c =
    let p = g.met.P.TrackedOutput in
    let one = p.took_more _ _ _ _ _ c.in_ok-put.ensures c.in_ok-write_net.ensures in
    let truths = ap signed (net_as c.args.c.truths.net (search rules)) in
    let sayings = ap signed (net_as c.args.c.sayings.net (search rules)) in
    broken g.P.TrackedOutput.took g.P.TrackedOutput.broke p.broke_later p.broke_earlier _ _ _ _ _ (newline ∷ []) _ c.from_residual-in_err-write_net-2.result c.from_residual-in_err-write_net-2.ensures.0
    (change_is c.letters.ensures truths sayings) one c.in_err-write_net-2.ensures

pub returns : goal.returns
unfolding said_pieces
returns g c =
    let p = g.met.P.TrackedOutput in
    let one = p.took_more _ _ _ _ _ c.in_ok-put.ensures c.in_ok-write_net.ensures in
    let two = p.took_more _ _ _ _ _ one c.in_ok-write_net-2.ensures in
    let truths = ap signed (net_as c.args.c.truths.net (search rules)) in
    let sayings = ap signed (net_as c.args.c.sayings.net (search rules)) in
    at_last g.P.TrackedOutput.took g.P.TrackedOutput.broke p.took_more p.broke_later _ _ _ _ _ _ c.put-2.result (change_is c.letters.ensures truths sayings) two c.put-2.ensures
