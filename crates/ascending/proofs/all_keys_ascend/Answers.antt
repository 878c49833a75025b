use mathlib.Core.Path.{◌≡◌, refl, subst}
use native.Mathlib.Omega.{arith}
use lib.ListN.{get_or}
use borrow.Author.Rules.{rules}
use borrow.Author.Tests.{tests}
use Rattle.std.specs.List.{range_with_len}
use Rattle.std.proofs.lemmas.Bool.{MatchBool-at_true}
use Rattle.std.proofs.lemmas.Iterator.{cases_from_all, YieldsList-from_range}
use Rattle.std.proofs.lemmas.List.FromFn.{length-range_with_len, get_or-range_with_len}
use Rattle.sorts.specs.Blank.{no_row}
use Rattle.ascending.specs.Inner.Words.{KeysAscend}
use Rattle.ascending.proofs.all_keys_ascend.Goals as goal

pub returns : goal.returns
returns c =
    let n = c.args.t.count in
    let d = cases_from_all _ _ c.all.result (λ k. KeysAscend (get_or c.args.t.rows k no_row)) (λ k. Unit {0}) c.all.ensures.ran (YieldsList-from_range 0 n n refl (omega arith)) (λ x q k. search (rules, tests)) (λ x q k. tt) in
    λ e i l.
    let f : get_or (range_with_len 0 n) i 0 ≡ i = omega (arith, get_or-range_with_len 0 n i 0 l) in
    subst (λ k. KeysAscend (get_or c.args.t.rows k no_row)) f (MatchBool-at_true _ _ e d i 0 (omega arith) (omega (arith, l, length-range_with_len 0 n)))
