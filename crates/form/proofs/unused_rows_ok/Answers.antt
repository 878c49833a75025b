use mathlib.Core.Path.{◌≡◌}
use native.Mathlib.Omega.{arith}
use lib.ListN.{length, drop}
use borrow.Author.Rules.{rules}
use borrow.Author.Tests.{tests}
use Rattle.std.proofs.lemmas.Iterator.{YieldsList-from_slice}
use Rattle.std.proofs.lemmas.Iterator.Adapters.{YieldsList-from_skip}
use Rattle.sorts.specs.Numbers.{grants}
use Rattle.sorts.specs.Blank.{blank_row, no_row}
use Rattle.rows.proofs.Deciding.{length_mapped}
use Rattle.form.proofs.Deciding.{all_decides, each_left, left_each}
use Rattle.form.proofs.unused_rows_ok.Goals as goal

pub returns : goal.returns
returns c =
    let n = c.args.t.count in
    let xs = c.args.t.rows in
    let long : length xs ≡ grants = search (rules, length_mapped) in
    all_decides (drop n xs) no_row _ _ c.all.result (λ y. y ≡ blank_row) c.all.ensures.ran
    (YieldsList-from_skip n (YieldsList-from_slice xs (search rules)) (search rules)) (λ x q k. search (rules, tests)) (λ x q k. search (rules, tests))
    (λ h i l m. each_left (λ y. y ≡ blank_row) n xs no_row h i l (omega (arith, m, long)))
    (λ h. left_each (λ y. y ≡ blank_row) n xs no_row (λ i l m. h i l (omega (arith, m, long))))
