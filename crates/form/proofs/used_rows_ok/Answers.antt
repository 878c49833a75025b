use Prim.Native.Nat.{ℕ, ◌<◌}
use mathlib.Core.Path.{◌≡◌, refl, sym, subst}
use native.Mathlib.Omega.{arith}
use lib.ListN.{get_or}
use borrow.Author.Rules.{rules}
use borrow.Author.Tests.{tests}
use Rattle.std.specs.List.{range_with_len}
use Rattle.std.proofs.lemmas.List.FromFn.{length-range_with_len, get_or-range_with_len}
use Rattle.std.proofs.lemmas.Iterator.{YieldsList-from_range}
use Rattle.sorts.specs.Blank.{no_row}
use Rattle.sorts.specs.RowForm.{RowForm}
use Rattle.form.proofs.Deciding.{all_decides}
use Rattle.form.proofs.used_rows_ok.Goals as goal

pub returns : goal.returns
returns c =
    let n = c.args.t.count in
    let P : ℕ → Type 0 = λ i. RowForm i (get_or c.args.t.rows i no_row) in
    let at : (i : ℕ) → i < n → get_or (range_with_len 0 n) i 0 ≡ i = λ i l. omega (arith, get_or-range_with_len 0 n i 0 l) in
    all_decides (range_with_len 0 n) 0 _ _ c.all.result P c.all.ensures.ran
    (YieldsList-from_range 0 n n refl (omega arith)) (λ x q k. search (rules, tests)) (λ x q k. search (rules, tests))
    (λ h i l. subst P (at i l) (h i (omega (arith, l, length-range_with_len 0 n))))
    (λ h k l. let m : k < n = omega (arith, l, length-range_with_len 0 n) in subst P (sym (at k m)) (h k m))
