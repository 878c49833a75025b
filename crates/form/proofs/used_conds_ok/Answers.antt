use Prim.Native.Nat.{◌<◌}
use mathlib.Core.Path.{◌≡◌, sym, subst}
use native.Mathlib.Omega.{arith}
use lib.ListN.{length, take}
use lib.Seq.{get_or-take}
use borrow.Author.Rules.{rules}
use borrow.Author.Tests.{tests}
use Rattle.std.proofs.lemmas.List.{length-take-le}
use Rattle.std.proofs.lemmas.Iterator.{YieldsList-from_slice}
use Rattle.sorts.specs.Numbers.{conditions}
use Rattle.sorts.specs.Blank.{blank_cond}
use Rattle.sorts.specs.RowForm.{CondForm}
use Rattle.rows.proofs.Deciding.{length_mapped}
use Rattle.form.proofs.Deciding.{all_decides}
use Rattle.form.proofs.used_conds_ok.Goals as goal

pub returns : goal.returns
returns c =
    let n = c.args.x.count in
    let xs = c.args.x.conds in
    let P = CondForm c.args.i c.args.x.prins c.args.x.res in
    let long : length xs ≡ conditions = search (rules, length_mapped) in
    let few : length (take n xs) ≡ n = length-take-le n xs (omega (arith, c.requires, long)) in
    all_decides (take n xs) blank_cond _ _ c.all.result P c.all.ensures.ran
    (YieldsList-from_slice (take n xs) (search rules)) (λ x q k. search (rules, tests)) (λ x q k. search (rules, tests))
    (λ h j l. subst P (get_or-take n xs j blank_cond l) (h j (omega (arith, l, few))))
    (λ h k l. let m : k < n = omega (arith, l, few) in subst P (sym (get_or-take n xs k blank_cond m)) (h k m))
