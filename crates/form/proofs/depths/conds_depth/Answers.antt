use mathlib.Core.Path.{◌≡◌, ◌∙◌}
use Prim.Native.Nat.{max}
use lib.ListN.{length}
use borrow.Author.Rules.{rules}
use Rattle.rows.proofs.Deciding.{length_mapped}
use Rattle.std.proofs.lemmas.Iterator.{YieldsList-from_slice}
use Rattle.std.proofs.lemmas.Iterator.Consumers.{fold_from_yields_List}
use Rattle.sorts.specs.Numbers.{conditions}
use Rattle.form.specs.Inner.Depths.{depth_of_concl}
use Rattle.form.proofs.depths.Depths.{conds_fold}
use Rattle.form.proofs.depths.conds_depth.Goals as goal

pub returns : goal.returns
returns c =
    let depths = c.args.depths in
    let cs = c.args.x.conds in
    let long : length cs ≡ conditions = search (rules, length_mapped) in
    fold_from_yields_List _ (λ a x. max a (depth_of_concl depths x.what)) 0 c.fold.result c.fold.ensures.ran (YieldsList-from_slice cs (search rules)) (λ a x b q k. search rules)
    ∙ conds_fold depths cs long
