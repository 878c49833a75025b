use Prim.Native.Nat.{ℕ, ◌<◌, ◌≤◌}
use mathlib.Core.Path.{◌≡◌}
use mathlib.Core.List.{List}
use native.Mathlib.Omega.{arith}
use native.Mathlib.Decide.{dec_lt}
use lib.ListN.{length, get_or, get_or-eq_default, drop}
use borrow.Author.Rules.{rules}
use borrow.Author.Tests.{tests}
use Rattle.std.proofs.lemmas.Iterator.{YieldsList-from_slice}
use Rattle.std.proofs.lemmas.Iterator.Adapters.{YieldsList-from_skip}
use Rattle.sorts.specs.declared.Cond.{Cond}
use Rattle.sorts.specs.Blank.{blank_cond}
use Rattle.form.proofs.Deciding.{all_decides, each_left, left_each}
use Rattle.form.proofs.unused_conds_ok.Goals as goal

-- past the end of a list is what stands for a missing item
each_blank : (n : ℕ) (xs : List Cond) → ((j : ℕ) → n ≤ j → j < length xs → get_or xs j blank_cond ≡ blank_cond) → (j : ℕ) → n ≤ j → get_or xs j blank_cond ≡ blank_cond
each_blank n xs h j l = go (dec_lt j (length xs))
  where
    go : Dec (j < length xs) → get_or xs j blank_cond ≡ blank_cond
    go (yes m) = h j l m
    go (no m) = get_or-eq_default xs blank_cond {n = j} (omega (arith, m))

pub returns : goal.returns
returns c =
    let n = c.args.x.count in
    let xs = c.args.x.conds in
    all_decides (drop n xs) blank_cond _ _ c.all.result (λ y. y ≡ blank_cond) c.all.ensures.ran
    (YieldsList-from_skip n (YieldsList-from_slice xs (search rules)) (search rules)) (λ x q k. search (rules, tests)) (λ x q k. search (rules, tests))
    (λ h. each_blank n xs (each_left (λ y. y ≡ blank_cond) n xs blank_cond h))
    (λ h. left_each (λ y. y ≡ blank_cond) n xs blank_cond (λ j l m. h j l))
