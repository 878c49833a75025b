use Prim.Native.Nat.{ℕ, ◌≤◌, ◌<◌}
use mathlib.Core.Path.{◌≡◌, sym, subst}
use mathlib.Core.List.{List}
use native.Mathlib.Omega.{arith}
use lib.ListN.{get_or}
use borrow.Author.Rules.{rules}
use borrow.Author.Tests.{tests}
use Rattle.std.specs.declared.option.Option.{Option}
use Rattle.std.specs.declared.option.Option.TheVariants.{None, Some}
use Rattle.std.specs.Option.{MatchOption, unwrap_or}
use Rattle.std.proofs.lemmas.Iterator.{first_from_Range}
use Rattle.ascending.specs.Inner.Words.{First}
use Rattle.ascending.proofs.first_apart.Goals as goal

module _ (v w : List ℕ) where
  abbrev Same : ℕ → Type 0
  Same k = get_or v k 0 ≡ get_or w k 0

  -- the first of the places below 5 at which they differ, or else 5
  first_of_five : (o : Option ℕ) → MatchOption o ((k : ℕ) → 0 ≤ k → k < 5 → Same k) (λ i. (0 ≤ i) × (i < 5) × (Same i → ⊥) × ((k : ℕ) → 0 ≤ k → k < i → Same k)) → First v w (unwrap_or o 5)
  first_of_five None h = record { inside = omega arith; same = λ l m. h l (omega arith) m; apart = λ m. absurd (omega arith) }
  first_of_five (Some i) h = record { inside = omega (arith, h.1); same = λ l m. h.3 l (omega arith) m; apart = λ m. h.2 }

pub returns : goal.returns
returns c =
    let v = c.args.v.now in
    let w = c.args.w.now in
    let d = first_from_Range _ _ _ c.find.result (λ k. Same v w k → ⊥) (Same v w) c.find.ensures.ran (λ x q k. search (rules, tests)) (λ x q k. search (rules, tests)) in
    subst (First v w) (sym c.unwrap_or.ensures) (first_of_five v w c.find.result d)
