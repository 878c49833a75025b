use Prim.Native.Nat.{ℕ, ◌<◌}
use mathlib.Core.List.{List}
use native.Mathlib.Omega.{arith}
use native.Mathlib.Decide.{dec_lt}
use borrow.Author.Rules.{rules}
use borrow.Author.Tests.{tests}
use Rattle.sorts.specs.declared.Status.TheVariants.{Issued}
use Rattle.sorts.specs.Flags.{flag_place}
use Rattle.bookform.specs.Changes.{Unflagged, FlagsApart}
use Rattle.bookform.specs.Inner.Rows.{ApartAt}
use Rattle.bookform.proofs.flags.Ranges.{all_decides}
use Rattle.bookform.proofs.flags.changes.apart.Goals as goal

all_apart : (flags : List ℕ) (count : ℕ) → Unflagged flags count → ((g : ℕ) → g < count → ApartAt flags g) → FlagsApart flags
all_apart flags count u h p g l e f = go (dec_lt g count)
  where
    go : Dec (g < count) → ⊥
    go (yes m) = h g m p l (e, f)
    go (no m) = omega (arith, e, u (flag_place (Issued p) g) (omega arith))

pub returns : goal.returns
returns c =
    all_decides _ _ _ c.all.result (ApartAt c.args.flags.now) c.all.ensures.ran (λ x q k. search (rules, tests)) (λ x q k. search (rules, tests))
    (λ h. all_apart c.args.flags.now c.args.count c.requires.1 (λ g m. h g (omega arith) m)) (λ h g l m p k e. h p g k e.0 e.1)
