-- What a test that was negated tells.
use mathlib.Core.Path.{◌≡◌, subst}
use mathlib.Core.Bool.{Bool, true, false, not}
use borrow.Author.Tests.{not-true, not-false}
use Rattle.sorts.specs.Decides.{Decides}

pub decided_no : (A : Type 0) (b : Bool) → not b ≡ true → Decides b A → A → ⊥
decided_no A b e d = subst (λ (x : Bool). Decides x A) (not-true b e) d

pub decided_yes : (A : Type 0) (b : Bool) → not b ≡ false → Decides b A → A
decided_yes A b e d = subst (λ (x : Bool). Decides x A) (not-false b e) d
