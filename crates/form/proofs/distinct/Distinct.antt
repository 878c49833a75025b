-- Whether a row is none of those before it, by the search for it among those.
use Prim.Native.Nat.{ℕ, ◌<◌, ◌≤◌}
use mathlib.Core.Bool.{Bool, true, false, not}
use mathlib.Core.Path.{◌≡◌, refl, sym, ◌∙◌}
use mathlib.Core.List.{List}
use native.Mathlib.Omega.{arith}
use lib.ListN.{length, get_or, take}
use lib.Seq.{length-take-le}
use Rattle.std.specs.Bool.{Decides as Test}
use Rattle.std.specs.List.{HoldsAt, IsAnyAnswer}
use Rattle.std.proofs.lemmas.Bool.{false≢true}
use Rattle.std.proofs.lemmas.List.{get_or-take, get_or_default}
use Rattle.std.proofs.lemmas.List.Elements.{contains_decides}
use Rattle.sorts.specs.declared.Row.{Row}
use Rattle.sorts.specs.Blank.{no_row}
use Rattle.sorts.specs.Decides.{Decides}
use Rattle.sorts.specs.contracts.RowPartialEq.TheImpl as row
use Rattle.sorts.proofs.Same.{row_same}

pub none_before : (rows : List Row) (i : ℕ) (x : Row) (r : Bool) → i ≤ length rows → IsAnyAnswer (λ y t. row.ghosts.eq y x ≡ t) (take i rows) r →
    Decides (not r) ((j : ℕ) → j < i → get_or rows j no_row ≡ x → ⊥)
none_before rows i x r l h = go r (contains_decides row.ghosts.eq row_same (take i rows) x r h)
  where
    long : length (take i rows) ≡ i
    long = length-take-le i rows l

    Among : Type 0
    Among = (k : ℕ) × (k < length (take i rows)) × HoldsAt (λ y. y ≡ x) (take i rows) k

    go : (b : Bool) → Test b Among → Decides (not b) ((j : ℕ) → j < i → get_or rows j no_row ≡ x → ⊥)
    go true d = λ f. let w = d.0 refl in f w.0 (omega (arith, w.1, long)) (sym (get_or-take i rows w.0 no_row (omega (arith, w.1, long))) ∙ w.2 no_row)
    go false d = λ j k e. false≢true (d.1 (j, omega (arith, long), λ z. get_or_default (take i rows) j z no_row (omega (arith, long)) ∙ get_or-take i rows j no_row k ∙ e))
