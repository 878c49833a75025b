-- A grant's place in N.
use Prim.Native.Nat.{ℕ, zero, suc, ◌<◌}
use mathlib.Core.List.{List, [], ◌∷◌}
use mathlib.Core.Bool.{Bool, true, false, cond}
use mathlib.Core.Path.{◌≡◌, refl, sym, ap, ◌∙◌}
use native.Mathlib.Omega.{arith}
use native.Mathlib.Nat.{le_of_suc-le-suc, not-suc-le-zero}
use lib.ListN.{length, get_or}
use borrow.Author.Tests.{ltb-true, lt-ltb}
use Rattle.rows.specs.Written.{Grant, same_written}
use Rattle.rows.specs.Numbering.{place, has}
use Rattle.rows.specs.Form.{no_grant}
use Rattle.rows.proofs.Bytes.{same_eq, same_refl}

-- no grant stands twice
abbrev pub Distinct : List Grant → Type 0
Distinct N = (i j : ℕ) → i < length N → j < length N → get_or N i no_grant ≡ get_or N j no_grant → i ≡ j

-- what stands at a grant's place is the grant
pub place_at : (g : Grant) (N : List Grant) → place g N < length N → get_or N (place g N) no_grant ≡ g
unfolding place
place_at g [] h = absurd (not-suc-le-zero h)
place_at g (k ∷ N) h = go (same_written g k) refl h (place_at g N)
  where
    go : (b : Bool) → same_written g k ≡ b → cond b 0 (suc (place g N)) < suc (length N) → (place g N < length N → get_or N (place g N) no_grant ≡ g) → get_or (k ∷ N) (cond (same_written g k) 0 (suc (place g N))) no_grant ≡ g
    go true e l r = rw e (sym (same_eq g k e))
    go false e l r = rw e (r (le_of_suc-le-suc l))

-- a grant that stands somewhere has a place
pub place_lt : (g : Grant) (N : List Grant) (i : ℕ) → i < length N → get_or N i no_grant ≡ g → place g N < length N
unfolding place
place_lt g [] i h e = absurd (not-suc-le-zero h)
place_lt g (k ∷ N) zero h e = rw (ap (same_written g) e ∙ same_refl g) (omega arith)
place_lt g (k ∷ N) (suc i) h e = go (same_written g k) refl (place_lt g N i (le_of_suc-le-suc h) e)
  where
    go : (b : Bool) → same_written g k ≡ b → place g N < length N → cond (same_written g k) 0 (suc (place g N)) < suc (length N)
    go true q l = rw q (omega arith)
    go false q l = rw q (omega arith)

-- where no grant stands twice, that is its place
pub place_is : (g : Grant) (N : List Grant) → Distinct N → (i : ℕ) → i < length N → get_or N i no_grant ≡ g → place g N ≡ i
place_is g N d i l e = let p = place_lt g N i l e in d (place g N) i p l (place_at g N p ∙ sym e)

pub has_in : (g : Grant) (N : List Grant) (i : ℕ) → i < length N → get_or N i no_grant ≡ g → has g N ≡ true
unfolding has
has_in g N i l e = lt-ltb (place g N) (length N) (place_lt g N i l e)

pub has_lt : (g : Grant) (N : List Grant) → has g N ≡ true → place g N < length N
unfolding has
has_lt g N e = ltb-true (place g N) (length N) e
