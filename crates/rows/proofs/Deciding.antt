-- Tests and what they decide; what holds of each number that a loop has passed; and how long an array in a struct is.
use Prim.Native.Nat.{ℕ, ◌+◌, ◌<◌}
use mathlib.Core.Bool.{Bool, true, false}
use mathlib.Core.List.{List, map}
use mathlib.Core.Path.{◌≡◌, refl, sym, subst, ◌∙◌}
use native.Mathlib.Omega.{arith}
use lib.ListN.{length, length-map}
use lib.Dec.{eqb, ltb}
use borrow.Author.Tests.{ltb-true, ltb-false, eqb-true, eqb-false}
use Rattle.sorts.specs.Decides.{Decides}
use Rattle.rows.proofs.Bytes.{no_true}

-- A test decides what holds where it does, and only there.
pub test_decides : {A : Type 0} (r : Bool) → (r ≡ true → A) → (A → r ≡ true) → Decides r A
test_decides true f g = f refl
test_decides false f g = λ x. no_true (g x)

pub eq_decides : {A : Type 0} (a b : ℕ) → (a ≡ b → A) → (A → a ≡ b) → Decides (eqb a b) A
eq_decides {A} a b f g = go (eqb a b) refl
  where
    go : (r : Bool) → eqb a b ≡ r → Decides r A
    go true q = f (eqb-true a b q)
    go false q = λ x. eqb-false a b q (g x)

-- What holds of each number below n, and of n, holds of each below n + 1.
pub each_more : (P : ℕ → Type 0) (n : ℕ) → ((i : ℕ) → i < n → P i) → P n → (i : ℕ) → i < n + 1 → P i
each_more P n old last i h = go (ltb i n) refl
  where
    go : (b : Bool) → ltb i n ≡ b → P i
    go true q = old i (ltb-true i n q)
    go false q = let l = ltb-false i n q in let e : i ≡ n = omega arith in subst P (sym e) last

-- A list is as long as what is made of it element by element, which is what a struct tells of an array in it.
pub length_mapped : (X Y : Type 0) (f : X → Y) (l : List X) (n : ℕ) → length (map f l) ≡ n → length l ≡ n
length_mapped X Y f l n e = sym (length-map l f) ∙ e
