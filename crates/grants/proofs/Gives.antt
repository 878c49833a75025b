-- What a reader gives: a fact of every value that it may find, from the facts of its steps.
use Prim.Native.Nat.{ℕ}
use mathlib.Core.Path.{◌≡◌, refl}
use mathlib.Core.Bool.{Bool, true, false, cond}
use Rattle.sorts.specs.declared.Refusal.{Refusal}
use Rattle.frames.specs.Bytes.{Outcome, got, refused, and_then}

-- P holds of what o found and of the place after it
abbrev pub Gives : {A : Type 0} → (A → ℕ → Type 0) → Outcome A → Type 0
Gives {A} P o = (a : A) (n : ℕ) → o ≡ got a n → P a n

-- what was found
pub done : {A : Type 0} (P : A → ℕ → Type 0) (a : A) (n : ℕ) → P a n → Gives P (got a n)
done P a n x b m e =
    let p : a ≡ b = cc in
    let q : n ≡ m = cc in
    rw (p, q) at x

-- a refusal finds nothing
pub not_got : {A : Type 0} (P : A → ℕ → Type 0) (k : Refusal) → Gives P (refused k)
not_got P k b m e = cc

-- one reader after another
pub after : {A B : Type 0} (P : A → ℕ → Type 0) (Q : B → ℕ → Type 0) (o : Outcome A) (f : A → ℕ → Outcome B) →
    Gives P o → ((a : A) (n : ℕ) → P a n → Gives Q (f a n)) → Gives Q (and_then o f)
after P Q (got a n) f h k = k a n (h a n refl)
after P Q (refused j) f h k = not_got Q j

-- one of two readers
pub choose : {A : Type 0} (P : A → ℕ → Type 0) (b : Bool) (x y : Outcome A) → (b ≡ true → Gives P x) → (b ≡ false → Gives P y) → Gives P (cond b x y)
choose P true x y h k = h refl
choose P false x y h k = k refl
