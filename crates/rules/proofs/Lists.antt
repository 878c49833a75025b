-- All of a list, some of a list, and lists joined.
use mathlib.Core.Path.{◌≡◌, refl, sym, subst}
use mathlib.Core.List.{List, [], ◌∷◌, ◌++◌}
use mathlib.Core.Logic.{◌⊎◌, inl, inr, ⊎_elim}
use Prim.Native.Nat.{ℕ, zero, suc, ◌+◌, ◌<◌}
use native.Mathlib.Nat.{not-suc-le-zero, le_refl}
use native.Mathlib.Numerals.{add-one}
use native.Mathlib.Omega.{arith}
use native.Mathlib.Decide.{ℕ_discrete}
use Rattle.rules.specs.Standing.{All, Some, each, on}

module _ {A : Type 0} where
  pub all_map : (P Q : A → Type 0) (xs : List A) → ((x : A) → P x → Q x) → All P xs → All Q xs
  all_map P Q [] f h = tt
  all_map P Q (x ∷ xs) f h = (f x h.0, all_map P Q xs f h.1)

  pub some_map : (P Q : A → Type 0) (xs : List A) → ((x : A) → P x → Q x) → Some P xs → Some Q xs
  some_map P Q [] f h = absurd h
  some_map P Q (x ∷ xs) f (inl h) = inl (f x h)
  some_map P Q (x ∷ xs) f (inr h) = inr (some_map P Q xs f h)

  -- where P holds of all, and of each list some has Q if it has P
  some_apply : (P Q : A → Type 0) (xs : List A) → All P xs → Some (λ x. P x → Q x) xs → Some Q xs
  some_apply P Q [] p h = absurd h
  some_apply P Q (x ∷ xs) p (inl h) = inl (h p.0)
  some_apply P Q (x ∷ xs) p (inr h) = inr (some_apply P Q xs p.1 h)

  pub some_one : (P : A → Type 0) (x : A) → Some P (x ∷ []) → P x
  some_one P x (inl h) = h
  some_one P x (inr h) = absurd h

  module _ (P : A → Type 0) where
    pub some_join : (xs ys : List A) → Some P (xs ++ ys) → Some P xs ⊎ Some P ys
    some_join [] ys h = inr h
    some_join (x ∷ xs) ys (inl h) = inl (inl h)
    some_join (x ∷ xs) ys (inr h) = ⊎_elim (λ u. inl (inr u)) (λ u. inr u) (some_join xs ys h)

    pub some_each : (n : ℕ) (f : ℕ → List A) → Some P (each n f) → (k : ℕ) × (k < n) × Some P (f k)
    some_each zero f h = absurd h
    some_each (suc n) f h =
        ⊎_elim (λ u. let w = some_each n f u in (w.0, omega (arith, w.1), w.2)) (λ u. (n, le_refl (suc n), u)) (some_join (each n f) (f n) h)

    pub all_join : (xs ys : List A) → All P xs → All P ys → All P (xs ++ ys)
    all_join [] ys h k = k
    all_join (x ∷ xs) ys h k = (h.0, all_join xs ys h.1 k)

    pub all_left : (xs ys : List A) → All P (xs ++ ys) → All P xs
    all_left [] ys h = tt
    all_left (x ∷ xs) ys h = (h.0, all_left xs ys h.1)

    pub all_right : (xs ys : List A) → All P (xs ++ ys) → All P ys
    all_right [] ys h = h
    all_right (x ∷ xs) ys h = all_right xs ys h.1

    pub each_all : (n : ℕ) (f : ℕ → List A) → ((k : ℕ) → k < n → All P (f k)) → All P (each n f)
    each_all zero f h = tt
    each_all (suc n) f h = all_join (each n f) (f n) (each_all n f (λ k l. h k (omega arith))) (h n (le_refl (suc n)))

    pub all_each : (n : ℕ) (f : ℕ → List A) → All P (each n f) → (k : ℕ) → k < n → All P (f k)
    all_each zero f h k l = absurd (not-suc-le-zero l)
    all_each (suc n) f h k l = go (ℕ_discrete k n) (λ d. all_each n f (all_left (each n f) (f n) h) k d)
      where
        go : Dec (k ≡ n) → (k < n → All P (f k)) → All P (f k)
        go (yes e) below = subst (λ (j : ℕ). All P (f j)) (sym e) (all_right (each n f) (f n) h)
        go (no d) below = below (omega arith)

    pub each_more : (n : ℕ) (f : ℕ → List A) → All P (each n f) → All P (f n) → All P (each (n + 1) f)
    each_more n f h k = subst (λ (i : ℕ). All P (each i f)) (sym (add-one n)) (all_join (each n f) (f n) h k)

    pub on_all : (n : ℕ) (xs : List A) → ((n ≡ 0 → ⊥) → All P xs) → All P (on n xs)
    on_all zero xs h = tt
    on_all (suc n) xs h = h (λ e. omega arith)

    pub all_on : (n : ℕ) (xs : List A) → All P (on n xs) → (n ≡ 0 → ⊥) → All P xs
    all_on zero xs h d = absurd (d refl)
    all_on (suc n) xs h d = h

module _ {A : Type 0} where
  -- of each list some
  pub met_map : (P Q : A → Type 0) (xss : List (List A)) → ((x : A) → P x → Q x) → All (Some P) xss → All (Some Q) xss
  met_map P Q xss f h = all_map (Some P) (Some Q) xss (λ xs. some_map P Q xs f) h

  pub met_apply : (P Q : A → Type 0) (xss : List (List A)) → All (All P) xss → All (Some (λ x. P x → Q x)) xss → All (Some Q) xss
  met_apply P Q [] p h = tt
  met_apply P Q (xs ∷ xss) p h = (some_apply P Q xs p.0 h.0, met_apply P Q xss p.1 h.1)
