-- A search with a list for each branch, over any statements: what is on its branch's list is answered no, and the list is
-- lengthened for what is asked below. It answers as the rounds from nothing up do, with every budget, and no budget above the
-- number of statements is used up.
use mathlib.Core.Path.{◌≡◌, refl, sym, subst, ap, ◌∙◌}
use mathlib.Core.Bool.{Bool, true, false, cond}
use mathlib.Core.List.{List, [], ◌∷◌, map}
use mathlib.Core.Logic.{inl, inr}
use Prim.Native.Nat.{ℕ, zero, suc, ◌+◌, ◌≤◌, ◌<◌}
use native.Mathlib.Nat.{not-suc-le-zero, le_of_suc-le-suc}
use native.Mathlib.Omega.{arith}
use borrow.Author.Tests.{eqb-true, eqb-false}
use lib.Dec.{T, eqb}
use lib.ListN.{length}
use Rattle.rules.specs.Standing.{All, Some}
use Rattle.query.specs.Figures.{some}
use Rattle.query.specs.Query.{Single}

-- A list of numbers below n in which none stands twice has at most n.

-- the list without the first a
abbrev less : ℕ → List ℕ → List ℕ
less a [] = []
less a (b ∷ l) = cond (eqb b a) l (b ∷ less a l)

less_length : (a : ℕ) (l : List ℕ) → length l ≤ suc (length (less a l))
less_length a [] = omega arith
less_length a (b ∷ l) = go (eqb b a) (less_length a l)
  where
    go : (t : Bool) → length l ≤ suc (length (less a l)) → suc (length l) ≤ suc (length (cond t l (b ∷ less a l)))
    go true h = omega arith
    go false h = omega arith

less_some : (a c : ℕ) (l : List ℕ) → Some (λ d. c ≡ d) (less a l) → Some (λ d. c ≡ d) l
less_some a c [] h = h
less_some a c (b ∷ l) h = go (eqb b a) (less_some a c l) h
  where
    go : (t : Bool) → (Some (λ d. c ≡ d) (less a l) → Some (λ d. c ≡ d) l) → Some (λ d. c ≡ d) (cond t l (b ∷ less a l)) → Some (λ d. c ≡ d) (b ∷ l)
    go true ih k = inr k
    go false ih (inl e) = inl e
    go false ih (inr k) = inr (ih k)

less_single : (a : ℕ) (l : List ℕ) → Single l → Single (less a l)
less_single a [] s = tt
less_single a (b ∷ l) s = go (eqb b a) (less_single a l s.1)
  where
    go : (t : Bool) → Single (less a l) → Single (cond t l (b ∷ less a l))
    go true r = s.1
    go false r = (λ h. s.0 (less_some a b l h), r)

below_other : (n : ℕ) (l : List ℕ) → All (λ d. d < suc n) l → (Some (λ d. n ≡ d) l → ⊥) → All (λ d. d < n) l
below_other n [] h f = tt
below_other n (b ∷ l) h f =
    let d : n ≡ b → ⊥ = λ e. f (inl e) in
    (omega (arith, h.0, d), below_other n l h.1 (λ k. f (inr k)))

less_below : (n : ℕ) (l : List ℕ) → All (λ d. d < suc n) l → Single l → All (λ d. d < n) (less n l)
less_below n [] h s = tt
less_below n (b ∷ l) h s = go (eqb b n) refl (less_below n l h.1 s.1)
  where
    go : (t : Bool) → eqb b n ≡ t → All (λ d. d < n) (less n l) → All (λ d. d < n) (cond t l (b ∷ less n l))
    go true e ih = let q : b ≡ n = eqb-true b n e in below_other n l h.1 (subst (λ (m : ℕ). Some (λ d. m ≡ d) l → ⊥) q s.0)
    go false e ih = let q : b ≡ n → ⊥ = eqb-false b n e in (omega (arith, h.0, q), ih)

pigeons : (n : ℕ) (l : List ℕ) → All (λ d. d < n) l → Single l → length l ≤ n
pigeons zero [] h s = omega arith
pigeons zero (b ∷ l) h s = absurd (not-suc-le-zero h.0)
pigeons (suc n) l h s = omega (arith, less_length n l, pigeons n (less n l) (less_below n l h s) (less_single n l s))

pub same_answer : (a b : Bool) → (T a → T b) → (T b → T a) → a ≡ b
same_answer true true f g = refl
same_answer true false f g = absurd (f tt)
same_answer false true f g = absurd (g tt)
same_answer false false f g = refl

-- A search on a budget; a question that the budget does not reach is answered no.
abbrev pub walk : {X : Type 0} → (X → X → Bool) → ((X → Bool) → X → Bool) → ℕ → X → List X → Bool
walk eq F zero x E = false
walk eq F (suc k) x E = cond (some (eq x) E) false (F (λ y. walk eq F k y (x ∷ E)) x)

-- What is asked of the statements X, of which those in R are numbered below N: F says which statements follow from others, and more
-- of them give no fewer.
pub record Search {X : Type 0} (eq : X → X → Bool) (R : X → Type 0) (num : X → ℕ) (N : ℕ) (F : (X → Bool) → X → Bool) : Type 0 where
  pub same : (x y : X) → T (eq x y) → x ≡ y
  pub differ : (x y : X) → (T (eq x y) → ⊥) → x ≡ y → ⊥
  pub num_lt : (x : X) → R x → num x < N
  pub num_is : (x y : X) → R x → R y → num x ≡ num y → x ≡ y
  pub mono : (a b : X → Bool) → ((y : X) → R y → T (a y) → T (b y)) → (x : X) → R x → T (F a x) → T (F b x)

-- the rounds from nothing up
abbrev pub rounds : {X : Type 0} → ((X → Bool) → X → Bool) → ℕ → X → Bool
rounds F zero x = false
rounds F (suc k) x = F (rounds F k) x

module _ {X : Type 0} {eq : X → X → Bool} {R : X → Type 0} {num : X → ℕ} {N : ℕ} {F : (X → Bool) → X → Bool}
    (s : Search eq R num N F) where
  abbrev q : ℕ → X → List X → Bool
  q k x E = walk eq F k x E

  listed : (x : X) (E : List X) → T (some (eq x) E) → Some (λ y. x ≡ y) E
  listed x [] h = h
  listed x (y ∷ E) h = go (eq x y) (s.same x y) (listed x E) h
    where
      go : (t : Bool) → (T t → x ≡ y) → (T (some (eq x) E) → Some (λ y. x ≡ y) E) → T (cond t true (some (eq x) E)) → Some (λ y. x ≡ y) (y ∷ E)
      go true f ih k = inl (f tt)
      go false f ih k = inr (ih k)

  unlisted : (x : X) (E : List X) → (T (some (eq x) E) → ⊥) → Some (λ y. x ≡ y) E → ⊥
  unlisted x [] h k = k
  unlisted x (y ∷ E) h k = go (eq x y) (s.differ x y) (unlisted x E) h k
    where
      go : (t : Bool) → ((T t → ⊥) → x ≡ y → ⊥) → ((T (some (eq x) E) → ⊥) → Some (λ y. x ≡ y) E → ⊥) → (T (cond t true (some (eq x) E)) → ⊥) → Some (λ y. x ≡ y) (y ∷ E) → ⊥
      go true f ih g k' = g tt
      go false f ih g (inl e) = f (λ h'. h') e
      go false f ih g (inr k') = ih g k'

  -- a question that was answered yes is not listed and follows from what was answered yes below
  asked : (k : ℕ) (x : X) (E : List X) → T (q (suc k) x E) → (Some (λ y. x ≡ y) E → ⊥) × T (F (λ y. q k y (x ∷ E)) x)
  asked k x E h = go (some (eq x) E) (unlisted x E) h
    where
      go : (t : Bool) → ((T t → ⊥) → Some (λ y. x ≡ y) E → ⊥) → T (cond t false (F (λ y. q k y (x ∷ E)) x)) → (Some (λ y. x ≡ y) E → ⊥) × T (F (λ y. q k y (x ∷ E)) x)
      go true f h' = absurd h'
      go false f h' = (f (λ u. u), h')

  answered : (k : ℕ) (x : X) (E : List X) → (Some (λ y. x ≡ y) E → ⊥) → T (F (λ y. q k y (x ∷ E)) x) → T (q (suc k) x E)
  answered k x E d h = go (some (eq x) E) (listed x E)
    where
      go : (t : Bool) → (T t → Some (λ y. x ≡ y) E) → T (cond t false (F (λ y. q k y (x ∷ E)) x))
      go true f = absurd (d (f tt))
      go false f = h

  -- Soundness: what is answered yes is in every set that has what follows from it.
  pub search_sound : (P : X → Type 0) → ((a : X → Bool) → ((y : X) → R y → T (a y) → P y) → (x : X) → R x → T (F a x) → P x) →
      (k : ℕ) (x : X) (E : List X) → R x → T (q k x E) → P x
  search_sound P c zero x E r h = absurd h
  search_sound P c (suc k) x E r h = c (λ y. q k y (x ∷ E)) (λ y. search_sound P c k y (x ∷ E)) x r (asked k x E h).1

  -- it is had in as many rounds as the budget has
  in_rounds : (k : ℕ) (x : X) (E : List X) → R x → T (q k x E) → T (rounds F k x)
  in_rounds zero x E r h = absurd h
  in_rounds (suc k) x E r h = s.mono (λ y. q k y (x ∷ E)) (rounds F k) (λ y. in_rounds k y (x ∷ E)) x r (asked k x E h).1

  rounds_up : (k : ℕ) (x : X) → R x → T (rounds F k x) → T (rounds F (suc k) x)
  rounds_up zero x r h = absurd h
  rounds_up (suc k) x r h = s.mono (rounds F k) (rounds F (suc k)) (rounds_up k) x r h

  -- Completeness: what is had in k rounds is answered yes, with a budget of at least k, on every list of what is not had in k rounds.
  -- Where it is not had in fewer, its own needs are had in fewer, and it may stand on their list.
  of_rounds : (k f : ℕ) (x : X) (E : List X) → R x → k ≤ f → ((y : X) → R y → Some (λ e. y ≡ e) E → T (rounds F k y) → ⊥) → T (rounds F k x) → T (q f x E)
  of_rounds zero f x E r l d h = absurd h
  of_rounds (suc k) zero x E r l d h = absurd (not-suc-le-zero l)
  of_rounds (suc k) (suc f) x E r l d h = go (rounds F k x) refl (of_rounds k (suc f) x E r (omega arith)) (of_rounds k f)
    where
      low : (y : X) → R y → Some (λ e. y ≡ e) E → T (rounds F k y) → ⊥
      low y ry m t = d y ry m (rounds_up k y ry t)

      go : (t : Bool) → rounds F k x ≡ t → (((y : X) → R y → Some (λ e. y ≡ e) E → T (rounds F k y) → ⊥) → T (rounds F k x) → T (q (suc f) x E)) →
          ((y : X) (E' : List X) → R y → k ≤ f → ((z : X) → R z → Some (λ e. z ≡ e) E' → T (rounds F k z) → ⊥) → T (rounds F k y) → T (q f y E')) → T (q (suc f) x E)
      go true e before ih = before low (subst T (sym e) tt)
      go false e before ih =
          answered f x E (λ m. d x r m h)
          (s.mono (rounds F k) (λ y. q f y (x ∷ E))
          (λ y ry t. ih y (x ∷ E) ry (le_of_suc-le-suc l) (λ z rz m. new z rz m) t) x r h)
        where
          new : (z : X) → R z → Some (λ e'. z ≡ e') (x ∷ E) → T (rounds F k z) → ⊥
          new z rz (inl p) t = subst T e (subst (λ (w : X). T (rounds F k w)) p t)
          new z rz (inr m) t = low z rz m t

  -- the numbers of what is on a list
  numbers_below : (E : List X) → All R E → All (λ n. n < N) (map num E)
  numbers_below [] a = tt
  numbers_below (x ∷ E) a = (s.num_lt x a.0, numbers_below E a.1)

  number_listed : (x : X) (E : List X) → R x → All R E → Some (λ n. num x ≡ n) (map num E) → Some (λ y. x ≡ y) E
  number_listed x [] r a h = h
  number_listed x (y ∷ E) r a (inl e) = inl (s.num_is x y r a.0 e)
  number_listed x (y ∷ E) r a (inr h) = inr (number_listed x E r a.1 h)

  numbers_single : (E : List X) → All R E → Single E → Single (map num E)
  numbers_single [] a d = tt
  numbers_single (x ∷ E) a d = (λ h. d.0 (number_listed x E a.0 a.1 h), numbers_single E a.1 d.1)

  numbers_length : (E : List X) → length (map num E) ≡ length E
  numbers_length [] = refl
  numbers_length (x ∷ E) = ap suc (numbers_length E)

  -- no more is listed than there are
  over : (E : List X) → All R E → Single E → N < length E → ⊥
  over E a d l = not-suc-le-zero {n = 0} (omega (arith, numbers_length E, pigeons N (map num E) (numbers_below E a) (numbers_single E a d)))

  -- one more in the budget loses no yes
  up_one : (k : ℕ) (x : X) (E : List X) → R x → T (q k x E) → T (q (suc k) x E)
  up_one zero x E r h = absurd h
  up_one (suc k) x E r h =
      let u = asked k x E h in
      answered (suc k) x E u.0 (s.mono (λ y. q k y (x ∷ E)) (λ y. q (suc k) y (x ∷ E)) (λ y ry. up_one k y (x ∷ E) ry) x r u.1)

  -- The budget is never used up: with more statements on the list and in the budget than there are, one more makes no difference.
  steady : (k : ℕ) (x : X) (E : List X) → R x → All R E → Single E → N < k + length E → T (q (suc k) x E) → T (q k x E)
  steady zero x E r a d l h = absurd (over E a d (omega arith))
  steady (suc k) x E r a d l h =
      let u = asked (suc k) x E h in
      answered k x E u.0
      (s.mono (λ y. q (suc k) y (x ∷ E)) (λ y. q k y (x ∷ E)) (λ y ry. steady k y (x ∷ E) ry (r, a) (u.0, d) (omega arith)) x r u.1)

  -- what follows from what is answered yes is answered yes
  pub search_closed : (k : ℕ) → N < k → (x : X) → R x → T (F (λ y. q k y []) x) → T (q k x [])
  search_closed k l x r h =
      steady k x [] r tt tt (omega arith)
      (of_rounds (suc k) (suc k) x [] r (omega arith) (λ y ry m t. m) (s.mono (λ y. q k y []) (rounds F k) (λ y ry. in_rounds k y [] ry) x r h))

  same_step : (a b : X → Bool) → ((y : X) → R y → a y ≡ b y) → (x : X) → R x → F a x ≡ F b x
  same_step a b f x r = same_answer (F a x) (F b x) (s.mono a b (λ y ry. subst T (f y ry)) x r) (s.mono b a (λ y ry. subst T (sym (f y ry))) x r)

  -- two steps are the same where, for a question that is not listed, what they ask below is answered the same
  same_below : (x : X) (E : List X) → R x → (a b : X → Bool) → ((Some (λ y. x ≡ y) E → ⊥) → (y : X) → R y → a y ≡ b y) →
      cond (some (eq x) E) false (F a x) ≡ cond (some (eq x) E) false (F b x)
  same_below x E r a b f = go (some (eq x) E) (unlisted x E)
    where
      go : (t : Bool) → ((T t → ⊥) → Some (λ y. x ≡ y) E → ⊥) → cond t false (F a x) ≡ cond t false (F b x)
      go true u = refl
      go false u = same_step a b (f (u (λ v. v))) x r

  -- The search's equation, with no budget, of a function of a statement and a list.
  abbrev pub Solves : (X → List X → Bool) → Type 0
  Solves p = (x : X) (E : List X) → R x → All R E → Single E → p x E ≡ cond (some (eq x) E) false (F (λ y. p y (x ∷ E)) x)

  -- The search on a budget above the number of statements satisfies it.
  search_solves : Solves (q (suc N))
  search_solves x E r a d =
      same_below x E r (λ y. q N y (x ∷ E)) (λ y. q (suc N) y (x ∷ E)) (λ u y ry.
      same_answer (q N y (x ∷ E)) (q (suc N) y (x ∷ E)) (up_one N y (x ∷ E) ry) (steady N y (x ∷ E) ry (r, a) (u, d) (omega arith)))

  -- Whatever takes the search's step gives its answers, where the budget and the list have more statements than there are:
  -- whatever it answers where the budget is used up, and whether there is one.
  pub ends : (p : ℕ → X → List X → Bool) →
      ((k : ℕ) (x : X) (E : List X) → R x → All R E → Single E → p (suc k) x E ≡ cond (some (eq x) E) false (F (λ y. p k y (x ∷ E)) x)) →
      (k : ℕ) (x : X) (E : List X) → R x → All R E → Single E → N < k + length E → p k x E ≡ q (suc N) x E
  ends p g zero x E r a d l = absurd (over E a d (omega arith))
  ends p g (suc k) x E r a d l =
      g k x E r a d
      ∙ same_below x E r (λ y. p k y (x ∷ E)) (λ y. q (suc N) y (x ∷ E)) (λ u y ry. ends p g k y (x ∷ E) ry (r, a) (u, d) (omega arith))
      ∙ sym (search_solves x E r a d)

  -- so it satisfies the equation with no budget
  pub solved : (p : ℕ → X → List X → Bool) →
      ((k : ℕ) (x : X) (E : List X) → R x → All R E → Single E → p (suc k) x E ≡ cond (some (eq x) E) false (F (λ y. p k y (x ∷ E)) x)) → Solves (p (suc N))
  solved p g x E r a d =
      ends p g (suc N) x E r a d (omega arith)
      ∙ search_solves x E r a d
      ∙ same_below x E r (λ y. q (suc N) y (x ∷ E)) (λ y. p (suc N) y (x ∷ E)) (λ u y ry. sym (ends p g (suc N) y (x ∷ E) ry (r, a) (u, d) (omega arith)))

  -- another rule that gives the same gives the same search
  pub walk_same : (G : (X → Bool) → X → Bool) → ((a : X → Bool) (x : X) → R x → G a x ≡ F a x) → (k : ℕ) (x : X) (E : List X) → R x → walk eq G k x E ≡ q k x E
  walk_same G g zero x E r = refl
  walk_same G g (suc k) x E r =
      ap (cond (some (eq x) E) false)
      (g (λ y. walk eq G k y (x ∷ E)) x r ∙ same_step (λ y. walk eq G k y (x ∷ E)) (λ y. q k y (x ∷ E)) (λ y ry. walk_same G g k y (x ∷ E) ry) x r)

  -- By budget alone, without the lists, the answers are the same, with every budget.
  pub rounds_same : (k : ℕ) (x : X) → R x → rounds F k x ≡ q k x []
  rounds_same k x r =
      same_answer (rounds F k x) (q k x []) (of_rounds k k x [] r (omega arith) (λ y ry m t. m)) (in_rounds k x [] r)
