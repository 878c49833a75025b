-- The figures' loops over licences, grants and closed substitutions, read as the three rules read them.
use mathlib.Core.Path.{◌≡◌, refl, sym, ap, subst, ◌∙◌}
use mathlib.Core.Bool.{Bool, true, false, cond}
use mathlib.Core.List.{List, [], ◌∷◌, ◌++◌}
use mathlib.Core.Logic.{◌⊎◌, inl, inr, ⊎_elim}
use Prim.Native.Nat.{ℕ, zero, suc, ◌<◌}
use native.Mathlib.Nat.{not-suc-le-zero}
use native.Mathlib.Omega.{arith}
use native.Mathlib.Decide.{ℕ_discrete}
use lib.Dec.{T, eqb, eqb→eq, eqb_refl}
use Rattle.sorts.specs.declared.Row.{Row}
use Rattle.sorts.specs.declared.Status.{Status}
use Rattle.sorts.specs.declared.Status.TheVariants.{Trusted, Issued, Provisional}
use Rattle.rows.specs.Written.{Grant}
use Rattle.rows.specs.Numbering.{place}
use Rattle.rows.specs.Form.{row_of}
use Rattle.rules.specs.Rules.{granted, issue_mark, first_values, second_values, resource_values}
use Rattle.rules.specs.Standing.{All, Some, each}
use Rattle.rules.proofs.Lists.{some_each, some_one, some_join}
use Rattle.machine.specs.Machine.{State, Entry, same_entry, member, entry}
use Rattle.machine.proofs.Sets.{entry_refl, member_cases}
use Rattle.query.specs.Figures.{Chosen, Said, Condition, some, condition_under, conditions_of, conditions, issued_by, allowed, holds2, Licence, licence_of, trusted_of, licences, trusts}

-- tests on lists

abbrev pub every : {A : Type 0} → (A → Bool) → List A → Bool
every f [] = true
every f (a ∷ l) = let later = every f l in cond (f a) later false

module _ {A : Type 0} (f g : A → Bool) (h : (a : A) → f a ≡ g a) where
  pub some_same : (l : List A) → some f l ≡ some g l
  some_same [] = refl
  some_same (a ∷ l) = λ i. cond (h a i) true (some_same l i)

  pub every_same : (l : List A) → every f l ≡ every g l
  every_same [] = refl
  every_same (a ∷ l) = λ i. cond (h a i) (every_same l i) false

-- every part of a condition, with one list
pub holds_every : (said : Said → List Said → Bool) (d : Condition) (S : List Said) → holds2 said d S ≡ every (λ dᵢ. said dᵢ S) d
holds_every said [] S = refl
holds_every said (d ∷ ds) S = λ i. cond (said d S) (holds_every said ds S i) false

module _ {A : Type 0} where
  pub some_out : (f : A → Bool) (l : List A) → T (some f l) → Some (λ a. T (f a)) l
  some_out f [] h = h
  some_out f (a ∷ l) h = go (f a) (some_out f l) h
    where
      go : (t : Bool) → (T (some f l) → Some (λ b. T (f b)) l) → T (cond t true (some f l)) → T t ⊎ Some (λ b. T (f b)) l
      go true ih k = inl tt
      go false ih k = inr (ih k)

  pub some_in : (f : A → Bool) (l : List A) → Some (λ a. T (f a)) l → T (some f l)
  some_in f [] h = h
  some_in f (a ∷ l) h = go (f a) (some_in f l) h
    where
      go : (t : Bool) → (Some (λ b. T (f b)) l → T (some f l)) → T t ⊎ Some (λ b. T (f b)) l → T (cond t true (some f l))
      go true ih k = tt
      go false ih (inl k) = absurd k
      go false ih (inr k) = ih k

  pub every_out : (f : A → Bool) (l : List A) → T (every f l) → All (λ a. T (f a)) l
  every_out f [] h = tt
  every_out f (a ∷ l) h = go (f a) (every_out f l) h
    where
      go : (t : Bool) → (T (every f l) → All (λ b. T (f b)) l) → T (cond t (every f l) false) → T t × All (λ b. T (f b)) l
      go true ih k = (tt, ih k)
      go false ih k = absurd k

  pub every_in : (f : A → Bool) (l : List A) → All (λ a. T (f a)) l → T (every f l)
  every_in f [] h = tt
  every_in f (a ∷ l) h = go (f a) (every_in f l) h
    where
      go : (t : Bool) → (All (λ b. T (f b)) l → T (every f l)) → T t × All (λ b. T (f b)) l → T (cond t (every f l) false)
      go true ih k = ih k.1
      go false ih k = k.0

  module _ (P : A → Type 0) where
    pub some_left : (l m : List A) → Some P l → Some P (l ++ m)
    some_left [] m h = absurd h
    some_left (a ∷ l) m (inl h) = inl h
    some_left (a ∷ l) m (inr h) = inr (some_left l m h)

    pub some_right : (l m : List A) → Some P m → Some P (l ++ m)
    some_right [] m h = h
    some_right (a ∷ l) m h = inr (some_right l m h)

    each_some : (n : ℕ) (f : ℕ → List A) (k : ℕ) → k < n → Some P (f k) → Some P (each n f)
    each_some zero f k l h = absurd (not-suc-le-zero l)
    each_some (suc n) f k l h = go (ℕ_discrete k n) (λ d. each_some n f k d h)
      where
        go : Dec (k ≡ n) → (k < n → Some P (each n f)) → Some P (each n f ++ f n)
        go (yes e) below = some_right (each n f) (f n) (subst (λ (j : ℕ). Some P (f j)) e h)
        go (no d) below = some_left (each n f) (f n) (below (omega arith))

    -- the one of a list
    pub some_where : (l : List A) → Some P l → (a : A) × P a × Some (λ b. b ≡ a) l
    some_where [] h = absurd h
    some_where (a ∷ l) (inl h) = (a, h, inl refl)
    some_where (a ∷ l) (inr h) = let w = some_where l h in (w.0, w.1, inr w.2)

    pub some_of : (l : List A) (a : A) → P a → Some (λ b. b ≡ a) l → Some P l
    some_of [] a h m = m
    some_of (b ∷ l) a h (inl e) = inl (subst P (sym e) h)
    some_of (b ∷ l) a h (inr m) = inr (some_of l a h m)

-- A grant gives e under a closed substitution, and what is asked holds of its conditions.
pub record Given (f : Condition → Bool) (r : Row) (e : ℕ) : Type 0 where
  pub x : ℕ
  pub y : ℕ
  pub z : ℕ
  pub first : x < first_values r.prins
  pub second : y < second_values r.prins
  pub resource : z < resource_values r.res
  pub gives : granted r x y z ≡ e
  pub holds : T (f (condition_under r x y z))

module _ (f : Condition → Bool) where
  given_out : (r : Row) (e : ℕ) → Some (λ d. T (f d)) (conditions_of r e) → Given f r e
  unfolding conditions_of
  given_out r e h =
      let P : Condition → Type 0 = λ d. T (f d) in
      let u = some_each P (first_values r.prins) _ h in
      let v = some_each P (second_values r.prins) _ u.2 in
      let w = some_each P (resource_values r.res) _ v.2 in
      go u.0 v.0 w.0 u.1 v.1 w.1 (eqb (granted r u.0 v.0 w.0) e) (eqb→eq (granted r u.0 v.0 w.0) e) w.2
    where
      go : (x y z : ℕ) → x < first_values r.prins → y < second_values r.prins → z < resource_values r.res → (t : Bool) → (T t → granted r x y z ≡ e) →
          Some (λ d. T (f d)) (cond t (condition_under r x y z ∷ []) []) → Given f r e
      go x y z hx hy hz true g k = record { x = x; y = y; z = z; first = hx; second = hy; resource = hz; gives = g tt; holds = some_one (λ d. T (f d)) (condition_under r x y z) k }
      go x y z hx hy hz false g k = absurd k

  given_in : (r : Row) (e : ℕ) → Given f r e → Some (λ d. T (f d)) (conditions_of r e)
  unfolding conditions_of
  given_in r e w =
      let P : Condition → Type 0 = λ d. T (f d) in
      each_some P (first_values r.prins) _ w.x w.first
      (each_some P (second_values r.prins) _ w.y w.second
      (each_some P (resource_values r.res) _ w.z w.resource (go (eqb (granted r w.x w.y w.z) e) (subst (λ (k : ℕ). T (eqb (granted r w.x w.y w.z) k)) w.gives (eqb_refl (granted r w.x w.y w.z))))))
    where
      go : (t : Bool) → T t → Some (λ d. T (f d)) (cond t (condition_under r w.x w.y w.z ∷ []) [])
      go true k = inl w.holds
      go false k = absurd k

  conditions_out : (N R : List Grant) (e : ℕ) → Some (λ d. T (f d)) (conditions N R e) → Some (λ g. Given f (row_of N g) e) R
  unfolding conditions
  conditions_out N [] e h = h
  conditions_out N (g ∷ R) e h =
      ⊎_elim (λ u. inl (given_out (row_of N g) e u)) (λ u. inr (conditions_out N R e u)) (some_join (λ d. T (f d)) (conditions_of (row_of N g) e) (conditions N R e) h)

  conditions_in : (N R : List Grant) (e : ℕ) → Some (λ g. Given f (row_of N g) e) R → Some (λ d. T (f d)) (conditions N R e)
  unfolding conditions
  conditions_in N [] e h = h
  conditions_in N (g ∷ R) e (inl w) = some_left (λ d. T (f d)) (conditions_of (row_of N g) e) (conditions N R e) (given_in (row_of N g) e w)
  conditions_in N (g ∷ R) e (inr h) = some_right (λ d. T (f d)) (conditions_of (row_of N g) e) (conditions N R e) (conditions_in N R e h)

  pub found_out : (N R : List Grant) (e : ℕ) → T (some f (conditions N R e)) → Some (λ g. Given f (row_of N g) e) R
  found_out N R e h = conditions_out N R e (some_out f (conditions N R e) h)

  pub found_in : (N R : List Grant) (e : ℕ) → Some (λ g. Given f (row_of N g) e) R → T (some f (conditions N R e))
  found_in N R e h = some_in f (conditions N R e) (conditions_in N R e h)

-- the grants that p issued; the grants that their issuers are allowed to issue

module _ (P : Grant → Type 0) where
  pub issued_out : (p : ℕ) (L : List Licence) → Some P (issued_by p L) → Some (λ l. (l.issuer ≡ p) × P l.what) L
  unfolding issued_by
  issued_out p [] h = h
  issued_out p (l ∷ L) h = go (eqb l.issuer p) (eqb→eq l.issuer p) (issued_out p L) h
    where
      go : (t : Bool) → (T t → l.issuer ≡ p) → (Some P (issued_by p L) → Some (λ m. (m.issuer ≡ p) × P m.what) L) →
          Some P (cond t (l.what ∷ issued_by p L) (issued_by p L)) → Some (λ m. (m.issuer ≡ p) × P m.what) (l ∷ L)
      go true e ih (inl k) = inl (e tt, k)
      go true e ih (inr k) = inr (ih k)
      go false e ih k = inr (ih k)

  pub issued_in : (p : ℕ) (L : List Licence) → Some (λ l. (l.issuer ≡ p) × P l.what) L → Some P (issued_by p L)
  unfolding issued_by
  issued_in p [] h = h
  issued_in p (l ∷ L) h = go (eqb l.issuer p) (λ e. subst (λ (k : ℕ). T (eqb l.issuer k)) e (eqb_refl l.issuer)) (issued_in p L) h
    where
      go : (t : Bool) → (l.issuer ≡ p → T t) → (Some (λ m. (m.issuer ≡ p) × P m.what) L → Some P (issued_by p L)) →
          Some (λ m. (m.issuer ≡ p) × P m.what) (l ∷ L) → Some P (cond t (l.what ∷ issued_by p L) (issued_by p L))
      go true e ih (inl k) = inl k.1
      go true e ih (inr k) = inr (ih k)
      go false e ih (inl k) = absurd (e k.0)
      go false e ih (inr k) = ih k

  module _ (M : State) (a : ℕ → Bool) where
    pub allowed_out : (L : List Licence) → Some P (allowed M a L) → Some (λ l. T (a (issue_mark l.issuer (place l.what M.N))) × P l.what) L
    unfolding allowed
    allowed_out [] h = h
    allowed_out (l ∷ L) h = go (a (issue_mark l.issuer (place l.what M.N))) (allowed_out L) h
      where
        go : (t : Bool) → (Some P (allowed M a L) → Some (λ m. T (a (issue_mark m.issuer (place m.what M.N))) × P m.what) L) →
            Some P (cond t (l.what ∷ allowed M a L) (allowed M a L)) → (T t × P l.what) ⊎ Some (λ m. T (a (issue_mark m.issuer (place m.what M.N))) × P m.what) L
        go true ih (inl k) = inl (tt, k)
        go true ih (inr k) = inr (ih k)
        go false ih k = inr (ih k)

    pub allowed_in : (L : List Licence) → Some (λ l. T (a (issue_mark l.issuer (place l.what M.N))) × P l.what) L → Some P (allowed M a L)
    unfolding allowed
    allowed_in [] h = h
    allowed_in (l ∷ L) h = go (a (issue_mark l.issuer (place l.what M.N))) (allowed_in L) h
      where
        go : (t : Bool) → (Some (λ m. T (a (issue_mark m.issuer (place m.what M.N))) × P m.what) L → Some P (allowed M a L)) →
            (T t × P l.what) ⊎ Some (λ m. T (a (issue_mark m.issuer (place m.what M.N))) × P m.what) L → Some P (cond t (l.what ∷ allowed M a L) (allowed M a L))
        go true ih (inl k) = inl k.1
        go true ih (inr k) = inr (ih k)
        go false ih (inl k) = absurd k.0
        go false ih (inr k) = ih k

-- what stands for the machine is in the figures' L and R, and they have nothing else

pub T_true : (t : Bool) → T t → t ≡ true
T_true true h = refl
T_true false h = absurd h

is_first : (x : Entry) (E : List Entry) → member x (x ∷ E) ≡ true
unfolding member
is_first x E = rw (entry_refl x)

is_later : (x y : Entry) (E : List Entry) → member x E ≡ true → member x (y ∷ E) ≡ true
unfolding member
is_later x y E h = go (same_entry x y)
  where
    go : (t : Bool) → cond t true (member x E) ≡ true
    go true = refl
    go false = h

-- a licence, firm or provisional, and a trusted grant, as the machine has them
abbrev issued : Licence → Entry
issued l = entry (Issued (record { 0 = l.issuer })) l.what

abbrev waiting : Licence → Entry
waiting l = entry (Provisional (record { 0 = l.issuer })) l.what

abbrev trusted : Grant → Entry
trusted g = entry Trusted g

module _ (C : Chosen) (N : List Grant) (l : Licence) where
  -- the licence is firm, or provisional and chosen
  abbrev pub Counts : List Entry → Type 0
  Counts E = (member (issued l) E ≡ true) ⊎ ((member (waiting l) E ≡ true) × (C l.issuer (place l.what N) ≡ true))

  -- an entry is in L where its licence is
  member_licence : (by : Status) → Some (λ m. m ≡ l) (licence_of C N by l.what) → (E : List Entry) → member (entry by l.what) E ≡ true → Some (λ m. m ≡ l) (licences C N E)
  unfolding licences member
  member_licence by h [] e = absurd (subst T (sym e) tt)
  member_licence by h (y ∷ E) e =
      ⊎_elim
      (λ d. some_left (λ m. m ≡ l) (licence_of C N y.by y.what) (licences C N E) (subst (λ (x : Entry). Some (λ m. m ≡ l) (licence_of C N x.by x.what)) d h))
      (λ k. some_right (λ m. m ≡ l) (licence_of C N y.by y.what) (licences C N E) (member_licence by h E k))
      (member_cases (entry by l.what) y E e)

  pub licence_some : (E : List Entry) → Counts E → Some (λ m. m ≡ l) (licences C N E)
  licence_some E (inl h) = member_licence (Issued (record { 0 = l.issuer })) (inl refl) E h
  licence_some E (inr h) = member_licence (Provisional (record { 0 = l.issuer })) (rw h.1 (inl refl)) E h.0

  later : (y : Entry) (E : List Entry) → Counts E → Counts (y ∷ E)
  later y E (inl h) = inl (is_later (issued l) y E h)
  later y E (inr h) = inr (is_later (waiting l) y E h.0, h.1)

  pub some_licence : (E : List Entry) → Some (λ m. m ≡ l) (licences C N E) → Counts E
  unfolding licences
  some_licence [] h = absurd h
  some_licence (y ∷ E) h =
      ⊎_elim (λ k. here y.by refl k) (λ k. later y E (some_licence E k)) (some_join (λ m. m ≡ l) (licence_of C N y.by y.what) (licences C N E) h)
    where
      chosen : (t : Bool) (m : Licence) → Some (λ n. n ≡ l) (cond t (m ∷ []) []) → (t ≡ true) × (m ≡ l)
      chosen true m k = (refl, some_one (λ n. n ≡ l) m k)
      chosen false m k = absurd k

      here : (s : Status) → y.by ≡ s → Some (λ m. m ≡ l) (licence_of C N s y.what) → Counts (y ∷ E)
      here Trusted q k = absurd k
      here (Issued p) q k =
          let d = some_one (λ m. m ≡ l) (record { issuer = p.0; what = y.what }) k in
          inl (subst (λ (x : Entry). member x (y ∷ E) ≡ true) (λ i. record { by = (q ∙ ap (λ (m : Licence). Issued (record { 0 = m.issuer })) d) i; what = (d i).what }) (is_first y E))
      here (Provisional p) q k =
          let w = chosen (C p.0 (place y.what N)) (record { issuer = p.0; what = y.what }) k in
          let d = w.1 in
          inr (
            subst (λ (x : Entry). member x (y ∷ E) ≡ true) (λ i. record { by = (q ∙ ap (λ (m : Licence). Provisional (record { 0 = m.issuer })) d) i; what = (d i).what }) (is_first y E),
            ap (λ (m : Licence). C m.issuer (place m.what N)) (sym d) ∙ w.0,
          )

pub trusted_some : (g : Grant) (E : List Entry) → member (trusted g) E ≡ true → Some (λ h. h ≡ g) (trusts E)
unfolding trusts member
trusted_some g [] e = absurd (subst T (sym e) tt)
trusted_some g (y ∷ E) e = go y.by refl (λ h. trusted_some g E h) (member_cases (trusted g) y E e)
  where
    go : (s : Status) → y.by ≡ s → (member (trusted g) E ≡ true → Some (λ h. h ≡ g) (trusts E)) →
        (trusted g ≡ y) ⊎ (member (trusted g) E ≡ true) → Some (λ h. h ≡ g) (trusted_of s y.what ++ trusts E)
    go Trusted q ih (inl d) = inl (ap (λ (x : Entry). x.what) (sym d))
    go Trusted q ih (inr h) = inr (ih h)
    go (Issued p) q ih (inl d) = let z : ◌≡◌ {A = ℕ} 0 1 = cc in absurd (omega arith)
    go (Issued p) q ih (inr h) = ih h
    go (Provisional p) q ih (inl d) = let z : ◌≡◌ {A = ℕ} 0 1 = cc in absurd (omega arith)
    go (Provisional p) q ih (inr h) = ih h

pub some_trusted : (g : Grant) (E : List Entry) → Some (λ h. h ≡ g) (trusts E) → member (trusted g) E ≡ true
unfolding trusts
some_trusted g [] h = absurd h
some_trusted g (y ∷ E) h = go y.by refl (λ k. is_later (trusted g) y E (some_trusted g E k)) h
  where
    go : (s : Status) → y.by ≡ s → (Some (λ h. h ≡ g) (trusts E) → member (trusted g) (y ∷ E) ≡ true) →
        Some (λ h. h ≡ g) (trusted_of s y.what ++ trusts E) → member (trusted g) (y ∷ E) ≡ true
    go Trusted q ih (inl d) = subst (λ (x : Entry). member x (y ∷ E) ≡ true) (λ i. record { by = q i; what = d i }) (is_first y E)
    go Trusted q ih (inr k) = ih k
    go (Issued p) q ih k = ih k
    go (Provisional p) q ih k = ih k
