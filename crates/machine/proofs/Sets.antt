-- The machine's set of entries, by membership.
use Prim.Native.Nat.{ℕ, zero, suc, ◌<◌}
use mathlib.Core.Path.{◌≡◌, refl, sym, ap, ◌∙◌}
use mathlib.Core.Bool.{Bool, true, false, cond, ◌&&◌}
use mathlib.Core.List.{List, [], ◌∷◌, ◌++◌}
use mathlib.Core.Logic.{◌⊎◌, inl, inr}
use native.Mathlib.Omega.{arith}
use native.Mathlib.Nat.{not-suc-le-zero, le_refl}
use native.Mathlib.Decide.{ℕ_discrete}
use Rattle.sorts.specs.Flags.{same_status}
use Rattle.sorts.proofs.Flags.{status_eq, status_refl}
use Rattle.rows.specs.Written.{same_written}
use Rattle.rows.proofs.Bytes.{same_eq, same_refl, no_true}
use Rattle.machine.specs.Machine.{Entry, same_entry, member, insert, delete}

-- sameness of entries is equality

and_1 : (a b : Bool) → (a && b) ≡ true → a ≡ true
and_1 true b e = refl
and_1 false b e = absurd (no_true e)

and_2 : (a b : Bool) → (a && b) ≡ true → b ≡ true
and_2 true b e = e
and_2 false b e = absurd (no_true e)

pub entry_eq : (x y : Entry) → same_entry x y ≡ true → x ≡ y
entry_eq x y e =
    λ i. record { by = status_eq x.by y.by (and_1 _ (same_written x.what y.what) e) i; what = same_eq x.what y.what (and_2 (same_status x.by y.by) _ e) i }

pub entry_refl : (x : Entry) → same_entry x x ≡ true
entry_refl x = rw (status_refl x.by) (same_refl x.what)

pub entry_dec : (x y : Entry) → Dec (x ≡ y)
entry_dec x y = go (same_entry x y) refl
  where
    go : (b : Bool) → same_entry x y ≡ b → Dec (x ≡ y)
    go true e = yes (entry_eq x y e)
    go false e = no (λ d. no_true (sym e ∙ ap (same_entry x) (sym d) ∙ entry_refl x))

-- a member is the first entry, or one of the others
pub member_cases : (x y : Entry) (E : List Entry) → member x (y ∷ E) ≡ true → (x ≡ y) ⊎ (member x E ≡ true)
unfolding member
member_cases x y E e = go (same_entry x y) refl e
  where
    go : (t : Bool) → same_entry x y ≡ t → cond t true (member x E) ≡ true → (x ≡ y) ⊎ (member x E ≡ true)
    go true q h = inl (entry_eq x y q)
    go false q h = inr h

pub member_none : (x : Entry) → member x [] ≡ true → ⊥
unfolding member
member_none x e = no_true e

member_last : (x : Entry) (l : List Entry) → member x (l ++ (x ∷ [])) ≡ true
unfolding member
member_last x [] = rw (entry_refl x)
member_last x (y ∷ l) = go (same_entry x y) (member_last x l)
  where
    go : (b : Bool) → member x (l ++ (x ∷ [])) ≡ true → cond b true (member x (l ++ (x ∷ []))) ≡ true
    go true h = refl
    go false h = h

member_other : (x z : Entry) (l : List Entry) → (z ≡ x → ⊥) → member z (l ++ (x ∷ [])) ≡ member z l
unfolding member
member_other x z [] d = go (same_entry z x) refl
  where
    go : (b : Bool) → same_entry z x ≡ b → cond (same_entry z x) true false ≡ false
    go true e = absurd (d (entry_eq z x e))
    go false e = rw e
member_other x z (y ∷ l) d = ap (λ (b : Bool). cond (same_entry z y) true b) (member_other x z l d)

pub insert_same : (x : Entry) (l : List Entry) → member x (insert x l) ≡ true
unfolding insert
insert_same x l = go (member x l) refl
  where
    go : (b : Bool) → member x l ≡ b → member x (cond (member x l) l (l ++ (x ∷ []))) ≡ true
    go true e = rw e e
    go false e = rw e (member_last x l)

pub insert_other : (x z : Entry) (l : List Entry) → (z ≡ x → ⊥) → member z (insert x l) ≡ member z l
unfolding insert
insert_other x z l d = go (member x l)
  where
    go : (b : Bool) → member z (cond b l (l ++ (x ∷ []))) ≡ member z l
    go true = refl
    go false = member_other x z l d

pub delete_same : (x : Entry) (l : List Entry) → member x (delete x l) ≡ false
unfolding member delete
delete_same x [] = refl
delete_same x (y ∷ l) = go (same_entry x y) refl (delete_same x l)
  where
    go : (b : Bool) → same_entry x y ≡ b → member x (delete x l) ≡ false → member x (cond (same_entry x y) (delete x l) (y ∷ delete x l)) ≡ false
    go true e h = rw e h
    go false e h = rw e (rw e h)

pub delete_other : (x z : Entry) (l : List Entry) → (z ≡ x → ⊥) → member z (delete x l) ≡ member z l
unfolding member delete
delete_other x z [] d = refl
delete_other x z (y ∷ l) d = go (same_entry x y) refl (delete_other x z l d)
  where
    go : (b : Bool) → same_entry x y ≡ b → member z (delete x l) ≡ member z l → member z (cond (same_entry x y) (delete x l) (y ∷ delete x l)) ≡ cond (same_entry z y) true (member z l)
    go true e h = rw e (h ∙ sym (skip (same_entry z y) refl))
      where
        skip : (b : Bool) → same_entry z y ≡ b → cond (same_entry z y) true (member z l) ≡ member z l
        skip true q = absurd (d (entry_eq z y q ∙ sym (entry_eq x y e)))
        skip false q = rw q
    go false e h = rw e (ap (λ (b : Bool). cond (same_entry z y) true b) h)

-- what is there is put in for nothing, and what is not is taken out for nothing

pub insert_present : (x : Entry) (l : List Entry) → member x l ≡ true → insert x l ≡ l
unfolding insert
insert_present x l e = ap (λ (b : Bool). cond b l (l ++ (x ∷ []))) e

pub delete_absent : (x : Entry) (l : List Entry) → member x l ≡ false → delete x l ≡ l
unfolding member delete
delete_absent x [] e = refl
delete_absent x (y ∷ l) e = go (same_entry x y) e (delete_absent x l)
  where
    go : (b : Bool) → cond b true (member x l) ≡ false → (member x l ≡ false → delete x l ≡ l) → cond b (delete x l) (y ∷ delete x l) ≡ y ∷ l
    go true h f = absurd (no_true (sym h))
    go false h f = ap (λ (t : List Entry). y ∷ t) (f h)

-- the values of x at the numbers below n where f is true
pub collect : ℕ → (ℕ → Bool) → (ℕ → Entry) → List Entry
collect zero f x = []
collect (suc n) f x = cond (f n) (x n ∷ collect n f x) (collect n f x)

pub collect_member : (n : ℕ) (f : ℕ → Bool) (x : ℕ → Entry) (i : ℕ) → i < n → f i ≡ true → member (x i) (collect n f x) ≡ true
unfolding member collect
collect_member zero f x i l e = absurd (not-suc-le-zero l)
collect_member (suc n) f x i l e = go (ℕ_discrete i n) (collect_member n f x i)
  where
    behind : (b : Bool) → member (x i) (collect n f x) ≡ true → member (x i) (cond b (x n ∷ collect n f x) (collect n f x)) ≡ true
    behind true h = first (same_entry (x i) (x n))
      where
        first : (c : Bool) → cond c true (member (x i) (collect n f x)) ≡ true
        first true = refl
        first false = h
    behind false h = h

    go : Dec (i ≡ n) → (i < n → f i ≡ true → member (x i) (collect n f x) ≡ true) → member (x i) (cond (f n) (x n ∷ collect n f x) (collect n f x)) ≡ true
    go (yes d) ih = rw (ap f (sym d) ∙ e) (rw (ap (λ (k : ℕ). same_entry (x i) (x k)) (sym d) ∙ entry_refl (x i)))
    go (no d) ih = behind (f n) (ih (omega arith) e)

pub member_collect : (n : ℕ) (f : ℕ → Bool) (x : ℕ → Entry) (y : Entry) → member y (collect n f x) ≡ true → (i : ℕ) × (i < n) × (f i ≡ true) × (x i ≡ y)
unfolding member collect
member_collect zero f x y e = absurd (no_true e)
member_collect (suc n) f x y e = go (f n) refl (same_entry y (x n)) refl e (member_collect n f x y)
  where
    wider : (i : ℕ) × (i < n) × (f i ≡ true) × (x i ≡ y) → (i : ℕ) × (i < suc n) × (f i ≡ true) × (x i ≡ y)
    wider w = let l = w.1 in (w.0, omega arith, w.2, w.3)

    go : (b : Bool) → f n ≡ b → (c : Bool) → same_entry y (x n) ≡ c → member y (cond b (x n ∷ collect n f x) (collect n f x)) ≡ true →
        (member y (collect n f x) ≡ true → (i : ℕ) × (i < n) × (f i ≡ true) × (x i ≡ y)) → (i : ℕ) × (i < suc n) × (f i ≡ true) × (x i ≡ y)
    go true p true q h ih = (n, le_refl (suc n), p, sym (entry_eq y (x n) q))
    go true p false q h ih = wider (ih (sym (ap (λ (c : Bool). cond c true (member y (collect n f x))) q) ∙ h))
    go false p c q h ih = wider (ih h)
