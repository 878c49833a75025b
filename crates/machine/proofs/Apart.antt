-- No licence is both firm and provisional, whatever records the machine is fed.
use Prim.Native.Nat.{ℕ}
use mathlib.Core.Path.{◌≡◌, refl, sym, ap, ◌∙◌}
use mathlib.Core.Bool.{Bool, true, false, cond}
use mathlib.Core.List.{List}
use native.Mathlib.Omega.{arith}
use Rattle.sorts.specs.declared.Prin.{Prin}
use Rattle.sorts.specs.declared.Status.{Status}
use Rattle.sorts.specs.declared.Status.TheVariants.{Trusted, Issued, Provisional}
use Rattle.rows.specs.Written.{Grant}
use Rattle.rows.proofs.Bytes.{no_true}
use Rattle.machine.specs.Machine.{Entry, member, insert, delete, entry, entered, removed}
use Rattle.machine.proofs.Sets.{entry_dec, insert_other, insert_present, delete_same, delete_other, delete_absent}

abbrev pub Apart : List Entry → Type 0
Apart E = (p : Prin) (g : Grant) → member (entry (Issued p) g) E ≡ true → member (entry (Provisional p) g) E ≡ true → ⊥

-- what is deleted is fewer
pub delete_member : (x z : Entry) (E : List Entry) → member z (delete x E) ≡ true → member z E ≡ true
delete_member x z E h = go (entry_dec z x)
  where
    go : Dec (z ≡ x) → member z E ≡ true
    go (yes e) = absurd (no_true (sym (delete_same x E) ∙ ap (λ (y : Entry). member y (delete x E)) (sym e) ∙ h))
    go (no d) = sym (delete_other x z E d) ∙ h

delete_apart : (x : Entry) (E : List Entry) → Apart E → Apart (delete x E)
delete_apart x E a p g h k = a p g (delete_member x (entry (Issued p) g) E h) (delete_member x (entry (Provisional p) g) E k)

-- a new member is the one put in, or was there
insert_member : (x z : Entry) (E : List Entry) → (z ≡ x → ⊥) → member z (insert x E) ≡ true → member z E ≡ true
insert_member x z E d h = sym (insert_other x z E d) ∙ h

-- statuses that differ

abbrev pub kind_of : Status → ℕ
kind_of Trusted = 0
kind_of (Issued p) = 1
kind_of (Provisional p) = 2

pub kinds_apart : (b c : Status) (g h : Grant) → (kind_of b ≡ kind_of c → ⊥) → entry b g ≡ entry c h → ⊥
kinds_apart b c g h d e = d (ap (λ (x : Entry). kind_of x.by) e)

-- licences of one kind that are the same are the same of the other
issued_provisional : (p q : Prin) (h g : Grant) → entry (Issued p) h ≡ entry (Issued q) g → entry (Provisional p) h ≡ entry (Provisional q) g
issued_provisional p q h g e =
    let d : Issued p ≡ Issued q = ap (λ (x : Entry). x.by) e in
    let i : p ≡ q = cc in
    λ k. entry (Provisional (i k)) (e k).what

pub provisional_issued : (p q : Prin) (h g : Grant) → entry (Provisional p) h ≡ entry (Provisional q) g → entry (Issued p) h ≡ entry (Issued q) g
provisional_issued p q h g e =
    let d : Provisional p ≡ Provisional q = ap (λ (x : Entry). x.by) e in
    let i : p ≡ q = cc in
    λ k. entry (Issued (i k)) (e k).what

module _ (E : List Entry) (a : Apart E) (g : Grant) where
  trusted_apart : Apart (insert (entry Trusted g) E)
  trusted_apart p h u v =
      a p h (insert_member (entry Trusted g) (entry (Issued p) h) E (kinds_apart (Issued p) Trusted h g (λ e. omega (arith, e))) u)
      (insert_member (entry Trusted g) (entry (Provisional p) h) E (kinds_apart (Provisional p) Trusted h g (λ e. omega (arith, e))) v)

  issued_apart : (q : Prin) → Apart (insert (entry (Issued q) g) (delete (entry (Provisional q) g) E))
  issued_apart q p h u v = go (entry_dec (entry (Issued p) h) (entry (Issued q) g))
    where
      still : member (entry (Provisional p) h) (delete (entry (Provisional q) g) E) ≡ true
      still = insert_member (entry (Issued q) g) (entry (Provisional p) h) (delete (entry (Provisional q) g) E) (kinds_apart (Provisional p) (Issued q) h g (λ e. omega (arith, e))) v

      go : Dec (entry (Issued p) h ≡ entry (Issued q) g) → ⊥
      go (yes e) =
          let s = issued_provisional p q h g e in
          no_true (sym (delete_same (entry (Provisional q) g) E) ∙ ap (λ (y : Entry). member y (delete (entry (Provisional q) g) E)) (sym s) ∙ still)
      go (no d) =
          delete_apart (entry (Provisional q) g) E a p h (insert_member (entry (Issued q) g) (entry (Issued p) h) (delete (entry (Provisional q) g) E) d u) still

  new_apart : (q : Prin) → member (entry (Issued q) g) E ≡ false → Apart (insert (entry (Provisional q) g) E)
  new_apart q e p h u v = go (entry_dec (entry (Provisional p) h) (entry (Provisional q) g))
    where
      was : member (entry (Issued p) h) E ≡ true
      was = insert_member (entry (Provisional q) g) (entry (Issued p) h) E (kinds_apart (Issued p) (Provisional q) h g (λ d. omega (arith, d))) u

      go : Dec (entry (Provisional p) h ≡ entry (Provisional q) g) → ⊥
      go (yes s) = let i = provisional_issued p q h g s in no_true (sym e ∙ ap (λ (y : Entry). member y E) (sym i) ∙ was)
      go (no d) = a p h was (insert_member (entry (Provisional q) g) (entry (Provisional p) h) E d v)

  provisional_apart : (q : Prin) (b : Bool) → member (entry (Issued q) g) E ≡ b → Apart (cond b E (insert (entry (Provisional q) g) E))
  provisional_apart q true e = a
  provisional_apart q false e = λ p h u v. new_apart q e p h u v

  pub entered_apart : (by : Status) → Apart (entered by g E)
  entered_apart Trusted = trusted_apart
  entered_apart (Issued p) = issued_apart p
  entered_apart (Provisional p) = provisional_apart p (member (entry (Issued p) g) E) refl

  pub removed_apart : (by : Status) → Apart (removed by g E)
  removed_apart Trusted = delete_apart (entry Trusted g) E a
  removed_apart (Issued p) = delete_apart (entry (Issued p) g) (delete (entry (Provisional p) g) E) (delete_apart (entry (Provisional p) g) E a)
  removed_apart (Provisional p) = delete_apart (entry (Provisional p) g) E a

  -- what stands is entered for nothing, and so is a provisional licence that is firm

  not_provisional : (p : Prin) → member (entry (Issued p) g) E ≡ true → (b : Bool) → member (entry (Provisional p) g) E ≡ b → b ≡ false
  not_provisional p i true e = absurd (a p g i e)
  not_provisional p i false e = refl

  pub entered_firm : (p : Prin) → member (entry (Issued p) g) E ≡ true → entered (Provisional p) g E ≡ E
  entered_firm p i = ap (λ (b : Bool). cond b E (insert (entry (Provisional p) g) E)) i

  pub entered_present : (by : Status) → member (entry by g) E ≡ true → entered by g E ≡ E
  entered_present Trusted i = insert_present (entry Trusted g) E i
  entered_present (Issued p) i =
      let n : member (entry (Provisional p) g) E ≡ false = not_provisional p i (member (entry (Provisional p) g) E) refl in
      ap (insert (entry (Issued p) g)) (delete_absent (entry (Provisional p) g) E n) ∙ insert_present (entry (Issued p) g) E i
  entered_present (Provisional p) i = go (member (entry (Issued p) g) E)
    where
      go : (b : Bool) → cond b E (insert (entry (Provisional p) g) E) ≡ E
      go true = refl
      go false = insert_present (entry (Provisional p) g) E i
