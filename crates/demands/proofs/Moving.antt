-- How a record moves what stands: an entry or a confirmation takes nothing away, a removal adds nothing, in either view.
use Prim.Native.Nat.{ℕ}
use mathlib.Core.Path.{◌≡◌, refl, sym, ap, subst, ◌∙◌}
use mathlib.Core.Bool.{Bool, true, false, cond}
use mathlib.Core.List.{List}
use mathlib.Core.Logic.{◌⊎◌, inl, inr, ⊎_elim}
use native.Mathlib.Omega.{arith}
use lib.Dec.{eqb}
use Rattle.sorts.specs.declared.Prin.{Prin}
use Rattle.sorts.specs.Numbers.{all_marks}
use Rattle.sorts.specs.declared.Status.{Status}
use Rattle.sorts.specs.declared.Status.TheVariants.{Trusted, Issued, Provisional}
use Rattle.sorts.specs.declared.Refusal.TheVariants as refusal
use Rattle.sorts.specs.declared.Refusal.{Refusal}
use Rattle.rows.specs.Written.{Grant}
use Rattle.rows.specs.Numbering.{number, number_concl}
use Rattle.rows.proofs.Appended.{Ext, ext_refl, number_ext, concl_more}
use Rattle.frames.specs.Bytes.{Outcome, got, refused}
use Rattle.frames.specs.Frames.{extent}
use Rattle.reader.specs.Contents.{Record, enter, remove, confirm, preview, query}
use Rattle.reader.specs.Records.{read_canonical}
use Rattle.reader.specs.Found.{fits}
use Rattle.machine.specs.Machine.{State, Entry, Verdict, Step, changes, previews, asks, refuses, refuse, act, acted, step, feed, member, insert, delete, entry, entered, there, removed, stands}
use Rattle.machine.proofs.Apart.{kinds_apart, provisional_issued, delete_member}
use Rattle.machine.proofs.Sets.{insert_same, insert_other, delete_other, entry_dec}
use Rattle.demands.proofs.Views.{View, firm, both, Has}

-- what is among the first entries is among the second, in each view
abbrev pub More : List Entry → List Entry → Type 0
More E E' = (v : View) (by : Status) (g : Grant) → Has v E by g → Has v E' by g

abbrev pub Grows : State → State → Type 0
Grows M M' = More M.entries M'.entries

-- an entry, a removal, and a query
pub record Up (M M' : State) : Type 0 where
  pub grows : Grows M M'
  pub ext : Ext M.N M'.N

pub record Down (M M' : State) : Type 0 where
  pub shrinks : Grows M' M
  pub ext : Ext M.N M'.N

pub record Still (M M' : State) : Type 0 where
  pub grows : Grows M M'
  pub shrinks : Grows M' M
  pub ext : Ext M.N M'.N

pub same_state : (M : State) → Still M M
same_state M = record { grows = λ v by g e. e; shrinks = λ v by g e. e; ext = ext_refl M.N }

-- where every entry is kept, every view has more
kept : (E E' : List Entry) → ((z : Entry) → member z E ≡ true → member z E' ≡ true) → More E E'
kept E E' f firm Trusted g h = f (entry Trusted g) h
kept E E' f both Trusted g h = f (entry Trusted g) h
kept E E' f firm (Issued p) g h = f (entry (Issued p) g) h
kept E E' f both (Issued p) g h = ⊎_elim (λ e. inl (f (entry (Issued p) g) e)) (λ e. inr (f (entry (Provisional p) g) e)) h
kept E E' f firm (Provisional p) g h = absurd h
kept E E' f both (Provisional p) g h = absurd h

-- the set grows by an entry, or shrinks

member_insert : (x z : Entry) (E : List Entry) → member z E ≡ true → member z (insert x E) ≡ true
member_insert x z E e = go (entry_dec z x)
  where
    go : Dec (z ≡ x) → member z (insert x E) ≡ true
    go (yes q) = subst (λ (y : Entry). member y (insert x E) ≡ true) (sym q) (insert_same x E)
    go (no q) = insert_other x z E q ∙ e

-- a licence that becomes firm, or is so, is not taken away in either view
module _ (p : Prin) (g : Grant) (E : List Entry) where
  abbrev made : List Entry
  made = insert (entry (Issued p) g) (delete (entry (Provisional p) g) E)

  -- what is no provisional licence stays
  stays : (by : Status) (h : Grant) → (entry by h ≡ entry (Provisional p) g → ⊥) → member (entry by h) E ≡ true → member (entry by h) made ≡ true
  stays by h d e = member_insert (entry (Issued p) g) (entry by h) (delete (entry (Provisional p) g) E) (delete_other (entry (Provisional p) g) (entry by h) E d ∙ e)

  issued_stays : (q : Prin) (h : Grant) → member (entry (Issued q) h) E ≡ true → member (entry (Issued q) h) made ≡ true
  issued_stays q h = stays (Issued q) h (kinds_apart (Issued q) (Provisional p) h g (λ e. omega (arith, e)))

  trusted_stays : (h : Grant) → member (entry Trusted h) E ≡ true → member (entry Trusted h) made ≡ true
  trusted_stays h = stays Trusted h (kinds_apart Trusted (Provisional p) h g (λ e. omega (arith, e)))

  provisional_stays : (q : Prin) (h : Grant) → member (entry (Provisional q) h) E ≡ true → (member (entry (Issued q) h) made ≡ true) ⊎ (member (entry (Provisional q) h) made ≡ true)
  provisional_stays q h e = go (entry_dec (entry (Provisional q) h) (entry (Provisional p) g))
    where
      go : Dec (entry (Provisional q) h ≡ entry (Provisional p) g) → (member (entry (Issued q) h) made ≡ true) ⊎ (member (entry (Provisional q) h) made ≡ true)
      go (yes s) = inl (ap (λ (y : Entry). member y made) (provisional_issued q p h g s) ∙ insert_same (entry (Issued p) g) (delete (entry (Provisional p) g) E))
      go (no d) = inr (stays (Provisional q) h d e)

  made_more : More E made
  made_more firm Trusted h e = trusted_stays h e
  made_more both Trusted h e = trusted_stays h e
  made_more firm (Issued q) h e = issued_stays q h e
  made_more both (Issued q) h e = ⊎_elim (λ i. inl (issued_stays q h i)) (λ i. provisional_stays q h i) e
  made_more firm (Provisional q) h e = absurd e
  made_more both (Provisional q) h e = absurd e

entered_more : (by : Status) (g : Grant) (E : List Entry) → More E (entered by g E)
entered_more Trusted g E = kept E (insert (entry Trusted g) E) (λ z e. member_insert (entry Trusted g) z E e)
entered_more (Issued p) g E = made_more p g E
entered_more (Provisional p) g E = go (member (entry (Issued p) g) E)
  where
    go : (c : Bool) → More E (cond c E (insert (entry (Provisional p) g) E))
    go true = kept E E (λ z e. e)
    go false = kept E (insert (entry (Provisional p) g) E) (λ z e. member_insert (entry (Provisional p) g) z E e)

deleted_less : (x : Entry) (E : List Entry) → More (delete x E) E
deleted_less x E = kept (delete x E) E (λ z e. delete_member x z E e)

removed_less : (by : Status) (g : Grant) (E : List Entry) → More (removed by g E) E
removed_less Trusted g E = deleted_less (entry Trusted g) E
removed_less (Issued p) g E = λ v by h e.
    deleted_less (entry (Provisional p) g) E v by h (deleted_less (entry (Issued p) g) (delete (entry (Provisional p) g) E) v by h e)
removed_less (Provisional p) g E = deleted_less (entry (Provisional p) g) E

module _ (M : State) where
  up_or : (M' : State) (k : Refusal) (n n' : ℕ) (v : Verdict) → Up M M' → (c : Bool) → Up M (cond c (record { next = M'; says = v; used = n }) (refuse M k n')).next
  up_or M' k n n' v u true = u
  up_or M' k n n' v u false = record { grows = λ w by g e. e; ext = ext_refl M.N }

  down_or : (M' : State) (k : Refusal) (n n' : ℕ) (v : Verdict) → Down M M' → (c : Bool) → Down M (cond c (record { next = M'; says = v; used = n }) (refuse M k n')).next
  down_or M' k n n' v d true = d
  down_or M' k n n' v d false = record { shrinks = λ w by g e. e; ext = ext_refl M.N }

  still_or : (M' : State) (k : Refusal) (n n' : ℕ) (v : Verdict) → Still M M' → (c : Bool) → Still M (cond c (record { next = M'; says = v; used = n }) (refuse M k n')).next
  still_or M' k n n' v d true = d
  still_or M' k n n' v d false = same_state M

  abbrev pub Moved : Outcome Record → Type 0
  Moved (got (enter by g) n) = Up M (act M (enter by g) n).next
  Moved (got (remove by g) n) = Down M (act M (remove by g) n).next
  Moved (got (confirm p g) n) = Up M (act M (confirm p g) n).next
  Moved (got (preview p g) n) = Still M (act M (preview p g) n).next
  Moved (got (query c) n) = Still M (act M (query c) n).next
  Moved (refused k) = Still M M

  pub moved : (o : Outcome Record) → Moved o
  unfolding act
  moved (got (enter by g) n) =
      up_or (record { entries = entered by g M.entries; N = number g M.N }) refusal.Full n n changes
      (record { grows = entered_more by g M.entries; ext = number_ext g M.N }) (fits (number g M.N))
  moved (got (remove by g) n) =
      down_or (record { entries = removed by g M.entries; N = M.N }) refusal.Absent n n changes
      (record { shrinks = removed_less by g M.entries; ext = ext_refl M.N }) (there by g M.entries)
  moved (got (confirm p g) n) =
      up_or (record { entries = entered (Issued p) g M.entries; N = M.N }) refusal.Absent n n changes
      (record { grows = entered_more (Issued p) g M.entries; ext = ext_refl M.N }) (stands M (Provisional p) g)
  moved (got (preview p g) n) = still_or M refusal.Absent n n (previews p g) (same_state M) (there (Issued p) g M.entries)
  moved (got (query c) n) =
      still_or (record { entries = M.entries; N = number_concl c M.N }) refusal.Full n n _
      (record { grows = λ v by g e. e; shrinks = λ v by g e. e; ext = concl_more c M.N }) (fits (number_concl c M.N))
  moved (refused k) = same_state M

  -- a record that asks is a query
  not_asking : (X Y : Step) (c : ℕ) {A : Type 0} → X.says ≡ changes → {k : Refusal} → Y.says ≡ refuses k → (b : Bool) → (cond b X Y).says ≡ asks c → A
  not_asking X Y c x {k} y true e = let d : changes ≡ asks c = sym x ∙ e in let z : ◌≡◌ {A = ℕ} 0 1 = cc in absurd (omega arith)
  not_asking X Y c x {k} y false e = let d : refuses k ≡ asks c = sym y ∙ e in let z : ◌≡◌ {A = ℕ} 0 1 = cc in absurd (omega arith)

  pub asks_still : (u : ℕ) (o : Outcome Record) (c : ℕ) → (acted M u o).says ≡ asks c → Still M (acted M u o).next
  unfolding act
  asks_still u (got (enter by g) n) c e = not_asking _ (refuse M refusal.Full n) c refl refl (fits (number g M.N)) e
  asks_still u (got (remove by g) n) c e = not_asking _ (refuse M refusal.Absent n) c refl refl (there by g M.entries) e
  asks_still u (got (confirm p g) n) c e = not_asking _ (refuse M refusal.Absent n) c refl refl (stands M (Provisional p) g) e
  asks_still u (got (preview p g) n) c e = moved (got (preview p g) n)
  asks_still u (got (query q) n) c e = moved (got (query q) n)
  asks_still u (refused k) c e = same_state M

  -- whichever preview buffer is lent, a record that asks changes nothing that stands
  pub feed_asks : (u : ℕ) (s : List ℕ) (c : ℕ) → (feed M u s).says ≡ asks c → Still M (feed M u s).next
  unfolding feed step
  feed_asks u s c = go (eqb u all_marks)
    where
      go : (t : Bool) → (cond t (acted M (extent s) (read_canonical s)) (refuse M refusal.Form 0)).says ≡ asks c → Still M (cond t (acted M (extent s) (read_canonical s)) (refuse M refusal.Form 0)).next
      go true e = asks_still (extent s) (read_canonical s) c e
      go false e = same_state M
