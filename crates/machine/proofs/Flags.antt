-- Flags that show entries: when one entry comes or goes, and what a record makes of them.
use Prim.Native.Nat.{ℕ, ◌*◌, ◌≤◌, ◌<◌}
use mathlib.Core.Path.{◌≡◌, refl, sym, ap, ap₂, subst, ◌∙◌}
use mathlib.Core.Bool.{Bool, true, false, cond, ◌||◌}
use mathlib.Core.List.{List}
use native.Mathlib.Omega.{arith}
use native.Mathlib.Decide.{ℕ_discrete, dec_lt}
use lib.Dec.{eqb}
use lib.ListN.{length, get_or, set, length-set}
use lib.Seq.{get_or-set_same, get_or-set_other}
use Rattle.sorts.specs.declared.Prin.{Prin}
use Rattle.sorts.specs.declared.Status.{Status}
use Rattle.sorts.specs.declared.Status.TheVariants.{Trusted, Issued, Provisional}
use Rattle.sorts.specs.Numbers.{grants}
use Rattle.sorts.specs.Flags.{StatusRange, row_flags, all_flags, flag_place, flag}
use Rattle.sorts.proofs.Flags.{place_fits, place_from, place_row, place_by}
use Rattle.rows.specs.Written.{Grant}
use Rattle.rows.specs.Numbering.{place, has}
use Rattle.rows.specs.Form.{no_grant}
use Rattle.rows.proofs.Place.{Distinct, place_at, has_lt}
use Rattle.bookform.specs.Changes.{bit, is_set, put, entered_flags, there_flags, removed_flags, FlagsApart}
use Rattle.machine.specs.Machine.{Entry, member, insert, delete, entry, entered, there, removed}
use Rattle.machine.proofs.Apart.{Apart}
use Rattle.machine.proofs.Sets.{entry_dec, insert_same, insert_other, delete_same, delete_other}
use Rattle.rows.proofs.Bytes.{no_true}

-- Flags that show which entries there are, over the grants of N.
abbrev pub FlagsShow : List ℕ → List Entry → List Grant → Type 0
FlagsShow flags E N = (by : Status) (j : ℕ) → StatusRange by → j < length N → flag flags by j ≡ bit (member (entry by (get_or N j no_grant)) E)

-- Every entry has a number, and its issuer is one of the 16.
abbrev pub Within : List Entry → List Grant → Type 0
Within E N = (by : Status) (g : Grant) → member (entry by g) E ≡ true → (has g N ≡ true) × StatusRange by

-- Flags, as many as there are, and entries that they show.
pub record Shown (N : List Grant) (F : List ℕ) (D : List Entry) : Type 0 where
  pub long : length F ≡ all_flags
  pub show : FlagsShow F D N
  pub within : Within D N

-- One entry comes or goes, and nothing else changes.
pub record Turns (E : List Entry) (x : Entry) (v : Bool) (E' : List Entry) : Type 0 where
  pub turned : member x E' ≡ v
  pub others : (z : Entry) → (z ≡ x → ⊥) → member z E' ≡ member z E

pub inserts : (x : Entry) (E : List Entry) → Turns E x true (insert x E)
inserts x E = record { turned = insert_same x E; others = λ z d. insert_other x z E d }

pub deletes : (x : Entry) (E : List Entry) → Turns E x false (delete x E)
deletes x E = record { turned = delete_same x E; others = λ z d. delete_other x z E d }

module _ (N : List Grant) (small : length N ≤ grants) (distinct : Distinct N) (g : Grant) (there' : has g N ≡ true) where
  abbrev at : ℕ
  at = place g N

  at_lt : place g N < length N
  at_lt = has_lt g N there'

  at_is : get_or N (place g N) no_grant ≡ g
  at_is = place_at g N at_lt

  pub put_shows : (flags : List ℕ) (E E' : List Entry) (by : Status) (v : Bool) → length flags ≡ all_flags → StatusRange by → FlagsShow flags E N → Turns E (entry by g) v E' →
      FlagsShow (put flags by (place g N) (bit v)) E' N
  put_shows flags E E' by v len known u t by' j k l = go (ℕ_discrete (flag_place by' j) (flag_place by (place g N)))
    where
      go : Dec (flag_place by' j ≡ flag_place by (place g N)) → get_or (set flags (flag_place by (place g N)) (bit v)) (flag_place by' j) 0 ≡ bit (member (entry by' (get_or N j no_grant)) E')
      go (yes e) =
          let i : j ≡ place g N = place_row by' by j (place g N) k known e in
          let w : by' ≡ by = place_by by' by (place g N) k known (ap (flag_place by') (sym i) ∙ e) in
          let a = at_lt in
          ap (λ (n : ℕ). get_or (set flags (flag_place by (place g N)) (bit v)) n 0) e
          ∙ get_or-set_same flags (flag_place by (place g N)) (bit v) 0 (omega (arith, len, place_fits by (place g N) known (omega arith)))
          ∙ ap bit (sym t.turned ∙ ap₂ (λ (s : Status) (h : Grant). member (entry s h) E') (sym w) (sym at_is ∙ ap (λ (n : ℕ). get_or N n no_grant) (sym i)))
      go (no d) =
          get_or-set_other flags (flag_place by (place g N)) (flag_place by' j) (bit v) 0 d ∙ u by' j k l
          ∙ ap bit (sym (t.others (entry by' (get_or N j no_grant)) (λ e. d (apart (ap (λ (x : Entry). x.by) e) (ap (λ (x : Entry). x.what) e)))))
        where
          apart : by' ≡ by → get_or N j no_grant ≡ g → flag_place by' j ≡ flag_place by (place g N)
          apart w e = λ i. flag_place (w i) (distinct j (place g N) l at_lt (e ∙ sym at_is) i)

  pub put_within : (E E' : List Entry) (by : Status) (v : Bool) → StatusRange by → Within E N → Turns E (entry by g) v E' → Within E' N
  put_within E E' by v known u t by' h e = go (entry_dec (entry by' h) (entry by g))
    where
      go : Dec (entry by' h ≡ entry by g) → (has h N ≡ true) × StatusRange by'
      go (yes q) = (subst (λ (x : Grant). has x N ≡ true) (sym (ap (λ (x : Entry). x.what) q)) there', subst StatusRange (sym (ap (λ (x : Entry). x.by) q)) known)
      go (no d) = u by' h (sym (t.others (entry by' h) d) ∙ e)

  -- the flag of g says whether it stands so
  pub flag_is : (flags : List ℕ) (E : List Entry) (by : Status) → StatusRange by → FlagsShow flags E N → is_set flags by (place g N) ≡ member (entry by g) E
  flag_is flags E by known u =
      ap (λ (n : ℕ). eqb n 1) (u by (place g N) known at_lt ∙ ap (λ (h : Grant). bit (member (entry by h) E)) at_is) ∙ bit_one (member (entry by g) E)
    where
      bit_one : (b : Bool) → eqb (bit b) 1 ≡ b
      bit_one true = refl
      bit_one false = refl

  turn_shown : {F : List ℕ} {D D' : List Entry} → Shown N F D → (by : Status) (v : Bool) → StatusRange by → Turns D (entry by g) v D' → Shown N (put F by (place g N) (bit v)) D'
  turn_shown {F} {D} {D'} s by v known t = record {
    long = length-set F (flag_place by (place g N)) (bit v) ∙ s.long;
    show = put_shows F D D' by v s.long known s.show t;
    within = put_within D D' by v known s.within t;
  }

  module _ (flags : List ℕ) (E : List Entry) (s : Shown N flags E) where
    both_shown : (p : Prin) (v : Bool) {D : List Entry} → StatusRange (Issued p) → Turns (delete (entry (Provisional p) g) E) (entry (Issued p) g) v D →
        Shown N (put (put flags (Provisional p) (place g N) 0) (Issued p) (place g N) (bit v)) D
    both_shown p v known t = turn_shown (turn_shown s (Provisional p) false known (deletes (entry (Provisional p) g) E)) (Issued p) v known t

    -- to enter
    pub entered_shown : (by : Status) → StatusRange by → Shown N (entered_flags by (place g N) flags) (entered by g E)
    entered_shown Trusted known = turn_shown s Trusted true known (inserts (entry Trusted g) E)
    entered_shown (Issued p) known = both_shown p true known (inserts (entry (Issued p) g) (delete (entry (Provisional p) g) E))
    entered_shown (Provisional p) known = go (is_set flags (Issued p) (place g N)) (member (entry (Issued p) g) E) (flag_is flags E (Issued p) known s.show)
      where
        go : (a b : Bool) → a ≡ b → Shown N (cond a flags (put flags (Provisional p) (place g N) 1)) (cond b E (insert (entry (Provisional p) g) E))
        go true true e = s
        go true false e = absurd (no_true (sym e))
        go false true e = absurd (no_true e)
        go false false e = turn_shown s (Provisional p) true known (inserts (entry (Provisional p) g) E)

    -- to remove
    pub removed_shown : (by : Status) → StatusRange by → Shown N (removed_flags by (place g N) flags) (removed by g E)
    removed_shown Trusted known = turn_shown s Trusted false known (deletes (entry Trusted g) E)
    removed_shown (Issued p) known = both_shown p false known (deletes (entry (Issued p) g) (delete (entry (Provisional p) g) E))
    removed_shown (Provisional p) known = turn_shown s (Provisional p) false known (deletes (entry (Provisional p) g) E)

    pub there_shown : (by : Status) → StatusRange by → there_flags by (place g N) flags ≡ there by g E
    there_shown Trusted known = flag_is flags E Trusted known s.show
    there_shown (Issued p) known = ap₂ ◌||◌ (flag_is flags E (Issued p) known s.show) (flag_is flags E (Provisional p) known s.show)
    there_shown (Provisional p) known = flag_is flags E (Provisional p) known s.show

    pub set_shown : (by : Status) → StatusRange by → is_set flags by (place g N) ≡ member (entry by g) E
    set_shown by known = flag_is flags E by known s.show

-- No licence is both firm and provisional: in the flags, and among the entries.

bit_true : (b : Bool) → bit b ≡ 1 → b ≡ true
bit_true true e = refl
bit_true false e = absurd (omega (arith, e))

pub apart_flags : (N : List Grant) (F : List ℕ) (D : List Entry) → Shown N F D → ((i : ℕ) → row_flags * length N ≤ i → get_or F i 0 ≡ 0) → Apart D → FlagsApart F
apart_flags N F D s zero' a p g l i j = go (dec_lt g (length N))
  where
    go : Dec (g < length N) → ⊥
    go (yes h) =
        a p (get_or N g no_grant) (bit_true _ (sym (s.show (Issued p) g l h) ∙ i)) (bit_true _ (sym (s.show (Provisional p) g l h) ∙ j))
    go (no h) = let z = zero' (flag_place (Issued p) g) (place_from (Issued p) (length N) g (omega arith)) in omega (arith, z, i)

pub flags_apart : (N : List Grant) (F : List ℕ) (D : List Entry) → Shown N F D → FlagsApart F → Apart D
flags_apart N F D s a p g i j =
    let h = s.within (Issued p) g i in
    let l = has_lt g N h.0 in
    let e = place_at g N l in
    let at' : (by : Status) → StatusRange by → member (entry by g) D ≡ true → flag F by (place g N) ≡ 1 = λ by k m. s.show by (place g N) k l ∙ ap (λ (x : Grant). bit (member (entry by x) D)) e ∙ ap bit m in
    a p (place g N) h.1 (at' (Issued p) h.1 i) (at' (Provisional p) h.1 j)
