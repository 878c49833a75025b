-- What stands in a book is what stands for the plain machine that it shows, in either view.
use Prim.Native.Nat.{ℕ, ◌≤◌, ◌<◌}
use mathlib.Core.Path.{◌≡◌, refl, sym, ap, subst, ◌∙◌}
use mathlib.Core.Bool.{Bool, true, false}
use mathlib.Core.List.{List}
use mathlib.Core.Logic.{◌↔◌, inl, inr, ⊎_elim}
use native.Mathlib.Omega.{arith}
use native.Mathlib.Decide.{dec_lt}
use lib.ListN.{length}
use Rattle.sorts.specs.declared.Status.{Status}
use Rattle.sorts.specs.declared.Status.TheVariants.{Trusted, Issued, Provisional}
use Rattle.sorts.specs.Numbers.{grants}
use Rattle.sorts.specs.Flags.{StatusRange, FirmRange, flag_place}
use Rattle.sorts.proofs.Flags.{place_from}
use Rattle.rows.proofs.Shown.{Shown, form_shown}
use Rattle.rules.specs.Rules as rules
use Rattle.rules.specs.Rules.{Set, Closed}
use Rattle.rules.specs.Standing.{In}
use Rattle.rules.proofs.Ground.{closed_fewer}
use Rattle.rules.proofs.Standing.{standing_in, standing_out}
use Rattle.bookform.specs.Changes.{bit}
use Rattle.bookform.proofs.flags.Both.{both_trusted, both_set}
use Rattle.machine.specs.Machine.{State, stands}
use Rattle.machine.specs.Closed.{grant_at, row_at, StandsAs, Licensed, ClosedSet, Stands}
use Rattle.bookform.specs.declared.Book.{Book}
use Rattle.bookform.specs.Books.{BookForm}
use Rattle.book.specs.Shows.{Shows}
use Rattle.book.proofs.Forms.{table_rows}
use Rattle.demands.proofs.RowBack.{shown_row}
use Rattle.demands.proofs.Views.{View, firm, both, flags_in, choice_of, marks_in, Has}

pub bit_set : (c : Bool) → (bit c ≡ 0 → ⊥) → c ≡ true
bit_set true d = refl
bit_set false d = absurd (d refl)

abbrev issued : ℕ → Status
issued p = Issued (record { 0 = p })

module _ (b : Book) (m k : List ℕ) (M : State) (f : BookForm b m k) (sh : Shows b M) where
  pub shown : Shown b.table.rows b.table.count M.N
  shown = subst (Shown b.table.rows b.table.count) sh.rows (form_shown b.table f.table)

  pub few : length M.N ≤ grants
  few = let c = shown.counted in let s = shown.small in omega arith

  -- a flag that is set is one of a row that has a number
  flag_below : (by : Status) (g : ℕ) → Set b.flags by g → g < length M.N
  flag_below by g d = go (dec_lt g (length M.N))
    where
      go : Dec (g < length M.N) → g < length M.N
      go (yes l) = l
      go (no l) = let c = shown.counted in absurd (d (f.unflagged (flag_place by g) (place_from by b.table.count g (omega arith))))

  row_is : (g : ℕ) → g < length M.N → rules.row_at b.table.rows g ≡ row_at M g
  row_is g l = let c = shown.counted in shown_row shown g (omega arith)

  -- the flags say what stands

  flag_stands : (by : Status) (g : ℕ) → StatusRange by → Set b.flags by g → StandsAs M by g
  flag_stands by g r d =
      let l = flag_below by g d in
      (l, bit_set (stands M by (grant_at M g)) (λ e. d (sh.flags by g r l ∙ e)))

  stands_flag : (by : Status) (g : ℕ) → StatusRange by → StandsAs M by g → Set b.flags by g
  stands_flag by g r h e = let q = sym e ∙ sh.flags by g r h.0 ∙ ap bit h.1 in omega arith

  -- in each view

  abbrev Seen : View → Status → ℕ → Type 0
  Seen v by g = (g < length M.N) × Has v M.entries by (grant_at M g)

  pub flag_seen : (v : View) (by : Status) (g : ℕ) → FirmRange by → g < grants → Set (flags_in v b.flags) by g → Seen v by g
  flag_seen firm Trusted g r l d = flag_stands Trusted g tt d
  flag_seen both Trusted g r l d = flag_stands Trusted g tt (λ e. d (both_trusted b.flags g l ∙ e))
  flag_seen firm (Issued p) g r l d = flag_stands (Issued p) g r d
  flag_seen both (Issued p) g r l d =
      ⊎_elim (λ s. let q = flag_stands (Issued p) g r s in (q.0, inl q.1)) (λ s. let q = flag_stands (Provisional p) g r s in (q.0, inr q.1)) ((both_set b.flags g l p r).0 d)
  flag_seen firm (Provisional p) g r l d = absurd r
  flag_seen both (Provisional p) g r l d = absurd r

  pub seen_flag : (v : View) (by : Status) (g : ℕ) → FirmRange by → g < grants → Seen v by g → Set (flags_in v b.flags) by g
  seen_flag firm Trusted g r l h = stands_flag Trusted g tt h
  seen_flag both Trusted g r l h = λ e. stands_flag Trusted g tt h (sym (both_trusted b.flags g l) ∙ e)
  seen_flag firm (Issued p) g r l h = stands_flag (Issued p) g r h
  seen_flag both (Issued p) g r l h =
      (both_set b.flags g l p r).1 (⊎_elim (λ e. inl (stands_flag (Issued p) g r (h.0, e))) (λ e. inr (stands_flag (Provisional p) g r (h.0, e))) h.1)
  seen_flag firm (Provisional p) g r l h = absurd r
  seen_flag both (Provisional p) g r l h = absurd r

  -- what is seen is what counts under the choice

  seen_licensed : (v : View) (p g : ℕ) → Seen v (issued p) g ↔ Licensed M (choice_of v) p g
  seen_licensed firm p g = (λ h. inl h, λ w. ⊎_elim (λ h. h) (λ h. absurd h.1) w)
  seen_licensed both p g = (
    λ h. ⊎_elim (λ e. inl (h.0, e)) (λ e. inr ((h.0, e), tt)) h.1,
    λ w. ⊎_elim (λ h. (h.0, inl h.1)) (λ h. (h.0.0, inr h.0.1)) w,
  )

  seen_trusted : (v : View) (g : ℕ) → Seen v Trusted g ↔ StandsAs M Trusted g
  seen_trusted firm g = (λ h. h, λ h. h)
  seen_trusted both g = (λ h. h, λ h. h)

  -- the same sets are closed
  pub closed_book : (v : View) (S : ℕ → Type 0) → Closed b.table.rows (flags_in v b.flags) S ↔ ClosedSet M (choice_of v) S
  closed_book v S = (
    closed_fewer (rules.row_at b.table.rows) (row_at M) (λ p g. Set (flags_in v b.flags) (issued p) g) (Licensed M (choice_of v)) (λ g. Set (flags_in v b.flags) Trusted g) (λ g. StandsAs M Trusted g) S
        (λ g p l r h. let q = (seen_licensed v p g).1 h in (seen_flag v (issued p) g r l q, row_is g q.0))
        (λ g l h. (seen_flag v Trusted g tt l ((seen_trusted v g).1 h), row_is g h.0)),
    closed_fewer (row_at M) (rules.row_at b.table.rows) (Licensed M (choice_of v)) (λ p g. Set (flags_in v b.flags) (issued p) g) (λ g. StandsAs M Trusted g) (λ g. Set (flags_in v b.flags) Trusted g) S
        (λ g p l r h. let q = flag_seen v (issued p) g r l h in ((seen_licensed v p g).0 q, sym (row_is g q.0)))
        (λ g l h. let q = flag_seen v Trusted g tt l h in ((seen_trusted v g).0 q, sym (row_is g q.0))),
  )

  -- a statement stands in the book exactly where every closed set of the machine has it
  pub stands_in : (v : View) (n : ℕ) → In (marks_in v b) n ↔ Stands M (choice_of v) n
  stands_in v n =
      let i = standing_in b.table.rows (flags_in v b.flags) (table_rows b.table f.table) n in
      (λ h S c. i.0 h S ((closed_book v S).1 c), λ h. i.1 (λ S c. h S ((closed_book v S).0 c)))

  -- and does not exactly where some closed list of marks lacks it
  pub stands_out : (v : View) (n : ℕ) → (In (marks_in v b) n → ⊥) ↔ ((t : List ℕ) × ClosedSet M (choice_of v) (In t) × (In t n → ⊥))
  stands_out v n =
      let o = standing_out b.table.rows (flags_in v b.flags) (table_rows b.table f.table) n in
      (λ h. let t = o.0 h in (t.0, (closed_book v (In t.0)).0 t.1, t.2), λ t. o.1 (t.0, (closed_book v (In t.0)).1 t.1, t.2))
