-- The standing statements of two books, by what stands for the machines that they show, in either view.
use Prim.Native.Nat.{ℕ, ◌<◌}
use mathlib.Core.Path.{◌≡◌, refl, sym, ap, subst, ◌∙◌}
use mathlib.Core.Bool.{true}
use mathlib.Core.List.{List}
use mathlib.Core.Logic.{⊎_elim}
use native.Mathlib.Omega.{arith}
use lib.ListN.{length, get_or, get_or-append}
use Rattle.sorts.specs.declared.Status.{Status}
use Rattle.sorts.specs.declared.Status.TheVariants.{Trusted, Issued, Provisional}
use Rattle.sorts.specs.Blank.{no_row}
use Rattle.rows.specs.Written.{Grant}
use Rattle.rows.specs.Numbering.{place, has}
use Rattle.rows.specs.Form.{no_grant}
use Rattle.rows.proofs.Place.{place_at, has_lt}
use Rattle.rows.proofs.Shown.{Shown}
use Rattle.rows.proofs.Appended.{Ext, ext_length}
use Rattle.rules.specs.Standing.{In, Above}
use Rattle.rules.proofs.Ground.{Fewer}
use Rattle.rules.proofs.Standing.{standing_mono, standing_length, standing_bits}
use Rattle.rules.proofs.Saturation.{same_marks}
use Rattle.bookform.specs.Both.{both_flags}
use Rattle.bookform.proofs.flags.Both.{both_keeps}
use Rattle.machine.specs.Machine.{State}
use Rattle.machine.specs.Closed.{grant_at}
use Rattle.bookform.specs.declared.Book.{Book}
use Rattle.bookform.specs.Books.{BookForm}
use Rattle.book.specs.Shows.{Shows}
use Rattle.book.proofs.Forms.{table_rows}
use Rattle.demands.proofs.RowBack.{shown_more}
use Rattle.demands.proofs.Views.{View, firm, both, flags_in, marks_in, Has}
use Rattle.demands.proofs.ClosedBook.{shown, flag_seen, seen_flag}
use Rattle.demands.proofs.Moving.{Grows}

-- a grant of the first that has a number in the second has the same number and row there
abbrev SamePlace : Book → State → Book → State → Type 0
SamePlace b M b' M' = (g : ℕ) → g < length M.N → has (grant_at M g) M'.N ≡ true →
    (g < length M'.N) × (grant_at M' g ≡ grant_at M g) × (get_or b.table.rows g no_row ≡ get_or b'.table.rows g no_row)

-- what is seen of a book's state has a number
seen_number : {b : Book} {M : State} → Shows b M → (v : View) (by : Status) (g : Grant) → Has v M.entries by g → has g M.N ≡ true
seen_number sh firm Trusted g h = (sh.within Trusted g h).0
seen_number sh both Trusted g h = (sh.within Trusted g h).0
seen_number sh firm (Issued p) g h = (sh.within (Issued p) g h).0
seen_number sh both (Issued p) g h = ⊎_elim (λ e. (sh.within (Issued p) g e).0) (λ e. (sh.within (Provisional p) g e).0) h
seen_number sh firm (Provisional p) g h = absurd h
seen_number sh both (Provisional p) g h = absurd h

module _ {b b' : Book} {m m' k k' : List ℕ} {M M' : State} (f : BookForm b m k) (sh : Shows b M) (f' : BookForm b' m' k') (sh' : Shows b' M') where
  S : Shown b.table.rows b.table.count M.N
  S = shown b m k M f sh

  S' : Shown b'.table.rows b'.table.count M'.N
  S' = shown b' m' k' M' f' sh'

  more_place : Ext M.N M'.N → SamePlace b M b' M'
  more_place x g l h =
      let n = ext_length x in
      let c = S.counted in
      (omega arith, ap (λ (X : List Grant). get_or X g no_grant) x.is ∙ get_or-append M.N x.more no_grant g l, shown_more S S' x g (omega arith))

  less_place : Ext M'.N M.N → SamePlace b M b' M'
  less_place x g l h =
      let i = place (grant_at M g) M'.N in
      let il = has_lt (grant_at M g) M'.N h in
      let n = ext_length x in
      let old : get_or M.N i no_grant ≡ get_or M'.N i no_grant = ap (λ (X : List Grant). get_or X i no_grant) x.is ∙ get_or-append M'.N x.more no_grant i il in
      let e : i ≡ g = S.distinct i g (omega arith) l (old ∙ place_at (grant_at M g) M'.N il) in
      let c = S'.counted in
      (omega arith, ap (λ (j : ℕ). get_or M'.N j no_grant) (sym e) ∙ place_at (grant_at M g) M'.N il, sym (shown_more S' S x g (omega arith)))

  module _ (at : SamePlace b M b' M') (grows : Grows M M') (v : View) where
    -- a flag that is set in the first is set in the second, at the same row
    fewer : Fewer b.table.rows b'.table.rows (flags_in v b.flags) (flags_in v b'.flags)
    fewer by g r l d =
        let q = flag_seen b m k M f sh v by g r l d in
        let on = grows v by (grant_at M g) q.1 in
        let p = at g q.0 (seen_number sh' v by (grant_at M g) on) in
        (seen_flag b' m' k' M' f' sh' v by g r l (p.0, subst (Has v M'.entries by) (sym p.1) on), p.2)

    stands_grows : Above (marks_in v b) (In (marks_in v b'))
    stands_grows = standing_mono b.table.rows b'.table.rows (flags_in v b.flags) (flags_in v b'.flags) (table_rows b'.table f'.table) fewer

-- what stands in the first stands in the second, where more is numbered there or less
module _ {b b' : Book} {m m' k k' : List ℕ} {M M' : State} (f : BookForm b m k) (sh : Shows b M) (f' : BookForm b' m' k') (sh' : Shows b' M') (v : View) where
  pub up_stands : Ext M.N M'.N → Grows M M' → Above (marks_in v b) (In (marks_in v b'))
  up_stands x g = stands_grows f sh f' sh' (more_place f sh f' sh' x) g v

  pub down_stands : Ext M.N M'.N → Grows M' M → Above (marks_in v b') (In (marks_in v b))
  down_stands x g = stands_grows f' sh' f sh (less_place f' sh' f sh x) g v

  -- where nothing changes but the numbering, the same statements stand
  pub still_stands : Ext M.N M'.N → Grows M M' → Grows M' M → marks_in v b ≡ marks_in v b'
  still_stands x g h =
      same_marks (marks_in v b) (marks_in v b') (standing_length b.table.rows (flags_in v b.flags) ∙ sym (standing_length b'.table.rows (flags_in v b'.flags)))
      (standing_bits b.table.rows (flags_in v b.flags)) (standing_bits b'.table.rows (flags_in v b'.flags)) (up_stands x g) (down_stands x h)

-- with the provisional licences taken as firm nothing is missing that stands without them
pub both_more : {b : Book} {m k : List ℕ} → BookForm b m k → Above (marks_in firm b) (In (marks_in both b))
both_more {b} f =
    standing_mono b.table.rows b.table.rows b.flags (both_flags b.flags) (table_rows b.table f.table) (λ by g r l d. (both_keeps b.flags by g r l d, refl))
