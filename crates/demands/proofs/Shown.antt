-- Every book in form shows a state of the plain machine: N the rows written out, and the entries whose flags are set.
use Prim.Native.Nat.{ℕ, ◌*◌, ◌/◌, ◌%◌, ◌≤◌, ◌<◌}
use mathlib.Core.Path.{◌≡◌, refl, sym, ap, subst, ◌∙◌}
use mathlib.Core.Bool.{Bool, true, false}
use mathlib.Core.List.{List}
use native.Mathlib.Omega.{arith}
use lib.ListN.{length, get_or}
use native.Mathlib.Decide.{ℕ_discrete}
use lib.Dec.{eqb}
use borrow.Author.Tests.{eq-eqb, eqb-true}
use Rattle.sorts.specs.declared.Status.{Status}
use Rattle.sorts.specs.Flags.{StatusRange, row_flags, flag_of, flag_place, flag}
use Rattle.sorts.proofs.Flags.{status_of, status_flag, status_range, status_of_lem, flag_high, place_in}
use Rattle.rows.specs.Written.{Grant}
use Rattle.rows.specs.Form.{no_grant, rows_out}
use Rattle.rows.proofs.Bytes.{no_true}
use Rattle.rows.proofs.Place.{has_in}
use Rattle.rows.proofs.Shown as table
use Rattle.bookform.specs.declared.Book.{Book}
use Rattle.machine.specs.Machine.{State, Entry, member}
use Rattle.bookform.specs.Changes.{bit}
use Rattle.bookform.specs.Books.{BookForm}
use Rattle.book.specs.Shows.{Shows}
use Rattle.machine.proofs.Sets.{collect, collect_member, member_collect}

-- a flag that is 0 or 1 is a test's bit
flag_bit : (v : ℕ) (c : Bool) → v ≤ 1 → (v ≡ 1 → c ≡ true) → (c ≡ true → v ≡ 1) → v ≡ bit c
flag_bit v true l f g = g refl
flag_bit v false l f g = go (ℕ_discrete v 1)
  where
    go : Dec (v ≡ 1) → v ≡ 0
    go (yes e) = absurd (no_true (f e))
    go (no d) = omega arith

module _ (b : Book) (m k : List ℕ) (f : BookForm b m k) where
  abbrev N : List Grant
  N = rows_out b.table.rows b.table.count

  S : table.Shown b.table.rows b.table.count N
  S = table.form_shown b.table f.table

  abbrev grant_of : ℕ → Grant
  grant_of i = get_or N i no_grant

  -- the entry that flag i speaks of
  abbrev entry_of : ℕ → Entry
  entry_of i = record { by = status_of (i % row_flags); what = grant_of (i / row_flags) }

  abbrev is_set : ℕ → Bool
  is_set i = eqb (get_or b.flags i 0) 1

  entries : List Entry
  entries = collect (row_flags * b.table.count) is_set entry_of

  entry_from : (x : Entry) → member x entries ≡ true → (i : ℕ) × (i < row_flags * b.table.count) × (is_set i ≡ true) × (entry_of i ≡ x)
  unfolding entries
  entry_from x e = member_collect (row_flags * b.table.count) is_set entry_of x e

  len : b.table.count ≡ length N
  len = S.counted

  -- the flag of grant g and a status speaks of that entry
  entry_at : (by : Status) (g : ℕ) → StatusRange by → entry_of (flag_place by g) ≡ record { by = by; what = grant_of g }
  entry_at by g w =
      let h = flag_high by w in
      let r : flag_place by g % row_flags ≡ flag_of by = omega arith in
      let q : flag_place by g / row_flags ≡ g = omega arith in
      λ i. record { by = (ap status_of r ∙ status_of_lem by w) i; what = grant_of (q i) }

  flag_is : (by : Status) (g : ℕ) → StatusRange by → g < length N → flag b.flags by g ≡ bit (member (record { by = by; what = grant_of g }) entries)
  unfolding entries
  flag_is by g w l =
      flag_bit (flag b.flags by g) (member (record { by = by; what = grant_of g }) entries) (f.flag_bits (flag_place by g))
      (λ e. subst (λ (x : Entry). member x entries ≡ true) (entry_at by g w)
      (collect_member (row_flags * b.table.count) is_set entry_of (flag_place by g) (place_in by g b.table.count w (omega (arith, len))) (eq-eqb (flag b.flags by g) 1 e)))
      (λ e.
      let x = entry_from (record { by = by; what = grant_of g }) e in
      let xl = x.1 in
      let d : x.0 / row_flags ≡ g = S.distinct (x.0 / row_flags) g (omega (arith, len)) l (ap (λ (y : Entry). y.what) x.3) in
      let q : x.0 % row_flags ≡ flag_of by = sym (status_flag (x.0 % row_flags)) ∙ ap (λ (y : Entry). flag_of y.by) x.3 in
      let i : flag_place by g ≡ x.0 = omega arith in
      ap (λ (n : ℕ). get_or b.flags n 0) i ∙ eqb-true (get_or b.flags x.0 0) 1 x.2)

  -- the state that the book shows
  pub shows_some : (M : State) × Shows b M
  shows_some = (
    record { entries = entries; N = N },
    record {
      rows = refl;
      flags = flag_is;
      within = λ by g e.
          let w = entry_from (record { by = by; what = g }) e in
          let l = w.1 in (
            has_in g N (w.0 / row_flags) (omega (arith, len)) (ap (λ (x : Entry). x.what) w.3),
            subst StatusRange (ap (λ (x : Entry). x.by) w.3) (status_range (w.0 % row_flags) (omega arith)),
          );
    },
  )
