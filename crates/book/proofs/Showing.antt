-- What a book shows, when more grants get numbers.
use Prim.Native.Nat.{ℕ, ◌*◌, ◌≤◌, ◌<◌}
use mathlib.Core.Path.{◌≡◌, refl, sym, ap, ◌∙◌}
use mathlib.Core.Bool.{Bool, true, false}
use mathlib.Core.List.{List}
use native.Mathlib.Omega.{arith}
use native.Mathlib.Decide.{dec_lt}
use lib.ListN.{length, get_or, get_or-append}
use Rattle.sorts.specs.declared.Status.{Status}
use Rattle.sorts.specs.Flags.{StatusRange, row_flags, all_flags, flag_place}
use Rattle.sorts.proofs.Flags.{place_from}
use Rattle.rows.specs.declared.Table.{Table}
use Rattle.rows.specs.Written.{Grant}
use Rattle.rows.specs.Numbering.{place, has}
use Rattle.rows.specs.Form.{no_grant, rows_out}
use Rattle.rows.proofs.Place.{Distinct, place_at, has_in, has_lt}
use Rattle.rows.proofs.Appended.{Ext, ext_length}
use Rattle.bookform.specs.declared.Book.{Book}
use Rattle.machine.specs.Machine.{State, Entry, stands}
use Rattle.bookform.specs.Changes.{bit}
use Rattle.book.specs.Shows.{Shows}
use Rattle.machine.proofs.Flags.{Shown}

pub has_ext : (g : Grant) {N N' : List Grant} → Ext N N' → has g N ≡ true → has g N' ≡ true
has_ext g {N} {N'} x e =
    let l = has_lt g N e in
    let n = ext_length x in
    has_in g N' (place g N) (omega arith) (ap (λ (M : List Grant). get_or M (place g N) no_grant) x.is ∙ get_or-append N x.more no_grant (place g N) l ∙ place_at g N l)

ext_at : {N N' : List Grant} → Ext N N' → (i : ℕ) → i < length N → get_or N' i no_grant ≡ get_or N i no_grant
ext_at {N} {N'} x i l = ap (λ (M : List Grant). get_or M i no_grant) x.is ∙ get_or-append N x.more no_grant i l

-- A book whose flags past the count are 0, where more grants get numbers.

module _ {b : Book} {M : State} (u : Shows b M) (count : b.table.count ≡ length M.N) (unflagged : (i : ℕ) → row_flags * b.table.count ≤ i → get_or b.flags i 0 ≡ 0)
    (N' : List Grant) (ext : Ext M.N N') (distinct : Distinct N') where
  -- a grant that is new stands in no way
  new_stands : (by : Status) (j : ℕ) → j < length N' → length M.N ≤ j → (c : Bool) → stands M by (get_or N' j no_grant) ≡ c → stands M by (get_or N' j no_grant) ≡ false
  new_stands by j l h false e = e
  new_stands by j l h true e =
      let g : Grant = get_or N' j no_grant in
      let a = (u.within by (get_or N' j no_grant) e).0 in
      let k = has_lt (get_or N' j no_grant) M.N a in
      let n = ext_length ext in
      let i = place (get_or N' j no_grant) M.N in
      let d : i ≡ j = distinct i j (omega arith) l (ext_at ext i k ∙ place_at (get_or N' j no_grant) M.N k) in
      absurd (omega arith)

  -- the flags as they are show how every grant of N' stands
  pub old_flags : (by : Status) (j : ℕ) → StatusRange by → j < length N' → get_or b.flags (flag_place by j) 0 ≡ bit (stands M by (get_or N' j no_grant))
  old_flags by j k l = go (dec_lt j (length M.N))
    where
      go : Dec (j < length M.N) → get_or b.flags (flag_place by j) 0 ≡ bit (stands M by (get_or N' j no_grant))
      go (yes h) = u.flags by j k h ∙ ap (λ (g : Grant). bit (stands M by g)) (sym (ext_at ext j h))
      go (no h) =
          unflagged (flag_place by j) (place_from by b.table.count j (omega arith)) ∙
          ap bit (sym (new_stands by j l (omega arith) (stands M by (get_or N' j no_grant)) refl))

  -- so what the flags show is shown over N'
  pub shown_more : length b.flags ≡ all_flags → Shown N' b.flags M.entries
  shown_more len = record {
    long = len;
    show = λ by j k l. old_flags by j k l;
    within = λ by g e. let a = u.within by g e in (has_ext g ext a.0, a.1);
  }

-- and a book whose flags show entries over the grants of its table shows that state
pub shown_book : (t : Table) (F : List ℕ) (E : List Entry) (N : List Grant) → rows_out t.rows t.count ≡ N → Shown N F E → Shows (record { table = t; flags = F }) (record { entries = E; N = N })
shown_book t F E N r s = record { rows = r; flags = s.show; within = s.within }
