-- The reader of a record keeps its promise.
use Prim.Native.Nat.{ℕ, ◌+◌, ◌<◌, ◌≤◌}
use mathlib.Core.Path.{◌≡◌, refl, sym, ap, subst}
use mathlib.Core.Bool.{Bool, true, false, cond}
use mathlib.Core.List.{List}
use mathlib.Core.Logic.{◌↔◌}
use mathlib.Core.Option.{some}
use native.Mathlib.Omega.{arith}
use lib.ListN.{length}
use Rattle.std.specs.Prelude.{Result, Ok, Err}
use Rattle.std.specs.Result.{IfOk}
use lib.Dec.{eqb}
use Rattle.sorts.specs.Numbers.{grants}
use Rattle.sorts.specs.declared.Refusal.{Refusal}
use Rattle.sorts.specs.declared.Refusal.TheVariants as refusal
use Rattle.rows.specs.declared.Table.{Table}
use Rattle.rows.specs.Written.{Grant}
use Rattle.rows.specs.Form.{rows_out, TableForm}
use Rattle.frames.specs.Bytes.{Outcome, got, refused, and_then}
use Rattle.frames.specs.Frames.{Frame, holds, ends, frame, frame_length, extent}
use Rattle.reader.specs.declared.contents.Request.{Request}
use Rattle.reader.specs.declared.contents.Reading.{Reading}
use Rattle.reader.specs.Contents.{Record, enter, remove, confirm, preview, query, read_content, canon_record}
use Rattle.reader.specs.Found.{number_found, found_of, numbered_by, TurnedBack}
use Rattle.reader.specs.Inner.Numbered.{no_r, num_content}
use Rattle.reader.proofs.contents.Contents.{RightReading, Right, fault, whole, Keeps, in_form, content_right, content_keeps, found_number}
use Rattle.reader.specs.Records.{beyond, fitted, read_whole, framed, read_record, read_canonical}
use Rattle.reader.specs.Requests.{Reads}
use Rattle.reader.specs.Inner.OneRecord.{num_whole, num_framed, num_record}

module _ (t : Table) (f : TableForm t) where
  abbrev N : List Grant
  N = rows_out t.rows t.count

  refused_right : (u : ℕ) (k : Refusal) → RightReading N (refused k) (no_r t u k)
  unfolding found_of numbered_by
  refused_right u k = record { found = refl; rows = refl; form = f }

  -- what is found of a record, and the rows, are not a matter of its length
  any_length : (q : Record) (n m u : ℕ) (r : Reading) → RightReading N (got q n) r → RightReading N (got q m) (record { table = r.table; found = r.found; used = u })
  unfolding found_of numbered_by
  any_length (enter by g) n m u r h = record { found = h.found; rows = h.rows; form = h.form }
  any_length (remove by g) n m u r h = record { found = h.found; rows = h.rows; form = h.form }
  any_length (confirm p g) n m u r h = record { found = h.found; rows = h.rows; form = h.form }
  any_length (preview p g) n m u r h = record { found = h.found; rows = h.rows; form = h.form }
  any_length (query c) n m u r h = record { found = h.found; rows = h.rows; form = h.form }

  -- of a content of len bytes that was read as o, in form
  whole_right : (len : ℕ) (o : Outcome Record) (r : Result Reading Refusal) → Right N (in_form o) r → RightReading N (in_form (and_then (fitted len o) (λ x n. got x (4 + len)))) (num_whole t len r)
  unfolding num_whole
  whole_right len (refused j) (Err k) (fault i) = refused_right (4 + len) (beyond i)
  whole_right len (refused j) (Ok r) h = elim h [ ]
  whole_right len (got x n) (Err k) h = elim h [ ]
  whole_right len (got x n) (Ok r) (whole q m v h e) = rw e (ends (eqb n len))
    where
      ends : (b : Bool) →
          RightReading N (in_form (and_then (cond b (got x n) (refused refusal.Content)) (λ y m. got y (4 + len))))
          (cond b (record { table = r.table; found = r.found; used = 4 + len }) (no_r t (4 + len) refusal.Content))
      ends true = any_length (canon_record x) n (4 + len) (4 + len) r h
      ends false = refused_right (4 + len) refusal.Content

  record_right : (s : List ℕ) → RightReading N (read_canonical s) (num_record s t)
  unfolding read_canonical read_record read_whole num_record
  record_right s = go (frame s)
    where
      go : (x : Frame) → RightReading N (in_form (framed x)) (num_framed t x)
      go (holds k c) = whole_right (length c) (read_content k c) (num_content k c t) (content_right t f c k)
      go (ends j) = refused_right 0 j

-- The bytes used, and a table that is kept, where the table is in form or not.

whole_used : (t : Table) (len : ℕ) (r : Result Reading Refusal) → (num_whole t len r).used ≡ 4 + len
unfolding num_whole
whole_used t len (Err k) = refl
whole_used t len (Ok r) = go (eqb r.used len)
  where
    go : (b : Bool) → (cond b (record { table = r.table; found = r.found; used = 4 + len }) (no_r t (4 + len) refusal.Content)).used ≡ 4 + len
    go true = refl
    go false = refl

record_used : (s : List ℕ) (t : Table) → (num_record s t).used ≡ extent s
unfolding num_record extent
record_used s t = go (frame s)
  where
    go : (x : Frame) → (num_framed t x).used ≡ frame_length x
    go (holds k c) = whole_used t (length c) (num_content k c t)
    go (ends j) = refl

whole_keeps : (t : Table) (len : ℕ) (r : Result Reading Refusal) → IfOk r (Keeps t) → Keeps t (num_whole t len r)
unfolding num_whole
whole_keeps t len (Err k) h = λ e. refl
whole_keeps t len (Ok r) h = go (eqb r.used len)
  where
    go : (b : Bool) → Keeps t (cond b (record { table = r.table; found = r.found; used = 4 + len }) (no_r t (4 + len) refusal.Content))
    go true = h
    go false = λ e. refl

record_keeps : (s : List ℕ) (t : Table) → Keeps t (num_record s t)
unfolding num_record
record_keeps s t = go (frame s)
  where
    go : (x : Frame) → Keeps t (num_framed t x)
    go (holds k c) = whole_keeps t (length c) (num_content k c t) (content_keeps k c t)
    go (ends j) = λ e. refl

-- The promise, by whether the count is one of a book.

pub reads_over : (s : List ℕ) (t : Table) (r : Reading) → grants < t.count → r ≡ no_r t 0 refusal.Form → Reads s t r
reads_over s t r l e = record {
  over = λ h. e;
  found = λ f. let c = f.count in absurd (omega arith);
  used = λ h. absurd (omega arith);
  rows = λ f. let c = f.count in absurd (omega arith);
  refusals = λ f. let c = f.count in absurd (omega arith);
  form = λ f. let c = f.count in absurd (omega arith);
  kept = λ h. ap (λ (x : Reading). x.table) e;
  within = λ h. absurd (omega arith);
}

pub reads_within : (s : List ℕ) (t : Table) (r : Reading) → t.count ≤ grants → r ≡ num_record s t → Reads s t r
reads_within s t r l e =
    subst (Reads s t) (sym e) (record {
      over = λ h. absurd (omega arith);
      found = λ f. (record_right t f s).found;
      used = λ h. record_used s t;
      rows = λ f. (record_right t f s).rows;
      refusals = λ f k.
          subst (λ (x : Result Request Refusal). (number_found x ≡ some k) ↔ TurnedBack (rows_out t.rows t.count) (read_canonical s) k) (sym (record_right t f s).found)
          (found_number k (rows_out t.rows t.count) (read_canonical s));
      form = λ f. (record_right t f s).form;
      kept = record_keeps s t;
      within = λ h. refl;
    })
