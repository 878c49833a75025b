-- The form of a record is in form, is read wherever the record is, as the same kind, and has no more bytes.
use Prim.Native.Nat.{ℕ, ◌≤◌}
use mathlib.Core.List.{List, ◌++◌}
use mathlib.Core.Path.{◌≡◌, refl, sym, subst, ◌∙◌, ap}
use native.Mathlib.Omega.{arith}
use lib.ListN.{length, length-append}
use Rattle.sorts.specs.declared.Status.TheVariants.{Issued, Provisional}
use Rattle.sorts.specs.declared.Refusal.{Refusal}
use Rattle.frames.specs.Bytes.{Outcome, got, refused, and_then}
use Rattle.frames.specs.Frames.{extent}
use Rattle.reader.specs.Contents.{Record, enter, remove, confirm, preview, query, canon_record}
use Rattle.reader.specs.Records.{read_record, read_canonical}
use Rattle.exact.proofs.Framing.{in_frame_length}
use Rattle.exact.specs.Writing.{kind_of, written_status, content_of, written_record, AllowedRecord}
use Rattle.exact.proofs.Exact.{record_exact, record_extent}
use Rattle.rows.specs.Written.{Grant, written}
use Rattle.canon.specs.Canon.{canon, Canonical, CanonicalConcl}
use Rattle.canon.proofs.Form.{canon_canonical, concl_canonical}
use Rattle.canon.proofs.Size as size

-- a record whose grants are in canonical form
abbrev pub CanonicalRecord : Record → Type 0
CanonicalRecord (enter by g) = Canonical g
CanonicalRecord (remove by g) = Canonical g
CanonicalRecord (confirm p g) = Canonical g
CanonicalRecord (preview p g) = Canonical g
CanonicalRecord (query c) = CanonicalConcl c

pub record_canonical : (r : Record) → CanonicalRecord (canon_record r)
record_canonical (enter by g) = canon_canonical g
record_canonical (remove by g) = canon_canonical g
record_canonical (confirm p g) = canon_canonical g
record_canonical (preview p g) = canon_canonical g
record_canonical (query c) = concl_canonical c

-- what can be read can be read in form
pub record_allowed : (r : Record) → AllowedRecord r → AllowedRecord (canon_record r)
unfolding AllowedRecord
record_allowed (enter by g) a = (a.0, size.canon_allowed g a.1, rw size.canon_depth a.2)
record_allowed (remove by g) a = (a.0, size.canon_allowed g a.1, rw size.canon_depth a.2)
record_allowed (confirm p g) a = (a.0, size.canon_allowed g a.1, rw size.canon_depth a.2)
record_allowed (preview p g) a = (a.0, size.canon_allowed g a.1, rw size.canon_depth a.2)
record_allowed (query c) a = (size.concl_allowed c 0 0 a.0, rw size.concl_depth a.1)

-- it has no more bytes
after_status : (w : List ℕ) (g : Grant) → length (w ++ written (canon g)) ≤ length (w ++ written g)
after_status w g = omega (arith, length-append w (written (canon g)), length-append w (written g), size.canon_length g)

content_shorter : (r : Record) → length (content_of (canon_record r)) ≤ length (content_of r)
content_shorter (enter by g) = after_status (written_status by) g
content_shorter (remove by g) = after_status (written_status by) g
content_shorter (confirm p g) = after_status (written_status (Provisional p)) g
content_shorter (preview p g) = after_status (written_status (Issued p)) g
content_shorter (query c) = size.concl_length c

pub record_shorter : (r : Record) → length (written_record (canon_record r)) ≤ length (written_record r)
unfolding written_record
record_shorter r =
    omega (arith, in_frame_length (kind_of (canon_record r)) (content_of (canon_record r)), in_frame_length (kind_of r) (content_of r), content_shorter r)

-- What is read in canonical form is the form of what is read as written, up to the same place; and the faults are the same.
pub canonical_of : (s : List ℕ) (q : Record) (n : ℕ) → read_record s ≡ got q n → read_canonical s ≡ got (canon_record q) n
unfolding read_canonical
canonical_of s q n e = rw e refl

pub canonical_no : (s : List ℕ) (k : Refusal) → read_record s ≡ refused k → read_canonical s ≡ refused k
unfolding read_canonical
canonical_no s k e = rw e refl

pub canonical_got : (s : List ℕ) (r : Record) (n : ℕ) → read_canonical s ≡ got r n → (q : Record) × (read_record s ≡ got q n) × (r ≡ canon_record q)
unfolding read_canonical
canonical_got s r n e = go (read_record s) refl e
  where
    go : (o : Outcome Record) → read_record s ≡ o → and_then o (λ q m. got (canon_record q) m) ≡ got r n → (q : Record) × (read_record s ≡ got q n) × (r ≡ canon_record q)
    go (got q m) h e = let a : canon_record q ≡ r = cc in let b : m ≡ n = cc in (q, h ∙ ap (got q) b, sym a)
    go (refused k) h e = let z : ◌≡◌ {A = ℕ} 0 1 = cc in absurd (omega arith)

pub canonical_refused : (s : List ℕ) (k : Refusal) → read_canonical s ≡ refused k → read_record s ≡ refused k
unfolding read_canonical
canonical_refused s k e = go (read_record s) refl e
  where
    go : (o : Outcome Record) → read_record s ≡ o → and_then o (λ q m. got (canon_record q) m) ≡ refused k → read_record s ≡ refused k
    go (got q m) h e = let z : ◌≡◌ {A = ℕ} 0 1 = cc in absurd (omega arith)
    go (refused j) h e = h ∙ e

-- it can be read, its grants are in canonical form, and it ends within the bytes
pub canonical_exact : (s : List ℕ) (r : Record) (n : ℕ) → read_canonical s ≡ got r n → AllowedRecord r × CanonicalRecord r × (n ≤ length s)
canonical_exact s r n e =
    let x = canonical_got s r n e in
    let w = record_exact s x.0 n x.1 in
    (subst AllowedRecord (sym x.2) (record_allowed x.0 w.2), subst CanonicalRecord (sym x.2) (record_canonical x.0), w.1)

-- and its length is that of its frame
pub canonical_extent : (s : List ℕ) (r : Record) (n : ℕ) → read_canonical s ≡ got r n → n ≡ extent s
canonical_extent s r n e = let x = canonical_got s r n e in record_extent s x.0 n x.1
