-- The reader of records is exact: what it read are the bytes it read, and reading what was written gives it back.
use Prim.Native.Nat.{ℕ, ◌+◌, ◌/◌, ◌%◌, ◌≤◌, ◌<◌}
use mathlib.Core.Path.{◌≡◌, refl, sym, ap, subst, ◌∙◌}
use mathlib.Core.Bool.{Bool, true, false, cond}
use mathlib.Core.List.{List, [], ◌∷◌, ◌++◌, append-nil}
use native.Mathlib.Omega.{arith}
use lib.ListN.{length, get_or, take, drop, length-append}
use lib.Seq.{take_at, drop-length}
use lib.Dec.{eqb}
use borrow.Author.Tests.{eqb-true}
use Rattle.frames.specs.declared.Kind.{Kind}
use Rattle.sorts.specs.declared.Status.TheVariants.{Trusted, Issued, Provisional}
use Rattle.sorts.specs.Numbers.{depths}
use Rattle.sorts.specs.declared.Refusal.TheVariants as refusal
use Rattle.frames.specs.Bytes.{Outcome, got, refused, and_then}
use Rattle.frames.specs.Frames.{letters_of, Frame, holds, ends, frame, extent}
use Rattle.reader.specs.Contents.{Record, enter, remove, confirm, preview, query, read_content}
use Rattle.reader.specs.Records.{fitted, read_whole, framed, read_record}
use Rattle.canon.proofs.Size as size
use Rattle.exact.specs.Writing.{kind_of, content_of, in_frame, written_record, AllowedRecord, Bytes}
use Rattle.exact.proofs.Framing.{frame_opens, in_frame_lem, in_frame_length, extent_holds}
use Rattle.exact.proofs.Contents.{content_found, whole_written}

-- reading a record that was written gives it back, whatever follows
pub record_read : (r : Record) (y : List ℕ) → AllowedRecord r → read_record (written_record r ++ y) ≡ got r (length (written_record r))
unfolding read_record written_record
record_read r y a = rw (in_frame_lem (kind_of r) (content_of r) y, whole_written r a, in_frame_length (kind_of r) (content_of r))

-- What was read in a whole content is the content's bytes.
pub record WholeFound (k : Kind) (c : List ℕ) (r : Record) (n : ℕ) : Type 0 where
  pub kind : kind_of r ≡ k
  pub allowed : AllowedRecord r
  pub bytes : c ≡ content_of r
  pub long : n ≡ length c

pub whole_found : (k : Kind) (c : List ℕ) (r : Record) (n : ℕ) → read_whole k c ≡ got r n → WholeFound k c r n
unfolding read_whole
whole_found k c r n e = go (read_content k c) refl e
  where
    all : (x : Record) (m : ℕ) → read_content k c ≡ got x m → m ≡ length c → x ≡ r → m ≡ n → WholeFound k c r n
    all x m p q d i =
        let f = content_found c k x m p in
        let rest : drop m c ≡ [] = rw q (drop-length c) in
        let is : c ≡ content_of x = f.spelled.rest ∙ ap (λ (l : List ℕ). content_of x ++ l) rest ∙ append-nil (content_of x) in
        record { kind = subst (λ (y : Record). kind_of y ≡ k) d f.kind; allowed = subst AllowedRecord d f.allowed; bytes = is ∙ ap content_of d; long = sym i ∙ q }

    ends_there : (x : Record) (m : ℕ) (t : Bool) → read_content k c ≡ got x m → eqb m (length c) ≡ t → cond t (got x m) (refused refusal.Content) ≡ got r n → WholeFound k c r n
    ends_there x m true p q e = all x m p (eqb-true m (length c) q) (cc) (cc)
    ends_there x m false p q e = let z : ◌≡◌ {A = ℕ} 0 1 = cc in absurd (omega arith)

    go : (o : Outcome Record) → read_content k c ≡ o → fitted (length c) o ≡ got r n → WholeFound k c r n
    go (refused j) p e = let z : ◌≡◌ {A = ℕ} 0 1 = cc in absurd (omega arith)
    go (got x m) p e = ends_there x m (eqb m (length c)) p refl e

-- A record that was read: its frame, and the whole content in it.
pub record RecordFound (s : List ℕ) (r : Record) (n : ℕ) : Type 0 where
  pub allowed : AllowedRecord r
  pub frame : frame s ≡ holds (kind_of r) (content_of r)
  pub long : n ≡ 4 + length (content_of r)

pub record_found : (s : List ℕ) (r : Record) (n : ℕ) → read_record s ≡ got r n → RecordFound s r n
unfolding read_record
record_found s r n e = go (frame s) refl e
  where
    within : (k : Kind) (c : List ℕ) (o : Outcome Record) → frame s ≡ holds k c → read_whole k c ≡ o → and_then o (λ x m. got x (4 + length c)) ≡ got r n → RecordFound s r n
    within k c (refused j) p q e = let z : ◌≡◌ {A = ℕ} 0 1 = cc in absurd (omega arith)
    within k c (got x m) p q e =
        let d : x ≡ r = cc in
        let i : 4 + length c ≡ n = cc in
        let w = whole_found k c r m (q ∙ ap (λ (y : Record). got y m) d) in
        record {
          allowed = w.allowed;
          frame = p ∙ (λ j. holds (sym w.kind j) (w.bytes j));
          long = sym i ∙ ap (λ (l : List ℕ). 4 + length l) w.bytes;
        }

    go : (f : Frame) → frame s ≡ f → framed f ≡ got r n → RecordFound s r n
    go (ends j) p e = let z : ◌≡◌ {A = ℕ} 0 1 = cc in absurd (omega arith)
    go (holds k c) p e = within k c (read_whole k c) p refl e

-- its length is all that it uses
pub record_extent : (s : List ℕ) (r : Record) (n : ℕ) → read_record s ≡ got r n → n ≡ extent s
record_extent s r n e = let f = record_found s r n e in f.long ∙ sym (extent_holds s (kind_of r) (content_of r) f.frame)

-- a record that was read is exactly its first bytes
pub record_exact : (s : List ℕ) (r : Record) (n : ℕ) → read_record s ≡ got r n → (Bytes s → take n s ≡ written_record r) × (n ≤ length s) × AllowedRecord r
unfolding written_record in_frame
record_exact s r n e =
    let f = record_found s r n e in
    let o = frame_opens s (kind_of r) (content_of r) f.frame in
    let own : take n s ≡ o.a ∷ o.b ∷ o.high ∷ o.low ∷ content_of r =
    ap (take n) o.bytes ∙ take_at (o.a ∷ o.b ∷ o.high ∷ o.low ∷ content_of r) o.after n (omega (arith, f.long)) in
    let fits : n ≤ length s = omega (arith, f.long, ap length o.bytes, length-append (content_of r) o.after) in
    let low : Bytes s → o.low < 256 = λ b. subst (λ (x : ℕ). x < 256) (ap (λ (l : List ℕ). get_or l 3 0) o.bytes) (b 3) in
    let bytes : Bytes s → take n s ≡ letters_of (kind_of r) ++ (length (content_of r) / 256 ∷ length (content_of r) % 256 ∷ content_of r) =
    λ b.
    let l = low b in
    let p : o.high ≡ length (content_of r) / 256 = omega (arith, o.size) in
    let q : o.low ≡ length (content_of r) % 256 = omega (arith, o.size) in
    own ∙ ap (λ (w : List ℕ). w ++ (o.high ∷ o.low ∷ content_of r)) o.letters ∙ (λ i. letters_of (kind_of r) ++ (p i ∷ q i ∷ content_of r)) in
    (bytes, fits, f.allowed)

-- Two bytes are enough for the length of every content that can be read.
pub content_most : (r : Record) → AllowedRecord r → length (content_of r) ≤ 3435
unfolding AllowedRecord
content_most (enter Trusted g) a = omega (arith, size.grant_most g depths a.1 a.2)
content_most (enter (Issued p) g) a = omega (arith, size.grant_most g depths a.1 a.2)
content_most (enter (Provisional p) g) a = omega (arith, size.grant_most g depths a.1 a.2)
content_most (remove Trusted g) a = omega (arith, size.grant_most g depths a.1 a.2)
content_most (remove (Issued p) g) a = omega (arith, size.grant_most g depths a.1 a.2)
content_most (remove (Provisional p) g) a = absurd a.0
content_most (confirm p g) a = omega (arith, size.grant_most g depths a.1 a.2)
content_most (preview p g) a = omega (arith, size.grant_most g depths a.1 a.2)
content_most (query c) a = omega (arith, size.concl_most c 0 0 depths a.0 a.1)

pub length_bytes : (r : Record) → AllowedRecord r → (length (content_of r) / 256 < 256) × (length (content_of r) % 256 < 256)
length_bytes r a = let l = content_most r a in (omega arith, omega arith)
