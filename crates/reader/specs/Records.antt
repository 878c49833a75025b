-- A whole record: its content, read in its frame.
use Rattle.std.specs.Prelude.{ℕ, cond, List, length, eqb}
use Rattle.frames.specs.Bytes.{Outcome, got, refused, and_then}
use Rattle.frames.specs.declared.Kind.{Kind}
use Rattle.frames.specs.Frames.{Frame, holds, ends, frame, frame_length}
use Rattle.reader.specs.Contents.{Record, read_content, canon_record}
use Rattle.sorts.specs.declared.Refusal.TheVariants as refusal
use Rattle.sorts.specs.declared.Refusal.{Refusal}

-- 10: "when a record's content needs fewer or more bytes than its stated length; found from left to right like the others". What was
-- read in a content of len bytes ends where they end; a byte that is missing is one beyond them; a fault before it decides.
abbrev pub beyond : Refusal → Refusal
beyond refusal.Missing = refusal.Content
beyond k = k

abbrev pub fitted : ℕ → Outcome Record → Outcome Record
fitted len (got r n) = cond (eqb n len) (got r n) (refused refusal.Content)
fitted len (refused k) = refused (beyond k)

unfoldable pub read_whole : Kind → List ℕ → Outcome Record
read_whole k c = fitted (length c) (read_content k c)

-- A record as it is written, which may be followed by others, and its length.
abbrev pub framed : Frame → Outcome Record
framed (holds k c) = and_then (read_whole k c) (λ r n. got r (frame_length (holds k c)))
framed (ends j) = refused j

unfoldable pub read_record : List ℕ → Outcome Record
read_record s = framed (frame s)

-- What a record asks and its length: "numbers follow that form, and the plain machine's grants .. are in it. Condition counts are
-- checked as written", and so is every fault, and its length is as it was written.
unfoldable pub read_canonical : List ℕ → Outcome Record
read_canonical s = and_then (read_record s) (λ r n. got (canon_record r) n)
