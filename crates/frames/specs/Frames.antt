-- Document 02, 7, "Record length written out": a record is a mark of two letters, two bytes with the number of bytes that follow, and
-- these bytes, its content. Refusals 1 and 2 are found here.
use Rattle.std.specs.Prelude.{ℕ, ◌+◌, ◌*◌, Bool, ◌&&◌, cond, List, [], ◌∷◌, length, get_or, take, drop, leb, eqb}
use Rattle.frames.specs.declared.Kind.{Kind}
use Rattle.frames.specs.declared.Kind.TheVariants.{Tg, St, Li, Wd, Qu, Pl, Cf, Pv}
use Rattle.sorts.specs.declared.Refusal.{Refusal}
use Rattle.sorts.specs.declared.Refusal.TheVariants.{Missing, Mark}
use Rattle.frames.specs.Bytes.{Outcome, got, refused, and_then, byte_at}

-- "Each opens with two letters in ASCII." Document 02, 7: "New records have lower-case mark letters".
abbrev pub letters_of : Kind → List ℕ
letters_of Tg = 116 ∷ 103 ∷ []
letters_of St = 115 ∷ 116 ∷ []
letters_of Li = 108 ∷ 105 ∷ []
letters_of Wd = 119 ∷ 100 ∷ []
letters_of Qu = 113 ∷ 117 ∷ []
letters_of Pl = 112 ∷ 108 ∷ []
letters_of Cf = 99 ∷ 102 ∷ []
letters_of Pv = 112 ∷ 118 ∷ []

-- all kinds, in the order in which the documents list them
abbrev pub kinds : List Kind
kinds = Tg ∷ St ∷ Li ∷ Wd ∷ Qu ∷ Pl ∷ Cf ∷ Pv ∷ []

-- whether these are a kind's letters
abbrev pub opens : Kind → ℕ → ℕ → Bool
opens k a b = eqb a (get_or (letters_of k) 0 0) && eqb b (get_or (letters_of k) 1 0)

-- The first of some kinds that has the letters a and b, and the place n after them; 2: "the two mark bytes are none of" the letters,
-- to which document 02, 5 adds "the letters of each record added here or later". Document 02, 7: "Upper-case marks meet refusal 2".
unfoldable pub kind_with : List Kind → ℕ → ℕ → ℕ → Outcome Kind
kind_with [] a b n = refused Mark
kind_with (k ∷ ks) a b n = cond (opens k a b) (got k n) (kind_with ks a b n)

-- The kind of a record. "fewer than two mark bytes is 1"
unfoldable pub read_mark : List ℕ → Outcome Kind
read_mark s = and_then (byte_at s 0) (λ a n1. and_then (byte_at s n1) (λ b n2. kind_with kinds a b n2))

-- "two bytes, high byte first, with the number of bytes that follow"
abbrev pub stated : ℕ → ℕ → ℕ
stated high low = 256 * high + low

-- What stands at the front of some bytes: a record of a kind, with the bytes of its content; or the refusal that ends the reading.
pub data Frame : Type 0 where
  holds : Kind → List ℕ → Frame
  ends : Refusal → Frame

-- The bytes s after the mark. 1: "a byte is missing", here one of the length; "a stated length beyond the input is 1".
abbrev pub sized : Kind → List ℕ → Frame
sized k [] = ends Missing
sized k (high ∷ []) = ends Missing
sized k (high ∷ low ∷ s) = cond (leb (stated high low) (length s)) (holds k (take (stated high low) s)) (ends Missing)

abbrev pub marked : Outcome Kind → List ℕ → Frame
marked (got k n) s = sized k (drop n s)
marked (refused j) s = ends j

unfoldable pub frame : List ℕ → Frame
frame s = marked (read_mark s) s

-- The bytes that a record uses: "Only refusals 1 and 2 still end the reading; after any other found in a record its whole length is
-- used", and so it is where the record is accepted. The mark and the length are four bytes.
abbrev pub frame_length : Frame → ℕ
frame_length (holds k c) = 4 + length c
frame_length (ends j) = 0

unfoldable pub extent : List ℕ → ℕ
extent s = frame_length (frame s)
