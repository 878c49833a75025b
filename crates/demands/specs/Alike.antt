-- Document 02, 3, of whole records: such as differ only in how their grants are written.
use Rattle.std.specs.Prelude.{ℕ, ◌≡◌, List, [], ◌∷◌}
use Rattle.frames.specs.Bytes.{Outcome, got, refused}
use Rattle.reader.specs.Contents.{Record}
use Rattle.reader.specs.Records.{read_canonical}
use Rattle.bookform.specs.declared.answer.Answer.{Answer}
use Rattle.book.specs.Chains.{Call, Fed}

-- What was read but for its length, which is as it was written.
abbrev pub asked : Outcome Record → Outcome Record
asked (got r n) = got r 0
asked (refused k) = refused k

-- Two records ask the same: they have the same fault, or are of one kind and issuer and their grants are the same.
abbrev pub Alike : List ℕ → List ℕ → Type 0
Alike s t = asked (read_canonical s) ≡ asked (read_canonical t)

-- Two lists of what was fed, one by one: preview buffers of one length, and records that ask the same.
abbrev pub AllAlike : List Fed → List Fed → Type 0
AllAlike [] [] = Unit {0}
AllAlike [] (t ∷ ts) = ⊥
AllAlike (s ∷ ss) [] = ⊥
AllAlike (s ∷ ss) (t ∷ ts) = (s.room ≡ t.room) × Alike s.bytes t.bytes × AllAlike ss ts

-- The answers of a list of calls, in order.
unfoldable pub answered : List Call → List Answer
answered [] = []
answered (c ∷ cs) = c.gave.answer ∷ answered cs
