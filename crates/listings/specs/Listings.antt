-- The listing of a whole journal.
use Rattle.std.specs.Prelude.{ℕ, ◌+◌, ◌≤◌, ◌<◌, ◌≡◌, ◌↔◌, List, [], ◌∷◌, ◌++◌, length, get_or}
use Rattle.sorts.specs.Refusals.{refusal_number}
use Rattle.bookform.specs.declared.Book.{Book}
use Rattle.bookform.specs.declared.answer.Answer.{Answer}
use Rattle.bookform.specs.declared.answer.Answer.TheVariants.{Permitted, Open, NotPermitted, Changed, Previewed, Refused}
use Rattle.bookform.specs.Books.{fresh_book, fresh_marks}
use Rattle.book.specs.Chains.{Call}
use Rattle.demands.specs.Demands.{Demand3}
use Rattle.journal.specs.Places.{longest_journal}
use Rattle.lines.specs.declared.Line.{Line}
use Rattle.lines.specs.Pieces.{Carries}
use Rattle.journal.specs.Lines.{line_of, end_of, refused_line}
use Rattle.journal.specs.Journals.{Calls}

-- Document 02, 7: "Only refusals 1 and 2 still end the reading".
abbrev pub Ends : Answer → Type 0
Ends Permitted = ⊥
Ends Open = ⊥
Ends NotPermitted = ⊥
Ends (Changed c) = ⊥
Ends (Previewed c) = ⊥
Ends (Refused k) = (1 ≤ refusal_number k) × (refusal_number k ≤ 2)

-- DEMANDED of the calls of a journal: those that use no byte, and so end it, are those with the refusals 1 and 2.
unfoldable pub AllEnd : List Call → Type 0
AllEnd [] = Unit {0}
AllEnd (c ∷ cs) = ((c.gave.used ≡ 0) ↔ Ends c.gave.answer) × AllEnd cs

-- "Each record gives a line with its number from 1": the lines of calls that are numbered from n on.
unfoldable pub record_lines : ℕ → List Call → List (List ℕ)
record_lines n [] = []
record_lines n (c ∷ cs) = line_of n c.record' c.gave.answer ∷ record_lines (n + 1) cs

-- THE LISTING of a journal: "Refusal 8 is the one line `refused 8`", "a journal over 65,536 bytes"; else the lines of its
-- records, from a fresh book, with a preview buffer that starts at 0, and the last line, which counts the marks of the first buffer.
pub data Listed (s : List ℕ) : List (List ℕ) → Type 0 where
  over : longest_journal < length s → Listed s (refused_line 8 ∷ [])
  read : (cs : List Call) (b : Book) (m k v : List ℕ) → length s ≤ longest_journal → Calls fresh_book fresh_marks fresh_marks fresh_marks s cs b m k v →
      Listed s (record_lines 1 cs ++ (end_of (length cs) m ∷ []))

-- DEMANDED of the listing of a journal s that is not too long: it is the lines of its calls and the last line, and of these calls
-- demand 3 holds, and they end at the refusals 1 and 2 alone.
pub record Told (s : List ℕ) (ls : List (List ℕ)) : Type 1 where
  pub calls : List Call
  pub book : Book
  pub marks : List ℕ
  pub second : List ℕ
  pub preview : List ℕ
  pub made : Calls fresh_book fresh_marks fresh_marks fresh_marks s calls book marks second preview
  pub lines : ls ≡ record_lines 1 calls ++ (end_of (length calls) marks ∷ [])
  pub demand : Demand3 calls book marks second
  pub ends : AllEnd calls

-- DEMANDED of a line that is written after k lines: its pieces, joined, are line k, counted from 0, of the listing of s. (A
-- journal has one listing: theorems `listed_some` and `listed_only`.)
pub record Follows (s : List ℕ) (k : ℕ) (t : Line) : Type 0 where
  pub lines : List (List ℕ)
  pub listed : Listed s lines
  pub within : k < length lines
  pub holds : Carries t (get_or lines k [])

-- THE PROMISE of listing s: so many lines were written, one after another, as its listing has.
pub record Finished (s : List ℕ) (k : ℕ) : Type 0 where
  pub lines : List (List ℕ)
  pub listed : Listed s lines
  pub count : length lines ≡ k
