-- The reading of a whole journal.
use Rattle.std.specs.Prelude.{ℕ, ◌<◌, ◌≡◌, List, [], ◌∷◌, length, drop}
use Rattle.bookform.specs.declared.Book.{Book}
use Rattle.bookform.specs.declared.answer.Answered.{Answered}
use Rattle.book.specs.Calls.{Called}
use Rattle.bookform.specs.Books.{fresh_book, fresh_marks}
use Rattle.book.specs.Chains.{Call}
use Rattle.lines.specs.Pieces.{Carries}
use Rattle.journal.specs.Places.{rest_after, next_place}
use Rattle.journal.specs.declared.Stepped.{Stepped}
use Rattle.journal.specs.declared.Left.{Left}
use Rattle.journal.specs.Lines.{line_of}

-- The calls of a journal s, from a book, the marks of its two buffers and a preview buffer, to those that the last one leaves: each
-- call is handed what is left to read, and the book, marks and preview buffer that the last one left, until nothing is left.
pub data Calls : Book → List ℕ → List ℕ → List ℕ → List ℕ → List Call → Book → List ℕ → List ℕ → List ℕ → Type 0 where
  ended : {b : Book} {m k v : List ℕ} → Calls b m k v [] [] b m k v
  then : {b b' : Book} {m m' k k' v v' : List ℕ} {cs : List Call} (s : List ℕ) (r : Answered) (n l w : List ℕ) → 0 < length s →
      Called b m k v s r n l w → Calls r.book n l w (rest_after r.used s) cs b' m' k' v' →
      Calls b m k v s (record { record' = s; before = b; marks = m; second = k; preview = v; gave = r; left = n; left_second = l; left_preview = w } ∷ cs) b' m' k' v'

-- What a journal s leaves of the book and the three buffers of l: those of r, with which its calls, from these on, end.
pub record LeavesFrom (l : Left) (s : List ℕ) (r : Left) : Type 0 where
  pub calls : List Call
  pub made : Calls l.book l.marks l.second l.preview s calls r.book r.marks r.second r.preview

-- A fresh book, with every buffer 0.
abbrev pub fresh_left : Left
fresh_left = record { book = fresh_book; marks = fresh_marks; second = fresh_marks; preview = fresh_marks }

-- The book b, the marks m and k and the preview buffer v that a journal s leaves: those with which its calls, from a fresh book and
-- with all three buffers 0, end.
pub record Leaves (s : List ℕ) (b : Book) (m k v : List ℕ) : Type 0 where
  pub calls : List Call
  pub made : Calls fresh_book fresh_marks fresh_marks fresh_marks s calls b m k v

-- THE PROMISE of a step at a place of the journal s, which is that of record n: it is the call on what is left to read, and its
-- line is that record's.
pub record Steps (b : Book) (m k v s : List ℕ) (at n : ℕ) (r : Stepped) (m' k' v' : List ℕ) : Type 0 where
  pub call : Called b m k v (drop at s) r.answered m' k' v'
  pub line : Carries r.line (line_of n (drop at s) r.answered.answer)
  pub next : r.next ≡ next_place (length s) at r.answered.used
