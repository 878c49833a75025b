-- Lists of calls.
use Rattle.std.specs.Prelude.{ℕ, List, [], ◌∷◌, length}
use Rattle.sorts.specs.Numbers.{all_marks}
use Rattle.bookform.specs.declared.Book.{Book}
use Rattle.bookform.specs.declared.answer.Answered.{Answered}
use Rattle.machine.specs.Machine.{State, feed}
use Rattle.book.specs.Calls.{Called}

-- One call of a list: the bytes of its record, what it answered, the book and buffers it got, and those it left.
pub record Call : Type 0 where
  pub record' : List ℕ
  pub before : Book
  pub marks : List ℕ
  pub second : List ℕ
  pub preview : List ℕ
  pub gave : Answered
  pub left : List ℕ
  pub left_second : List ℕ
  pub left_preview : List ℕ

-- "Each call gets the rows, count, flags and marks that the last one left": calls from the book b and marks m and k on, to the book
-- b' and marks m' and k'. Document 02, 6: "a preview buffer lent with every record", whichever it is.
pub data Chain : Book → List ℕ → List ℕ → List Call → Book → List ℕ → List ℕ → Type 0 where
  none : {b : Book} {m k : List ℕ} → Chain b m k [] b m k
  then : {b b' : Book} {m m' k k' : List ℕ} {cs : List Call} (s v : List ℕ) (r : Answered) (n l w : List ℕ) →
      Called b m k v s r n l w → Chain r.book n l cs b' m' k' →
      Chain b m k (record { record' = s; before = b; marks = m; second = k; preview = v; gave = r; left = n; left_second = l; left_preview = w } ∷ cs) b' m' k'

-- What the machine is fed at a call: the bytes of the record, and the length of the preview buffer.
pub record Fed : Type 0 where
  pub bytes : List ℕ
  pub room : ℕ

-- A record with a preview buffer as long as the marks.
abbrev pub whole : List ℕ → Fed
whole s = record { bytes = s; room = all_marks }

-- What was fed at a list of calls, in order.
unfoldable pub records : List Call → List Fed
records [] = []
records (c ∷ cs) = record { bytes = c.record'; room = length c.preview } ∷ records cs

-- The state of the plain machine after it was fed a list of records.
unfoldable pub runs : State → List Fed → State
runs M [] = M
runs M (f ∷ fs) = runs (feed M f.room f.bytes).next fs
