-- What a call answers, and what it leaves: the promise of `call`.
use Rattle.std.specs.Prelude.{ℕ, ◌≡◌, ◌⊎◌, List}
use Rattle.sorts.specs.declared.Prin.{Prin}
use Rattle.sorts.specs.declared.Status.TheVariants.{Issued}
use Rattle.sorts.specs.declared.Refusal.TheVariants as refusal
use Rattle.sorts.specs.declared.Refusal.{Refusal}
use Rattle.rows.specs.Written.{Grant}
use Rattle.rows.specs.Numbering.{place}
use Rattle.rules.specs.Standing.{standing}
use Rattle.bookform.specs.Both.{both_flags}
use Rattle.bookform.specs.Changes.{removed_flags}
use Rattle.bookform.specs.declared.Book.{Book}
use Rattle.bookform.specs.declared.answer.Answer.{Answer}
use Rattle.bookform.specs.declared.answer.Answer.TheVariants.{Changed, Previewed, Refused}
use Rattle.bookform.specs.declared.answer.Answered.{Answered}
use Rattle.bookform.specs.Answers.{answer_at}
use Rattle.machine.specs.Machine.{State, Step, Verdict, changes, previews, asks, refuses, step}
use Rattle.bookform.specs.Books.{BookForm, Lent}
use Rattle.book.specs.Shows.{Shows}
use Rattle.marks.specs.Counts.{counts_of}

-- The answer in the documents' terms, from what the machine says, the marks m and k before, and the first buffer n and the preview
-- buffer w after: "The existing marks and counts are those of the firm licences." Document 02, 6: PV "returns the counts" that "WD
-- would produce".
unfoldable pub answer_of : Verdict → List ℕ → List ℕ → List ℕ → List ℕ → Answer
answer_of changes m k n w = Changed (counts_of m n)
answer_of (previews p g) m k n w = Previewed (counts_of m w)
answer_of (asks c) m k n w = answer_at m k c
answer_of (refuses j) m k n w = Refused j

-- "After an accepted TG, ST, LI, WD, PL or CF both buffers are worked out from the rows", "whichever marks stood": the first with the
-- firm licences. QU "changes no mark"; "every refusal .. leaves rows, flags and marks unchanged".
unfoldable pub marks_after : Verdict → Book → List ℕ → List ℕ
marks_after changes b m = standing b.table.rows b.flags
marks_after (previews p g) b m = m
marks_after (asks c) b m = m
marks_after (refuses j) b m = m

-- The second "holds the marks with all provisional ones taken as firm".
unfoldable pub second_after : Verdict → Book → List ℕ → List ℕ
second_after changes b k = standing b.table.rows (both_flags b.flags)
second_after (previews p g) b k = k
second_after (asks c) b k = k
second_after (refuses j) b k = k

-- Document 02, 6: "in a preview buffer lent with every record the firm marks, that WD would produce": those of the book b, which shows
-- M, with the licence removed. "Other records and every refusal leave it unchanged."
unfoldable pub preview_after : Verdict → State → Book → List ℕ → List ℕ
preview_after changes M b v = v
preview_after (previews p g) M b v = standing b.table.rows (removed_flags (Issued p) (place g M.N) b.flags)
preview_after (asks c) M b v = v
preview_after (refuses j) M b v = v

-- A call on a book that shows the state M, where the machine takes the step st: marks m and k and the preview buffer v before, n, l and
-- w after. "The book is untouched" by a preview, and by a refusal.
pub record Follows (M : State) (st : Step) (b : Book) (m k v : List ℕ) (r : Answered) (n l w : List ℕ) : Type 0 where
  pub answer : r.answer ≡ answer_of st.says m k n w
  pub used : r.used ≡ st.used
  pub marks : n ≡ marks_after st.says r.book m
  pub second : l ≡ second_after st.says r.book k
  pub preview : w ≡ preview_after st.says M b v
  pub shows : Shows r.book st.next
  pub form : BookForm r.book n l
  pub kept : (j : Refusal) → st.says ≡ refuses j → r.book ≡ b
  pub untouched : (p : Prin) (g : Grant) → st.says ≡ previews p g → r.book ≡ b

-- THE PROMISE of a call, whatever book, buffers and bytes: what is lent is in form or it is not; out of form it is refused with 9 and
-- uses no byte; in form it follows the machine. Either way a refusal leaves the book and the buffers as they were.
pub record Called (b : Book) (m k v s : List ℕ) (r : Answered) (n l w : List ℕ) : Type 0 where
  pub decided : Lent b m k v ⊎ (Lent b m k v → ⊥)
  pub unformed : (Lent b m k v → ⊥) → (r ≡ record { book = b; answer = Refused refusal.Form; used = 0 }) × (n ≡ m) × (l ≡ k) × (w ≡ v)
  pub formed : Lent b m k v → (M : State) → Shows b M → Follows M (step M s) b m k v r n l w
