-- A book: a fresh one, and its form.
use Rattle.std.specs.Prelude.{ℕ, ◌≤◌, ◌≡◌, List, length, get_or, replicate}
use Rattle.sorts.specs.Blank.{blank_row}
use Rattle.sorts.specs.Numbers.{grants, all_marks}
use Rattle.sorts.specs.Flags.{all_flags}
use Rattle.rows.specs.Form.{TableForm}
use Rattle.bookform.specs.Changes.{Unflagged, FlagsApart}
use Rattle.canon.specs.CanonicalRows.{CanonicalRows}
use Rattle.bookform.specs.declared.Book.{Book}

-- "A fresh book has blank rows, count 0, and every flag and mark 0."
abbrev pub fresh_book : Book
fresh_book = record { table = record { rows = replicate grants blank_row; count = 0 }; flags = replicate all_flags 0 }

unfoldable pub fresh_marks : List ℕ
fresh_marks = replicate all_marks 0

-- "it has 39,168 marks; marks .. are 0 or 1"
pub record MarksForm (m : List ℕ) : Type 0 where
  pub count : length m ≡ all_marks
  pub bits : (i : ℕ) → get_or m i 0 ≤ 1

-- "A book is in form when it has 39,168 marks; marks and flags are 0 or 1; the count is at most 64; rows from the count on are
-- blank with flags 0; every other row is in range, with unused conditions blank, distinct, of depth at most 4, uses only
-- variables it declares, and holds only lower-numbered grants." What is said of rows is TableForm, and document 02, 3: "written out,
-- the rows of a book in form are in" the canonical form. Document 02, 5: "A second buffer, in form under the same rule as the first";
-- "A licence both firm and provisional is out of form." The book b, with m and k as its two buffers of marks:
pub record BookForm (b : Book) (m k : List ℕ) : Type 0 where
  pub marks : MarksForm m
  pub second : MarksForm k
  pub flags : length b.flags ≡ all_flags
  pub flag_bits : (i : ℕ) → get_or b.flags i 0 ≤ 1
  pub table : TableForm b.table
  pub canonical : CanonicalRows b.table
  pub apart : FlagsApart b.flags
  pub unflagged : Unflagged b.flags b.table.count

-- Document 02, 6: "A preview buffer not as long as the marks meets refusal 9". Its bytes are not judged. The book, its two buffers and
-- the preview buffer v that is lent with them:
pub record Lent (b : Book) (m k v : List ℕ) : Type 0 where
  pub book : BookForm b m k
  pub preview : length v ≡ all_marks
