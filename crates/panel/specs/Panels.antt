-- Document 02, §2, "The run panel of a bench".
use Rattle.std.specs.Prelude.{ℕ, ◌/◌, ◌%◌, ◌^◌, ◌≤◌, ◌<◌, ◌≡◌, ◌⊎◌, ◌↔◌, List, [], length, Result, Ok, Err}
use Rattle.sorts.specs.declared.Concl.{Concl}
use Rattle.sorts.specs.Numbers.{number_of, speakers, packs, all_marks}
use Rattle.sorts.specs.declared.Refusal.{Refusal}
use Rattle.sorts.specs.declared.Refusal.TheVariants as refusal
use Rattle.rows.specs.Written as written
use Rattle.rows.specs.Written.{perm, run, export}
use Rattle.rows.specs.Form.{concl_of}
use Rattle.reader.specs.Contents.{query}
use Rattle.exact.specs.Writing.{written_record}
use Rattle.bookform.specs.declared.Book.{Book}
use Rattle.bookform.specs.declared.answer.Answer.TheVariants.{Permitted}
use Rattle.bookform.specs.declared.answer.Answered.{Answered}
use Rattle.machine.specs.Machine.{State}
use Rattle.machine.specs.Closed.{Choice, Lacking}
use Rattle.machine.specs.Choices.{AlwaysStands}
use Rattle.bookform.specs.Books.{BookForm}
use Rattle.book.specs.Calls.{Called}
use Rattle.panel.specs.declared.PackRight.{PackRight}
use Rattle.panel.specs.declared.PackRight.TheVariants.{Run, Export}
use Rattle.panel.specs.declared.Panel.{Panel}

-- "run, or export, of pack n": principal p's right as it is written in a record, and as a closed conclusion, which has a number.
-- No grant stands in it, so that it needs none of those numbered.
abbrev pub asked : ℕ → PackRight → ℕ → written.Concl
asked p Run n = perm p (run n)
asked p Export n = perm p (export n)

abbrev pub conclusion_of : ℕ → PackRight → ℕ → Concl
conclusion_of p x n = concl_of [] (asked p x n)

-- The bytes of the query for it.
abbrev pub query_for : ℕ → PackRight → ℕ → List ℕ
query_for p x n = written_record (query (asked p x n))

-- "is permitted": whatever answer the promise of a call allows to that query, on that book and with any preview buffer as long as the
-- marks, is permitted. (It allows one answer, and one only: theorems `asked_some` and `asked_only`.)
abbrev pub IsPermitted : Book → List ℕ → List ℕ → ℕ → PackRight → ℕ → Type 0
IsPermitted b m k p x n = (v : List ℕ) → length v ≡ all_marks → (a : Answered) (m' k' v' : List ℕ) → Called b m k v (query_for p x n) a m' k' v' → a.answer ≡ Permitted

-- Bit n of a word, counted from the lowest.
unfoldable pub bit : ℕ → ℕ → ℕ
bit w n = w / 2 ^ n % 2

-- A "32-bit" word "where bit n is 1 exactly when run, or export, of pack n is permitted": it has a bit for each pack and no other.
pub record Packs (b : Book) (m k : List ℕ) (p : ℕ) (x : PackRight) (w : ℕ) : Type 0 where
  pub bits : (n : ℕ) → n < packs → (bit w n ≡ 1) ↔ IsPermitted b m k p x n
  pub size : w < 2 ^ packs

-- THE PROMISE of the panel, whatever book, marks and principal: "For a principal it returns two 32-bit words"; "A principal above 15
-- meets refusal 3, checked after 9".
pub record PanelOf (b : Book) (m k : List ℕ) (p : ℕ) (r : Result Panel Refusal) : Type 0 where
  pub decided : BookForm b m k ⊎ (BookForm b m k → ⊥)
  pub unformed : (BookForm b m k → ⊥) → r ≡ Err refusal.Form
  pub above : BookForm b m k → speakers ≤ p → r ≡ Err refusal.Range
  pub shown : BookForm b m k → p < speakers → (w : Panel) × (r ≡ Ok w) × Packs b m k p Run w.run × Packs b m k p Export w.export

-- Under some choice of which provisional licences become firm a closed set lacks the conclusion: it is open, or not permitted.
pub record Lacks (M : State) (n : ℕ) : Type 1 where
  pub choice : Choice
  pub lacks : Lacking M choice n

-- DEMANDED of a word of the panel, where the book was reached from a fresh one by calls and the machine is in the state M: bit n is 1
-- exactly when under every choice each closed set contains the conclusion, and 0 exactly when under some choice some closed set lacks
-- it. (Theorem `panel_reached`.)
pub record Told (M : State) (p : ℕ) (x : PackRight) (w : ℕ) : Type 1 where
  pub one : (n : ℕ) → n < packs → (bit w n ≡ 1) ↔ AlwaysStands M (number_of (conclusion_of p x n))
  pub zero : (n : ℕ) → n < packs → (bit w n ≡ 0) ↔ Lacks M (number_of (conclusion_of p x n))
