-- The panel of a journal and the preview buffer that it leaves, and how they cross to a program in another language.
use Rattle.std.specs.Prelude.{ℕ, ◌/◌, ◌%◌, ◌≤◌, ◌<◌, ◌≡◌, List, [], ◌∷◌, ◌++◌, length, Result, Ok, Err}
use Rattle.sorts.specs.declared.Refusal.{Refusal}
use Rattle.sorts.specs.declared.Refusal.TheVariants.{Length}
use Rattle.sorts.specs.Refusals.{refusal_number}
use Rattle.bookform.specs.declared.Book.{Book}
use Rattle.bookform.specs.Books.{fresh_marks}
use Rattle.journal.specs.Places.{longest_journal}
use Rattle.journal.specs.Journals.{Leaves}
use Rattle.panel.specs.declared.Panel.{Panel}
use Rattle.panel.specs.Panels.{PanelOf}

-- Whether a journal s is read; one over 65,536 bytes is refused.
abbrev pub Admitted : List ℕ → Result (Unit {0}) Refusal → Type 0
Admitted s (Ok x) = length s ≤ longest_journal
Admitted s (Err j) = (longest_journal < length s) × (j ≡ Length)

-- The panel of principal p over the book that a journal s leaves. "Refusal 8 is only for a whole journal, before every other check":
-- "a journal over 65,536 bytes".
pub data JournalPanel (s : List ℕ) (p : ℕ) : Result Panel Refusal → Type 0 where
  over : longest_journal < length s → JournalPanel s p (Err Length)
  read : (b : Book) (m k v : List ℕ) (r : Result Panel Refusal) → length s ≤ longest_journal → Leaves s b m k v → PanelOf b m k p r → JournalPanel s p r

-- The four bytes of a 32-bit word, high byte first.
abbrev pub bytes_of : ℕ → List ℕ
bytes_of w = w / 16777216 % 256 ∷ w / 65536 % 256 ∷ w / 256 % 256 ∷ w / 1 % 256 ∷ []

-- The number that crosses: that of the refusal, 0 where the panel is shown.
abbrev pub number_of_panel : Result Panel Refusal → ℕ
number_of_panel (Ok r) = 0
number_of_panel (Err k) = refusal_number k

-- The words that cross, that of run and then that of export: "either refusal returns both words 0".
abbrev pub words_of_panel : Result Panel Refusal → List ℕ
words_of_panel (Ok r) = bytes_of r.run ++ bytes_of r.export
words_of_panel (Err k) = bytes_of 0 ++ bytes_of 0

-- THE PROMISE at the boundary: k is the number and w the words of a panel of the journal.
pub record Crossed (s : List ℕ) (p k : ℕ) (w : List ℕ) : Type 0 where
  pub panel : Result Panel Refusal
  pub shown : JournalPanel s p panel
  pub number : k ≡ number_of_panel panel
  pub words : w ≡ words_of_panel panel

-- THE PROMISE of the preview buffer of a journal s: the number returned, and all 39,168 bytes that cross. A journal over 65,536 bytes
-- has 8, and each byte is 0. For any other it is 0, and the bytes are those that the calls on its records, from a fresh book and with
-- all three buffers 0, leave in the preview buffer.
pub data JournalPreview (s : List ℕ) : ℕ → List ℕ → Type 0 where
  blank : longest_journal < length s → JournalPreview s 8 fresh_marks
  left : (b : Book) (m k v : List ℕ) → length s ≤ longest_journal → Leaves s b m k v → JournalPreview s 0 v
