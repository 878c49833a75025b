-- Document 02, 6: a preview beside the withdrawal that it shows.
use Rattle.std.specs.Prelude.{ℕ, ◌≡◌, List, ◌++◌, ◌↔◌}
use Rattle.frames.specs.declared.Kind.TheVariants.{Wd, Pv}
use Rattle.frames.specs.Frames.{letters_of}
use Rattle.marks.specs.declared.Counts.{Counts}
use Rattle.bookform.specs.declared.answer.Answer.TheVariants.{Changed, Previewed, Refused}
use Rattle.bookform.specs.declared.answer.Answered.{Answered}
use Rattle.sorts.specs.declared.Refusal.{Refusal}

-- The letters pv and wd, and the same bytes after them.
abbrev pub preview_of : List ℕ → List ℕ
preview_of s = letters_of Pv ++ s

abbrev pub withdrawal_of : List ℕ → List ℕ
withdrawal_of s = letters_of Wd ++ s

-- "Record PV has the form and refusals of WD and returns the counts, and in a preview buffer .. the firm marks, that WD would produce": a
-- preview that answered r and left w in the preview buffer, and a withdrawal, on the same book, that answered q and left n in the first
-- buffer.
pub record Foretold (r q : Answered) (w n : List ℕ) : Type 0 where
  pub refusals : (j : Refusal) → (r.answer ≡ Refused j) ↔ (q.answer ≡ Refused j)
  pub counts : (x : Counts) → (r.answer ≡ Previewed x) ↔ (q.answer ≡ Changed x)
  pub marks : (x : Counts) → r.answer ≡ Previewed x → w ≡ n
  pub used : r.used ≡ q.used
