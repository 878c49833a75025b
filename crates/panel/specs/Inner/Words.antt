-- A word as it is made from the answers, and to whom it is shown.
use Rattle.std.specs.Prelude.{ℕ, ◌+◌, ◌^◌, ◌≤◌, ◌<◌, ◌≡◌, List, Result, Ok, Err}
use Rattle.sorts.specs.Numbers.{number_of, speakers, packs}
use Rattle.sorts.specs.declared.Refusal.TheVariants as refusal
use Rattle.sorts.specs.declared.Refusal.{Refusal}
use Rattle.bookform.specs.declared.Book.{Book}
use Rattle.bookform.specs.Books.{BookForm}
use Rattle.bookform.specs.declared.answer.Answer.{Answer}
use Rattle.bookform.specs.declared.answer.Answer.TheVariants.{Permitted, Open, NotPermitted, Changed, Previewed, Refused}
use Rattle.bookform.specs.Answers.{answer_at}
use Rattle.panel.specs.declared.PackRight.{PackRight}
use Rattle.panel.specs.Panels.{conclusion_of, bit}

-- 1 for an answer that permits
abbrev pub one_for : Answer → ℕ
one_for Permitted = 1
one_for Open = 0
one_for NotPermitted = 0
one_for (Changed c) = 0
one_for (Previewed c) = 0
one_for (Refused k) = 0

-- the bit of pack n, from the marks
abbrev pub pack_bit : List ℕ → List ℕ → ℕ → PackRight → ℕ → ℕ
pack_bit m k p x n = one_for (answer_at m k (number_of (conclusion_of p x n)))

-- the word of u packs from n on, up to the last
pub record WordFrom (m k : List ℕ) (p : ℕ) (x : PackRight) (n u w : ℕ) : Type 0 where
  pub bits : (j : ℕ) → j < u → bit w j ≡ pack_bit m k p x (j + n)
  pub size : w < 2 ^ u

-- the word of all packs
abbrev pub WordOf : List ℕ → List ℕ → ℕ → PackRight → ℕ → Type 0
WordOf m k p x w = WordFrom m k p x 0 packs w

-- whether the panel of principal p is shown of a lent book: of one that is in form, and to one of the principals; 9 comes before 3
pub data Admitted (b : Book) (m k : List ℕ) (p : ℕ) : Result (Unit {0}) Refusal → Type 0 where
  admitted : BookForm b m k → p < speakers → Admitted b m k p (Ok (tt {0}))
  unformed : (BookForm b m k → ⊥) → Admitted b m k p (Err refusal.Form)
  above : BookForm b m k → speakers ≤ p → Admitted b m k p (Err refusal.Range)
