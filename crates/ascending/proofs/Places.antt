-- The words of the rows that a loop has passed.
use Prim.Native.Nat.{ℕ, ◌+◌, ◌<◌}
use mathlib.Core.Path.{◌≡◌, ap, ◌∙◌}
use mathlib.Core.List.{List, []}
use native.Mathlib.Omega.{arith}
use lib.ListN.{length, get_or, set}
use lib.Seq.{get_or-set_same, get_or-set_other}
use Rattle.sorts.specs.declared.Row.{Row}
use Rattle.sorts.specs.Blank.{no_row}
use Rattle.rows.proofs.Deciding.{each_more}
use Rattle.rows.specs.Words.{row_word}
use Rattle.ascending.specs.Inner.Words.{word}

-- the words of the first n rows
abbrev pub Worded : List (List ℕ) → List Row → ℕ → Type 0
Worded words rows n = (i : ℕ) → i < n → (k : ℕ) → k < 6 → word words i k ≡ row_word (get_or rows i no_row) k

pub worded_more : (old : List (List ℕ)) (w : List ℕ) (rows : List Row) (n : ℕ) → Worded old rows n → n < length old → ((k : ℕ) → k < 6 → get_or w k 0 ≡ row_word (get_or rows n no_row) k) → Worded (set old n w) rows (n + 1)
worded_more old w rows n v l e = each_more (λ (i : ℕ). (k : ℕ) → k < 6 → word (set old n w) i k ≡ row_word (get_or rows i no_row) k) n
    (λ i h k m. ap (λ (x : List ℕ). get_or x k 0) (get_or-set_other old n i w [] (λ (q : i ≡ n). absurd (omega arith))) ∙ v i h k m)
    (λ k m. ap (λ (x : List ℕ). get_or x k 0) (get_or-set_same old n w [] l) ∙ e k m)
