-- A number made of a row: the same rows have the same number.
use Rattle.std.specs.Prelude.{ℕ, zero, suc, ◌+◌, ◌*◌, ◌%◌, ◌^◌}
use Rattle.sorts.specs.declared.Row.{Row}
use Rattle.rows.specs.Words.{row_word}

-- the number of the first n words of a row, each a digit, as far as 64 bits reach
abbrev pub digits : Row → ℕ → ℕ
digits x zero = 0
digits x (suc n) = (digits x n * 509 % 2 ^ 64 + row_word x n) % 2 ^ 64

unfoldable pub row_key : Row → ℕ
row_key x = digits x 6
