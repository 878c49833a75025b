-- Document 01, "What the listing program prints": numbers and nets in decimal, in ASCII.
use Rattle.std.specs.Prelude.{ℕ, zero, suc, ◌+◌, ◌/◌, ◌%◌, cond, List, [], ◌∷◌, ◌++◌, ltb, ℤ, pos, negsuc}

-- The digits of n without leading zeros, the last k where there are more; `0` to `9` are 48 to 57.
unfoldable pub digits : ℕ → ℕ → List ℕ
digits zero n = []
digits (suc k) n = cond (ltb n 10) ((48 + n) ∷ []) (digits k (n / 10) ++ ((48 + n % 10) ∷ []))

-- A number in decimal: n + 1 digits are enough for n.
unfoldable pub decimal : ℕ → List ℕ
decimal n = digits (suc n) n

-- A "signed net": "A net of zero prints as `+0`"; `+` is 43 and `-` is 45. `negsuc n` is -(n + 1).
unfoldable pub signed : ℤ → List ℕ
signed (pos n) = 43 ∷ decimal n
signed (negsuc n) = 45 ∷ decimal (suc n)
