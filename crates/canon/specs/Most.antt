-- The most bytes that a grant can have which holds grants so many deep, itself counted: "one byte, how many principal variables",
-- one byte for the resource variable, one for "how many conditions, 0 to 4"; "each condition: a principal .. and a conclusion"; "the
-- conclusion granted". A conclusion has three bytes, and a grant behind them at most.
use Rattle.std.specs.Prelude.{ℕ, zero, suc, ◌+◌, ◌*◌}
use Rattle.sorts.specs.Numbers.{conditions, depths}

abbrev pub most : ℕ → ℕ
most zero = 0
most (suc below) = 3 + conditions * (1 + (3 + most below)) + (3 + most below)

-- 3,432 bytes of a grant, and 3,435 of the conclusion of a query, in which "an inner grant is at depth 1".
abbrev pub most_grant : ℕ
most_grant = most depths

abbrev pub most_concl : ℕ
most_concl = 3 + most_grant
