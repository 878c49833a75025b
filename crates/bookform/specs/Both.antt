-- Document 02, 5: "A second buffer .. holds the marks with all provisional ones taken as firm." The flags that it is worked out from.
use Rattle.std.specs.Prelude.{ℕ, ◌+◌, ◌%◌, ◌<◌, ◌≡◌, max, cond, List, map, eqb, leb, get_or}
use Rattle.std.specs.List.{range_with_len}
use Rattle.sorts.specs.declared.Prin.{Prin}
use Rattle.sorts.specs.declared.Status.TheVariants.{Provisional}
use Rattle.sorts.specs.Numbers.{speakers, grants}
use Rattle.sorts.specs.Flags.{firm_flags, row_flags, all_flags, flag}

-- The flag at place i. "Each row has 17 flags: trusted, and issued by each principal", and "16 flags after its 17, provisional by
-- each principal": issued by a principal is now the larger of the two flags of that principal, and every other flag is as it was.
abbrev pub both_at : List ℕ → ℕ → ℕ
both_at flags i =
    cond (eqb (i % row_flags) 0) (get_or flags i 0)
    (cond (leb firm_flags (i % row_flags)) (get_or flags i 0) (max (get_or flags i 0) (get_or flags (i + speakers) 0)))

unfoldable pub both_flags : List ℕ → List ℕ
both_flags flags = map (both_at flags) (range_with_len 0 all_flags)

-- No licence is provisional: then the second buffer has the marks of the first.
abbrev pub FirmOnly : List ℕ → Type 0
FirmOnly flags = (p : Prin) (g : ℕ) → p.0 < speakers → g < grants → flag flags (Provisional p) g ≡ 0
