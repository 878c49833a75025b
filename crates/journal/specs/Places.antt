-- Where the records of a journal start, and how many bytes it may have.
use Rattle.std.specs.Prelude.{ℕ, ◌+◌, min, cond, List, [], drop, eqb}

-- "A journal over 65,536 bytes" is refused.
abbrev pub longest_journal : ℕ
longest_journal = 65536

-- "One record may be followed by others; the answer carries the bytes used." Document 02, 7: "Only refusals 1 and 2 still end the
-- reading": they use no byte. What is left to read of a journal s after a record of it.
unfoldable pub rest_after : ℕ → List ℕ → List ℕ
rest_after used s = cond (eqb used 0) [] (drop used s)

-- Where the next record starts, of a journal of len bytes.
unfoldable pub next_place : ℕ → ℕ → ℕ → ℕ
next_place len at used = cond (eqb used 0) len (min len (at + used))
