-- Document 01, "Where a record is turned back", and document 02, 7: the numbers of the refusals.
use Rattle.std.specs.Prelude.{ℕ}
use Rattle.sorts.specs.declared.Refusal.{Refusal}
use Rattle.sorts.specs.declared.Refusal.TheVariants.{Missing, Mark, Range, Variable, Depth, Full, Absent, Length, Form, Content}

-- 1 "a byte is missing"; 2 "the two mark bytes are no record's letters"; 3 "a byte is outside its list or range"; 4 "a variable not
-- declared by its own grant"; 5 "an inner grant would stand at depth 5"; 6 "the grants that the record would number and those in N
-- exceed 64"; 7 "the grant or licence to remove doesn't stand"; 8 "a journal over 65,536 bytes"; 9 "the lent book is out of form";
-- 10 "when a record's content needs fewer or more bytes than its stated length".
abbrev pub refusal_number : Refusal → ℕ
refusal_number Missing = 1
refusal_number Mark = 2
refusal_number Range = 3
refusal_number Variable = 4
refusal_number Depth = 5
refusal_number Full = 6
refusal_number Absent = 7
refusal_number Length = 8
refusal_number Form = 9
refusal_number Content = 10
