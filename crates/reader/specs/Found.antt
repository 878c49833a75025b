-- What is found of a record, and how it numbers the record's grants. Document 01: "TG, LI and QU give numbers to
-- new grants. ST and WD give none." Document 02, 5: "PL appends its new grants to N as LI does", and CF has the form of WD.
use Rattle.std.specs.Prelude.{ℕ, ◌≡◌, Bool, true, false, cond, List, length, leb, Result, Ok, Err}
use Rattle.std.proofs.Math.Option.{Option, none, some}
use Rattle.sorts.specs.Numbers.{grants}
use Rattle.sorts.specs.declared.Refusal.{Refusal}
use Rattle.sorts.specs.declared.Refusal.TheVariants as refusal
use Rattle.sorts.specs.Refusals.{refusal_number}
use Rattle.rows.specs.Written.{Grant}
use Rattle.rows.specs.Numbering.{place, has, number, number_concl}
use Rattle.rows.specs.Form.{concl_of}
use Rattle.sorts.specs.declared.GrantNo.{GrantNo}
use Rattle.sorts.specs.declared.Status.{Status}
use Rattle.reader.specs.declared.contents.Request.{Request}
use Rattle.reader.specs.declared.contents.Request.TheVariants.{Enter, Remove, Confirm, Preview, Query}
use Rattle.frames.specs.Bytes.{Outcome, got, refused}
use Rattle.reader.specs.Contents.{Record, enter, remove, confirm, preview, query}

-- "If an answer is an enum, a definition gives this paper's number and values for each of its cases." What the reader finds of a record
-- is its request, or a refusal with its number.
abbrev pub number_found : Result Request Refusal → Option ℕ
number_found (Ok q) = none
number_found (Err k) = some (refusal_number k)

-- "the grants that the record would number and those in N exceed 64": the list that they make is too long.
abbrev pub fits : List Grant → Bool
fits N = leb (length N) grants

-- To enter g: its number is its place once it is numbered.
abbrev pub entering : Status → List Grant → Grant → Result Request Refusal
entering by N g = cond (fits (number g N)) (Ok (Enter by (record { 0 = place g (number g N) }))) (Err refusal.Full)

-- To ask q of g, where it has a number.
abbrev pub asking : (GrantNo → Request) → List Grant → Grant → Result Request Refusal
asking q N g = cond (has g N) (Ok (q (record { 0 = place g N }))) (Err refusal.Absent)

-- What the reader finds of what was read, where the grants N are numbered.
unfoldable pub found_of : List Grant → Outcome Record → Result Request Refusal
found_of N (refused k) = Err k
found_of N (got (enter by g) n) = entering by N g
found_of N (got (remove by g) n) = asking (Remove by) N g
found_of N (got (confirm p g) n) = asking (Confirm p) N g
found_of N (got (preview p g) n) = asking (Preview p) N g
found_of N (got (query c) n) = cond (fits (number_concl c N)) (Ok (Query (concl_of (number_concl c N) c))) (Err refusal.Full)

-- The grants numbered after it.
unfoldable pub numbered_by : List Grant → Outcome Record → List Grant
numbered_by N (refused k) = N
numbered_by N (got (enter by g) n) = cond (fits (number g N)) (number g N) N
numbered_by N (got (remove by g) n) = N
numbered_by N (got (confirm p g) n) = N
numbered_by N (got (preview p g) n) = N
numbered_by N (got (query c) n) = cond (fits (number_concl c N)) (number_concl c N) N

-- Whether what was found gives numbers.
abbrev pub numbers : Result Request Refusal → Bool
numbers (Ok (Enter by g)) = true
numbers (Ok (Remove by g)) = false
numbers (Ok (Confirm p g)) = false
numbers (Ok (Preview p g)) = false
numbers (Ok (Query c)) = true
numbers (Err k) = false

-- When a record is turned back where the grants N are numbered, by what was read: the fault's own number; 6 "the grants that the
-- record would number and those in N exceed 64"; 7 for the removal or the confirming of a grant that has no number.
abbrev pub TurnedBack : List Grant → Outcome Record → ℕ → Type 0
TurnedBack N (refused j) k = refusal_number j ≡ k
TurnedBack N (got (enter by g) n) k = (fits (number g N) ≡ false) × (k ≡ 6)
TurnedBack N (got (remove by g) n) k = (has g N ≡ false) × (k ≡ 7)
TurnedBack N (got (confirm p g) n) k = (has g N ≡ false) × (k ≡ 7)
TurnedBack N (got (preview p g) n) k = (has g N ≡ false) × (k ≡ 7)
TurnedBack N (got (query c) n) k = (fits (number_concl c N) ≡ false) × (k ≡ 6)
