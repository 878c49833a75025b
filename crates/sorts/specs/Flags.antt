-- The ways in which a grant stands, and where a book has them.
use Rattle.std.specs.Prelude.{ℕ, ◌+◌, ◌*◌, ◌<◌, Bool, true, false, List, eqb, get_or}
use Rattle.sorts.specs.Numbers.{speakers, grants}
use Rattle.sorts.specs.declared.Status.{Status}
use Rattle.sorts.specs.declared.Status.TheVariants.{Trusted, Issued, Provisional}

-- "Each row has 17 flags: trusted, and issued by each principal." They say what is firm.
abbrev pub firm_flags : ℕ
firm_flags = 1 + speakers

-- Document 02, 5: "Each row gains 16 flags after its 17, provisional by each principal."
abbrev pub row_flags : ℕ
row_flags = firm_flags + speakers

abbrev pub all_flags : ℕ
all_flags = grants * row_flags

-- "A licence" is a pair of "issuer byte 00 to 0F" and grant; it is firm or provisional.
abbrev pub StatusRange : Status → Type 0
StatusRange Trusted = Unit {0}
StatusRange (Issued p) = p.0 < speakers
StatusRange (Provisional p) = p.0 < speakers

-- The same of what is firm.
abbrev pub FirmRange : Status → Type 0
FirmRange Trusted = Unit {0}
FirmRange (Issued p) = p.0 < speakers
FirmRange (Provisional p) = ⊥

abbrev pub flag_of : Status → ℕ
flag_of Trusted = 0
flag_of (Issued p) = 1 + p.0
flag_of (Provisional p) = firm_flags + p.0

-- Two statuses are the same when both are trust, or both firm or both provisional licences of the same issuer.
abbrev pub same_status : Status → Status → Bool
same_status Trusted Trusted = true
same_status Trusted (Issued q) = false
same_status Trusted (Provisional q) = false
same_status (Issued p) Trusted = false
same_status (Issued p) (Issued q) = eqb p.0 q.0
same_status (Issued p) (Provisional q) = false
same_status (Provisional p) Trusted = false
same_status (Provisional p) (Issued q) = false
same_status (Provisional p) (Provisional q) = eqb p.0 q.0

-- The flag that says whether grant g stands so.
abbrev pub flag_place : Status → ℕ → ℕ
flag_place by g = row_flags * g + flag_of by

abbrev pub flag : List ℕ → Status → ℕ → ℕ
flag flags by g = get_or flags (flag_place by g) 0
