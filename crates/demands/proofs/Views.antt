-- The two ways to look at what stands: with the firm licences alone, and with the provisional ones taken as firm.
use mathlib.Core.Path.{◌≡◌}
use mathlib.Core.Bool.{true}
use mathlib.Core.List.{List}
use mathlib.Core.Logic.{◌⊎◌}
use Prim.Native.Nat.{ℕ}
use Rattle.sorts.specs.declared.Status.{Status}
use Rattle.sorts.specs.declared.Status.TheVariants.{Trusted, Issued, Provisional}
use Rattle.rows.specs.Written.{Grant}
use Rattle.rules.specs.Standing.{standing}
use Rattle.bookform.specs.Both.{both_flags}
use Rattle.machine.specs.Machine.{Entry, member, entry}
use Rattle.machine.specs.Closed.{Choice, none, all}
use Rattle.bookform.specs.declared.Book.{Book}

pub data View : Type 0 where
  firm : View
  both : View

abbrev pub flags_in : View → List ℕ → List ℕ
flags_in firm flags = flags
flags_in both flags = both_flags flags

abbrev pub choice_of : View → Choice
choice_of firm = none
choice_of both = all

-- what stands in a book
abbrev pub marks_in : View → Book → List ℕ
marks_in v b = standing b.table.rows (flags_in v b.flags)

-- a grant is among the entries, as trusted or as issued
abbrev pub Has : View → List Entry → Status → Grant → Type 0
Has firm E Trusted g = member (entry Trusted g) E ≡ true
Has both E Trusted g = member (entry Trusted g) E ≡ true
Has firm E (Issued p) g = member (entry (Issued p) g) E ≡ true
Has both E (Issued p) g = (member (entry (Issued p) g) E ≡ true) ⊎ (member (entry (Provisional p) g) E ≡ true)
Has firm E (Provisional p) g = ⊥
Has both E (Provisional p) g = ⊥
