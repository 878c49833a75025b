-- Document 01, "Sorts and statement numbers".
use Rattle.std.specs.Prelude.{◌≡◌, ℕ, ◌+◌, ◌*◌, ◌<◌}
use Rattle.sorts.specs.declared.Res.{Res}
use Rattle.sorts.specs.declared.Res.TheVariants.{Issue, Run, Export}
use Rattle.sorts.specs.declared.Concl.{Concl}
use Rattle.sorts.specs.declared.Concl.TheVariants.{Property, Perm}

-- "16 principals, 16 properties, 32 packs and 64 grant numbers, each counted from 0." Those who may speak and issue are counted
-- apart from those of whom a conclusion may speak.
abbrev pub speakers : ℕ
speakers = 16

abbrev pub principals : ℕ
principals = 16

abbrev pub properties : ℕ
properties = 16

abbrev pub packs : ℕ
packs = 32

abbrev pub grants : ℕ
grants = 64

-- "80 or 81 for the first or second variable" of a principal, in hexadecimal; "or 80 for the pack variable", which a row also has for
-- the grant variable.
abbrev pub first_var : ℕ
first_var = 128

abbrev pub second_var : ℕ
second_var = 129

abbrev pub item_var : ℕ
item_var = 128

-- "how many conditions, 0 to 4", and "depth 4 is the last allowed"
abbrev pub conditions : ℕ
conditions = 4

abbrev pub depths : ℕ
depths = 4

-- "A closed conclusion is Property(k, p) or Perm(p, right, resource)": one whose numbers are in these ranges.
abbrev pub ClosedRes : Res → Type 0
ClosedRes (Issue g) = g.0 < grants
ClosedRes (Run n) = n.0 < packs
ClosedRes (Export n) = n.0 < packs

abbrev pub ClosedConcl : Concl → Type 0
ClosedConcl (Property k p) = (k < properties) × (p.0 < principals)
ClosedConcl (Perm p r) = (p.0 < principals) × ClosedRes r

-- "Its slot is k for property k, 16 + g for issue of grant g, 80 + n for run and 112 + n for export of pack n."
abbrev pub slot_of : Res → ℕ
slot_of (Issue g) = properties + g.0
slot_of (Run n) = properties + grants + n.0
slot_of (Export n) = properties + grants + packs + n.0

-- The slots of one principal, 144.
abbrev pub slots : ℕ
slots = properties + grants + packs + packs

-- "Its number is 144 times its principal plus its slot, from 0 to 2,303."
abbrev pub number_of : Concl → ℕ
number_of (Property k p) = slots * p.0 + k
number_of (Perm p r) = slots * p.0 + slot_of r

-- How many closed conclusions there are, 2,304.
abbrev pub conclusions : ℕ
conclusions = principals * slots

-- "Mark c says that conclusion c is true. Mark 2,304 + 2,304 × s + c says that principal s said c." So the mark of a truth is its
-- number, and the rules speak of marks through `number_of` and this:
abbrev pub said_mark : ℕ → ℕ → ℕ
said_mark s c = conclusions + conclusions * s + c

-- "So there are 39,168 marks."
abbrev pub all_marks : ℕ
all_marks = conclusions + speakers * conclusions

-- "A statement, which is what one mark says": that a closed conclusion is true, or that a principal said it.
abbrev pub Truth : ℕ → Type 0
Truth n = (c : Concl) × ClosedConcl c × (number_of c ≡ n)

abbrev pub Saying : ℕ → Type 0
Saying n = (s : ℕ) × (c : Concl) × (s < speakers) × ClosedConcl c × (said_mark s (number_of c) ≡ n)
