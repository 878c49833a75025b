-- What a record makes of the flags of the grant with number g.
use Rattle.std.specs.Prelude.{ℕ, ◌*◌, ◌≤◌, ◌<◌, ◌≡◌, Bool, cond, ◌||◌, List, eqb, get_or, set}
use Rattle.sorts.specs.declared.Prin.{Prin}
use Rattle.sorts.specs.Numbers.{speakers}
use Rattle.sorts.specs.declared.Status.{Status}
use Rattle.sorts.specs.declared.Status.TheVariants.{Trusted, Issued, Provisional}
use Rattle.sorts.specs.Flags.{row_flags, flag_place, flag}

abbrev pub bit : Bool → ℕ
bit is = cond is 1 0

abbrev pub is_set : List ℕ → Status → ℕ → Bool
is_set flags by g = eqb (flag flags by g) 1

abbrev pub put : List ℕ → Status → ℕ → ℕ → List ℕ
put flags by g v = set flags (flag_place by g) v

-- Document 02, 5: "PL of a firm licence leaves it firm; LI of a provisional one makes it firm."
abbrev pub entered_flags : Status → ℕ → List ℕ → List ℕ
entered_flags Trusted g flags = put flags Trusted g 1
entered_flags (Issued p) g flags = put (put flags (Provisional p) g 0) (Issued p) g 1
entered_flags (Provisional p) g flags = cond (is_set flags (Issued p) g) flags (put flags (Provisional p) g 1)

-- "WD removes either kind."
abbrev pub there_flags : Status → ℕ → List ℕ → Bool
there_flags Trusted g flags = is_set flags Trusted g
there_flags (Issued p) g flags = is_set flags (Issued p) g || is_set flags (Provisional p) g
there_flags (Provisional p) g flags = is_set flags (Provisional p) g

abbrev pub removed_flags : Status → ℕ → List ℕ → List ℕ
removed_flags Trusted g flags = put flags Trusted g 0
removed_flags (Issued p) g flags = put (put flags (Provisional p) g 0) (Issued p) g 0
removed_flags (Provisional p) g flags = put flags (Provisional p) g 0

-- "rows from the count on are blank with flags 0"
abbrev pub Unflagged : List ℕ → ℕ → Type 0
Unflagged flags count = (i : ℕ) → row_flags * count ≤ i → get_or flags i 0 ≡ 0

-- "A licence both firm and provisional is out of form."
abbrev pub FlagsApart : List ℕ → Type 0
FlagsApart flags = (p : Prin) (g : ℕ) → p.0 < speakers → flag flags (Issued p) g ≡ 1 → flag flags (Provisional p) g ≡ 1 → ⊥
