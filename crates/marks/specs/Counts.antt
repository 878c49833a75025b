-- Document 01: "gained, the marks that went from 0 to 1 in that call; lost, those that went from 1 to 0; and the net, which is
-- gained less lost and may be below zero." Document 02, 1: "The counts become four: truths gained and lost, sayings gained and
-- lost", with a net for each.
use Rattle.std.specs.Prelude.{ℕ, ◌+◌, cond, List, [], ◌∷◌, eqb, take, drop, pos, ◌-ℤ◌}
use Rattle.sorts.specs.Numbers.{conclusions}
use Rattle.marks.specs.Gains.{gains}
use Rattle.marks.specs.declared.Change.{Change}
use Rattle.marks.specs.declared.Counts.{Counts}

-- 1 where a mark stands
abbrev pub one_of : ℕ → ℕ
one_of a = cond (eqb a 1) 1 0

-- How many marks stand.
unfoldable pub ones : List ℕ → ℕ
ones [] = 0
ones (a ∷ m) = one_of a + ones m

-- The change of marks m that became n.
unfoldable pub change_of : List ℕ → List ℕ → Change
change_of m n = record { gained = gains m n; lost = gains n m; net = pos (gains m n) -ℤ pos (gains n m) }

-- The two kinds of statement, and the marks of each: "Mark c says that conclusion c is true", and those that follow say who said what.
pub data Statements : Type 0 where
  truths : Statements
  sayings : Statements

abbrev pub marks_of : Statements → List ℕ → List ℕ
marks_of truths m = take conclusions m
marks_of sayings m = drop conclusions m

-- The counts of marks m that became n: a change of each kind.
unfoldable pub counts_of : List ℕ → List ℕ → Counts
counts_of m n = record { truths = change_of (marks_of truths m) (marks_of truths n); sayings = change_of (marks_of sayings m) (marks_of sayings n) }

abbrev pub change_in : Statements → Counts → Change
change_in truths c = c.truths
change_in sayings c = c.sayings
