-- Looking a row up and entering it, as the code does it.
use Rattle.std.specs.Prelude.{ℕ, ◌+◌, Option, Some, None, true, cond, set, take, ltb, position}
use Rattle.sorts.specs.Numbers.{grants}
use Rattle.sorts.specs.declared.GrantNo.{GrantNo}
use Rattle.sorts.specs.declared.Row.{Row}
use Rattle.sorts.specs.contracts.RowPartialEq.TheImpl as row
use Rattle.rows.specs.declared.Table.{Table}
use Rattle.rows.specs.declared.Numbering.{Numbering}

-- the place of r among the rows that are given, if it is there
abbrev pub find_row : Table → Row → Option ℕ
find_row t r = position (λ x. row.ghosts.eq x r) (take t.count t.rows)

-- the table with r after its rows
abbrev pub with_row : Table → Row → Table
with_row t r = record { rows = set t.rows t.count r; count = t.count + 1 }

-- a numbering with a row in it, and the row's number
pub record Entered : Type 0 where
  pub numbering : Numbering
  pub no : GrantNo

-- where it is there, or among no row given
abbrev pub entered_at : Numbering → Row → Option ℕ → Entered
entered_at u r (Some i) = record { numbering = u; no = record { 0 = i } }
entered_at u r None =
    cond (ltb u.table.count grants)
    (record { numbering = record { table = with_row u.table r; full = u.full }; no = record { 0 = u.table.count } })
    (record { numbering = record { table = u.table; full = true }; no = record { 0 = 0 } })

unfoldable pub entered : Numbering → Row → Entered
entered u r = entered_at u r (find_row u.table r)
