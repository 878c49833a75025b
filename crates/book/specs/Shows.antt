-- The state of the plain machine that a book shows.
use Rattle.std.specs.Prelude.{ℕ, ◌<◌, ◌≡◌, true, length}
use Rattle.sorts.specs.declared.Status.{Status}
use Rattle.sorts.specs.Flags.{StatusRange, flag}
use Rattle.rows.specs.Written.{Grant}
use Rattle.rows.specs.Numbering.{has}
use Rattle.rows.specs.Form.{rows_out}
use Rattle.bookform.specs.Changes.{bit}
use Rattle.bookform.specs.declared.Book.{Book}
use Rattle.machine.specs.Machine.{State, stands}
use Rattle.machine.specs.Closed.{grant_at}

-- "The rows below the count, written out, are N in order, and the flags show T and L", and the provisional licences. What stands has a number, and every
-- issuer is one of the 16.
pub record Shows (b : Book) (M : State) : Type 0 where
  pub rows : rows_out b.table.rows b.table.count ≡ M.N
  pub flags : (by : Status) (g : ℕ) → StatusRange by → g < length M.N → flag b.flags by g ≡ bit (stands M by (grant_at M g))
  pub within : (by : Status) (g : Grant) → stands M by g ≡ true → (has g M.N ≡ true) × StatusRange by
