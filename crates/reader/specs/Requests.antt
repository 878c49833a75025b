-- What the reader promises of a record.
use Rattle.std.specs.Prelude.{ℕ, ◌≤◌, ◌<◌, ◌≡◌, false, List, ◌↔◌, Err}
use Rattle.std.proofs.Math.Option.{some}
use Rattle.sorts.specs.Numbers.{grants}
use Rattle.sorts.specs.declared.Refusal.TheVariants as refusal
use Rattle.rows.specs.declared.Table.{Table}
use Rattle.rows.specs.Form.{rows_out, TableForm}
use Rattle.frames.specs.Frames.{extent}
use Rattle.reader.specs.declared.contents.Reading.{Reading}
use Rattle.reader.specs.Found.{number_found, found_of, numbered_by, numbers, TurnedBack}
use Rattle.reader.specs.Records.{read_canonical}
use Rattle.reader.specs.Inner.OneRecord.{num_record}

-- THE PROMISE of the reader, over any table: a count above 64 is out of form, 9; over a table in form what is found and the rows,
-- written out, are what the two functions say, each number under its condition and no other, and the table left is in form; a
-- record that gives no numbers leaves the table as it was, in form or not. Over any table with a count up to 64, in form or not,
-- the bytes used are those that the record's frame has, and it is what the readers of grants and conclusions find over the rows as
-- they are.
pub record Reads (s : List ℕ) (t : Table) (r : Reading) : Type 0 where
  pub over : grants < t.count → r ≡ record { table = t; found = Err refusal.Form; used = 0 }
  pub found : TableForm t → r.found ≡ found_of (rows_out t.rows t.count) (read_canonical s)
  pub used : t.count ≤ grants → r.used ≡ extent s
  pub rows : TableForm t → rows_out r.table.rows r.table.count ≡ numbered_by (rows_out t.rows t.count) (read_canonical s)
  pub refusals : TableForm t → (k : ℕ) → (number_found r.found ≡ some k) ↔ TurnedBack (rows_out t.rows t.count) (read_canonical s) k
  pub form : TableForm t → TableForm r.table
  pub kept : numbers r.found ≡ false → r.table ≡ t
  pub within : t.count ≤ grants → r ≡ num_record s t
