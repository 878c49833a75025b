-- Reading a record over a table, as the code does it.
use Rattle.std.specs.Prelude.{ℕ, ◌+◌, List, cond, length, eqb, Result, Ok, Err}
use Rattle.reader.specs.Records.{beyond}
use Rattle.rows.specs.declared.Table.{Table}
use Rattle.frames.specs.Frames.{Frame, holds, ends, frame}
use Rattle.reader.specs.declared.contents.Reading.{Reading}
use Rattle.reader.specs.Inner.Numbered.{no_r, num_content}
use Rattle.sorts.specs.declared.Refusal.{Refusal}
use Rattle.sorts.specs.declared.Refusal.TheVariants as refusal

-- what was read of a content of len bytes, over the table t, as that of the whole record
unfoldable pub num_whole : Table → ℕ → Result Reading Refusal → Reading
num_whole t len (Ok r) = cond (eqb r.used len) (record { table = r.table; found = r.found; used = 4 + len }) (no_r t (4 + len) refusal.Content)
num_whole t len (Err k) = no_r t (4 + len) (beyond k)

-- a record in its frame, over a table of at most 64 rows
abbrev pub num_framed : Table → Frame → Reading
num_framed t (holds k c) = num_whole t (length c) (num_content k c t)
num_framed t (ends j) = no_r t 0 j

unfoldable pub num_record : List ℕ → Table → Reading
num_record s t = num_framed t (frame s)
