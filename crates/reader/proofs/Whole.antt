-- What was read in a content, as that of its record.
use Prim.Native.Nat.{ℕ}
use mathlib.Core.Path.{◌≡◌, sym, ap}
use mathlib.Core.List.{List}
use lib.ListN.{length}
use Rattle.rows.specs.declared.Table.{Table}
use Rattle.frames.specs.declared.Kind.{Kind}
use Rattle.frames.specs.Frames.{holds, ends, frame}
use Rattle.reader.specs.Inner.Numbered.{no_r, num_content}
use Rattle.reader.specs.Inner.OneRecord.{num_whole, num_framed, num_record}
use Rattle.sorts.specs.declared.Refusal.{Refusal}

-- the record's answer, by its frame
pub record_no : (s : List ℕ) (t : Table) (j : Refusal) → frame s ≡ ends j → no_r t 0 j ≡ num_record s t
unfolding num_record
record_no s t j e = rw e

pub record_got : (s : List ℕ) (t : Table) (k : Kind) (c : List ℕ) → frame s ≡ holds k c → num_whole t (length c) (num_content k c t) ≡ num_record s t
unfolding num_record
record_got s t k c e = ap (num_framed t) (sym e)
