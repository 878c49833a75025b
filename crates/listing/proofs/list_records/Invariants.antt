use Rattle.std.proofs.Common.{◌-◌, length}
use Rattle.listings.proofs.Reading.{Read}
use Rattle.listing.proofs.Writing.{SoFar}
use Rattle.listing.proofs.list_records.Given as goal

abbrev pub invariant-loop-at : goal.invariant-loop-at
invariant-loop-at g l =
    Read l.s l.b l.marks l.second l.preview l.at l.lines × SoFar l.s (g.W.Write.contents l.fn.out) (g.W.Write.contents l.out) l.lines l.all

abbrev pub decreases-loop-at : goal.decreases-loop-at
decreases-loop-at g l = length l.s - l.at
