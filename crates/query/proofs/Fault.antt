-- One list for the whole query is a fault.
use mathlib.Core.Path.{refl}
use mathlib.Core.Bool.{true}
use mathlib.Core.List.{map}
use lib.Dec.{lit<}
use Rattle.exact.specs.Writing.{written_record}
use Rattle.book.specs.Chains.{whole}
use Rattle.worked.specs.Worked.{p9}
use Rattle.worked.proofs.Computing.{fed}
use Rattle.query.specs.Figures.{Chosen}
use Rattle.query.specs.Examples.{trusted2, Fault}
use Rattle.query.proofs.Computing.{listed, figures, within, told}
use Rattle.query.proofs.Book.{corrected_reached}

pub fault : (C : Chosen) → Fault C
unfolding listed fed figures within told
fault C = record { denied = refl; denied_turned = refl; stands = ((corrected_reached (map whole (map written_record p9.entries)) C true).queried (trusted2 p9) (lit< tt)).0.0 refl }
