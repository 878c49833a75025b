-- What the program writes.
use Rattle.std.specs.Prelude.{ℕ, ◌≤◌, List, length, Option}
use Rattle.std.specs.Io.KnownBytes.{Keeps, Appends, Consumes, IsAtEnd}
use Rattle.journal.specs.Places.{longest_journal}
use Rattle.lines.specs.Pieces.{joined}
use Rattle.listings.specs.Listings.{Listed}
use Rattle.streams.specs.Pieces.{Began}
use Rattle.listing.specs.declared.Fault.{Fault}
use Rattle.listing.specs.declared.Fault.TheVariants.{Reading, Writing}

-- An output that held old took the listing of s, line after line, and nothing else, and holds new.
pub record TookListing (s : List ℕ) (old new : Option (List ℕ)) : Type 0 where
  pub lines : List (List ℕ)
  pub listed : Listed s lines
  pub appended : Appends old new (joined lines)

-- An output that held old failed: it took a beginning of the listing of s, and nothing else, and holds new.
pub record TookPart (s : List ℕ) (old new : Option (List ℕ)) : Type 0 where
  pub lines : List (List ℕ)
  pub listed : Listed s lines
  pub began : Began old new (joined lines)

-- An input that held given gave a journal s, and holds left; it is at its end, but where s is too long. The output took the listing of s.
pub record Lists (given left old new : Option (List ℕ)) : Type 0 where
  pub s : List ℕ
  pub consumed : Consumes given left s
  pub ended : length s ≤ longest_journal → IsAtEnd left
  pub took : TookListing s old new

-- The same where the output failed.
pub record ListsPart (given left old new : Option (List ℕ)) : Type 0 where
  pub s : List ℕ
  pub consumed : Consumes given left s
  pub ended : length s ≤ longest_journal → IsAtEnd left
  pub took : TookPart s old new

-- What failed: where a read did, nothing is listed.
abbrev pub Fails : Fault → Option (List ℕ) → Option (List ℕ) → Option (List ℕ) → Option (List ℕ) → Type 0
Fails Reading given left old new = Keeps old new
Fails Writing given left old new = ListsPart given left old new
