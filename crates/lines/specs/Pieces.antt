-- The pieces of a line: what is written at once, in order.
use Rattle.std.specs.Prelude.{ℕ, ◌≡◌, List, [], ◌∷◌, ◌++◌}
use Rattle.sorts.specs.Refusals.{refusal_number}
use Rattle.frames.specs.Frames.{letters_of}
use Rattle.lines.specs.Decimals.{decimal}
use Rattle.lines.specs.Words.{space, newline, permitted, open_word, not_permitted, refused_word, end_word, marks_word}
use Rattle.lines.specs.Numerals.{each, last_number, net_pieces}
use Rattle.lines.specs.declared.Line.{Line}
use Rattle.lines.specs.declared.Line.TheVariants as line
use Rattle.lines.specs.declared.Said.{Said}
use Rattle.lines.specs.declared.Said.TheVariants as says

-- The pieces of what a line says of an answer, with the line's end: the letters are one piece, the sign one, each digit one.
unfoldable pub said_pieces : Said → List (List ℕ)
said_pieces (says.Changed k c) = letters_of k ∷ space ∷ net_pieces c
said_pieces (says.Permitted k) = letters_of k ∷ permitted ∷ newline ∷ []
said_pieces (says.Open k) = letters_of k ∷ open_word ∷ newline ∷ []
said_pieces (says.NotPermitted k) = letters_of k ∷ not_permitted ∷ newline ∷ []
said_pieces (says.Refused k) = refused_word ∷ last_number (refusal_number k)

-- THE PIECES of a line.
unfoldable pub line_pieces : Line → List (List ℕ)
line_pieces (line.Record n s) = each (decimal n) ++ (space ∷ said_pieces s)
line_pieces (line.End n m) = end_word ∷ (each (decimal n) ++ (marks_word ∷ last_number m))
line_pieces (line.Refused k) = refused_word ∷ last_number (refusal_number k)

-- Pieces, joined.
unfoldable pub joined : List (List ℕ) → List ℕ
joined [] = []
joined (p ∷ ps) = p ++ joined ps

-- The pieces of a line, joined, are the bytes w.
pub record Carries (l : Line) (w : List ℕ) : Type 0 where
  pub text : joined (line_pieces l) ≡ w
