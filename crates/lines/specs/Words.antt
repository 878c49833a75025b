-- Document 01, "What the listing program prints": the words of lines, in ASCII.
use Rattle.std.specs.Prelude.{ℕ, List, [], ◌∷◌}

-- " ", and the line's end
abbrev pub space : List ℕ
space = 32 ∷ []

abbrev pub newline : List ℕ
newline = 10 ∷ []

-- " permitted"
abbrev pub permitted : List ℕ
permitted = 32 ∷ 112 ∷ 101 ∷ 114 ∷ 109 ∷ 105 ∷ 116 ∷ 116 ∷ 101 ∷ 100 ∷ []

-- Document 02, 5: "`open` after QU": " open"
abbrev pub open_word : List ℕ
open_word = 32 ∷ 111 ∷ 112 ∷ 101 ∷ 110 ∷ []

-- " not permitted"
abbrev pub not_permitted : List ℕ
not_permitted = 32 ∷ 110 ∷ 111 ∷ 116 ∷ permitted

-- "refused "
abbrev pub refused_word : List ℕ
refused_word = 114 ∷ 101 ∷ 102 ∷ 117 ∷ 115 ∷ 101 ∷ 100 ∷ 32 ∷ []

-- "end " and " marks "
abbrev pub end_word : List ℕ
end_word = 101 ∷ 110 ∷ 100 ∷ 32 ∷ []

abbrev pub marks_word : List ℕ
marks_word = 32 ∷ 109 ∷ 97 ∷ 114 ∷ 107 ∷ 115 ∷ 32 ∷ []
