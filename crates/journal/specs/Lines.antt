-- Document 01, "What the listing program prints": the bytes of each line, in ASCII.
use Rattle.std.specs.Prelude.{ℕ, ◌≡◌, List, ◌++◌, take}
use Rattle.frames.specs.Bytes.{refused}
use Rattle.frames.specs.Frames.{read_mark}
use Rattle.marks.specs.declared.Counts.{Counts}
use Rattle.marks.specs.Counts.{ones}
use Rattle.bookform.specs.declared.answer.Answer.{Answer}
use Rattle.bookform.specs.declared.answer.Answer.TheVariants.{Permitted, Open, NotPermitted, Changed, Previewed, Refused}
use Rattle.lines.specs.Decimals.{decimal, signed}
use Rattle.lines.specs.Words.{space, newline, permitted, open_word, not_permitted, refused_word, end_word, marks_word}
use Rattle.lines.specs.declared.Said.{Said}
use Rattle.lines.specs.Pieces.{said_pieces, joined}
use Rattle.sorts.specs.declared.Refusal.{Refusal}
use Rattle.sorts.specs.Refusals.{refusal_number}

-- "its letters": a record "opens with two letters in ASCII".
abbrev pub letters_in : List ℕ → List ℕ
letters_in s = take 2 s

-- Document 02, 1: "two signed nets, truths first".
abbrev pub nets : Counts → List ℕ
nets c = space ++ signed c.truths.net ++ space ++ signed c.sayings.net

-- "then its letters and signed net, or letters and the query's answer, or `refused` and the number": what the line of the
-- record that s starts with says of the answer. Document 02, 5: "`open` after QU"; 6: "The listing prints PV like WD." 7: "the printed letters change with" the marks.
unfoldable pub said : List ℕ → Answer → List ℕ
said s (Changed c) = letters_in s ++ nets c
said s (Previewed c) = letters_in s ++ nets c
said s Permitted = letters_in s ++ permitted
said s Open = letters_in s ++ open_word
said s NotPermitted = letters_in s ++ not_permitted
said s (Refused k) = refused_word ++ decimal (refusal_number k)

-- "Each record gives a line with its number from 1", a space, what is said, and the line's end.
unfoldable pub line_of : ℕ → List ℕ → Answer → List ℕ
line_of n s a = decimal n ++ space ++ said s a ++ newline

-- "Refusal 8 is the one line `refused 8`."
unfoldable pub refused_line : ℕ → List ℕ
refused_line k = refused_word ++ decimal k ++ newline

-- "The last line has the count of record lines and of marks standing." Document 02, 5: "The existing marks and counts are those of the
-- firm licences": m is the first buffer.
unfoldable pub end_of : ℕ → List ℕ → List ℕ
end_of n m = end_word ++ decimal n ++ marks_word ++ decimal (ones m) ++ newline

-- An answer other than a refusal, of a record that s starts with: the record's kind was read. (A call answers so: theorem
-- `called_opened`.)
abbrev pub Opened : List ℕ → Answer → Type 0
Opened s (Changed c) = (j : Refusal) → read_mark s ≡ refused j → ⊥
Opened s (Previewed c) = (j : Refusal) → read_mark s ≡ refused j → ⊥
Opened s Permitted = (j : Refusal) → read_mark s ≡ refused j → ⊥
Opened s Open = (j : Refusal) → read_mark s ≡ refused j → ⊥
Opened s NotPermitted = (j : Refusal) → read_mark s ≡ refused j → ⊥
Opened s (Refused k) = Unit {0}

-- What a line says of the answer a to the record that s starts with: the letters of its kind are those of s.
abbrev pub Says : List ℕ → Answer → Said → Type 0
Says s a r = joined (said_pieces r) ≡ said s a ++ newline
