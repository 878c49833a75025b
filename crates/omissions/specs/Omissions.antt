-- Document 02, 7: "Records after one so refused are answered as in the journal without it, apart from their numbers." What it is to leave
-- refused records out of a journal, and what stays.
use Rattle.std.specs.Prelude.{ℕ, ◌≡◌, cond, List, [], ◌∷◌, ◌++◌, length, take, eqb}
use Rattle.bookform.specs.declared.Book.{Book}
use Rattle.bookform.specs.declared.answer.Answer.{Answer}
use Rattle.bookform.specs.declared.answer.Answer.TheVariants.{Permitted, Open, NotPermitted, Changed, Previewed, Refused}
use Rattle.book.specs.Chains.{Call}
use Rattle.journal.specs.Lines.{said, end_of}
use Rattle.journal.specs.Journals.{Calls}
use Rattle.listings.specs.Listings.{Listed, record_lines}
use Rattle.sorts.specs.declared.Refusal.{Refusal}

-- The bytes of the record at the front of s, by the bytes used: one that uses none ends the reading, and has all that was left.
unfoldable pub own_bytes : ℕ → List ℕ → List ℕ
own_bytes used s = cond (eqb used 0) s (take used s)

abbrev pub record_of : Call → List ℕ
record_of c = own_bytes c.gave.used c.record'

-- The journal of the records of some calls, one after the other.
unfoldable pub journal_of : List Call → List ℕ
journal_of [] = []
journal_of (c ∷ cs) = record_of c ++ journal_of cs

-- Some refused calls left out, whichever, and all others kept in their order.
pub data Omitted : List Call → List Call → Type 0 where
  none : Omitted [] []
  keep : {cs ds : List Call} (c : Call) → Omitted cs ds → Omitted (c ∷ cs) (c ∷ ds)
  omit : {cs ds : List Call} (c : Call) (j : Refusal) → c.gave.answer ≡ Refused j → Omitted cs ds → Omitted (c ∷ cs) ds

-- The accepted calls alone: all refused ones left out.
abbrev pub if_accepted : Answer → Call → List Call → List Call
if_accepted Permitted c cs = c ∷ cs
if_accepted Open c cs = c ∷ cs
if_accepted NotPermitted c cs = c ∷ cs
if_accepted (Changed x) c cs = c ∷ cs
if_accepted (Previewed x) c cs = c ∷ cs
if_accepted (Refused j) c cs = cs

unfoldable pub accepted : List Call → List Call
accepted [] = []
accepted (c ∷ cs) = if_accepted c.gave.answer c (accepted cs)

-- The same call: of the same record, on the same book and buffers, with the same answer, leaving the same. What follows the record in
-- the journal may differ.
pub record SameCall (c d : Call) : Type 0 where
  pub bytes : record_of c ≡ record_of d
  pub before : c.before ≡ d.before
  pub marks : c.marks ≡ d.marks
  pub second : c.second ≡ d.second
  pub preview : c.preview ≡ d.preview
  pub gave : c.gave ≡ d.gave
  pub left : c.left ≡ d.left
  pub left_second : c.left_second ≡ d.left_second
  pub left_preview : c.left_preview ≡ d.left_preview

abbrev pub AllSame : List Call → List Call → Type 0
AllSame [] [] = Unit {0}
AllSame [] (d ∷ ds) = ⊥
AllSame (c ∷ cs) [] = ⊥
AllSame (c ∷ cs) (d ∷ ds) = SameCall c d × AllSame cs ds

-- What the lines of calls say, "apart from their numbers".
unfoldable pub told : List Call → List (List ℕ)
told [] = []
told (c ∷ cs) = said c.record' c.gave.answer ∷ told cs

-- DEMANDED where ds are the calls that are kept of a journal's, from the book b with its buffers to the book b' with its: the journal of
-- their records has the same calls, one by one, its lines say the same, and it leaves the same book and buffers.
pub record AsBefore (b : Book) (m k v : List ℕ) (ds : List Call) (b' : Book) (m' k' v' : List ℕ) : Type 0 where
  pub calls : List Call
  pub made : Calls b m k v (journal_of ds) calls b' m' k' v'
  pub same : AllSame ds calls
  pub lines : told ds ≡ told calls

-- DEMANDED of the listing of a journal whose calls are cs and leave the marks m: the journal of its accepted records has a listing whose
-- lines say, one by one, what the lines of the accepted records said, and whose last line counts the same marks. So the listing of a
-- journal is that of its accepted records, with the lines of the refused ones in between, apart from the numbers of lines.
pub record AcceptedAlone (cs : List Call) (m : List ℕ) : Type 0 where
  pub calls : List Call
  pub listed : Listed (journal_of (accepted cs)) (record_lines 1 calls ++ (end_of (length calls) m ∷ []))
  pub lines : told (accepted cs) ≡ told calls
