-- What is demanded of every call and of every list of calls from a fresh book.
use Rattle.std.specs.Prelude.{ℕ, ◌+◌, ◌≤◌, ◌≡◌, false, List, [], ◌∷◌, ◌⊎◌, ◌↔◌, pos, ◌-ℤ◌, length, get_or}
use Rattle.std.proofs.Math.Option.{some}
use Rattle.rows.specs.Written.{Grant}
use Rattle.rows.specs.Numbering.{number, number_concl}
use Rattle.frames.specs.Bytes.{Outcome, got, refused}
use Rattle.reader.specs.Contents.{Record, enter, remove, confirm, preview, query}
use Rattle.reader.specs.Records.{read_canonical}
use Rattle.reader.specs.Found.{fits}
use Rattle.sorts.specs.declared.Prin.{Prin}
use Rattle.sorts.specs.declared.Status.TheVariants.{Issued, Provisional}
use Rattle.sorts.specs.declared.Refusal.TheVariants as refusal
use Rattle.sorts.specs.Refusals.{refusal_number}
use Rattle.bookform.specs.declared.Book.{Book}
use Rattle.bookform.specs.declared.answer.Answer.{Answer}
use Rattle.bookform.specs.declared.answer.Answer.TheVariants.{Permitted, Open, NotPermitted, Changed, Previewed, Refused}
use Rattle.marks.specs.declared.Counts.{Counts}
use Rattle.bookform.specs.declared.answer.Answered.{Answered}
use Rattle.machine.specs.Machine.{State, changes, previews, asks, stands, there, start, step, feed}
use Rattle.machine.specs.Closed.{none, all, Stands}
use Rattle.machine.specs.Choices.{AlwaysStands, NeverStands, Undecided}
use Rattle.marks.specs.Gains.{gains}
use Rattle.marks.specs.Counts.{Statements, ones, marks_of, counts_of, change_in}
use Rattle.bookform.specs.Books.{BookForm, Lent}
use Rattle.book.specs.Shows.{Shows}
use Rattle.book.specs.Calls.{answer_of, preview_after}
use Rattle.book.specs.Chains.{Call, records, runs}
use Rattle.demands.specs.Worth.{worth, reported, all_gains, all_losses}

-- DEMAND 2, of a query that asks for the conclusion c and was answered a, where the machine is then in the state M: "permitted
-- when the conclusion stands under every choice of which provisional licences become firm, not permitted when it stands under none,
-- and open otherwise"; "not permitted is said exactly when under each choice some closed set lacks the conclusion".
pub record Demand2 (M : State) (c : ℕ) (a : Answer) : Type 1 where
  pub permitted : (a ≡ Permitted) ↔ AlwaysStands M c
  pub undecided : (a ≡ Open) ↔ Undecided M c
  pub not_permitted : (a ≡ NotPermitted) ↔ NeverStands M c

-- "Each call was accepted where the machine accepted its record, and refused with the machine's number where it refused", with
-- the bytes used. Document 02, 6: the preview buffer has what "WD would produce", and is unchanged by "other records and every refusal".
unfoldable pub Agrees : State → List Call → Type 0
Agrees M [] = Unit {0}
Agrees M (c ∷ cs) =
    let st = feed M (length c.preview) c.record' in
    (c.gave.answer ≡ answer_of st.says c.marks c.second c.left c.left_preview) × (c.gave.used ≡ st.used) ×
    (c.left_preview ≡ preview_after st.says M c.before c.preview) × Agrees st.next cs

-- A call that lost no mark of either kind, in neither buffer, and reports no loss; one that gained none and reports no gain.
abbrev pub NoLoss : Call → Type 0
NoLoss c =
    (k : Statements) → ((reported k c.gave.answer).lost ≡ 0) × (gains (marks_of k c.left) (marks_of k c.marks) ≡ 0) ×
    (gains (marks_of k c.left_second) (marks_of k c.second) ≡ 0)

abbrev pub NoGain : Call → Type 0
NoGain c =
    (k : Statements) → ((reported k c.gave.answer).gained ≡ 0) × (gains (marks_of k c.marks) (marks_of k c.left) ≡ 0) ×
    (gains (marks_of k c.second) (marks_of k c.left_second) ≡ 0)

-- "no enter or issue loses, no strike or withdrawal gains", whether accepted or refused, "PL and CF included as issues"; a query and
-- a preview do neither, nor does a record with a fault.
abbrev pub OneWay : Outcome Record → Call → Type 0
OneWay (got (enter by g) n) c = NoLoss c
OneWay (got (remove by g) n) c = NoGain c
OneWay (got (confirm p g) n) c = NoLoss c
OneWay (got (preview p g) n) c = NoLoss c × NoGain c
OneWay (got (query e) n) c = NoLoss c × NoGain c
OneWay (refused k) c = NoLoss c × NoGain c

unfoldable pub AllOneWay : List Call → Type 0
AllOneWay [] = Unit {0}
AllOneWay (c ∷ cs) = OneWay (read_canonical c.record') c × AllOneWay cs

-- DEMAND 3, of a list of calls that ended in the book b with marks m and k, M the state of the machine that was fed their records:
-- "A statement .. has mark 1 exactly when it is in every set closed under the three rules with T as the trusted grants, L as
-- the licences, and a grant's place in N, from 0, as its number. The rows below the count, written out, are N in order, and the
-- flags show T and L. Each call was accepted where the machine accepted its record, and refused with the machine's number
-- where it refused"; "gains less losses equal the marks standing; no enter or issue loses, no strike or withdrawal gains";
-- document 02, 1: "over any list truths and sayings each balance"; document 02, 5: "the first buffer is compared with the firm
-- licences as L and the second with both kinds", so that the first is within the second.
pub record Demand3 (cs : List Call) (b : Book) (m k : List ℕ) : Type 1 where
  pub marks : (n : ℕ) → (get_or m n 0 ≡ 1) ↔ Stands (runs start (records cs)) none n
  pub second : (n : ℕ) → (get_or k n 0 ≡ 1) ↔ Stands (runs start (records cs)) all n
  pub within : (n : ℕ) → get_or m n 0 ≡ 1 → get_or k n 0 ≡ 1
  pub form : BookForm b m k
  pub shows : Shows b (runs start (records cs))
  pub answers : Agrees start cs
  pub sums : (j : Statements) → all_gains j cs ≡ all_losses j cs + ones (marks_of j m)
  pub one_way : AllOneWay cs

-- The conditions under which a record is turned back where the book is in form and shows M, by what was read: the fault's own
-- number; 6 "the grants that the record would number and those in N exceed 64"; 7 "the grant or licence to remove doesn't stand",
-- of either kind, and "CF of a licence that isn't provisional meets refusal 7".
abbrev pub Turned : State → Outcome Record → ℕ → Type 0
Turned M (refused j) k = refusal_number j ≡ k
Turned M (got (enter by g) n) k = (fits (number g M.N) ≡ false) × (k ≡ 6)
Turned M (got (remove by g) n) k = (there by g M.entries ≡ false) × (k ≡ 7)
Turned M (got (confirm p g) n) k = (stands M (Provisional p) g ≡ false) × (k ≡ 7)
Turned M (got (preview p g) n) k = (there (Issued p) g M.entries ≡ false) × (k ≡ 7)
Turned M (got (query c) n) k = (fits (number_concl c M.N) ≡ false) × (k ≡ 6)

-- A call on a book in form that shows M: each answer under its condition and no other.
pub record Answers (M : State) (b : Book) (m k v s : List ℕ) (r : Answered) (n l w : List ℕ) : Type 0 where
  pub refusals : (j : ℕ) → ((worth r.answer).number ≡ some j) ↔ Turned M (read_canonical s) j
  pub permitted : (r.answer ≡ Permitted) ↔ ((c : ℕ) × ((step M s).says ≡ asks c) × (get_or m c 0 ≡ 1))
  pub undecided : (r.answer ≡ Open) ↔ ((c : ℕ) × ((step M s).says ≡ asks c) × (get_or m c 0 ≡ 1 → ⊥) × (get_or k c 0 ≡ 1))
  pub not_permitted : (r.answer ≡ NotPermitted) ↔ ((c : ℕ) × ((step M s).says ≡ asks c) × (get_or m c 0 ≡ 1 → ⊥) × (get_or k c 0 ≡ 1 → ⊥))
  pub changed : (x : Counts) → (r.answer ≡ Changed x) ↔ (((step M s).says ≡ changes) × (x ≡ counts_of m n))
  pub previewed : (x : Counts) → (r.answer ≡ Previewed x) ↔ ((p : Prin) × (g : Grant) × ((step M s).says ≡ previews p g) × (x ≡ counts_of m w))
  pub used : r.used ≡ (step M s).used
  pub preview : w ≡ preview_after (step M s).says M b v
  pub kept : (j : ℕ) → (worth r.answer).number ≡ some j → (r.book ≡ b) × (n ≡ m) × (l ≡ k) × (w ≡ v)
  pub untouched : (x : Counts) → r.answer ≡ Previewed x → (r.book ≡ b) × (n ≡ m) × (l ≡ k)
  pub numbered : (j : ℕ) → (worth r.answer).number ≡ some j → ((1 ≤ j) × (j ≤ 7)) ⊎ (j ≡ 10)

-- DEMAND 1, of every lent book, buffers and bytes: "Every record of bytes and every lent book gets an answer: permitted, not
-- permitted, a change with its counts, or one of the numbered refusals, each under its condition and no other. A refused record
-- leaves every part of the book unchanged." Document 02, 5: "Demand 1 gains open"; 6: a preview, with its counts. 9: "the lent book is out
-- of form", or the preview buffer is, exactly then; 8 is never said. Document 02, 7: "Demand 1's nine refusals grow by this". Every book in form shows some state. Each net "is gained less
-- lost".
pub record Demand1 (b : Book) (m k v s : List ℕ) (r : Answered) (n l w : List ℕ) : Type 0 where
  pub unformed : (Lent b m k v → ⊥) → (r ≡ record { book = b; answer = Refused refusal.Form; used = 0 }) × (n ≡ m) × (l ≡ k) × (w ≡ v)
  pub formed : Lent b m k v → (M : State) → Shows b M → Answers M b m k v s r n l w
  pub shown : BookForm b m k → (M : State) × Shows b M
  pub nine : ((worth r.answer).number ≡ some 9) ↔ (Lent b m k v → ⊥)
  pub numbered : (j : ℕ) → (worth r.answer).number ≡ some j → (1 ≤ j) × (j ≤ 10) × (j ≡ 8 → ⊥)
  pub net : (j : Statements) → (change_in j (worth r.answer).counts).net ≡ pos (change_in j (worth r.answer).counts).gained -ℤ pos (change_in j (worth r.answer).counts).lost
