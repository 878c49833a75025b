-- Document 01, "Examples to prove and to run": "P1 to P10 form one proved table, stated as a whole over the rules"; after them
-- stand those of document 02's requests. First what an example is, then what its line of the table says of the plain machine and
-- its closed sets, then the examples and the table.
use Rattle.std.specs.Prelude.{◌≡◌, ◌↔◌, List, [], ◌∷◌, ◌++◌, map, ℕ, ◌≤◌, ℤ, pos, negsuc, length, get_or}
use Rattle.sorts.specs.declared.Status.TheVariants.{Trusted, Issued, Provisional}
use Rattle.sorts.specs.Numbers.{number_of, all_marks}
use Rattle.rows.specs.Written.{Grant, Concl, grant, none, also, property, perm, issue, issue_any, run, export}
use Rattle.rows.specs.Form.{concl_of}
use Rattle.canon.specs.Canon.{canon, canon_concl}
use Rattle.reader.specs.Contents.{Record, enter, remove, confirm, preview, query}
use Rattle.exact.specs.Writing.{written_record}
use Rattle.machine.specs.Machine.{State, Step, Verdict, changes, previews, start, feed}
use Rattle.machine.specs.Closed.{Stands, none as none_chosen}
use Rattle.machine.specs.Choices.{AlwaysStands, NeverStands, Undecided}
use Rattle.book.specs.Chains.{whole, runs}
use Rattle.marks.specs.Counts.{truths, sayings, ones, marks_of, counts_of}

-- "Smart 0, Attractive 1, Good 2, Great 3, Trusted 4."
abbrev pub smart : ℕ → Concl
smart p = property 0 p

abbrev pub attractive : ℕ → Concl
attractive p = property 1 p

abbrev pub good : ℕ → Concl
good p = property 2 p

abbrev pub great : ℕ → Concl
great p = property 3 p

abbrev pub trusted : ℕ → Concl
trusted p = property 4 p

-- The grant of a conclusion, with no variable and no condition.
abbrev pub plain : Concl → Grant
plain c = grant 0 0 none c

-- "q said d gives c", with no variable.
abbrev pub when : ℕ → Concl → Concl → Grant
when q d c = grant 0 0 (also q d none) c

-- "q said d and r said e give c", with no variable.
abbrev pub when2 : ℕ → Concl → ℕ → Concl → Concl → Grant
when2 q d r e c = grant 0 0 (also q d (also r e none)) c

-- The first principal variable, or the pack variable, as it is written: 80 in hexadecimal.
abbrev pub x : ℕ
x = 128

-- "for all principals x, q said d gives c".
abbrev pub for_principals : ℕ → Concl → Concl → Grant
for_principals q d c = grant 1 0 (also q d none) c

-- "for all grants x, c", where issue_any is the right to issue x.
abbrev pub for_grants : Concl → Grant
for_grants c = grant 0 1 none c

-- "for all packs x, c".
abbrev pub for_packs : Concl → Grant
for_packs c = grant 0 2 none c

-- What happens in an example is a list of records, in the order in which the document lists it.

-- "T: X" is a trusted grant.
abbrev pub trust : Grant → Record
trust g = enter Trusted g

-- "q: X" is a licence of q.
abbrev pub licence : ℕ → Grant → Record
licence q g = enter (Issued (record { 0 = q })) g

-- "Withdraw 0's": a licence of q is withdrawn. Document 02, 5: "WD removes either kind."
abbrev pub withdraw : ℕ → Grant → Record
withdraw q g = remove (Issued (record { 0 = q })) g

-- Document 02, 5: "Record PL enters a provisional licence".
abbrev pub provisional : ℕ → Grant → Record
provisional q g = enter (Provisional (record { 0 = q })) g

-- "CF .. makes a provisional one firm": q's provisional licence is countersigned.
abbrev pub countersign : ℕ → Grant → Record
countersign q g = confirm (record { 0 = q }) g

-- Document 02, 6: "Record PV has the form and refusals of WD": what the withdrawal of a licence of q would take away is looked up.
abbrev pub preview_withdrawal : ℕ → Grant → Record
preview_withdrawal q g = preview (record { 0 = q }) g

-- "It is fed the bytes of each call's record, and nothing from the book or its answers": the plain machine after the records, each
-- with a preview buffer as long as the marks.
abbrev pub machine : List Record → State
machine es = runs start (map whole (map written_record es))

-- Its step at a record.
abbrev pub taken : State → Record → Step
taken M e = feed M all_marks (written_record e)

-- What it says of a record that it accepts: what stands changes, but by PV, which previews a withdrawal. An example has no QU: of that
-- the machine never says so.
abbrev pub accepting : Record → Verdict
accepting (enter by g) = changes
accepting (remove by g) = changes
accepting (confirm p g) = changes
accepting (preview p g) = previews p (canon g)
accepting (query c) = changes

-- "From those bytes, T, L and N alone it accepts the record or refuses it": it accepts each one.
abbrev pub Accepted : State → List Record → Type 0
Accepted M [] = Unit {0}
Accepted M (e ∷ es) = ((taken M e).says ≡ accepting e) × Accepted (taken M e).next es

-- The number of a written conclusion. "Mark c says that conclusion c is true." Document 02, 3: "numbers follow that form".
abbrev pub number_in : State → Concl → ℕ
number_in M c = number_of (concl_of M.N (canon_concl c))

-- The marks of a state. "So there are 39,168 marks"; "A mark is a byte, 0 or 1"; "A statement .. has mark 1 exactly when it is in
-- every set closed under the three rules". Document 02, 5: "The existing marks and counts are those of the firm licences."
pub record MarksOf (M : State) (m : List ℕ) : Type 1 where
  pub size : length m ≡ all_marks
  pub bits : (n : ℕ) → get_or m n 0 ≤ 1
  pub stand : (n : ℕ) → (get_or m n 0 ≡ 1) ↔ Stands M none_chosen n

-- What the documents say of an example: a conclusion is permitted, or not, or open (`undecided`, since `open` is a reserved word); so
-- many marks; so many truths and so many sayings; the nets of truths and of sayings, against the marks that stood after other records.
pub data Answer : Type 0 where
  permitted : Concl → Answer
  not_permitted : Concl → Answer
  undecided : Concl → Answer
  marks : ℕ → Answer
  each : ℕ → ℕ → Answer
  nets : List Record → ℤ → ℤ → Answer

-- So many of a state's marks stand.
pub record Marked (M : State) (n : ℕ) : Type 1 where
  pub count : (m : List ℕ) → MarksOf M m → ones m ≡ n

-- So many of its marks of truths, and so many of its marks of sayings.
pub record MarkedEach (M : State) (t s : ℕ) : Type 1 where
  pub count : (m : List ℕ) → MarksOf M m → (ones (marks_of truths m) ≡ t) × (ones (marks_of sayings m) ≡ s)

-- "the net, which is gained less lost and may be below zero", of truths and of sayings, from the marks of one state to those of
-- another.
pub record Nets (L M : State) (y z : ℤ) : Type 1 where
  pub difference : (l m : List ℕ) → MarksOf L l → MarksOf M m → ((counts_of l m).truths.net ≡ y) × ((counts_of l m).sayings.net ≡ z)

-- An answer is right of the records: "permitted when the conclusion stands under every choice of which provisional licences become
-- firm, not permitted when it stands under none, and open otherwise".
abbrev pub Says : List Record → Answer → Type 1
Says es (permitted c) = AlwaysStands (machine es) (number_in (machine es) c)
Says es (not_permitted c) = NeverStands (machine es) (number_in (machine es) c)
Says es (undecided c) = Undecided (machine es) (number_in (machine es) c)
Says es (marks n) = Marked (machine es) n
Says es (each t s) = MarkedEach (machine es) t s
Says es (nets before y z) = Nets (machine before) (machine es) y z

-- All of a list.
abbrev pub All : {A : Type 0} → (A → Type 1) → List A → Type 1
All P [] = Unit {1}
All P (a ∷ l) = P a × All P l

-- A line of the table: what is entered, and what the document says of it.
pub record Example : Type 0 where
  pub entries : List Record
  pub answers : List Answer

-- A line of the table is right where the machine accepts its records and all its answers are right.
pub record Right (e : Example) : Type 1 where
  pub accepted : Accepted start e.entries
  pub answered : All (Says e.entries) e.answers

-- P1: 0: Smart(2). 1: 0 said Smart(2) gives Attractive(2). T: Perm(1, issue, that grant). Attractive(2) permitted; 4 marks. Two are
-- truths, Attractive(2) and the right, and two what 0 and 1 said.
unfoldable pub p1 : Example
p1 =
    let that = when 0 (smart 2) (attractive 2) in
    record {
      entries = licence 0 (plain (smart 2)) ∷ licence 1 that ∷ trust (plain (perm 1 (issue that))) ∷ [];
      answers = permitted (attractive 2) ∷ marks 4 ∷ each 2 2 ∷ [];
    }

-- P2: P1 without the trusted grant. Not permitted; 2 marks.
unfoldable pub p2 : Example
p2 =
    record {
      entries = licence 0 (plain (smart 2)) ∷ licence 1 (when 0 (smart 2) (attractive 2)) ∷ [];
      answers = not_permitted (attractive 2) ∷ marks 2 ∷ [];
    }

-- P3: 0: Smart(0). T: 0 said Smart(0) gives Perm(0, issue, Smart(0)). Smart(0) permitted; 3 marks.
unfoldable pub p3 : Example
p3 =
    record {
      entries = licence 0 (plain (smart 0)) ∷ trust (when 0 (smart 0) (perm 0 (issue (plain (smart 0))))) ∷ [];
      answers = permitted (smart 0) ∷ marks 3 ∷ [];
    }

-- P4: T: Smart(0). Smart(1) not permitted.
unfoldable pub p4 : Example
p4 =
    record {
      entries = trust (plain (smart 0)) ∷ [];
      answers = not_permitted (smart 1) ∷ [];
    }

-- P5 (document 000's example 4.3): 0: for all principals x, 0 said Great(x) gives Good(x). 0: 0 said Good(2) gives Great(3).
-- 0: Great(2). T: for all grants x, Perm(0, issue, x). Good(3) permitted.
unfoldable pub p5 : Example
p5 =
    record {
      entries =
          licence 0 (for_principals 0 (great x) (good x))
          ∷ licence 0 (when 0 (good 2) (great 3))
          ∷ licence 0 (plain (great 2))
          ∷ trust (for_grants (perm 0 issue_any))
          ∷ [];
      answers = permitted (good 3) ∷ [];
    }

-- P6: 0: 1 said Smart(2) gives Smart(2). 1: 0 said Smart(2) gives Smart(2). 0 marks.
unfoldable pub p6 : Example
p6 =
    record {
      entries = licence 0 (when 1 (smart 2) (smart 2)) ∷ licence 1 (when 0 (smart 2) (smart 2)) ∷ [];
      answers = marks 0 ∷ [];
    }

-- Add 1: Smart(2). 2 marks.
unfoldable pub p6_added : Example
p6_added =
    record {
      entries = p6.entries ++ (licence 1 (plain (smart 2)) ∷ []);
      answers = marks 2 ∷ [];
    }

-- P7: 0: for all x, Perm(0, issue, x). No trust. Perm(0, issue, that grant) not permitted.
unfoldable pub p7 : Example
p7 =
    let that = for_grants (perm 0 issue_any) in
    record {
      entries = licence 0 that ∷ [];
      answers = not_permitted (perm 0 (issue that)) ∷ [];
    }

-- P8: T: Smart(2). T: 0 said Smart(2) gives Good(2). Good(2) not permitted.
unfoldable pub p8 : Example
p8 =
    record {
      entries = trust (plain (smart 2)) ∷ trust (when 0 (smart 2) (good 2)) ∷ [];
      answers = not_permitted (good 2) ∷ [];
    }

-- P9: 0: Smart(2). 1: 0 said Smart(2) gives Good(2). T: 0 said Smart(2) and 1 said Good(2) give Trusted(2). Permitted.
-- Besides, 3 marks.
unfoldable pub p9 : Example
p9 =
    record {
      entries =
          licence 0 (plain (smart 2))
          ∷ licence 1 (when 0 (smart 2) (good 2))
          ∷ trust (when2 0 (smart 2) 1 (good 2) (trusted 2))
          ∷ [];
      answers = permitted (trusted 2) ∷ marks 3 ∷ [];
    }

-- Withdraw 0's: net -3. It is -1 of truths, `negsuc 0`, and -2 of sayings, `negsuc 1`. Besides, 0 marks.
unfoldable pub p9_withdrawn : Example
p9_withdrawn =
    record {
      entries = p9.entries ++ (withdraw 0 (plain (smart 2)) ∷ []);
      answers = marks 0 ∷ nets p9.entries (negsuc 0) (negsuc 1) ∷ [];
    }

-- P10: T: for all packs k, Perm(5, run, k). Run of pack 31 permitted, export not; 32 marks.
unfoldable pub p10 : Example
p10 =
    record {
      entries = trust (for_packs (perm 5 (run x))) ∷ [];
      answers = permitted (perm 5 (run 31)) ∷ not_permitted (perm 5 (export 31)) ∷ marks 32 ∷ [];
    }

-- Document 02, 3: "Conditions in another order are the same grant." 0: Smart(2). 1: Good(2). 2: 1 said Good(2) and 0 said Smart(2)
-- give Trusted(2). T: Perm(2, issue, 0 said Smart(2) and 1 said Good(2) give Trusted(2)). Trusted(2) permitted, and the right in
-- either order; 5 marks.
unfoldable pub turned : Example
turned =
    let licensed = when2 1 (good 2) 0 (smart 2) (trusted 2) in
    let allowed = when2 0 (smart 2) 1 (good 2) (trusted 2) in
    record {
      entries = licence 0 (plain (smart 2)) ∷ licence 1 (plain (good 2)) ∷ licence 2 licensed ∷ trust (plain (perm 2 (issue allowed))) ∷ [];
      answers = permitted (trusted 2) ∷ permitted (perm 2 (issue licensed)) ∷ permitted (perm 2 (issue allowed)) ∷ marks 5 ∷ [];
    }

-- Document 02, 5: "Licences awaiting countersignature." A chain whose middle licence is provisional. 0: Smart(2). 1, provisionally:
-- 0 said Smart(2) gives Good(2). 2: 1 said Good(2) gives Great(2). T: 2 said Great(2) gives Trusted(2). Trusted(2) open; 1 mark.
unfoldable pub chain : Example
chain =
    record {
      entries =
          licence 0 (plain (smart 2))
          ∷ provisional 1 (when 0 (smart 2) (good 2))
          ∷ licence 2 (when 1 (good 2) (great 2))
          ∷ trust (when 2 (great 2) (trusted 2))
          ∷ [];
      answers = undecided (trusted 2) ∷ marks 1 ∷ [];
    }

-- 1's is countersigned. Trusted(2) permitted; 4 marks, of which one is a truth: a net of 1 truth and of 2 sayings.
unfoldable pub chain_firm : Example
chain_firm =
    record {
      entries = chain.entries ++ (countersign 1 (when 0 (smart 2) (good 2)) ∷ []);
      answers = permitted (trusted 2) ∷ marks 4 ∷ nets chain.entries (pos 1) (pos 2) ∷ [];
    }

-- 1's is withdrawn instead. Trusted(2) not permitted; 1 mark as before.
unfoldable pub chain_withdrawn : Example
chain_withdrawn =
    record {
      entries = chain.entries ++ (withdraw 1 (when 0 (smart 2) (good 2)) ∷ []);
      answers = not_permitted (trusted 2) ∷ marks 1 ∷ nets chain.entries (pos 0) (pos 0) ∷ [];
    }

-- 1's is countersigned, and then withdrawn. Trusted(2) not permitted; 1 mark.
unfoldable pub chain_firm_withdrawn : Example
chain_firm_withdrawn =
    record {
      entries = chain_firm.entries ++ (withdraw 1 (when 0 (smart 2) (good 2)) ∷ []);
      answers = not_permitted (trusted 2) ∷ marks 1 ∷ [];
    }

-- Two provisional licences on two paths to one right. 0, provisionally: Smart(2). 1, provisionally: Smart(2). T: 0 said Smart(2)
-- gives Perm(5, run, 31). T: 1 said Smart(2) gives Perm(5, run, 31). The right is open: either licence would do, but neither is firm.
-- 0 marks.
unfoldable pub two_paths : Example
two_paths =
    record {
      entries =
          provisional 0 (plain (smart 2))
          ∷ provisional 1 (plain (smart 2))
          ∷ trust (when 0 (smart 2) (perm 5 (run 31)))
          ∷ trust (when 1 (smart 2) (perm 5 (run 31)))
          ∷ [];
      answers = undecided (perm 5 (run 31)) ∷ marks 0 ∷ [];
    }

-- As soon as 0's is countersigned the right is permitted, with 1's still provisional; 2 marks.
unfoldable pub two_paths_firm : Example
two_paths_firm =
    record {
      entries = two_paths.entries ++ (countersign 0 (plain (smart 2)) ∷ []);
      answers = permitted (perm 5 (run 31)) ∷ marks 2 ∷ [];
    }

-- It is permitted with 1's withdrawn; 2 marks.
unfoldable pub two_paths_first : Example
two_paths_first =
    record {
      entries = two_paths_firm.entries ++ (withdraw 1 (plain (smart 2)) ∷ []);
      answers = permitted (perm 5 (run 31)) ∷ marks 2 ∷ [];
    }

-- So it is the other way round, with 1's countersigned and 0's withdrawn; 2 marks.
unfoldable pub two_paths_second : Example
two_paths_second =
    record {
      entries = two_paths.entries ++ (countersign 1 (plain (smart 2)) ∷ withdraw 0 (plain (smart 2)) ∷ []);
      answers = permitted (perm 5 (run 31)) ∷ marks 2 ∷ [];
    }

-- With both withdrawn it is not permitted; 0 marks.
unfoldable pub two_paths_none : Example
two_paths_none =
    record {
      entries = two_paths.entries ++ (withdraw 0 (plain (smart 2)) ∷ withdraw 1 (plain (smart 2)) ∷ []);
      answers = not_permitted (perm 5 (run 31)) ∷ marks 0 ∷ [];
    }

-- A provisional licence that adds nothing to what stands by another path. 0: Smart(2). 1, provisionally: Smart(2). T: 0 said Smart(2)
-- gives Good(2). T: 1 said Smart(2) gives Good(2). Good(2) permitted; 2 marks.
unfoldable pub another_path : Example
another_path =
    record {
      entries =
          licence 0 (plain (smart 2))
          ∷ provisional 1 (plain (smart 2))
          ∷ trust (when 0 (smart 2) (good 2))
          ∷ trust (when 1 (smart 2) (good 2))
          ∷ [];
      answers = permitted (good 2) ∷ marks 2 ∷ [];
    }

-- A circle of provisional licences. 0, provisionally: 1 said Smart(2) gives Smart(2). 1, provisionally: 0 said Smart(2) gives
-- Smart(2). T: 0 said Smart(2) gives Good(2). Good(2) not permitted, whichever become firm; 0 marks.
unfoldable pub waiting_circle : Example
waiting_circle =
    record {
      entries =
          provisional 0 (when 1 (smart 2) (smart 2))
          ∷ provisional 1 (when 0 (smart 2) (smart 2))
          ∷ trust (when 0 (smart 2) (good 2))
          ∷ [];
      answers = not_permitted (good 2) ∷ marks 0 ∷ [];
    }

-- "PL of a firm licence leaves it firm; LI of a provisional one makes it firm." 0: Smart(2), and then provisionally. 1, provisionally:
-- Good(2), and then firmly. T: 0 said Smart(2) and 1 said Good(2) give Trusted(2). Trusted(2) permitted; 3 marks.
unfoldable pub entered_twice : Example
entered_twice =
    record {
      entries =
          licence 0 (plain (smart 2))
          ∷ provisional 0 (plain (smart 2))
          ∷ provisional 1 (plain (good 2))
          ∷ licence 1 (plain (good 2))
          ∷ trust (when2 0 (smart 2) 1 (good 2) (trusted 2))
          ∷ [];
      answers = permitted (trusted 2) ∷ marks 3 ∷ [];
    }

-- Document 02, 6: "Preview of a withdrawal." A lab before it leaves a project. 0: Smart(2). 1: Smart(2). T: 0 said Smart(2) gives
-- Perm(5, run, 31). T: 1 said Smart(2) gives Perm(5, run, 31). T: 0 said Smart(2) gives Perm(5, export, 31). Run and export permitted;
-- 4 marks.
unfoldable pub leaving : Example
leaving =
    record {
      entries =
          licence 0 (plain (smart 2))
          ∷ licence 1 (plain (smart 2))
          ∷ trust (when 0 (smart 2) (perm 5 (run 31)))
          ∷ trust (when 1 (smart 2) (perm 5 (run 31)))
          ∷ trust (when 0 (smart 2) (perm 5 (export 31)))
          ∷ [];
      answers = permitted (perm 5 (run 31)) ∷ permitted (perm 5 (export 31)) ∷ marks 4 ∷ [];
    }

-- The withdrawal of 0's is previewed. "The book is untouched": both are permitted as before; 4 marks, with no net.
unfoldable pub leaving_previewed : Example
leaving_previewed =
    record {
      entries = leaving.entries ++ (preview_withdrawal 0 (plain (smart 2)) ∷ []);
      answers = permitted (perm 5 (run 31)) ∷ permitted (perm 5 (export 31)) ∷ marks 4 ∷ nets leaving.entries (pos 0) (pos 0) ∷ [];
    }

-- Then 0's is withdrawn. Run permitted, by what 1 said, and export not; 2 marks: a net of -1 truth and of -1 saying.
unfoldable pub leaving_withdrawn : Example
leaving_withdrawn =
    record {
      entries = leaving_previewed.entries ++ (withdraw 0 (plain (smart 2)) ∷ []);
      answers = permitted (perm 5 (run 31)) ∷ not_permitted (perm 5 (export 31)) ∷ marks 2 ∷ nets leaving_previewed.entries (negsuc 0) (negsuc 0) ∷ [];
    }

-- A preview of a provisional licence: that of 1 in the chain, which stays provisional. Trusted(2) open; 1 mark, with no net.
unfoldable pub chain_previewed : Example
chain_previewed =
    record {
      entries = chain.entries ++ (preview_withdrawal 1 (when 0 (smart 2) (good 2)) ∷ []);
      answers = undecided (trusted 2) ∷ marks 1 ∷ nets chain.entries (pos 0) (pos 0) ∷ [];
    }

-- The table.
unfoldable pub table : List Example
table =
    p1 ∷ p2 ∷ p3 ∷ p4 ∷ p5 ∷ p6 ∷ p6_added ∷ p7 ∷ p8 ∷ p9 ∷ p9_withdrawn ∷ p10
    ∷ turned
    ∷ chain ∷ chain_firm ∷ chain_withdrawn ∷ chain_firm_withdrawn
    ∷ two_paths ∷ two_paths_firm ∷ two_paths_first ∷ two_paths_second ∷ two_paths_none
    ∷ another_path
    ∷ waiting_circle
    ∷ entered_twice
    ∷ leaving ∷ leaving_previewed ∷ leaving_withdrawn
    ∷ chain_previewed
    ∷ []
