-- Document 01's own journal, worked through: what the machine says of each record, what it holds at the end, and so what every
-- list of calls with these records answers and leaves.
use Prim.Native.Nat.{ℕ}
use mathlib.Core.Path.{◌≡◌, refl, ap, subst, ◌∙◌}
use mathlib.Core.List.{List, [], ◌∷◌, map}
use Rattle.sorts.specs.Numbers.{all_marks}
use Rattle.sorts.specs.declared.Status.TheVariants.{Trusted}
use Rattle.sorts.specs.declared.Refusal.TheVariants as refusal
use Rattle.rows.specs.Written.{Grant, grant, none, property, perm, issue, written, same_bytes, same_written}
use Rattle.rows.specs.Numbering.{place, has, add, number}
use Rattle.frames.specs.Bytes.{byte_at, upto, principal, pack, tag, header}
use Rattle.grants.specs.Grants.{read_property, read_packed, read_issue, read_concl, read_conds, read_with, read_grant}
use Rattle.canon.specs.Canon.{canon}
use Rattle.frames.specs.Frames.{kind_with, read_mark, frame, extent}
use Rattle.reader.specs.Contents.{read_entry, read_licence, read_query, read_content}
use Rattle.reader.specs.Records.{read_whole, read_record, read_canonical}
use Rattle.bookform.specs.declared.Book.{Book}
use Rattle.machine.specs.Machine.{State, Verdict, changes, asks, refuses, Entry, start, member, insert, delete, act, step, feed}
use Rattle.book.specs.Shows.{Shows}
use Rattle.bookform.specs.Books.{fresh_book, fresh_marks}
use Rattle.book.specs.Chains.{Call, Chain, whole, records, runs}
use Rattle.demands.proofs.Demand3.{demand_3}

-- the seven records
abbrev pub journal : List (List ℕ)
journal =
    (116 ∷ 103 ∷ 0 ∷ 6 ∷ 0 ∷ 0 ∷ 0 ∷ 0 ∷ 0 ∷ 2 ∷ []) ∷
    (108 ∷ 105 ∷ 0 ∷ 7 ∷ 0 ∷ 0 ∷ 0 ∷ 0 ∷ 0 ∷ 2 ∷ 2 ∷ []) ∷
    (113 ∷ 117 ∷ 0 ∷ 3 ∷ 0 ∷ 2 ∷ 2 ∷ []) ∷
    (116 ∷ 103 ∷ 0 ∷ 12 ∷ 0 ∷ 0 ∷ 0 ∷ 1 ∷ 0 ∷ 0 ∷ 0 ∷ 0 ∷ 0 ∷ 0 ∷ 2 ∷ 2 ∷ []) ∷
    (113 ∷ 117 ∷ 0 ∷ 3 ∷ 0 ∷ 2 ∷ 2 ∷ []) ∷
    (119 ∷ 100 ∷ 0 ∷ 7 ∷ 0 ∷ 0 ∷ 0 ∷ 0 ∷ 0 ∷ 2 ∷ 2 ∷ []) ∷
    (119 ∷ 100 ∷ 0 ∷ 7 ∷ 0 ∷ 0 ∷ 0 ∷ 0 ∷ 0 ∷ 2 ∷ 2 ∷ []) ∷ []

-- what the machine says of a list of records
unfoldable pub verdicts : State → List (List ℕ) → List Verdict
verdicts M [] = []
verdicts M (s ∷ ss) = (feed M all_marks s).says ∷ verdicts (feed M all_marks s).next ss

opened : State → List (List ℕ) → List Verdict
unfolding byte_at upto principal pack tag header read_property read_packed read_issue read_concl read_conds read_with read_grant read_entry read_licence read_query read_content read_whole kind_with read_mark frame extent read_record canon read_canonical written same_bytes same_written place has add number member insert delete act step feed runs verdicts
opened M ss = verdicts M ss

pub journal_verdicts : verdicts start journal ≡ changes ∷ changes ∷ asks 290 ∷ changes ∷ asks 290 ∷ changes ∷ refuses refusal.Absent ∷ []
unfolding opened
journal_verdicts = refl

-- Smart(2), Good(2), and Perm(0, issue, Good(2))
abbrev pub smart : Grant
smart = grant 0 0 none (property 0 2)

abbrev pub good : Grant
good = grant 0 0 none (property 2 2)

abbrev pub may : Grant
may = grant 0 0 none (perm 0 (issue good))

abbrev pub trusted : Grant → Entry
trusted g = record { by = Trusted; what = g }

abbrev pub journal_end : State
journal_end = record { entries = trusted smart ∷ trusted may ∷ []; N = smart ∷ good ∷ may ∷ [] }

pub journal_runs : runs start (map whole journal) ≡ journal_end
unfolding opened
journal_runs = refl

-- every list of calls with these records leaves a book that shows that state
pub journal_shows : (cs : List Call) (b : Book) (m k : List ℕ) → Chain fresh_book fresh_marks fresh_marks cs b m k → records cs ≡ map whole journal → Shows b journal_end
journal_shows cs b m k K e = subst (Shows b) (ap (runs start) e ∙ journal_runs) (demand_3 cs b m k K).shows
