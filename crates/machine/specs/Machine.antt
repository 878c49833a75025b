-- Document 01, "The five calls": the plain machine. It is fed the bytes of each call's record, and nothing from the book.
use Rattle.std.specs.Prelude.{ℕ, Bool, true, false, ◌&&◌, ◌||◌, cond, List, [], ◌∷◌, ◌++◌, eqb}
use Rattle.sorts.specs.declared.Prin.{Prin}
use Rattle.sorts.specs.declared.Status.{Status}
use Rattle.sorts.specs.declared.Status.TheVariants.{Trusted, Issued, Provisional}
use Rattle.sorts.specs.Numbers.{number_of, all_marks}
use Rattle.sorts.specs.Flags.{same_status}
use Rattle.sorts.specs.declared.Refusal.TheVariants as refusal
use Rattle.sorts.specs.declared.Refusal.{Refusal}
use Rattle.rows.specs.Written.{Grant, same_written}
use Rattle.rows.specs.Numbering.{number, number_concl}
use Rattle.rows.specs.Form.{concl_of}
use Rattle.frames.specs.Bytes.{Outcome, got, refused}
use Rattle.frames.specs.Frames.{extent}
use Rattle.reader.specs.Contents.{Record, enter, remove, confirm, preview, query}
use Rattle.reader.specs.Records.{read_canonical}
use Rattle.reader.specs.Found.{fits}

-- What stands: a grant with its status, trusted, issued by a principal, or issued provisionally.
pub record Entry : Type 0 where
  pub by : Status
  pub what : Grant

-- "The plain machine has T, a set of written trusted grants; L, a set of pairs of issuer and written grant; N, the written
-- grants numbered, in order." Document 02, 5: it "gains the set of provisional licences". These three are one set of entries: T the
-- grants whose status is Trusted, L those issued by p, with p, and those issued provisionally by p. A set is a list in which only
-- membership counts.
pub record State : Type 0 where
  pub entries : List Entry
  pub N : List Grant

-- "It starts with all three empty."
abbrev pub start : State
start = record { entries = []; N = [] }

-- Of grants in canonical form the same bytes are the same grant.
abbrev pub same_entry : Entry → Entry → Bool
same_entry x y = same_status x.by y.by && same_written x.what y.what

unfoldable pub member : Entry → List Entry → Bool
member x [] = false
member x (y ∷ E) = cond (same_entry x y) true (member x E)

unfoldable pub insert : Entry → List Entry → List Entry
insert x E = cond (member x E) E (E ++ (x ∷ []))

-- What is removed is removed wherever it stands.
unfoldable pub delete : Entry → List Entry → List Entry
delete x [] = []
delete x (y ∷ E) = cond (same_entry x y) (delete x E) (y ∷ delete x E)

-- The grant stands with that status.
abbrev pub stands : State → Status → Grant → Bool
stands M by g = member (record { by = by; what = g }) M.entries

-- What the machine says of a record: a change of what stands; a preview of p's licence withdrawn; a query, with the number of the
-- conclusion to be looked up; or a refusal with its number.
pub data Verdict : Type 0 where
  changes : Verdict
  previews : Prin → Grant → Verdict
  asks : ℕ → Verdict
  refuses : Refusal → Verdict

-- The state after a record, what the machine says, and the bytes used.
pub record Step : Type 0 where
  pub next : State
  pub says : Verdict
  pub used : ℕ

-- "A refused record changes nothing."
abbrev pub refuse : State → Refusal → ℕ → Step
refuse M k n = record { next = M; says = refuses k; used = n }

-- A grant with a status, as an entry.
abbrev pub entry : Status → Grant → Entry
entry by g = record { by = by; what = g }

-- "TG adds its grant to T, LI its pair to L". Document 02, 5: "PL of a firm licence leaves it firm; LI of a provisional one makes it
-- firm."
abbrev pub entered : Status → Grant → List Entry → List Entry
entered Trusted g E = insert (entry Trusted g) E
entered (Issued p) g E = insert (entry (Issued p) g) (delete (entry (Provisional p) g) E)
entered (Provisional p) g E = cond (member (entry (Issued p) g) E) E (insert (entry (Provisional p) g) E)

-- Whether there is something to remove; "ST and WD remove theirs". Document 02, 5: "WD removes either kind."
abbrev pub there : Status → Grant → List Entry → Bool
there Trusted g E = member (entry Trusted g) E
there (Issued p) g E = member (entry (Issued p) g) E || member (entry (Provisional p) g) E
there (Provisional p) g E = member (entry (Provisional p) g) E

abbrev pub removed : Status → Grant → List Entry → List Entry
removed Trusted g E = delete (entry Trusted g) E
removed (Issued p) g E = delete (entry (Issued p) g) (delete (entry (Provisional p) g) E)
removed (Provisional p) g E = delete (entry (Provisional p) g) E

-- A record of n bytes that changes what stands to E, and the grants numbered to N.
abbrev pub change : List Entry → List Grant → ℕ → Step
change E N n = record { next = record { entries = E; N = N }; says = changes; used = n }

-- Document 02, 6: "Record PV has the form and refusals of WD"; "The book is untouched".
abbrev pub previewed : State → Prin → Grant → ℕ → Step
previewed M p g n = record { next = M; says = previews p g; used = n }

-- "TG, LI and QU append their new grants to N, each once, in the order of numbering"; "PL appends its new grants to N as LI does".
-- 6: "the grants that the record would number and those in N exceed 64". 7: "the grant or licence to remove doesn't stand"; "CF of a
-- licence that isn't provisional meets refusal 7". A record of n bytes, which are used:
unfoldable pub act : State → Record → ℕ → Step
act M (enter by g) n = cond (fits (number g M.N)) (change (entered by g M.entries) (number g M.N) n) (refuse M refusal.Full n)
act M (remove by g) n = cond (there by g M.entries) (change (removed by g M.entries) M.N n) (refuse M refusal.Absent n)
act M (confirm p g) n = cond (stands M (Provisional p) g) (change (entered (Issued p) g M.entries) M.N n) (refuse M refusal.Absent n)
act M (preview p g) n = cond (there (Issued p) g M.entries) (previewed M p g n) (refuse M refusal.Absent n)
act M (query c) n =
    cond (fits (number_concl c M.N))
    (record { next = record { entries = M.entries; N = number_concl c M.N }; says = asks (number_of (concl_of (number_concl c M.N) c)); used = n })
    (refuse M refusal.Full n)

-- "then the record from left to right, the first fault deciding". Document 02, 7: a fault uses the u bytes that the record's frame has.
abbrev pub acted : State → ℕ → Outcome Record → Step
acted M u (got r n) = act M r n
acted M u (refused k) = refuse M k u

-- "From those bytes, T, L and N alone it accepts the record or refuses it". Document 02, 3: "the plain machine's grants .. are in" the
-- canonical form.
unfoldable pub step : State → List ℕ → Step
step M s = acted M (extent s) (read_canonical s)

-- Document 02, 6: "A preview buffer not as long as the marks meets refusal 9, and the plain machine, fed that length too, then refuses
-- with 9 as well." The record s, where a preview buffer of u bytes is lent.
unfoldable pub feed : State → ℕ → List ℕ → Step
feed M u s = cond (eqb u all_marks) (step M s) (refuse M refusal.Form 0)
