-- The reading of a journal ends at the refusals 1 and 2, and at no other answer.
use Prim.Native.Nat.{ℕ, ◌≤◌}
use mathlib.Core.Path.{◌≡◌, refl, sym, ap, ◌∙◌, subst}
use mathlib.Core.Bool.{Bool, true, false, cond}
use mathlib.Core.Logic.{◌↔◌, inl, inr}
use mathlib.Core.List.{List}
use native.Mathlib.Omega.{arith}
use lib.ListN.{length, get_or}
use lib.Dec.{eqb}
use Rattle.frames.specs.Bytes.{Outcome, got, refused}
use Rattle.sorts.specs.Numbers.{all_marks}
use Rattle.sorts.specs.declared.Refusal.{Refusal}
use Rattle.sorts.specs.Refusals.{refusal_number}
use Rattle.frames.specs.Frames.{extent}
use Rattle.reader.specs.Contents.{Record}
use Rattle.reader.specs.Records.{read_record, read_canonical}
use Rattle.exact.proofs.Exact.{record_found}
use Rattle.exact.proofs.CanonicalRecords.{canonical_got, canonical_refused}
use Rattle.exact.proofs.Faults.{Turned, at_frame, in_content, fault_at}
use Rattle.rules.proofs.Standing.{standing_length}
use Rattle.bookform.specs.declared.Book.{Book}
use Rattle.bookform.specs.declared.answer.Answer.TheVariants.{Permitted, Open, NotPermitted}
use Rattle.bookform.specs.declared.answer.Answered.{Answered}
use Rattle.machine.specs.Machine.{State, Verdict, changes, previews, asks, refuses, act, acted, step}
use Rattle.machine.proofs.Steps.{act_acts}
use Rattle.bookform.specs.Books.{Lent}
use Rattle.book.specs.Shows.{Shows}
use Rattle.book.specs.Calls.{answer_of, preview_after, Called}
use Rattle.book.specs.Chains.{Call}
use Rattle.journal.specs.Journals.{Calls, ended, then}
use Rattle.listings.specs.Listings.{Ends, AllEnd}

-- a record that was read has its frame
record_long : (s : List ℕ) (r : Record) (n : ℕ) → read_record s ≡ got r n → 4 ≤ n
record_long s r n e = omega (arith, (record_found s r n e).long)

-- what the machine says ends the reading
abbrev Ending : Verdict → Type 0
Ending changes = ⊥
Ending (previews p g) = ⊥
Ending (asks c) = ⊥
Ending (refuses k) = (1 ≤ refusal_number k) × (refusal_number k ≤ 2)

-- which is a refusal by 1 or 2
ending_refuses : (y : Verdict) → Ending y → (k : Refusal) × (y ≡ refuses k) × (refusal_number k ≤ 2)
ending_refuses changes x = absurd x
ending_refuses (previews p g) x = absurd x
ending_refuses (asks c) x = absurd x
ending_refuses (refuses k) x = (k, refl, x.1)

acted_ends : (M : State) (s : List ℕ) (o : Outcome Record) → read_canonical s ≡ o → ((acted M (extent s) o).used ≡ 0) ↔ Ending (acted M (extent s) o).says
acted_ends M s (got r n) e =
    let a = act_acts M r n in
    let w = canonical_got s r n e in (
      λ u. absurd (omega (arith, u, a.used, record_long s w.0 n w.1)),
      λ x. let y = ending_refuses (act M r n).says x in let z = (a.kept y.0 y.1).1 in absurd (omega (arith, y.2, z)),
    )
acted_ends M s (refused k) e = go (fault_at s k (canonical_refused s k e))
  where
    go : Turned s k → (extent s ≡ 0) ↔ ((1 ≤ refusal_number k) × (refusal_number k ≤ 2))
    go (at_frame f (inl h) x) = let e = ap refusal_number h in (λ u. (omega arith, omega arith), λ i. x)
    go (at_frame f (inr h) x) = let e = ap refusal_number h in (λ u. (omega arith, omega arith), λ i. x)
    go (in_content (inl h) l x) = (λ u. absurd (omega (arith, u, l)), λ i. absurd (omega (arith, h.0, i.1)))
    go (in_content (inr h) l x) = (λ u. absurd (omega (arith, u, l)), λ i. absurd (omega (arith, ap refusal_number h, i.1)))

step_ends : (M : State) (s : List ℕ) → ((step M s).used ≡ 0) ↔ Ending (step M s).says
unfolding step
step_ends M s = acted_ends M s (read_canonical s) refl

query_ends : (t u : Bool) → Ends (cond t Permitted (cond u Open NotPermitted)) → ⊥
query_ends true u x = x
query_ends false true x = x
query_ends false false x = x

answer_ends : (y : Verdict) (m k n w : List ℕ) → Ending y ↔ Ends (answer_of y m k n w)
unfolding answer_of
answer_ends changes m k n w = (λ x. x, λ x. x)
answer_ends (previews p g) m k n w = (λ x. x, λ x. x)
answer_ends (asks c) m k n w = (λ x. absurd x, query_ends (eqb (get_or m c 0) 1) (eqb (get_or k c 0) 1))
answer_ends (refuses j) m k n w = (λ x. x, λ x. x)

-- a call on what is lent in form, whose book shows a state of the machine
call_ends : (M : State) (b : Book) (m k v s : List ℕ) (r : Answered) (n l w : List ℕ) → Lent b m k v → Shows b M → Called b m k v s r n l w → (r.used ≡ 0) ↔ Ends r.answer
call_ends M b m k v s r n l w B S h =
    let F = h.formed B M S in
    let i = step_ends M s in
    let j = answer_ends (step M s).says m k n w in
    (λ u. subst Ends (sym F.answer) (j.0 (i.0 (sym F.used ∙ u))), λ x. F.used ∙ i.1 (j.1 (subst Ends F.answer x)))

-- a preview buffer as long as the marks stays so
after_long : (y : Verdict) (M : State) (b : Book) (v : List ℕ) → length v ≡ all_marks → length (preview_after y M b v) ≡ all_marks
unfolding preview_after
after_long changes M b v e = e
after_long (previews p g) M b v e = standing_length b.table.rows _
after_long (asks c) M b v e = e
after_long (refuses j) M b v e = e

pub left_long : (M : State) {b : Book} {m k v s : List ℕ} {r : Answered} {n l w : List ℕ} → Lent b m k v → Shows b M → Called b m k v s r n l w → length w ≡ all_marks
left_long M {b} {m} {k} {v} {s} B S C = ap (length {A = ℕ}) (C.formed B M S).preview ∙ after_long (step M s).says M b v B.preview

-- THE ENDING: in the calls of a journal, from what is lent in form, with a book that shows a state of the machine, those that use no
-- byte are those with the refusals 1 and 2
pub all_end : {b b' : Book} {m m' k k' v v' s : List ℕ} {cs : List Call} (M : State) → Lent b m k v → Shows b M → Calls b m k v s cs b' m' k' v' → AllEnd cs
unfolding AllEnd
all_end M B S ended = tt
all_end {b} {b'} {m} {m'} {k} {k'} {v} M B S (then s r n l w h C x) =
    let F = C.formed B M S in
    (call_ends M b m k v s r n l w B S C, all_end (step M s).next (record { book = F.form; preview = left_long M B S C }) F.shows x)
