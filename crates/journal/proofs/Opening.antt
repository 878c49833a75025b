-- A call that answers with no refusal has read the record's kind.
use Prim.Native.Nat.{ℕ}
use mathlib.Core.Path.{◌≡◌, refl, sym, ap, ◌∙◌, subst}
use mathlib.Core.Logic.{⊎_elim}
use mathlib.Core.List.{List}
use native.Mathlib.Omega.{arith}
use Rattle.frames.specs.declared.Kind.{Kind}
use Rattle.frames.specs.Bytes.{Outcome, got, refused, and_then}
use Rattle.frames.specs.Frames.{read_mark, marked, frame, extent}
use Rattle.reader.specs.Contents.{Record, canon_record}
use Rattle.reader.specs.Records.{framed, read_record, read_canonical}
use Rattle.bookform.specs.declared.Book.{Book}
use Rattle.bookform.specs.declared.answer.Answered.{Answered}
use Rattle.bookform.specs.declared.answer.Answer.{Answer}
use Rattle.bookform.specs.declared.answer.Answer.TheVariants.{Permitted, Open, NotPermitted, Changed, Previewed, Refused}
use Rattle.machine.specs.Machine.{State, acted, step}
use Rattle.book.specs.Calls.{answer_of, Called}
use Rattle.demands.proofs.Shown.{shows_some}
use Rattle.journal.specs.Lines.{Opened}
use Rattle.sorts.specs.declared.Refusal.{Refusal}
use Rattle.sorts.specs.declared.Refusal.TheVariants as refusal

-- a refusal says nothing of the kind
refusal_opened : (s : List ℕ) (a : Answer) (k : Refusal) → a ≡ Refused k → Opened s a
refusal_opened s a k e = subst (Opened s) (sym e) tt

-- a kind that is not read is refused
unread : (s : List ℕ) (j : Refusal) → read_mark s ≡ refused j → read_canonical s ≡ refused j
unfolding frame read_record read_canonical
unread s j e = ap (λ (o : Outcome Kind). and_then (framed (marked o s)) (λ r n. got (canon_record r) n)) e

says_refused : (M : State) (s m k n w : List ℕ) (j : Refusal) → read_mark s ≡ refused j → answer_of (step M s).says m k n w ≡ Refused j
unfolding step answer_of
says_refused M s m k n w j e = ap (λ (o : Outcome Record). answer_of (acted M (extent s) o).says m k n w) (unread s j e)

read_opened : (s : List ℕ) (k : Kind) (n : ℕ) → read_mark s ≡ got k n → (a : Answer) → Opened s a
read_opened s k n e (Changed c) = λ j f. let z : ◌≡◌ {A = ℕ} 0 1 = cc in omega arith
read_opened s k n e (Previewed c) = λ j f. let z : ◌≡◌ {A = ℕ} 0 1 = cc in omega arith
read_opened s k n e Permitted = λ j f. let z : ◌≡◌ {A = ℕ} 0 1 = cc in omega arith
read_opened s k n e Open = λ j f. let z : ◌≡◌ {A = ℕ} 0 1 = cc in omega arith
read_opened s k n e NotPermitted = λ j f. let z : ◌≡◌ {A = ℕ} 0 1 = cc in omega arith
read_opened s k n e (Refused j) = tt

pub called_opened : (b : Book) (m k v s : List ℕ) (r : Answered) (n l w : List ℕ) → Called b m k v s r n l w → Opened s r.answer
called_opened b m k v s r n l w C = go (read_mark s) refl
  where
    go : (o : Outcome Kind) → read_mark s ≡ o → Opened s r.answer
    go (got h i) e = read_opened s h i e r.answer
    go (refused j) e =
        ⊎_elim
        (λ f.
        let x = shows_some b m k f.book in
        refusal_opened s r.answer j ((C.formed f x.0 x.1).answer ∙ says_refused x.0 s m k n w j e))
        (λ g. refusal_opened s r.answer refusal.Form (ap (λ (x : Answered). x.answer) (C.unformed g).0))
        C.decided
