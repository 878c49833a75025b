-- A call keeps its promise, by whether the book is in form.
use mathlib.Core.Path.{◌≡◌, refl, sym, ap, ap₂, subst, ◌∙◌}
use mathlib.Core.List.{List}
use mathlib.Core.Option.{some}
use native.Mathlib.Omega.{arith}
use mathlib.Core.Logic.{inl, inr}
use Prim.Native.Nat.{ℕ}
use Rattle.std.specs.Prelude.{Result, Ok, Err}
use Rattle.rows.specs.declared.Table.{Table}
use Rattle.reader.specs.Found.{number_found}
use Rattle.reader.specs.Requests.{Reads}
use Rattle.reader.specs.declared.contents.Request.{Request}
use Rattle.reader.specs.declared.contents.Reading.{Reading}
use Rattle.machine.specs.Machine.{step}
use Rattle.bookform.specs.declared.Book.{Book}
use Rattle.bookform.specs.declared.answer.Answered.{Answered}
use Rattle.bookform.specs.Books.{Lent}
use Rattle.book.specs.Calls.{Follows, Called}
use Rattle.requests.specs.Inner.Buffers.{firm_marks, both_marks}
use Rattle.bookform.specs.Inner.Answering.{refused_with}
use Rattle.requests.specs.Inner.Apply.{applied_to, applied, marks_applied, preview_applied}
use Rattle.book.proofs.Following.{follows}
use Rattle.sorts.specs.declared.Refusal.{Refusal}
use Rattle.sorts.specs.declared.Refusal.TheVariants as refusal
use Rattle.sorts.specs.Refusals.{refusal_number}
use Rattle.sorts.proofs.Refusals.{one_number}

pub called_unformed : (b : Book) (m k v s : List ℕ) (a : Answered) → (Lent b m k v → ⊥) → a ≡ refused_with b refusal.Form 0 → Called b m k v s a m k v
called_unformed b m k v s a d e = record { decided = inr d; unformed = λ _. (e, refl, refl, refl); formed = λ f. absurd (d f) }

pub called_formed : (b : Book) (m k v s : List ℕ) (r : Reading) (a : Answered) (n l w : List ℕ) → Lent b m k v → Reads s b.table r → a ≡ applied b m k r →
    n ≡ marks_applied firm_marks b m r → l ≡ marks_applied both_marks b k r → w ≡ preview_applied b v r → Called b m k v s a n l w
called_formed b m k v s r a n l w f R e h g p = record {
  decided = inl f;
  unformed = λ d. absurd (d f);
  formed = λ _ M sh.
      subst (λ (x : Answered). Follows M (step M s) b m k v x n l w) (sym e)
      (subst (λ (x : List ℕ). Follows M (step M s) b m k v (applied b m k r) x l w) (sym h)
      (subst (λ (x : List ℕ). Follows M (step M s) b m k v (applied b m k r) (marks_applied firm_marks b m r) x w) (sym g)
      (subst (λ (x : List ℕ). Follows M (step M s) b m k v (applied b m k r) (marks_applied firm_marks b m r) (marks_applied both_marks b k r) x) (sym p) (follows b m k v s f.book r R M sh))));
}

-- and where what is lent is taken as arrays, which hold the same
pub called_taken : {b : Book} {m m' k k' v v' s : List ℕ} (r : Reading) {a : Answered} {n l w : List ℕ} → m' ≡ m → k' ≡ k → v' ≡ v → Lent b m k v → Reads s b.table r → a ≡ applied b m' k' r →
    n ≡ marks_applied firm_marks b m' r → l ≡ marks_applied both_marks b k' r → w ≡ preview_applied b v' r → Called b m k v s a n l w
called_taken {b} {m} {m'} {k} {k'} {v} {v'} {s} r {a} {n} {l} {w} x y z f R e h g p =
    called_formed b m k v s r a n l w f R (e ∙ ap₂ (λ (i j : List ℕ). applied b i j r) x y) (h ∙ ap (λ (i : List ℕ). marks_applied firm_marks b i r) x)
    (g ∙ ap (λ (i : List ℕ). marks_applied both_marks b i r) y) (p ∙ ap (λ (i : List ℕ). preview_applied b i r) z)

-- What the reader turned back is answered with its number and its bytes used, and the book stays.
pub turned_back : (b : Book) (m l : List ℕ) (t : Table) (n : ℕ) (f : Result Request Refusal) (k : Refusal) → number_found f ≡ some (refusal_number k) → applied_to b m l t n f ≡ refused_with b k n
turned_back b m l t n (Ok q) k e = let z : ◌≡◌ {A = ℕ} 0 1 = cc in absurd (omega arith)
turned_back b m l t n (Err j) k e = let d : refusal_number j ≡ refusal_number k = cc in ap (λ (i : Refusal). refused_with b i n) (one_number j k d)
