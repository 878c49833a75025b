-- What is done with a record that was read, as the code does it.
use Rattle.std.specs.Prelude.{ℕ, ◌<◌, cond, List, Result, Ok, Err}
use Rattle.sorts.specs.declared.Status.TheVariants.{Issued, Provisional}
use Rattle.sorts.specs.Numbers.{number_of, all_marks}
use Rattle.sorts.specs.declared.Refusal.{Refusal}
use Rattle.rows.specs.declared.Table.{Table}
use Rattle.reader.specs.declared.contents.Request.{Request}
use Rattle.reader.specs.declared.contents.Request.TheVariants.{Enter, Remove, Confirm, Preview, Query}
use Rattle.reader.specs.declared.contents.Reading.{Reading}
use Rattle.rules.specs.Rules.{RowsForm}
use Rattle.bookform.specs.Changes.{is_set, there_flags}
use Rattle.bookform.specs.declared.Book.{Book}
use Rattle.requests.specs.Inner.Buffers.{firm_marks}
use Rattle.bookform.specs.declared.answer.Answer.{Answer}
use Rattle.bookform.specs.declared.answer.Answered.{Answered}
use Rattle.bookform.specs.Inner.Answering.{refused_with, queried}
use Rattle.requests.specs.Inner.Revising.{changed_to, entered_book, removed_book, removed, confirmed, previewed}

-- the book after it and the answer, or the refusal
abbrev pub done_to : Book → List ℕ → List ℕ → Table → Result Request Refusal → Result (Book × Answer) Refusal
done_to b m k t (Err j) = Err j
done_to b m k t (Ok (Enter by g)) = Ok (changed_to (entered_book b t by g.0) m)
done_to b m k t (Ok (Remove by g)) = removed b by g.0 m
done_to b m k t (Ok (Confirm p g)) = confirmed b p g.0 m
done_to b m k t (Ok (Preview p g)) = previewed b p g.0 m
done_to b m k t (Ok (Query c)) = Ok (queried b t c m k)

-- with the bytes used; a refusal leaves the book
abbrev pub answered : Book → ℕ → Result (Book × Answer) Refusal → Answered
answered b n (Ok d) = record { book = d.0; answer = d.1; used = n }
answered b n (Err j) = refused_with b j n

abbrev pub applied_to : Book → List ℕ → List ℕ → Table → ℕ → Result Request Refusal → Answered
applied_to b m k t n f = answered b n (done_to b m k t f)

-- marks after it, by what marks a book has and which stood: the same for both buffers
abbrev pub marks_applied_to : (Book → List ℕ) → Book → List ℕ → Table → Result Request Refusal → List ℕ
marks_applied_to f b m t (Err j) = m
marks_applied_to f b m t (Ok (Enter by g)) = f (entered_book b t by g.0)
marks_applied_to f b m t (Ok (Remove by g)) = cond (there_flags by g.0 b.flags) (f (removed_book b by g.0)) m
marks_applied_to f b m t (Ok (Confirm p g)) = cond (is_set b.flags (Provisional p) g.0) (f (entered_book b b.table (Issued p) g.0)) m
marks_applied_to f b m t (Ok (Preview p g)) = m
marks_applied_to f b m t (Ok (Query c)) = m

-- the preview buffer after it
abbrev pub preview_applied_to : Book → List ℕ → Result Request Refusal → List ℕ
preview_applied_to b v (Err j) = v
preview_applied_to b v (Ok (Enter by g)) = v
preview_applied_to b v (Ok (Remove by g)) = v
preview_applied_to b v (Ok (Confirm p g)) = v
preview_applied_to b v (Ok (Preview p g)) = cond (there_flags (Issued p) g.0 b.flags) (firm_marks (removed_book b (Issued p) g.0)) v
preview_applied_to b v (Ok (Query c)) = v

-- a conclusion that is asked for has marks
abbrev pub FoundFits : Result Request Refusal → Type 0
FoundFits (Ok (Query c)) = number_of c < all_marks
FoundFits f = Unit {0}

unfoldable pub done : Book → List ℕ → List ℕ → Reading → Result (Book × Answer) Refusal
done b m k r = done_to b m k r.table r.found

unfoldable pub applied : Book → List ℕ → List ℕ → Reading → Answered
applied b m k r = answered b r.used (done b m k r)

unfoldable pub marks_applied : (Book → List ℕ) → Book → List ℕ → Reading → List ℕ
marks_applied f b m r = marks_applied_to f b m r.table r.found

unfoldable pub preview_applied : Book → List ℕ → Reading → List ℕ
preview_applied b v r = preview_applied_to b v r.found

-- what the code needs of a book and what was read
pub record Ready (b : Book) (r : Reading) : Type 0 where
  pub rows : RowsForm b.table.rows
  pub next : RowsForm r.table.rows
  pub fits : FoundFits r.found
