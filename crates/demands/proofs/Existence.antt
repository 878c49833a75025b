-- The demands are not empty: for every list of records there is a chain of calls from a fresh book, and it is worked through
-- for document 01's own journal.
use Prim.Native.Nat.{ℕ}
use mathlib.Core.Path.{◌≡◌, refl}
use mathlib.Core.List.{List, [], ◌∷◌, map}
use lib.ListN.{length, length-replicate}
use Rattle.sorts.specs.Numbers.{all_marks}
use Rattle.sorts.specs.declared.Refusal.TheVariants as refusal
use Rattle.reader.specs.Inner.OneRecord.{num_record}
use Rattle.reader.proofs.Record.{reads_within}
use Rattle.bookform.specs.declared.Book.{Book}
use Rattle.machine.specs.Machine.{State}
use Rattle.bookform.specs.Books.{Lent}
use Rattle.book.specs.Calls.{Called}
use Rattle.bookform.specs.Books.{fresh_book, fresh_marks}
use Rattle.book.specs.Chains.{Call, Chain, none, then, whole, records}
use Rattle.requests.specs.Inner.Buffers.{firm_marks, both_marks}
use Rattle.bookform.specs.Inner.Answering.{refused_with}
use Rattle.requests.specs.Inner.Apply.{applied, marks_applied, preview_applied}
use Rattle.book.proofs.Keeping.{called_formed, called_unformed}
use Rattle.demands.proofs.Reached.{Reached, fresh_reached, reached_after}

-- a call can be had on what is lent in form
pub call_some : (b : Book) (m k v s : List ℕ) → Lent b m k v →
    Called b m k v s (applied b m k (num_record s b.table)) (marks_applied firm_marks b m (num_record s b.table)) (marks_applied both_marks b k (num_record s b.table))
    (preview_applied b v (num_record s b.table))
call_some b m k v s f = called_formed b m k v s (num_record s b.table) _ _ _ _ f (reads_within s b.table _ f.book.table.count refl) refl refl refl refl

-- and on what is not it is refused
pub call_unformed : (b : Book) (m k v s : List ℕ) → (Lent b m k v → ⊥) → Called b m k v s (refused_with b refusal.Form 0) m k v
call_unformed b m k v s d = called_unformed b m k v s (refused_with b refusal.Form 0) d refl

-- with a preview buffer of zeroes
pub blank_preview : length fresh_marks ≡ all_marks
unfolding fresh_marks
blank_preview = length-replicate {A = ℕ} all_marks 0

pub record Some (b : Book) (m k : List ℕ) (ss : List (List ℕ)) : Type 0 where
  pub calls : List Call
  pub book : Book
  pub marks : List ℕ
  pub second : List ℕ
  pub chain : Chain b m k calls book marks second
  pub same : records calls ≡ map whole ss

chain_from : (ss : List (List ℕ)) {b : Book} {m k : List ℕ} {M : State} → Reached b m k M → Some b m k ss
unfolding records
chain_from [] {b} {m} {k} R = record { calls = []; book = b; marks = m; second = k; chain = none; same = refl }
chain_from (s ∷ ss) {b} {m} {k} R =
    let C = call_some b m k fresh_marks s (record { book = R.form; preview = blank_preview }) in
    let K = chain_from ss (reached_after R C) in
    record {
      calls = _;
      book = K.book;
      marks = K.marks;
      second = K.second;
      chain = then s fresh_marks _ _ _ _ C K.chain;
      same = λ i. record { bytes = s; room = blank_preview i } ∷ K.same i;
    }

-- For every list of records there is a chain of calls from a fresh book.
pub chain_some : (ss : List (List ℕ)) → Some fresh_book fresh_marks fresh_marks ss
chain_some ss = chain_from ss fresh_reached
