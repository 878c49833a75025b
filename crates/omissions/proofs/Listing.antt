-- The listing of a journal is that of its accepted records, with the refused lines in between.
use Prim.Native.Nat.{ℕ, ◌≤◌}
use mathlib.Core.Path.{◌≡◌, refl, ap}
use mathlib.Core.Bool.{Bool, true, false, cond}
use mathlib.Core.List.{List, [], ◌∷◌, ◌++◌, append-nil}
use native.Mathlib.Omega.{arith}
use lib.ListN.{length, take, drop, length-append, take-append-drop}
use lib.Dec.{eqb}
use Rattle.bookform.specs.declared.Book.{Book}
use Rattle.bookform.specs.declared.answer.Answer.{Answer}
use Rattle.bookform.specs.declared.answer.Answer.TheVariants.{Permitted, Open, NotPermitted, Changed, Previewed, Refused}
use Rattle.machine.specs.Machine.{start}
use Rattle.bookform.specs.Books.{fresh_book, fresh_marks}
use Rattle.book.specs.Chains.{Call}
use Rattle.demands.proofs.Reached.{fresh_shows}
use Rattle.journal.specs.Places.{rest_after, longest_journal}
use Rattle.journal.specs.Journals.{Calls, ended, then}
use Rattle.listings.specs.Listings.{read}
use Rattle.listings.proofs.Listings.{fresh_lent}
use Rattle.omissions.specs.Omissions.{own_bytes, journal_of, Omitted, none, keep, omit, if_accepted, accepted, AcceptedAlone}
use Rattle.omissions.proofs.Omitting.{omitted}

-- all refused calls are left out
pub accepted_omitted : (cs : List Call) → Omitted cs (accepted cs)
unfolding accepted
accepted_omitted [] = none
accepted_omitted (c ∷ cs) = go c.gave.answer refl (accepted_omitted cs)
  where
    go : (a : Answer) → c.gave.answer ≡ a → Omitted cs (accepted cs) → Omitted (c ∷ cs) (if_accepted a c (accepted cs))
    go Permitted e O = keep c O
    go Open e O = keep c O
    go NotPermitted e O = keep c O
    go (Changed x) e O = keep c O
    go (Previewed x) e O = keep c O
    go (Refused j) e O = omit c j e O

-- the journal of what is kept is no longer

own_rest : (used : ℕ) (s : List ℕ) → own_bytes used s ++ rest_after used s ≡ s
unfolding own_bytes rest_after
own_rest used s = go (eqb used 0)
  where
    go : (t : Bool) → cond t s (take used s) ++ cond t [] (drop used s) ≡ s
    go true = append-nil s
    go false = take-append-drop used s

journal_shorter : {b b' : Book} {m m' k k' v v' s : List ℕ} {cs ds : List Call} → Calls b m k v s cs b' m' k' v' → Omitted cs ds → length (journal_of ds) ≤ length s
unfolding journal_of
journal_shorter ended none = omega arith
journal_shorter (then s r n l w h C x) (keep {ds = ds} c O) =
    omega (arith, journal_shorter x O, length-append (own_bytes r.used s) (journal_of ds), length-append (own_bytes r.used s) (rest_after r.used s), ap (length {A = ℕ}) (own_rest r.used s))
journal_shorter (then s r n l w h C x) (omit c j q O) =
    omega (arith, journal_shorter x O, length-append (own_bytes r.used s) (rest_after r.used s), ap (length {A = ℕ}) (own_rest r.used s))

-- THE LISTING of a journal that is not too long, beside that of its accepted records alone.
pub accepted_alone : {s m k v : List ℕ} {cs : List Call} {b : Book} → length s ≤ longest_journal → Calls fresh_book fresh_marks fresh_marks fresh_marks s cs b m k v → AcceptedAlone cs m
accepted_alone {s} {m} {k} {v} {cs} {b} l x =
    let O = accepted_omitted cs in
    let A = omitted start fresh_lent fresh_shows x O in
    record { calls = A.calls; listed = read A.calls b m k v (omega (arith, l, journal_shorter x O)) A.made; lines = A.lines }
