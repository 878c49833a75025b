-- Every journal has a listing, and one only; and demand 3 holds of its calls.
use Prim.Native.Nat.{ℕ, zero, suc, ◌+◌, ◌≤◌, ◌<◌}
use mathlib.Core.Path.{◌≡◌, refl, ap, ◌∙◌, subst}
use mathlib.Core.List.{List, [], ◌∷◌, ◌++◌}
use native.Mathlib.Omega.{arith}
use native.Mathlib.Decide.{ℕ_discrete, dec_lt}
use lib.ListN.{length, get_or, length-drop}
use Rattle.sorts.specs.Numbers.{all_marks}
use Rattle.bookform.specs.declared.Book.{Book}
use Rattle.machine.specs.Machine.{State, start}
use Rattle.bookform.specs.Books.{Lent}
use Rattle.bookform.specs.Books.{fresh_book, fresh_marks}
use Rattle.book.specs.Chains.{Call}
use Rattle.demands.specs.Demands.{Demand3}
use Rattle.demands.proofs.Demand3.{demand_3}
use Rattle.demands.proofs.Existence.{call_some, blank_preview}
use Rattle.demands.proofs.Reached.{Reached, fresh_form, fresh_shows, fresh_reached, reached_after}
use Rattle.lines.specs.declared.Line.{Line}
use Rattle.journal.specs.Places.{rest_after, longest_journal}
use Rattle.journal.specs.Journals.{Calls, ended, then}
use Rattle.listings.specs.Listings.{Listed, over, read, record_lines, Told, Follows, Finished}
use Rattle.journal.specs.Lines.{line_of, end_of}
use Rattle.lines.specs.Pieces.{Carries}
use Rattle.journal.proofs.places.Places.{rest_none, rest_some}
use Rattle.journal.proofs.Calling.{calls_chain, calls_only}
use Rattle.listings.proofs.Ending.{left_long, all_end}

-- DEMAND 3 holds of the calls of every journal.
pub calls_demand_3 : {s m k v : List ℕ} {cs : List Call} {b : Book} → Calls fresh_book fresh_marks fresh_marks fresh_marks s cs b m k v → Demand3 cs b m k
calls_demand_3 {s} {m} {k} {v} {cs} {b} x = demand_3 cs b m k (calls_chain x)

-- a fresh book, and three buffers of 0
pub fresh_lent : Lent fresh_book fresh_marks fresh_marks fresh_marks
fresh_lent = record { book = fresh_form; preview = blank_preview }

-- So the listing of a journal that is not too long tells of such calls; so do the lines that the program wrote.
pub listed_told : (s : List ℕ) (ls : List (List ℕ)) → length s ≤ longest_journal → Listed s ls → Told s ls
listed_told s ls h (over l) = absurd (omega arith)
listed_told s ls h (read cs b m k v l x) =
    record { calls = cs; book = b; marks = m; second = k; preview = v; made = x; lines = refl; demand = calls_demand_3 x; ends = all_end start fresh_lent fresh_shows x }

pub ran_told : (s : List ℕ) (k : ℕ) → length s ≤ longest_journal → (R : Finished s k) → Told s R.lines
ran_told s k h R = listed_told s R.lines h R.listed

-- a call leaves less to read

rest_less : (used : ℕ) (t : List ℕ) (k : ℕ) → length t ≤ suc k → length (rest_after used t) ≤ k
rest_less used t k l = go (ℕ_discrete used 0)
  where
    go : Dec (used ≡ 0) → length (rest_after used t) ≤ k
    go (yes e) = omega (arith, ap (length {A = ℕ}) (rest_none used t e))
    go (no d) = omega (arith, ap (length {A = ℕ}) (rest_some used t d), length-drop used t)

-- Calls of bytes that are left to read.
pub record SomeCalls (b : Book) (m k v t : List ℕ) : Type 0 where
  pub calls : List Call
  pub book : Book
  pub marks : List ℕ
  pub second : List ℕ
  pub preview : List ℕ
  pub made : Calls b m k v t calls book marks second preview

calls_upto : (j : ℕ) {b : Book} {m k v : List ℕ} {M : State} → Reached b m k M → length v ≡ all_marks → (t : List ℕ) → length t ≤ j → SomeCalls b m k v t
calls_upto zero {b} {m} {k} {v} R e [] l = record { calls = []; book = b; marks = m; second = k; preview = v; made = ended }
calls_upto zero R e (x ∷ t) l = absurd (omega arith)
calls_upto (suc j) {b} {m} {k} {v} R e [] l = record { calls = []; book = b; marks = m; second = k; preview = v; made = ended }
calls_upto (suc j) {b} {m} {k} {v} {M} R e (x ∷ t) l =
    let B : Lent b m k v = record { book = R.form; preview = e } in
    let C = call_some b m k v (x ∷ t) B in
    let K = calls_upto j (reached_after R C) (left_long M B R.shows C) (rest_after _ (x ∷ t)) (rest_less _ (x ∷ t) j l) in
    record { calls = _; book = K.book; marks = K.marks; second = K.second; preview = K.preview; made = then (x ∷ t) _ _ _ _ (omega arith) C K.made }

pub calls_from : {b : Book} {m k v : List ℕ} {M : State} → Reached b m k M → length v ≡ all_marks → (t : List ℕ) → SomeCalls b m k v t
calls_from R e t = calls_upto (length t) R e t (omega arith)

-- EVERY JOURNAL has a listing,
pub listed_some : (s : List ℕ) → (ls : List (List ℕ)) × Listed s ls
listed_some s = go (dec_lt longest_journal (length s))
  where
    go : Dec (longest_journal < length s) → (ls : List (List ℕ)) × Listed s ls
    go (yes l) = (_, over (omega arith))
    go (no l) = let K = calls_from fresh_reached blank_preview s in (_, read K.calls K.book K.marks K.second K.preview (omega arith) K.made)

-- and ONE ONLY.
pub listed_only : (s : List ℕ) (ls ms : List (List ℕ)) → Listed s ls → Listed s ms → ls ≡ ms
listed_only s ls ms (over l) (over k) = refl
listed_only s ls ms (over l) (read cs b m k v h x) = absurd (omega arith)
listed_only s ls ms (read cs b m k v h x) (over l) = absurd (omega arith)
listed_only s ls ms (read cs b m k v l x) (read ds b' m' k' v' h y) =
    let e = calls_only x y in
    λ i. record_lines 1 (e.0 i) ++ (end_of (length (e.0 i)) (e.2 i) ∷ [])

-- So a line that is written after k lines is line k of the listing.
pub follows_listed : (s : List ℕ) (ls : List (List ℕ)) (k : ℕ) (t : Line) → Listed s ls → Follows s k t → Carries t (get_or ls k [])
follows_listed s ls k t L F = subst (λ (x : List (List ℕ)). Carries t (get_or x k [])) (listed_only s F.lines ls F.listed L) F.holds

-- each call gives a line

pub lines_count : (n : ℕ) (cs : List Call) → length (record_lines n cs) ≡ length cs
unfolding record_lines
lines_count n [] = refl
lines_count n (c ∷ cs) = let e = lines_count (n + 1) cs in omega arith

pub line_at : (j : ℕ) (cs : List Call) (c : Call) (ds : List Call) (ls : List (List ℕ)) →
    get_or (record_lines j (cs ++ (c ∷ ds)) ++ ls) (length cs) [] ≡ line_of (j + length cs) c.record' c.gave.answer
unfolding record_lines
line_at j [] c ds ls = let e : j ≡ j + 0 = omega arith in ap (λ (k : ℕ). line_of k c.record' c.gave.answer) e
line_at j (d ∷ cs) c ds ls =
    let e : j + 1 + length cs ≡ j + suc (length cs) = omega arith in
    line_at (j + 1) cs c ds ls ∙ ap (λ (k : ℕ). line_of k c.record' c.gave.answer) e
