-- A journal read to its end: the book, the marks and the preview buffer that it leaves.
use Prim.Native.Nat.{ℕ, ◌≤◌, ◌<◌}
use mathlib.Core.Path.{◌≡◌, sym, ap, ◌∙◌, subst}
use mathlib.Core.List.{List, [], ◌∷◌}
use native.Mathlib.Omega.{arith}
use lib.ListN.{length, drop, length-drop, drop_of_length-le}
use Rattle.bookform.specs.declared.Book.{Book}
use Rattle.bookform.specs.declared.answer.Answered.{Answered}
use Rattle.book.specs.Calls.{Called}
use Rattle.book.specs.Chains.{Call}
use Rattle.journal.specs.Journals.{Calls, ended, then, LeavesFrom, fresh_left, Leaves}
use Rattle.journal.specs.Places.{next_place}
use Rattle.journal.specs.declared.Left.{Left}
use Rattle.journal.proofs.Calling.{calls_only}
use Rattle.journal.proofs.places.Places.{next_within, next_rest}

-- What was read up to a place, from x on: with any calls of what is left it makes the calls of the journal.
pub record ReadTo (x : Left) (s : List ℕ) (y : Left) (at : ℕ) : Type 0 where
  pub within : at ≤ length s
  pub more : (cs : List Call) (z : Left) → Calls y.book y.marks y.second y.preview (drop at s) cs z.book z.marks z.second z.preview → LeavesFrom x s z

pub to_none : (x : Left) (s : List ℕ) → ReadTo x s x 0
to_none x s = record { within = omega arith; more = λ cs z h. record { calls = cs; made = h } }

module _ (s : List ℕ) {x y : Left} (at : ℕ) (R : ReadTo x s y at) where
  -- one call more
  pub to_next : (r : Answered) (m k v : List ℕ) (to : ℕ) → at < length s → Called y.book y.marks y.second y.preview (drop at s) r m k v → to ≡ next_place (length s) at r.used →
      ReadTo x s (record { book = r.book; marks = m; second = k; preview = v }) to
  to_next r m k v to l C e =
      record {
        within = omega (arith, e, next_within s at r.used);
        more = λ cs z h.
            R.more
            (record { record' = drop at s; before = y.book; marks = y.marks; second = y.second; preview = y.preview; gave = r; left = m; left_second = k; left_preview = v } ∷ cs) z
            (then (drop at s) r m k v (omega (arith, length-drop at s)) C
            (subst (λ (t : List ℕ). Calls r.book m k v t cs z.book z.marks z.second z.preview) (ap (λ (i : ℕ). drop i s) e ∙ next_rest s at r.used) h));
      }

  -- at the end nothing is left
  pub to_end : length s ≤ at → LeavesFrom x s y
  to_end l =
      R.more [] y
      (subst (λ (t : List ℕ). Calls y.book y.marks y.second y.preview t [] y.book y.marks y.second y.preview) (sym (drop_of_length-le s {i = at} l)) ended)

-- What a journal leaves of a fresh book and of buffers that are 0 is what it leaves.
pub from_fresh : {x y : Left} {s : List ℕ} → x ≡ fresh_left → LeavesFrom x s y → Leaves s y.book y.marks y.second y.preview
from_fresh {x} {y} {s} e R = let r = subst (λ (l : Left). LeavesFrom l s y) e R in record { calls = r.calls; made = r.made }

-- A journal leaves one book, marks and preview buffer only.
pub leaves_only : (s : List ℕ) (b c : Book) (m n k l v w : List ℕ) → Leaves s b m k v → Leaves s c n l w → (b ≡ c) × (m ≡ n) × (k ≡ l) × (v ≡ w)
leaves_only s b c m n k l v w x y = let e = calls_only x.made y.made in (e.1, e.2, e.3, e.4)
