-- What a call and a line say of the part of a journal from a place to its end.
use Prim.Native.Nat.{ℕ, ◌-◌}
use mathlib.Core.Path.{subst}
use mathlib.Core.List.{List}
use native.Mathlib.Omega.{arith}
use lib.ListN.{length, take, drop, length-drop}
use lib.Seq.{take_all}
use Rattle.bookform.specs.declared.Book.{Book}
use Rattle.bookform.specs.declared.answer.Answer.{Answer}
use Rattle.bookform.specs.declared.answer.Answered.{Answered}
use Rattle.book.specs.Calls.{Called}
use Rattle.lines.specs.declared.Line.{Line}
use Rattle.lines.specs.Pieces.{Carries}
use Rattle.journal.specs.Lines.{line_of}

pub call_rest : {b : Book} {m k v : List ℕ} (s : List ℕ) (at : ℕ) {r : Answered} {n l w : List ℕ} → Called b m k v (take (length s - at) (drop at s)) r n l w →
    Called b m k v (drop at s) r n l w
call_rest {b} {m} {k} {v} s at {r} {n} {l} {w} h =
    subst (λ (x : List ℕ). Called b m k v x r n l w) (take_all (length s - at) (drop at s) (omega (arith, length-drop at s))) h

pub line_rest : (n : ℕ) (s : List ℕ) (at : ℕ) (a : Answer) {t : Line} → Carries t (line_of n (take (length s - at) (drop at s)) a) → Carries t (line_of n (drop at s) a)
line_rest n s at a {t} h = subst (λ (x : List ℕ). Carries t (line_of n x a)) (take_all (length s - at) (drop at s) (omega (arith, length-drop at s))) h
