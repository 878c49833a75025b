-- A record's kind tells its letters.
use Prim.Native.Nat.{ℕ}
use mathlib.Core.Path.{◌≡◌, sym, ◌∙◌}
use mathlib.Core.List.{List}
use Rattle.frames.specs.declared.Kind.{Kind}
use Rattle.std.specs.Prelude.{Result, Ok}
use Rattle.sorts.specs.declared.Refusal.{Refusal}
use Rattle.frames.specs.Bytes.{as_result}
use Rattle.frames.specs.Frames.{letters_of, read_mark}
use Rattle.frames.proofs.Marks.{mark_got}
use Rattle.frames.proofs.Letters.{mark_spelt}
use Rattle.journal.specs.Lines.{letters_in}

-- where the answer of the reader tells the kind, its letters are those that the record starts with
pub told_letters : (s : List ℕ) (r : Result (Kind × ℕ) Refusal) (k : Kind) (n : ℕ) → r ≡ as_result (read_mark s) → r ≡ Ok (k, n) → letters_of k ≡ letters_in s
told_letters s r k n e f = mark_spelt s k n (mark_got (read_mark s) k n (sym e ∙ f))
