-- The pieces of a line, joined, are what is said of an answer.
use Prim.Native.Nat.{ℕ}
use mathlib.Core.Path.{◌≡◌, sym, ap, ◌∙◌}
use mathlib.Core.List.{List, ◌∷◌, ◌++◌, append_assoc}
use Rattle.frames.specs.declared.Kind.{Kind}
use Rattle.frames.specs.Frames.{letters_of}
use Rattle.marks.specs.declared.Counts.{Counts}
use Rattle.marks.specs.Counts.{ones}
use Rattle.bookform.specs.declared.answer.Answer.{Answer}
use Rattle.bookform.specs.declared.answer.Answer.TheVariants as answer
use Rattle.lines.specs.Decimals.{decimal}
use Rattle.lines.specs.Words.{space, newline, refused_word, end_word, marks_word}
use Rattle.lines.specs.declared.Line.TheVariants as line
use Rattle.lines.specs.declared.Said.{Said}
use Rattle.lines.specs.declared.Said.TheVariants as says
use Rattle.lines.specs.Pieces.{said_pieces, line_pieces, Carries}
use Rattle.lines.proofs.Joining.{each_joined, joined_cons, joined_none}
use Rattle.journal.specs.Lines.{letters_in, said, line_of, end_of, refused_line, Says}
use Rattle.sorts.specs.declared.Refusal.{Refusal}
use Rattle.sorts.specs.Refusals.{refusal_number}

-- what is said of an answer
pub changed_joined : (s : List ℕ) (k : Kind) (c : Counts) → letters_of k ≡ letters_in s → Says s (answer.Changed c) (says.Changed k c)
unfolding said said_pieces
changed_joined s k c e = simp (joined_cons, each_joined, joined_none, e, append_assoc)

-- "The listing prints PV like WD."
pub previewed_joined : (s : List ℕ) (k : Kind) (c : Counts) → letters_of k ≡ letters_in s → Says s (answer.Previewed c) (says.Changed k c)
unfolding said said_pieces
previewed_joined s k c e = simp (joined_cons, each_joined, joined_none, e, append_assoc)

pub permitted_joined : (s : List ℕ) (k : Kind) → letters_of k ≡ letters_in s → Says s answer.Permitted (says.Permitted k)
unfolding said said_pieces
permitted_joined s k e = simp (joined_cons, joined_none, e, append_assoc)

pub open_joined : (s : List ℕ) (k : Kind) → letters_of k ≡ letters_in s → Says s answer.Open (says.Open k)
unfolding said said_pieces
open_joined s k e = simp (joined_cons, joined_none, e, append_assoc)

pub not_permitted_joined : (s : List ℕ) (k : Kind) → letters_of k ≡ letters_in s → Says s answer.NotPermitted (says.NotPermitted k)
unfolding said said_pieces
not_permitted_joined s k e = simp (joined_cons, joined_none, e, append_assoc)

pub refusal_joined : (s : List ℕ) (k : Refusal) → Says s (answer.Refused k) (says.Refused k)
unfolding said said_pieces
refusal_joined s k = simp (joined_cons, each_joined, joined_none, append_assoc)

line_is : (n : ℕ) (s : List ℕ) (a : Answer) → line_of n s a ≡ decimal n ++ (space ++ (said s a ++ newline))
unfolding line_of
line_is n s a = simp append_assoc

end_is : (n : ℕ) (m : List ℕ) → end_of n m ≡ end_word ++ (decimal n ++ (marks_word ++ (decimal (ones m) ++ newline)))
unfolding end_of
end_is n m = simp append_assoc

refused_is : (k : ℕ) → refused_line k ≡ refused_word ++ (decimal k ++ newline)
unfolding refused_line
refused_is k = simp append_assoc

-- THE PIECES of a line, joined, are the line.
pub record_joined : (n : ℕ) (s : List ℕ) (a : Answer) (r : Said) → Says s a r → Carries (line.Record n r) (line_of n s a)
unfolding line_pieces
record_joined n s a r e =
    record {
      text =
          each_joined (decimal n) (space ∷ said_pieces r) ∙
          ap (λ (x : List ℕ). decimal n ++ x) (joined_cons space (said_pieces r) ∙ ap (λ (x : List ℕ). space ++ x) e) ∙
          sym (line_is n s a);
    }

pub end_joined : (n k : ℕ) (m : List ℕ) → k ≡ ones m → Carries (line.End n k) (end_of n m)
unfolding line_pieces
end_joined n k m e = record { text = simp (joined_cons, each_joined, joined_none, e) (sym (end_is n m)) }

pub refused_joined : (k : Refusal) → Carries (line.Refused k) (refused_line (refusal_number k))
unfolding line_pieces
refused_joined k = record { text = simp (joined_cons, each_joined, joined_none) (sym (refused_is (refusal_number k))) }
