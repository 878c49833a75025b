-- The pieces of a line: what they are, joined, and that none is empty.
use Prim.Native.Nat.{ℕ, zero, suc, ◌<◌}
use mathlib.Core.Path.{◌≡◌, refl, sym, ap, subst}
use mathlib.Core.List.{List, [], ◌∷◌, ◌++◌}
use native.Mathlib.Omega.{arith}
use lib.ListN.{length, get_or}
use Rattle.sorts.specs.Refusals.{refusal_number}
use Rattle.frames.specs.declared.Kind.{Kind}
use Rattle.frames.specs.Frames.{letters_of}
use Rattle.frames.proofs.Letters.{two_letters}
use Rattle.lines.specs.Decimals.{decimal}
use Rattle.lines.specs.Words.{newline}
use Rattle.lines.specs.declared.Line.{Line}
use Rattle.lines.specs.declared.Line.TheVariants as line
use Rattle.lines.specs.declared.Said.{Said}
use Rattle.lines.specs.declared.Said.TheVariants as says
use Rattle.lines.specs.Numerals.{each, last_number}
use Rattle.lines.specs.Pieces.{said_pieces, line_pieces, joined}

pub each_joined : (xs : List ℕ) (ps : List (List ℕ)) → joined (each xs ++ ps) ≡ xs ++ joined ps
unfolding each joined
each_joined [] ps = refl
each_joined (x ∷ xs) ps = ap (λ (l : List ℕ). x ∷ l) (each_joined xs ps)

pub joined_cons : (p : List ℕ) (ps : List (List ℕ)) → joined (p ∷ ps) ≡ p ++ joined ps
unfolding joined
joined_cons p ps = refl

pub joined_none : joined [] ≡ []
unfolding joined
joined_none = refl

-- No piece of a line is empty.
Full : List (List ℕ) → Type 0
Full ps = (i : ℕ) → i < length ps → get_or ps i [] ≡ [] → ⊥

none_full : Full []
unfolding Full
none_full i l e = omega arith

cons_full : (b : ℕ) (bs : List ℕ) (ps : List (List ℕ)) → Full ps → Full ((b ∷ bs) ∷ ps)
unfolding Full
cons_full b bs ps F zero l e = let z : ◌≡◌ {A = ℕ} 0 1 = cc in omega arith
cons_full b bs ps F (suc i) l e = F i (omega arith) e

each_full : (xs : List ℕ) (ps : List (List ℕ)) → Full ps → Full (each xs ++ ps)
unfolding each
each_full [] ps F = F
each_full (x ∷ xs) ps F = cons_full x [] _ (each_full xs ps F)

letters_full : (k : Kind) (ps : List (List ℕ)) → Full ps → Full (letters_of k ∷ ps)
letters_full k ps F = subst (λ (x : List ℕ). Full (x ∷ ps)) (sym (two_letters k)) (cons_full _ _ ps F)

last_full : (n : ℕ) → Full (last_number n)
last_full n = each_full (decimal n) (newline ∷ []) (cons_full _ _ [] none_full)

said_full : (s : Said) → Full (said_pieces s)
unfolding said_pieces
said_full (says.Changed k c) = letters_full k _ (cons_full _ _ _ (each_full _ _ (cons_full _ _ _ (each_full _ _ (cons_full _ _ [] none_full)))))
said_full (says.Permitted k) = letters_full k _ (cons_full _ _ _ (cons_full _ _ [] none_full))
said_full (says.Open k) = letters_full k _ (cons_full _ _ _ (cons_full _ _ [] none_full))
said_full (says.NotPermitted k) = letters_full k _ (cons_full _ _ _ (cons_full _ _ [] none_full))
said_full (says.Refused k) = cons_full _ _ _ (last_full (refusal_number k))

line_full : (l : Line) → Full (line_pieces l)
unfolding line_pieces
line_full (line.Record n s) = each_full (decimal n) _ (cons_full _ _ _ (said_full s))
line_full (line.End n m) = cons_full _ _ _ (each_full (decimal n) _ (cons_full _ _ _ (last_full m)))
line_full (line.Refused k) = cons_full _ _ _ (last_full (refusal_number k))

pub piece_some : (l : Line) (i : ℕ) → i < length (line_pieces l) → get_or (line_pieces l) i [] ≡ [] → ⊥
unfolding Full
piece_some l i h e = line_full l i h e
