-- What is left to read after a record, and the place where it starts.
use Prim.Native.Nat.{ℕ, ◌+◌, ◌≤◌, ◌<◌, min}
use mathlib.Core.Path.{◌≡◌, sym, ap, ◌∙◌}
use mathlib.Core.List.{List, []}
use native.Mathlib.Omega.{arith}
use native.Mathlib.Decide.{ℕ_discrete, dec_lt}
use borrow.Author.Tests.{eq-eqb, ne_eqb}
use lib.ListN.{length, drop, drop_of_length-le}
use lib.Seq.{drop-drop}
use Rattle.journal.specs.Places.{rest_after, next_place}

pub rest_none : (used : ℕ) (t : List ℕ) → used ≡ 0 → rest_after used t ≡ []
unfolding rest_after
rest_none used t e = rw (eq-eqb used 0 e)

pub rest_some : (used : ℕ) (t : List ℕ) → (used ≡ 0 → ⊥) → rest_after used t ≡ drop used t
unfolding rest_after
rest_some used t d = rw (ne_eqb used 0 d)

module _ (s : List ℕ) (at used : ℕ) where
  next_none : used ≡ 0 → next_place (length s) at used ≡ length s
  unfolding next_place
  next_none e = rw (eq-eqb used 0 e)

  next_some : (used ≡ 0 → ⊥) → next_place (length s) at used ≡ min (length s) (at + used)
  unfolding next_place
  next_some d = rw (ne_eqb used 0 d)

  pub next_within : next_place (length s) at used ≤ length s
  next_within = go (ℕ_discrete used 0)
    where
      go : Dec (used ≡ 0) → next_place (length s) at used ≤ length s
      go (yes e) = omega (arith, next_none e)
      go (no d) = omega (arith, next_some d)

  pub next_further : at < length s → at < next_place (length s) at used
  next_further l = go (ℕ_discrete used 0)
    where
      go : Dec (used ≡ 0) → at < next_place (length s) at used
      go (yes e) = omega (arith, next_none e)
      go (no d) = omega (arith, next_some d)

  -- what is left at the next place is what is left after the record
  pub next_rest : drop (next_place (length s) at used) s ≡ rest_after used (drop at s)
  next_rest = go (ℕ_discrete used 0)
    where
      past : (k : ℕ) → length s ≤ at + used → length s ≤ k → drop k s ≡ drop used (drop at s)
      past k l h = drop_of_length-le s {i = k} h ∙ sym (drop-drop used at s ∙ drop_of_length-le s {i = at + used} l)

      some : Dec (at + used < length s) → drop (min (length s) (at + used)) s ≡ drop used (drop at s)
      some (yes h) = let e : min (length s) (at + used) ≡ at + used = omega arith in ap (λ (k : ℕ). drop k s) e ∙ sym (drop-drop used at s)
      some (no h) = past (min (length s) (at + used)) (omega arith) (omega arith)

      go : Dec (used ≡ 0) → drop (next_place (length s) at used) s ≡ rest_after used (drop at s)
      go (yes e) = ap (λ (k : ℕ). drop k s) (next_none e) ∙ drop_of_length-le s {i = length s} (omega arith) ∙ sym (rest_none used (drop at s) e)
      go (no d) = ap (λ (k : ℕ). drop k s) (next_some d) ∙ some (dec_lt (at + used) (length s)) ∙ sym (rest_some used (drop at s) d)
