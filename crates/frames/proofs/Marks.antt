-- The two mark bytes.
use Prim.Native.Nat.{ℕ, ◌+◌, ◌<◌, ◌≤◌}
use mathlib.Core.Path.{◌≡◌, refl, sym, ap, ◌∙◌}
use mathlib.Core.Bool.{Bool, true, false, cond}
use mathlib.Core.List.{List, [], ◌∷◌}
use native.Mathlib.Omega.{arith}
use lib.ListN.{length, get_or}
use Rattle.std.specs.Prelude.{Ok, Err, Option, None, Some}
use Rattle.std.specs.List.{find}
use Rattle.std.specs.Option.{ok_or}
use lib.Dec.{ltb}
use borrow.Author.Tests.{lt-ltb, le-ltb}
use Rattle.frames.specs.declared.Kind.{Kind}
use Rattle.sorts.specs.declared.Refusal.{Refusal}
use Rattle.sorts.specs.declared.Refusal.TheVariants.{Missing, Mark}
use Rattle.frames.specs.Bytes.{Outcome, got, refused, and_then, as_result, byte_at}
use Rattle.frames.specs.Frames.{kinds, opens, kind_with, read_mark}
use Rattle.frames.specs.Inner.Told.{Names}

-- Looking a kind up, as the library finds the first of a list that passes a test.
abbrev outcome : ℕ → Option Kind → Outcome Kind
outcome n None = refused Mark
outcome n (Some k) = got k n

kind_found : (ks : List Kind) (a b n : ℕ) → kind_with ks a b n ≡ outcome n (find (λ k. opens k a b) ks)
unfolding kind_with
kind_found [] a b n = refl
kind_found (k ∷ ks) a b n = go (opens k a b) (kind_found ks a b n)
  where
    go : (t : Bool) → kind_with ks a b n ≡ outcome n (find (λ j. opens j a b) ks) → cond t (got k n) (kind_with ks a b n) ≡ outcome n (cond t (Some k) (find (λ j. opens j a b) ks))
    go true e = refl
    go false e = e

-- what is found among all kinds is the kind that the letters say
pub found_names : (l : List ℕ) (o : Option Kind) → o ≡ find (λ k. opens k (get_or l 0 0) (get_or l 1 0)) kinds → Names l (ok_or o Mark)
found_names l None e = kind_found kinds (get_or l 0 0) (get_or l 1 0) 2 ∙ ap (outcome 2) (sym e)
found_names l (Some k) e = kind_found kinds (get_or l 0 0) (get_or l 1 0) 2 ∙ ap (outcome 2) (sym e)

-- fewer than two bytes
pub mark_short : (s : List ℕ) → length s < 2 → Err Missing ≡ as_result (read_mark s)
unfolding read_mark byte_at
mark_short s l = go (ltb 0 (length s)) refl
  where
    go : (b : Bool) → ltb 0 (length s) ≡ b → Err Missing ≡ as_result (and_then (cond (ltb 0 (length s)) (got (get_or s 0 0) (0 + 1)) (refused Missing)) (λ a n1. and_then (cond (ltb n1 (length s)) (got (get_or s n1 0) (n1 + 1)) (refused Missing)) (λ b n2. kind_with kinds a b n2)))
    go true h = rw (h, le-ltb 1 (length s) (omega arith))
    go false h = rw h

pub mark_long : (s : List ℕ) (o : Outcome Kind) → 2 ≤ length s → kind_with kinds (get_or s 0 0) (get_or s 1 0) 2 ≡ o → read_mark s ≡ o
unfolding read_mark byte_at
mark_long s o l e = rw (lt-ltb 0 (length s) (omega arith), lt-ltb 1 (length s) (omega arith)) e

-- An answer of the code tells what the definition found.
pub mark_got : (o : Outcome Kind) (k : Kind) (n : ℕ) → as_result o ≡ Ok (k, n) → o ≡ got k n
mark_got (got j m) k n e = let p : ◌≡◌ {A = Kind × ℕ} (j, m) (k, n) = cc in λ i. got (p i).0 (p i).1
mark_got (refused j) k n e = cc

pub mark_no : (o : Outcome Kind) (k : Refusal) → as_result o ≡ Err k → o ≡ refused k
mark_no (got j m) k e = cc
mark_no (refused j) k e = cc
