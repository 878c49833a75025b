-- The frame of a record, as the code reads it by places.
use Prim.Native.Nat.{ℕ, ◌+◌, ◌-◌, ◌<◌, ◌≤◌}
use mathlib.Core.Path.{◌≡◌, refl, sym, ap, subst, ◌∙◌}
use mathlib.Core.Bool.{Bool, true, false, cond}
use mathlib.Core.List.{List, [], ◌∷◌}
use mathlib.Core.Logic.{◌⊎◌, inl, inr}
use native.Mathlib.Omega.{arith}
use lib.ListN.{length, get_or, take, drop}
use Rattle.std.specs.Prelude.{Result, Ok, Err}
use Rattle.std.specs.Borrow.{Bor}
use lib.Dec.{ltb}
use borrow.Author.Tests.{le-leb, lt-leb}
use Rattle.frames.specs.declared.Kind.{Kind}
use Rattle.sorts.specs.declared.Refusal.{Refusal}
use Rattle.sorts.specs.declared.Refusal.TheVariants.{Missing}
use Rattle.frames.specs.Bytes.{Outcome, got, refused, and_then, as_result, byte_at}
use Rattle.frames.specs.Frames.{kinds, opens, kind_with, read_mark, stated, holds, ends, sized, marked, frame}
use Rattle.frames.specs.Inner.Told.{Framed}
use Rattle.frames.proofs.Marks.{mark_got, mark_no}

-- too few bytes for the length
pub length_short : (k : Kind) (s : List ℕ) → length s < 4 → sized k (drop 2 s) ≡ ends Missing
length_short k [] l = refl
length_short k (a ∷ []) l = refl
length_short k (a ∷ b ∷ []) l = refl
length_short k (a ∷ b ∷ high ∷ []) l = refl
length_short k (a ∷ b ∷ high ∷ low ∷ s) l = absurd (omega arith)

-- the stated length is beyond the input
pub length_beyond : (k : Kind) (s : List ℕ) (len : ℕ) → len ≡ stated (get_or s 2 0) (get_or s 3 0) → length s - 4 < len → 4 ≤ length s → sized k (drop 2 s) ≡ ends Missing
length_beyond k [] len e l h = absurd (omega arith)
length_beyond k (a ∷ []) len e l h = absurd (omega arith)
length_beyond k (a ∷ b ∷ []) len e l h = absurd (omega arith)
length_beyond k (a ∷ b ∷ high ∷ []) len e l h = absurd (omega arith)
length_beyond k (a ∷ b ∷ high ∷ low ∷ s) len e l h = let i : length s < stated high low = omega arith in rw (lt-leb (stated high low) (length s) i)

-- or it is there
pub length_there : (k : Kind) (s : List ℕ) (len : ℕ) → len ≡ stated (get_or s 2 0) (get_or s 3 0) → len ≤ length s - 4 → 4 ≤ length s → sized k (drop 2 s) ≡ holds k (take len (drop 4 s))
length_there k [] len e l h = absurd (omega arith)
length_there k (a ∷ []) len e l h = absurd (omega arith)
length_there k (a ∷ b ∷ []) len e l h = absurd (omega arith)
length_there k (a ∷ b ∷ high ∷ []) len e l h = absurd (omega arith)
length_there k (a ∷ b ∷ high ∷ low ∷ s) len e l h =
    let i : stated high low ≤ length s = omega arith in
    rw (le-leb (stated high low) (length s) i) (ap (λ (n : ℕ). holds k (take n s)) (sym e))

-- A kind is read at the place after its two letters.
after_kind : (ks : List Kind) (a b n : ℕ) (k : Kind) (m : ℕ) → kind_with ks a b n ≡ got k m → m ≡ n
unfolding kind_with
after_kind [] a b n k m e = let z : ◌≡◌ {A = ℕ} 0 1 = cc in absurd (omega arith)
after_kind (j ∷ ks) a b n k m e = go (opens j a b) (after_kind ks a b n k m) e
  where
    go : (t : Bool) → (kind_with ks a b n ≡ got k m → m ≡ n) → cond t (got j n) (kind_with ks a b n) ≡ got k m → m ≡ n
    go true h e = cc
    go false h e = h e

-- a byte at a place, or none
byte_place : (s : List ℕ) (at : ℕ) → (byte_at s at ≡ got (get_or s at 0) (at + 1)) ⊎ (byte_at s at ≡ refused Missing)
unfolding byte_at
byte_place s at = go (ltb at (length s))
  where
    go : (t : Bool) → (cond t (got (get_or s at 0) (at + 1)) (refused Missing) ≡ got (get_or s at 0) (at + 1)) ⊎ (cond t (got (get_or s at 0) (at + 1)) (refused Missing) ≡ refused Missing)
    go true = inl refl
    go false = inr refl

mark_place : (s : List ℕ) (k : Kind) (m : ℕ) → read_mark s ≡ got k m → m ≡ 2
unfolding read_mark
mark_place s k m e = go (byte_place s 0) (byte_place s 1)
  where
    never : (j : Refusal) → read_mark s ≡ refused j → m ≡ 2
    never j h = let z : refused j ≡ got k m = sym h ∙ e in let y : ◌≡◌ {A = ℕ} 0 1 = cc in absurd (omega arith)

    after : ℕ → ℕ → Outcome Kind
    after a n1 = and_then (byte_at s n1) (λ b n2. kind_with kinds a b n2)

    go : (byte_at s 0 ≡ got (get_or s 0 0) 1) ⊎ (byte_at s 0 ≡ refused Missing) → (byte_at s 1 ≡ got (get_or s 1 0) 2) ⊎ (byte_at s 1 ≡ refused Missing) → m ≡ 2
    go (inl p) (inl q) =
        let h : read_mark s ≡ kind_with kinds (get_or s 0 0) (get_or s 1 0) 2 = ap (λ (o : Outcome ℕ). and_then o after) p ∙ ap (λ (o : Outcome ℕ). and_then o (λ b n2. kind_with kinds (get_or s 0 0) b n2)) q in
        after_kind kinds (get_or s 0 0) (get_or s 1 0) 2 k m (sym h ∙ e)
    go (inl p) (inr q) = never Missing (ap (λ (o : Outcome ℕ). and_then o after) p ∙ ap (λ (o : Outcome ℕ). and_then o (λ b n2. kind_with kinds (get_or s 0 0) b n2)) q)
    go (inr p) q = never Missing (ap (λ (o : Outcome ℕ). and_then o after) p)

-- What the code says of the mark, and of the length after it, is the frame.
pub frame_no : (s : List ℕ) (j : Refusal) → as_result (read_mark s) ≡ Err j → frame s ≡ ends j
unfolding frame
frame_no s j e = ap (λ (o : Outcome Kind). marked o s) (mark_no (read_mark s) j e)

frame_got : (s : List ℕ) (k : Kind) (n : ℕ) → as_result (read_mark s) ≡ Ok (k, n) → frame s ≡ sized k (drop 2 s)
unfolding frame
frame_got s k n e =
    let g = mark_got (read_mark s) k n e in
    ap (λ (o : Outcome Kind). marked o s) g ∙ ap (λ (m : ℕ). sized k (drop m s)) (mark_place s k n g)

pub frame_opens : (s : List ℕ) (k : Kind) (n : ℕ) (r : Result (Kind × Bor (List ℕ)) Refusal) → as_result (read_mark s) ≡ Ok (k, n) → Framed (sized k (drop 2 s)) r → Framed (frame s) r
frame_opens s k n r e h = subst (λ f. Framed f r) (sym (frame_got s k n e)) h
