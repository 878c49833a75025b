-- A frame has its bytes, and these bytes have that frame, whatever follows.
use Prim.Native.Nat.{ℕ, ◌+◌, ◌/◌, ◌%◌, ◌≤◌}
use mathlib.Core.Path.{◌≡◌, refl, sym, ap, ◌∙◌}
use mathlib.Core.Bool.{Bool, true, false, cond}
use mathlib.Core.List.{List, [], ◌∷◌, ◌++◌}
use mathlib.Core.Logic.{◌⊎◌, inl, inr}
use native.Mathlib.Omega.{arith}
use lib.ListN.{length, take, drop, length-append, take-append-drop}
use lib.Seq.{length-take-le, take_at}
use lib.Dec.{leb}
use borrow.Author.Tests.{leb-true, le-leb}
use Rattle.frames.specs.declared.Kind.{Kind}
use Rattle.frames.specs.Bytes.{Outcome, got, refused}
use Rattle.frames.specs.Frames.{letters_of, kinds, kind_with, stated, Frame, holds, ends, sized, marked, frame, frame_length, extent}
use Rattle.exact.specs.Writing.{in_frame}
use Rattle.frames.proofs.Letters.{first, second, two_letters, kind_again, kind_letters, kind_none, letters_read, mark_none, mark_one}
use Rattle.sorts.specs.declared.Refusal.TheVariants as refusal
use Rattle.sorts.specs.declared.Refusal.{Refusal}

-- The bytes of a frame that holds the content c, with others after them.
pub record Opens (s : List ℕ) (k : Kind) (c : List ℕ) : Type 0 where
  pub a : ℕ
  pub b : ℕ
  pub high : ℕ
  pub low : ℕ
  pub after : List ℕ
  pub mark : kind_with kinds a b 2 ≡ got k 2
  pub letters : a ∷ b ∷ [] ≡ letters_of k
  pub size : stated high low ≡ length c
  pub bytes : s ≡ a ∷ b ∷ high ∷ low ∷ (c ++ after)

no_frame : {A : Type 0} (f : Frame) (j : Refusal) (k : Kind) (c : List ℕ) → f ≡ ends j → f ≡ holds k c → A
no_frame f j k c p e = let z : ends j ≡ holds k c = sym p ∙ e in let w : ◌≡◌ {A = ℕ} 0 1 = cc in absurd (omega arith)

pub frame_none : frame [] ≡ ends refusal.Missing
unfolding frame
frame_none = ap (λ (o : Outcome Kind). marked o []) mark_none

pub frame_one : (a : ℕ) → frame (a ∷ []) ≡ ends refusal.Missing
unfolding frame
frame_one a = ap (λ (o : Outcome Kind). marked o (a ∷ [])) (mark_one a)

-- after two letters
pub after_letters : (a b : ℕ) (s : List ℕ) → frame (a ∷ b ∷ s) ≡ marked (kind_with kinds a b 2) (a ∷ b ∷ s)
unfolding frame
after_letters a b s = ap (λ (o : Outcome Kind). marked o (a ∷ b ∷ s)) (letters_read a b s)

-- after those of a kind
pub letters_frame : (k : Kind) (s : List ℕ) → frame (letters_of k ++ s) ≡ sized k s
letters_frame k s = rw (two_letters k) (after_letters (first k) (second k) s ∙ ap (λ (o : Outcome Kind). marked o (first k ∷ second k ∷ s)) (kind_again k 2))

pub frame_opens : (s : List ℕ) (k : Kind) (c : List ℕ) → frame s ≡ holds k c → Opens s k c
frame_opens [] k c e = no_frame (frame []) refusal.Missing k c frame_none e
frame_opens (a ∷ []) k c e = no_frame (frame (a ∷ [])) refusal.Missing k c (frame_one a) e
frame_opens (a ∷ b ∷ s) k c e = go (kind_with kinds a b 2) refl (sym (after_letters a b s) ∙ e)
  where
    fits : (high low : ℕ) (t : List ℕ) (d : Kind) (v : Bool) → leb (stated high low) (length t) ≡ v → kind_with kinds a b 2 ≡ got d 2 →
        cond v (holds d (take (stated high low) t)) (ends refusal.Missing) ≡ holds k c → Opens (a ∷ b ∷ high ∷ low ∷ t) k c
    fits high low t d false q m e = no_frame (ends refusal.Missing) refusal.Missing k c refl e
    fits high low t d true q m e =
        let l : stated high low ≤ length t = leb-true (stated high low) (length t) q in
        let w : take (stated high low) t ≡ c = cc in
        let g : d ≡ k = cc in
        record {
          a = a;
          b = b;
          high = high;
          low = low;
          after = drop (stated high low) t;
          mark = m ∙ ap (λ (x : Kind). got x 2) g;
          letters = (kind_letters kinds a b 2 d 2 m).0 ∙ ap letters_of g;
          size = sym (length-take-le (stated high low) t l) ∙ ap length w;
          bytes = ap (λ (z : List ℕ). a ∷ b ∷ high ∷ low ∷ z) (sym (take-append-drop (stated high low) t) ∙ ap (λ (z : List ℕ). z ++ drop (stated high low) t) w);
        }

    rest : (d : Kind) (t : List ℕ) → kind_with kinds a b 2 ≡ got d 2 → sized d t ≡ holds k c → Opens (a ∷ b ∷ t) k c
    rest d [] m e = no_frame (ends refusal.Missing) refusal.Missing k c refl e
    rest d (x ∷ []) m e = no_frame (ends refusal.Missing) refusal.Missing k c refl e
    rest d (high ∷ low ∷ t) m e = fits high low t d (leb (stated high low) (length t)) refl m e

    go : (o : Outcome Kind) → kind_with kinds a b 2 ≡ o → marked o (a ∷ b ∷ s) ≡ holds k c → Opens (a ∷ b ∷ s) k c
    go (refused j) m e = no_frame (ends j) j k c refl e
    go (got d n) m e =
        let n2 : n ≡ 2 = (kind_letters kinds a b 2 d n m).1 in
        rest d s (m ∙ ap (got d) n2) (sym (ap (λ (i : ℕ). sized d (drop i (a ∷ b ∷ s))) n2) ∙ e)

-- bytes in a frame are read as that frame, whatever follows
pub opens_frame : (a b high low : ℕ) (k : Kind) (c y : List ℕ) → kind_with kinds a b 2 ≡ got k 2 → stated high low ≡ length c → frame (a ∷ b ∷ high ∷ low ∷ (c ++ y)) ≡ holds k c
opens_frame a b high low k c y p q =
    let l : length c ≤ length (c ++ y) = omega (arith, length-append c y) in
    after_letters a b (high ∷ low ∷ (c ++ y)) ∙ rw (p, q, le-leb (length c) (length (c ++ y)) l, take_at c y (length c) refl)

-- The frame at the front of s, in its own bytes.
pub record Apart (s : List ℕ) (k : Kind) (c : List ℕ) : Type 0 where
  pub own : List ℕ
  pub after : List ℕ
  pub bytes : s ≡ own ++ after
  pub long : length own ≡ 4 + length c
  pub again : (y : List ℕ) → frame (own ++ y) ≡ holds k c

pub frame_apart : (s : List ℕ) (k : Kind) (c : List ℕ) → frame s ≡ holds k c → Apart s k c
frame_apart s k c e =
    let o = frame_opens s k c e in
    record {
      own = o.a ∷ o.b ∷ o.high ∷ o.low ∷ c;
      after = o.after;
      bytes = o.bytes;
      long = omega arith;
      again = λ y. opens_frame o.a o.b o.high o.low k c y o.mark o.size;
    }

-- a content that was put in a frame
pub in_frame_lem : (k : Kind) (c y : List ℕ) → frame (in_frame k c ++ y) ≡ holds k c
unfolding in_frame
in_frame_lem k c y =
    let size : stated (length c / 256) (length c % 256) ≡ length c = omega arith in
    rw (two_letters k) (opens_frame (first k) (second k) (length c / 256) (length c % 256) k c y (kind_again k 2) size)

pub in_frame_length : (k : Kind) (c : List ℕ) → length (in_frame k c) ≡ 4 + length c
unfolding in_frame
in_frame_length k c = rw (two_letters k) (omega arith)

-- a frame's own refusals are 1 and 2
pub ends_numbers : (s : List ℕ) (j : Refusal) → frame s ≡ ends j → (j ≡ refusal.Missing) ⊎ (j ≡ refusal.Mark)
ends_numbers [] j e = inl (let z : ends refusal.Missing ≡ ends j = sym frame_none ∙ e in let w : refusal.Missing ≡ j = cc in sym w)
ends_numbers (a ∷ []) j e = inl (let z : ends refusal.Missing ≡ ends j = sym (frame_one a) ∙ e in let w : refusal.Missing ≡ j = cc in sym w)
ends_numbers (a ∷ b ∷ s) j e = go (kind_with kinds a b 2) refl (sym (after_letters a b s) ∙ e)
  where
    one : ends refusal.Missing ≡ ends j → (j ≡ refusal.Missing) ⊎ (j ≡ refusal.Mark)
    one e = let w : refusal.Missing ≡ j = cc in inl (sym w)

    fits : (v : Bool) (d : Kind) (c : List ℕ) → cond v (holds d c) (ends refusal.Missing) ≡ ends j → (j ≡ refusal.Missing) ⊎ (j ≡ refusal.Mark)
    fits true d c e = let w : ◌≡◌ {A = ℕ} 0 1 = cc in absurd (omega arith)
    fits false d c e = one e

    rest : (d : Kind) (t : List ℕ) → sized d t ≡ ends j → (j ≡ refusal.Missing) ⊎ (j ≡ refusal.Mark)
    rest d [] e = one e
    rest d (x ∷ []) e = one e
    rest d (high ∷ low ∷ t) e = fits (leb (stated high low) (length t)) d (take (stated high low) t) e

    go : (o : Outcome Kind) → kind_with kinds a b 2 ≡ o → marked o (a ∷ b ∷ s) ≡ ends j → (j ≡ refusal.Missing) ⊎ (j ≡ refusal.Mark)
    go (got d n) m e = rest d (drop n (a ∷ b ∷ s)) e
    go (refused i) m e = let w : i ≡ j = cc in inr (sym w ∙ kind_none kinds a b 2 i m)

-- The bytes that a record uses, where it has a frame, and where the reading ends.
pub extent_holds : (s : List ℕ) (k : Kind) (c : List ℕ) → frame s ≡ holds k c → extent s ≡ 4 + length c
unfolding extent
extent_holds s k c e = ap frame_length e

pub extent_ends : (s : List ℕ) (j : Refusal) → frame s ≡ ends j → extent s ≡ 0
unfolding extent
extent_ends s j e = ap frame_length e
