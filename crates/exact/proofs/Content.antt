-- The same bytes after the letters pv and wd are read alike: they have the same frame but for the kind, and the same content.
use Prim.Native.Nat.{ℕ, ◌+◌, ◌-◌}
use mathlib.Core.Path.{◌≡◌, refl, sym, ap, subst, ◌∙◌}
use mathlib.Core.Bool.{Bool, true, false, cond}
use mathlib.Core.List.{List, [], ◌∷◌, ◌++◌}
use lib.Dec.{eqb, leb}
use lib.ListN.{length, take}
use Rattle.sorts.specs.declared.Prin.{Prin}
use Rattle.sorts.specs.declared.Status.TheVariants.{Issued}
use Rattle.sorts.specs.Numbers.{speakers, depths}
use Rattle.sorts.specs.declared.Refusal.TheVariants as refusal
use Rattle.sorts.specs.declared.Refusal.{Refusal}
use Rattle.rows.specs.Written.{Grant}
use Rattle.frames.specs.declared.Kind.TheVariants.{Wd, Pv}
use Rattle.frames.specs.Bytes.{Outcome, got, refused, and_then, upto}
use Rattle.canon.specs.Canon.{canon}
use Rattle.grants.specs.Grants.{read_grant}
use Rattle.frames.specs.Frames.{letters_of, stated, Frame, holds, ends, sized, frame_length, extent}
use Rattle.reader.specs.Contents.{Record, enter, remove, confirm, preview, query, read_entry, read_licence, read_content, canon_record}
use Rattle.reader.specs.Records.{beyond, fitted, read_whole, framed, read_record, read_canonical}
use Rattle.exact.proofs.Framing.{letters_frame}

-- What a preview asks, as the withdrawal of the same licence.
abbrev pub as_withdrawal : Record → Record
as_withdrawal (enter by g) = enter by g
as_withdrawal (remove by g) = remove by g
as_withdrawal (confirm p g) = confirm p g
as_withdrawal (preview p g) = remove (Issued p) g
as_withdrawal (query c) = query c

abbrev pub withdrawn : Outcome Record → Outcome Record
withdrawn (got r n) = got (as_withdrawal r) n
withdrawn (refused k) = refused k

entry_withdrawn : (p : Prin) (s : List ℕ) (at : ℕ) → withdrawn (read_entry (preview p) s at) ≡ read_entry (remove (Issued p)) s at
unfolding read_entry
entry_withdrawn p s at = go (read_grant depths s at)
  where
    go : (o : Outcome Grant) → withdrawn (and_then o (λ g n. got (preview p g) n)) ≡ and_then o (λ g n. got (remove (Issued p) g) n)
    go (got g n) = refl
    go (refused k) = refl

licence_withdrawn : (s : List ℕ) (at : ℕ) → withdrawn (read_licence preview s at) ≡ read_licence (λ p. remove (Issued p)) s at
unfolding read_licence
licence_withdrawn s at = go (upto (speakers - 1) s at)
  where
    go : (o : Outcome ℕ) → withdrawn (and_then o (λ p n. read_entry (preview (record { 0 = p })) s n)) ≡ and_then o (λ p n. read_entry (remove (Issued (record { 0 = p }))) s n)
    go (got p n) = entry_withdrawn (record { 0 = p }) s n
    go (refused k) = refl

content_withdrawn : (c : List ℕ) → withdrawn (read_content Pv c) ≡ read_content Wd c
unfolding read_content
content_withdrawn c = licence_withdrawn c 0

whole_withdrawn : (c : List ℕ) → withdrawn (read_whole Pv c) ≡ read_whole Wd c
unfolding read_whole
whole_withdrawn c = go (read_content Pv c) ∙ ap (fitted (length c)) (content_withdrawn c)
  where
    ending : (r : Record) (n : ℕ) (t : Bool) → withdrawn (cond t (got r n) (refused refusal.Content)) ≡ cond t (got (as_withdrawal r) n) (refused refusal.Content)
    ending r n true = refl
    ending r n false = refl

    go : (o : Outcome Record) → withdrawn (fitted (length c) o) ≡ fitted (length c) (withdrawn o)
    go (got r n) = ending r n (eqb n (length c))
    go (refused k) = refl

-- what stands after the letters pv, as it would after wd
framed_withdrawn : (c : List ℕ) → withdrawn (framed (holds Pv c)) ≡ framed (holds Wd c)
framed_withdrawn c = go (read_whole Pv c) ∙ ap (λ (o : Outcome Record). and_then o (λ r n. got r (4 + length c))) (whole_withdrawn c)
  where
    go : (o : Outcome Record) → withdrawn (and_then o (λ r n. got r (4 + length c))) ≡ and_then (withdrawn o) (λ r n. got r (4 + length c))
    go (got r n) = refl
    go (refused k) = refl

sized_withdrawn : (s : List ℕ) → (withdrawn (framed (sized Pv s)) ≡ framed (sized Wd s)) × (frame_length (sized Pv s) ≡ frame_length (sized Wd s))
sized_withdrawn [] = (refl, refl)
sized_withdrawn (a ∷ []) = (refl, refl)
sized_withdrawn (high ∷ low ∷ s) = go (leb (stated high low) (length s)) (take (stated high low) s)
  where
    go : (t : Bool) (c : List ℕ) → (withdrawn (framed (cond t (holds Pv c) (ends refusal.Missing))) ≡ framed (cond t (holds Wd c) (ends refusal.Missing))) × (frame_length (cond t (holds Pv c) (ends refusal.Missing)) ≡ frame_length (cond t (holds Wd c) (ends refusal.Missing)))
    go true c = (framed_withdrawn c, refl)
    go false c = (refl, refl)

-- THE SAME BYTES after the letters pv and wd are read alike: the same licence, or the same fault; and as many are used.
pub same_content : (s : List ℕ) → withdrawn (read_record (letters_of Pv ++ s)) ≡ read_record (letters_of Wd ++ s)
unfolding read_record
same_content s =
    ap (λ (f : Frame). withdrawn (framed f)) (letters_frame Pv s) ∙ (sized_withdrawn s).0 ∙ sym (ap framed (letters_frame Wd s))

pub same_extent : (s : List ℕ) → extent (letters_of Pv ++ s) ≡ extent (letters_of Wd ++ s)
unfolding extent
same_extent s = ap frame_length (letters_frame Pv s) ∙ (sized_withdrawn s).1 ∙ sym (ap frame_length (letters_frame Wd s))

canon_withdrawn : (r : Record) → as_withdrawal (canon_record r) ≡ canon_record (as_withdrawal r)
canon_withdrawn (enter by g) = refl
canon_withdrawn (remove by g) = refl
canon_withdrawn (confirm p g) = refl
canon_withdrawn (preview p g) = refl
canon_withdrawn (query c) = refl

pub same_canonical : (s : List ℕ) → withdrawn (read_canonical (letters_of Pv ++ s)) ≡ read_canonical (letters_of Wd ++ s)
unfolding read_canonical
same_canonical s = go (read_record (letters_of Pv ++ s)) ∙ ap (λ (o : Outcome Record). and_then o (λ r n. got (canon_record r) n)) (same_content s)
  where
    go : (o : Outcome Record) → withdrawn (and_then o (λ r n. got (canon_record r) n)) ≡ and_then (withdrawn o) (λ r n. got (canon_record r) n)
    go (got r n) = ap (λ (x : Record). got x n) (canon_withdrawn r)
    go (refused k) = refl

-- What is read after the letters pv is a preview, or a fault.
pub data Previewing : Outcome Record → Type 0 where
  licence : (p : Prin) (g : Grant) (n : ℕ) → Previewing (got (preview p g) n)
  fault : (k : Refusal) → Previewing (refused k)

licence_previews : (s : List ℕ) (at : ℕ) → Previewing (read_licence preview s at)
unfolding read_licence read_entry
licence_previews s at = go (upto (speakers - 1) s at)
  where
    grants : (p : Prin) (o : Outcome Grant) → Previewing (and_then o (λ g n. got (preview p g) n))
    grants p (got g n) = licence p g n
    grants p (refused k) = fault k

    go : (o : Outcome ℕ) → Previewing (and_then o (λ p n. and_then (read_grant depths s n) (λ g u. got (preview (record { 0 = p }) g) u)))
    go (got p n) = grants (record { 0 = p }) (read_grant depths s n)
    go (refused k) = fault k

framed_previews : (c : List ℕ) → Previewing (and_then (framed (holds Pv c)) (λ r n. got (canon_record r) n))
unfolding read_whole read_content
framed_previews c = go (read_licence preview c 0) (licence_previews c 0)
  where
    ending : (p : Prin) (g : Grant) (n : ℕ) (t : Bool) →
        Previewing (and_then (and_then (cond t (got (preview p g) n) (refused refusal.Content)) (λ r m. got r (4 + length c))) (λ r m. got (canon_record r) m))
    ending p g n true = licence p (canon g) (4 + length c)
    ending p g n false = fault refusal.Content

    go : (o : Outcome Record) → Previewing o → Previewing (and_then (and_then (fitted (length c) o) (λ r n. got r (4 + length c))) (λ r n. got (canon_record r) n))
    go o (licence p g n) = ending p g n (eqb n (length c))
    go o (fault k) = fault (beyond k)

sized_previews : (s : List ℕ) → Previewing (and_then (framed (sized Pv s)) (λ r n. got (canon_record r) n))
sized_previews [] = fault refusal.Missing
sized_previews (a ∷ []) = fault refusal.Missing
sized_previews (high ∷ low ∷ s) = go (leb (stated high low) (length s)) (take (stated high low) s)
  where
    go : (t : Bool) (c : List ℕ) → Previewing (and_then (framed (cond t (holds Pv c) (ends refusal.Missing))) (λ r n. got (canon_record r) n))
    go true c = framed_previews c
    go false c = fault refusal.Missing

pub preview_only : (s : List ℕ) → Previewing (read_canonical (letters_of Pv ++ s))
unfolding read_canonical read_record
preview_only s = subst (λ (f : Frame). Previewing (and_then (framed f) (λ r n. got (canon_record r) n))) (sym (letters_frame Pv s)) (sized_previews s)
