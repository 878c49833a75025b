-- Where a record is at fault: a content's faults other than 10 are decided by its own bytes, 10 is said exactly when it needs fewer or
-- more bytes than stated, and 1 and 2 are said of the frame.
use Prim.Native.Nat.{ℕ, zero, suc, ◌+◌, ◌≤◌, ◌<◌, ◌-◌}
use mathlib.Core.Path.{◌≡◌, refl, sym, ap, ◌∙◌}
use mathlib.Core.Bool.{Bool, true, false, cond, ◌&&◌}
use mathlib.Core.List.{List, [], ◌∷◌, ◌++◌, append-nil, append_assoc}
use mathlib.Core.Logic.{◌⊎◌, inl, inr, ◌↔◌}
use native.Mathlib.Omega.{arith}
use lib.ListN.{length, get_or, take, drop, replicate, length-append, length-replicate, take-append-drop, get_or-append}
use lib.Seq.{get_or-append_seam, length-take-le}
use lib.Dec.{ltb, leb, eqb}
use borrow.Author.Tests.{ltb-true, ltb-false, lt-ltb, le-ltb, lt-leb, eqb-false, ne_eqb}
use Rattle.sorts.specs.declared.Prin.{Prin}
use Rattle.sorts.specs.declared.Status.TheVariants.{Trusted, Issued, Provisional}
use Rattle.sorts.specs.Numbers.{depths, conditions, packs, principals, properties, speakers, first_var, item_var, second_var}
use Rattle.sorts.specs.declared.Refusal.TheVariants as refusal
use Rattle.sorts.specs.declared.Refusal.{Refusal}
use Rattle.sorts.specs.Refusals.{refusal_number}
use Rattle.rows.specs.Written.{Grant, Conds, Concl}
use Rattle.frames.specs.declared.ranges.Scope.{Scope}
use Rattle.frames.specs.declared.ranges.Header.{Header}
use Rattle.frames.specs.declared.Kind.{Kind}
use Rattle.frames.specs.declared.Kind.TheVariants.{Tg, St, Li, Wd, Qu, Pl, Cf, Pv}
use Rattle.frames.specs.Bytes.{Outcome, got, refused, and_then, byte_at, upto, declared, principal, pack, tag, header}
use Rattle.grants.specs.Grants.{read_property, read_packed, read_issue, read_concl, read_conds, read_with, read_grant}
use Rattle.frames.specs.Frames.{letters_of, kinds, kind_with, stated, Frame, holds, ends, sized, marked, frame, frame_length, extent}
use Rattle.reader.specs.Contents.{Record, enter, remove, confirm, preview, read_entry, read_licence, nothing_declared, read_query, read_content}
use Rattle.reader.specs.Records.{fitted, read_whole, framed, read_record}
use Rattle.exact.specs.Writing.{kind_of, content_of, AllowedRecord, NeedsFewer, NeedsMore}
use Rattle.frames.proofs.Letters.{kind_letters, kind_none}
use Rattle.exact.proofs.Framing.{frame_none, frame_one, after_letters, opens_frame, frame_apart, ends_numbers, extent_holds, extent_ends}
use Rattle.exact.proofs.Contents.{ContentFound, content_found, content_written}

-- What is found in c, and in c with the bytes b and y after it. Where c is too short and FF follows, which fits nowhere, 3 is found.
data Alike (c : List ℕ) (b : ℕ) (y : List ℕ) (A : Type 0) : Outcome A → Outcome A → Type 0 where
  same : (a : A) (n : ℕ) → n ≤ length c → Alike c b y A (got a n) (got a n)
  fault : (k : Refusal) → 3 ≤ refusal_number k → refusal_number k ≤ 5 → Alike c b y A (refused k) (refused k)
  short : (o : Outcome A) → (b ≡ 255 → o ≡ refused refusal.Range) → Alike c b y A (refused refusal.Missing) o

module _ (c : List ℕ) (b : ℕ) (y : List ℕ) where
  and_then_lem : {A B : Type 0} (o o' : Outcome A) (f g : A → ℕ → Outcome B) → Alike c b y A o o' →
      ((a : A) (n : ℕ) → n ≤ length c → Alike c b y B (f a n) (g a n)) → Alike c b y B (and_then o f) (and_then o' g)
  and_then_lem o o' f g (same a n h) k = k a n h
  and_then_lem o o' f g (fault j h i) k = fault j h i
  and_then_lem o o' f g (short p h) k = short (and_then p g) (λ d. ap (λ (q : Outcome _). and_then q g) (h d))

  either : {A : Type 0} (t : Bool) (o p o' p' : Outcome A) → Alike c b y A o o' → Alike c b y A p p' → Alike c b y A (cond t o p) (cond t o' p')
  either true o p o' p' h k = h
  either false o p o' p' h k = k

  three : {A : Type 0} → Alike c b y A (refused refusal.Range) (refused refusal.Range)
  three = fault refusal.Range (omega arith) (omega arith)

  is_declared : (t : Bool) (x n : ℕ) → n ≤ length c → Alike c b y ℕ (declared t x n) (declared t x n)
  is_declared t x n h = either t _ _ _ _ (same x n h) (fault refusal.Variable (omega arith) (omega arith))

  byte_within : (at : ℕ) → at < length c → (byte_at c at ≡ got (get_or c at 0) (at + 1)) × (byte_at (c ++ (b ∷ y)) at ≡ got (get_or c at 0) (at + 1))
  unfolding byte_at
  byte_within at h =
      let l : at < length (c ++ (b ∷ y)) = omega (arith, length-append c (b ∷ y)) in
      (rw (lt-ltb at (length c) h), rw (lt-ltb at (length (c ++ (b ∷ y))) l, get_or-append c (b ∷ y) 0 at h))

  byte_beyond : (byte_at c (length c) ≡ refused refusal.Missing) × (byte_at (c ++ (b ∷ y)) (length c) ≡ got b (length c + 1))
  unfolding byte_at
  byte_beyond =
      let l : length c < length (c ++ (b ∷ y)) = omega (arith, length-append c (b ∷ y)) in
      (rw (le-ltb (length c) (length c) (omega arith)), rw (lt-ltb (length c) (length (c ++ (b ∷ y))) l, get_or-append_seam c b y 0))

  -- a byte and a test of it
  byte_alike : (f : ℕ → ℕ → Outcome ℕ) (at : ℕ) → at ≤ length c → ((x n : ℕ) → n ≤ length c → Alike c b y ℕ (f x n) (f x n)) → ((n : ℕ) → f 255 n ≡ refused refusal.Range) →
      Alike c b y ℕ (and_then (byte_at c at) f) (and_then (byte_at (c ++ (b ∷ y)) at) f)
  byte_alike f at h k ff = go (ltb at (length c)) refl
    where
      go : (t : Bool) → ltb at (length c) ≡ t → Alike c b y ℕ (and_then (byte_at c at) f) (and_then (byte_at (c ++ (b ∷ y)) at) f)
      go true e =
          let l = ltb-true at (length c) e in
          let w = byte_within at l in
          rw (w.0, w.1) (k (get_or c at 0) (at + 1) (omega arith))
      go false e =
          let l = ltb-false at (length c) e in
          let q : at ≡ length c = omega arith in
          rw (q, byte_beyond.0, byte_beyond.1) (short (f b (length c + 1)) (λ d. rw d (ff (length c + 1))))

  upto_alike : (most at : ℕ) → most < 255 → at ≤ length c → Alike c b y ℕ (upto most c at) (upto most (c ++ (b ∷ y)) at)
  unfolding upto
  upto_alike most at m h =
      byte_alike _ at h (λ x n l. either (leb x most) _ _ _ _ (same x n l) three) (λ n. rw (lt-leb 255 most m))

  principal_alike : (v : Scope) (at : ℕ) → at ≤ length c → Alike c b y ℕ (principal v c at) (principal v (c ++ (b ∷ y)) at)
  unfolding principal
  principal_alike v at h =
      byte_alike _ at h (λ x n l.
      either (ltb x principals) _ _ _ _ (same x n l)
      (either (eqb x first_var) _ _ _ _ (is_declared (ltb 0 v.prins) x n l)
      (either (eqb x second_var) _ _ _ _ (is_declared (ltb 1 v.prins) x n l) three))) (λ n. refl)

  pack_alike : (v : Scope) (at : ℕ) → at ≤ length c → Alike c b y ℕ (pack v c at) (pack v (c ++ (b ∷ y)) at)
  unfolding pack
  pack_alike v at h =
      byte_alike _ at h (λ x n l.
      either (ltb x packs) _ _ _ _ (same x n l)
      (either (eqb x item_var) _ _ _ _ (is_declared (eqb v.res 2) x n l) three)) (λ n. refl)

  tag_alike : (v : Scope) (at : ℕ) → at ≤ length c → Alike c b y ℕ (tag v c at) (tag v (c ++ (b ∷ y)) at)
  unfolding tag
  tag_alike v at h =
      byte_alike _ at h (λ x n l.
      either (eqb x 0) _ _ _ _ (same x n l)
      (either (eqb x 1) _ _ _ _ (is_declared (eqb v.res 1) x n l) three)) (λ n. refl)

  header_alike : (at : ℕ) → at ≤ length c → Alike c b y Header (header c at) (header (c ++ (b ∷ y)) at)
  unfolding header
  header_alike at h =
      and_then_lem _ _ _ _ (upto_alike 2 at (omega arith) h) (λ prins n1 h1.
      and_then_lem _ _ _ _ (upto_alike 2 n1 (omega arith) h1) (λ res n2 h2.
      and_then_lem _ _ _ _ (upto_alike conditions n2 (omega arith) h2) (λ count n3 h3. same _ n3 h3)))

  -- Two readers of inner grants.
  abbrev Inner : (ℕ → Outcome Grant) → (ℕ → Outcome Grant) → Type 0
  Inner inner inner' = (at : ℕ) → at ≤ length c → Alike c b y Grant (inner at) (inner' at)

  property_alike : (v : Scope) (at : ℕ) → at ≤ length c → Alike c b y Concl (read_property v c at) (read_property v (c ++ (b ∷ y)) at)
  unfolding read_property
  property_alike v at h =
      and_then_lem _ _ _ _ (upto_alike (properties - 1) at (omega arith) h) (λ k n1 h1.
      and_then_lem _ _ _ _ (principal_alike v n1 h1) (λ p n2 h2. same _ n2 h2))

  packed_alike : (v : Scope) (kind p at : ℕ) → at ≤ length c → Alike c b y Concl (read_packed v kind p c at) (read_packed v kind p (c ++ (b ∷ y)) at)
  unfolding read_packed
  packed_alike v kind p at h = and_then_lem _ _ _ _ (pack_alike v at h) (λ x n1 h1. same _ n1 h1)

  module _ (inner inner' : ℕ → Outcome Grant) (ok : Inner inner inner') (v : Scope) where
    issue_alike : (p at : ℕ) → at ≤ length c → Alike c b y Concl (read_issue inner v p c at) (read_issue inner' v p (c ++ (b ∷ y)) at)
    unfolding read_issue
    issue_alike p at h =
        and_then_lem _ _ _ _ (tag_alike v at h) (λ x n1 h1.
        either (eqb x 1) _ _ _ _ (same _ n1 h1)
        (and_then_lem _ _ _ _ (ok n1 h1) (λ g n2 h2. same _ n2 h2)))

    concl_alike : (at : ℕ) → at ≤ length c → Alike c b y Concl (read_concl inner v c at) (read_concl inner' v (c ++ (b ∷ y)) at)
    unfolding read_concl
    concl_alike at h =
        and_then_lem _ _ _ _ (upto_alike 3 at (omega arith) h) (λ kind n1 h1.
        either (eqb kind 0) _ _ _ _ (property_alike v n1 h1)
        (and_then_lem _ _ _ _ (principal_alike v n1 h1) (λ p n2 h2.
        either (eqb kind 1) _ _ _ _ (issue_alike p n2 h2) (packed_alike v kind p n2 h2))))

    conds_alike : (k at : ℕ) → at ≤ length c → Alike c b y Conds (read_conds inner v c k at) (read_conds inner' v (c ++ (b ∷ y)) k at)
    unfolding read_conds
    conds_alike zero at h = same _ at h
    conds_alike (suc k) at h =
        and_then_lem _ _ _ _ (principal_alike v at h) (λ p n1 h1.
        and_then_lem _ _ _ _ (concl_alike n1 h1) (λ d n2 h2.
        and_then_lem _ _ _ _ (conds_alike k n2 h2) (λ cs n3 h3. same _ n3 h3)))

  with_alike : (inner inner' : ℕ → Outcome Grant) → Inner inner inner' → Inner (read_with inner c) (read_with inner' (c ++ (b ∷ y)))
  unfolding read_with
  with_alike inner inner' ok at h =
      and_then_lem _ _ _ _ (header_alike at h) (λ d n1 h1.
      and_then_lem _ _ _ _ (conds_alike inner inner' ok d.scope d.count n1 h1) (λ cs n2 h2.
      and_then_lem _ _ _ _ (concl_alike inner inner' ok d.scope n2 h2) (λ e n3 h3. same _ n3 h3)))

  grant_alike : (left : ℕ) → Inner (read_grant left c) (read_grant left (c ++ (b ∷ y)))
  unfolding read_grant
  grant_alike zero at h = fault refusal.Depth (omega arith) (omega arith)
  grant_alike (suc below) at h = with_alike (read_grant below c) (read_grant below (c ++ (b ∷ y))) (grant_alike below) at h

  entry_alike : (r : Grant → Record) (at : ℕ) → at ≤ length c → Alike c b y Record (read_entry r c at) (read_entry r (c ++ (b ∷ y)) at)
  unfolding read_entry
  entry_alike r at h = and_then_lem _ _ _ _ (grant_alike depths at h) (λ g n1 h1. same _ n1 h1)

  licence_alike : (r : Prin → Grant → Record) (at : ℕ) → at ≤ length c → Alike c b y Record (read_licence r c at) (read_licence r (c ++ (b ∷ y)) at)
  unfolding read_licence
  licence_alike r at h = and_then_lem _ _ _ _ (upto_alike (speakers - 1) at (omega arith) h) (λ p n1 h1. entry_alike (r (record { 0 = p })) n1 h1)

  query_alike : (at : ℕ) → at ≤ length c → Alike c b y Record (read_query c at) (read_query (c ++ (b ∷ y)) at)
  unfolding read_query
  query_alike at h =
      and_then_lem _ _ _ _ (concl_alike (read_grant depths c) (read_grant depths (c ++ (b ∷ y))) (grant_alike depths) nothing_declared at h) (λ d n1 h1. same _ n1 h1)

  content_alike : (k : Kind) → Alike c b y Record (read_content k c) (read_content k (c ++ (b ∷ y)))
  unfolding read_content
  content_alike Tg = entry_alike (enter Trusted) 0 (omega arith)
  content_alike St = entry_alike (remove Trusted) 0 (omega arith)
  content_alike Li = licence_alike (λ p. enter (Issued p)) 0 (omega arith)
  content_alike Wd = licence_alike (λ p. remove (Issued p)) 0 (omega arith)
  content_alike Pl = licence_alike (λ p. enter (Provisional p)) 0 (omega arith)
  content_alike Cf = licence_alike confirm 0 (omega arith)
  content_alike Pv = licence_alike preview 0 (omega arith)
  content_alike Qu = query_alike 0 (omega arith)

not_both : {A B : Type 0} {a : A} {n : ℕ} {k : Refusal} → got a n ≡ refused k → B
not_both e = let z : ◌≡◌ {A = ℕ} 0 1 = cc in absurd (omega arith)

-- A content's faults: what is found in it, by what its readers find.
module _ (k : Kind) (c : List ℕ) where
  fitted_at : (o : Outcome Record) → read_content k c ≡ o → read_whole k c ≡ fitted (length c) o
  unfolding read_whole
  fitted_at o e = ap (fitted (length c)) e

  -- a fault other than a missing byte stays
  kept : (j : Refusal) → 3 ≤ refusal_number j → fitted (length c) (refused j) ≡ refused j
  kept refusal.Missing h = absurd (omega arith)
  kept refusal.Mark h = refl
  kept refusal.Range h = refl
  kept refusal.Variable h = refl
  kept refusal.Depth h = refl
  kept refusal.Full h = refl
  kept refusal.Absent h = refl
  kept refusal.Length h = refl
  kept refusal.Form h = refl
  kept refusal.Content h = refl

  -- bytes are left over
  left_over : (r : Record) (n : ℕ) → n ≤ length c → (n ≡ length c → ⊥) → read_content k c ≡ got r n → NeedsFewer k c
  left_over r n h ne e = go (drop n c) refl
    where
      f : ContentFound k c r n
      f = content_found c k r n e

      go : (l : List ℕ) → drop n c ≡ l → NeedsFewer k c
      go [] p =
          let q : c ≡ content_of r ++ [] = f.spelled.rest ∙ ap (λ (l : List ℕ). content_of r ++ l) p in
          absurd (ne (omega (arith, f.spelled.ends, ap length q, length-append (content_of r) [])))
      go (x ∷ l) p = record { what = r; kind = f.kind; allowed = f.allowed; over = x; more = l; bytes = f.spelled.rest ∙ ap (λ (l : List ℕ). content_of r ++ l) p }

  ten_means : read_whole k c ≡ refused refusal.Content → NeedsFewer k c ⊎ NeedsMore k c
  ten_means e = go (read_content k c) (read_content k (c ++ (255 ∷ []))) refl refl (content_alike c 255 [] k)
    where
      found : (r : Record) (n : ℕ) (t : Bool) → n ≤ length c → read_content k c ≡ got r n → eqb n (length c) ≡ t → cond t (got r n) (refused refusal.Content) ≡ refused refusal.Content → NeedsFewer k c ⊎ NeedsMore k c
      found r n true h p q z = not_both z
      found r n false h p q z = inl (left_over r n h (eqb-false n (length c) q) p)

      go : (o o' : Outcome Record) → read_content k c ≡ o → read_content k (c ++ (255 ∷ [])) ≡ o' → Alike c 255 [] Record o o' → NeedsFewer k c ⊎ NeedsMore k c
      go o o' p q (same r n h) = found r n (eqb n (length c)) h p refl (sym (fitted_at (got r n) p) ∙ e)
      go o o' p q (fault j h i) =
          let z : refused j ≡ refused refusal.Content = sym (kept j h) ∙ sym (fitted_at (refused j) p) ∙ e in
          let w : j ≡ refusal.Content = cc in
          absurd (omega (arith, ap refusal_number w))
      go o o' p q (short d h) =
          let w : d ≡ refused refusal.Range = h refl in
          inr (record { beyond = 255 ∷ []; changes = λ x. let z : ◌≡◌ {A = ℕ} 1 3 = cc in omega arith })

  fewer_ten : NeedsFewer k c → read_whole k c ≡ refused refusal.Content
  fewer_ten f =
      let w = content_of f.what in
      let g : read_content k c ≡ got f.what (length w) = rw (f.bytes, ← f.kind) (content_written f.what (f.over ∷ f.more) f.allowed) in
      let l : length w ≡ length c → ⊥ = λ q. omega (arith, length-append w (f.over ∷ f.more), ap length f.bytes) in
      fitted_at (got f.what (length w)) g ∙ rw (ne_eqb (length w) (length c) l)

  more_ten : NeedsMore k c → read_whole k c ≡ refused refusal.Content
  more_ten f = split f.beyond f.changes
    where
      go : (b : ℕ) (y : List ℕ) (o o' : Outcome Record) → read_content k c ≡ o → read_content k (c ++ (b ∷ y)) ≡ o' → Alike c b y Record o o' →
          (read_content k (c ++ (b ∷ y)) ≡ read_content k c → ⊥) → read_whole k c ≡ refused refusal.Content
      go b y o o' p q (same r n h) ne = absurd (ne (q ∙ sym p))
      go b y o o' p q (fault j h i) ne = absurd (ne (q ∙ sym p))
      go b y o o' p q (short d h) ne = fitted_at (refused refusal.Missing) p

      split : (y : List ℕ) → (read_content k (c ++ y) ≡ read_content k c → ⊥) → read_whole k c ≡ refused refusal.Content
      split [] ne = absurd (ne (ap (read_content k) (append-nil c)))
      split (b ∷ y) ne = go b y (read_content k c) (read_content k (c ++ (b ∷ y))) refl refl (content_alike c b y k) ne

  -- 10 exactly when the content needs fewer or more bytes than stated
  pub ten : (read_whole k c ≡ refused refusal.Content) ↔ (NeedsFewer k c ⊎ NeedsMore k c)
  ten = (ten_means, λ h. back h)
    where
      back : NeedsFewer k c ⊎ NeedsMore k c → read_whole k c ≡ refused refusal.Content
      back (inl f) = fewer_ten f
      back (inr f) = more_ten f

  -- a content's refusal is 3, 4, 5 or 10
  pub content_numbers : (j : Refusal) → read_whole k c ≡ refused j → ((3 ≤ refusal_number j) × (refusal_number j ≤ 5)) ⊎ (j ≡ refusal.Content)
  content_numbers j e = go (read_content k c) (read_content k (c ++ (255 ∷ []))) refl (content_alike c 255 [] k)
    where
      found : (r : Record) (n : ℕ) (t : Bool) → cond t (got r n) (refused refusal.Content) ≡ refused j → ((3 ≤ refusal_number j) × (refusal_number j ≤ 5)) ⊎ (j ≡ refusal.Content)
      found r n true z = not_both z
      found r n false z = inr (cc)

      go : (o o' : Outcome Record) → read_content k c ≡ o → Alike c 255 [] Record o o' → ((3 ≤ refusal_number j) × (refusal_number j ≤ 5)) ⊎ (j ≡ refusal.Content)
      go o o' p (same r n h) = found r n (eqb n (length c)) (sym (fitted_at (got r n) p) ∙ e)
      go o o' p (fault i h l) =
          let z : refused i ≡ refused j = sym (kept i h) ∙ sym (fitted_at (refused i) p) ∙ e in
          let w : i ≡ j = cc in
          inl (omega (arith, ap refusal_number w), omega (arith, ap refusal_number w))
      go o o' p (short d h) =
          let z : refused refusal.Content ≡ refused j = sym (fitted_at (refused refusal.Missing) p) ∙ e in
          inr (cc)

  -- "found from left to right like the others": a refusal other than 10 is decided by the content's own bytes, whatever would follow
  pub decided : (j : Refusal) → ((read_whole k c ≡ refused j) × (j ≡ refusal.Content → ⊥)) ↔ ((y : List ℕ) → read_content k (c ++ y) ≡ refused j)
  decided j = (λ h. there h.0 h.1, λ h. back h)
    where
      go : (b : ℕ) (y : List ℕ) (o o' : Outcome Record) → read_content k c ≡ o → read_content k (c ++ (b ∷ y)) ≡ o' → Alike c b y Record o o' →
          read_whole k c ≡ refused j → (j ≡ refusal.Content → ⊥) → o ≡ refused j × o' ≡ refused j
      go b y o o' p q (same r n h) e ne = found (eqb n (length c)) (sym (fitted_at (got r n) p) ∙ e)
        where
          found : (t : Bool) → cond t (got r n) (refused refusal.Content) ≡ refused j → got r n ≡ refused j × got r n ≡ refused j
          found true z = not_both z
          found false z = absurd (ne (cc))
      go b y o o' p q (fault i h l) e ne =
          let z : refused i ≡ refused j = sym (kept i h) ∙ sym (fitted_at (refused i) p) ∙ e in
          (z, z)
      go b y o o' p q (short d h) e ne =
          let z : refused refusal.Content ≡ refused j = sym (fitted_at (refused refusal.Missing) p) ∙ e in
          absurd (ne (cc))

      there : read_whole k c ≡ refused j → (j ≡ refusal.Content → ⊥) → (y : List ℕ) → read_content k (c ++ y) ≡ refused j
      there e ne [] = ap (read_content k) (append-nil c) ∙ (go 255 [] (read_content k c) (read_content k (c ++ (255 ∷ []))) refl refl (content_alike c 255 [] k) e ne).0
      there e ne (b ∷ y) = (go b y (read_content k c) (read_content k (c ++ (b ∷ y))) refl refl (content_alike c b y k) e ne).1

      from : (o o' : Outcome Record) → read_content k c ≡ o → read_content k (c ++ (255 ∷ [])) ≡ o' → Alike c 255 [] Record o o' → o ≡ refused j → o' ≡ refused j →
          (read_whole k c ≡ refused j) × (j ≡ refusal.Content → ⊥)
      from o o' p q (same r n h) e d = not_both e
      from o o' p q (fault i h l) e d =
          let w : i ≡ j = cc in
          (fitted_at (refused i) p ∙ kept i h ∙ e, λ z. omega (arith, ap refusal_number w, ap refusal_number z))
      from o o' p q (short u h) e d =
          let w : u ≡ refused refusal.Range = h refl in
          let z : ◌≡◌ {A = ℕ} 1 3 = cc in
          absurd (omega arith)

      back : ((y : List ℕ) → read_content k (c ++ y) ≡ refused j) → (read_whole k c ≡ refused j) × (j ≡ refusal.Content → ⊥)
      back h = from (read_content k c) (read_content k (c ++ (255 ∷ []))) refl refl (content_alike c 255 [] k) (ap (read_content k) (sym (append-nil c)) ∙ h []) (h (255 ∷ []))

-- a content that is cut short is 10, wherever it is cut
pub cut_ten : (r : Record) (c : List ℕ) (b : ℕ) (y : List ℕ) → AllowedRecord r → c ++ (b ∷ y) ≡ content_of r → read_whole (kind_of r) c ≡ refused refusal.Content
cut_ten r c b y a e = go (read_content (kind_of r) c) (read_content (kind_of r) (c ++ (b ∷ y))) refl refl (content_alike c b y (kind_of r))
  where
    whole : read_content (kind_of r) (c ++ (b ∷ y)) ≡ got r (length (c ++ (b ∷ y)))
    whole = rw e (ap (read_content (kind_of r)) (sym (append-nil (content_of r))) ∙ content_written r [] a)

    go : (o o' : Outcome Record) → read_content (kind_of r) c ≡ o → read_content (kind_of r) (c ++ (b ∷ y)) ≡ o' → Alike c b y Record o o' → read_whole (kind_of r) c ≡ refused refusal.Content
    go o o' p q (same d n h) =
        let z : got d n ≡ got r (length (c ++ (b ∷ y))) = sym q ∙ whole in
        let w : n ≡ length (c ++ (b ∷ y)) = cc in
        absurd (omega (arith, length-append c (b ∷ y)))
    go o o' p q (fault j h i) =
        let z : refused j ≡ got r (length (c ++ (b ∷ y))) = sym q ∙ whole in
        not_both (sym z)
    go o o' p q (short d h) = fitted_at (kind_of r) c (refused refusal.Missing) p

-- A refusal that is found in a record, and where: 1 and 2 at its frame, and then no byte is used; 3, 4, 5 and 10 in its content, and
-- then its whole length is, which is within the input.
pub data Turned (s : List ℕ) (j : Refusal) : Type 0 where
  at_frame : frame s ≡ ends j → (j ≡ refusal.Missing) ⊎ (j ≡ refusal.Mark) → extent s ≡ 0 → Turned s j
  in_content : ((3 ≤ refusal_number j) × (refusal_number j ≤ 5)) ⊎ (j ≡ refusal.Content) → 4 ≤ extent s → extent s ≤ length s → Turned s j

pub fault_at : (s : List ℕ) (j : Refusal) → read_record s ≡ refused j → Turned s j
unfolding read_record
fault_at s j e = go (frame s) refl e
  where
    within : (k : Kind) (c : List ℕ) (o : Outcome Record) → frame s ≡ holds k c → read_whole k c ≡ o → and_then o (λ r n. got r (4 + length c)) ≡ refused j → Turned s j
    within k c (got r n) p q e = not_both e
    within k c (refused i) p q e =
        let w : i ≡ j = cc in
        let f = frame_apart s k c p in
        let x = extent_holds s k c p in
        in_content (content_numbers k c j (q ∙ ap refused w)) (omega (arith, x)) (omega (arith, x, f.long, ap length f.bytes, length-append f.own f.after))

    go : (f : Frame) → frame s ≡ f → framed f ≡ refused j → Turned s j
    go (holds k c) p e = within k c (read_whole k c) p refl e
    go (ends i) p e =
        let w : i ≡ j = cc in
        let q : frame s ≡ ends j = p ∙ ap ends w in
        at_frame q (ends_numbers s j q) (extent_ends s j q)

-- A fault is one of the refusals 1 to 5, or 10.
pub fault_range : (s : List ℕ) (j : Refusal) → read_record s ≡ refused j → ((1 ≤ refusal_number j) × (refusal_number j ≤ 5)) ⊎ (j ≡ refusal.Content)
fault_range s j e = go (fault_at s j e)
  where
    go : Turned s j → ((1 ≤ refusal_number j) × (refusal_number j ≤ 5)) ⊎ (j ≡ refusal.Content)
    go (at_frame f (inl h) x) = inl (omega (arith, ap refusal_number h), omega (arith, ap refusal_number h))
    go (at_frame f (inr h) x) = inl (omega (arith, ap refusal_number h), omega (arith, ap refusal_number h))
    go (in_content (inl h) l x) = inl (omega (arith, h.0), omega (arith, h.1))
    go (in_content (inr h) l x) = inr h

-- A record whose frame is there is read alike, whatever bytes follow.
pub stays : (s w : List ℕ) (k : Kind) (c : List ℕ) → frame s ≡ holds k c → (read_record (s ++ w) ≡ read_record s) × (extent (s ++ w) ≡ extent s)
unfolding read_record extent
stays s w k c e =
    let f = frame_apart s k c e in
    let same : frame (s ++ w) ≡ frame s = ap (λ (l : List ℕ). frame (l ++ w)) f.bytes ∙ ap frame (append_assoc f.own f.after w) ∙ f.again (f.after ++ w) ∙ sym e in
    (ap framed same, ap frame_length same)

-- 1 is said exactly where some bytes that follow would change what is read: the mark, the length or the content is cut.

-- FF is the second letter of no mark
no_letter : (k : Kind) → eqb 255 (get_or (letters_of k) 1 0) ≡ false
no_letter Tg = refl
no_letter St = refl
no_letter Li = refl
no_letter Wd = refl
no_letter Qu = refl
no_letter Pl = refl
no_letter Cf = refl
no_letter Pv = refl

no_mark : (ks : List Kind) (a n : ℕ) → kind_with ks a 255 n ≡ refused refusal.Mark
unfolding kind_with
no_mark [] a n = refl
no_mark (k ∷ ks) a n = rw (no_letter k, and_no (eqb a (get_or (letters_of k) 0 0))) (no_mark ks a n)
  where
    and_no : (t : Bool) → (t && false) ≡ false
    and_no true = refl
    and_no false = refl

-- a record with a frame is not refused with 1
held : (s : List ℕ) (k : Kind) (c : List ℕ) → frame s ≡ holds k c → read_record s ≡ refused refusal.Missing → ⊥
held s k c f e = go (fault_at s refusal.Missing e)
  where
    go : Turned s refusal.Missing → ⊥
    go (at_frame g h x) = let z : ends refusal.Missing ≡ holds k c = sym g ∙ f in let w : ◌≡◌ {A = ℕ} 0 1 = cc in omega arith
    go (in_content (inl h) l x) = omega (arith, h.0)
    go (in_content (inr h) l x) = omega (arith, ap refusal_number h)

marked_two : (a b : ℕ) (s : List ℕ) → kind_with kinds a b 2 ≡ refused refusal.Mark → read_record (a ∷ b ∷ s) ≡ refused refusal.Mark
unfolding read_record
marked_two a b s e = ap framed (after_letters a b s ∙ ap (λ (o : Outcome Kind). marked o (a ∷ b ∷ s)) e)

-- bytes that complete what is cut
more : (s : List ℕ) → read_record s ≡ refused refusal.Missing → (w : List ℕ) × (read_record (s ++ w) ≡ refused refusal.Missing → ⊥)
more [] e = (255 ∷ 255 ∷ [], λ h. let z : refused refusal.Mark ≡ refused refusal.Missing = sym (marked_two 255 255 [] (no_mark kinds 255 2)) ∙ h in let w : ◌≡◌ {A = ℕ} 2 1 = cc in omega arith)
more (a ∷ []) e = (255 ∷ [], λ h. let z : refused refusal.Mark ≡ refused refusal.Missing = sym (marked_two a 255 [] (no_mark kinds a 2)) ∙ h in let w : ◌≡◌ {A = ℕ} 2 1 = cc in omega arith)
more (a ∷ b ∷ s) e = go (kind_with kinds a b 2) refl
  where
    there : (k : Kind) (high low : ℕ) (c : List ℕ) → kind_with kinds a b 2 ≡ got k 2 → stated high low ≤ length c → read_record (a ∷ b ∷ high ∷ low ∷ c) ≡ refused refusal.Missing → ⊥
    there k high low c m l =
        held (a ∷ b ∷ high ∷ low ∷ c) k (take (stated high low) c)
        (ap (λ (x : List ℕ). frame (a ∷ b ∷ high ∷ low ∷ x)) (sym (take-append-drop (stated high low) c)) ∙
        opens_frame a b high low k (take (stated high low) c) (drop (stated high low) c) m (sym (length-take-le (stated high low) c l)))

    rest : (k : Kind) (t : List ℕ) → kind_with kinds a b 2 ≡ got k 2 → (w : List ℕ) × (read_record ((a ∷ b ∷ t) ++ w) ≡ refused refusal.Missing → ⊥)
    rest k [] m = (0 ∷ 0 ∷ [], there k 0 0 [] m (omega arith))
    rest k (high ∷ []) m = (0 ∷ replicate (stated high 0) 0, there k high 0 (replicate (stated high 0) 0) m (omega (arith, length-replicate {A = ℕ} (stated high 0) 0)))
    rest k (high ∷ low ∷ c) m =
        (replicate (stated high low) 0, there k high low (c ++ replicate (stated high low) 0) m (omega (arith, length-append c (replicate (stated high low) 0), length-replicate {A = ℕ} (stated high low) 0)))

    go : (o : Outcome Kind) → kind_with kinds a b 2 ≡ o → (w : List ℕ) × (read_record ((a ∷ b ∷ s) ++ w) ≡ refused refusal.Missing → ⊥)
    go (got k n) m = rest k s (m ∙ ap (got k) (kind_letters kinds a b 2 k n m).1)
    go (refused j) m =
        let q = kind_none kinds a b 2 j m in
        let z : refused refusal.Mark ≡ refused refusal.Missing = sym (marked_two a b s (m ∙ ap refused q)) ∙ e in
        let w : ◌≡◌ {A = ℕ} 2 1 = cc in
        absurd (omega arith)

-- a mark that is no record's stays, whatever follows
two_stays : (s w : List ℕ) → frame s ≡ ends refusal.Mark → read_record (s ++ w) ≡ read_record s
unfolding read_record
two_stays [] w e = let z : ends refusal.Missing ≡ ends refusal.Mark = sym frame_none ∙ e in let v : ◌≡◌ {A = ℕ} 1 2 = cc in absurd (omega arith)
two_stays (a ∷ []) w e = let z : ends refusal.Missing ≡ ends refusal.Mark = sym (frame_one a) ∙ e in let v : ◌≡◌ {A = ℕ} 1 2 = cc in absurd (omega arith)
two_stays (a ∷ b ∷ s) w e = go (kind_with kinds a b 2) refl
  where
    held_two : (k : Kind) (t : List ℕ) → sized k t ≡ ends refusal.Mark → ⊥
    held_two k [] e = let v : ◌≡◌ {A = ℕ} 1 2 = cc in omega arith
    held_two k (x ∷ []) e = let v : ◌≡◌ {A = ℕ} 1 2 = cc in omega arith
    held_two k (high ∷ low ∷ t) e = cut (leb (stated high low) (length t)) e
      where
        cut : (v : Bool) → cond v (holds k (take (stated high low) t)) (ends refusal.Missing) ≡ ends refusal.Mark → ⊥
        cut true e = let u : ◌≡◌ {A = ℕ} 0 1 = cc in omega arith
        cut false e = let u : ◌≡◌ {A = ℕ} 1 2 = cc in omega arith

    go : (o : Outcome Kind) → kind_with kinds a b 2 ≡ o → framed (frame ((a ∷ b ∷ s) ++ w)) ≡ framed (frame (a ∷ b ∷ s))
    go (got k n) m = absurd (held_two k (drop n (a ∷ b ∷ s)) (sym (after_letters a b s ∙ ap (λ (o : Outcome Kind). marked o (a ∷ b ∷ s)) m) ∙ e))
    go (refused j) m =
        ap framed (after_letters a b (s ++ w) ∙ ap (λ (o : Outcome Kind). marked o (a ∷ b ∷ (s ++ w))) m) ∙
        sym (ap framed (after_letters a b s ∙ ap (λ (o : Outcome Kind). marked o (a ∷ b ∷ s)) m))

at_ends : (s : List ℕ) (j : Refusal) → frame s ≡ ends j → read_record s ≡ refused j
unfolding read_record
at_ends s j e = ap framed e

pub missing : (s : List ℕ) → (read_record s ≡ refused refusal.Missing) ↔ ((w : List ℕ) × (read_record (s ++ w) ≡ read_record s → ⊥))
missing s = (λ e. let m = more s e in (m.0, λ h. m.1 (h ∙ e)), λ x. back x.0 x.1)
  where
    back : (w : List ℕ) → (read_record (s ++ w) ≡ read_record s → ⊥) → read_record s ≡ refused refusal.Missing
    back w d = go (frame s) refl
      where
        one : (j : Refusal) → frame s ≡ ends j → (j ≡ refusal.Missing) ⊎ (j ≡ refusal.Mark) → read_record s ≡ refused refusal.Missing
        one j e (inl h) = at_ends s refusal.Missing (e ∙ ap ends h)
        one j e (inr h) = absurd (d (two_stays s w (e ∙ ap ends h)))

        go : (f : Frame) → frame s ≡ f → read_record s ≡ refused refusal.Missing
        go (holds k c) e = absurd (d (stays s w k c e).0)
        go (ends j) e = one j e (ends_numbers s j e)
