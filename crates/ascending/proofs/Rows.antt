-- The words of a table in form tell how its grants stand, and its grants are in canonical form exactly when the words of the
-- conditions ascend in each row.
use Prim.Native.Nat.{ℕ, zero, suc, ◌+◌, ◌*◌, ◌/◌, ◌%◌, ◌<◌, ◌≤◌, compare, Ordering}
use mathlib.Core.Path.{◌≡◌, refl, sym, ap, ap₂, ◌∙◌}
use mathlib.Core.Bool.{Bool, true, false, cond}
use mathlib.Core.Logic.{inl, inr}
use mathlib.Core.List.{List}
use native.Mathlib.Omega.{arith}
use native.Mathlib.Decide.{ℕ_discrete}
use native.Mathlib.Numerals.{add-one}
use lib.ListN.{length, get_or}
use lib.Dec.{ltb}
use borrow.Author.Tests.{ltb-true, ltb-false, lt-ltb}
use Rattle.sorts.specs.Numbers.{grants}
use Rattle.sorts.specs.declared.Row.{Row}
use Rattle.sorts.specs.Blank.{blank_cond, no_row}
use Rattle.sorts.specs.RowForm.{ConclForm, CondForm, RowForm}
use Rattle.sorts.specs.Decides.{Decides}
use Rattle.rows.specs.declared.Table.{Table}
use Rattle.rows.specs.Written.{Grant}
use Rattle.rows.specs.Form.{no_grant, rows_out, TableForm}
use Rattle.rows.proofs.Shown.{Shown, form_shown}
use Rattle.canon.proofs.Tables.{row_up}
use Rattle.canon.specs.Canon.{and_then, Canonical}
use Rattle.canon.specs.Compare.{cmp_grant}
use Rattle.canon.specs.RowOrder.{concl_by, cond_by, conds_by, row_by, Ascends}
use Rattle.canon.proofs.Order.{and_then_eq, and_then_assoc, compare_refl, compare_eq, lt_compare}
use Rattle.canon.proofs.Compare.{when_eq, cmp_refl, cmp_eq}
use Rattle.canon.proofs.RowOrder.{row_by_lem, row_form, form_row}
use Rattle.canon.specs.CanonicalRows.{CanonicalRows}
use Rattle.rows.specs.Words.{concl_word, concl_inner, cond_key, cond_word, header_word, row_word}
use Rattle.ascending.specs.Inner.Words.{word, Laid, by_word, Told, NextAbove, KeyBelow, KeysAscend}
use Rattle.ascending.proofs.Comparing.{packed, skip, decided, both_eq, word_inner, by_parts, key_below, counted, counted_at, counted_left, counted_right, counted_same}
use Rattle.ascending.proofs.Keys.{concl_inner_lem, concl_words, cond_words, cond_apart}
use Rattle.ascending.proofs.Places.{Worded}

-- of six, as a row has words, the first that is not `eq` decides

lead : (o p q : Ordering) → (o ≡ Ordering.eq → ⊥) → and_then (and_then o p) q ≡ o
lead Ordering.lt p q n = refl
lead Ordering.eq p q n = absurd (n refl)
lead Ordering.gt p q n = refl

first_of : (o : ℕ → Ordering) (k : ℕ) → k < 6 → ((l : ℕ) → l < k → o l ≡ Ordering.eq) → (k < 5 → o k ≡ Ordering.eq → ⊥)
    → and_then (o 0) (and_then (and_then (o 1) (and_then (o 2) (and_then (o 3) (o 4)))) (o 5)) ≡ o k
first_of o zero i s n = decided (o 0) (and_then (and_then (o 1) (and_then (o 2) (and_then (o 3) (o 4)))) (o 5)) (n (omega arith))
first_of o (suc zero) i s n = rw (s 0 (omega arith)) (lead (o 1) (and_then (o 2) (and_then (o 3) (o 4))) (o 5) (n (omega arith)))
first_of o (suc (suc zero)) i s n = rw (s 0 (omega arith), s 1 (omega arith)) (lead (o 2) (and_then (o 3) (o 4)) (o 5) (n (omega arith)))
first_of o (suc (suc (suc zero))) i s n = rw (s 0 (omega arith), s 1 (omega arith), s 2 (omega arith)) (lead (o 3) (o 4) (o 5) (n (omega arith)))
first_of o (suc (suc (suc (suc zero)))) i s n = rw (s 0 (omega arith), s 1 (omega arith), s 2 (omega arith), s 3 (omega arith)) (decided (o 4) (o 5) (n (omega arith)))
first_of o (suc (suc (suc (suc (suc zero))))) i s n = rw (s 0 (omega arith), s 1 (omega arith), s 2 (omega arith), s 3 (omega arith), s 4 (omega arith))
first_of o (suc (suc (suc (suc (suc (suc k)))))) i s n = absurd (omega arith)

-- each place for a condition, also an unused one, is in form
every : (n : ℕ) (x : Row) → RowForm n x → (j : ℕ) → CondForm n x.prins x.res (get_or x.conds j blank_cond)
every n x a j = go (ltb j x.count) refl
  where
    go : (b : Bool) → ltb j x.count ≡ b → CondForm n x.prins x.res (get_or x.conds j blank_cond)
    go true e = a.used j (ltb-true j x.count e)
    go false e = rw (a.unused j (ltb-false j x.count e)) (inl (omega arith), (omega arith, inl (omega arith)))

-- the inner grant of a word is of a lower number
pub row_inner : (n : ℕ) (x : Row) (k : ℕ) → n ≤ grants → RowForm n x → row_word x k % 256 ≤ n
unfolding row_word header_word cond_word concl_word
row_inner n x zero l a = let e = word_inner (header_word x) (65536 * x.prins + (256 * x.res + x.count)) 0 (omega arith) (omega arith) in omega arith
row_inner n x (suc k) l a = go (ltb k 4)
  where
    c : ConclForm n x.prins x.res (get_or x.conds k blank_cond).what
    c = (every n x a k).1

    go : (b : Bool) → cond b (cond_word (get_or x.conds k blank_cond)) (concl_word x.head) % 256 ≤ n
    go true =
        let i = concl_inner_lem n x.prins x.res (get_or x.conds k blank_cond).what c in
        let e = word_inner (cond_word (get_or x.conds k blank_cond)) (cond_key (get_or x.conds k blank_cond)) (concl_inner (get_or x.conds k blank_cond).what) refl (omega arith) in
        omega arith
    go false =
        let i = concl_inner_lem n x.prins x.res x.head a.head in
        let e = word_inner (concl_word x.head) _ (concl_inner x.head) refl (omega arith) in
        omega arith

module _ (f : ℕ → ℕ → Ordering) (same : (i : ℕ) → f i i ≡ Ordering.eq) where
  word_same : (w : ℕ) → by_word (counted f) w w ≡ Ordering.eq
  word_same w = skip (compare (w / 256) (w / 256)) (counted f (w % 256) (w % 256)) (compare_refl (w / 256)) ∙ counted_same f same (w % 256)

  module _ (m n : ℕ) (x y : Row) (small : m ≤ grants) (little : n ≤ grants) (a : RowForm m x) (b : RowForm n y) where
    -- how the words at a place stand
    abbrev at : ℕ → Ordering
    at k = by_word (counted f) (row_word x k) (row_word y k)

    abbrev conds_at : ℕ → Ordering
    conds_at j = cond_by f (get_or x.conds j blank_cond) (get_or y.conds j blank_cond)

    header_by : and_then (compare x.prins y.prins) (and_then (compare x.res y.res) (compare x.count y.count)) ≡ at 0
    unfolding row_word header_word
    header_by =
        let p = a.res in let q = b.res in let r = a.count in let s = b.count in
        ap (and_then (compare x.prins y.prins)) (sym (packed (256 * x.res + x.count) (256 * y.res + y.count) x.res y.res x.count y.count (λ h. omega arith) (λ h. omega arith) (λ e h. omega arith) (λ e h. omega arith) (λ e h. omega arith)))
        ∙ sym (packed (65536 * x.prins + (256 * x.res + x.count)) (65536 * y.prins + (256 * y.res + y.count)) x.prins y.prins (256 * x.res + x.count) (256 * y.res + y.count) (λ h. omega arith) (λ h. omega arith) (λ e h. omega arith) (λ e h. omega arith) (λ e h. omega arith))
        ∙ sym (and_then_eq (compare (65536 * x.prins + (256 * x.res + x.count)) (65536 * y.prins + (256 * y.res + y.count))))
        ∙ ap (and_then (compare (65536 * x.prins + (256 * x.res + x.count)) (65536 * y.prins + (256 * y.res + y.count)))) (sym (counted_left f 0))
        ∙ sym (by_parts (counted f) (header_word x) (header_word y) (65536 * x.prins + (256 * x.res + x.count)) (65536 * y.prins + (256 * y.res + y.count)) 0 0 (omega arith) (omega arith) (omega arith) (omega arith))

    -- the four places for conditions, of which those from the count on are blank
    unused : x.count ≡ y.count → (j : ℕ) → x.count ≤ j → conds_at j ≡ Ordering.eq
    unused e j h = rw (a.unused j h, b.unused j (omega arith))

    four : (k : ℕ) → k ≤ 4 → ((j : ℕ) → k ≤ j → conds_at j ≡ Ordering.eq) → conds_by f x.conds y.conds 0 k ≡ and_then (conds_at 0) (and_then (conds_at 1) (and_then (conds_at 2) (conds_at 3)))
    unfolding conds_by
    four zero l h = sym (skip _ _ (h 0 (omega arith)) ∙ skip _ _ (h 1 (omega arith)) ∙ skip _ _ (h 2 (omega arith)) ∙ h 3 (omega arith))
    four (suc zero) l h = ap (and_then (conds_at 0)) (sym (skip _ _ (h 1 (omega arith)) ∙ skip _ _ (h 2 (omega arith)) ∙ h 3 (omega arith)))
    four (suc (suc zero)) l h = ap (λ (o : Ordering). and_then (conds_at 0) (and_then (conds_at 1) o)) (sym (skip _ _ (h 2 (omega arith)) ∙ h 3 (omega arith)))
    four (suc (suc (suc zero))) l h = ap (λ (o : Ordering). and_then (conds_at 0) (and_then (conds_at 1) (and_then (conds_at 2) o))) (sym (h 3 (omega arith)))
    four (suc (suc (suc (suc zero)))) l h = ap (λ (o : Ordering). and_then (conds_at 0) (and_then (conds_at 1) (and_then (conds_at 2) o))) (and_then_eq (conds_at 3))
    four (suc (suc (suc (suc (suc k))))) l h = absurd (omega arith)

    cond_at_lem : (j : ℕ) → conds_at j ≡ by_word (counted f) (cond_word (get_or x.conds j blank_cond)) (cond_word (get_or y.conds j blank_cond))
    cond_at_lem j = cond_words f m n x.prins x.res y.prins y.res small little (get_or x.conds j blank_cond) (get_or y.conds j blank_cond) (every m x a j) (every n y b j)

    -- rows stand as their words do, one after the other
    by_words : row_by f x y ≡ and_then (at 0) (and_then (and_then (at 1) (and_then (at 2) (and_then (at 3) (at 4)))) (at 5))
    unfolding row_by row_word
    by_words =
        let P = compare x.prins y.prins in
        let R = compare x.res y.res in
        let C = compare x.count y.count in
        let tail = and_then (and_then (conds_at 0) (and_then (conds_at 1) (and_then (conds_at 2) (conds_at 3)))) (concl_by f x.head y.head) in
        ap (λ (o : Ordering). and_then P (and_then R o)) (when_eq x.count y.count (and_then (conds_by f x.conds y.conds 0 x.count) (concl_by f x.head y.head)) tail
        (λ e. ap (λ (o : Ordering). and_then o (concl_by f x.head y.head)) (four x.count a.count (unused e))))
        ∙ ap (and_then P) (sym (and_then_assoc R C tail))
        ∙ sym (and_then_assoc P (and_then R C) tail)
        ∙ ap₂ and_then header_by
        (ap₂ and_then (ap₂ and_then (cond_at_lem 0) (ap₂ and_then (cond_at_lem 1) (ap₂ and_then (cond_at_lem 2) (cond_at_lem 3))))
        (concl_words f m n x.prins x.res y.prins y.res small little x.head y.head a.head b.head))

    module _ (apart : (i j : ℕ) → i < m → j < n → f i j ≡ Ordering.eq → i ≡ j) where
      -- words that stand as the same are the same
      at_apart : (k : ℕ) → k < 5 → (row_word x k ≡ row_word y k → ⊥) → at k ≡ Ordering.eq → ⊥
      unfolding row_word header_word
      at_apart zero l no_word e =
          let r = both_eq _ _ (sym (by_parts (counted f) (header_word x) (header_word y) (65536 * x.prins + (256 * x.res + x.count)) (65536 * y.prins + (256 * y.res + y.count)) 0 0 (omega arith) (omega arith) (omega arith) (omega arith)) ∙ e) in
          no_word (ap (λ (k : ℕ). 256 * k) (compare_eq _ _ r.0))
      at_apart (suc k) l no_word e = go (ltb k 4) refl no_word e
        where
          go : (t : Bool) → ltb k 4 ≡ t → (cond t (cond_word (get_or x.conds k blank_cond)) (concl_word x.head) ≡ cond t (cond_word (get_or y.conds k blank_cond)) (concl_word y.head) → ⊥)
              → by_word (counted f) (cond t (cond_word (get_or x.conds k blank_cond)) (concl_word x.head)) (cond t (cond_word (get_or y.conds k blank_cond)) (concl_word y.head)) ≡ Ordering.eq → ⊥
          go true q no_word e = no_word (cond_apart f m n x.prins x.res y.prins y.res small little apart (get_or x.conds k blank_cond) (get_or y.conds k blank_cond) (every m x a k) (every n y b k) e)
          go false q no_word e = let h = ltb-false k 4 q in absurd (omega arith)

      -- The first words that differ decide.
      pub first_words : (k : ℕ) → k < 6 → ((l : ℕ) → l < k → row_word x l ≡ row_word y l) → (k < 5 → row_word x k ≡ row_word y k → ⊥) → row_by f x y ≡ at k
      first_words k inside before here = by_words ∙ first_of at k inside (λ l h. eq_at l (before l h)) (λ l. at_apart k l (here l))
        where
          eq_at : (l : ℕ) → row_word x l ≡ row_word y l → at l ≡ Ordering.eq
          eq_at l e = ap (λ (w : ℕ). by_word (counted f) w (row_word y l)) e ∙ word_same (row_word y l)

-- the word of a condition, by its place
row_cond : (x : Row) (j : ℕ) → j < 4 → row_word x (j + 1) ≡ cond_word (get_or x.conds j blank_cond)
unfolding row_word
row_cond x j l = rw (add-one j, lt-ltb j 4 l)

module _ (t : Table) (form : TableForm t) where
  abbrev pub N : List Grant
  N = rows_out t.rows t.count

  -- how the grants of two numbers stand
  abbrev pub stands : ℕ → ℕ → Ordering
  stands i j = cmp_grant (get_or N i no_grant) (get_or N j no_grant)

  shown : Shown t.rows t.count N
  shown = form_shown t form

  abbrev row : ℕ → Row
  row i = get_or t.rows i no_row

  stands_apart : (i j : ℕ) → i < t.count → j < t.count → stands i j ≡ Ordering.eq → i ≡ j
  stands_apart i j a b e = let c = shown.counted in shown.distinct i j (omega arith) (omega arith) (cmp_eq (get_or N i no_grant) (get_or N j no_grant) e)

  -- grants stand as their rows do
  stands_rows : (i j : ℕ) → i < t.count → j < t.count → stands i j ≡ row_by stands (row i) (row j)
  stands_rows i j a b =
      ap₂ cmp_grant (shown.written i a) (shown.written j b)
      ∙ sym (row_by_lem N t.count stands (λ p q h l. refl) (row i) (row j) (row_up i t.count (row i) (omega arith) (form.used i a)) (row_up j t.count (row j) (omega arith) (form.used j b)))

  stands_same : (i : ℕ) → stands i i ≡ Ordering.eq
  stands_same i = cmp_refl (get_or N i no_grant)

  module _ (words : List (List ℕ)) (n : ℕ) (few : n ≤ t.count) (worded : Worded words t.rows n) where
    -- The words of the rows tell how the grants stand,
    pub told : Told (counted stands) words n
    told = record {
      same = counted_same stands stands_same;
      left = counted_left stands;
      right = counted_right stands;
      first = λ i j k a b ne h.
          let s = form.count in
          let u : row_word (row i) k ≡ word words i k = sym (worded i a k h.inside) in
          let v : row_word (row j) k ≡ word words j k = sym (worded j b k h.inside) in
          counted_at stands i j ∙ stands_rows i j (omega arith) (omega arith)
          ∙ first_words stands stands_same i j (row i) (row j) (omega arith) (omega arith) (form.used i (omega arith)) (form.used j (omega arith))
          (λ p q x y. stands_apart p q (omega arith) (omega arith)) k h.inside
          (λ l q. let w = h.inside in sym (worded i a l (omega arith)) ∙ h.same l q ∙ worded j b l (omega arith))
          (λ q e. h.apart q (sym u ∙ e ∙ v))
          ∙ ap₂ (by_word (counted stands)) u v;
    }

    -- and hold lower numbers only.
    pub laid : n ≤ length words → Laid words n
    laid l = record {
      long = l;
      lower = λ i k a b. let s = form.count in rw (worded i a k b) (row_inner i (row i) k (omega arith) (form.used i (omega arith)));
    }

    -- The words of two neighbours stand as the conditions do.
    next_by : (i j : ℕ) → i < n → j + 1 < (row i).count → cond_by stands (get_or (row i).conds j blank_cond) (get_or (row i).conds (j + 1) blank_cond) ≡ by_word (counted stands) (word words i (j + 1)) (word words i (j + 2))
    next_by i j a h =
        let s = form.count in
        let f = form.used i (omega arith) in
        let c = f.count in
        let e : j + 2 ≡ j + 1 + 1 = omega arith in
        cond_words stands i i (row i).prins (row i).res (row i).prins (row i).res (omega arith) (omega arith) (get_or (row i).conds j blank_cond) (get_or (row i).conds (j + 1) blank_cond) (f.used j (omega arith)) (f.used (j + 1) (omega arith))
        ∙ ap₂ (by_word (counted stands)) (sym (worded i a (j + 1) (omega arith) ∙ row_cond (row i) j (omega arith)))
        (sym (worded i a (j + 2) (omega arith) ∙ ap (row_word (row i)) e ∙ row_cond (row i) (j + 1) (omega arith)))

    -- A test of the words of a row decides whether its conditions ascend.
    pub row_decides : (i : ℕ) (r : Bool) → i < n → Decides r ((j : ℕ) → j + 1 < (row i).count → NextAbove (counted stands) words i j) → Decides r (Ascends stands (row i))
    row_decides i true a d = λ j h. next_by i j a h ∙ d j h
    row_decides i false a d = λ up. d (λ j h. sym (next_by i j a h) ∙ up j h)

  -- Conditions whose keys ascend do.
  pub keys_ascends : (i : ℕ) → i < t.count → KeysAscend (row i) → Ascends stands (row i)
  keys_ascends i l up j h = go (up j h)
    where
      go : KeyBelow (get_or (row i).conds j blank_cond) (get_or (row i).conds (j + 1) blank_cond) → cond_by stands (get_or (row i).conds j blank_cond) (get_or (row i).conds (j + 1) blank_cond) ≡ Ordering.lt
      go (inl q) = ap (λ (o : Ordering). and_then o (concl_by stands (get_or (row i).conds j blank_cond).what (get_or (row i).conds (j + 1) blank_cond).what)) (lt_compare _ _ q)
      go (inr q) =
          let s = form.count in
          let f = form.used i l in
          cond_words stands i i (row i).prins (row i).res (row i).prins (row i).res (omega arith) (omega arith) (get_or (row i).conds j blank_cond) (get_or (row i).conds (j + 1) blank_cond) (f.used j (omega arith)) (f.used (j + 1) (omega arith))
          ∙ key_below (counted stands) (cond_word (get_or (row i).conds j blank_cond)) (cond_word (get_or (row i).conds (j + 1) blank_cond)) q

  ascending_below : ((i : ℕ) → i < t.count → Ascends stands (row i)) → (k : ℕ) → k ≤ t.count → (i : ℕ) → i < k → Canonical (get_or N i no_grant)
  ascending_below up zero l i h = absurd (omega arith)
  ascending_below up (suc k) l i h = go (ℕ_discrete i k) (ascending_below up k (omega arith))
    where
      go : Dec (i ≡ k) → ((j : ℕ) → j < k → Canonical (get_or N j no_grant)) → Canonical (get_or N i no_grant)
      go (yes e) low = rw e (rw (shown.written k (omega arith)) (row_form N k stands (λ p q x y. refl) (row k) (form.used k (omega arith)) low (up k (omega arith))))
      go (no e) low = low i (omega arith)

  -- The grants are in canonical form where the conditions of each row ascend,
  pub ascending_canonical : ((i : ℕ) → i < t.count → Ascends stands (row i)) → CanonicalRows t
  ascending_canonical up = ascending_below up t.count (omega arith)

  -- and only there.
  pub canonical_ascending : CanonicalRows t → (i : ℕ) → i < t.count → Ascends stands (row i)
  canonical_ascending h i l = form_row N i stands (λ p q x y. refl) (row i) (form.used i l) (rw (shown.written i l) at (h i l))
