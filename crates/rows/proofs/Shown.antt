-- The rows below a count, written out, are N; and a table in form is one whose rows are so.
use Prim.Native.Nat.{ℕ, zero, suc, ◌+◌, ◌<◌, ◌≤◌}
use mathlib.Core.List.{List, [], ◌∷◌, ◌++◌}
use mathlib.Core.Bool.{Bool, true, false}
use mathlib.Core.Path.{◌≡◌, refl, sym, ap, subst, ◌∙◌}
use native.Mathlib.Omega.{arith}
use native.Mathlib.Nat.{not-suc-le-zero}
use lib.ListN.{length, get_or, take, drop, take-append-drop, length-append, replicate, get_or-replicate, length-replicate, get_or-append}
use lib.Seq.{get_or-append_seam, take-suc, length-take-le, take-length}
use lib.Dec.{ltb}
use borrow.Author.Tests.{ltb-true, ltb-false}
use Rattle.sorts.specs.Numbers.{depths, grants}
use Rattle.sorts.specs.declared.Row.{Row}
use Rattle.sorts.specs.Blank.{blank_row, no_row}
use Rattle.rows.specs.declared.Table.{Table}
use Rattle.rows.specs.Written.{Grant}
use Rattle.rows.specs.Form.{no_grant, write_row, rows_out, depth, TableForm}
use Rattle.sorts.specs.RowForm.{RowForm}
use Rattle.rows.proofs.Place.{Distinct}
use Rattle.rows.proofs.Rows.{RowBelow, form_below, below_up, row_ext, row_inj}

pub record Shown (rows : List Row) (count : ℕ) (N : List Grant) : Type 0 where
  pub places : length rows ≡ grants
  pub counted : count ≡ length N
  pub small : count ≤ grants
  pub used : (i : ℕ) → i < count → RowForm i (get_or rows i no_row)
  pub unused : (i : ℕ) → count ≤ i → i < grants → get_or rows i no_row ≡ blank_row
  pub written : (i : ℕ) → i < count → get_or N i no_grant ≡ write_row N (get_or rows i no_row)
  pub distinct : Distinct N
  pub depths : (i : ℕ) → i < count → depth (get_or N i no_grant) ≤ depths

pub length_more : (N : List Grant) (g : Grant) → length (N ++ (g ∷ [])) ≡ length N + 1
length_more N g = length-append N (g ∷ [])

-- a new grant at the end leaves no grant twice
pub distinct_more : (N : List Grant) (g : Grant) → Distinct N → ((i : ℕ) → i < length N → get_or N i no_grant ≡ g → ⊥) → Distinct (N ++ (g ∷ []))
distinct_more N g dis new i j hi hj e = go (ltb i (length N)) refl (ltb j (length N)) refl
  where
    old : (k : ℕ) → k < length N → get_or (N ++ (g ∷ [])) k no_grant ≡ get_or N k no_grant
    old k h = get_or-append N (g ∷ []) no_grant k h

    last : (k : ℕ) → k ≡ length N → get_or (N ++ (g ∷ [])) k no_grant ≡ g
    last k q = ap (λ (n : ℕ). get_or (N ++ (g ∷ [])) n no_grant) q ∙ get_or-append_seam N g [] no_grant

    is_last : (k : ℕ) → k < length (N ++ (g ∷ [])) → length N ≤ k → k ≡ length N
    is_last k h l = let m = length_more N g in omega arith

    go : (p : Bool) → ltb i (length N) ≡ p → (q : Bool) → ltb j (length N) ≡ q → i ≡ j
    go true p true q =
        let a = ltb-true i (length N) p in let b = ltb-true j (length N) q in
        dis i j a b (sym (old i a) ∙ e ∙ old j b)
    go true p false q =
        let a = ltb-true i (length N) p in
        absurd (new i a (sym (old i a) ∙ e ∙ last j (is_last j hj (ltb-false j (length N) q))))
    go false p true q =
        let b = ltb-true j (length N) q in
        absurd (new j b (sym (old j b) ∙ sym e ∙ last i (is_last i hi (ltb-false i (length N) p))))
    go false p false q = is_last i hi (ltb-false i (length N) p) ∙ sym (is_last j hj (ltb-false j (length N) q))

pub out_length : (rows : List Row) (k : ℕ) → length (rows_out rows k) ≡ k
unfolding rows_out
out_length rows zero = refl
out_length rows (suc k) = let h = out_length rows k in let m = length_more (rows_out rows k) (write_row (rows_out rows k) (get_or rows k no_row)) in omega arith

-- the rows of a table in form, k of them

module _ (t : Table) (f : TableForm t) where
  abbrev row_at : ℕ → Row
  row_at i = get_or t.rows i no_row

  abbrev out : ℕ → List Grant
  out k = rows_out t.rows k

  at_below : (k i : ℕ) → i < k → i < t.count → RowBelow (length (out k)) (row_at i)
  at_below k i l h = below_up i (length (out k)) (row_at i) (omega (arith, out_length t.rows k)) (form_below i (row_at i) (f.used i h))

  out_at : (k : ℕ) → k ≤ t.count → (i : ℕ) → i < k → get_or (out k) i no_grant ≡ write_row (out k) (row_at i)
  unfolding rows_out
  out_at zero h i l = absurd (not-suc-le-zero l)
  out_at (suc k) h i l = go (ltb i k) refl (out_at k (omega arith) i)
    where
      g : Grant
      g = write_row (out k) (row_at k)

      small : length (out k) ≤ grants
      small = omega (arith, out_length t.rows k, f.count)

      go : (b : Bool) → ltb i k ≡ b → (i < k → get_or (out k) i no_grant ≡ write_row (out k) (row_at i)) → get_or (out k ++ (g ∷ [])) i no_grant ≡ write_row (out k ++ (g ∷ [])) (row_at i)
      go true q ih =
          let a = ltb-true i k q in
          get_or-append (out k) (g ∷ []) no_grant i (omega (arith, out_length t.rows k)) ∙ ih a ∙
          sym (row_ext (out k) (g ∷ []) small (row_at i) (at_below k i a (omega arith)))
      go false q ih =
          let a = ltb-false i k q in
          let e : i ≡ length (out k) = omega (arith, out_length t.rows k) in
          let d : i ≡ k = omega arith in
          let b : RowBelow (length (out k)) (row_at k) = below_up k (length (out k)) (row_at k) (omega (arith, out_length t.rows k)) (form_below k (row_at k) (f.used k (omega arith))) in
          ap (λ (n : ℕ). get_or (out k ++ (g ∷ [])) n no_grant) e ∙ get_or-append_seam (out k) g [] no_grant ∙
          sym (row_ext (out k) (g ∷ []) small (row_at k) b) ∙ ap (λ (n : ℕ). write_row (out k ++ (g ∷ [])) (row_at n)) (sym d)

  out_distinct : (k : ℕ) → k ≤ t.count → Distinct (out k)
  unfolding rows_out
  out_distinct zero h = λ i j l. absurd (not-suc-le-zero l)
  out_distinct (suc k) h = distinct_more (out k) (write_row (out k) (row_at k)) (out_distinct k (omega arith)) (new (out_distinct k (omega arith)))
    where
      new : Distinct (out k) → (i : ℕ) → i < length (out k) → get_or (out k) i no_grant ≡ write_row (out k) (row_at k) → ⊥
      new dis i l e =
          let len = out_length t.rows k in
          let c = f.count in
          let a : i < k = omega arith in
          let b : RowBelow (length (out k)) (row_at k) = below_up k (length (out k)) (row_at k) (omega arith) (form_below k (row_at k) (f.used k (omega arith))) in
          let q : row_at i ≡ row_at k = row_inj (out k) (omega arith) dis (row_at i) (row_at k) (at_below k i a (omega arith)) b (sym (out_at k (omega arith) i a) ∙ e) in
          let d : i ≡ k = f.distinct i k (omega arith) (omega arith) q in
          omega arith

  -- a table in form shows its rows written out
  pub form_shown : Shown t.rows t.count (rows_out t.rows t.count)
  form_shown = record {
    places = f.places;
    counted = sym (out_length t.rows t.count);
    small = f.count;
    used = f.used;
    unused = f.unused;
    written = out_at t.count (omega arith);
    distinct = out_distinct t.count (omega arith);
    depths = f.depths;
  }

-- and what rows show is their writing out

module _ {rows : List Row} {count : ℕ} {N : List Grant} (R : Shown rows count N) where
  pub shown_below : (i : ℕ) → i < count → RowBelow (length N) (get_or rows i no_row)
  shown_below i l = let c = R.counted in below_up i (length N) (get_or rows i no_row) (omega arith) (form_below i (get_or rows i no_row) (R.used i l))

  out_take : (k : ℕ) → k ≤ count → rows_out rows k ≡ take k N
  unfolding rows_out
  out_take zero h = refl
  out_take (suc k) h =
      let c = R.counted in
      let l : k < length N = omega arith in
      let s : length (take k N) ≡ k = length-take-le k N (omega arith) in
      let split : N ≡ take k N ++ drop k N = sym (take-append-drop k N) in
      let b : RowBelow (length (take k N)) (get_or rows k no_row) = below_up k (length (take k N)) (get_or rows k no_row) (omega arith) (form_below k (get_or rows k no_row) (R.used k (omega arith))) in
      let m = R.small in
      let w : write_row (take k N) (get_or rows k no_row) ≡ get_or N k no_grant =
      sym (row_ext (take k N) (drop k N) (omega arith) (get_or rows k no_row) b) ∙ ap (λ (M : List Grant). write_row M (get_or rows k no_row)) (sym split) ∙ sym (R.written k (omega arith)) in
      ap (λ (M : List Grant). M ++ (write_row M (get_or rows k no_row) ∷ [])) (out_take k (omega arith)) ∙
      ap (λ (g : Grant). take k N ++ (g ∷ [])) w ∙ sym (take-suc N k no_grant l)

  pub shown_out : rows_out rows count ≡ N
  shown_out = let c = R.counted in out_take count (omega arith) ∙ ap (λ (n : ℕ). take n N) c ∙ take-length N

  pub shown_form : TableForm (record { rows = rows; count = count })
  shown_form = record {
    places = R.places;
    count = R.small;
    used = R.used;
    unused = R.unused;
    distinct = λ i j hi hj e.
        let c = R.counted in
        R.distinct i j (omega arith) (omega arith) (R.written i hi ∙ ap (write_row N) e ∙ sym (R.written j hj));
    depths = λ i h. subst (λ (M : List Grant). depth (get_or M i no_grant) ≤ depths) (sym shown_out) (R.depths i h);
  }

-- The blank table is in form, and shows nothing.
pub blank_shown : Shown (replicate grants blank_row) 0 []
blank_shown = record {
  places = length-replicate grants blank_row;
  counted = refl;
  small = omega arith;
  used = λ i l. absurd (not-suc-le-zero l);
  unused = λ i l h. get_or-replicate grants i blank_row no_row h;
  written = λ i l. absurd (not-suc-le-zero l);
  distinct = λ i j l. absurd (not-suc-le-zero l);
  depths = λ i l. absurd (not-suc-le-zero l);
}
