-- The depths that are worked out row by row are the depths of the rows written out.
use Prim.Native.Nat.{ℕ, zero, suc, ◌+◌, ◌<◌, ◌≤◌, max}
use mathlib.Core.List.{List, [], ◌∷◌, ◌++◌}
use mathlib.Core.Bool.{Bool, true, false, cond}
use mathlib.Core.Path.{◌≡◌, refl, sym, ap, ap₂, ◌∙◌}
use mathlib.Core.Logic.{inl, inr}
use native.Mathlib.Omega.{arith}
use native.Mathlib.Nat.{not-suc-le-zero}
use native.Mathlib.Numerals.{add-one}
use lib.ListN.{length, get_or, set, drop, length-set, get_or-append, get_or-eq_default, drop_of_length-le}
use lib.Seq.{drop-cons, get_or-append_seam, get_or-set_same, get_or-set_other}
use lib.Dec.{ltb, leb}
use Rattle.std.specs.List.{fold}
use Rattle.std.proofs.Math.Nat.{max-zero}
use borrow.Author.Tests.{leb-true, leb-false, ltb-true, ltb-false}
use Rattle.sorts.specs.Numbers as numbers
use Rattle.sorts.specs.declared.Res.{Res}
use Rattle.sorts.specs.declared.Res.TheVariants.{Issue, Run, Export}
use Rattle.sorts.specs.declared.Concl.{Concl}
use Rattle.sorts.specs.declared.Concl.TheVariants.{Property, Perm}
use Rattle.sorts.specs.declared.Cond.{Cond}
use Rattle.sorts.specs.declared.Row.{Row}
use Rattle.sorts.specs.Blank.{blank_cond, no_row}
use Rattle.rows.specs.Written.{Grant}
use Rattle.rows.specs.Form.{no_grant, write_res, write_concl, write_conds, write_row, rows_out, larger, depth, depth_conds, depth_concl, depth_right}
use Rattle.sorts.specs.RowForm.{RowForm}
use Rattle.rows.proofs.Rows.{ResBelow, ConclBelow, RowBelow, form_below, below_up, row_ext, write_any, write_issue}
use Rattle.rows.proofs.Shown.{out_length}
use Rattle.form.specs.Inner.Depths.{depth_of_res, depth_of_concl, depth_of_conds, held_depth}
use Rattle.rows.proofs.Deciding.{each_more}

-- the larger of two numbers, as the form of a table spells it
larger_max : (a b : ℕ) → larger a b ≡ max a b
larger_max a b = go (leb a b) refl
  where
    go : (r : Bool) → leb a b ≡ r → cond r b a ≡ max a b
    go true e = let l = leb-true a b e in omega arith
    go false e = let l = leb-false a b e in omega arith

-- blank conditions hold no grant, so that those past the count do not count

module _ (depths : List ℕ) (cs : List Cond) where
  conds_blank : (a k : ℕ) → ((j : ℕ) → a ≤ j → get_or cs j blank_cond ≡ blank_cond) → depth_of_conds depths cs a k ≡ 0
  unfolding depth_of_conds depth_of_concl
  conds_blank a zero b = refl
  conds_blank a (suc k) b = rw (b a (omega arith), conds_blank (a + 1) k (λ j l. b j (omega arith)))

  conds_cut : (a n m : ℕ) → n ≤ m → ((j : ℕ) → a + n ≤ j → get_or cs j blank_cond ≡ blank_cond) → depth_of_conds depths cs a m ≡ depth_of_conds depths cs a n
  unfolding depth_of_conds
  conds_cut a zero m l b = conds_blank a m (λ j h. b j (omega arith))
  conds_cut a (suc n) zero l b = absurd (not-suc-le-zero l)
  conds_cut a (suc n) (suc m) l b = ap (max (depth_of_concl depths (get_or cs a blank_cond).what)) (conds_cut (a + 1) n m (omega arith) (λ j h. b j (omega arith)))

-- a fold over the conditions from place i on finds the largest
conds_folded : (depths : List ℕ) (cs : List Cond) (i k d : ℕ) → i + k ≡ length cs → fold (λ a c. max a (depth_of_concl depths c.what)) d (drop i cs) ≡ max d (depth_of_conds depths cs i k)
unfolding depth_of_conds
conds_folded depths cs i zero d e = ap (fold (λ a c. max a (depth_of_concl depths c.what)) d) (drop_of_length-le cs (omega arith)) ∙ sym (max-zero d)
conds_folded depths cs i (suc k) d e =
    let x = depth_of_concl depths (get_or cs i blank_cond).what in
    let m : max (max d x) (depth_of_conds depths cs (i + 1) k) ≡ max d (max x (depth_of_conds depths cs (i + 1) k)) = omega arith in
    let s : drop i cs ≡ get_or cs i blank_cond ∷ drop (i + 1) cs = rw add-one (drop-cons cs i blank_cond (omega arith)) in
    ap (fold (λ a c. max a (depth_of_concl depths c.what)) d) s ∙ conds_folded depths cs (i + 1) k (max d x) (omega arith) ∙ m

pub conds_fold : (depths : List ℕ) (cs : List Cond) → length cs ≡ numbers.conditions → fold (λ a c. max a (depth_of_concl depths c.what)) 0 cs ≡ depth_of_conds depths cs 0 numbers.conditions
conds_fold depths cs e = let z : max 0 (depth_of_conds depths cs 0 numbers.conditions) ≡ depth_of_conds depths cs 0 numbers.conditions = omega arith in conds_folded depths cs 0 numbers.conditions 0 (sym e) ∙ z

-- where the depths of the grants with numbers below i are right, so is that of a row that holds no others

module _ (depths : List ℕ) (N : List Grant) (i : ℕ) (small : i ≤ numbers.grants) (long : length depths ≡ numbers.grants) (known : (j : ℕ) → j < i → get_or depths j 0 ≡ depth (get_or N j no_grant)) where
  res_right : (x : Res) → ResBelow i x → depth_of_res depths x ≡ depth_right (write_res N x)
  unfolding depth_of_res depth
  res_right (Issue g) (inl l) = known g.0 l ∙ ap depth_right (sym (write_issue N g.0 (omega arith)))
  res_right (Issue g) (inr e) = get_or-eq_default depths 0 (omega arith) ∙ ap depth_right (sym (write_any N g.0 e))
  res_right (Run n) b = refl
  res_right (Export n) b = refl

  concl_right : (x : Concl) → ConclBelow i x → depth_of_concl depths x ≡ depth_concl (write_concl N x)
  unfolding depth_of_concl depth
  concl_right (Property k p) b = refl
  concl_right (Perm p x) b = res_right x b

  conds_right : (cs : List Cond) (a k : ℕ) → ((j : ℕ) → j < a + k → ConclBelow i (get_or cs j blank_cond).what) → depth_of_conds depths cs a k ≡ depth_conds (write_conds N cs a k)
  unfolding depth_of_conds depth write_conds
  conds_right cs a zero b = refl
  conds_right cs a (suc k) b =
      ap₂ max (concl_right (get_or cs a blank_cond).what (b a (omega arith))) (conds_right cs (a + 1) k (λ j l. b j (omega arith))) ∙ sym (larger_max _ _)

  row_right : (x : Row) → x.count ≤ numbers.conditions → ((j : ℕ) → x.count ≤ j → get_or x.conds j blank_cond ≡ blank_cond) → RowBelow i x → suc (held_depth depths x) ≡ depth (write_row N x)
  unfolding depth write_row
  row_right x n u b =
      let e : depth_of_conds depths x.conds 0 numbers.conditions ≡ depth_conds (write_conds N x.conds 0 x.count) =
      conds_cut depths x.conds 0 x.count numbers.conditions n (λ j l. u j (omega arith)) ∙ conds_right x.conds 0 x.count (λ j l. b.used j (omega arith)) in
      ap suc (ap₂ max e (concl_right x.head b.head) ∙ sym (larger_max _ _))

-- the depth of row i
abbrev depth_at : List Row → ℕ → ℕ → ℕ
depth_at rows count i = depth (get_or (rows_out rows count) i no_grant)

-- the depths of the rows below i, worked out
pub record Worked (rows : List Row) (count i : ℕ) (depths : List ℕ) : Type 0 where
  pub places : length depths ≡ numbers.grants
  pub right : (j : ℕ) → j < i → get_or depths j 0 ≡ depth_at rows count j
  pub low : (j : ℕ) → j < i → depth_at rows count j ≤ numbers.depths

-- rows that are in form, each by itself

module _ (rows : List Row) (count : ℕ) (small : count ≤ numbers.grants) (used : (i : ℕ) → i < count → RowForm i (get_or rows i no_row)) where
  abbrev row_at : ℕ → Row
  row_at i = get_or rows i no_row

  abbrev out : ℕ → List Grant
  out k = rows_out rows k

  at_below : (k i : ℕ) → i ≤ k → i < count → RowBelow (length (out k)) (row_at i)
  at_below k i l h = below_up i (length (out k)) (row_at i) (omega (arith, out_length rows k)) (form_below i (row_at i) (used i h))

  -- what stands at a number is the row of that number, written out
  out_at : (k : ℕ) → k ≤ count → (i : ℕ) → i < k → get_or (out k) i no_grant ≡ write_row (out k) (row_at i)
  unfolding rows_out
  out_at zero h i l = absurd (not-suc-le-zero l)
  out_at (suc k) h i l = go (ltb i k) refl (out_at k (omega arith) i)
    where
      g : Grant
      g = write_row (out k) (row_at k)

      fits : length (out k) ≤ numbers.grants
      fits = omega (arith, out_length rows k)

      go : (b : Bool) → ltb i k ≡ b → (i < k → get_or (out k) i no_grant ≡ write_row (out k) (row_at i)) → get_or (out k ++ (g ∷ [])) i no_grant ≡ write_row (out k ++ (g ∷ [])) (row_at i)
      go true q ih =
          let a = ltb-true i k q in
          get_or-append (out k) (g ∷ []) no_grant i (omega (arith, out_length rows k)) ∙ ih a ∙
          sym (row_ext (out k) (g ∷ []) fits (row_at i) (at_below k i (omega arith) (omega arith)))
      go false q ih =
          let a = ltb-false i k q in
          let e : i ≡ length (out k) = omega (arith, out_length rows k) in
          let d : i ≡ k = omega arith in
          ap (λ (n : ℕ). get_or (out k ++ (g ∷ [])) n no_grant) e ∙ get_or-append_seam (out k) g [] no_grant ∙
          sym (row_ext (out k) (g ∷ []) fits (row_at k) (at_below k k (omega arith) (omega arith))) ∙ ap (λ (n : ℕ). write_row (out k ++ (g ∷ [])) (row_at n)) (sym d)

  depth_right_lem : (i : ℕ) (depths : List ℕ) → i < count → Worked rows count i depths → suc (held_depth depths (row_at i)) ≡ depth_at rows count i
  depth_right_lem i depths l w =
      row_right depths (out count) i (omega arith) w.places w.right (row_at i) (used i l).count (used i l).unused (form_below i (row_at i) (used i l)) ∙ ap depth (sym (out_at count (omega arith) i l))

  pub too_deep : (i d : ℕ) (depths : List ℕ) → i < count → Worked rows count i depths → d ≡ held_depth depths (row_at i) → numbers.depths ≤ d → depth_at rows count i ≤ numbers.depths → ⊥
  too_deep i d depths l w e h f = let r = depth_right_lem i depths l w in omega arith

  pub worked_more : (i d : ℕ) (depths : List ℕ) → i < count → Worked rows count i depths → d ≡ held_depth depths (row_at i) → d < numbers.depths → Worked rows count (i + 1) (set depths i (d + 1))
  worked_more i d depths l w e h = record {
    places = length-set depths i (d + 1) ∙ w.places;
    right = each_more (λ (j : ℕ). get_or (set depths i (d + 1)) j 0 ≡ depth_at rows count j) i
        (λ j m. get_or-set_other depths i j (d + 1) 0 (λ (q : j ≡ i). omega arith) ∙ w.right j m)
        (get_or-set_same depths i (d + 1) 0 (omega (arith, w.places)) ∙ here);
    low = each_more (λ (j : ℕ). depth_at rows count j ≤ numbers.depths) i w.low (omega (arith, here));
  }
    where
      here : d + 1 ≡ depth_at rows count i
      here = let r = depth_right_lem i depths l w in omega arith
