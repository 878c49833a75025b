-- A row written out, with its grants as their numbers again, is the row; so rows that show the same grants are the same.
use Prim.Native.Nat.{ℕ, zero, suc, ◌+◌, ◌≤◌, ◌<◌}
use mathlib.Core.Path.{◌≡◌, refl, sym, ap, ◌∙◌}
use mathlib.Core.List.{List, ◌∷◌}
use native.Mathlib.Omega.{arith}
use native.Mathlib.Numerals.{add-one}
use lib.ListN.{length, get_or, drop, get_or-append}
use lib.Seq.{drop-cons, drop-length}
use Rattle.sorts.specs.declared.Cond.{Cond}
use Rattle.sorts.specs.declared.Row.{Row}
use Rattle.sorts.specs.Blank.{blank_cond, no_row}
use Rattle.rows.specs.Written.{Grant, none, how_many}
use Rattle.rows.specs.Form.{no_grant, conds_of, row_of, write_conds, write_row}
use Rattle.rows.proofs.Place.{Distinct}
use Rattle.rows.proofs.RowSame.{row_path}
use Rattle.rows.proofs.Rows.{ConclBelow, RowBelow, row_ext}
use Rattle.rows.proofs.Shown.{Shown, shown_below}
use Rattle.rows.proofs.Known.{concl_back}
use Rattle.rows.proofs.Appended.{Ext, ext_length}

module _ (N : List Grant) (small : length N ≤ 64) (dis : Distinct N) where
  many_back : (cs : List Cond) (i k : ℕ) → how_many (write_conds N cs i k) ≡ k
  unfolding write_conds
  many_back cs i zero = refl
  many_back cs i (suc k) = ap suc (many_back cs (i + 1) k)

  conds_back : (cs : List Cond) (i k j : ℕ) → i + j ≡ length cs → k ≤ j → ((n : ℕ) → i ≤ n → n < i + k → ConclBelow (length N) (get_or cs n blank_cond).what) →
      ((n : ℕ) → i + k ≤ n → get_or cs n blank_cond ≡ blank_cond) → conds_of N (write_conds N cs i k) j ≡ drop i cs
  unfolding conds_of write_conds
  conds_back cs i zero zero e l b u = sym (ap (λ (n : ℕ). drop n cs) {x = i} {y = length cs} (omega arith) ∙ drop-length cs)
  conds_back cs i zero (suc j) e l b u =
      let h : i < length cs = omega arith in
      let rest : conds_of N none j ≡ drop (i + 1) cs = conds_back cs (i + 1) zero j (omega arith) (omega arith) (λ n p q. b n (omega arith) (omega arith)) (λ n q. u n (omega arith)) in
      ap (λ (t : List Cond). blank_cond ∷ t) rest ∙ sym (drop-cons cs i blank_cond h ∙ (λ z. u i (omega arith) z ∷ ap (λ (n : ℕ). drop n cs) (sym (add-one i)) z))
  conds_back cs i (suc k) zero e l b u = absurd (omega arith)
  conds_back cs i (suc k) (suc j) e l b u =
      let h : i < length cs = omega arith in
      (λ z. record { who = (get_or cs i blank_cond).who; what = concl_back N small dis (get_or cs i blank_cond).what (b i (omega arith) (omega arith)) z } ∷ conds_back cs (i + 1) k j (omega arith) (omega arith) (λ n p q. b n (omega arith) (omega arith)) (λ n q. u n (omega arith)) z) ∙
      sym (drop-cons cs i blank_cond h ∙ (λ z. get_or cs i blank_cond ∷ ap (λ (n : ℕ). drop n cs) (sym (add-one i)) z))

  pub row_back : (x : Row) → RowBelow (length N) x → x.count ≤ 4 → row_of N (write_row N x) ≡ x
  unfolding row_of write_row
  row_back x b few =
      row_path (row_of N (write_row N x)) x refl refl (many_back x.conds 0 x.count)
      (conds_back x.conds 0 x.count 4 (sym b.places) few (λ n p q. b.used n (omega arith)) (λ n q. b.unused n (omega arith)))
      (concl_back N small dis x.head b.head)

-- the row with number g is the row of the grant with that number
pub shown_row : {rows : List Row} {count : ℕ} {N : List Grant} → Shown rows count N → (g : ℕ) → g < count → get_or rows g no_row ≡ row_of N (get_or N g no_grant)
shown_row {rows} {count} {N} S g l =
    let c = S.counted in
    let s = S.small in
    sym (ap (row_of N) (S.written g l) ∙ row_back N (omega arith) S.distinct (get_or rows g no_row) (shown_below S g l) (S.used g l).count)

-- where more grants are numbered, those that were have the same rows
pub shown_more : {rows rows' : List Row} {count count' : ℕ} {N N' : List Grant} → Shown rows count N → Shown rows' count' N' → Ext N N' → (g : ℕ) → g < count → get_or rows g no_row ≡ get_or rows' g no_row
shown_more {rows} {rows'} {count} {count'} {N} {N'} S S' x g l =
    let c = S.counted in
    let s = S.small in
    let c' = S'.counted in
    let s' = S'.small in
    let n = ext_length x in
    let w : get_or N' g no_grant ≡ write_row N' (get_or rows g no_row) =
    ap (λ (X : List Grant). get_or X g no_grant) x.is ∙ get_or-append N x.more no_grant g (omega arith) ∙ S.written g l ∙
    sym (ap (λ (X : List Grant). write_row X (get_or rows g no_row)) x.is ∙ row_ext N x.more (omega arith) (get_or rows g no_row) (shown_below S g l)) in
    sym (shown_row S' g (omega arith) ∙ ap (row_of N') w ∙
    row_back N' (omega arith) S'.distinct (get_or rows g no_row) (Rattle.rows.proofs.Rows.below_up (length N) (length N') (get_or rows g no_row) n (shown_below S g l)) (S.used g l).count)
