-- Entering a row is adding the grant that it is, written out.
use Prim.Native.Nat.{ℕ, ◌+◌, ◌<◌, ◌≤◌}
use mathlib.Core.List.{List, [], ◌∷◌, ◌++◌}
use mathlib.Core.Bool.{Bool, true, false, cond}
use mathlib.Core.Path.{◌≡◌, refl, sym, ap, subst, ◌∙◌}
use native.Mathlib.Omega.{arith}
use lib.ListN.{length, get_or, set, take, length-set, get_or-append}
use lib.Seq.{get_or-append_seam, get_or-set_same, get_or-set_other}
use lib.Dec.{ltb}
use borrow.Author.Tests.{ltb-true, ltb-false, lt-ltb}
use Rattle.std.specs.Prelude.{Option, Some, None}
use Rattle.std.specs.List.{position_or_len}
use Rattle.std.proofs.lemmas.List.{length-take-le, get_or-take}
use Rattle.std.proofs.lemmas.List.Quantifiers.{position-Some}
use Rattle.std.proofs.lemmas.List.Sums.{fails_before_first}
use Rattle.sorts.specs.Numbers.{depths, grants}
use Rattle.sorts.specs.declared.Row.{Row}
use Rattle.sorts.specs.Blank.{no_row}
use Rattle.rows.specs.declared.Table.{Table}
use Rattle.rows.specs.declared.Numbering.{Numbering}
use Rattle.rows.specs.Inner.Lookup.{find_row, with_row, Entered, entered_at, entered}
use Rattle.rows.specs.Written.{Grant}
use Rattle.rows.specs.Numbering.{place, has, add}
use Rattle.rows.specs.Form.{no_grant, write_row, depth}
use Rattle.sorts.specs.RowForm.{RowForm}
use Rattle.sorts.specs.contracts.RowPartialEq.TheImpl as row
use Rattle.sorts.proofs.Same.{row_same}
use Rattle.rows.proofs.Bytes.{no_true}
use Rattle.rows.proofs.Deciding.{each_more}
use Rattle.rows.proofs.Place.{place_at, place_lt}
use Rattle.rows.proofs.Rows.{RowBelow, form_below, row_ext, row_inj}
use Rattle.rows.proofs.Shown.{Shown, length_more, distinct_more, shown_below}

-- Looking up: the row is there, or none of the rows given is the same.
module _ (t : Table) (x : Row) (places : length t.rows ≡ grants) (small : t.count ≤ grants) where
  abbrev is : Row → Bool
  is y = row.ghosts.eq y x

  many : length (take t.count t.rows) ≡ t.count
  many = length-take-le t.count t.rows (omega arith)

  found : (i : ℕ) → find_row t x ≡ Some i → (i < t.count) × (get_or t.rows i no_row ≡ x)
  found i e =
      let p = position-Some is (take t.count t.rows) i no_row e in
      let l : i < t.count = omega (arith, p.0, many) in
      (l, (row_same (get_or t.rows i no_row) x).0 (ap is (sym (get_or-take t.count t.rows i no_row l)) ∙ p.1))

  missing : find_row t x ≡ None → (i : ℕ) → i < t.count → get_or t.rows i no_row ≡ x → ⊥
  missing e i l h = go (ltb first (length (take t.count t.rows))) refl e
    where
      first : ℕ
      first = position_or_len is (take t.count t.rows)

      go : (b : Bool) → ltb first (length (take t.count t.rows)) ≡ b → ◌≡◌ {A = Option ℕ} (cond b (Some first) None) None → ⊥
      go true q e = cc
      go false q e =
          let all : length (take t.count t.rows) ≤ first = ltb-false _ _ q in
          let f : is (get_or (take t.count t.rows) i no_row) ≡ false = fails_before_first is (take t.count t.rows) i no_row (omega (arith, many)) in
          no_true (sym f ∙ ap is (get_or-take t.count t.rows i no_row l) ∙ (row_same (get_or t.rows i no_row) x).1 h)

-- the table shows N, or it had no room for all of N
pub data Good (u : Numbering) (N : List Grant) : Type 0 where
  tied : u.full ≡ false → Shown u.table.rows u.table.count N → Good u N
  over : u.full ≡ true → grants < length N → u.table.count ≤ grants → Good u N

-- g's number in N, where the table has room
unfoldable pub Names : Numbering → List Grant → ℕ → Grant → Type 0
Names u N i g = u.full ≡ false → (i < length N) × (get_or N i no_grant ≡ g)

-- what entering a row leaves
pub record Put (N : List Grant) (g : Grant) (e : Entered) : Type 0 where
  pub good : Good e.numbering (add g N)
  pub names : Names e.numbering (add g N) e.no.0 g

module _ (u : Numbering) (N : List Grant) (x : Row) (room : u.full ≡ false) (R : Shown u.table.rows u.table.count N) (F : RowForm (length N) x) (D : depth (write_row N x) ≤ depths) where
  B : RowBelow (length N) x
  B = form_below (length N) x F

  small : length N ≤ grants
  small = let c = R.counted in let s = R.small in omega arith

  abbrev t : Table
  t = u.table

  -- where the row stands, its number is the grant's
  put_old : (v : ℕ) → v < t.count → get_or t.rows v no_row ≡ x → Put N (write_row N x) (record { numbering = u; no = record { 0 = v } })
  unfolding add has Names
  put_old v lt q =
      let cnt = R.counted in
      let l : v < length N = omega arith in
      let h : get_or N v no_grant ≡ write_row N x = R.written v lt ∙ ap (write_row N) q in
      let p = lt-ltb _ _ (place_lt (write_row N x) N v l h) in
      record { good = rw p (tied room R); names = λ f. rw p (l, h) }

  -- where it does not stand, the grant is not in N
  put_new : ((i : ℕ) → i < t.count → get_or t.rows i no_row ≡ x → ⊥) → (i : ℕ) → i < length N → get_or N i no_grant ≡ write_row N x → ⊥
  put_new miss i l e =
      let cnt = R.counted in
      let lt : i < t.count = omega arith in
      miss i lt (row_inj N small R.distinct (get_or t.rows i no_row) x (shown_below R i lt) B (sym (R.written i lt) ∙ e))

  not_has : ((i : ℕ) → i < length N → get_or N i no_grant ≡ write_row N x → ⊥) → has (write_row N x) N ≡ false
  unfolding has
  not_has new = go (ltb (place (write_row N x) N) (length N)) refl
    where
      go : (b : Bool) → ltb (place (write_row N x) N) (length N) ≡ b → ltb (place (write_row N x) N) (length N) ≡ false
      go true e = let l = ltb-true _ _ e in absurd (new (place (write_row N x) N) l (place_at (write_row N x) N l))
      go false e = e

  more : Numbering
  more = record { table = with_row t x; full = u.full }

  put_more : ((i : ℕ) → i < length N → get_or N i no_grant ≡ write_row N x → ⊥) → t.count < grants → Put N (write_row N x) (record { numbering = more; no = record { 0 = t.count } })
  unfolding add Names more
  put_more new lt =
      rw_put (not_has new)
    where
      g : Grant
      g = write_row N x

      N' : List Grant
      N' = N ++ (g ∷ [])

      cnt : t.count ≡ length N
      cnt = R.counted

      len : length N' ≡ length N + 1
      len = length_more N g

      size : length t.rows ≡ grants
      size = R.places

      rows_old : (i : ℕ) → (i ≡ t.count → ⊥) → get_or (set t.rows t.count x) i no_row ≡ get_or t.rows i no_row
      rows_old i h = get_or-set_other t.rows t.count i x no_row h

      rows_new : get_or (set t.rows t.count x) t.count no_row ≡ x
      rows_new = get_or-set_same t.rows t.count x no_row (omega arith)

      old_at : (i : ℕ) → i < length N → get_or N' i no_grant ≡ get_or N i no_grant
      old_at i h = get_or-append N (g ∷ []) no_grant i h

      new_at : get_or N' t.count no_grant ≡ g
      new_at = ap (λ (n : ℕ). get_or N' n no_grant) cnt ∙ get_or-append_seam N g [] no_grant

      used' : (i : ℕ) → i < t.count + 1 → RowForm i (get_or (set t.rows t.count x) i no_row)
      used' = each_more (λ i. RowForm i (get_or (set t.rows t.count x) i no_row)) t.count
          (λ i l. subst (RowForm i) (sym (rows_old i (λ (q : i ≡ t.count). omega arith))) (R.used i l))
          (subst (RowForm t.count) (sym rows_new) (subst (λ (n : ℕ). RowForm n x) (sym cnt) F))

      written' : (i : ℕ) → i < t.count + 1 → get_or N' i no_grant ≡ write_row N' (get_or (set t.rows t.count x) i no_row)
      written' = each_more (λ i. get_or N' i no_grant ≡ write_row N' (get_or (set t.rows t.count x) i no_row)) t.count
          (λ i l. old_at i (omega arith) ∙ R.written i l ∙ sym (row_ext N (g ∷ []) small (get_or t.rows i no_row) (shown_below R i l)) ∙
          ap (write_row N') (sym (rows_old i (λ (q : i ≡ t.count). omega arith))))
          (new_at ∙ sym (row_ext N (g ∷ []) small x B) ∙ ap (write_row N') (sym rows_new))

      depths' : (i : ℕ) → i < t.count + 1 → depth (get_or N' i no_grant) ≤ depths
      depths' = each_more (λ i. depth (get_or N' i no_grant) ≤ depths) t.count
          (λ i l. subst (λ (w : Grant). depth w ≤ depths) (sym (old_at i (omega arith))) (R.depths i l))
          (subst (λ (w : Grant). depth w ≤ depths) (sym new_at) D)

      all : Shown more.table.rows more.table.count N'
      all = record {
        places = length-set t.rows t.count x ∙ size;
        counted = ap (λ (n : ℕ). n + 1) cnt ∙ sym len;
        small = omega arith;
        used = used';
        unused = λ i l h. rows_old i (λ (q : i ≡ t.count). omega arith) ∙ R.unused i (omega arith) h;
        written = written';
        distinct = distinct_more N g R.distinct new;
        depths = depths';
      }

      rw_put : has g N ≡ false → Put N g (record { numbering = more; no = record { 0 = t.count } })
      rw_put e = record {
        good = rw e (tied room all);
        names = λ f. rw e (omega (arith, len, cnt), new_at);
      }

  put_over : ((i : ℕ) → i < length N → get_or N i no_grant ≡ write_row N x → ⊥) → grants ≤ t.count → Put N (write_row N x) (record { numbering = record { table = t; full = true }; no = record { 0 = 0 } })
  unfolding add Names
  put_over new le =
      let e = not_has new in
      let cnt = R.counted in
      let sm = R.small in
      let len = length_more N (write_row N x) in
      record { good = rw e (over refl (omega arith) (omega arith)); names = λ f. absurd (no_true (sym f)) }

  pub put : Put N (write_row N x) (entered u x)
  unfolding entered more
  put = go (find_row t x) refl
    where
      places : length t.rows ≡ grants
      places = R.places

      given : t.count ≤ grants
      given = let c = R.counted in omega (arith, small)

      room_or : (b : Bool) → ltb t.count grants ≡ b → ((i : ℕ) → i < length N → get_or N i no_grant ≡ write_row N x → ⊥) →
          Put N (write_row N x) (cond b (record { numbering = record { table = with_row t x; full = u.full }; no = record { 0 = t.count } })
          (record { numbering = record { table = t; full = true }; no = record { 0 = 0 } }))
      room_or true q new = put_more new (ltb-true _ _ q)
      room_or false q new = put_over new (ltb-false _ _ q)

      go : (o : Option ℕ) → find_row t x ≡ o → Put N (write_row N x) (entered_at u x o)
      go (Some i) e = let f = found t x places given i e in put_old i f.0 f.1
      go None e = room_or (ltb t.count grants) refl (put_new (missing t x places given e))
