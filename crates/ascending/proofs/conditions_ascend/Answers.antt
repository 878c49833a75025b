use Prim.Native.Nat.{ℕ, ◌+◌, ◌<◌, Ordering}
use mathlib.Core.Bool.{Bool}
use mathlib.Core.List.{List}
use mathlib.Core.Path.{◌≡◌}
use native.Mathlib.Omega.{arith}
use lib.ListN.{length, get_or, set, length-set}
use Rattle.sorts.specs.Blank.{no_row}
use Rattle.sorts.specs.Decides.{Decides}
use Rattle.rows.specs.declared.Table.{Table}
use Rattle.rows.specs.Form.{TableForm}
use Rattle.rows.proofs.Deciding.{each_more}
use Rattle.canon.specs.RowOrder.{Ascends}
use Rattle.rows.specs.Words.{row_word}
use Rattle.ascending.specs.Inner.Words.{Told, NextAbove}
use Rattle.ascending.proofs.Comparing.{counted}
use Rattle.ascending.proofs.Places.{Worded, worded_more}
use Rattle.ascending.proofs.Rows.{stands, keys_ascends, told, laid, row_decides, ascending_canonical, canonical_ascending}
use Rattle.ascending.proofs.conditions_ascend.Goals as goal

-- once the words w of row i are written, the test of them decides whether its conditions ascend
decides : (t : Table) (form : TableForm t) (old : List (List ℕ)) (w : List ℕ) (i : ℕ) (r : Bool) → length old ≡ 64 → i < t.count → Worded old t.rows i →
    ((k : ℕ) → k < 6 → get_or w k 0 ≡ row_word (get_or t.rows i no_row) k) →
    ((f : ℕ → ℕ → Ordering) → Told f (set old i w) (i + 1) → Decides r ((j : ℕ) → j + 1 < (get_or t.rows i no_row).count → NextAbove f (set old i w) i j)) →
    Decides r (Ascends (stands t form) (get_or t.rows i no_row))
decides t form old w i r e l v u d =
    let n = form.count in
    let worded = worded_more old w t.rows i v (omega arith) u in
    row_decides t form (set old i w) (i + 1) (omega arith) worded i r (omega arith) (d (counted (stands t form)) (told t form (set old i w) (i + 1) (omega arith) worded))

pub returns-then-all_keys_ascend : goal.returns-then-all_keys_ascend
returns-then-all_keys_ascend c = ascending_canonical c.args.t c.requires (λ i l. keys_ascends c.args.t c.requires i l (c.all_keys_ascend.ensures c.if-all_keys_ascend.true i l))

pub row_ascends-requires : goal.row_ascends-requires
row_ascends-requires c =
    let i = c.loop-i.i in
    let l = c.loop-i-test.true in
    let e = c.loop-i.invariant.0 in
    let n = c.requires.count in
    let words = c.loop-i.words in
    let w = c.row_words.result in
    let worded = worded_more words w c.args.t.rows i c.loop-i.invariant.1 (omega arith) c.row_words.ensures in
    ((c.requires.used i l).count, laid c.args.t c.requires (set words i w) (i + 1) (omega arith) worded (omega (arith, length-set words i w)))

pub returns-then-not-row_ascends : goal.returns-then-not-row_ascends
returns-then-not-row_ascends c =
    let d = decides c.args.t c.requires c.loop-i.words c.row_words.result c.loop-i.i c.row_ascends.result c.loop-i.invariant.0 c.loop-i-test.true c.loop-i.invariant.1 c.row_words.ensures c.row_ascends.ensures in
    λ h. (rw c.if-not-row_ascends.true at d) (canonical_ascending c.args.t c.requires h c.loop-i.i c.loop-i-test.true)

pub loop-i-preserved : goal.loop-i-preserved
loop-i-preserved c =
    let i = c.loop-i.i in
    let words = c.loop-i.words in
    let w = c.row_words.result in
    let v = c.loop-i.invariant in
    let n = c.requires.count in
    let l = c.loop-i-test.true in (
      omega (arith, length-set words i w),
      worded_more words w c.args.t.rows i v.1 (omega arith) c.row_words.ensures,
      λ form. each_more _ i (v.2 form) (rw c.if-not-row_ascends.false at (decides c.args.t form words w i c.row_ascends.result v.0 l v.1 c.row_words.ensures c.row_ascends.ensures)),
    )

pub returns : goal.returns
returns c = let l = c.loop-i-test.false in ascending_canonical c.args.t c.requires (λ k h. c.loop-i.invariant.2 c.requires k (omega arith))
