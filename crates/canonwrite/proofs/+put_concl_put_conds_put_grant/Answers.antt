use borrow.Author.Rules.{rules}
use lib.ListN.{length}
use Rattle.rows.proofs.Deciding.{length_mapped}
use Prim.Native.Nat.{◌+◌, ◌-◌, min}
use mathlib.Core.List.{List}
use mathlib.Core.Path.{◌≡◌, refl, sym, ◌∙◌, ap}
use native.Mathlib.Omega.{arith}
use lib.Seq.{length-take-le}
use Rattle.sorts.specs.Numbers.{conditions}
use Rattle.canon.specs.Most.{most}
use Rattle.canonwrite.specs.Buffer.{put_conds, put_grant}
use Rattle.canonwrite.specs.Inner.Writing.{kept_of, room}
use Rattle.canonwrite.proofs.Steps.{spot_path, concl_plain, concl_inner_lem, grant_parts, grant_none, grant_step, room_none, room_step, conds_none, conds_parts}
use Prim.Native.Nat.{ℕ}
use Rattle.canonwrite.proofs.+put_concl_put_conds_put_grant.Goals as goal

pub put_concl-returns-then-form-eq0-clause-done : goal.put_concl-returns-then-form-eq0-clause-done
put_concl-returns-then-form-eq0-clause-done t c = let bs = c.args.s.now in
    c.put_grant.ensures.done ∙ ap (λ (o : List ℕ). put_grant c.args.below bs (c.args.p.at + 3) o (c.args.p.to + 3)) c.copy_three.ensures ∙ sym (concl_inner_lem (put_grant c.args.below bs) bs c.args.p.at c.args.out.now c.args.p.to (sym c.byte_at-kind.ensures ∙ c.if-kind-eq1.true) (sym c.byte_at-form.ensures ∙ c.if-form-eq0.true))

pub put_concl-returns-clause-done : goal.put_concl-returns-clause-done
put_concl-returns-clause-done t c = let bs = c.args.s.now in
    spot_path c.copy_three.ensures (c.args.p.at + 3) (c.args.p.to + 3) ∙ sym (concl_plain (put_grant c.args.below bs) bs c.args.p.at c.args.out.now c.args.p.to _ _ c.byte_at-kind.ensures c.byte_at-form.ensures c.else-kind-eq1.either)

pub put_conds-loop-i-preserved : goal.put_conds-loop-i-preserved
put_conds-loop-i-preserved t c =
    let bs = c.args.s.now in
    let l = c.loop-i in
    let m = most c.args.below in
    let k = c.args.k - l.i in
    let v = l.invariant in
    let left : c.args.k - (l.i + 1) ≡ k - 1 = omega arith in
    let r : room k m ≡ 4 + m + room (k - 1) m = room_step k m (omega arith) in
    let e : room (c.args.k - (l.i + 1)) m ≡ room (k - 1) m = ap (λ (n : ℕ). room n m) left in
    let p = c.put_in-kept.ensures in
    let o = c.put_concl-one.ensures in (
      ap (λ (n : ℕ). put_conds (put_grant c.args.below bs) bs c.args.b n (kept_of c.put_in-kept.new.out c.put_in-kept.result)) left
          ∙ conds_parts (put_grant c.args.below bs) bs c.args.b (kept_of l.out l.kept) k c.byte_at.result _ _ _ _ (omega arith) c.byte_at.ensures c.put.ensures o.done p.done refl
          ∙ v.0,
      p.fits.0,
      omega (arith, p.fits.1, v.2),
      omega (arith, p.fits.2, v.3),
      omega (arith, r, e, p.fits.3, o.fits.1, v.4),
      omega (arith, r, e, p.fits.4, o.fits.2, v.5),
    )

pub put_conds-returns-clause-done : goal.put_conds-returns-clause-done
put_conds-returns-clause-done t c =
    let bs = c.args.s.now in
    let l = c.loop-i in
    sym (conds_none (put_grant c.args.below bs) bs c.args.b (kept_of l.out l.kept) (c.args.k - l.i) (omega arith)) ∙ l.invariant.0

pub put_conds-returns-clause-fits : goal.put_conds-returns-clause-fits
put_conds-returns-clause-fits t c =
    let l = c.loop-i in
    let m = most c.args.below in
    let v = l.invariant in
    let e : room (c.args.k - l.i) m ≡ 3 + m = ap (λ (n : ℕ). room n m) (omega arith) ∙ room_none m in
    (v.1, v.3, omega (arith, e, v.4), omega (arith, e, v.5))

pub put_grant-returns-then-left-eq0-clause-done : goal.put_grant-returns-then-left-eq0-clause-done
put_grant-returns-then-left-eq0-clause-done t c = let bs = c.args.s.now in
    sym (grant_none c.args.left bs c.args.p.at c.args.out.now c.args.p.to c.if-left-eq0.true)

pub put_grant-returns-clause-done : goal.put_grant-returns-clause-done
put_grant-returns-clause-done t c = let bs = c.args.s.now in
    let f = c.put_conds-cs.ensures.fits.0 in
    let long : length c.put_conds-cs.result.lens ≡ conditions = search (rules, length_mapped) in
    let l = length-take-le c.put_conds-cs.result.count c.put_conds-cs.result.lens (omega (arith, f.count, long)) in
    grant_parts (put_grant (c.args.left - 1) bs) bs c.args.p.at c.args.out.now c.args.p.to _ _ c.min-k.result c.put_conds-cs.result.count _ _ c.copy_three.ensures (c.min-k.ensures ∙ ap (λ (b : ℕ). min b conditions) c.byte_at.ensures) c.put_conds-cs.ensures.done (sym l) c.put.ensures c.put_concl.ensures.done ∙ sym (grant_step c.args.left bs c.args.p.at c.args.out.now c.args.p.to (omega arith))
