use Prim.Native.Nat.{ℕ}
use Rattle.std.specs.Prelude.{Some}
use mathlib.Core.Path.{◌≡◌, refl, ◌∙◌, sym, ap}
use native.Mathlib.Omega.{arith}
use lib.ListN.{length}
use Rattle.canonwrite.specs.Segments.{part}
use Rattle.canonwrite.proofs.sorting.InParts.{parts_cmp}
use Rattle.canonwrite.proofs.sorting.Seats.{seat_below, seat_same, seat_above, seat_ended, sum_step}
use Rattle.canonwrite.proofs.sorting.seek.Goals as goal

pub loop-k-init : goal.loop-k-init
loop-k-init c = (omega (arith, c.requires), refl)

pub returns-in-Less : goal.returns-in-Less
returns-in-Less c = sym (c.loop-k.invariant.1 ∙ seat_below (part c.args.to c.args.e c.args.out.now) c.args.out.now c.loop-k.k c.loop-k.at c.args.lens.now c.loop-k-test.true (sym (c.cmp.ensures ∙ parts_cmp c.args.out.now c.args.to c.args.e c.loop-k.at _ c.requires.1) ∙ c.in-Less.is))

pub returns-in-Equal : goal.returns-in-Equal
returns-in-Equal c = sym (c.loop-k.invariant.1 ∙ seat_same (part c.args.to c.args.e c.args.out.now) c.args.out.now c.loop-k.k c.loop-k.at c.args.lens.now c.loop-k-test.true (sym (c.cmp.ensures ∙ parts_cmp c.args.out.now c.args.to c.args.e c.loop-k.at _ c.requires.1) ∙ c.in-Equal.is))

pub loop-k-preserved : goal.loop-k-preserved
loop-k-preserved c =
    let ns = c.args.lens.now in
    (omega (arith, c.loop-k.invariant.0, sum_step ns c.loop-k.k c.loop-k-test.true), c.loop-k.invariant.1 ∙ seat_above (part c.args.to c.args.e c.args.out.now) c.args.out.now c.loop-k.k c.loop-k.at ns c.loop-k-test.true (sym (c.cmp.ensures ∙ parts_cmp c.args.out.now c.args.to c.args.e c.loop-k.at _ c.requires.1) ∙ c.in-Greater.is))

pub returns : goal.returns
returns c =
    let ns = c.args.lens.now in
    let k : length ns ≡ c.loop-k.k = omega arith in
    ap (λ (n : ℕ). Some (n, c.loop-k.at)) k
    ∙ sym (c.loop-k.invariant.1 ∙ seat_ended (part c.args.to c.args.e c.args.out.now) c.args.out.now c.loop-k.k c.loop-k.at ns (omega arith))
