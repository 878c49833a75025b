use Rattle.std.proofs.Common.{◌≡◌, ℕ, ◌+◌, ◌-◌, ◌≤◌, List, ◌++◌, length, take, drop, arith, rules, sym, ap, ◌∙◌, subst, drop_at, length-take-le}
use Rattle.std.proofs.Math.Seq.{take-add}
use Rattle.std.proofs.lemmas.List.{take-append-le}
use Rattle.std.proofs.KnownBytes.{Consumes-trans}
use Rattle.std.specs.Io.KnownBytes.{Consumes}
use borrow.Rule.Slice.PartMut.{put_mid, post_of, take_put}
use Rattle.streams.proofs.input.read_all.Goals as goal

-- Those read before, and those that a read put after them.
together : (a n k : ℕ) (xs ys : List ℕ) → a ≤ length xs → n ≤ length ys → take a xs ++ take n ys ≡ take (a + n) (put_mid a k xs ys)
together a n k xs ys within fits =
    let after : take n (drop a (put_mid a k xs ys)) ≡ take n ys = ap (take n) (drop_at (take a xs) _ a (length-take-le a xs within)) ∙ take-append-le n ys (post_of a k xs) fits in
    let before : take a (put_mid a k xs ys) ≡ take a xs = take_put a k xs ys within in
    sym (take-add a n (put_mid a k xs ys) ∙ (λ i. before i ++ after i))

pub loop-n-preserved-in-Ok : goal.loop-n-preserved-in-Ok
loop-n-preserved-in-Ok g c =
    let here = c.loop-n in
    let put = put_mid here.n (length here.buf - here.n) here.buf c.read.new.buf in
    let long : length put ≡ length c.args.buf.now = search rules in
    let all = together here.n c.in-Ok.more (length here.buf - here.n) here.buf c.read.new.buf here.invariant.1.within (omega (arith, c.in-Ok.ensures.bound)) in (
      long,
      record {
        within = omega (arith, long, here.invariant.0, c.in-Ok.ensures.bound);
        consumed = subst (Consumes _ _) all (Consumes-trans _ _ _ _ _ here.invariant.1.consumed (c.in-Ok.ensures.bytes.0));
      },
    )
