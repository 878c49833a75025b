use Rattle.frames.proofs.Framing.{length_short, length_beyond, length_there}
use Rattle.std.proofs.Common.{rules, ℕ, ◌+◌, ◌-◌, ◌≡◌, take, drop, arith, ap, ◌∙◌}
use Rattle.std.proofs.lemmas.List.{length-take}
use Rattle.frames.specs.Frames.{holds}
use Rattle.frames.proofs.read_content.Goals as goal

pub returns-then-s-lt-HEADER : goal.returns-then-s-lt-HEADER
returns-then-s-lt-HEADER c = length_short _ c.args.s.now c.if-s-lt-HEADER.true

pub returns-then-s-len : goal.returns-then-s-len
returns-then-s-len c = length_beyond _ c.args.s.now _ c.stated-len.ensures.0 c.if-s-len.true (search rules)

pub returns : goal.returns
returns c =
    let e : c.stated-len.result ≡ 4 + c.stated-len.result - 4 = omega arith in
    let there = length_there c.args.k c.args.s.now _ c.stated-len.ensures.0 c.if-s-len.false (search rules) in
    (there ∙ ap (λ (n : ℕ). holds c.args.k (take n (drop 4 c.args.s.now))) e, omega (arith, c.stated-len.ensures.1, length-take (4 + c.stated-len.result - 4) (drop 4 c.args.s.now)))
