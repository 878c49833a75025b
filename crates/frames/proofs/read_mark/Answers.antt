use Rattle.std.proofs.Common.{rules, sym, ap}
use Rattle.frames.specs.Bytes.{as_result}
use Rattle.frames.proofs.Marks.{mark_short, mark_long}
use Rattle.frames.proofs.read_mark.Goals as goal

pub returns-then-s-lt2 : goal.returns-then-s-lt2
returns-then-s-lt2 c = mark_short _ c.if-s-lt2.true

pub returns-in_err-k : goal.returns-in_err-k
returns-in_err-k c = let e = ap as_result (mark_long c.args.s.now _ (search rules) c.in_err-k.ensures) in search rules

pub returns : goal.returns
returns c = sym (ap as_result (mark_long c.args.s.now _ (search rules) c.in_ok-k.ensures))
