use Rattle.std.proofs.Common.{rules, sym, ◌∙◌}
use Rattle.frames.proofs.Framing.{frame_no, frame_opens}
use Rattle.frames.proofs.read_frame.Goals as goal

pub returns-in_err-k : goal.returns-in_err-k
returns-in_err-k c = let e = frame_no c.args.s.now c.in_err-k.field-0.0 (sym c.read_mark.ensures ∙ c.in_err-k.was) in search rules

pub returns : goal.returns
returns c = frame_opens _ _ _ c.read_content.result (sym c.read_mark.ensures ∙ c.in_ok-k.was) c.read_content.ensures
