-- Each inner grant leaves one depth less, and a depth has room for every step in it.
use Prim.Native.Nat.{◌+◌, ◌-◌, ◌*◌, ◌≤◌}
use mathlib.Core.Path.{◌≡◌}
use Rattle.canon.specs.Most.{most}
use Rattle.canonwrite.specs.Buffer.{put_conds, put_grant}
use Rattle.canonwrite.specs.Inner.Writing.{kept_of, SegmentsFit, room}
use Rattle.canonwrite.proofs.+put_concl_put_conds_put_grant.Given as goal

abbrev pub decreases-put_concl : goal.decreases-put_concl
decreases-put_concl l = 300 * l.below + 1

abbrev pub decreases-put_conds : goal.decreases-put_conds
decreases-put_conds l = 300 * l.below + 2

abbrev pub decreases-put_grant : goal.decreases-put_grant
decreases-put_grant l = 300 * l.left

-- the conditions that are left make of what is kept what all make of what was
abbrev pub invariant-put_conds-loop-i : goal.invariant-put_conds-loop-i
invariant-put_conds-loop-i l =
    let m = most l.below in
    (put_conds (put_grant l.below l.s) l.s l.b (l.k - l.i) (kept_of l.out l.kept) ≡ put_conds (put_grant l.below l.s) l.s l.b l.k (kept_of l.fn.out l.fn.was))
    × SegmentsFit l.b l.kept × (l.kept.count ≤ l.fn.was.count + l.i) × (l.fn.was.to ≤ l.kept.to)
    × (l.kept.to + room (l.k - l.i) m ≤ l.fn.was.to + room l.k m) × (l.kept.at + room (l.k - l.i) m ≤ l.fn.was.at + room l.k m)
