use Rattle.std.proofs.Common.{ℕ, ◌≡◌, ◌<◌, Bool, true, nat_lt, refl, sym, ◌∙◌}
use borrow.Author.Tests.{ltb-true}
use Rattle.journal.specs.Places.{longest_journal}
use Rattle.listings.proofs.Reading.{over_follows, over_ran}
use Rattle.listing.proofs.Writing.{so_far_first, took_all}
use Rattle.listing.proofs.list.Goals as goal

too_long : (n : ℕ) (b : Bool) → b ≡ nat_lt longest_journal n → b ≡ true → longest_journal < n
too_long n b e t = ltb-true longest_journal n (sym e ∙ t)

pub write_next-all-requires : goal.write_next-all-requires
write_next-all-requires g c = over_follows c.args.s.now 0 c.refused_line.result (too_long _ c.over.result c.over.ensures c.if-over.true) refl c.refused_line.ensures

pub returns-then-over-clause-finished : goal.returns-then-over-clause-finished
returns-then-over-clause-finished g c = over_ran c.args.s.now 1 (too_long _ c.over.result c.over.ensures c.if-over.true) refl

pub returns-then-over-clause-written : goal.returns-then-over-clause-written
returns-then-over-clause-written g c =
    let long = too_long _ c.over.result c.over.ensures c.if-over.true in
    let s = c.args.s.now in
    let follows = over_follows s 0 c.refused_line.result long refl c.refused_line.ensures in
    took_all s _ _ 1 c.write_next-all.result (over_ran s 1 long refl) (so_far_first s _ _ c.refused_line.result c.write_next-all.result follows c.write_next-all.ensures)
