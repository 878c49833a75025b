use native.Mathlib.Omega.{arith}
use borrow.Author.Rules.{rules}
use borrow.Author.Tests.{tests}
use Rattle.bookform.specs.Inner.Rows.{Clash}
use Rattle.bookform.proofs.flags.Ranges.{all_decides}
use Rattle.bookform.proofs.flags.changes.apart_at.Goals as goal

pub returns : goal.returns
returns c =
    all_decides _ _ _ c.all.result (λ p. Clash c.args.flags.now (record { 0 = p }) c.args.no.0 → ⊥) c.all.ensures.ran (λ x q k. search (rules, tests)) (λ x q k. search (rules, tests))
    (λ h p l. h p.0 (omega arith) l) (λ h p l m. h (record { 0 = p }) m)
