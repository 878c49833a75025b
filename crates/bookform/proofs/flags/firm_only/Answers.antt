use native.Mathlib.Omega.{arith}
use borrow.Author.Rules.{rules}
use borrow.Author.Tests.{tests}
use Rattle.bookform.specs.Inner.Rows.{FirmAt}
use Rattle.bookform.proofs.flags.Ranges.{all_decides}
use Rattle.bookform.proofs.flags.firm_only.Goals as goal

pub returns : goal.returns
returns c =
    all_decides _ _ _ c.all.result (FirmAt c.args.flags.now) c.all.ensures.ran (λ x q k. search (rules, tests)) (λ x q k. search (rules, tests))
    (λ h p g l m. h g (omega arith) m p l) (λ h g l m p k. h p g k m)
