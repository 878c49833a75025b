use mathlib.Core.Path.{◌≡◌}
use native.Mathlib.Omega.{arith}
use borrow.Author.Rules.{rules}
use borrow.Author.Tests.{tests}
use Rattle.sorts.specs.declared.Status.TheVariants.{Provisional}
use Rattle.sorts.specs.Flags.{flag}
use Rattle.bookform.proofs.flags.Ranges.{all_decides}
use Rattle.bookform.proofs.flags.firm_at.Goals as goal

pub returns : goal.returns
returns c =
    all_decides _ _ _ c.all.result (λ p. flag c.args.flags.now (Provisional (record { 0 = p })) c.args.no.0 ≡ 0) c.all.ensures.ran (λ x q k. search (rules, tests)) (λ x q k. search (rules, tests))
    (λ h p l. h p.0 (omega arith) l) (λ h p l m. h (record { 0 = p }) m)
