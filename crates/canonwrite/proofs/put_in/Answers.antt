use borrow.Author.Rules.{rules}
use Rattle.rows.proofs.Deciding.{length_mapped}
use mathlib.Core.Path.{refl, sym, ◌∙◌}
use native.Mathlib.Omega.{arith}
use Rattle.canonwrite.proofs.Writes.{left_there, number_fits, place_fits, turned_there, turned_fits}
use Rattle.canonwrite.proofs.put_in.Goals as goal

pub turn-requires : goal.turn-requires
turn-requires c = (place_fits c.args.b c.args.was c.args.one c.args.out.now c.requires.1 (search (rules, length_mapped)) c.requires.0 c.in-Some.k c.in-Some.p (sym c.seek.ensures ∙ c.in-Some.is), c.requires.2, c.requires.3)

pub insert-requires : goal.insert-requires
insert-requires c = let n = number_fits c.args.b c.args.was c.args.one c.args.out.now c.requires.1 (search (rules, length_mapped)) c.requires.0 c.in-Some.k c.in-Some.p (sym c.seek.ensures ∙ c.in-Some.is) in
    omega (arith, c.requires.0)

pub returns-in-None-clause-done : goal.returns-in-None-clause-done
returns-in-None-clause-done c = left_there c.args.b c.args.was c.args.one c.args.out.now (sym c.seek.ensures ∙ c.in-None.is)

pub returns-in-Some-clause-done : goal.returns-in-Some-clause-done
returns-in-Some-clause-done c = let e = sym c.seek.ensures ∙ c.in-Some.is in
    turned_there c.args.b c.args.was c.args.one c.args.out.now c.requires.1 (search (rules, length_mapped)) c.requires.0 c.in-Some.k c.in-Some.p e c.turn.new.out c.insert.result c.turn.ensures c.insert.ensures

pub returns-in-Some-clause-fits : goal.returns-in-Some-clause-fits
returns-in-Some-clause-fits c = let e = sym c.seek.ensures ∙ c.in-Some.is in
    (turned_fits c.args.b c.args.was c.args.one c.args.out.now c.requires.1 (search (rules, length_mapped)) c.requires.0 c.in-Some.k c.in-Some.p e c.turn.new.out c.insert.result c.turn.ensures c.insert.ensures c.requires.2, omega arith, c.requires.2, omega arith, refl)
