use mathlib.Core.Path.{◌≡◌, sym, ap, ◌∙◌, subst}
use lib.ListN.{length, get_or}
use borrow.Author.Rules.{rules}
use borrow.Author.Tests.{tests}
use Rattle.std.specs.List.{find}
use Rattle.std.specs.Array.Iter.{array_into_iter_items, array_steps}
use Rattle.std.proofs.lemmas.Iterator.Adapters.{option_map_id}
use Rattle.std.proofs.lemmas.Iterator.Consumers.{YieldsList-from_shown}
use Rattle.std.proofs.lemmas.Iterator.Search.{find_from_yields_List}
use Rattle.frames.specs.declared.Kind.{Kind}
use Rattle.frames.specs.Frames.{kinds, opens}
use Rattle.frames.specs.Inner.Told.{Names}
use Rattle.frames.proofs.Letters.{opens_is}
use Rattle.frames.proofs.Marks.{found_names}
use Rattle.frames.proofs.KindTryFromArrayU82.try_from.Goals as goal

pub returns : goal.returns
returns c =
    let l = c.args.letters in
    let all : array_into_iter_items c.into_iter.result ≡ kinds = search rules in
    let road = YieldsList-from_shown (array_steps {A = Kind} {n = length kinds}) (λ x. x) array_into_iter_items (λ s t h. h.0) (λ s x t h. h) c.into_iter.result in
    let found = find_from_yields_List (λ k. opens k (get_or l 0 0) (get_or l 1 0)) _ _ c.find.result c.find.ensures.ran road (λ x b q k. (search rules, opens_is x l b (search rules) (λ e. search (rules, tests)) (λ e. search (rules, tests)))) in
    subst (Names l) (sym c.ok_or.ensures.value) (found_names l c.find.result (sym (option_map_id c.find.result) ∙ found ∙ ap (find (λ k. opens k (get_or l 0 0) (get_or l 1 0))) all))
