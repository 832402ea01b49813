-- Each card below seat q's is card x, or was dealt before. Assumes nothing.
use Rattle.std.proofs.Common.{refl, arith, ap, ◌∙◌, ◌||◌, rules, eqb, take}
use borrow.Author.Tests.{tests}
use Rattle.std.specs.List.{list_any, list_all, range_with_len}
use Rattle.std.proofs.lemmas.Iterator.{YieldsList-from_range}
use Rattle.std.proofs.lemmas.Iterator.Search.{all_from_yields_List}
use Rattle.kuhn_listing.proofs.Rule.{all_lowest}
use Rattle.kuhn_listing.proofs.Deal.lowest_but.Goals as goal

pub returns : goal.returns
returns c = let a = c.args in let cards = a.self.now.cards.now in
    let found = all_from_yields_List (λ y. eqb y a.x || list_any (λ b. eqb b y) (take a.q cards)) _ _ c.all.result c.all.ensures.ran
    (YieldsList-from_range 0 c.from.result c.from.result refl (omega arith)) (λ x b q k. search (rules, tests)) in
    found ∙ ap (λ n. list_all (λ y. eqb y a.x || list_any (λ b. eqb b y) (take a.q cards)) (range_with_len 0 n)) c.from.ensures
    ∙ all_lowest cards a.x a.q (a.self.now.in_deck a.q c.requires)
