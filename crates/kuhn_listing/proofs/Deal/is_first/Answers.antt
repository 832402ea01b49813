-- Each seat is this one, or has the lowest card. Assumes nothing.
use Rattle.std.proofs.Common.{refl, arith, ap, ◌∙◌, ◌||◌, rules, eqb, length}
use borrow.Author.Tests.{tests}
use Rattle.std.proofs.lemmas.Iterator.{YieldsList-from_range}
use Rattle.std.proofs.lemmas.Iterator.Search.{all_from_yields_List}
use Rattle.kuhn_tree.specs.Order.{lowest_but, lowest}
use Rattle.kuhn_listing.proofs.Rule.{all_first}
use Rattle.kuhn_listing.proofs.Deal.is_first.Goals as goal

pub returns : goal.returns
returns c = let a = c.args in let cards = a.self.now.cards.now in
    let found = all_from_yields_List (λ q. eqb q a.seat || lowest_but (length cards) cards c.from-x.result q) _ _ c.all.result c.all.ensures.ran
    (YieldsList-from_range 0 (length cards) (length cards) refl (omega arith)) (λ x b q k. search (rules, tests)) in
    found ∙ all_first cards a.seat c.from-x.result ∙ ap (lowest (length cards) cards a.seat) c.from-x.ensures
