-- Some seat is first. Assumes nothing.
use Rattle.std.proofs.Common.{refl, arith, ◌∙◌, rules, length}
use borrow.Author.Tests.{tests}
use Rattle.std.proofs.lemmas.Iterator.{YieldsList-from_range}
use Rattle.std.proofs.lemmas.Iterator.Search.{any_from_yields_List}
use Rattle.kuhn_tree.specs.Order.{first}
use Rattle.kuhn_listing.proofs.Rule.{any_below}
use Rattle.kuhn_listing.proofs.Deal.any_first.Goals as goal

pub returns : goal.returns
returns c = let cards = c.args.self.now.cards.now in
    let found = any_from_yields_List (first (length cards) cards) _ _ c.any.result c.any.ensures.ran
    (YieldsList-from_range 0 (length cards) (length cards) refl (omega arith)) (λ x b q k. search (rules, tests)) in
    found ∙ any_below (length cards) (first (length cards) cards)
