-- A card dealt while one is due, else an action made. Assumes nothing.
use Rattle.std.proofs.Common.{ap, sym, ◌∙◌, cond}
use Rattle.leduc_tree.specs.Tree.{dealt, acted}
use Rattle.leduc_listing_positions.specs.internal.Spots.{placed}
use Rattle.leduc_listing.specs.internal.Walk.{moved}
use Rattle.leduc_listing.proofs.make.Goals as goal

pub returns-then-is_due-clause-moved : goal.returns-then-is_due-clause-moved
unfolding moved
returns-then-is_due-clause-moved c = let h = c.hand.ensures in let due = rw (h.cards, h.public, h.first, h.second) at c.is_due.ensures in let q = placed c.args.spot.now in
    c.deal.ensures.moved ∙ ap (λ b. cond b (dealt q c.args.a) (acted q c.args.a)) (sym (sym due ∙ c.if-is_due.true))

pub returns-else-is_due-clause-moved : goal.returns-else-is_due-clause-moved
unfolding moved
returns-else-is_due-clause-moved c = let h = c.hand.ensures in let due = rw (h.cards, h.public, h.first, h.second) at c.is_due.ensures in let q = placed c.args.spot.now in
    c.act.ensures.moved ∙ ap (λ b. cond b (dealt q c.args.a) (acted q c.args.a)) (sym (sym due ∙ c.if-is_due.false))
