-- Six cards, three actions, or no move. Assumes nothing.
use Rattle.std.proofs.Common.{ap, ap₂, sym, ◌∙◌, ◌+◌, cond, arith}
use Rattle.leduc_tree.specs.Tree.{ended}
use Rattle.leduc_listing_positions.specs.internal.Spots.{placed}
use Rattle.leduc_listing.specs.internal.Walk.{move_bound}
use Rattle.leduc_listing.proofs.move_bound.Goals as goal

pub returns-then-is_due : goal.returns-then-is_due
unfolding move_bound
returns-then-is_due c = let h = c.hand-hand.ensures in let due = rw (h.cards, h.public, h.first, h.second) at c.is_due.ensures in
    (c.from.ensures ∙ ap (λ b. cond b 6 (cond (ended (placed c.args.spot.now)) 0 3)) (sym (sym due ∙ c.if-is_due.true)), omega (arith, c.from.ensures))

pub returns-then-is_over : goal.returns-then-is_over
unfolding move_bound
returns-then-is_over c = let h = c.hand-hand.ensures in let due = rw (h.cards, h.public, h.first, h.second) at c.is_due.ensures in
    let over = rw (h.first, h.second) at c.is_over.ensures in
    (ap₂ (λ b d. cond b 6 (cond d 0 3)) (sym (sym due ∙ c.if-is_due.false)) (sym (sym over ∙ c.if-is_over.true)), omega arith)

pub returns-else-is_over : goal.returns-else-is_over
unfolding move_bound
returns-else-is_over c = let h = c.hand-hand.ensures in let due = rw (h.cards, h.public, h.first, h.second) at c.is_due.ensures in
    let over = rw (h.first, h.second) at c.is_over.ensures in
    (ap (λ x. x + 1) c.from-else-is_over.ensures ∙ ap₂ (λ b d. cond b 6 (cond d 0 3)) (sym (sym due ∙ c.if-is_due.false)) (sym (sym over ∙ c.if-is_over.false)), omega (arith, c.from-else-is_over.ensures))
