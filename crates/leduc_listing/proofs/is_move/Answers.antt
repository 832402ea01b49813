-- A card that is left if one is due, else a legal action. Assumes nothing.
use Rattle.std.proofs.Common.{ap, ap₂, sym, ◌∙◌, eqb}
use Rattle.std.specs.List.{list_any}
use Rattle.prelude.proofs.Bytes.{has_any}
use Rattle.leduc_betting.specs.Betting.{may, in_play}
use Rattle.leduc_betting.specs.Cards.{seen}
use Rattle.leduc_listing_positions.specs.internal.Spots.{placed}
use Rattle.leduc_listing.proofs.Steps.{move_card, no_card, move_action}
use Rattle.leduc_listing.proofs.is_move.Goals as goal

pub returns-then-a-from : goal.returns-then-a-from
returns-then-a-from c = let h = c.hand-hand.ensures in let due = rw (h.cards, h.public, h.first, h.second) at c.is_due.ensures in let q = placed c.args.spot.now in
    let dealt = c.as_slice.ensures.value ∙ c.seen.ensures ∙ ap₂ seen h.cards h.public in
    move_card q c.args.a _ (sym due ∙ c.if-is_due.true) (rw c.from.ensures at c.if-a-from.true)
    (c.contains.ensures ∙ ap (λ l. list_any (λ b. eqb b c.args.a) l) dealt ∙ sym (has_any c.args.a (seen q.cards q.public)))

pub returns-else-a-from : goal.returns-else-a-from
returns-else-a-from c = let h = c.hand-hand.ensures in let due = rw (h.cards, h.public, h.first, h.second) at c.is_due.ensures in
    no_card (placed c.args.spot.now) c.args.a _ (sym due ∙ c.if-is_due.true) c.from.ensures c.if-a-from.false

pub returns-else-is_due : goal.returns-else-is_due
returns-else-is_due c = let h = c.hand-hand.ensures in let due = rw (h.cards, h.public, h.first, h.second) at c.is_due.ensures in
    move_action (placed c.args.spot.now) c.args.a _ (sym due ∙ c.if-is_due.false) (c.is_legal.ensures ∙ ap (λ r. may r c.args.a) (c.in_play.ensures ∙ ap₂ in_play h.first h.second))
