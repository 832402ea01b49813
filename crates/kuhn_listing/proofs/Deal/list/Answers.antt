-- A full deal: nothing, or the histories of a hand. Assumes nothing.
use Rattle.std.proofs.Common.{ap, sym, ◌∙◌, arith, length}
use Rattle.kuhn_tree.specs.Order.{histories}
use Rattle.listing_records.proofs.Bytes.{wrote_as, wrote_nothing}
use Rattle.kuhn_listing.proofs.Steps.{none_first, whole_hand}
use Rattle.kuhn_listing.proofs.Deal.list.Goals as goal

pub returns-else-any_first : goal.returns-else-any_first
returns-else-any_first c = let n = length c.args.self.now.cards.now in
    wrote_nothing (none_first n c.args.self.now.cards.now c.args.self.now.seats.0 (sym c.any_first.ensures ∙ c.if-any_first.false) (histories n))

pub list_hand-requires-clause-room : goal.list_hand-requires-clause-room
list_hand-requires-clause-room c = omega (arith, c.requires, ap length (whole_hand (length c.args.self.now.cards.now) c.args.self.now.cards.now c.new.result.items c.new.ensures))

pub returns-then-any_first : goal.returns-then-any_first
returns-then-any_first c = wrote_as (whole_hand (length c.args.self.now.cards.now) c.args.self.now.cards.now c.new.result.items c.new.ensures) c.list_hand.ensures.records
