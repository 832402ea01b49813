-- The listing, from the first seat's card on. Assumes nothing.
use Rattle.std.proofs.Common.{ap, sym, ◌∙◌, arith, length, rules}
use Rattle.listing_records.proofs.Bytes.{wrote_as, wrote-start}
use Rattle.kuhn_listing.proofs.Steps.{all_deals}
use Rattle.kuhn_listing.proofs.list_sets.Goals as goal

pub list_deals-requires-clause-room : goal.list_deals-requires-clause-room
list_deals-requires-clause-room c = omega (arith, c.requires.2, c.new-to.ensures.start.1, ap length c.new-to.ensures.start.0, ap length (all_deals c.args.n c.requires.0 c.new.result.items c.new.ensures))

pub returns : goal.returns
returns c =
    let name = sym (c.list_deals.ensures.records.output ∙ c.new-to.ensures.output) in
    let done = wrote-start c.args.out.now c.new-to.ensures.start (wrote_as (sym (all_deals c.args.n c.requires.0 c.new.result.items c.new.ensures)) c.list_deals.ensures.records) in
    search rules
