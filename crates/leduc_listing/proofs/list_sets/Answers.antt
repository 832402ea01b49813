-- The listing, from the moves of the start on. Assumes nothing.
use Rattle.std.proofs.Common.{ap, sym, ◌∙◌, arith, length, rules}
use Rattle.listing_records.proofs.Bytes.{wrote_as, wrote-start}
use Rattle.leduc_listing_positions.specs.internal.Spots.{placed}
use Rattle.leduc_listing.proofs.Steps.{from_start}
use Rattle.leduc_listing.proofs.list_sets.Goals as goal

pub list_moves-requires-clause-bytes : goal.list_moves-requires-clause-bytes
list_moves-requires-clause-bytes c = omega (arith, c.requires, c.new-to.ensures.start.1, ap length c.new-to.ensures.start.0, ap length (from_start (placed c.start.result) c.start.ensures))

pub returns : goal.returns
returns c =
    let name = sym (c.list_moves.ensures.records.output ∙ c.new-to.ensures.output) in
    let done = wrote-start c.args.out.now c.new-to.ensures.start (wrote_as (sym (from_start (placed c.start.result) c.start.ensures)) c.list_moves.ensures.records) in
    search rules
