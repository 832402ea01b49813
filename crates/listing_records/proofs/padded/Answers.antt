-- Bytes onto zeros. Assumes nothing.
use Rattle.std.proofs.Common.{ap, ◌∙◌, length, arith}
use Rattle.listing_records.specs.Listing.{padded}
use Rattle.listing_records.proofs.Bytes.{padded-paste}
use Rattle.listing_records.proofs.padded.Goals as goal
use lib.Seq.{take_all}

pub returns : goal.returns
returns g c = let bytes = c.args.bytes.now in
    c.copy_at.ensures ∙ padded-paste g.row.N bytes (length bytes) c.requires (omega arith) ∙ ap (padded g.row.N) (take_all (length bytes) bytes (omega arith))
