-- The moves, lower ones first: the records after those passed stand. The measure is how many moves may come. Assumes nothing.
use Rattle.std.proofs.Common.{◌≡◌}
use Rattle.listing_records.specs.internal.Written.{Wrote}
use Rattle.leduc_listing_positions.specs.internal.Spots.{placed}
use Rattle.leduc_listing.specs.internal.Walk.{next_records}
use Rattle.leduc_listing.proofs.+list_moves.Given as goal

abbrev pub decreases-list_moves : goal.decreases-list_moves
decreases-list_moves l = l.left

abbrev pub invariant-loop-a : goal.invariant-loop-a
invariant-loop-a l = record {
  wrote : Wrote l.initial.to l.to (next_records l.left (placed l.initial.spot) l.a);
  same : placed l.spot ≡ placed l.initial.spot;
}
