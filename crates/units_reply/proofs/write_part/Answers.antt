-- A set's own part, entry by entry. Assumes nothing.
use Rattle.std.proofs.Common.{refl}
use Rattle.units_reply.proofs.Laying.{part_more}
use Rattle.units_reply.proofs.write_part.Goals as goal

pub loop-action-preserved : goal.loop-action-preserved
loop-action-preserved c = part_more _ _ _ _ _ _ c.put.ensures c.args.part.now c.loop-action-test.true refl c.loop-action.invariant
