-- The sums of the places passed. Assumes nothing.
use Rattle.units_collect.proofs.Summing.{reached-start, reached_more}
use Rattle.units_collect.proofs.ends.end_sums.Goals as goal

pub loop-a-init : goal.loop-a-init
loop-a-init c = reached-start _ _ _ c.none-sums.ensures

pub loop-a-preserved : goal.loop-a-preserved
loop-a-preserved c = reached_more _ _ _ _ _ c.loop-a.sums.of c.with_node-sums.result.of c.loop-a.invariant c.word.ensures c.word-in-loop-a.ensures c.with_node-sums.ensures
