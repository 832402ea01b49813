use native.Mathlib.Omega.{arith}
use Rattle.arena_index.proofs.Numbering.{walked_start, walked_more, walked_end, met-few}
use Rattle.arena_index.proofs.Layout.number.Goals as goal

pub loop-a-init : goal.loop-a-init
loop-a-init c = (walked_start _ _, omega arith)

pub loop-a-preserved : goal.loop-a-preserved
loop-a-preserved c = let m = c.meet-entry.ensures in (
  walked_more _ _ _ _ _ _ _ _ c.loop-a-test.true c.loop-a.invariant.0 c.word-x.ensures m,
  omega (arith, c.loop-a.invariant.1, (met-few _ _ _ _ _ _ m).0),
)

pub returns : goal.returns
returns c = walked_end _ _ _ _ _ (omega (arith, c.loop-a.auto.a-end, c.loop-a-test.false)) c.loop-a.invariant.0
