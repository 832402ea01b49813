use native.Mathlib.Omega.{arith}
use Rattle.arena.proofs.Walking.{along_more, along_end, along_stuck}
use Rattle.arena.proofs.walk.fan.Goals as goal

pub returns-then-next-at : goal.returns-then-next-at
returns-then-next-at c = along_stuck _ _ _ _ _ _ c.loop-at.invariant.0 c.loop-at-test.true c.behind-next.ensures c.if-next-at.true

pub loop-at-preserved : goal.loop-at-preserved
loop-at-preserved c = let b = c.behind-next.ensures in
    (along_more _ _ _ _ _ _ c.loop-at.invariant.0 c.loop-at-test.true b, omega (arith, c.loop-at.invariant.1, c.if-next-at.false), omega (arith, b.near))

pub returns : goal.returns
returns c = along_end _ _ _ _ _ c.loop-at.invariant.0 c.loop-at-test.false
