use native.Mathlib.Omega.{arith}
use Rattle.arena_index.proofs.Linking.{linked_end, linked_more, linked-start}
use Rattle.arena_index.proofs.Layout.link.Goals as goal

pub loop-a-init : goal.loop-a-init
loop-a-init c = linked_end _ _ _

pub loop-a-preserved : goal.loop-a-preserved
loop-a-preserved c = linked_more _ _ _ _ _ _ _ (omega (arith, c.loop-a.auto.a, c.loop-a-test.true)) (omega (arith, c.loop-a-test.true)) c.loop-a.invariant c.link_node.ensures

pub returns : goal.returns
returns c = linked-start _ _ _ _ _ (omega (arith, c.loop-a-test.false)) c.args.self.within.0 c.loop-a.invariant
