-- The whole tree. Assumes nothing.
use Rattle.std.proofs.Common.{refl, arith}
use native.Mathlib.Nat as NatL
use Rattle.game_tree.specs.Sets.{size}
use Rattle.leduc_arena_layout.specs.internal.Layout.{deal_tree}
use Rattle.leduc_arena_layout.proofs.Agreeing.{deals_room, deals_built}
use Rattle.leduc_arena_layout.proofs.Laying.{first_room, row_fits, lays_chance, row-start, row_done, row_on, child_room, keeps, kept_room, unlike}
use Rattle.leduc_arena.proofs.build.Goals as goal

pub loop-c-init : goal.loop-c-init
loop-c-init c = row-start _ _ _ _

pub deal_to_one-next-requires-clause-room : goal.deal_to_one-next-requires-clause-room
unfolding deal_tree size
deal_to_one-next-requires-clause-room c =
    kept_room _ _ _ _ _ (unlike _ _ (omega (arith, c.loop-c-test.true))) (child_room _ _ _ _ _ _ _ c.loop-c.invariant (first_room (deals_room _ c.requires) _ (NatL.le_refl _)) c.loop-c-test.true)

pub loop-c-preserved : goal.loop-c-preserved
loop-c-preserved c = row_on _ _ _ _ _ _ _ c.loop-c.invariant _ _ (keeps _ _ _ _ _ (unlike _ _ (omega (arith, c.loop-c-test.true))) c.deal_to_one-next.ensures)

pub chance-requires : goal.chance-requires
unfolding deal_tree size
chance-requires c = (row_fits (deals_room _ c.requires) (row_done _ _ _ _ _ _ _ c.loop-c.invariant (omega arith) c.loop-c-test.false) refl).0

pub returns : goal.returns
unfolding deal_tree size
returns c = deals_built _ _ _ (lays_chance (deals_room _ c.requires) (row_done _ _ _ _ _ _ _ c.loop-c.invariant (omega arith) c.loop-c-test.false) refl c.chance.ensures refl)
