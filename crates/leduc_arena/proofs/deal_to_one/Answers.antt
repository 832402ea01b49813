-- Seat 1's card, and round 1 behind it. Assumes nothing.
use Rattle.std.proofs.Common.{refl, arith}
use native.Mathlib.Nat as NatL
use Rattle.game_tree.specs.Sets.{size}
use Rattle.leduc_arena_layout.specs.internal.Layout.{deal_tree}
use Rattle.leduc_arena_layout.proofs.Laying.{first_room, row_fits, lays_chance, row-start, row_done, row_on, child_room, keeps, passes, kept_room, unlike, alike, first_tree_room, first_tree_built}
use Rattle.leduc_arena.proofs.deal_to_one.Goals.{then-d-c, else-d-c}
use Rattle.leduc_arena.proofs.deal_to_one.Goals as goal

pub loop-d-init : goal.loop-d-init
loop-d-init c = row-start _ _ _ _

pub lay_out-next-requires-clause-room : goal.lay_out-next-requires-clause-room
unfolding deal_tree size
lay_out-next-requires-clause-room c =
    first_tree_room c.args.c c.loop-d.d (kept_room _ _ _ _ _ (unlike _ _ c.if-d-c.true) (child_room _ _ _ _ _ _ _ c.loop-d.invariant (first_room c.requires.room _ (NatL.le_refl _)) c.loop-d-test.true))

pub loop-d-preserved : goal.loop-d-preserved
loop-d-preserved c = elim c.if-d-c.branch [
  | then-d-c w ↦ rw (w.w-is, w.next-is) (row_on _ _ _ _ _ _ _ c.loop-d.invariant _ _ (keeps _ _ _ _ _ (unlike _ _ w.if-d-c.true) (first_tree_built _ _ w.lay_out-next.ensures)))
  | else-d-c w ↦ rw (w.w-is, w.next-is) (row_on _ _ _ _ _ _ _ c.loop-d.invariant _ _ (passes _ _ _ _ _ (alike _ _ w.if-d-c.false)))
]

pub chance-requires : goal.chance-requires
unfolding deal_tree size
chance-requires c = (row_fits c.requires.room (row_done _ _ _ _ _ _ _ c.loop-d.invariant (omega arith) c.loop-d-test.false) refl).0

pub bounds-w-at : goal.bounds-w-at
unfolding deal_tree size
bounds-w-at c = (row_fits c.requires.room (row_done _ _ _ _ _ _ _ c.loop-d.invariant (omega arith) c.loop-d-test.false) refl).1

pub returns : goal.returns
unfolding deal_tree size
returns c = lays_chance c.requires.room (row_done _ _ _ _ _ _ _ c.loop-d.invariant (omega arith) c.loop-d-test.false) refl c.chance.ensures refl
