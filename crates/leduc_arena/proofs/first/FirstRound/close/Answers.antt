-- The public card, and round 2 behind it. Assumes nothing.
use Rattle.std.proofs.Common.{refl, arith}
use native.Mathlib.Nat as NatL
use Rattle.game_tree.specs.Sets.{size}
use Rattle.leduc_arena_layout.specs.internal.Layout.{public_tree}
use Rattle.leduc_arena_layout.proofs.Laying.{first_room, row_fits, lays_chance, row-start, row_done, row_on, child_room, keeps, passes, kept_room, second_room, second_built, unlike_both, alike_one, alike_two}
use Rattle.leduc_arena.proofs.first.FirstRound.close.Goals.{then-p-self+then-p-self-2, else-p-self, else-p-self-via-then-p-self+else-p-self-2, else-p-self-via-else-p-self}
use Rattle.leduc_arena.proofs.first.FirstRound.close.Goals as goal

pub loop-p-init : goal.loop-p-init
loop-p-init c = row-start _ _ _ _

pub lay_out-next-requires-clause-room : goal.lay_out-next-requires-clause-room
unfolding public_tree size
lay_out-next-requires-clause-room c = let a = c.args in let made = c.after_public.ensures in
    second_room a.self.now.zero a.self.now.one a.number a.paid c.loop-p.p _ _ _ made.zero made.one made.showdown
    (kept_room _ _ _ _ _ (unlike_both _ _ _ c.if-p-self.true c.if-p-self-2.true) (child_room _ _ _ _ _ _ _ c.loop-p.invariant (first_room c.requires.room _ (NatL.le_refl _)) c.loop-p-test.true))

pub loop-p-preserved : goal.loop-p-preserved
loop-p-preserved c = elim c.if-p-self.branch [
  | then-p-self+then-p-self-2 w ↦ let made = w.after_public.ensures in
      rw (w.w-is, w.next-is)
      (row_on _ _ _ _ _ _ _ c.loop-p.invariant _ _ (keeps _ _ _ _ _ (unlike_both _ _ _ w.if-p-self.true w.if-p-self-2.true) (second_built _ _ _ _ _ _ _ _ made.zero made.one made.showdown w.lay_out-next.ensures)))
  | else-p-self w ↦ rw (w.w-is, w.next-is) (elim w.else-p-self.branch [
    | else-p-self-via-then-p-self+else-p-self-2 u ↦ row_on _ _ _ _ _ _ _ c.loop-p.invariant _ _ (passes _ _ _ _ _ (alike_two _ _ _ u.if-p-self.true u.if-p-self-2.false))
    | else-p-self-via-else-p-self u ↦ row_on _ _ _ _ _ _ _ c.loop-p.invariant _ _ (passes _ _ _ _ _ (alike_one _ _ _ u.if-p-self.false))
  ])
]

pub chance-requires : goal.chance-requires
unfolding public_tree size
chance-requires c = (row_fits c.requires.room (row_done _ _ _ _ _ _ _ c.loop-p.invariant (omega arith) c.loop-p-test.false) refl).0

pub bounds-w-at : goal.bounds-w-at
unfolding public_tree size
bounds-w-at c = (row_fits c.requires.room (row_done _ _ _ _ _ _ _ c.loop-p.invariant (omega arith) c.loop-p-test.false) refl).1

pub returns : goal.returns
unfolding public_tree size
returns c = lays_chance c.requires.room (row_done _ _ _ _ _ _ _ c.loop-p.invariant (omega arith) c.loop-p-test.false) refl c.chance.ensures refl
