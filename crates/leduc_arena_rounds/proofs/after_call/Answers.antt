-- CALL and RAISE after a CALL. Assumes nothing.
use Rattle.leduc_arena_layout.specs.internal.Layout.{called_tree}
use Rattle.leduc_arena_layout.proofs.Laying.{room_one, room_two, two_fit, lays_two}
use Rattle.leduc_arena_rounds.proofs.after_call.Goals as goal

pub close-raise-requires-clause-room : goal.close-raise-requires-clause-room
unfolding called_tree
close-raise-requires-clause-room g c = rw c.STEP.ensures (room_one _ _ _ _ c.requires.room)

pub after_raise-next-requires-clause-room : goal.after_raise-next-requires-clause-room
unfolding called_tree
after_raise-next-requires-clause-room g c = rw c.STEP-2.ensures (room_two _ _ _ _ _ (rw c.STEP.ensures at c.close-raise.ensures) c.requires.room)

pub write_decision-requires-clause-next_bound : goal.write_decision-requires-clause-next_bound
unfolding called_tree
write_decision-requires-clause-next_bound g c = two_fit _ _ (rw c.STEP.ensures at c.close-raise.ensures)
    (rw c.STEP-2.ensures at c.after_raise-next.ensures) c.requires.room

pub returns : goal.returns
unfolding called_tree
returns g c =
    lays_two _ _ (rw c.STEP.ensures at c.close-raise.ensures) (rw c.STEP-2.ensures at c.after_raise-next.ensures) c.requires.room
    (rw (c.code.ensures.0, c.STEP-3.ensures) at c.write_decision.ensures)
