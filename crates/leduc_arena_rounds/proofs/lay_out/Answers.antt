-- A whole round. Assumes nothing.
use Rattle.leduc_arena_layout.specs.internal.Layout.{round_tree}
use Rattle.leduc_arena_layout.proofs.Laying.{room_one, room_two, two_fit, lays_two}
use Rattle.leduc_arena_rounds.proofs.lay_out.Goals as goal

pub after_call-raise-requires-clause-room : goal.after_call-raise-requires-clause-room
unfolding round_tree
after_call-raise-requires-clause-room g c = room_one _ _ _ _ c.requires.room

pub after_raise-next-requires-clause-room : goal.after_raise-next-requires-clause-room
unfolding round_tree
after_raise-next-requires-clause-room g c = rw c.STEP.ensures (room_two _ _ _ _ _ c.after_call-raise.ensures c.requires.room)

pub write_decision-requires-clause-next_bound : goal.write_decision-requires-clause-next_bound
unfolding round_tree
write_decision-requires-clause-next_bound g c = two_fit _ _ c.after_call-raise.ensures (rw c.STEP.ensures at c.after_raise-next.ensures) c.requires.room

pub returns : goal.returns
unfolding round_tree
returns g c = lays_two _ _ c.after_call-raise.ensures (rw c.STEP.ensures at c.after_raise-next.ensures) c.requires.room
    (rw c.code.ensures.0 at c.write_decision.ensures)
