-- FOLD, CALL and RAISE after a raise. Assumes nothing.
use Rattle.std.proofs.Common.{arith, refl, ◌<◌}
use Rattle.leduc_arena_layout.proofs.Laying.{fold_room, call_room, last_fits, lays_last, again_room, again_fits, lays_again, raise_few, raise_again}
use Rattle.leduc_arena_rounds.proofs.+after_raise.Goals as goal

pub end-call-requires : goal.end-call-requires
end-call-requires g t c = let a = c.args in
    (omega (arith, g.met.R.Round.small, (raise_few c.requires.raise).2), rw c.folding.ensures (fold_room _ _ _ _ _ _ _ _ _ a.raised.left c.requires.room))

pub close-raise-requires-clause-room : goal.close-raise-requires-clause-room
close-raise-requires-clause-room g t c =
    rw c.STEP.ensures (call_room _ _ _ _ _ _ _ _ _ (rw c.folding.ensures at c.end-call.ensures) (first_of (omega arith, grind arith)) c.args.raised.left c.requires.room)

pub write_decision-requires-clause-next_bound : goal.write_decision-requires-clause-next_bound
write_decision-requires-clause-next_bound g t c =
    last_fits _ _ _ _ _ _ _ _ _ (rw c.folding.ensures at c.end-call.ensures)
    (rw c.STEP.ensures at c.close-raise.ensures) (grind arith) c.args.raised.left c.if-left-eq0.true c.requires.room

pub returns-then-left-eq0 : goal.returns-then-left-eq0
returns-then-left-eq0 g t c =
    lays_last _ _ _ _ _ _ _ _ _ (rw c.folding.ensures at c.end-call.ensures)
    (rw c.STEP.ensures at c.close-raise.ensures) (grind arith) c.args.raised.left c.if-left-eq0.true c.requires.room refl
    (rw c.code.ensures.0 at c.write_decision.ensures)

pub after_raise-next-requires : goal.after_raise-next-requires
after_raise-next-requires g t c κs within = let left : 0 < c.args.raised.left = omega (arith, c.if-left-eq0.false) in (
  omega (arith, c.decreases, c.if-left-eq0.false),
  (
    within,
    (
      rw c.STEP-2.ensures (raise_again c.requires.raise (first_of (omega arith, grind arith)) left),
      rw c.STEP-2.ensures (again_room _ _ _ _ _ _ _ _ _ (rw c.folding.ensures at c.end-call.ensures)
          (rw c.STEP.ensures at c.close-raise.ensures) (grind arith) (grind arith) c.args.raised.left left c.requires.room),
    ),
  ),
)

pub write_decision-requires-2-clause-next_bound : goal.write_decision-requires-2-clause-next_bound
write_decision-requires-2-clause-next_bound g t c =
    again_fits _ _ _ _ _ _ _ _ _ (rw c.folding.ensures at c.end-call.ensures)
    (rw c.STEP.ensures at c.close-raise.ensures) (grind arith) c.args.raised.left (omega (arith, c.if-left-eq0.false)) c.requires.room
    (rw c.STEP-2.ensures at c.after_raise-next.ensures) (grind arith)

pub returns : goal.returns
returns g t c =
    lays_again _ _ _ _ _ _ _ _ _ (rw c.folding.ensures at c.end-call.ensures)
    (rw c.STEP.ensures at c.close-raise.ensures) (grind arith) c.args.raised.left (omega (arith, c.if-left-eq0.false)) c.requires.room
    (rw c.STEP-2.ensures at c.after_raise-next.ensures) (grind arith) refl (rw c.code-2.ensures.0 at c.write_decision-2.ensures)
