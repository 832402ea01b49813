-- The moves, lower ones first: the node after each, then what follows its moves. Assumes nothing.
use Rattle.std.proofs.Common.{◌≡◌, ap, sym, refl, ◌∙◌, arith, true}
use Rattle.listing_records.proofs.Bytes.{wrote_as, wrote_nothing, wrote_append, wrote-length}
use Rattle.leduc_listing_positions.specs.internal.Spots.{placed, undone}
use Rattle.leduc_listing.specs.internal.Walk.{is_move, move_bound, moved}
use Rattle.leduc_listing.proofs.Steps.{moves_none, moves_spent, moves_passed, moves_more, moves_fit, room_same}
use Rattle.leduc_listing.proofs.+list_moves.Goals.{then-is_move, else-is_move}
use Rattle.leduc_listing.proofs.+list_moves.Goals as goal

pub returns-then-left-eq0-clause-records : goal.returns-then-left-eq0-clause-records
returns-then-left-eq0-clause-records t c = wrote_nothing (moves_spent c.args.left (placed c.args.spot.now) _ c.if-left-eq0.true)

pub loop-a-init : goal.loop-a-init
loop-a-init t c = record { wrote = wrote_nothing (moves_none c.args.left (placed c.args.spot.now)); same = refl }

pub write_first-requires-clause-bytes : goal.write_first-requires-clause-bytes
write_first-requires-clause-bytes t c = let q = placed c.args.spot.now in let a = c.loop-a.a in let same = c.loop-a.invariant.same in
    let move : is_move q a ≡ true = sym (c.is_move.ensures ∙ ap (λ p. is_move p a) same) ∙ c.if-is_move.true in
    let fit = moves_fit c.args.left q _ a c.if-left-eq0.false move (c.make-made.ensures.moved ∙ ap (λ p. moved p a) same) (move_bound q) (rw c.move_bound-a-end.ensures.0 at c.loop-a-test.true) in
    omega (arith, fit, c.requires.bytes, c.loop-a.invariant.wrote.next, wrote-length c.loop-a.invariant.wrote)

pub list_moves-requires : goal.list_moves-requires
list_moves-requires t c = let q = placed c.args.spot.now in let a = c.loop-a.a in let same = c.loop-a.invariant.same in
    let move : is_move q a ≡ true = sym (c.is_move.ensures ∙ ap (λ p. is_move p a) same) ∙ c.if-is_move.true in
    let fit = moves_fit c.args.left q _ a c.if-left-eq0.false move (c.make-made.ensures.moved ∙ ap (λ p. moved p a) same) (move_bound q) (rw c.move_bound-a-end.ensures.0 at c.loop-a-test.true) in
    let room = room_same c.loop-a.spot c.args.spot.now _ same c.requires.room in (
      omega (arith, c.decreases, c.if-left-eq0.false),
      (
        record { seats = c.make-made.ensures.few.0; places = omega (arith, room.places, c.make-made.ensures.few.1, c.if-left-eq0.false) },
        omega (arith, fit, c.requires.bytes, c.loop-a.invariant.wrote.next, wrote-length c.loop-a.invariant.wrote, c.write_first.ensures.next, wrote-length c.write_first.ensures),
      ),
    )

pub loop-a-preserved : goal.loop-a-preserved
loop-a-preserved t c = let q = placed c.args.spot.now in let a = c.loop-a.a in let same = c.loop-a.invariant.same in
    elim c.if-is_move.branch [
      | then-is_move w ↦
          let move : is_move q a ≡ true = sym (c.is_move.ensures ∙ ap (λ p. is_move p a) same) ∙ w.if-is_move.true in
          let more = moves_more c.args.left q _ a c.if-left-eq0.false move (w.make-made.ensures.moved ∙ ap (λ p. moved p a) same) in
          rw (w.to-is, w.spot-is) (record {
            wrote = wrote_as (sym more) (wrote_append c.loop-a.invariant.wrote (wrote_append w.write_first.ensures w.list_moves.ensures.records));
            same = w.take_back.ensures ∙ ap (undone w.make-made.result) w.list_moves.ensures.same ∙ w.make-made.ensures.back ∙ same;
          })
      | else-is_move w ↦ rw (w.to-is, w.spot-is) (record {
        wrote = wrote_as (sym (moves_passed c.args.left q a (sym (c.is_move.ensures ∙ ap (λ p. is_move p a) same) ∙ w.if-is_move.false))) c.loop-a.invariant.wrote;
        same = same;
      })
    ]
