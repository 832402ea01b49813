-- The record of a spot that is the first of its set. Assumes nothing.
use Rattle.std.proofs.Common.{ap, ap₂, sym, refl, ◌∙◌, arith, length}
use Rattle.leduc_betting.specs.Betting.{options, in_play, turn}
use Rattle.listing_records.proofs.Bytes.{wrote_nothing}
use Rattle.leduc_listing_positions.specs.internal.Spots.{placed}
use Rattle.leduc_listing.proofs.Steps.{node_idle, node-later, node-length, wrote-node, both_dealt, options_few}
use Rattle.leduc_listing.proofs.write_first.Goals.{then-not-is_live-via-then-not-is_live, then-not-is_live-via-else-not-is_live+then-not-is_first}
use Rattle.leduc_listing.proofs.write_first.Goals as goal

pub is_first-requires : goal.is_first-requires
is_first-requires c = let h = c.hand-hand.ensures in let live = rw (h.cards, h.public, h.first, h.second) at c.is_live.ensures in
    omega (arith, both_dealt (placed c.args.spot.now) (sym live ∙ c.if-not-is_live.false), c.requires.room.seats)

pub returns-then-not-is_live : goal.returns-then-not-is_live
returns-then-not-is_live c = let h = c.hand-hand.ensures in let live = rw (h.cards, h.public, h.first, h.second) at c.is_live.ensures in
    let q = placed c.args.spot.now in wrote_nothing (elim c.then-not-is_live.branch [
      | then-not-is_live-via-then-not-is_live w ↦ node_idle q (sym live ∙ w.if-not-is_live.true)
      | then-not-is_live-via-else-not-is_live+then-not-is_first w ↦ node-later q (sym live ∙ w.if-not-is_live.false) (sym w.is_first.ensures ∙ w.if-not-is_first.true)
    ])

pub key-key-requires-clause-dealt : goal.key-key-requires-clause-dealt
key-key-requires-clause-dealt c = let h = c.hand-hand.ensures in let live = rw (h.cards, h.public, h.first, h.second) at c.is_live.ensures in
    omega (arith, both_dealt (placed c.args.spot.now) (sym live ∙ c.if-not-is_live.false), c.requires.room.seats)

pub key-key-requires-clause-few : goal.key-key-requires-clause-few
key-key-requires-clause-few c = let h = c.hand-hand.ensures in let live = rw (h.cards, h.public, h.first, h.second) at c.is_live.ensures in
    omega (arith, both_dealt (placed c.args.spot.now) (sym live ∙ c.if-not-is_live.false), c.requires.room.places)

pub overflow_cast-legal : goal.overflow_cast-legal
overflow_cast-legal c = record { fits = omega (arith, ap length c.options_of-legal.ensures, options_few c.in_play.result.now) }

pub put-requires-clause-room : goal.put-requires-clause-room
put-requires-clause-room c = let h = c.hand-hand.ensures in let live = rw (h.cards, h.public, h.first, h.second) at c.is_live.ensures in
    omega (arith, c.requires.bytes, node-length (placed c.args.spot.now) (sym live ∙ c.if-not-is_live.false) (sym c.is_first.ensures ∙ c.if-not-is_first.false))

pub returns : goal.returns
returns c = let h = c.hand-hand.ensures in let live = rw (h.cards, h.public, h.first, h.second) at c.is_live.ensures in let q = placed c.args.spot.now in
    wrote-node q _ _ _ _ _ _ q.public (sym live ∙ c.if-not-is_live.false) (sym c.is_first.ensures ∙ c.if-not-is_first.false)
    (c.turn.ensures.turn ∙ ap₂ turn h.first h.second) (c.as_slice.ensures.value ∙ c.key-key.ensures) refl h.cards
    (ap length (c.options_of-legal.ensures ∙ ap options (c.in_play.ensures ∙ ap₂ in_play h.first h.second))) c.put.ensures
