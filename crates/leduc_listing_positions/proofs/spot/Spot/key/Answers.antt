-- The key, part by part. Assumes nothing.
use Rattle.std.proofs.Common.{ap, ap₂, ◌∙◌, ◌++◌, get_or}
use Rattle.leduc_betting.specs.Betting.{turn}
use Rattle.leduc_listing_positions.specs.internal.Moves.{items}
use Rattle.leduc_listing_positions.proofs.Spots.{key_put, key_told}
use Rattle.leduc_listing_positions.proofs.spot.Spot.key.Goals as goal

pub returns : goal.returns
returns c = let s = c.args.self.now in
    let seat = c.turn-seat.ensures.turn ∙ ap₂ turn c.hand-hand.ensures.first c.hand-hand.ensures.second in
    let put = key_put _ _ _ _ _ _ _ _ (items s.first) (items s.second) _ _ _ _ _ c.new-key.ensures c.push.ensures.items c.push-2.ensures.items c.push-3.ensures.items c.push-4.ensures.items
    (c.append.ensures ∙ ap (λ h. c.push-4.new.self.items ++ h) c.hand-hand.ensures.first) c.push-5.ensures.items (c.append-2.ensures ∙ ap (λ h. c.push-5.new.self.items ++ h) c.hand-hand.ensures.second) in
    key_told (items s.cards) (items s.first) (items s.second) _ s.public _ _ _ _ _ put seat (ap₂ (λ cs j. get_or cs j 0) c.hand-hand.ensures.cards seat) c.unwrap_or.ensures c.len.ensures.value c.len-2.ensures.value
