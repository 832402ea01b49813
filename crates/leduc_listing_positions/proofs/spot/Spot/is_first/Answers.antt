-- The other seat's card is the lowest left. Assumes nothing.
use Rattle.std.proofs.Common.{[], ◌∷◌, ◌-◌, sym, ap, ap₂, ◌∙◌, eqb, get_or, rules}
use Rattle.leduc_betting.specs.Betting.{turn}
use Rattle.leduc_betting.specs.Cards.{seen, remaining}
use Rattle.leduc_tree.specs.Turns.{is_first}
use Rattle.leduc_listing_positions.proofs.Spots.{lowest_left, some_same}
use Rattle.leduc_listing_positions.proofs.spot.Spot.is_first.Goals as goal

pub unwrap-lowest-requires : goal.unwrap-lowest-requires
unwrap-lowest-requires c = rw (lowest_left _ _ _ _ c.nth_remaining.ensures (c.as_slice.ensures.value ∙ c.all_seen-known.ensures)) (search rules)

pub returns : goal.returns
unfolding is_first
returns c = let s = c.args.self.now in
    let seat = c.turn-seat.ensures.turn ∙ ap₂ turn c.hand-hand.ensures.first c.hand-hand.ensures.second in
    let found = lowest_left _ _ _ _ c.nth_remaining.ensures (c.as_slice.ensures.value ∙ c.all_seen-known.ensures) in
    let lowest = some_same _ _ (sym c.unwrap-lowest.ensures ∙ found) in
    ap₂ eqb (c.from.ensures ∙ ap₂ (λ cs j. get_or cs (1 - j) 0) c.hand-hand.ensures.cards seat)
    (lowest ∙ ap (λ x. get_or (remaining (seen (x ∷ []) s.public)) 0 0) (ap₂ (λ cs j. get_or cs j 0) c.hand-hand.ensures.cards seat))
