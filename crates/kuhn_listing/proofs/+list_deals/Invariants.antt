-- The deals: the records below the lower cards stand. The measure is how many seats have no card. Assumes nothing.
use Rattle.std.proofs.Common.{◌≡◌, ◌-◌, length}
use Rattle.listing_records.specs.internal.Written.{Wrote}
use Rattle.kuhn_listing.specs.internal.Walk.{next_deals}
use Rattle.kuhn_listing.proofs.+list_deals.Given as goal

abbrev pub decreases-list_deals : goal.decreases-list_deals
decreases-list_deals l = l.n - length l.cards.now.items

abbrev pub invariant-loop-card : goal.invariant-loop-card
invariant-loop-card l = record {
  wrote : Wrote l.initial.to l.to (next_deals l.n (length l.initial.cards.items) l.initial.cards.items l.card);
  same : l.cards.items ≡ l.initial.cards.items;
}
