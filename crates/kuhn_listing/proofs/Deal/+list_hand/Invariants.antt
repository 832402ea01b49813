-- The records from a history on. The measure is the actions left. Assumes nothing.
use Rattle.kuhn_listing.proofs.Deal.+list_hand.Given as goal

abbrev pub decreases-list_hand : goal.decreases-list_hand
decreases-list_hand l = l.left
