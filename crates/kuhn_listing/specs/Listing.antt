-- The listing of Kuhn's sets with n seats, from its tree:
-- the cards of a node are those of its position (document 01, "The tree and its sets").
use Rattle.kuhn_tree.specs.Positions.{Position}
use Rattle.listing_records.specs.Listing.{Cards}

-- no public card, and the cards of the seats
abbrev pub cards_of : Position → Cards
cards_of q = (255, q.0)
