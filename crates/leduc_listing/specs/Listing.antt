-- The listing of Leduc's sets, from its tree: the cards of a node are those of its position (document 01, "The tree and its sets").
use Rattle.leduc_rules.specs.Rules.{shown-public}
use Rattle.leduc_tree.specs.Tree.{Position}
use Rattle.listing_records.specs.Listing.{Cards}

-- the public card or 255, and the cards of the seats
abbrev pub cards_of : Position → Cards
cards_of q = (shown-public q.public, q.cards)
