-- What holds of the walk, proved in proofs/Facts.antt.
use Rattle.std.specs.Prelude.{◌≡◌}
use Rattle.leduc_tree.specs.Tree.{start, next, fuel}
use Rattle.leduc_tree.specs.Turns.{turns}
use Rattle.leduc_listing.specs.Facts.{listing_of_leduc}
use Rattle.leduc_listing.specs.internal.Walk.{records_of}

-- the walk by the rule on the cards writes the listing
abbrev pub Walked : Type 0
Walked = listing_of_leduc ≡ records_of (turns fuel (next start) start)
