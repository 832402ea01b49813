-- What holds of Leduc's listing, proved in proofs/Facts.antt.
use Rattle.std.specs.Prelude.{◌≡◌, ◌*◌, ◌≤◌, ℕ, length, List}
use Rattle.game_tree.specs.Conditions.{Every}
use Rattle.game_tree.specs.Tree.{Tree}
use Rattle.game_tree.specs.Sets.{set_count}
use Rattle.leduc_listing.specs.Listing.{cards_of}
use Rattle.leduc_rules.specs.Stakes.{ante, raise₁, raise₂}
use Rattle.leduc_tree.specs.Tree.{tree_of_leduc}
use Rattle.leduc_tree.specs.Positions.{position_of}
use Rattle.listing_records.specs.Listing.{listing}

-- Leduc's tree at today's stakes
abbrev pub tree : Tree
tree = tree_of_leduc ante raise₁ raise₂

unfoldable pub listing_of_leduc : List ℕ
unfolding listing
listing_of_leduc = listing tree (λ a. cards_of (position_of tree a))

-- each key is whole in its 13 bytes
abbrev pub KeysFit : Type 0
KeysFit = Every (λ j k a. length k ≤ 13) tree

-- 24 bytes per set
abbrev pub Long : Type 0
Long = length listing_of_leduc ≡ 24 * set_count tree
