-- What holds of the listing by game number, proved in proofs/Facts.antt.
use Rattle.std.specs.Prelude.{◌≡◌, ℕ, ◌*◌, length}
use Rattle.game_tree.specs.Sets.{set_count}
use Rattle.games.specs.Games.{Game, tree_of}
use Rattle.kuhn_listing.specs.Facts.{listing_of_kuhn}
use Rattle.leduc_listing.specs.Facts.{listing_of_leduc}
use Rattle.listing.specs.Calls.{listing_of, game_of}

-- number 0 lists Kuhn's sets, number 1 Leduc's
pub record ByNumber : Type 0 where
  pub kuhn : (seats : ℕ) → listing_of (game_of 0 seats) ≡ listing_of_kuhn seats
  pub leduc : listing_of (game_of 1 2) ≡ listing_of_leduc

-- 24 bytes per set
abbrev pub Long : Type 0
Long = (g : Game) → length (listing_of g) ≡ 24 * set_count (tree_of g)
