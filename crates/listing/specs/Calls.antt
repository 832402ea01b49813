-- What the listing call answers and leaves (document 01, "The tree and its sets": "Listing writes 24 bytes per set ... Its answer
-- carries node and set counts").
use Rattle.std.specs.Prelude.{Result, cond, List, ◌++◌, ℕ, zero, suc, length, drop}
use Rattle.game_tree.specs.Sets.{size, set_count}
use Rattle.kuhn_tree.specs.Positions as Kuhn-tree
use Rattle.leduc_tree.specs.Positions as Leduc-tree
use Rattle.games.specs.Games.{Game, is_kuhn, tree_of}
pub use Rattle.games.specs.Games.{game_of}
use Rattle.listing_records.specs.Listing.{Cards, listing}
use Rattle.kuhn_listing.specs.Listing as Kuhn
use Rattle.leduc_listing.specs.Listing as Leduc
use Rattle.std.specs.Result.{result_unwrap_or}
use Rattle.refusals.specs.declared.Refusal.{Refusal}
use Rattle.refusals.specs.Outcomes.{number_of}
use Rattle.listing.specs.declared.Listed.{Listed}
use Rattle.listing.specs.declared.ListingAnswer.{ListingAnswer}

-- the cards of a node of the game's tree, by its number: those of its position
unfoldable pub cards_at : Game → ℕ → Cards
cards_at g a = cond (is_kuhn g) (Kuhn.cards_of (Kuhn-tree.position_of (tree_of g) g.seats a))
    (Leduc.cards_of (Leduc-tree.position_of (tree_of g) a))

-- the listing of the game's tree
unfoldable pub listing_of : Game → List ℕ
unfolding listing
listing_of g = listing (tree_of g) (cards_at g)

-- the answer: the node and set counts; every field but the number is 0, if the call was refused
abbrev pub answer : ℕ → Game → ListingAnswer
answer zero g = record { refusal = 0; nodes = size (tree_of g); sets = set_count (tree_of g) }
answer (suc r) g = record { refusal = suc r; nodes = 0; sets = 0 }

-- the answer for C to a result
abbrev pub answer_of : Result Listed Refusal → ListingAnswer
answer_of r = let l = result_unwrap_or r (record { nodes = 0; sets = 0 }) in record { refusal = number_of r; nodes = l.nodes; sets = l.sets }

-- what the output holds then: the listing at its front and what it held beyond; all it held, if the call was refused
abbrev pub written : ℕ → Game → List ℕ → List ℕ
written zero g out = listing_of g ++ drop (length (listing_of g)) out
written (suc r) g out = out
