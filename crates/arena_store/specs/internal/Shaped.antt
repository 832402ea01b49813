-- What holds of the games that numbers 1 to 3 let through, proved in proofs/Shaped.antt: the shape of their trees, and that a stored
-- one can be walked.
use Rattle.std.specs.Prelude.{◌≡◌, List, ℕ, ◌+◌, ◌≤◌}
use Rattle.game_tree.specs.Tree.{Key}
use Rattle.game_tree.specs.Conditions.{Every}
use Rattle.game_tree.specs.Sets.{size, entries, first_entry}
use Rattle.game_tree.specs.Shape.{Levels}
use Rattle.games.specs.Games.{Game, tree_of}
use Rattle.games.specs.Facts.{largest_payoff}
use Rattle.games.specs.Known.{Known}
use Rattle.arena.specs.internal.Index.{later_in}
use Rattle.arena.specs.internal.Legible.{Legible}
use Rattle.arena_store.specs.internal.Stored.{Stored}
use Rattle.arena.specs.internal.Words.{PLACES}

-- what a walk over its tree counts on: at most six seats and 2^21 nodes, at most 32 nodes on a path, their number above a decision by
-- its key; two or three actions at each decision, with entries inside a table; payoffs of at most 60
pub record Shaped (g : Game) : Type 0 where
  pub least : 2 ≤ g.seats
  pub most : g.seats ≤ 6
  pub nodes : size (tree_of g) ≤ PLACES
  pub levels : (v : ℕ → Key → ℕ) × Levels v 32 (tree_of g)
  pub actions : Every (λ j k n. (2 ≤ n) × (n ≤ 3)) (tree_of g)
  pub inside : Every (λ j k n. first_entry (tree_of g) j k + n ≤ entries (tree_of g)) (tree_of g)
  pub payoffs : largest_payoff g ≤ 60

abbrev pub GamesShaped : Type 0
GamesShaped = (g : Game) → Known g → Shaped g

-- a stored tree can be walked, with entries for each of its sets
abbrev pub GamesLegible : Type 0
GamesLegible = (g : Game) (w : List ℕ) (E : ℕ) → Known g → Stored g w → E ≡ entries (tree_of g)
    → Legible g.seats (tree_of g) (later_in (tree_of g)) w E 0 32 (tree_of g)
