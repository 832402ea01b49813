-- What holds of the games that numbers 1 to 3 let through, proved in proofs/Facts.antt: the shape of their trees, and units that 64 bits
-- hold.
use Rattle.std.specs.Prelude.{List, ℕ, ◌*◌, ◌^◌, ◌≤◌, ◌<◌}
use Rattle.game_tree.specs.Table.{Table, ValidTable}
use Rattle.games.specs.Games.{Game, tree_of, most_parts, root_units}
use Rattle.games.specs.Facts.{largest_payoff}
use Rattle.games.specs.Known.{Known}
use Rattle.arena.specs.internal.Index.{later_in}
use Rattle.units.specs.internal.Readable.{Readable, UNITS}
use Rattle.arena_store.specs.internal.Stored.{Stored}

-- the root has fewer than 2^57 units; a worth and a best value fit a signed number of 64 bits, NashConv an unsigned one
pub record Fits (g : Game) (D : ℕ) : Type 0 where
  pub units : root_units g D < UNITS
  pub worth : root_units g D * largest_payoff g < 2 ^ 63
  pub conv : g.seats * (2 * (root_units g D * largest_payoff g)) < 2 ^ 64

abbrev pub UnitsFit : Type 0
UnitsFit = (g : Game) (D : ℕ) → Known g → D ≤ most_parts g → Fits g D

-- a stored tree can be walked with a valid table
abbrev pub GamesReadable : Type 0
GamesReadable = (g : Game) (D : ℕ) (w : List ℕ) (table : Table) → Known g → Stored g w → ValidTable (tree_of g) D table
    → Readable g.seats (tree_of g) (later_in (tree_of g)) w table D 0 32 (tree_of g)
