-- The worths of a table by game number (document 01, "Whole units": "a seat's worth is the sum over ends of units × payoff").
use Rattle.std.specs.Prelude.{cond, List, ℕ, ltb, ℤ, pos}
use Rattle.prelude.specs.Finite.{places}
use Rattle.game_tree.specs.Table.{Table, table_worth}
use Rattle.games.specs.Games.{Game, tree_of, root_units}

-- six whole numbers: what a table with D parts in each set is worth to each seat, from C × D^m units at the root; 0 past the seats
unfoldable pub worths_of : Game → ℕ → Table → List ℤ
unfolding table_worth places
worths_of g D table = places 6 (λ i. cond (ltb i g.seats) (table_worth (tree_of g) D (root_units g D) table i) (pos 0))
