-- Where a game's tree stands in work memory. Definitions only; nothing is assumed.
use Rattle.std.specs.Prelude.{cond, List, ℕ, ◌+◌, ◌*◌, ◌≤◌, length}
use Rattle.game_tree.specs.Tree.{Key}
use Rattle.arena.specs.internal.Index.{Indexed}
use Rattle.kuhn_arena_layout.specs.internal.Layout as Kuhn
use Rattle.leduc_arena_layout.specs.internal.Codes as Leduc
use Rattle.games.specs.Games.{Game, is_kuhn, tree_of}
use Rattle.games.specs.Facts.{nodes_of}

-- the code of a set, and how many codes there may be
abbrev pub code_of : Game → ℕ → Key → ℕ
code_of g = cond (is_kuhn g) (Kuhn.code_of g.seats) Leduc.code_of

abbrev pub codes_of : Game → ℕ
codes_of g = cond (is_kuhn g) (Kuhn.code_count g.seats) Leduc.codes

-- where the first members of its sets stand: behind the nodes and the codes
abbrev pub heads_of : Game → ℕ
heads_of g = nodes_of g + codes_of g

-- its tree and index stand there
abbrev pub Stored : Game → List ℕ → Type 0
Stored g w = Indexed g.seats (heads_of g) w (tree_of g)

-- and the words that an evaluation writes stand behind it: 12 for each node in all. It is no ghost field of a struct of the words: such a field holds a fact of one
-- proof, which Stored is not known to be, and each function would ask that the struct's game is its table's
abbrev pub Ready : Game → List ℕ → Type 0
Ready g w = Stored g w × (12 * nodes_of g ≤ length w)
