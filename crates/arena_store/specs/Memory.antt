-- What a call leaves of work memory (document 01, "Holding the evaluator to its hand": "Only work memory within 12 words per node is
-- free after an accepted call").
use Rattle.std.specs.Prelude.{◌≡◌, List, ℕ, zero, suc, ◌*◌, length, drop}
use Rattle.game_tree.specs.Sets.{size}
use Rattle.games.specs.Games.{Game, tree_of}

-- by the refusal number: beyond 12 words per node all it held, if the call was accepted; all it held, if it was refused
abbrev pub MemoryAfter : ℕ → Game → (old new : List ℕ) → Type 0
MemoryAfter zero g old new = (length new ≡ length old) × (drop (12 * size (tree_of g)) new ≡ drop (12 * size (tree_of g)) old)
MemoryAfter (suc r) g old new = new ≡ old
