-- The facts of specs/Facts.antt: both games' sets have equal actions and heights. Assumes nothing.
use Rattle.game_tree_f64.specs.Values.{profile_of}
use Rattle.game_tree_f64.proofs.Deciding.{best-decides, decides-alike}
use Rattle.games.specs.Games.{tree_of}
use Rattle.games.proofs.Facts.{games_fit}
use Rattle.arena_store.proofs.Shaped.{same_heights}
use Rattle.f64_games.specs.Values.{best_of}
use Rattle.f64_games.specs.Facts.{BestDecides, DecidesAlike}

pub games_best-decides : BestDecides
games_best-decides g P i known out = best-decides (profile_of (tree_of g) P) i (tree_of g) (games_fit g known out).actions (same_heights g)

pub games_decides-alike : DecidesAlike
unfolding best_of
games_decides-alike g P i c known out = decides-alike (profile_of (tree_of g) P) i (tree_of g) c (games_fit g known out).actions (same_heights g)
