-- The best choice to a profile, of the games by number (document 01, "The f64 values"). Proved in proofs/Facts.antt, which assumes nothing.
use Rattle.std.specs.Prelude.{◌≡◌, false, List, ℕ, ◌≤◌, eqb, Float}
use Rattle.game_tree.specs.Conditions.{Every}
use Rattle.game_tree.specs.Reply.{Choice}
use Rattle.game_tree_f64.specs.Values.{profile_of, value, lead, set_sum, best}
use Rattle.games.specs.Games.{Game, tree_of}
use Rattle.games.specs.Seats.{seats-out}
use Rattle.f64_games.specs.Values.{best_of}

-- in each of seat i's sets the choice c is what the sums under it come to, over all members
abbrev pub Decides : Game → List Float → ℕ → Choice → Type 0
Decides g P i c = Every (λ j k n. j ≡ i → c k ≡ (lead (set_sum (profile_of (tree_of g) P) i (tree_of g) c k) n).0) (tree_of g)

-- so the best choice decides,
abbrev pub BestDecides : Type 0
BestDecides = (g : Game) (P : List Float) (i : ℕ) → g.number ≤ 1 → seats-out g ≡ false
    → Decides g P i (best (profile_of (tree_of g) P) i (tree_of g))

-- and any choice that does takes the same action in each of the seat's sets, and its value is the best value
abbrev pub DecidesAlike : Type 0
DecidesAlike = (g : Game) (P : List Float) (i : ℕ) (c : Choice) → g.number ≤ 1 → seats-out g ≡ false
    → Decides g P i c
    → Every (λ j k n. j ≡ i → c k ≡ best (profile_of (tree_of g) P) i (tree_of g) k) (tree_of g)
    × (value (profile_of (tree_of g) P) i (λ j. eqb j i) c (tree_of g) ≡ best_of g P i)
