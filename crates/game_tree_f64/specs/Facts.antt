-- What holds of the f64 values, statement by statement, of the definitions in Values.
-- Proved in proofs/Deciding.antt, which assumes nothing.
use Rattle.std.specs.Prelude.{◌≡◌, ℕ, eqb}
use Rattle.game_tree.specs.Tree.{Tree}
use Rattle.game_tree.specs.Conditions.{Every}
use Rattle.game_tree.specs.Reply.{Choice}
use Rattle.game_tree.specs.Shape.{SameActions, SameHeights}
use Rattle.game_tree_f64.specs.Values.{Profile, value, lead, set_sum, best, best_value}

-- In each of the seat's sets the best choice is what the paper's sentence asks:
-- the action that a choice comes to by the sums behind the actions, over all members, under the best choice itself.
abbrev pub BestDecides : Type 0
BestDecides = (s : Profile) (i : ℕ) (t : Tree) → SameActions t → SameHeights t
    → Every (λ j k n. j ≡ i → best s i t k ≡ (lead (set_sum s i t (best s i t) k) n).0) t

-- Any choice that decides so takes the same action in each of the seat's sets, and has the same value.
abbrev pub DecidesAlike : Type 0
DecidesAlike = (s : Profile) (i : ℕ) (t : Tree) (c : Choice) → SameActions t → SameHeights t
    → Every (λ j k n. j ≡ i → c k ≡ (lead (set_sum s i t c k) n).0) t
    → Every (λ j k n. j ≡ i → c k ≡ best s i t k) t × (value s i (λ j. eqb j i) c t ≡ best_value s i t)
