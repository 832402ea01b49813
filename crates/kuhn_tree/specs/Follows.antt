-- What it is for a tree to follow Kuhn's rules from a position, without fuel. Definitions only; nothing is assumed.
use Rattle.std.specs.Prelude.{◌≡◌, true, List, [], ◌∷◌, ℕ}
use Rattle.game_tree.specs.Tree.{Tree, end, chance, decide, Trees, nil, cons}
use Rattle.kuhn_rules.specs.Rules.{due, live, over, turn, key, payoff}
use Rattle.kuhn_rules.specs.Moves.{Reached}
use Rattle.kuhn_tree.specs.Positions.{Position, acted, dealt}

-- each node stands for a reachable position: an end where the hand is over, with its payoffs;
-- a chance node where a card is due; a decision where a seat acts, with its key
module _ (ante bet n : ℕ) where
  unfoldable mutual
    unfolding dealt acted

    pub Follows : Tree → List ℕ → List ℕ → Type 0
    Follows (end p) cs h = Reached n cs h × (over n cs h ≡ true) × (p ≡ payoff ante bet n cs h)
    Follows (chance f) cs h = Reached n cs h × (due n cs ≡ true) × FollowsAll f (dealt n cs h)
    Follows (decide j k f) cs h = Reached n cs h × (live n cs h ≡ true) × (j ≡ turn n h) × (k ≡ key cs h j) × FollowsAll f (acted n cs h)

    pub FollowsAll : Trees → List Position → Type 0
    FollowsAll nil [] = Unit {0}
    FollowsAll nil (q ∷ qs) = ⊥
    FollowsAll (cons t f) [] = ⊥
    FollowsAll (cons t f) (q ∷ qs) = Follows t q.0 q.1 × FollowsAll f qs
