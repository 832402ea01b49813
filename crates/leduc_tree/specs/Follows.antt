-- What it is for a tree to follow Leduc's rules from a position, without fuel.
-- Definitions only; nothing is assumed. cs are the seats' cards, p the public card, h₁ and h₂ the histories of the rounds.
use Rattle.std.specs.Prelude.{◌≡◌, true, List, [], ◌∷◌, ℕ, Option}
use Rattle.game_tree.specs.Tree.{Tree, end, chance, decide, Trees, nil, cons}
use Rattle.leduc_betting.specs.Betting.{turn, ended}
use Rattle.leduc_rules.specs.Rules.{due, live, key, payoff}
use Rattle.leduc_rules.specs.Moves.{Reached}
use Rattle.leduc_tree.specs.Tree.{Position}
use Rattle.leduc_tree.specs.Positions.{acted, dealt}

-- each node stands for a reachable position: an end where the hand has ended, with its payoffs; a chance node where a card is due;
-- a decision where a seat acts, with its key
module _ (ante raise₁ raise₂ : ℕ) where
  unfoldable mutual
    unfolding dealt acted

    pub Follows : Tree → List ℕ → Option ℕ → List ℕ → List ℕ → Type 0
    Follows (end z) cs p h₁ h₂ = Reached cs p h₁ h₂ × (ended h₁ h₂ ≡ true) × (z ≡ payoff ante raise₁ raise₂ cs p h₁ h₂)
    Follows (chance f) cs p h₁ h₂ = Reached cs p h₁ h₂ × (due cs p h₁ h₂ ≡ true) × FollowsAll f (dealt cs p h₁ h₂)
    Follows (decide j k f) cs p h₁ h₂ =
        Reached cs p h₁ h₂ × (live cs p h₁ h₂ ≡ true) × (j ≡ turn h₁ h₂) × (k ≡ key cs p h₁ h₂ j) × FollowsAll f (acted cs p h₁ h₂)

    pub FollowsAll : Trees → List Position → Type 0
    FollowsAll nil [] = Unit {0}
    FollowsAll nil (q ∷ qs) = ⊥
    FollowsAll (cons t f) [] = ⊥
    FollowsAll (cons t f) (q ∷ qs) = Follows t q.cards q.public q.first q.second × FollowsAll f qs
