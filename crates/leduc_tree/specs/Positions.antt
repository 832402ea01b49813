-- The positions that the nodes of Leduc's tree stand for. Definitions only; nothing is assumed.
use Rattle.std.specs.Prelude.{cond, List, [], ◌∷◌, ◌++◌, map, ℕ, ltb, length, get_or, Option, None, Some}
use Rattle.game_tree.specs.Tree.{Tree, end, chance, decide, Trees, nil, cons}
use Rattle.leduc_betting.specs.Betting.{closes, turn}
use Rattle.leduc_betting.specs.Cards.{seen, remaining}
use Rattle.leduc_rules.specs.Rules.{legal}
use Rattle.leduc_tree.specs.Tree.{Position}

-- the position with these cards and histories
abbrev pub position : List ℕ → Option ℕ → List ℕ → List ℕ → Position
position cs p h₁ h₂ = record { cards = cs; public = p; first = h₁; second = h₂ }

-- the positions after a deal, one for each card left, ascending: it goes to a seat that has none, else it is the public card
unfoldable pub dealt : List ℕ → Option ℕ → List ℕ → List ℕ → List Position
dealt cs p h₁ h₂ =
    map (λ c. cond (ltb (length cs) 2) (position (cs ++ (c ∷ [])) p h₁ h₂) (position cs (Some c) h₁ h₂)) (remaining (seen cs p))

-- the positions after an action, one for each legal one, in legal order: it stands in round 2 once round 1 has closed
unfoldable pub acted : List ℕ → Option ℕ → List ℕ → List ℕ → List Position
acted cs p h₁ h₂ =
    map (λ a. cond (closes h₁) (position cs p h₁ (h₂ ++ (a ∷ []))) (position cs p (h₁ ++ (a ∷ [])) h₂)) (legal cs p h₁ h₂ (turn h₁ h₂))

-- the positions of a tree's nodes, in their order; cs, p, h₁ and h₂ are its root's
unfoldable mutual
  unfolding dealt acted

  pub positions : Tree → List ℕ → Option ℕ → List ℕ → List ℕ → List Position
  positions (end z) cs p h₁ h₂ = position cs p h₁ h₂ ∷ []
  positions (chance f) cs p h₁ h₂ = position cs p h₁ h₂ ∷ positions_all f (dealt cs p h₁ h₂)
  positions (decide j k f) cs p h₁ h₂ = position cs p h₁ h₂ ∷ positions_all f (acted cs p h₁ h₂)

  pub positions_all : Trees → List Position → List Position
  positions_all nil qs = []
  positions_all (cons t f) [] = []
  positions_all (cons t f) (q ∷ qs) = positions t q.cards q.public q.first q.second ++ positions_all f qs

-- the position of node number a of a tree from the start
abbrev pub position_of : Tree → ℕ → Position
position_of t a = get_or (positions t [] None [] []) a (position [] None [] [])
