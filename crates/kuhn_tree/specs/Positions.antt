-- The positions that the nodes of Kuhn's tree stand for. Definitions only; nothing is assumed.
use Rattle.std.specs.Prelude.{List, [], ◌∷◌, ◌++◌, map, ℕ, get_or}
use Rattle.game_tree.specs.Tree.{Tree, end, chance, decide, Trees, nil, cons}
use Rattle.kuhn_rules.specs.Rules.{remaining, turn, legal}

-- the cards dealt and the actions made
abbrev pub Position : Type 0
Position = List ℕ × List ℕ

-- the positions after a deal, one for each card left, ascending
unfoldable pub dealt : ℕ → List ℕ → List ℕ → List Position
dealt n cs h = map (λ c. (cs ++ (c ∷ []), h)) (remaining n cs)

-- the positions after an action, one for each legal one, in legal order
unfoldable pub acted : ℕ → List ℕ → List ℕ → List Position
acted n cs h = map (λ a. (cs, h ++ (a ∷ []))) (legal n cs h (turn n h))

-- the positions of a tree's nodes, in their order; cs and h are its root's
module _ (n : ℕ) where
  unfoldable mutual
    unfolding dealt acted

    pub positions : Tree → List ℕ → List ℕ → List Position
    positions (end p) cs h = (cs, h) ∷ []
    positions (chance f) cs h = (cs, h) ∷ positions_all f (dealt n cs h)
    positions (decide j k f) cs h = (cs, h) ∷ positions_all f (acted n cs h)

    pub positions_all : Trees → List Position → List Position
    positions_all nil qs = []
    positions_all (cons t f) [] = []
    positions_all (cons t f) (q ∷ qs) = positions t q.0 q.1 ++ positions_all f qs

-- the position of node number a of a tree from the start
abbrev pub position_of : Tree → ℕ → ℕ → Position
position_of t n a = get_or (positions n t [] []) a ([], [])
