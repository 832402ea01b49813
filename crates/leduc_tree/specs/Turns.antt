-- The positions at which a seat acts, in the order of their nodes, and which of them are the first of their set.
-- Definitions only; nothing is assumed.
use Rattle.std.specs.Prelude.{Bool, cond, List, [], ◌∷◌, ◌++◌, map, ℕ, zero, suc, ◌-◌, eqb, length, get_or}
use Rattle.game_tree.specs.Sets.{Decision}
use Rattle.leduc_betting.specs.Cards.{seen, remaining}
use Rattle.leduc_tree.specs.Tree.{Position, start, actor, choices, key, after_deal}
use Rattle.leduc_tree.specs.Tree.{after_action, Next, card, action, nothing, next, fuel}

-- the lists of g, one after another
unfoldable pub joined : List Position → (Position → List Position) → List Position
joined [] g = []
joined (q ∷ qs) g = g q ++ joined qs g

-- the positions at which a seat acts, from q on, each before those after it
unfoldable pub turns : ℕ → Next → Position → List Position
unfolding next joined
turns zero x q = []
turns (suc r) nothing q = []
turns (suc r) card q = joined (after_deal q) (λ s. turns r (next s) s)
turns (suc r) action q = q ∷ joined (after_action q) (λ s. turns r (next s) s)

-- the other seat's card is the lowest that is neither the own card nor the public one
unfoldable pub is_first : Position → Bool
unfolding remaining
is_first q = eqb (get_or q.cards (1 - actor q) 0) (get_or (remaining (seen (get_or q.cards (actor q) 0 ∷ []) q.public)) 0 0)

-- those of a list that are
unfoldable pub first_ones : List Position → List Position
unfolding is_first
first_ones [] = []
first_ones (q ∷ qs) = let r : List Position = first_ones qs in cond (is_first q) (q ∷ r) r

-- the first position of each set, in set order
unfoldable pub first_turns : List Position
unfolding turns first_ones
first_turns = first_ones (turns fuel (next start) start)

-- the decision at a position: the seat that acts, its key, its number of actions
abbrev pub decision_at : Position → Decision
decision_at q = (actor q, key q, length (choices q))

-- how many actions each set has, in set order
unfoldable pub actions_in_order : List ℕ
unfolding first_turns
actions_in_order = map (λ q. length (choices q)) first_turns
