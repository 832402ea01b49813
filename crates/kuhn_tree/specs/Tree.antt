-- Kuhn's tree for n seats: a child for each card left, ascending, or for each legal action in legal order;
-- ends carry the payoffs (document 01, "The tree and its sets").
-- Definitions only; nothing is assumed.
use Rattle.std.specs.Prelude.{cond, List, [], ◌∷◌, ◌++◌, ℕ, zero, suc, ◌+◌, ◌*◌, ◌-◌, leb}
use Rattle.game_tree.specs.Tree.{Tree, end, chance, decide, Trees, nil, cons}
use Rattle.kuhn_rules.specs.Rules.{due, live, remaining, turn, key, legal, payoff}

-- at a position a card is due, or a seat acts, or the hand is over
pub data Next : Type 0 where
  card : Next
  action : Next
  nothing : Next

unfoldable pub next : ℕ → List ℕ → List ℕ → Next
next n cs h = cond (due n cs) card (cond (live n cs h) action nothing)

-- a child for each number of a list, in its order
unfoldable pub each : List ℕ → (ℕ → Tree) → Trees
each [] g = nil
each (c ∷ cs) g = cons (g c) (each cs g)

-- the tree below the position with cards cs and history h, as far as the fuel for cards and actions lasts
module _ (ante bet n : ℕ) where
  unfoldable pub below : ℕ → Next → List ℕ → List ℕ → Tree
  below zero x cs h = end (payoff ante bet n cs h)
  below (suc r) nothing cs h = end (payoff ante bet n cs h)
  below (suc r) card cs h = chance (each (remaining n cs) (λ c. below r (next n (cs ++ (c ∷ [])) h) (cs ++ (c ∷ [])) h))
  below (suc r) action cs h = decide (turn n h) (key cs h (turn n h))
      (each (legal n cs h (turn n h)) (λ a. below r (next n cs (h ++ (a ∷ []))) cs (h ++ (a ∷ []))))

-- the most actions in a hand (document 01: m is 2n - 1)
abbrev pub m : ℕ → ℕ
m n = 2 * n - 1

-- fuel for a card each, and for these actions
abbrev pub fuel : ℕ → ℕ
fuel n = n + m n

-- Kuhn's tree: from the start, with no card dealt and no action made
unfoldable pub tree_of_kuhn : (ante bet n : ℕ) → Tree
tree_of_kuhn ante bet n = below ante bet n (fuel n) (next n [] []) [] []

-- the product of 1 to n
unfoldable pub factorial : ℕ → ℕ
factorial zero = 1
factorial (suc n) = suc n * factorial n

-- the fans of the deal, multiplied (document 01: C is (n + 1)!)
unfoldable pub C : ℕ → ℕ
unfolding factorial
C n = factorial (n + 1)

-- the most parts that a set may have, with up to 6 seats (document 01, number 6)
abbrev pub largest_parts : ℕ → ℕ
largest_parts n = cond (leb n 4) 64 16
