-- Leduc's tree: a child for each card left, ascending, or for each legal action in legal order; ends carry the payoffs
-- (document 01, "The tree and its sets"). Definitions only; nothing is assumed.
use Rattle.std.specs.Prelude.{Bool, cond, List, [], ◌∷◌, ◌++◌, map, ltb, ℤ, length, Option, None, Some}
use Prim.Native.Nat.{ℕ, zero, suc, ◌+◌}
use Rattle.game_tree.specs.Tree.{Key, Tree, end, chance, decide, Trees, nil, cons}
use Rattle.leduc_betting.specs.Betting as Betting
use Rattle.leduc_rules.specs.Rules as Rules
use Rattle.leduc_betting.specs.Betting.{closes, in_play, options, turn}
use Rattle.leduc_betting.specs.Cards.{seen, remaining}

-- the seats' cards, the public card, and the histories of the two rounds
pub record Position : Type 0 where
  pub cards : List ℕ
  pub public : Option ℕ
  pub first : List ℕ
  pub second : List ℕ

-- no card dealt and no action made
abbrev pub start : Position
start = record { cards = []; public = None; first = []; second = [] }

-- card c dealt: to a seat that has none, else it is the public card
abbrev pub dealt : Position → ℕ → Position
dealt q c = cond (ltb (length q.cards) 2)
    (record { cards = q.cards ++ (c ∷ []); public = q.public; first = q.first; second = q.second })
    (record { cards = q.cards; public = Some c; first = q.first; second = q.second })

-- action a made: in round 2 once round 1 has closed
abbrev pub acted : Position → ℕ → Position
acted q a = cond (closes q.first)
    (record { cards = q.cards; public = q.public; first = q.first; second = q.second ++ (a ∷ []) })
    (record { cards = q.cards; public = q.public; first = q.first ++ (a ∷ []); second = q.second })

-- the rules, of a position: a card is due; a seat acts; the hand has ended; whose turn it is; what that seat may do; its key; the payoffs
abbrev pub due : Position → Bool
due q = Rules.due q.cards q.public q.first q.second

abbrev pub ended : Position → Bool
ended q = Betting.ended q.first q.second

abbrev pub actor : Position → ℕ
actor q = turn q.first q.second

abbrev pub choices : Position → List ℕ
choices q = options (in_play q.first q.second)

abbrev pub key : Position → Key
key q = Rules.key q.cards q.public q.first q.second (actor q)

abbrev pub payoff : (ante raise₁ raise₂ : ℕ) → Position → ℕ → ℤ
payoff ante raise₁ raise₂ q = Rules.payoff ante raise₁ raise₂ q.cards q.public q.first q.second

-- the positions after the deal of each card left, ascending; after each legal action, in legal order
abbrev pub after_deal : Position → List Position
after_deal q = map (dealt q) (remaining (seen q.cards q.public))

abbrev pub after_action : Position → List Position
after_action q = map (acted q) (choices q)

-- at a position a card is due, or the hand has ended, or a seat acts
pub data Next : Type 0 where
  card : Next
  nothing : Next
  action : Next

unfoldable pub next : Position → Next
next q = cond (due q) card (cond (ended q) nothing action)

-- a child for each position of a list, in its order
unfoldable pub each : List Position → (Position → Tree) → Trees
each [] g = nil
each (q ∷ qs) g = cons (g q) (each qs g)

-- the tree below a position with the payoffs pay, as far as the fuel for cards and actions lasts
module _ (pay : Position → ℕ → ℤ) where
  unfoldable pub below : ℕ → Next → Position → Tree
  unfolding next each
  below zero x q = end (pay q)
  below (suc r) nothing q = end (pay q)
  below (suc r) card q = chance (each (after_deal q) (λ s. below r (next s) s))
  below (suc r) action q = decide (actor q) (key q) (each (after_action q) (λ s. below r (next s) s))

-- the most actions in a hand (document 01: m is 8)
abbrev pub m : ℕ
m = 8

-- fuel for a card each, the public card, and these actions
abbrev pub fuel : ℕ
fuel = 3 + m

-- Leduc's tree: from the start
unfoldable pub tree_of_leduc : (ante raise₁ raise₂ : ℕ) → Tree
unfolding below
tree_of_leduc ante raise₁ raise₂ = below (payoff ante raise₁ raise₂) fuel (next start) start

-- the fans of the deal, multiplied: 6, 5 and 4 (document 01: C is 120)
abbrev pub C : ℕ
C = 120
