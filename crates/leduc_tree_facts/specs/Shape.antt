-- The betting shape below a deal: the tree without its keys and payoffs. Definitions only; nothing is assumed.
use Rattle.std.specs.Prelude.{[], ℕ, suc, pos}
use Rattle.game_tree.specs.Tree.{Tree, end, chance, decide, Trees, nil, cons}
use Rattle.leduc_tree.specs.Tree.{Position, start, dealt, payoff, next, below, m}

-- a tree without its keys and payoffs: what is left is where it ends, where a card is due, and where which seat acts
unfoldable mutual
  pub bare : Tree → Tree
  bare (end p) = end (λ i. pos 0)
  bare (chance f) = chance (bare_all f)
  bare (decide j k f) = decide j [] (bare_all f)

  pub bare_all : Trees → Trees
  bare_all nil = nil
  bare_all (cons t f) = cons (bare t) (bare_all f)

-- seat 0 has card c and seat 1 card d
abbrev pub with_cards : ℕ → ℕ → Position
with_cards c d = dealt (dealt start c) d

-- the tree below a position with both seats' cards dealt: fuel for the public card and the actions
unfoldable pub hand : (ante raise₁ raise₂ : ℕ) → Position → Tree
unfolding below next
hand ante raise₁ raise₂ q = below (payoff ante raise₁ raise₂) (suc m) (next q) q
