-- Trees of games, strategies in parts, and a seat's worth in whole units (document 01, "Whole units").
-- Definitions only; nothing is assumed.
use Rattle.std.specs.Prelude.{List, ℕ, zero, suc, ◌*◌, ◌/◌, ◌^◌, ℤ, pos, ◌+ℤ◌}
use Rattle.game_tree.specs.Sums.{◌·◌}

-- what a seat is told at a decision; a set is all decisions of one seat with equal keys
abbrev pub Key : Type 0
Key = List ℕ

-- an end, a chance node with its children, or a decision with its children, one for each action
mutual
  pub data Tree : Type 0 where
    end : (ℕ → ℤ) → Tree  -- the payoff of each seat
    chance : Trees → Tree
    decide : ℕ → Key → Trees → Tree  -- the seat that acts, and its key

  pub data Trees : Type 0 where
    nil : Trees
    cons : Tree → Trees → Trees

-- how many children
unfoldable pub fan : Trees → ℕ
fan nil = zero
fan (cons t f) = suc (fan f)

-- the parts of each action, by seat, key and action
abbrev pub Strategy : Type 0
Strategy = ℕ → Key → ℕ → ℕ

-- the units of the root (document 01: U = C × D^m)
abbrev pub U : ℕ → ℕ → ℕ → ℕ
U C D m = C * D ^ m

-- how many parts each seat's sets have: D for all (document 01)
abbrev pub all : ℕ → ℕ → ℕ
all D j = D

-- a chance child has its parent's units / fan, a decision child its parent's units × part / D
module _ (D : ℕ → ℕ) (s : Strategy) where
  -- seat i's worth from u units: the sum over ends of units × payoff
  module _ (i : ℕ) where
    unfoldable mutual
      unfolding fan

      pub worth : ℕ → Tree → ℤ
      worth u (end p) = u · p i
      worth u (chance f) = worth_all (u / fan f) f
      worth u (decide j k f) = worth_kids u j k 0 f

      pub worth_all : ℕ → Trees → ℤ
      worth_all u nil = pos 0
      worth_all u (cons t f) = worth u t +ℤ worth_all u f

      pub worth_kids : ℕ → ℕ → Key → ℕ → Trees → ℤ
      worth_kids u j k a nil = pos 0
      worth_kids u j k a (cons t f) = worth (u * s j k a / D j) t +ℤ worth_kids u j k (suc a) f
