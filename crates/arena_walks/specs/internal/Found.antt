-- The members of a set, each with what was passed down to it. Definitions only; nothing is assumed.
use Rattle.std.specs.Prelude.{false, cond, List, [], ◌∷◌, ◌++◌, ℕ, suc, ◌+◌, eqb}
use Rattle.game_tree.specs.Tree.{Key, Tree, end, chance, decide, Trees, nil, cons, fan}
use Rattle.game_tree.specs.Reply.{same}
use Rattle.game_tree.specs.Sets.{size}

-- a member: its place, what was passed down, its children
abbrev pub Member : Type 0 → Type 0
Member W = ℕ × W × Trees

-- a chance node with n children passes deal u n of u to each, a decision of seat j with key l passes move u j l a to action a
module _ {W : Type 0} (deal : W → ℕ → W) (move : W → ℕ → Key → ℕ → W) (i : ℕ) (k : Key) where
  -- the members of seat i's set k in a tree at place a that has u, in the order of their places; in a row what is passed goes by the
  -- child's number
  unfoldable mutual
    unfolding fan same size

    pub found : ℕ → W → Tree → List (Member W)
    found a u (end p) = []
    found a u (chance f) = found_all (suc a) (λ x. deal u (fan f)) 0 f
    found a u (decide j l f) = let r : List (Member W) = found_all (suc a) (move u j l) 0 f in cond (cond (eqb j i) (same l k) false)
        ((a, u, f) ∷ r) r

    pub found_all : ℕ → (ℕ → W) → ℕ → Trees → List (Member W)
    found_all a g x nil = []
    found_all a g x (cons t f) = found a (g x) t ++ found_all (a + size t) g (suc x) f
