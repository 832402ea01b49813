-- Worths with payoffs lifted by 64, so that no sum is below 0. Definitions only; nothing is assumed.
use Rattle.std.specs.Prelude.{ℕ, suc, ◌+◌, ◌-◌, ◌*◌, ◌/◌, ℤ, pos, negsuc}
use Rattle.game_tree.specs.Tree.{Key, Tree, end, chance, decide, Trees, nil, cons, fan, Strategy}

-- a payoff of at most 64 in size, lifted
abbrev pub lift : ℤ → ℕ
lift (pos a) = a + 64
lift (negsuc a) = 64 - suc a

-- seat i's lifted worth from u units, with D parts in each set
module _ (D : ℕ) (s : Strategy) (i : ℕ) where
  unfoldable mutual
    pub lifted : ℕ → Tree → ℕ
    lifted u (end p) = u * lift (p i)
    lifted u (chance f) = lifted_all (u / fan f) f
    lifted u (decide j k f) = lifted_kids u j k 0 f

    pub lifted_all : ℕ → Trees → ℕ
    lifted_all u nil = 0
    lifted_all u (cons t f) = lifted u t + lifted_all u f

    pub lifted_kids : ℕ → ℕ → Key → ℕ → Trees → ℕ
    lifted_kids u j k a nil = 0
    lifted_kids u j k a (cons t f) = lifted (u * s j k a / D) t + lifted_kids u j k (suc a) f
