-- A tree held in work memory: a word for each node, a node before its children. Definitions only; nothing is assumed.
use Rattle.std.specs.Prelude.{◌≡◌, ℕ, suc, ◌+◌, ◌<◌, get_or}
use mathlib.Core.List.{List, [], ◌∷◌}
use Rattle.game_tree.specs.Tree.{Key, Tree, end, chance, decide, Trees, nil, cons, fan}
use Rattle.game_tree.specs.Sets.{size}
use Rattle.arena.specs.internal.Words.{END, CHANCE, DECISION, kind_of, actor_of, actions_of, set_of, next_of, later_of, payoff_of}

-- n seats; s gives each set its number, by seat and key; l gives the next member of a set behind a place
module _ (n : ℕ) (s : ℕ → Key → ℕ) (l : ℕ → ℕ → Key → ℕ) where
  -- word x at place a says what node t is, and where its subtree ends
  unfoldable pub Says : ℕ → ℕ → Tree → Type 0
  unfolding size
  Says x a (end p) = (kind_of x ≡ END) × ((i : ℕ) → i < n → payoff_of x i ≡ p i)
  Says x a (chance f) = (kind_of x ≡ CHANCE) × (next_of x ≡ a + size (chance f))
  Says x a (decide j k f) = (kind_of x ≡ DECISION) × (actor_of x ≡ j) × (actions_of x ≡ fan f) × (set_of x ≡ s j k)
      × (next_of x ≡ a + size (decide j k f)) × (later_of x ≡ l a j k)

  -- the words from place a on say what these nodes are
  unfoldable pub SaysAll : List ℕ → ℕ → List Tree → Type 0
  unfolding Says
  SaysAll w a [] = Unit {0}
  SaysAll w a (t ∷ ts) = Says (get_or w a 0) a t × SaysAll w (suc a) ts

  -- tree t is held from place a on
  unfoldable mutual
    unfolding Says size

    pub Held : List ℕ → ℕ → Tree → Type 0
    Held w a (end p) = Says (get_or w a 0) a (end p)
    Held w a (chance f) = Says (get_or w a 0) a (chance f) × HeldAll w (suc a) f
    Held w a (decide j k f) = Says (get_or w a 0) a (decide j k f) × HeldAll w (suc a) f

    pub HeldAll : List ℕ → ℕ → Trees → Type 0
    HeldAll w a nil = Unit {0}
    HeldAll w a (cons t f) = Held w a t × HeldAll w (a + size t) f
