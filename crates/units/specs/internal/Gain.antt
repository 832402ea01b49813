-- What a seat gains under a choice, with payoffs lifted by 64, and where the members of its sets stand. Definitions only; nothing is
-- assumed.
use Rattle.std.specs.Prelude.{◌≡◌, ℕ, zero, suc, ◌+◌, ◌*◌, ◌/◌, cond, List, ◌==◌, nat_lt, slice_index}
use Rattle.game_tree.specs.Sums.{sumℕ}
use Rattle.game_tree.specs.Tree.{Key, Tree, end, chance, decide, Trees, nil, cons, fan, Strategy}
use Rattle.game_tree.specs.Reply.{Choice, share}
use Rattle.game_tree.specs.Sets.{size}
use Rattle.arena_walks.specs.internal.Found as Walks
use Rattle.units.specs.internal.Lifted.{lift}

-- a member of a set: its place, its units, its children
abbrev pub Member : Type 0
Member = Walks.Member ℕ

-- seat i replies to the others of s, with D parts in each set
module _ (D : ℕ) (s : Strategy) (i : ℕ) where
  -- of u units at a decision of seat j with key k, what goes on to each action
  abbrev pub given : ℕ → ℕ → Key → ℕ → ℕ
  given u j k a = share D (j == i) u (s j k a)

  -- what tree t gains from u units under the choice c; in a row the units go by the child's number
  module _ (c : Choice) where
    unfoldable mutual
      unfolding fan share

      pub gain : ℕ → Tree → ℕ
      gain u (end p) = u * lift (p i)
      gain u (chance f) = gain_all (λ a. u / fan f) 0 f
      gain u (decide j k f) = cond (j == i) (gain_pick (given u j k) 0 f (c k)) (gain_all (given u j k) 0 f)

      pub gain_all : (ℕ → ℕ) → ℕ → Trees → ℕ
      gain_all g x nil = 0
      gain_all g x (cons t f) = gain (g x) t + gain_all g (suc x) f

      pub gain_pick : (ℕ → ℕ) → ℕ → Trees → ℕ → ℕ
      gain_pick g x nil a = 0
      gain_pick g x (cons t f) zero = gain (g x) t
      gain_pick g x (cons t f) (suc a) = gain_pick g (suc x) f a

  -- the members of seat i's set k in a tree at place a with u units, in the order of their places
  abbrev pub found : Key → ℕ → ℕ → Tree → List Member
  found k a u t = Walks.found (λ u n. u / n) given i k a u t

  abbrev pub found_all : Key → ℕ → (ℕ → ℕ) → ℕ → Trees → List Member
  found_all k a g x f = Walks.found_all (λ u n. u / n) given i k a g x f

  -- the gains behind an action of the set k, added over all its members
  unfoldable pub set_gain : Choice → Tree → ℕ → Key → ℕ → ℕ
  unfolding sumℕ gain Walks.found
  set_gain c t u k a = sumℕ (λ x. gain_pick c (λ y. x.1) 0 x.2 a) (found k 0 u t)

  -- the units of every node of a tree at place a, with u units, stand from place b on
  module _ (b : ℕ) (w : List ℕ) where
    unfoldable mutual
      unfolding fan share size

      pub Stocked : ℕ → ℕ → Tree → Type 0
      Stocked a u (end p) = slice_index w (b + a) ≡ u
      Stocked a u (chance f) = (slice_index w (b + a) ≡ u) × StockedAll (suc a) (λ x. u / fan f) 0 f
      Stocked a u (decide j k f) = (slice_index w (b + a) ≡ u) × StockedAll (suc a) (given u j k) 0 f

      pub StockedAll : ℕ → (ℕ → ℕ) → ℕ → Trees → Type 0
      StockedAll a g x nil = Unit {0}
      StockedAll a g x (cons t f) = Stocked a (g x) t × StockedAll (a + size t) g (suc x) f

-- of the actions 0 to n, the lowest with the greatest q
unfoldable pub topmost : (ℕ → ℕ) → ℕ → ℕ
topmost q zero = 0
topmost q (suc n) = let b : ℕ = topmost q n in cond (nat_lt (q b) (q (suc n))) (suc n) b
