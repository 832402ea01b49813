-- What it is for a choice to decide each set as the paper says, to be optimal, and a reply tree with other units. Definitions only; nothing
-- is assumed.
use Rattle.std.specs.Prelude.{◌≡◌, ℕ, suc, pred, ◌^◌, ◌<◌, ℤ, pos, ◌+ℤ◌, ◌≤ℤ◌}
use Rattle.game_tree.specs.Sums.{◌·◌}
use Rattle.game_tree.specs.Tree.{Key}
use Rattle.game_tree.specs.Reply.{Choice, Replies, Reply, count, leaf, lowest, more, none, own, set_sum, split}

-- P holds at every own node, of its key and its number of actions
unfoldable mutual
  unfolding count

  pub EveryOwn : (Key → ℕ → Type 0) → Reply → Type 0
  EveryOwn P (leaf u v) = Unit {0}
  EveryOwn P (split f) = EveryOwnAll P f
  EveryOwn P (own u k f) = P k (count f) × EveryOwnAll P f

  pub EveryOwnAll : (Key → ℕ → Type 0) → Replies → Type 0
  EveryOwnAll P none = Unit {0}
  EveryOwnAll P (more t f) = EveryOwn P t × EveryOwnAll P f

-- the choice of each set in the tree is the lowest action with the greatest sum
abbrev pub Decides : Choice → Reply → Type 0
Decides c r = EveryOwn (λ k n. c k ≡ lowest n (set_sum c r k)) r

-- no single action of a set in the tree has a greater sum
abbrev pub Optimal : Choice → Reply → Type 0
Optimal c r = EveryOwn (λ k n. (a : ℕ) → a < n → set_sum c r k a ≤ℤ set_sum c r k (c k)) r

-- what parts p, E in each set, are worth over E to the power r: a scale in place of divisions
unfoldable mutual
  pub scaled : ℕ → (Key → ℕ → ℕ) → Reply → ℕ → ℤ
  scaled E p (leaf u v) r = E ^ r · v
  scaled E p (split f) r = scaled_all E p f r
  scaled E p (own u k f) r = scaled_kids E p k 0 f (pred r)

  pub scaled_all : ℕ → (Key → ℕ → ℕ) → Replies → ℕ → ℤ
  scaled_all E p none r = pos 0
  scaled_all E p (more t f) r = scaled E p t r +ℤ scaled_all E p f r

  pub scaled_kids : ℕ → (Key → ℕ → ℕ) → Key → ℕ → Replies → ℕ → ℤ
  scaled_kids E p k a none r = pos 0
  scaled_kids E p k a (more t f) r = p k a · scaled E p t r +ℤ scaled_kids E p k (suc a) f r
