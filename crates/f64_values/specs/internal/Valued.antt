-- What a walk over a stored tree with reaches finds: values and choices in f64. Definitions only; nothing is assumed.
use Rattle.std.specs.Prelude.{◌≡◌, Bool, List, ℕ, suc, ◌+◌, ◌≤◌, ◌<◌, eqb, Float, length}
use Rattle.game_tree.specs.Tree.{Key, Tree, decide, Trees, fan}
use Rattle.game_tree.specs.Conditions.{Every}
use Rattle.game_tree.specs.Sets.{size, sizes, first_entry}
use Rattle.arena.specs.internal.Words.{actions_of, set_of}
use Rattle.game_tree_f64.specs.Values.{Profile, profile_of, nought, one, plus, weight, edge, value, added, lead, set_sum}
use Rattle.arena_walks.specs.internal.Stage.{Stage, Known, Memo, SubtreeAt, SubtreesAt}
use Rattle.f64_collect.specs.internal.Reached.{Marked}

-- a place, a seat and a depth that keep every number in range
pub record Walkable (a i d : ℕ) : Type 0 where
  pub place : a + d < 8388608
  pub seat : i < 6
  pub shallow : d ≤ 32

-- a stage on which seat i replies to a profile: the reach of its nodes stands from place b on,
-- and each choice is what the sums behind the actions come to
pub record Scene (P : List Float) (i h b k : ℕ) : Type 0 where
  pub stage : Stage i h k
  pub inside : Every (λ j y n. first_entry stage.tree j y + n ≤ length P) stage.tree
  pub marked : Marked (profile_of stage.tree P) i b stage.words 0 one stage.tree
  pub decided : Every (λ j y n. j ≡ i
      → stage.choice y ≡ (lead (set_sum (profile_of stage.tree P) i stage.tree stage.choice y) n).0) stage.tree
  pub below : b + size stage.tree ≤ k

module _ {P : List Float} {i h b k : ℕ} (S : Scene P i h b k) where
  abbrev pub entries : Profile
  entries = profile_of S.stage.tree P

  abbrev pub own : ℕ → Bool
  own j = eqb j i

  -- what a tree is worth under the choices
  abbrev pub valued : Tree → Float
  valued t = value entries i own S.stage.choice t

  -- and with the payoff on the edge to it
  abbrev pub gained : Tree → Float
  gained t = plus (edge i t) (valued t)

  abbrev pub added_up : (ℕ → Float) → ℕ → Float → Trees → Float
  added_up g x v f = added entries i own S.stage.choice g x v f

  -- the sum behind an action of a set
  abbrev pub behind_action : Key → ℕ → Float
  behind_action y a = set_sum entries i S.stage.tree S.stage.choice y a

module _ (P : List Float) (i d h b k : ℕ) where
  -- r is the value of the tree at place a, if no path of it has more than d nodes
  abbrev pub Valued : (a : ℕ) (old new : List ℕ) (r : Float) → Type 0
  Valued a old new r = (S : Scene P i h b k) → Memo S.stage old → (t : Tree) (x : ℕ) → x ≤ d → SubtreeAt S.stage x a t
      → Memo S.stage new × (r ≡ valued S t)

  -- with the payoff on the edge to it
  abbrev pub Gained : (a : ℕ) (old new : List ℕ) (r : Float) → Type 0
  Gained a old new r = (S : Scene P i h b k) → Memo S.stage old → (t : Tree) (x : ℕ) → x ≤ d → SubtreeAt S.stage x a t
      → Memo S.stage new × (r ≡ gained S t)

  -- of the children of a chance node, from place a to z
  abbrev pub Dealt : (a z : ℕ) (old new : List ℕ) (r : Float) → Type 0
  Dealt a z old new r = (S : Scene P i h b k) → Memo S.stage old → (f : Trees) (x : ℕ) → x ≤ d
      → SubtreesAt S.stage x a f → z ≡ a + sizes f
      → Memo S.stage new × (r ≡ added_up S (λ c. weight (fan f)) 0 nought f)

  -- of the children of a decision with word x, from place a on
  abbrev pub Split : (a x : ℕ) (old new : List ℕ) (r : Float) → Type 0
  Split a x old new r = (S : Scene P i h b k) → Memo S.stage old → (j : ℕ) (y : Key) (f : Trees) (z : ℕ) → z ≤ d
      → set_of x ≡ first_entry S.stage.tree j y → actions_of x ≡ fan f
      → Known S.stage j y (fan f) → SubtreesAt S.stage z a f → Memo S.stage new × (r ≡ added_up S (entries S j y) 0 nought f)

  -- of the own node at place a with word x
  abbrev pub ValuedOwn : (a x : ℕ) (old new : List ℕ) (r : Float) → Type 0
  ValuedOwn a x old new r = (S : Scene P i h b k) → Memo S.stage old → (y : Key) (z : ℕ) (f : Trees) → z ≤ d
      → set_of x ≡ first_entry S.stage.tree i y → actions_of x ≡ fan f
      → SubtreeAt S.stage (suc z) a (decide i y f) → Memo S.stage new × (r ≡ valued S (decide i y f))

  -- r is the choice of the set with first entry e and n actions
  abbrev pub Chosen : (e n : ℕ) (old new : List ℕ) (r : ℕ) → Type 0
  Chosen e n old new r = (S : Scene P i h b k) → Memo S.stage old → (y : Key) → Known S.stage i y n
      → e ≡ first_entry S.stage.tree i y → S.stage.levels i y ≤ d
      → Memo S.stage new × (r ≡ S.stage.choice y)

  -- r is the sum behind an action of that set
  abbrev pub Totalled : (e a : ℕ) (old new : List ℕ) (r : Float) → Type 0
  Totalled e a old new r = (S : Scene P i h b k) → Memo S.stage old → (y : Key) (n : ℕ) → Known S.stage i y n
      → e ≡ first_entry S.stage.tree i y → S.stage.levels i y ≤ d → a < n
      → Memo S.stage new × (r ≡ behind_action S y a)
