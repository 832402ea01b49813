-- A stored tree with its index and room for choices: what a walk over it counts on, whatever it adds up. Definitions only; nothing is
-- assumed.
use Rattle.std.specs.Prelude.{◌≡◌, ◌⊎◌, List, ℕ, suc, ◌+◌, ◌≤◌, ◌<◌, length, get_or}
use Rattle.game_tree.specs.Tree.{Key, Tree, Trees}
use Rattle.game_tree.specs.Conditions.{Every, EveryAll}
use Rattle.game_tree.specs.Reply.{Choice}
use Rattle.game_tree.specs.Shape.{Levels, LevelsAll, SameActions}
use Rattle.game_tree.specs.Sets.{size, sizes, decisions, entries, first_entry}
use Rattle.game_tree.proofs.Counting.{In}
use Rattle.arena.specs.internal.Words.{CHANCE, kind_of}
use Rattle.arena.specs.internal.Held.{Held, HeldAll}
use Rattle.arena.specs.internal.Index.{later_in, Indexed}

-- words with a tree and the first members of its sets from place h on; from k on there is room for the choices of seat i
pub record Stage (i h k : ℕ) : Type 0 where
  pub words : List ℕ
  pub seats : ℕ
  pub tree : Tree
  pub choice : Choice
  pub levels : ℕ → Key → ℕ
  pub indexed : Indexed seats h words tree
  pub deals : kind_of (get_or words 0 0) ≡ CHANCE
  pub level : Levels levels 32 tree
  pub actions : SameActions tree
  pub few : Every (λ j y n. (2 ≤ n) × (n ≤ 3)) tree
  pub seat : i < seats
  pub room : size tree ≤ 2097151
  pub nodes : size tree ≤ h
  pub before : h + entries tree ≤ k
  pub long : k + entries tree ≤ length words

module _ {i h k : ℕ} (S : Stage i h k) where
  -- a decision of the tree
  abbrev pub Known : ℕ → Key → ℕ → Type 0
  Known j y n = In (j, y, n) (decisions S.tree)

  -- w is the stage's words, but for choices from place k on, each the right one
  pub record Memo (w : List ℕ) : Type 0 where
    pub words : (p : ℕ) → p < k → get_or w p 0 ≡ get_or S.words p 0
    pub long : length w ≡ length S.words
    pub choices : (y : Key) (n : ℕ) → Known i y n → (get_or w (k + first_entry S.tree i y) 0 ≡ 0)
        ⊎ (get_or w (k + first_entry S.tree i y) 0 ≡ suc (S.choice y))

  -- tree t stands at place a, with at most d nodes on a path
  pub record SubtreeAt (d a : ℕ) (t : Tree) : Type 0 where
    pub held : Held S.seats (first_entry S.tree) (later_in S.tree) S.words a t
    pub level : Levels S.levels d t
    pub known : Every Known t
    pub room : a + size t ≤ size S.tree

  -- the same of a row
  pub record SubtreesAt (d a : ℕ) (f : Trees) : Type 0 where
    pub held : HeldAll S.seats (first_entry S.tree) (later_in S.tree) S.words a f
    pub level : LevelsAll S.levels d f
    pub known : EveryAll Known f
    pub room : a + sizes f ≤ size S.tree
