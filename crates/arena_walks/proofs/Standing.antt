-- A tree that stands, its children and its words. Assumes nothing.
use mathlib.Core.Path.{◌≡◌}
use mathlib.Core.List.{List}
use Prim.Native.Nat.{ℕ, suc, pred, ◌+◌, ◌-◌, ◌≤◌, ◌<◌}
use native.Mathlib.Nat as NatL
use native.Mathlib.Omega.{arith}
use lib.ListN.{get_or}
use Rattle.game_tree.specs.Tree.{Key, Tree, end, chance, decide, Trees, cons}
use Rattle.game_tree.specs.Conditions.{Every}
use Rattle.game_tree.specs.Shape.{Levels, SameActions}
use Rattle.game_tree.specs.Sets.{size, sets, entries, first_entry}
use Rattle.game_tree.proofs.Against.{every_both}
use Rattle.game_tree.proofs.Sets.{Stands, sets-stand}
use Rattle.game_tree.proofs.Tables.{seats_at}
use Rattle.game_tree.proofs.Entries.{entry-inside}
use Rattle.arena.specs.internal.Held.{Held, HeldAll}
use Rattle.arena.specs.internal.Index.{later_in}
use Rattle.arena.proofs.Building.{size_some, held_same, held_same_all}
use Rattle.game_tree.proofs.Counting.{in_every, every_in}
use Rattle.arena_walks.specs.internal.Stage.{Stage, Known, Memo, SubtreeAt, SubtreesAt}

pub levels_some : (v : ℕ → Key → ℕ) (d : ℕ) (t : Tree) → Levels v d t → 0 < d
unfolding Levels
levels_some v d (end p) h = h
levels_some v d (chance f) h = h.0
levels_some v d (decide j k f) h = h.0

-- where the entries of a set stand
module _ (t : Tree) (h : SameActions t) (f : Every (λ j k n. (2 ≤ n) × (n ≤ 3)) t) where
  pub entries-inside : Every (λ j k n. first_entry t j k + n ≤ entries t) t
  entries-inside = every_both (λ j k n. Stands j k n (sets t)) (λ j k n. (2 ≤ n) × (n ≤ 3)) (λ j k n. first_entry t j k + n ≤ entries t)
      (λ j k n s (a, b). let l = (seats_at j k n (sets t) s (n - 1) (omega arith)).1 in omega arith) t (sets-stand t h) f

module _ {i h k : ℕ} (S : Stage i h k) where
  -- the children of a node
  pub kids-chance : (d a : ℕ) (f : Trees) → SubtreeAt S d a (chance f) → SubtreesAt S (pred d) (suc a) f
  unfolding Held Levels Every size
  kids-chance d a f r = record { held = r.held.1; level = r.level.1; known = r.known; room = omega (arith, r.room) }

  pub kids-decide : (d a j : ℕ) (y : Key) (f : Trees) → SubtreeAt S d a (decide j y f) → SubtreesAt S (pred d) (suc a) f
  unfolding Held Levels Every size
  kids-decide d a j y f r = record { held = r.held.1; level = r.level.2; known = r.known.1; room = omega (arith, r.room) }

  -- the first of a row, and the rest
  pub first : (d a : ℕ) (t : Tree) (f : Trees) → SubtreesAt S d a (cons t f) → SubtreeAt S d a t
  unfolding Held Levels Every size
  first d a t f r = record { held = r.held.0; level = r.level.0; known = r.known.0; room = omega (arith, r.room) }

  pub rest : (d a : ℕ) (t : Tree) (f : Trees) → SubtreesAt S d a (cons t f) → SubtreesAt S d (a + size t) f
  unfolding Held Levels Every size
  rest d a t f r = record { held = r.held.1; level = r.level.1; known = r.known.1; room = omega (arith, r.room) }

  -- the root
  pub root_stands : SubtreeAt S 32 0 S.tree
  root_stands = record { held = S.indexed.held; level = S.level; known = in_every (Known S) S.tree (λ x m. m); room = NatL.le_of_eq (NatL.zero-add (size S.tree)) }

  -- ---- the sets of the tree
  -- what holds at every decision of the tree holds at a known one
  pub known_of : (P : ℕ → Key → ℕ → Type 0) → Every P S.tree → (j : ℕ) (y : Key) (n : ℕ) → Known S j y n → P j y n
  known_of P e j y n m = every_in P S.tree e (j, y, n) m

  pub some : Every (λ j y n. 1 ≤ n) S.tree
  some = in_every (λ j y n. 1 ≤ n) S.tree (λ x m. let l : (2 ≤ x.2) × (x.2 ≤ 3) = every_in (λ j y n. (2 ≤ n) × (n ≤ 3)) S.tree S.few x m in omega (arith, l.0))

  -- a set's first entry is one of the table's
  pub inside : (j : ℕ) (y : Key) (n : ℕ) → Known S j y n → first_entry S.tree j y < entries S.tree
  inside j y n g = entry-inside S.tree some (j, y, n) g

  -- and so are all of its entries
  pub set-inside : (j : ℕ) (y : Key) (n : ℕ) → Known S j y n → first_entry S.tree j y + n ≤ entries S.tree
  set-inside j y n g = known_of (λ j k n. first_entry S.tree j k + n ≤ entries S.tree) (entries-inside S.tree S.actions S.few) j y n g

  -- all decisions of a set have as many actions, two or three
  pub same_fan : (j : ℕ) (y : Key) (m n : ℕ) → Known S j y m → Known S j y n → (m ≡ n) × (2 ≤ n) × (n ≤ 3)
  same_fan j y m n f g =
      let A : m ≡ S.actions.0 j y = known_of (λ j y n. n ≡ S.actions.0 j y) S.actions.1 j y m f in
      let B : n ≡ S.actions.0 j y = known_of (λ j y n. n ≡ S.actions.0 j y) S.actions.1 j y n g in
      let few : (2 ≤ n) × (n ≤ 3) = known_of (λ j y n. (2 ≤ n) × (n ≤ 3)) S.few j y n g in
      (omega (arith, A, B), few.0, few.1)

  -- ---- the words of the tree are the stage's
  module _ (w : List ℕ) (m : Memo S w) where
    pub seen : (d a : ℕ) (t : Tree) → SubtreeAt S d a t → get_or w a 0 ≡ get_or S.words a 0
    seen d a t r = m.words a (omega (arith, r.room, size_some t, S.nodes, S.before))

    -- what is held in the stage's words is held in those with choices
    pub held_in : (d a : ℕ) (t : Tree) → SubtreeAt S d a t → Held S.seats (first_entry S.tree) (later_in S.tree) w a t
    held_in d a t r = held_same S.seats (first_entry S.tree) (later_in S.tree) S.words w a t r.held (λ p l o. m.words p (omega (arith, r.room, S.nodes, S.before)))

    pub held_in_all : (d a : ℕ) (f : Trees) → SubtreesAt S d a f → HeldAll S.seats (first_entry S.tree) (later_in S.tree) w a f
    held_in_all d a f r = held_same_all S.seats (first_entry S.tree) (later_in S.tree) S.words w a f r.held (λ p l o. m.words p (omega (arith, r.room, S.nodes, S.before)))
