-- A seat's stage behind a game's stored tree: what a walk counts on, once the words of each node are written and no choice is kept. Assumes nothing.
use mathlib.Core.Path.{◌≡◌, refl}
use mathlib.Core.Logic.{inl}
use mathlib.Core.List.{List}
use Prim.Native.Nat.{ℕ, ◌+◌, ◌*◌, ◌≤◌, ◌<◌}
use native.Mathlib.Omega.{arith}
use lib.ListN.{length, get_or}
use Rattle.game_tree.specs.Tree.{Tree, end, chance, decide}
use Rattle.game_tree.specs.Conditions.{Every}
use Rattle.game_tree.specs.Reply.{Choice}
use Rattle.game_tree.specs.Sets.{size, entries, first_entry}
use Rattle.game_tree.proofs.Entries.{entry-inside}
use Rattle.arena.specs.internal.Words.{CHANCE, kind_of}
use Rattle.arena.specs.internal.Held.{Says, Held}
use Rattle.arena.specs.internal.Index.{Alike, later_in, Indexed}
use Rattle.arena_walks.specs.internal.Stage.{Stage, Memo}
use Rattle.games.specs.Games.{Game, tree_of}
use Rattle.games.specs.Facts.{nodes_of, entries_of}
use Rattle.games.specs.Known.{Known}
use Rattle.games.proofs.Facts.{games_fit, nodes_are, entries_are}
use Rattle.arena_store.specs.internal.Stored.{heads_of, Stored}
use Rattle.arena_store.specs.internal.Places.{reach_at, kept_at}
use Rattle.arena_store.specs.internal.Shaped.{Shaped}
use Rattle.arena_store.proofs.Shaped.{games_shaped, some_actions}
use Rattle.arena_store.proofs.Room.{Roomy, roomy, Deals, root-deals}
use Rattle.arena_store.proofs.Stored.{indexed_same}

module _ (g : Game) (a : Known g) where
  abbrev T : Tree
  T = tree_of g

  pub shaped : Shaped g
  shaped = games_shaped g a

  pub room : Roomy g
  room = roomy g a

  pub size_is : size T ≡ nodes_of g
  size_is = nodes_are g a.seats

  pub entries_is : entries T ≡ entries_of g
  entries_is = entries_are g a.seats

  pub some : Every (λ j k n. 1 ≤ n) T
  some = some_actions g a

  -- v has the tree with its index, z the same words before those of the nodes, and seat i's choices are to be those of c
  module _ (i : ℕ) (l : i < g.seats) (c : Choice) (v z : List ℕ) (x : Stored g v) (long : 12 * nodes_of g ≤ length v) (same : Alike (reach_at g) v z) (length_is : length z ≡ length v) where
    pub indexed : Indexed g.seats (heads_of g) z T
    indexed = indexed_same g.seats (heads_of g) v z T some (omega (arith, size_is)) (λ p k. same p (omega (arith, entries_is))) x

    unfoldable pub stage : Stage i (heads_of g) (kept_at g)
    unfolding Deals Held Says
    stage = record {
      words = z;
      seats = g.seats;
      tree = T;
      choice = c;
      levels = shaped.levels.0;
      indexed = indexed;
      deals = dealt T (root-deals g a) indexed.held;
      level = shaped.levels.1;
      actions = (games_fit g a.known a.seats).actions;
      few = shaped.actions;
      seat = l;
      room = omega (arith, size_is, room.nodes);
      nodes = omega (arith, size_is);
      before = omega (arith, entries_is);
      long = omega (arith, entries_is, room.within, long, length_is);
    }
      where
        dealt : (t : Tree) → Deals t → Held g.seats (first_entry T) (later_in T) z 0 t → kind_of (get_or z 0 0) ≡ CHANCE
        dealt (end p) d h = absurd d
        dealt (chance f) d h = h.0.0
        dealt (decide j k f) d h = absurd d

    -- no choice is noted
    pub none_noted : ((p : ℕ) → kept_at g ≤ p → p < kept_at g + entries_of g → get_or z p 0 ≡ 0) → Memo stage z
    unfolding stage
    none_noted zero = record {
      words = λ p k. refl;
      long = refl;
      choices = λ y n k. inl (zero (kept_at g + first_entry T i y) (omega arith) (omega (arith, entries_is, entry-inside T some (i, y, n) k)));
    }

    -- a walk that notes choices leaves the tree and its index
    pub still_stored : (e : List ℕ) → Memo stage e → Stored g e
    unfolding stage
    still_stored e n = indexed_same g.seats (heads_of g) z e T some (omega (arith, size_is)) (λ p j. n.words p (omega (arith, entries_is))) indexed
