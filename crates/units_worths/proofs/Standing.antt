-- The units of each node behind a game's stored tree. Assumes nothing.
use mathlib.Core.Path.{◌≡◌, refl, sym, ap, ◌∙◌}
use mathlib.Core.List.{List}
use Prim.Native.Nat.{ℕ, ◌+◌, ◌*◌, ◌%◌, ◌^◌, ◌≤◌, ◌<◌}
use native.Mathlib.Nat as NatL
use native.Mathlib.Omega.{arith}
use lib.ListN.{length, get_or}
use Rattle.game_tree.specs.Tree.{Tree}
use Rattle.game_tree.specs.Conditions.{Every}
use Rattle.game_tree.specs.Sets.{size, entries, first_entry}
use Rattle.game_tree.specs.Table.{Table, strategy_of}
use Rattle.games.specs.Games.{Game, tree_of, root_units}
use Rattle.games.specs.Facts.{nodes_of, entries_of}
use Rattle.games.proofs.Facts.{nodes_are, entries_are}
use Rattle.arena.specs.internal.Index.{later_in}
use Rattle.units.specs.internal.Readable.{Readable, UNITS, Walkable}
use Rattle.units.specs.internal.Lifted.{lifted}
use Rattle.units.specs.internal.Sums.{Summed}
use Rattle.units_collect.specs.internal.Collected.{Collected}
use Rattle.units_collect.specs.internal.Ends.{end_gains}
use Rattle.units_collect.proofs.Summing.{gains-lifted}
use Rattle.tree_refusals.specs.Accepted.{AcceptedTable}
use Rattle.arena_store.specs.internal.Stored.{heads_of, Stored}
use Rattle.arena_store.specs.internal.Places.{reach_at}
use Rattle.arena_store.proofs.Shaped.{games_shaped, some_actions}
use Rattle.arena_store.proofs.Room.{Roomy, roomy}
use Rattle.arena_store.proofs.Stored.{indexed_same}
use Rattle.units_worths.proofs.Facts.{games_readable}
use Rattle.arena.specs.internal.Words.{PLACES}

-- ---- units of a table that is not refused, by the numbers in hand: from place b on, u of them at the root
module _ (g : Game) (D : ℕ) (table : Table) (a : AcceptedTable g D table) (b : ℕ) (q : b ≡ reach_at g) where
  abbrev T : Tree
  T = tree_of g

  room : Roomy g
  room = roomy g a.game

  size_is : size T ≡ nodes_of g
  size_is = nodes_are g a.game.seats

  entries_is : entries T ≡ entries_of g
  entries_is = entries_are g a.game.seats

  some : Every (λ j k n. 1 ≤ n) T
  some = some_actions g a.game

  pub units-near : b ≤ 8388608
  units-near = omega (arith, room.near)

  pub nodes-near : (n : ℕ) → n ≡ nodes_of g → n ≤ PLACES
  nodes-near n t = omega (arith, room.nodes)

  module _ (u : ℕ) (j : (u ≡ root_units g D) × (u < UNITS)) where
    pub walkable : Walkable 0 u 32
    walkable = record { place = omega arith; shallow = omega arith; units = j.1 }

    -- the words with the tree, then with units for seat i
    module _ (i : ℕ) (v w : List ℕ) (x : Stored g v) (o : Collected table D i b 0 u 32 v w) where
      pub still_stored : Stored g w
      still_stored = indexed_same g.seats (heads_of g) v w T some (omega (arith, size_is)) (λ p k. o.same p (omega (arith, entries_is))) x

    -- for nobody, the ends are worth what the table is
    module _ (v w : List ℕ) (x : Stored g v) (long : 12 * nodes_of g ≤ length v) (o : Collected table D 8 b 0 u 32 v w) where
      readable : Readable g.seats T (later_in T) v table D 0 32 T
      readable = games_readable g D v table a.game x a.valid

      pub sums_lifted : (n : ℕ) → n ≡ nodes_of g → (r : List ℕ) → Summed (λ i. end_gains w b i 0 n) r → (i : ℕ) → i < g.seats
          → get_or r i 0 ≡ lifted D (strategy_of T table) i (root_units g D) T % 2 ^ 64
      unfolding strategy_of
      sums_lifted n t r f i l =
          let s = (o.is v g.seats T T (later_in T) (λ p k. refl) readable (omega (arith, size_is)) (omega (arith, size_is, room.within, long))).0 in
          f i (NatL.lt_of_lt_of_le l (games_shaped g a.game).most) ∙ ap (λ m. end_gains w b i 0 m % 2 ^ 64) (t ∙ sym size_is)
          ∙ ap (λ m. m % 2 ^ 64) (gains-lifted w b i D (strategy_of T table) (λ j k x. readable.few (first_entry T j k + x)) g.seats (first_entry T) (later_in T) l 0 u T j.1 (still_stored 8 v w x o).held s
          ∙ ap (λ m. lifted D (strategy_of T table) i m T) j.0)
