-- A seat's scene in work memory. Assumes nothing.
use mathlib.Core.Path.{◌≡◌, refl, sym, ap, ◌∙◌, subst}
use mathlib.Core.Logic.{inl}
use mathlib.Core.List.{List}
use Prim.Native.Nat.{ℕ, pred, ◌+◌, ◌*◌, ◌%◌, ◌^◌, ◌≤◌, ◌<◌}
use native.Mathlib.Nat as NatL
use native.Mathlib.Omega.{arith}
use lib.IntN.{ℤ, pos, ◌-ℤ◌}
use mathlib.Core.Bool.{cond}
use lib.Dec.{eqb}
use lib.ListN.{length, get_or}
use lib.Seq.{sets}
use Rattle.game_tree.specs.Tree.{Key, Strategy, Tree, all}
use Rattle.game_tree.specs.Conditions.{Every, Pays, Valid}
use Rattle.game_tree.specs.Reply.{Choice, pure, reply_tree, best, best_value, reply}
use Rattle.game_tree.specs.Sets.{size, entries, first_entry, set_count}
use Rattle.game_tree.specs.Table.{Table, strategy_of, table_of, table_best, reply_table}
use Rattle.game_tree.proofs.Against.{every_both}
use Rattle.game_tree.proofs.TableTheorem.{table-valid}
use Rattle.games.specs.Games.{Game, tree_of, C, m, root_units}
use Rattle.games.specs.Facts.{nodes_of, entries_of, sets_of}
use Rattle.games.proofs.Facts.{reply-best, games_fit, nodes_are, entries_are, counted_games}
use Rattle.arena.specs.internal.Index.{later_in, Cleared}
use Rattle.units.specs.internal.Readable.{Readable, UNITS}
use Rattle.units.specs.internal.Gain.{gain, set_gain, topmost, Stocked}
use Rattle.units.proofs.Gains.{gain_bound, set-gain_bound}
use Rattle.units.proofs.Choices.{best-gains, gain-best}
use Rattle.units_collect.specs.internal.Collected.{Collected}
use Rattle.units_collect.proofs.Storing.{stocked_same}
use Rattle.arena_walks.specs.internal.Stage.{Stage, Memo}
use Rattle.units_values.specs.internal.Valued.{Scene, Valued, Walkable}
use Rattle.units_reply.specs.internal.Laid.{Tabled, replied, Laid}
use Rattle.units_values.proofs.Scenes.{root_here}
use Rattle.arena_store.specs.internal.Stored.{heads_of, Stored}
use Rattle.arena_store.specs.internal.Places.{reach_at, kept_at}
use Rattle.arena_store.proofs.Shaped.{games_shaped, some_actions}
use Rattle.arena_store.proofs.Room.{Roomy, roomy}
use Rattle.arena_store.proofs.Staging as behind
use Rattle.tree_refusals.specs.Accepted.{AcceptedTable}
use Rattle.units_worths.proofs.Facts.{units-fit, games_readable}
use Rattle.units_worths.proofs.Lowering.{pays_sixty, back}
use Rattle.units_best.specs.internal.Best.{Unbeaten}
use Rattle.units_best.specs.Best.{BestReply}
use Rattle.units_best.specs.internal.Staged.{Staged}

module _ (g : Game) (D i : ℕ) (table : Table) (a : AcceptedTable g D table) (l : i < g.seats) where
  abbrev T : Tree
  T = tree_of g

  abbrev U : ℕ
  U = root_units g D

  abbrev s : ℕ → Key → ℕ → ℕ
  s = strategy_of T table

  abbrev c : Choice
  c = best (reply_tree D s i U T)

  room : Roomy g
  room = roomy g a.game

  size_is : size T ≡ nodes_of g
  size_is = nodes_are g a.game.seats

  entries_is : entries T ≡ entries_of g
  entries_is = entries_are g a.game.seats

  some : Every (λ j k n. 1 ≤ n) T
  some = some_actions g a.game

  pays : Pays 60 i T
  pays = pays_sixty g D table a i l

  valid : Valid (all D) s T
  valid = table-valid T D table (games_fit g a.game.known a.game.seats).actions a.valid

  units-few : U < UNITS
  units-few = (units-fit g D a.game a.most).units

  below : (x u : ℕ) → u < UNITS → x ≤ u * 124 → x < 2 ^ 64
  below x u h k = omega arith

  -- the words of a tree with its index, then with units, then with no choice
  module _ (v w z : List ℕ) (x : Stored g v) (long : 12 * nodes_of g ≤ length v) (o : Collected table D i (reach_at g) 0 U 32 v w) (r : Cleared (kept_at g) (kept_at g + entries_of g) w z) where
    same : (p : ℕ) → p < reach_at g → get_or z p 0 ≡ get_or v p 0
    same p k = r.kept.words p (inl (omega arith)) ∙ o.same p k

    length_is : length z ≡ length v
    length_is = r.kept.long ∙ o.long

    readable : Readable g.seats T (later_in T) v table D 0 32 T
    readable = games_readable g D v table a.game x a.valid

    stocked : Stocked D s i (reach_at g) z 0 U T
    stocked = stocked_same D s i (reach_at g) w z 0 U T (λ p h k. r.kept.words p (inl (omega (arith, size_is))))
        (o.is v g.seats T T (later_in T) (λ p k. refl) readable (omega (arith, size_is)) (omega (arith, size_is, room.within, long))).0

    abbrev stage : Stage i (heads_of g) (kept_at g)
    stage = behind.stage g a.game i l c v z x long same length_is

    unfoldable scene : Scene i (heads_of g) (reach_at g) (kept_at g)
    unfolding behind.stage strategy_of
    scene = record {
      stage = stage;
      parts = D;
      strategy = s;
      root = U;
      stocked = stocked;
      pays = pays;
      decided = decided;
      bounded = λ y b. below (set_gain D s i c T U y b) U units-few (set-gain_bound D i U b s T y c a.least ((games_fit g a.game.known a.game.seats).recall i l) valid pays);
      small = units-few;
      fair = λ j y b. readable.few (first_entry T j y + b);
      below = omega (arith, size_is);
    }
      where
        decided : Every (λ j y n. j ≡ i → c y ≡ topmost (set_gain D s i c T U y) (pred n)) T
        decided =
            let b = best-gains (C g) (m g) D i s T a.least (games_fit g a.game.known a.game.seats).splits ((games_fit g a.game.known a.game.seats).recall i l) valid pays some in
            every_both (λ j y n. j ≡ i → (c y < n) × (c y ≡ topmost (set_gain D s i c T U y) (pred n))) (λ j y n. 1 ≤ n) (λ j y n. j ≡ i → c y ≡ topmost (set_gain D s i c T U y) (pred n)) (λ j y n e f q. (e q).1) T b some

    noted : Memo stage z
    noted = behind.none_noted g a.game i l c v z x long same length_is r.zero

    module _ (e : List ℕ) (sum : ℕ) (k : Valued i 32 (heads_of g) (reach_at g) (kept_at g) 0 z e sum) where
      found : Memo stage e × (sum ≡ gain D s i c U T % 2 ^ 64)
      unfolding behind.stage scene
      found = k scene noted T U 32 (NatL.le_refl 32) (root_here scene)

      gain-few : gain D s i c U T ≤ U * 124
      gain-few = gain_bound D i U s T c a.least valid pays

      sum_is : sum ≡ gain D s i c U T
      sum_is = found.1 ∙ NatL.mod-eq_of_lt (below (gain D s i c U T) U units-few gain-few)

      pub sum_few : sum ≤ 124 * U
      sum_few = omega (arith, sum_is, gain-few)

      pub sum_best : pos sum -ℤ pos (64 * U) ≡ table_best T D U table i
      unfolding table_best
      sum_best = back (best_value (reply_tree D s i U T)) sum (64 * U) (ap pos sum_is
          ∙ gain-best (C g) (m g) D i s T a.least (games_fit g a.game.known a.game.seats).splits ((games_fit g a.game.known a.game.seats).recall i l) valid pays some)

      pub staged : Staged g D i table e
      unfolding behind.stage scene
      staged = record { scene = scene; noted = found.0; tree = refl; parts = refl; strategy = refl; root = refl; choice = refl }

      pub stored : Stored g e
      stored = behind.still_stored g a.game i l c v z x long same length_is e found.0

  -- the same by the numbers in hand
  pub walks : (s : ℕ) → s ≡ i → Walkable 0 s 32
  walks s q = record { place = omega arith; seat = omega (arith, q, l, (games_shaped g a.game).most); shallow = omega arith }

  module _ (u : ℕ) (j : (u ≡ U) × (u < UNITS)) (E : ℕ) (t : E ≡ entries_of g) (v w z y : List ℕ) (x : Stored g v) (long : 12 * nodes_of g ≤ length v)
      (o : Collected table D i (reach_at g) 0 u 32 v w) (r : Cleared (kept_at g) (kept_at g + E) w z) (sum : ℕ)
      (k : Valued i 32 (heads_of g) (reach_at g) (kept_at g) 0 z y sum) where
    o' : Collected table D i (reach_at g) 0 U 32 v w
    o' = rw j.0 at o

    r' : Cleared (kept_at g) (kept_at g + entries_of g) w z
    r' = rw t at r

    pub few_sum : sum ≤ 124 * u
    few_sum = rw j.0 (sum_few v w z x long o' r' y sum k)

    pub is_best : (b : ℤ) → b ≡ pos sum -ℤ pos (64 * u) → b ≡ table_best T D U table i
    is_best b e = e ∙ ap (λ d. pos sum -ℤ pos (64 * d)) j.0 ∙ sum_best v w z x long o' r' y sum k

    pub is_staged : Staged g D i table y
    is_staged = staged v w z x long o' r' y sum k

    pub is_stored : Stored g y
    is_stored = stored v w z x long o' r' y sum k

  -- ---- what is demanded of the reply
  pub best-reply : BestReply g D i table (table_best T D U table i) (reply_table T D U table i)
  best-reply = reply-best g D i table a.game.known a.game.seats l a.least a.valid

  pub unbeaten : (b : ℤ) → b ≡ table_best T D U table i → Unbeaten g D i table b
  unbeaten b e = subst (Unbeaten g D i table) (sym e) (best-reply.unbeaten, best-reply.finer)

  -- ---- the reply
  module _ (y : List ℕ) (x : Staged g D i table y) where
    tabled : Tabled x.scene table D
    unfolding strategy_of
    tabled = record { strategy = λ j k b. ap (λ f. f j k b) x.strategy ∙ ap (λ f. get_or table (first_entry f j k + b) 0) (sym x.tree); parts = x.parts; long = subst (λ t. entries t ≤ length table) (sym x.tree) (omega (arith, a.valid.0)) }

    -- the table of the reply, by what it depends on
    abbrev by : Tree → ℕ → Choice → Strategy → Table
    by t d e f = table_of t (λ j k b. cond (eqb j i) (pure d e k b) (f j k b))

    reply_is : table_of x.scene.stage.tree (replied x.scene) ≡ reply_table T D U table i
    unfolding replied reply_table reply
    reply_is = ap (λ t. by t x.scene.parts x.scene.stage.choice x.scene.strategy) x.tree ∙ ap (λ d. by T d x.scene.stage.choice x.scene.strategy) x.parts
        ∙ ap (λ e. by T D e x.scene.strategy) x.choice ∙ ap (by T D c) x.strategy

    module _ (b : ℕ) (o : b ≡ sets_of g) where
      pub few-sets : b ≤ 16384
      few-sets = omega (arith, o, room.sets)

      pub is_reply : (w out written : List ℕ) → Laid table b i D (heads_of g) (reach_at g) (kept_at g) y w out written
          → written ≡ sets out 0 (reply_table T D U table i)
      is_reply w out written r =
          (r x.scene x.noted tabled (o ∙ sym (counted_games g a.game.seats).1 ∙ ap set_count (sym x.tree))).1 ∙ ap (sets out 0) reply_is
