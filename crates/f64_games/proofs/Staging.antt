-- A seat's scene in work memory, with its reaches. Assumes nothing.
use mathlib.Core.Path.{◌≡◌, refl, ◌∙◌}
use mathlib.Core.Logic.{inl}
use mathlib.Core.List.{List}
use Prim.Native.Nat.{ℕ, ◌+◌, ◌*◌, ◌≤◌, ◌<◌}
use native.Mathlib.Nat as NatL
use native.Mathlib.Omega.{arith}
use lib.Ieee.{Float}
use lib.ListN.{length, get_or}
use Rattle.game_tree.specs.Tree.{Tree}
use Rattle.game_tree.specs.Conditions.{Every}
use Rattle.game_tree.specs.Reply.{Choice}
use Rattle.game_tree.specs.Sets.{size, entries, first_entry}
use Rattle.game_tree.proofs.Against.{every_both}
use Rattle.games.specs.Games.{Game, tree_of}
use Rattle.games.specs.Facts.{nodes_of, entries_of}
use Rattle.games.proofs.Facts.{games_fit, nodes_are, entries_are}
use Rattle.arena.specs.internal.Index.{later_in, Cleared}
use Rattle.arena.specs.internal.Legible.{Legible}
use Rattle.game_tree_f64.specs.Values.{Profile, profile_of, one, best_value, best}
use Rattle.game_tree_f64.proofs.Deciding.{best-decides}
use Rattle.arena_walks.specs.internal.Stage.{Stage, Memo}
use Rattle.arena_walks.proofs.Standing.{root_stands}
use Rattle.f64_collect.specs.internal.Reached.{Reached, Marked}
use Rattle.f64_collect.proofs.Storing.{marked_same}
use Rattle.f64_values.specs.internal.Valued.{Walkable, Scene, Valued}
use Rattle.arena_store.specs.internal.Stored.{heads_of, Stored}
use Rattle.arena_store.specs.internal.Places.{reach_at, kept_at}
use Rattle.arena_store.specs.internal.Shaped.{Shaped}
use Rattle.arena_store.proofs.Shaped.{games_shaped, games_legible, some_actions, same_heights}
use Rattle.arena_store.proofs.Room.{Roomy, roomy}
use Rattle.arena_store.proofs.Staging as behind
use Rattle.tree_refusals.specs.internal.Accepted.{AcceptedProfile}
use Rattle.f64_games.specs.Values.{best_of}

module _ (g : Game) (i : ℕ) (P : List Float) (a : AcceptedProfile g P) (l : i < g.seats) where
  abbrev T : Tree
  T = tree_of g

  abbrev s : Profile
  s = profile_of T P

  abbrev c : Choice
  c = best s i T

  shaped : Shaped g
  shaped = games_shaped g a.game

  room : Roomy g
  room = roomy g a.game

  size_is : size T ≡ nodes_of g
  size_is = nodes_are g a.game.seats

  entries_is : entries T ≡ entries_of g
  entries_is = entries_are g a.game.seats

  some : Every (λ j k n. 1 ≤ n) T
  some = some_actions g a.game

  -- the words of a tree with its index, then with reaches, then with no choice
  module _ (v w z : List ℕ) (x : Stored g v) (long : 12 * nodes_of g ≤ length v) (o : Reached P i (reach_at g) 0 one 32 v w) (r : Cleared (kept_at g) (kept_at g + entries_of g) w z) where
    same : (p : ℕ) → p < reach_at g → get_or z p 0 ≡ get_or v p 0
    same p k = r.kept.words p (inl (omega arith)) ∙ o.same p k

    length_is : length z ≡ length v
    length_is = r.kept.long ∙ o.long

    legible : Legible g.seats T (later_in T) v (length P) 0 32 T
    legible = games_legible g v (length P) a.game x a.long

    marked : Marked s i (reach_at g) z 0 one T
    marked = marked_same s i (reach_at g) w z 0 one T (λ p h k. r.kept.words p (inl (omega (arith, size_is))))
        (o.is v g.seats T T (later_in T) (λ p k. refl) legible (omega (arith, size_is)) (omega (arith, size_is, room.within, long))).0

    abbrev stage : Stage i (heads_of g) (kept_at g)
    stage = behind.stage g a.game i l c v z x long same length_is

    unfoldable scene : Scene P i (heads_of g) (reach_at g) (kept_at g)
    unfolding behind.stage profile_of
    scene = record {
      stage = stage;
      inside = every_both (λ j k n. first_entry T j k + n ≤ entries T) (λ j k n. 1 ≤ n) (λ j k n. first_entry T j k + n ≤ length P) (λ j k n e f. omega (arith, a.long)) T shaped.inside some;
      marked = marked;
      decided = best-decides s i T (games_fit g a.game.known a.game.seats).actions (same_heights g);
      below = omega (arith, size_is);
    }

    noted : Memo stage z
    noted = behind.none_noted g a.game i l c v z x long same length_is r.zero

    module _ (e : List ℕ) (q : Float) (k : Valued P i 32 (heads_of g) (reach_at g) (kept_at g) 0 z e q) where
      found : Memo stage e × (q ≡ best_of g P i)
      unfolding scene behind.stage best_of best_value
      found = k scene noted T 32 (NatL.le_refl 32) (root_stands stage)

      stored : Stored g e
      stored = behind.still_stored g a.game i l c v z x long same length_is e found.0

  -- the same by the numbers in hand
  pub walkable : (s : ℕ) → s ≡ i → Walkable 0 s 32
  walkable s q = record { place = omega arith; seat = omega (arith, q, l, shaped.most); shallow = omega arith }

  module _ (E : ℕ) (t : E ≡ entries_of g) (v w z y : List ℕ) (x : Stored g v) (long : 12 * nodes_of g ≤ length v) (o : Reached P i (reach_at g) 0 one 32 v w)
      (u : Cleared (kept_at g) (kept_at g + E) w z) (r : Float) (k : Valued P i 32 (heads_of g) (reach_at g) (kept_at g) 0 z y r) where
    u' : Cleared (kept_at g) (kept_at g + entries_of g) w z
    u' = rw t at u

    pub answered : (r ≡ best_of g P i) × Stored g y
    answered = ((found v w z x long o u' y r k).1, stored v w z x long o u' y r k)
