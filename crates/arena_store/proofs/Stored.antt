-- A game's tree laid out, then with its index; and its index once other words are written. Assumes nothing.
use mathlib.Core.Path.{◌≡◌, sym, ap, subst, ◌∙◌}
use mathlib.Core.Logic.{inl}
use mathlib.Core.List.{List}
use Prim.Native.Nat.{ℕ, ◌+◌, ◌*◌, ◌≤◌, ◌<◌}
use native.Mathlib.Nat as NatL
use native.Mathlib.Omega.{arith}
use lib.Dec.{eqb}
use lib.ListN.{length, get_or}
use borrow.Author.Tests.{eq-eqb, ne_eqb}
use Rattle.prelude.proofs.Tests.{Tested, holds, fails, tested}
use Rattle.game_tree.specs.Tree.{Tree}
use Rattle.game_tree.specs.Conditions.{Every}
use Rattle.game_tree.specs.Sets.{size, entries, first_entry, set_members}
use Rattle.game_tree.proofs.Entries.{entry-inside}
use Rattle.game_tree.proofs.Counting.{in_every, every_in}
use Rattle.arena.specs.internal.Index.{unlinked, first_of, later_in, Cleared, Codes, Coded, Indexed}
use Rattle.arena.specs.internal.Built.{Built}
use Rattle.arena.proofs.Building.{held_same}
use Rattle.arena_index.specs.internal.Indexing.{Indexes}
use Rattle.kuhn_rules.specs.Stakes as Kuhn-stakes
use Rattle.leduc_rules.specs.Stakes.{ante, raise₁, raise₂}
use Rattle.kuhn_tree.specs.Tree.{tree_of_kuhn}
use Rattle.leduc_tree.specs.Tree.{tree_of_leduc}
use Rattle.kuhn_arena_layout.specs.internal.Layout as Kuhn
use Rattle.kuhn_arena_layout.proofs.Apart as Kuhn-codes
use Rattle.leduc_arena_layout.specs.internal.Codes as Leduc
use Rattle.leduc_arena_layout.proofs.Sets as Leduc-codes
use Rattle.games.specs.Games.{Game, tree_of}
use Rattle.games.specs.Facts.{nodes_of, entries_of}
use Rattle.games.specs.Known.{Known}
use Rattle.games.proofs.Facts.{nodes_are, entries_are}
use Rattle.games.proofs.Known.{leduc_two}
use Rattle.arena_store.specs.internal.Stored.{code_of, codes_of, Stored}
use Rattle.arena_store.proofs.Shaped.{some_actions}
use Rattle.arena_store.proofs.Room.{roomy}
use Rattle.arena.specs.internal.Words.{PLACES}

-- ---- an index stands where its words do
pub indexed_same : (n h : ℕ) (v w : List ℕ) (t : Tree) → Every (λ j k a. 1 ≤ a) t → size t ≤ h → ((p : ℕ) → p < h + entries t → get_or w p 0 ≡ get_or v p 0) → Indexed n h v t → Indexed n h w t
indexed_same n h v w t some l e x = record {
  held = held_same n (first_entry t) (later_in t) v w 0 t x.held (λ p a b. e p (omega arith));
  heads = in_every (λ j k a. get_or w (h + first_entry t j k) 0 ≡ first_of (set_members t j k)) t
      (λ d m. e (h + first_entry t d.0 d.1) (omega (arith, entry-inside t some d m)) ∙ every_in (λ j k a. get_or v (h + first_entry t j k) 0 ≡ first_of (set_members t j k)) t x.heads d m);
}

module _ (g : Game) (a : Known g) where
  -- ---- laid out
  module _ (k : g.number ≡ 0) where
    pub kuhn_built : (v w : List ℕ) (r : ℕ) → Built g.seats (Kuhn.code_of g.seats) 0 v w (tree_of_kuhn Kuhn-stakes.ante Kuhn-stakes.stake g.seats) r → Built g.seats (code_of g) 0 v w (tree_of g) r
    unfolding tree_of
    kuhn_built v w r b = rw (eq-eqb g.number 0 k) b

  module _ (k : g.number ≡ 0 → ⊥) where
    pub leduc_built : (v w : List ℕ) (r : ℕ) → Built 2 Leduc.code_of 0 v w (tree_of_leduc ante raise₁ raise₂) r → Built g.seats (code_of g) 0 v w (tree_of g) r
    unfolding tree_of
    leduc_built v w r b = rw (ne_eqb g.number 0 k, leduc_two g a k) b

  game-codes : Codes (code_of g) (codes_of g) (tree_of g)
  unfolding tree_of
  game-codes = at (tested (eqb g.number 0))
    where
      at : Tested (eqb g.number 0) → Codes (code_of g) (codes_of g) (tree_of g)
      at (holds t) = rw t (Kuhn-codes.kuhn-codes Kuhn-stakes.ante Kuhn-stakes.stake g.seats)
      at (fails t) = rw t Leduc-codes.leduc-codes

  -- ---- with its index: the words of u once built, then cleared, then indexed
  module _ (n m E : ℕ) (u v : List ℕ) (long : 12 * nodes_of g ≤ length u) (b : Built g.seats (code_of g) 0 u v (tree_of g) n) (q : m ≡ codes_of g) (p : E ≡ entries_of g) where
    size_is : size (tree_of g) ≡ n
    size_is = sym (b.next ∙ NatL.zero-add (size (tree_of g)))

    nodes_is : n ≡ nodes_of g
    nodes_is = sym size_is ∙ nodes_are g a.seats

    entries_is : entries (tree_of g) ≡ E
    entries_is = entries_are g a.seats ∙ sym p

    pub nodes-near : n ≤ PLACES
    nodes-near = omega (arith, nodes_is, (roomy g a).nodes)

    pub codes-near : m ≤ 16384
    codes-near = omega (arith, (roomy g a).codes)

    pub index_near : n + m + E ≤ 8388608
    index_near = omega (arith, nodes_is, (roomy g a).near)

    module _ (w y : List ℕ) (z : Cleared n (n + m + E) v w) (i : Indexes n m w y) where
      coded : Coded g.seats (code_of g) m w (tree_of g)
      coded = record {
        codes = subst (λ x. Codes (code_of g) x (tree_of g)) (sym q) game-codes;
        acts = some_actions g a;
        few = omega (arith, entries_is, p, (roomy g a).entries);
        held = held_same g.seats (code_of g) unlinked v w 0 (tree_of g) b.held (λ j l h. z.kept.words j (inl (omega (arith, size_is))));
        clear = λ j l. z.zero (size (tree_of g) + j) (omega (arith, size_is)) (omega (arith, size_is, entries_is));
        room = omega (arith, z.kept.long, b.kept.long, size_is, nodes_is, entries_is, (roomy g a).within);
      }

      pub stored : Stored g y
      stored = subst (λ h. Indexed g.seats h y (tree_of g)) (ap (λ x. x + m) nodes_is ∙ ap (λ x. nodes_of g + x) q) (i g.seats (code_of g) (tree_of g) size_is coded)
