-- The members of a set one after the other. Assumes nothing.
use mathlib.Core.Path.{◌≡◌, refl, sym, ap, ◌∙◌, subst}
use mathlib.Core.Logic.{inl}
use mathlib.Core.List.{List, [], ◌∷◌}
use Prim.Native.Nat.{ℕ, zero, suc, ◌+◌, ◌%◌, ◌<◌}
use native.Mathlib.Nat as NatL
use native.Mathlib.Omega.{arith}
use lib.ListN.{get_or}
use Rattle.game_tree.specs.Tree.{Key, decide, fan}
use Rattle.game_tree.specs.Conditions.{Every}
use Rattle.game_tree.specs.Sets.{size, preorder, first_entry, set_members}
use Rattle.game_tree.proofs.Counting.{In}
use Rattle.arena.specs.internal.Words.{DECISION, kind_of, later_of, PLACES}
use Rattle.arena.specs.internal.Held.{Says, Held}
use Rattle.arena.specs.internal.Index.{first_of, Linked}
use Rattle.arena.proofs.Members.{members-linked}
use Rattle.arena_walks.specs.internal.Child.{nth, Child}
use Rattle.arena_walks.specs.internal.Stage.{Stage, Known, Memo, SubtreeAt}
use Rattle.arena_walks.specs.internal.Found.{Member, found}
use Rattle.arena_walks.proofs.Standing.{known_of, inside, same_fan, seen}
use Rattle.arena_walks.proofs.Finding.{places, places_found, Rising, numbers_rise, EachMember}
use Rattle.arena_walks.proofs.Descending.{Descent, EachFound, each_found, child_at}

module _ {i h k : ℕ} {S : Stage i h k} {W : Type 0} {deal : W → ℕ → W} {move : W → ℕ → Key → ℕ → W} (D : Descent S deal move) (y : Key) where
  -- members to come, the first of them at place c
  pub record Remaining (c : ℕ) (ms : List (Member W)) : Type 0 where
    pub each : EachFound D y ms
    pub linked : Linked S.words (places ms)
    pub rising : Rising (places ms)
    pub here : c ≡ first_of (places ms)

  -- where the first of them stands
  standing : (c : ℕ) (m : Member W) (ms : List (Member W)) → Remaining c (m ∷ ms) → (c ≡ m.0) × SubtreeAt S (suc (S.levels i y)) m.0 (decide i y m.2)
  unfolding EachMember first_of
  standing c m ms r = (r.here, D.stands (suc (S.levels i y)) m.0 m.1 (decide i y m.2) r.each.0)

  -- all of them
  pub remaining-start : (old : List ℕ) → Memo S old → (n : ℕ) → Known S i y n → (u : W) → D.Here 32 0 u S.tree → (c : ℕ) → c ≡ get_or old (h + first_entry S.tree i y) 0 % PLACES
      → Remaining c (found deal move i y 0 u S.tree)
  unfolding EachMember first_of size
  remaining-start old m n g u r c e = record {
    each = each;
    linked = rw where_found (members-linked S.seats h S.words S.tree S.indexed i y);
    rising = rw where_found (numbers_rise i y 0 (preorder S.tree));
    here = e ∙ ap (λ j. j % PLACES) head ∙ NatL.mod-eq_of_lt (near (found deal move i y 0 u S.tree) each);
  }
    where
      each : EachFound D y (found deal move i y 0 u S.tree)
      each = each_found D y S.tree 32 0 u r

      where_found : places (found deal move i y 0 u S.tree) ≡ set_members S.tree i y
      where_found = places_found deal move i y S.tree 0 u

      head : get_or old (h + first_entry S.tree i y) 0 ≡ first_of (places (found deal move i y 0 u S.tree))
      head = m.words (h + first_entry S.tree i y) (omega (arith, inside S i y n g, S.before))
          ∙ known_of S (λ j y n. get_or S.words (h + first_entry S.tree j y) 0 ≡ first_of (set_members S.tree j y)) S.indexed.heads i y n g ∙ ap first_of (sym where_found)

      near : (ms : List (Member W)) → EachFound D y ms → first_of (places ms) < PLACES
      near [] q = omega arith
      near (x ∷ ms) q = omega (arith, (D.stands (suc (S.levels i y)) x.0 x.1 (decide i y x.2) q.0).room, S.room)

  -- one after the other
  pub remaining_more : (w : List ℕ) → Memo S w → (c next : ℕ) (x : Member W) (ms : List (Member W)) → Remaining c (x ∷ ms) → next ≡ later_of (get_or w c 0) → Remaining next ms
  unfolding EachMember Linked Rising first_of
  remaining_more w m c next x ms r z = record {
    each = r.each.1;
    linked = r.linked.1;
    rising = r.rising.1;
    here = z ∙ ap (λ j. later_of (get_or w j 0)) r.here ∙ ap later_of (seen S w m (suc (S.levels i y)) x.0 (decide i y x.2) (standing c x ms r).1) ∙ r.linked.0;
  }

  -- the child behind an action of the first of them
  pub remaining-child : (w : List ℕ) → Memo S w → (n : ℕ) → Known S i y n → (c a q : ℕ) (x : Member W) (ms : List (Member W)) → Remaining c (x ∷ ms) → Child w c a q → a < n
      → (a < fan x.2) × D.Here (S.levels i y) q (move x.1 i y a) (nth x.2 a)
  unfolding EachMember Every
  remaining-child w m n g c a q x ms r o l = (few, child_at D w m (S.levels i y) x.0 x.1 i y x.2 r.each.0 a q (subst (λ j. Child w j a q) (standing c x ms r).0 o) few)
    where
      few : a < fan x.2
      few = omega (arith, l, (same_fan S i y (fan x.2) n (standing c x ms r).1.known.0 g).0)

  -- none is left at place 0 alone
  pub remaining_none : (c : ℕ) → Remaining c [] → c ≡ 0
  unfolding first_of
  remaining_none c r = r.here

  pub remaining_some : (c : ℕ) (x : Member W) (ms : List (Member W)) → Remaining c (x ∷ ms) → 0 < c
  unfolding Held Says
  remaining_some c x ms r = at c (standing c x ms r).0
    where
      at : (c : ℕ) → c ≡ x.0 → 0 < c
      at zero q = absurd (omega (arith, S.deals, subst (λ j. kind_of (get_or S.words j 0) ≡ DECISION) (sym q) (standing c x ms r).1.held.0.0))
      at (suc c) q = omega arith

  -- places rise up to the last
  pub remaining_rises : (c next : ℕ) (x z : Member W) (ms : List (Member W)) → Remaining c (x ∷ z ∷ ms) → Remaining next (z ∷ ms) → c < next
  unfolding Rising In
  remaining_rises c next x z ms r s = omega (arith, r.rising.0 z.0 (inl refl), (standing c x (z ∷ ms) r).0, (standing next z ms s).0)
