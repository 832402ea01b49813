-- The members of a set, from the first on through the nodes' words. Assumes nothing.
use mathlib.Core.Path.{◌≡◌, refl, sym, ap, ◌∙◌}
use mathlib.Core.Bool.{true, false, cond}
use mathlib.Core.List.{List, [], ◌∷◌}
use Prim.Native.Nat.{ℕ, zero, suc, ◌+◌, ◌<◌}
use native.Mathlib.Nat as NatL
use native.Mathlib.Omega.{arith}
use lib.Dec.{eqb}
use lib.ListN.{get_or, drop}
use lib.Seq.{drop-cons, drop-length}
use Rattle.prelude.proofs.Tests.{Tested, holds, fails, tested}
use Rattle.game_tree.specs.Tree.{Key, Tree, end, chance, decide}
use Rattle.game_tree.specs.Reply.{same}
use Rattle.game_tree.specs.Sets.{size, preorder, decides, numbers, first_entry, set_members}
use Rattle.game_tree.proofs.Sets.{preorder-length, clash}
use Rattle.game_tree.proofs.Tests.{T_of, same→eq, eqb_is}
use Rattle.arena.specs.internal.Words.{later_of}
use Rattle.arena.specs.internal.Held.{Says}
use Rattle.arena.specs.internal.Index.{first_of, later_in, Indexed, Linked}
use Rattle.arena.proofs.Nodes.{none, node, held-node}

module _ (n h : ℕ) (w : List ℕ) (t : Tree) (x : Indexed n h w t) (j : ℕ) (k : Key) where
  -- a member's word names the next one
  names : (a : ℕ) → a < size t → decides j k (node t a) ≡ true → later_of (get_or w a 0) ≡ first_of (numbers j k (suc a) (drop (suc a) (preorder t)))
  unfolding Says decides later_in
  names a b e = at (node t a) e (held-node n (first_entry t) (later_in t) w t x.held a b)
    where
      at : (u : Tree) → decides j k u ≡ true → Says n (first_entry t) (later_in t) (get_or w a 0) a u → later_of (get_or w a 0) ≡ later_in t a j k
      at (end p) d s = absurd (clash false d refl)
      at (chance f) d s = absurd (clash false d refl)
      at (decide i l f) d s = both (tested (eqb i j))
        where
          both : Tested (eqb i j) → later_of (get_or w a 0) ≡ later_in t a j k
          both (holds p) = let q : same l k ≡ true = rw p at d in rw (← eqb_is i j p, ← same→eq l k (T_of q)) s.5
          both (fails p) = absurd (clash false (rw p at d) refl)

  -- from place a on
  linked_from : (c a : ℕ) → a + c ≡ size t → Linked w (numbers j k a (drop a (preorder t)))
  unfolding numbers Linked
  linked_from zero a e = let q : drop a (preorder t) ≡ [] = ap (λ i. drop i (preorder t)) (sym (NatL.add-zero a) ∙ e ∙ sym (preorder-length t)) ∙ drop-length (preorder t) in rw q tt
  linked_from (suc c) a e = rw (drop-cons (preorder t) a none (omega (arith, preorder-length t))) (at (tested (decides j k (node t a))) (linked_from c (suc a) (omega arith)))
    where
      at : Tested (decides j k (node t a)) → Linked w (numbers j k (suc a) (drop (suc a) (preorder t)))
          → Linked w (cond (decides j k (node t a)) (a ∷ numbers j k (suc a) (drop (suc a) (preorder t))) (numbers j k (suc a) (drop (suc a) (preorder t))))
      at (holds p) g = rw p (names a (omega arith) p, g)
      at (fails p) g = rw p g

  -- all of them
  pub members-linked : Linked w (set_members t j k)
  members-linked = linked_from (size t) 0 (NatL.zero-add (size t))
