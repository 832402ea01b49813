-- Where the members of a seat's set stand, and that they are those of its reply tree. Assumes nothing.
use Rattle.std.proofs.Common.{◌≡◌, ℕ, suc, ◌+◌, ◌/◌, Bool, true, false, cond, eqb, List, ◌∷◌, ◌++◌, map, sym, refl, ap, ◌∙◌, ap₂}
use mathlib.Core.List.{map-append}
use Rattle.game_tree.specs.Tree.{Key, Tree, end, chance, decide, Trees, nil, cons, fan, Strategy}
use Rattle.game_tree.specs.Reply.{Replies, none, more, node, share, reply_tree, reply_all, reply_kids, Node, nodes, nodes_all, same, keep, with_key}
use Rattle.game_tree.specs.Sets.{size}
use Rattle.game_tree.proofs.Tests.{Tested, is, isn't, tested, T_of, same→eq, eqb_is}
use Rattle.game_tree.proofs.Members.{with_key_append}
use Rattle.arena_walks.specs.internal.Found as Walks
use Rattle.arena_walks.proofs.Finding as Finding
use Rattle.units.specs.internal.Gain.{Member, given, found, found_all}
use Rattle.units.specs.internal.Gains.{PlacesFound, MembersFound}

pub places_found : PlacesFound
places_found D i s k t a u = Finding.places_found (λ u n. u / n) (given D s i) i k t a u

-- ---- the reply trees of a row, the units by the child's number
module _ (D : ℕ) (s : Strategy) (i : ℕ) where
  unfoldable pub reply_row : (ℕ → ℕ) → ℕ → Trees → Replies
  reply_row g x nil = none
  reply_row g x (cons t f) = more (reply_tree D s i (g x) t) (reply_row g (suc x) f)

  pub chance-row : (f : Trees) (u x : ℕ) → reply_all D s i u f ≡ reply_row (λ y. u) x f
  unfolding reply_tree reply_row
  chance-row nil u x = refl
  chance-row (cons t f) u x = ap (more (reply_tree D s i u t)) (chance-row f u (suc x))

  pub decision_row : (f : Trees) (b : Bool) (u j : ℕ) (k : Key) (x : ℕ) → reply_kids D s i b u j k x f ≡ reply_row (λ y. share D b u (s j k y)) x f
  unfolding reply_tree reply_row
  decision_row nil b u j k x = refl
  decision_row (cons t f) b u j k x = ap (more (reply_tree D s i (share D b u (s j k x)) t)) (decision_row f b u j k (suc x))

-- ---- the members
module _ (D : ℕ) (s : Strategy) (i : ℕ) (k : Key) where
  -- a member, as a node of the reply tree
  abbrev pub seen : Member → Node
  seen x = (x.1, k, reply_kids D s i true x.1 i k 0 x.2)

  at_decision : (u j : ℕ) (l : Key) (f : Trees) (a : ℕ) (r : List Member) (b : Bool) → (b ≡ true → j ≡ i)
      → with_key k (nodes_all (reply_kids D s i b u j l 0 f)) ≡ map seen r
      → with_key k (nodes (node b u l (reply_kids D s i b u j l 0 f))) ≡ map seen (cond (cond b (same l k) false) ((a, u, f) ∷ r) r)
  unfolding with_key keep nodes node
  at_decision u j l f a r false o e = e
  at_decision u j l f a r true o e = at (tested (same l k))
    where
      at : Tested (same l k)
          → keep (same l k) (u, l, reply_kids D s i true u j l 0 f) (with_key k (nodes_all (reply_kids D s i true u j l 0 f))) ≡ map seen (cond (same l k) ((a, u, f) ∷ r) r)
      at (is w) = rw w (ap₂ ◌∷◌ (ap₂ (λ m n. (u, m, reply_kids D s i true u n m 0 f)) (same→eq l k (T_of w)) (o refl)) e)
      at (isn't w) = rw w e

  mutual
    unfolding Walks.found reply_tree nodes with_key reply_row

    are_members : (t : Tree) (a u : ℕ) → with_key k (nodes (reply_tree D s i u t)) ≡ map seen (found D s i k a u t)
    are_members (end p) a u = refl
    are_members (chance f) a u = ap (λ r. with_key k (nodes_all r)) (chance-row D s i f (u / fan f) 0) ∙ are_members_all f (suc a) (λ x. u / fan f) 0
    are_members (decide j l f) a u = at_decision u j l f a (found_all D s i k (suc a) (given D s i u j l) 0 f) (eqb j i) (λ e. eqb_is j i e)
        (ap (λ r. with_key k (nodes_all r)) (decision_row D s i f (eqb j i) u j l 0) ∙ are_members_all f (suc a) (given D s i u j l) 0)

    are_members_all : (f : Trees) (a : ℕ) (g : ℕ → ℕ) (x : ℕ) → with_key k (nodes_all (reply_row D s i g x f)) ≡ map seen (found_all D s i k a g x f)
    are_members_all nil a g x = refl
    are_members_all (cons t f) a g x = with_key_append k (nodes (reply_tree D s i (g x) t)) (nodes_all (reply_row D s i g (suc x) f))
        ∙ ap₂ ◌++◌ (are_members t a (g x)) (are_members_all f (a + size t) g (suc x))
        ∙ sym (map-append seen (found D s i k a (g x) t) (found_all D s i k (a + size t) g (suc x) f))

pub members_found : MembersFound
members_found D i s k t a u = are_members D s i k t a u
