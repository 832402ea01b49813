-- A held tree, node by node: its words say what its nodes are, in their order, and back. Assumes nothing.
use mathlib.Core.Path.{sym, ◌∙◌, subst}
use mathlib.Core.List.{List, [], ◌∷◌, ◌++◌}
use Prim.Native.Nat.{ℕ, zero, suc, ◌+◌, ◌<◌}
use native.Mathlib.Nat as NatL
use lib.IntN.{pos}
use lib.ListN.{length, get_or}
use Rattle.game_tree.specs.Tree.{Key, Tree, end, chance, decide, Trees, nil, cons}
use Rattle.game_tree.specs.Sets.{size, preorder, preorder_all}
use Rattle.game_tree.proofs.Sets.{preorder-length}
use Rattle.arena.specs.internal.Held.{Says, SaysAll, Held, HeldAll}

module _ (n : ℕ) (s : ℕ → Key → ℕ) (l : ℕ → ℕ → Key → ℕ) (w : List ℕ) where
  says_append : (a : ℕ) (ts us : List Tree) → SaysAll n s l w a ts → SaysAll n s l w (a + length ts) us → SaysAll n s l w a (ts ++ us)
  unfolding SaysAll
  says_append a [] us h g = rw (NatL.add-zero a) at g
  says_append a (t ∷ ts) us h g = (h.0, says_append (suc a) ts us h.1 (rw (NatL.add-suc a (length ts) ∙ sym (NatL.suc-add a (length ts))) at g))

  says_left : (a : ℕ) (ts us : List Tree) → SaysAll n s l w a (ts ++ us) → SaysAll n s l w a ts
  unfolding SaysAll
  says_left a [] us h = tt
  says_left a (t ∷ ts) us h = (h.0, says_left (suc a) ts us h.1)

  says_right : (a : ℕ) (ts us : List Tree) → SaysAll n s l w a (ts ++ us) → SaysAll n s l w (a + length ts) us
  unfolding SaysAll
  says_right a [] us h = rw (NatL.add-zero a) h
  says_right a (t ∷ ts) us h = rw (NatL.add-suc a (length ts) ∙ sym (NatL.suc-add a (length ts))) (says_right (suc a) ts us h.1)

  -- the word of one node
  pub says_at : (a : ℕ) (ts : List Tree) (d : Tree) → SaysAll n s l w a ts → (i : ℕ) → i < length ts → Says n s l (get_or w (a + i) 0) (a + i) (get_or ts i d)
  unfolding SaysAll
  says_at a [] d h i b = absurd (NatL.not-suc-le-zero b)
  says_at a (t ∷ ts) d h zero b = rw (NatL.add-zero a) h.0
  says_at a (t ∷ ts) d h (suc i) b = rw (NatL.add-suc a i ∙ sym (NatL.suc-add a i)) (says_at (suc a) ts d h.1 i (NatL.le_of_suc-le-suc b))

  mutual
    unfolding Held SaysAll preorder size

    pub held→says : (a : ℕ) (t : Tree) → Held n s l w a t → SaysAll n s l w a (preorder t)
    held→says a (end p) h = (h, tt)
    held→says a (chance f) h = (h.0, held→says_all (suc a) f h.1)
    held→says a (decide j k f) h = (h.0, held→says_all (suc a) f h.1)

    held→says_all : (a : ℕ) (f : Trees) → HeldAll n s l w a f → SaysAll n s l w a (preorder_all f)
    held→says_all a nil h = tt
    held→says_all a (cons t f) h = says_append a (preorder t) (preorder_all f) (held→says a t h.0) (rw (preorder-length t) (held→says_all (a + size t) f h.1))

  mutual
    unfolding Held SaysAll preorder size

    pub says→held : (a : ℕ) (t : Tree) → SaysAll n s l w a (preorder t) → Held n s l w a t
    says→held a (end p) h = h.0
    says→held a (chance f) h = (h.0, says→held_all (suc a) f h.1)
    says→held a (decide j k f) h = (h.0, says→held_all (suc a) f h.1)

    says→held_all : (a : ℕ) (f : Trees) → SaysAll n s l w a (preorder_all f) → HeldAll n s l w a f
    says→held_all a nil h = tt
    says→held_all a (cons t f) h = (says→held a t (says_left a (preorder t) (preorder_all f) h), says→held_all (a + size t) f (rw (preorder-length t) at (says_right a (preorder t) (preorder_all f) h)))

-- ---- a node by its number
-- a node that is none
abbrev pub none : Tree
none = end (λ i. pos 0)

abbrev pub node : Tree → ℕ → Tree
node t a = get_or (preorder t) a none

pub node-inside : (t : Tree) (a : ℕ) → a < size t → a < length (preorder t)
node-inside t a h = rw (preorder-length t) h

-- the word of the node at place a
pub held-node : (n : ℕ) (s : ℕ → Key → ℕ) (l : ℕ → ℕ → Key → ℕ) (w : List ℕ) (t : Tree) → Held n s l w 0 t → (a : ℕ) → a < size t → Says n s l (get_or w a 0) a (node t a)
held-node n s l w t h a b = subst (λ i. Says n s l (get_or w i 0) i (node t a)) (NatL.zero-add a) (says_at n s l w 0 (preorder t) none (held→says n s l w 0 t h) a (node-inside t a b))
