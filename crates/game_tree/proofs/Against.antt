-- From a tree to a seat's reply tree: recall, depth and properties of the seat's sets carry over, and only the others' entries count. Nothing is assumed.
use mathlib.Core.Path.{◌≡◌, refl, ap, ap₂, ◌∙◌}
use mathlib.Core.Bool.{Bool, true, false}
use mathlib.Core.List.{[], ◌∷◌}
use Prim.Native.Nat.{ℕ, suc, pred, ◌+◌, ◌*◌, ◌/◌, ◌≤◌, ◌<◌, zero-le}
use native.Mathlib.Nat as NatL
use native.Mathlib.Omega.{arith}
use lib.Dec.{eqb}
use Rattle.game_tree.specs.Tree.{Key, Tree, end, chance, decide, Trees, nil, cons, fan, Strategy}
use Rattle.game_tree.specs.Conditions.{Splits, SplitsAll, Every, EveryAll, Keeps}
use Rattle.game_tree.specs.Reply.{split, own, Replies, more, node, share, reply_tree, reply_all, reply_kids, best_value, count, depth, depth_all}
use Rattle.game_tree.specs.Optimal.{EveryOwn, EveryOwnAll}
use Rattle.game_tree.specs.Recall.{Path, moved, Recall, RecallAll, RecallKids, Recalled, RecalledAll, RecalledKids}
use Rattle.game_tree.specs.Theorem.{RecallKept, OwnEntriesFree}
use Rattle.game_tree.proofs.Tests.{Tested, is, isn't, tested, eqb_is, eqb_isn't}

-- ---- properties of every decision
module _ (P : ℕ → Key → ℕ → Type 0) (g : (j : ℕ) (k : Key) (n : ℕ) → P j k n) where
  mutual
    unfolding Every

    pub every_of : (t : Tree) → Every P t
    every_of (end p) = tt
    every_of (chance f) = every_of_all f
    every_of (decide j k f) = (g j k (fan f), every_of_all f)

    every_of_all : (f : Trees) → EveryAll P f
    every_of_all nil = tt
    every_of_all (cons t f) = (every_of t, every_of_all f)

module _ (P R S : ℕ → Key → ℕ → Type 0) (g : (j : ℕ) (k : Key) (n : ℕ) → P j k n → R j k n → S j k n) where
  mutual
    unfolding Every

    pub every_both : (t : Tree) → Every P t → Every R t → Every S t
    every_both (end x) p q = tt
    every_both (chance f) p q = every_both_all f p q
    every_both (decide j k f) p q = (g j k (fan f) p.0 q.0, every_both_all f p.1 q.1)

    every_both_all : (f : Trees) → EveryAll P f → EveryAll R f → EveryAll S f
    every_both_all nil p q = tt
    every_both_all (cons t f) p q = (every_both t p.0 q.0, every_both_all f p.1 q.1)

module _ (D i : ℕ) where
  -- ---- strategies that differ at seat i alone leave it the same reply tree
  module _ (s z : Strategy) where
    mutual
      unfolding reply_tree Every node share fan

      pub same_reply-tree : (t : Tree) (u : ℕ) → Keeps i s z t → reply_tree D z i u t ≡ reply_tree D s i u t
      same_reply-tree (end p) u h = refl
      same_reply-tree (chance f) u h = ap split (same_reply_all f (u / fan f) h)
      same_reply-tree (decide j k f) u h = at (eqb j i) (λ e. h.0 (eqb_isn't j i e))
          (λ b e. same_reply-kids f b u j k 0 (λ w a l. e w a (rw (NatL.zero-add (fan f)) at l)) h.1)
        where
          at : (b : Bool) → (b ≡ false → (a : ℕ) → a < fan f → z j k a ≡ s j k a)
              → ((b : Bool) → (b ≡ false → (a : ℕ) → a < fan f → z j k a ≡ s j k a) → reply_kids D z i b u j k 0 f ≡ reply_kids D s i b u j k 0 f)
              → node b u k (reply_kids D z i b u j k 0 f) ≡ node b u k (reply_kids D s i b u j k 0 f)
          at b e g = ap (node b u k) (g b e)

      same_reply_all : (f : Trees) (u : ℕ) → EveryAll (λ j k n. (j ≡ i → ⊥) → (a : ℕ) → a < n → z j k a ≡ s j k a) f → reply_all D z i u f ≡ reply_all D s i u f
      same_reply_all nil u h = refl
      same_reply_all (cons t f) u h = ap₂ more (same_reply-tree t u h.0) (same_reply_all f u h.1)

      same_reply-kids : (f : Trees) (b : Bool) (u j : ℕ) (k : Key) (a : ℕ) → (b ≡ false → (c : ℕ) → c < a + fan f → z j k c ≡ s j k c)
          → EveryAll (λ j k n. (j ≡ i → ⊥) → (a : ℕ) → a < n → z j k a ≡ s j k a) f → reply_kids D z i b u j k a f ≡ reply_kids D s i b u j k a f
      same_reply-kids nil b u j k a e h = refl
      same_reply-kids (cons t f) true u j k a e h = ap₂ more (same_reply-tree t u h.0)
          (same_reply-kids f true u j k (suc a) (λ w c l. e w c (omega arith)) h.1)
      same_reply-kids (cons t f) false u j k a e h = ap₂ more
          (ap (λ n. reply_tree D z i (u * n / D) t) (e refl a (omega arith)) ∙ same_reply-tree t (u * s j k a / D) h.0)
          (same_reply-kids f false u j k (suc a) (λ w c l. e w c (omega arith)) h.1)

  module _ (s : Strategy) where
    reply-count : (f : Trees) (b : Bool) (u j : ℕ) (k : Key) (a : ℕ) → count (reply_kids D s i b u j k a f) ≡ fan f
    unfolding count fan reply_tree
    reply-count nil b u j k a = refl
    reply-count (cons t f) b u j k a = ap suc (reply-count f b u j k (suc a))

    -- ---- recall carries over
    module _ (H : Key → Path) (n : Key → ℕ) where
      mutual
        unfolding reply_tree Recall Recalled node share moved

        pub reply-recalled : (t : Tree) (u : ℕ) (π : Path) → Recall i H n π t → Recalled H n π (reply_tree D s i u t)
        reply-recalled (end p) u π h = tt
        reply-recalled (chance f) u π h = reply-recalled_all f (u / fan f) π h
        reply-recalled (decide j k f) u π h = at (eqb j i) (λ e. h.0 (eqb_is j i e)) h.1 (λ w. reply-recalled_own f u j π k 0 w)
            (λ w. reply-recalled-split f u j π k 0 w)
          where
            at : (b : Bool) → (b ≡ true → (π ≡ H k) × (fan f ≡ n k)) → RecallKids i H n b π k 0 f
                → (RecallKids i H n true π k 0 f → RecalledKids H n π k 0 (reply_kids D s i true u j k 0 f))
                → (RecallKids i H n false π k 0 f → RecalledAll H n π (reply_kids D s i false u j k 0 f))
                → Recalled H n π (node b u k (reply_kids D s i b u j k 0 f))
            at true e g x y = ((e refl).0, reply-count f true u j k 0 ∙ (e refl).1, x g)
            at false e g x y = y g

        reply-recalled_all : (f : Trees) (u : ℕ) (π : Path) → RecallAll i H n π f → RecalledAll H n π (reply_all D s i u f)
        reply-recalled_all nil u π h = tt
        reply-recalled_all (cons t f) u π h = (reply-recalled t u π h.0, reply-recalled_all f u π h.1)

        reply-recalled_own : (f : Trees) (u j : ℕ) (π : Path) (k : Key) (a : ℕ) → RecallKids i H n true π k a f
            → RecalledKids H n π k a (reply_kids D s i true u j k a f)
        reply-recalled_own nil u j π k a h = tt
        reply-recalled_own (cons t f) u j π k a h = (reply-recalled t u ((k, a) ∷ π) h.0, reply-recalled_own f u j π k (suc a) h.1)

        reply-recalled-split : (f : Trees) (u j : ℕ) (π : Path) (k : Key) (a : ℕ) → RecallKids i H n false π k a f
            → RecalledAll H n π (reply_kids D s i false u j k a f)
        reply-recalled-split nil u j π k a h = tt
        reply-recalled-split (cons t f) u j π k a h = (reply-recalled t (u * s j k a / D) π h.0, reply-recalled-split f u j π k (suc a) h.1)

    -- ---- at most m decisions, so at most m own moves
    mutual
      unfolding reply_tree Splits depth node

      pub reply-depth : (t : Tree) (u C m : ℕ) → Splits C m t → depth (reply_tree D s i u t) ≤ m
      reply-depth (end p) u C m h = zero-le
      reply-depth (chance f) u C m h = reply-depth_all f (u / fan f) h.0 m h.3
      reply-depth (decide j k f) u C m h = at (eqb j i) (reply_kids D s i (eqb j i) u j k 0 f) (reply-depth-kids f (eqb j i) u j k 0 C (pred m) h.1)
        where
          at : (b : Bool) (g : Replies) → depth_all g ≤ pred m → depth (node b u k g) ≤ m
          at true g l = omega (arith, h.0)
          at false g l = omega (arith, h.0)

      reply-depth_all : (f : Trees) (u C m : ℕ) → SplitsAll C m f → depth_all (reply_all D s i u f) ≤ m
      reply-depth_all nil u C m h = zero-le
      reply-depth_all (cons t f) u C m h = omega (arith, reply-depth t u C m h.0, reply-depth_all f u C m h.1)

      reply-depth-kids : (f : Trees) (b : Bool) (u j : ℕ) (k : Key) (a C m : ℕ) → SplitsAll C m f → depth_all (reply_kids D s i b u j k a f) ≤ m
      reply-depth-kids nil b u j k a C m h = zero-le
      reply-depth-kids (cons t f) b u j k a C m h = omega
          (arith, reply-depth t (share D b u (s j k a)) C m h.0, reply-depth-kids f b u j k (suc a) C m h.1)

    -- ---- a property of every decision of the seat is one of every own node, and back
    module _ (P : ℕ → Key → ℕ → Type 0) where
      mutual
        unfolding reply_tree Every EveryOwn node

        pub every→own : (t : Tree) (u : ℕ) → Every P t → EveryOwn (P i) (reply_tree D s i u t)
        every→own (end p) u h = tt
        every→own (chance f) u h = every→own_all f (u / fan f) h
        every→own (decide j k f) u h = at (tested (eqb j i)) (every→own_kids f (eqb j i) u j k 0 h.1)
          where
            at : Tested (eqb j i) → EveryOwnAll (P i) (reply_kids D s i (eqb j i) u j k 0 f)
                → EveryOwn (P i) (node (eqb j i) u k (reply_kids D s i (eqb j i) u j k 0 f))
            at (is e) g = rw e (rw (reply-count f true u j k 0) (rw (eqb_is j i e) at h.0), rw e at g)
            at (isn't e) g = rw e (rw e at g)

        every→own_all : (f : Trees) (u : ℕ) → EveryAll P f → EveryOwnAll (P i) (reply_all D s i u f)
        every→own_all nil u h = tt
        every→own_all (cons t f) u h = (every→own t u h.0, every→own_all f u h.1)

        every→own_kids : (f : Trees) (b : Bool) (u j : ℕ) (k : Key) (a : ℕ) → EveryAll P f → EveryOwnAll (P i) (reply_kids D s i b u j k a f)
        every→own_kids nil b u j k a h = tt
        every→own_kids (cons t f) b u j k a h = (every→own t (share D b u (s j k a)) h.0, every→own_kids f b u j k (suc a) h.1)

    module _ (P : Key → ℕ → Type 0) where
      abbrev Own : ℕ → Key → ℕ → Type 0
      Own j k n = j ≡ i → P k n

      mutual
        unfolding reply_tree Every EveryOwn node

        pub own→every : (t : Tree) (u : ℕ) → EveryOwn P (reply_tree D s i u t) → Every Own t
        own→every (end p) u h = tt
        own→every (chance f) u h = own→every_all f (u / fan f) h
        own→every (decide j k f) u h = at (tested (eqb j i)) h (λ w. own→every_kids f (eqb j i) u j k 0 w)
          where
            at : Tested (eqb j i) → EveryOwn P (node (eqb j i) u k (reply_kids D s i (eqb j i) u j k 0 f))
                → (EveryOwnAll P (reply_kids D s i (eqb j i) u j k 0 f) → EveryAll Own f) → Own j k (fan f) × EveryAll Own f
            at (is e) g x = let w : EveryOwn P (own u k (reply_kids D s i true u j k 0 f)) = rw e at g in
                ((λ q. rw (reply-count f true u j k 0) at w.0), x (rw e w.1))
            at (isn't e) g x = ((λ q. absurd (eqb_isn't j i e q)), x (rw e (rw e at g)))

        own→every_all : (f : Trees) (u : ℕ) → EveryOwnAll P (reply_all D s i u f) → EveryAll Own f
        own→every_all nil u h = tt
        own→every_all (cons t f) u h = (own→every t u h.0, own→every_all f u h.1)

        own→every_kids : (f : Trees) (b : Bool) (u j : ℕ) (k : Key) (a : ℕ) → EveryOwnAll P (reply_kids D s i b u j k a f) → EveryAll Own f
        own→every_kids nil b u j k a h = tt
        own→every_kids (cons t f) b u j k a h = (own→every t (share D b u (s j k a)) h.0, own→every_kids f b u j k (suc a) h.1)

pub recall_kept : RecallKept
recall_kept D i u s t h = (h.0, h.1, reply-recalled D i s h.0 h.1 t u [] h.2)

pub own_entries-free : OwnEntriesFree
own_entries-free D i u s z t h = (same_reply-tree D i s z t u h, ap best_value (same_reply-tree D i s z t u h))
