-- A test that the hands of a tree have one betting shape, and what it says. Assumes nothing.
use mathlib.Core.Path.{◌≡◌, refl, ap, ap₂}
use mathlib.Core.Bool.{Bool, true, false}
use mathlib.Core.List.{[]}
use lib.Dec.{eqb}
use borrow.Author.Tests.{eqb-true}
use Rattle.prelude.specs.Finite.{◌and◌}
use Rattle.prelude.proofs.Tests.{true≢false, and_left, and_right}
use Rattle.game_tree.specs.Tree.{Tree, end, chance, decide, Trees, nil, cons}
use Rattle.game_tree.specs.Sets.{size}
use Rattle.leduc_tree_facts.specs.Shape.{bare, bare_all}

-- ---- two trees have the same shape
unfoldable mutual
  pub shaped : Tree → Tree → Bool
  shaped (end p) (end q) = true
  shaped (end p) (chance g) = false
  shaped (end p) (decide i l g) = false
  shaped (chance f) (end q) = false
  shaped (chance f) (chance g) = shaped_all f g
  shaped (chance f) (decide i l g) = false
  shaped (decide j k f) (end q) = false
  shaped (decide j k f) (chance g) = false
  shaped (decide j k f) (decide i l g) = eqb j i and shaped_all f g

  pub shaped_all : Trees → Trees → Bool
  shaped_all nil nil = true
  shaped_all nil (cons u g) = false
  shaped_all (cons t f) nil = false
  shaped_all (cons t f) (cons u g) = shaped t u and shaped_all f g

mutual
  unfolding shaped bare

  shaped-sound : (t u : Tree) → shaped t u ≡ true → bare t ≡ bare u
  shaped-sound (end p) (end q) e = refl
  shaped-sound (end p) (chance g) e = true≢false false e refl
  shaped-sound (end p) (decide i l g) e = true≢false false e refl
  shaped-sound (chance f) (end q) e = true≢false false e refl
  shaped-sound (chance f) (chance g) e = ap chance (shaped_all_sound f g e)
  shaped-sound (chance f) (decide i l g) e = true≢false false e refl
  shaped-sound (decide j k f) (end q) e = true≢false false e refl
  shaped-sound (decide j k f) (chance g) e = true≢false false e refl
  shaped-sound (decide j k f) (decide i l g) e = ap₂ (λ x y. decide x [] y) (eqb-true j i (and_left _ _ e)) (shaped_all_sound f g (and_right _ _ e))

  shaped_all_sound : (f g : Trees) → shaped_all f g ≡ true → bare_all f ≡ bare_all g
  shaped_all_sound nil nil e = refl
  shaped_all_sound nil (cons u g) e = true≢false false e refl
  shaped_all_sound (cons t f) nil e = true≢false false e refl
  shaped_all_sound (cons t f) (cons u g) e = ap₂ cons (shaped-sound t u (and_left _ _ e)) (shaped_all_sound f g (and_right _ _ e))

-- ---- every hand of a tree has one shape
-- the tree below a deal has the shape of u and 315 nodes
unfoldable pub fits : Tree → Tree → Bool
fits u t = shaped t u and eqb (size t) 315

pub fits_sound : (u t : Tree) → fits u t ≡ true → (bare t ≡ bare u) × (size t ≡ 315)
unfolding fits
fits_sound u t e = (shaped-sound t u (and_left _ _ e), eqb-true _ _ (and_right _ _ e))

-- a test of every tree of a row
unfoldable pub every-tree : (Tree → Bool) → Trees → Bool
every-tree p nil = true
every-tree p (cons t f) = p t and every-tree p f

unfoldable pub children : Tree → Trees
children (end p) = nil
children (chance f) = f
children (decide j k f) = f

-- the trees behind two cards fit u
unfoldable pub hands_fit : Tree → Tree → Bool
unfolding fits every-tree children
hands_fit u t = every-tree (λ s. every-tree (fits u) (children s)) (children t)
