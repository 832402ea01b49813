-- Tests of a whole tree that can be computed, each with what it says. Nothing is assumed.
use mathlib.Core.Path.{◌≡◌, refl, ap₂}
use mathlib.Core.Bool.{Bool, true, false, cond}
use mathlib.Core.List.{[], ◌∷◌}
use Prim.Native.Nat.{ℕ, suc, pred, ◌*◌, ◌/◌}
use lib.Dec.{eqb, ltb}
use borrow.Author.Tests.{ltb-true}
use Rattle.prelude.specs.Finite.{◌and◌}
use Rattle.prelude.proofs.Tests.{and_left, and_right}
use Rattle.game_tree.specs.Tree.{Key, Tree, end, chance, decide, Trees, nil, cons, fan}
use Rattle.game_tree.specs.Conditions.{Splits, SplitsAll, Every, EveryAll}
use Rattle.game_tree.specs.Reply.{same}
use Rattle.game_tree.specs.Recall.{Path, moved, Recall, RecallAll, RecallKids}
use Rattle.game_tree.specs.Sets.{height}
use Rattle.game_tree.specs.Shape.{Heights, HeightsAll, Levels, LevelsAll}
use Rattle.game_tree.proofs.Tests.{T_of, same→eq, eqb_is, eqb_self}
use Rattle.game_tree.proofs.Sets.{clash}

-- ---- at most m decisions on a path, and the fans divide C
unfoldable mutual
  unfolding fan

  pub splits : ℕ → ℕ → Tree → Bool
  splits C m (end p) = true
  splits C m (chance f) = eqb C (fan f * (C / fan f)) and (ltb 0 (fan f) and splits_all (C / fan f) m f)
  splits C m (decide j k f) = ltb 0 m and splits_all C (pred m) f

  pub splits_all : ℕ → ℕ → Trees → Bool
  splits_all C m nil = true
  splits_all C m (cons t f) = splits C m t and splits_all C m f

mutual
  unfolding splits Splits

  pub splits-sound : (C m : ℕ) (t : Tree) → splits C m t ≡ true → Splits C m t
  splits-sound C m (end p) e = tt
  splits-sound C m (chance f) e =
      let d = and_right _ _ e in
      (C / fan f, eqb_is _ _ (and_left _ _ e), ltb-true _ _ (and_left _ _ d), splits_all_sound (C / fan f) m f (and_right _ _ d))
  splits-sound C m (decide j k f) e = (ltb-true _ _ (and_left _ _ e), splits_all_sound C (pred m) f (and_right _ _ e))

  splits_all_sound : (C m : ℕ) (f : Trees) → splits_all C m f ≡ true → SplitsAll C m f
  splits_all_sound C m nil e = tt
  splits_all_sound C m (cons t f) e = (splits-sound C m t (and_left _ _ e), splits_all_sound C m f (and_right _ _ e))

-- ---- a test of every decision
module _ (p : ℕ → Key → ℕ → Bool) where
  unfoldable mutual
    unfolding fan

    pub every : Tree → Bool
    every (end v) = true
    every (chance f) = every_all f
    every (decide j k f) = p j k (fan f) and every_all f

    pub every_all : Trees → Bool
    every_all nil = true
    every_all (cons t f) = every t and every_all f

  module _ (P : ℕ → Key → ℕ → Type 0) (g : (j : ℕ) (k : Key) (n : ℕ) → p j k n ≡ true → P j k n) where
    mutual
      unfolding every Every

      pub every-sound : (t : Tree) → every t ≡ true → Every P t
      every-sound (end v) e = tt
      every-sound (chance f) e = every_all_sound f e
      every-sound (decide j k f) e = (g j k (fan f) (and_left _ _ e), every_all_sound f (and_right _ _ e))

      every_all_sound : (f : Trees) → every_all f ≡ true → EveryAll P f
      every_all_sound nil e = tt
      every_all_sound (cons t f) e = (every-sound t (and_left _ _ e), every_all_sound f (and_right _ _ e))

-- ---- d gives the decisions still to come
module _ (d : ℕ → Key → ℕ) where
  unfoldable mutual
    unfolding height

    pub heights : Tree → Bool
    heights (end v) = true
    heights (chance f) = heights_all f
    heights (decide j k f) = eqb (height (decide j k f)) (d j k) and heights_all f

    pub heights_all : Trees → Bool
    heights_all nil = true
    heights_all (cons t f) = heights t and heights_all f

  mutual
    unfolding heights Heights

    pub heights-sound : (t : Tree) → heights t ≡ true → Heights d t
    heights-sound (end v) e = tt
    heights-sound (chance f) e = heights_all_sound f e
    heights-sound (decide j k f) e = (eqb_is _ _ (and_left _ _ e), heights_all_sound f (and_right _ _ e))

    heights_all_sound : (f : Trees) → heights_all f ≡ true → HeightsAll d f
    heights_all_sound nil e = tt
    heights_all_sound (cons t f) e = (heights-sound t (and_left _ _ e), heights_all_sound f (and_right _ _ e))

-- ---- v gives the nodes that may follow a decision
module _ (v : ℕ → Key → ℕ) where
  unfoldable mutual
    pub levels : ℕ → Tree → Bool
    levels d (end p) = ltb 0 d
    levels d (chance f) = ltb 0 d and levels_all (pred d) f
    levels d (decide j k f) = ltb 0 d and (eqb (v j k) (pred d) and levels_all (pred d) f)

    pub levels_all : ℕ → Trees → Bool
    levels_all d nil = true
    levels_all d (cons t f) = levels d t and levels_all d f

  mutual
    unfolding levels Levels

    pub levels_sound : (d : ℕ) (t : Tree) → levels d t ≡ true → Levels v d t
    levels_sound d (end p) e = ltb-true _ _ e
    levels_sound d (chance f) e = (ltb-true _ _ (and_left _ _ e), levels_all_sound (pred d) f (and_right _ _ e))
    levels_sound d (decide j k f) e = let r = and_right _ _ e in (ltb-true _ _ (and_left _ _ e), eqb_is _ _ (and_left _ _ r), levels_all_sound (pred d) f (and_right _ _ r))

    levels_all_sound : (d : ℕ) (f : Trees) → levels_all d f ≡ true → LevelsAll v d f
    levels_all_sound d nil e = tt
    levels_all_sound d (cons t f) e = (levels_sound d t (and_left _ _ e), levels_all_sound d f (and_right _ _ e))

-- ---- perfect recall of seat i
unfoldable pub same_path : Path → Path → Bool
unfolding same
same_path [] [] = true
same_path [] (y ∷ ρ) = false
same_path (x ∷ π) [] = false
same_path (x ∷ π) (y ∷ ρ) = (same x.0 y.0 and eqb x.1 y.1) and same_path π ρ

same_path_lem : (π ρ : Path) → same_path π ρ ≡ true → π ≡ ρ
unfolding same_path
same_path_lem [] [] e = refl
same_path_lem [] (y ∷ ρ) e = absurd (clash false e refl)
same_path_lem (x ∷ π) [] e = absurd (clash false e refl)
same_path_lem (x ∷ π) (y ∷ ρ) e =
    let d = and_left _ _ e in
    ap₂ ◌∷◌ (ap₂ (λ k a. (k, a)) (same→eq _ _ (T_of (and_left _ _ d))) (eqb_is _ _ (and_right _ _ d))) (same_path_lem π ρ (and_right _ _ e))

module _ (i : ℕ) (H : Key → Path) (n : Key → ℕ) where
  unfoldable mutual
    unfolding fan moved same_path

    pub recall : Path → Tree → Bool
    recall π (end v) = true
    recall π (chance f) = recall_all π f
    recall π (decide j k f) = let own : Bool = (same_path π (H k) and eqb (fan f) (n k)) in (cond (eqb j i) own true and recall_kids (eqb j i) π k 0 f)

    pub recall_all : Path → Trees → Bool
    recall_all π nil = true
    recall_all π (cons t f) = recall π t and recall_all π f

    pub recall_kids : Bool → Path → Key → ℕ → Trees → Bool
    recall_kids b π k a nil = true
    recall_kids b π k a (cons t f) = recall (moved b k a π) t and recall_kids b π k (suc a) f

  at_own : (j : ℕ) (π : Path) (k : Key) (f : Trees) → cond (eqb j i) (same_path π (H k) and eqb (fan f) (n k)) true ≡ true → j ≡ i → (π ≡ H k) × (fan f ≡ n k)
  at_own j π k f e q =
      let d : (same_path π (H k) and eqb (fan f) (n k)) ≡ true = rw (q, eqb_self i) at e in
      (same_path_lem π (H k) (and_left _ _ d), eqb_is _ _ (and_right _ _ d))

  mutual
    unfolding recall Recall

    pub recall-sound : (π : Path) (t : Tree) → recall π t ≡ true → Recall i H n π t
    recall-sound π (end v) e = tt
    recall-sound π (chance f) e = recall_all_sound π f e
    recall-sound π (decide j k f) e = ((λ q. at_own j π k f (and_left _ _ e) q), recall-kids-sound (eqb j i) π k 0 f (and_right _ _ e))

    recall_all_sound : (π : Path) (f : Trees) → recall_all π f ≡ true → RecallAll i H n π f
    recall_all_sound π nil e = tt
    recall_all_sound π (cons t f) e = (recall-sound π t (and_left _ _ e), recall_all_sound π f (and_right _ _ e))

    recall-kids-sound : (b : Bool) (π : Path) (k : Key) (a : ℕ) (f : Trees) → recall_kids b π k a f ≡ true → RecallKids i H n b π k a f
    recall-kids-sound b π k a nil e = tt
    recall-kids-sound b π k a (cons t f) e = (recall-sound (moved b k a π) t (and_left _ _ e), recall-kids-sound b π k (suc a) f (and_right _ _ e))
