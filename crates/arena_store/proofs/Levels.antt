-- How deep a tree is whose levels are known. Assumes nothing.
use mathlib.Core.Path.{◌≡◌}
use Prim.Native.Nat.{ℕ, pred, ◌+◌, ◌≤◌, ◌<◌}
use native.Mathlib.Nat as NatL
use native.Mathlib.Omega.{arith}
use Rattle.game_tree.specs.Tree.{Key, Tree, end, chance, decide, Trees, nil, cons}
use Rattle.game_tree.specs.Shape.{Levels, LevelsAll}
use Rattle.arena.specs.internal.Legible.{deep, deep_all}

module _ (v : ℕ → Key → ℕ) where
  mutual
    unfolding Levels deep

    pub deep-levels : (d : ℕ) (t : Tree) → Levels v d t → deep t ≤ d
    deep-levels d (end p) h = omega arith
    deep-levels d (chance f) h = let l = deep-levels_all (pred d) f h.1 in omega (arith, h.0)
    deep-levels d (decide j k f) h = let l = deep-levels_all (pred d) f h.2 in omega (arith, h.0)

    deep-levels_all : (d : ℕ) (f : Trees) → LevelsAll v d f → deep_all f ≤ d
    deep-levels_all d nil h = omega arith
    deep-levels_all d (cons t f) h = NatL.max-le (deep-levels d t h.0) (deep-levels_all d f h.1)

  -- the same with e nodes more
  module _ (e : ℕ) where
    mutual
      unfolding Levels

      pub more_levels : (d : ℕ) (t : Tree) → Levels v d t → Levels (λ j k. v j k + e) (d + e) t
      more_levels d (end p) h = omega arith
      more_levels d (chance f) h = (omega (arith, h.0), more_levels_all d f h.0 h.1)
      more_levels d (decide j k f) h = (omega (arith, h.0), omega (arith, h.0, h.1), more_levels_all d f h.0 h.2)

      more_levels_all : (d : ℕ) (f : Trees) → 0 < d → LevelsAll v (pred d) f → LevelsAll (λ j k. v j k + e) (pred (d + e)) f
      more_levels_all d nil l h = tt
      more_levels_all d (cons t f) l h = (let q : pred d + e ≡ pred (d + e) = omega arith in rw (← q) (more_levels (pred d) t h.0), more_levels_all d f l h.1)
