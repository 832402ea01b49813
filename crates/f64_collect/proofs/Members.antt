-- The members of a set with their places and reaches: those that the values add up. Assumes nothing.
use mathlib.Core.Path.{◌≡◌, refl, ap, ap₂, ◌∙◌}
use mathlib.Core.Bool.{Bool, true, false, cond}
use mathlib.Core.List.{List, ◌∷◌, ◌++◌, map, map-append}
use Prim.Native.Nat.{ℕ, suc, ◌+◌}
use lib.Dec.{eqb}
use lib.Ieee.{Float}
use Rattle.game_tree.specs.Tree.{Key, Tree, end, chance, decide, Trees, nil, cons, fan}
use Rattle.game_tree.specs.Reply.{same}
use Rattle.game_tree.specs.Sets.{size}
use Rattle.game_tree_f64.specs.Values as values
use Rattle.game_tree_f64.specs.Values.{Profile, times, weight, passed}
use Rattle.arena_walks.specs.internal.Found.{Member, found, found_all}

-- what a chance node with n children passes on of reach r
abbrev pub dealt : Float → ℕ → Float
dealt r n = times r (weight n)

module _ (s : Profile) (i : ℕ) (k : Key) where
  -- the members of the set k in a tree at place a of reach r: place, reach and children
  abbrev pub found_at : ℕ → Float → Tree → List (Member Float)
  found_at a r t = found dealt (passed s i) i k a r t

  -- without its place
  abbrev pub reached : Member Float → values.Member
  reached m = (m.1, m.2)

  mutual
    unfolding found values.found

    -- without their places they are the members that the values add up
    pub reached_found : (t : Tree) (a : ℕ) (r : Float) → map reached (found_at a r t) ≡ values.found s i k r t
    reached_found (end p) a r = refl
    reached_found (chance f) a r = reached_found_all f (suc a) (λ x. dealt r (fan f)) 0
    reached_found (decide j l f) a r = at (cond (eqb j i) (same l k) false) (reached_found_all f (suc a) (passed s i r j l) 0)
      where
        at : (b : Bool) → map reached (found_all dealt (passed s i) i k (suc a) (passed s i r j l) 0 f) ≡ values.found_all s i k (passed s i r j l) 0 f
            → map reached (cond b ((a, r, f) ∷ found_all dealt (passed s i) i k (suc a) (passed s i r j l) 0 f) (found_all dealt (passed s i) i k (suc a) (passed s i r j l) 0 f))
            ≡ cond b ((r, f) ∷ values.found_all s i k (passed s i r j l) 0 f) (values.found_all s i k (passed s i r j l) 0 f)
        at true e = ap (λ ms. (r, f) ∷ ms) e
        at false e = e

    reached_found_all : (f : Trees) (a : ℕ) (g : ℕ → Float) (x : ℕ) → map reached (found_all dealt (passed s i) i k a g x f) ≡ values.found_all s i k g x f
    reached_found_all nil a g x = refl
    reached_found_all (cons t f) a g x = map-append reached (found_at a (g x) t) (found_all dealt (passed s i) i k (a + size t) g (suc x) f)
        ∙ ap₂ ◌++◌ (reached_found t a (g x)) (reached_found_all f (a + size t) g (suc x))
