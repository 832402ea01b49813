-- The places of the trees in a row. Assumes nothing.
use mathlib.Core.Path.{◌≡◌, refl, sym}
use mathlib.Core.List.{List}
use Prim.Native.Nat.{ℕ, ◌+◌, ◌%◌, ◌≤◌, ◌<◌}
use native.Mathlib.Nat as NatL
use native.Mathlib.Omega.{arith}
use lib.ListN.{get_or}
use Rattle.game_tree.specs.Tree.{Key, Tree, end, chance, decide, Trees, nil, cons, fan}
use Rattle.game_tree.specs.Sets.{size, sizes}
use Rattle.arena.specs.internal.Words.{END, kind_of, next_of}
use Rattle.arena.specs.internal.Held.{Says, Held, HeldAll}
use Rattle.arena.specs.internal.Walk.{Behind, Fan}
use Rattle.arena.proofs.Building.{size_some}

module _ (n : ℕ) (s : ℕ → Key → ℕ) (l : ℕ → ℕ → Key → ℕ) (w : List ℕ) (a : ℕ) where
  behind_end : (t : Tree) → Held n s l w a t → kind_of (get_or w a 0) ≡ END → a + 1 ≡ a + size t
  unfolding Held Says size
  behind_end (end p) h e = refl
  behind_end (chance f) h e = absurd (omega (arith, h.0.0))
  behind_end (decide j k f) h e = absurd (omega (arith, h.0.0))

  behind-other : (t : Tree) → Held n s l w a t → (kind_of (get_or w a 0) ≡ END → ⊥) → next_of (get_or w a 0) ≡ a + size t
  unfolding Held Says size
  behind-other (end p) h e = absurd (e h.0)
  behind-other (chance f) h e = h.0.1
  behind-other (decide j k f) h e = h.0.4

pub at_end : (w : List ℕ) (a : ℕ) → kind_of (get_or w a 0) ≡ END → Behind w a ((a + 1) % 4194304)
at_end w a e = record { place = λ n s l t h b. omega (arith, behind_end n s l w a t h e); near = omega arith }

pub elsewhere : (w : List ℕ) (a : ℕ) → (kind_of (get_or w a 0) ≡ END → ⊥) → Behind w a (next_of (get_or w a 0))
elsewhere w a e = record { place = λ n s l t h b. behind-other n s l w a t h e; near = omega arith }

-- ---- along a row: c trees stand before place b, and what follows is a row too
abbrev pub Along : List ℕ → (a z b c : ℕ) → Type 0
Along w a z b c = (n : ℕ) (s : ℕ → Key → ℕ) (l : ℕ → ℕ → Key → ℕ) (f : Trees) → HeldAll n s l w a f → z ≡ a + sizes f → z < 4194304
    → (g : Trees) × HeldAll n s l w b g × (z ≡ b + sizes g) × (fan f ≡ c + fan g)

pub along-start : (w : List ℕ) (a z : ℕ) → Along w a z a 0
along-start w a z n s l f h e b = (f, h, e, sym (NatL.zero-add (fan f)))

pub along_more : (w : List ℕ) (a z b c q : ℕ) → Along w a z b c → b < z → Behind w b q → Along w a z q (c + 1)
unfolding Held size fan
along_more w a z b c q h m k n s l f i e o = at (h n s l f i e o)
  where
    at : (g : Trees) × HeldAll n s l w b g × (z ≡ b + sizes g) × (fan f ≡ c + fan g) → (g : Trees) × HeldAll n s l w q g × (z ≡ q + sizes g) × (fan f ≡ c + 1 + fan g)
    at (nil, x, y, v) = absurd (omega arith)
    at (cons t g, x, y, v) = let p : q ≡ b + size t = k.place n s l t x.0 (omega arith) in (g, rw p x.1, omega arith, omega arith)

pub along_end : (w : List ℕ) (a z b c : ℕ) → Along w a z b c → z ≤ b → Fan w a z c
unfolding Held size fan
along_end w a z b c h m n s l f i e o = at (h n s l f i e o)
  where
    at : (g : Trees) × HeldAll n s l w b g × (z ≡ b + sizes g) × (fan f ≡ c + fan g) → c ≡ fan f
    at (nil, x, y, v) = omega arith
    at (cons t g, x, y, v) = absurd (omega (arith, size_some t))

-- no tree ends before it begins
pub along_stuck : (w : List ℕ) (a z b c q : ℕ) → Along w a z b c → b < z → Behind w b q → q ≤ b → Fan w a z c
unfolding Held size fan
along_stuck w a z b c q h m k d n s l f i e o = at (h n s l f i e o)
  where
    at : (g : Trees) × HeldAll n s l w b g × (z ≡ b + sizes g) × (fan f ≡ c + fan g) → c ≡ fan f
    at (nil, x, y, v) = absurd (omega arith)
    at (cons t g, x, y, v) = absurd (omega (arith, k.place n s l t x.0 (omega arith), size_some t))
