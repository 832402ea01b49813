-- Words that stay. Assumes nothing.
use mathlib.Core.Path.{◌≡◌, ◌∙◌}
use mathlib.Core.Logic.{◌⊎◌, inl, inr}
use mathlib.Core.List.{List}
use Prim.Native.Nat.{ℕ, ◌+◌, ◌≤◌, ◌<◌}
use native.Mathlib.Omega.{arith}
use lib.ListN.{get_or}
use Rattle.game_tree.specs.Tree.{Key, Tree, Trees}
use Rattle.game_tree.specs.Sets.{size, sizes, first_entry}
use Rattle.arena.specs.internal.Held.{Held, HeldAll}
use Rattle.arena.specs.internal.Index.{Kept, Alike}
use Rattle.arena.proofs.Building.{held_same, held_same_all}

-- the words from lo to hi are the same
abbrev pub Same : (v w : List ℕ) (lo hi : ℕ) → Type 0
Same v w lo hi = (p : ℕ) → lo ≤ p → p < hi → get_or w p 0 ≡ get_or v p 0

pub alike-join : (b : ℕ) (u v w : List ℕ) → Alike b u v → Alike b v w → Alike b u w
alike-join b u v w h g p l = g p l ∙ h p l

pub kept_wider : (lo hi a b : ℕ) (v w : List ℕ) → a ≤ lo → hi ≤ b → Kept lo hi v w → Kept a b v w
kept_wider lo hi a b v w h g k = record { words = λ p o. k.words p (outside p o); long = k.long }
  where
    outside : (p : ℕ) → (p < a) ⊎ (b ≤ p) → (p < lo) ⊎ (hi ≤ p)
    outside p (inl o) = inl (omega arith)
    outside p (inr o) = inr (omega arith)

-- what is held below place b is held where the words there are the same
module _ (n : ℕ) (T : Tree) (l : ℕ → ℕ → Key → ℕ) (b a : ℕ) (v w : List ℕ) (e : Alike b v w) where
  pub alike-held : (t : Tree) → a + size t ≤ b → Held n (first_entry T) l v a t → Held n (first_entry T) l w a t
  alike-held t m h = held_same n (first_entry T) l v w a t h (λ p x y. e p (omega arith))

  pub alike-row : (f : Trees) → a + sizes f ≤ b → HeldAll n (first_entry T) l v a f → HeldAll n (first_entry T) l w a f
  alike-row f m h = held_same_all n (first_entry T) l v w a f h (λ p x y. e p (omega arith))
