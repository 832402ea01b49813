-- The child behind an action. Assumes nothing.
use mathlib.Core.Path.{◌≡◌, sym, ap, ◌∙◌, subst}
use mathlib.Core.List.{List}
use Prim.Native.Nat.{ℕ, suc, ◌+◌, ◌%◌, ◌≤◌, ◌<◌}
use native.Mathlib.Nat as NatL
use native.Mathlib.Omega.{arith}
use Rattle.game_tree.specs.Tree.{Key, Trees, nil, cons, fan}
use Rattle.game_tree.specs.Sets.{size, sizes}
use Rattle.arena.specs.internal.Held.{Held, HeldAll}
use Rattle.arena.specs.internal.Walk.{Behind}
use Rattle.arena_walks.specs.internal.Child.{place_of, Child}

-- a place below 2^22 is where it says
here : (a : ℕ) (f : Trees) → suc a + sizes f < 4194304 → (a + 1) % 4194304 ≡ suc a
here a f l = let q : (a + 1) % 4194304 ≡ a + 1 = NatL.mod-eq_of_lt (omega arith) in q ∙ omega arith

module _ (w : List ℕ) (a c : ℕ) where
  pub first : c ≡ 0 → Child w a c ((a + 1) % 4194304)
  unfolding place_of
  first z = record { place = λ n s l f h m o p. here a f m ∙ sym (ap (place_of (suc a) f) z); near = NatL.mod-lt (a + 1) (omega arith) }

  pub second : (r : ℕ) → Behind w ((a + 1) % 4194304) r → c ≡ 1 → Child w a c r
  unfolding place_of fan Held size
  second r b z = record { place = place; near = b.near }
    where
      place : (n : ℕ) (s : ℕ → Key → ℕ) (l : ℕ → ℕ → Key → ℕ) (f : Trees) → HeldAll n s l w (suc a) f → suc a + sizes f < 4194304 → c < fan f → c ≤ 2 → r ≡ place_of (suc a) f c
      place n s l nil h m o p = absurd (omega arith)
      place n s l (cons t f) h m o p = (subst (λ p. Behind w p r) (here a (cons t f) m) b).place n s l t h.0 (omega arith) ∙ sym (ap (place_of (suc a) (cons t f)) z)

  pub third : (q r : ℕ) → (c ≡ 0 → ⊥) → (c ≡ 1 → ⊥) → Behind w ((a + 1) % 4194304) q → Behind w q r → Child w a c r
  unfolding place_of fan Held size
  third q r y z b d = record { place = place; near = d.near }
    where
      place : (n : ℕ) (s : ℕ → Key → ℕ) (l : ℕ → ℕ → Key → ℕ) (f : Trees) → HeldAll n s l w (suc a) f → suc a + sizes f < 4194304 → c < fan f → c ≤ 2 → r ≡ place_of (suc a) f c
      place n s l nil h m o p = absurd (omega arith)
      place n s l (cons t nil) h m o p = absurd (omega arith)
      place n s l (cons t (cons u f)) h m o p =
          let Q : q ≡ suc a + size t = (subst (λ p. Behind w p q) (here a (cons t (cons u f)) m) b).place n s l t h.0 (omega arith) in
          let two : c ≡ 2 = omega arith in
          (subst (λ p. Behind w p r) Q d).place n s l u h.1.0 (omega arith) ∙ sym (ap (place_of (suc a) (cons t (cons u f))) two)
