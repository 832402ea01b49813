-- All parts on the choice: they are worth its value, and they add up. Nothing is assumed.
use mathlib.Core.Path.{◌≡◌, refl, sym, ap₂, ◌∙◌}
use Prim.Native.Nat.{ℕ, zero, suc, ◌+◌, ◌^◌, ◌≤◌, ◌<◌}
use native.Mathlib.Nat as NatL
use native.Mathlib.Omega.{arith}
use lib.IntN.{pos, ◌+ℤ◌, +ℤ_idl, +ℤ_idr}
use Rattle.game_tree.specs.Sums.{◌·◌, parts}
use Rattle.game_tree.specs.Tree.{Key}
use Rattle.game_tree.specs.Reply.{Reply, leaf, split, own, Replies, none, more, Choice, value, total, pick, depth, depth_all, pure}
use Rattle.game_tree.specs.Optimal.{scaled, scaled_all, scaled_kids}
use Rattle.game_tree.specs.Theorem.{PureWorth}
use Rattle.game_tree.proofs.Integers.{·-none, ·-zero, ·-sum, ·-mul}
use Rattle.game_tree.proofs.Sums.{parts_one}
use Rattle.game_tree.proofs.Tests.{eqb_self, eqb_no}

module _ (E : ℕ) (c : Choice) where
  pure-chosen : (k : Key) (a : ℕ) → c k ≡ a → pure E c k a ≡ E
  unfolding pure
  pure-chosen k a e = rw (e, eqb_self a)

  pure-other : (k : Key) (a : ℕ) → (a ≡ c k → ⊥) → pure E c k a ≡ 0
  unfolding pure
  pure-other k a e = rw (eqb_no a (c k) e)

  -- past the choice nothing is added
  pure_past : (f : Replies) (k : Key) (a r : ℕ) → c k < a → scaled_kids E (pure E c) k a f r ≡ pos 0
  unfolding scaled_kids
  pure_past none k a r l = refl
  pure_past (more t f) k a r l = rw (pure-other k a (λ e. omega arith), ·-none (scaled E (pure E c) t r), pure_past f k (suc a) r (omega arith)) refl

  mutual
    unfolding scaled value depth

    pure-tree : (t : Reply) (r : ℕ) → depth t ≤ r → scaled E (pure E c) t r ≡ E ^ r · value c t
    pure-tree (leaf u v) r d = refl
    pure-tree (split f) r d = pure_all f r d
    pure-tree (own u k f) zero d = absurd (NatL.not-suc-le-zero d)
    pure-tree (own u k f) (suc r) d = pure-kids f k 0 (c k) r (sym (NatL.zero-add (c k))) (NatL.le_of_suc-le-suc d) ∙ sym
        (rw (NatL.pow-succ' E r) (·-mul E (E ^ r) (pick c f (c k))))

    pure_all : (f : Replies) (r : ℕ) → depth_all f ≤ r → scaled_all E (pure E c) f r ≡ E ^ r · total c f
    pure_all none r d = sym (·-zero (E ^ r))
    pure_all (more t f) r d = ap₂ ◌+ℤ◌ (pure-tree t r (omega arith)) (pure_all f r (omega arith)) ∙ sym (·-sum (E ^ r) (value c t) (total c f))

    pure-kids : (f : Replies) (k : Key) (a b r : ℕ) → c k ≡ a + b → depth_all f ≤ r → scaled_kids E (pure E c) k a f r ≡ E · (E ^ r · pick c f b)
    pure-kids none k a b r e d = sym (simp ·-zero)
    pure-kids (more t f) k a zero r e d = rw (pure-chosen k a (omega arith), pure_past f k (suc a) r (omega arith), pure-tree t r (omega arith))
        (+ℤ_idr (E · (E ^ r · value c t)))
    pure-kids (more t f) k a (suc b) r e d = rw
        (pure-other k a (λ q. omega arith), ·-none (scaled E (pure E c) t r), pure-kids f k (suc a) b r (omega arith) (omega arith))
        (+ℤ_idl (E · (E ^ r · pick c f b)))

pub pure-worth : PureWorth
pure-worth E m c r d = pure-tree E c r m d

-- the parts of all actions are those of the chosen one
pub pure_parts : (E : ℕ) (c : Choice) (k : Key) (n : ℕ) → c k < n → parts n (pure E c k) ≡ E
pure_parts E c k n l = parts_one n (c k) (pure E c k) l (λ a e. pure-other E c k a e) ∙ pure-chosen E c k (c k) refl
