-- The way of a choice through the actions, one after the other: it ends at one of them, and depends on their sums alone. Assumes nothing.
use mathlib.Core.Path.{◌≡◌, refl, sym, ap, ◌∙◌}
use mathlib.Core.Bool.{Bool, true, false, cond}
use Prim.Native.Nat.{ℕ, zero, suc, ◌≤◌, ◌<◌}
use native.Mathlib.Omega.{arith}
use lib.Ieee.{Float, inf, lt}
use Rattle.game_tree_f64.specs.Values.{Lead, lead}

pub lead-few : (q : ℕ → Float) (n : ℕ) → 1 ≤ n → (lead q n).0 < n
unfolding lead
lead-few q zero l = absurd (omega arith)
lead-few q (suc zero) l = at (lt (inf true) (q 0))
  where
    at : (b : Bool) → (cond {A = Lead} b (0, q 0) (0, inf true)).0 < 1
    at true = omega arith
    at false = omega arith
lead-few q (suc (suc n)) l = at (lt (lead q (suc n)).1 (q (suc n))) (lead-few q (suc n) (omega arith))
  where
    at : (b : Bool) → (lead q (suc n)).0 < suc n → (cond {A = Lead} b (suc n, q (suc n)) (lead q (suc n))).0 < suc (suc n)
    at true m = omega arith
    at false m = omega arith

pub lead_same : (p q : ℕ → Float) (n : ℕ) → ((a : ℕ) → a < n → p a ≡ q a) → lead p n ≡ lead q n
unfolding lead
lead_same p q zero e = refl
lead_same p q (suc n) e = rw (lead_same p q n (λ a l. e a (omega arith)), e n (omega arith)) refl

-- ---- past one more action
cond-action : (t : Bool) (u v : Lead) → (cond t u v).0 ≡ cond t u.0 v.0
cond-action true u v = refl
cond-action false u v = refl

cond_sum : (t : Bool) (u v : Lead) → (cond t u v).1 ≡ cond t u.1 v.1
cond_sum true u v = refl
cond_sum false u v = refl

module _ (q : ℕ → Float) (n a : ℕ) (s v : Float) (at-action : a ≡ (lead q n).0) (at_sum : s ≡ (lead q n).1) (is : v ≡ q n) where
  pub past_action : (b : ℕ) → b ≡ cond (lt s v) n a → b ≡ (lead q (suc n)).0
  unfolding lead
  past_action b e = e ∙ ap (λ x. cond (lt x v) n a) at_sum ∙ ap (λ x. cond (lt (lead q n).1 x) n a) is ∙ ap (cond (lt (lead q n).1 (q n)) n) at-action ∙ sym (cond-action (lt (lead q n).1 (q n)) (n, q n) (lead q n))

  pub past_sum : (r : Float) → r ≡ cond (lt s v) v s → r ≡ (lead q (suc n)).1
  unfolding lead
  past_sum r e = e ∙ ap (λ x. cond (lt x v) v x) at_sum ∙ ap (λ x. cond (lt (lead q n).1 x) x (lead q n).1) is ∙ sym (cond_sum (lt (lead q n).1 (q n)) (n, q n) (lead q n))
