-- Tests with what they say: of keys, of seats. Nothing is assumed.
use mathlib.Core.Path.{◌≡◌, refl, ap₂}
use mathlib.Core.Bool.{Bool, true, false, cond}
use mathlib.Core.List.{[], ◌∷◌}
use Prim.Native.Nat.{ℕ}
use lib.Dec.{T, eqb, eqb→eq, eqb_refl}
use Rattle.game_tree.specs.Tree.{Key}
use Rattle.game_tree.specs.Reply.{same}

-- a test, with its answer
pub data Tested (b : Bool) : Type 0 where
  is : b ≡ true → Tested b
  isn't : b ≡ false → Tested b

pub tested : (b : Bool) → Tested b
tested true = is refl
tested false = isn't refl

pub T_of : {b : Bool} → b ≡ true → T b
T_of e = rw e tt

pub true_of : (b : Bool) → T b → b ≡ true
true_of true t = refl
true_of false t = absurd t

both_left : (a b : Bool) → T (cond a b false) → T a
both_left true b t = tt
both_left false b t = t

both_right : (a b : Bool) → T (cond a b false) → T b
both_right true b t = t
both_right false b t = absurd t

both_of : (a b : Bool) → T a → T b → T (cond a b false)
both_of true b t u = u
both_of false b t u = t

pub same→eq : (j k : Key) → T (same j k) → j ≡ k
unfolding same
same→eq [] [] t = refl
same→eq [] (b ∷ k) t = absurd t
same→eq (a ∷ j) [] t = absurd t
same→eq (a ∷ j) (b ∷ k) t = ap₂ ◌∷◌ (eqb→eq a b (both_left (eqb a b) (same j k) t)) (same→eq j k (both_right (eqb a b) (same j k) t))

same_refl : (k : Key) → T (same k k)
unfolding same
same_refl [] = tt
same_refl (a ∷ k) = both_of (eqb a a) (same k k) (eqb_refl a) (same_refl k)

pub same_self : (k : Key) → same k k ≡ true
same_self k = true_of (same k k) (same_refl k)

pub eqb_self : (a : ℕ) → eqb a a ≡ true
eqb_self a = true_of (eqb a a) (eqb_refl a)

pub eqb_is : (a b : ℕ) → eqb a b ≡ true → a ≡ b
eqb_is a b e = eqb→eq a b (T_of e)

pub eqb_isn't : (a b : ℕ) → eqb a b ≡ false → a ≡ b → ⊥
eqb_isn't a b e p = let t : T (eqb a b) = rw p (eqb_refl b) in let z : T false = rw e at t in z

pub eqb_no : (a b : ℕ) → (a ≡ b → ⊥) → eqb a b ≡ false
eqb_no a b n = at (eqb a b) (λ t. n (eqb→eq a b t))
  where
    at : (b : Bool) → (T b → ⊥) → b ≡ false
    at true f = absurd (f tt)
    at false f = refl
