-- The rule for the first node of a set, and a key put together. Assumes nothing.
use mathlib.Core.Path.{◌≡◌, refl, ap, ap₂, ◌∙◌}
use mathlib.Core.Bool.{not}
use mathlib.Core.List.{List, [], ◌∷◌, ◌++◌, append_assoc}
use Prim.Native.Nat.{ℕ, zero, suc, ◌<◌}
use native.Mathlib.Omega.{arith}
use lib.ListN.{length, get_or}
use borrow.Author.Tests.{ne_eqb, lt-ltb}
use Rattle.std.specs.Prelude.{Option, None, Some, unwrap_or}
use Rattle.prelude.specs.Finite.{has}
use Rattle.prelude.specs.internal.Places.{at_place}
use Rattle.prelude.proofs.Tests.{both, neither}
use Rattle.game_tree.proofs.Counting.{In}
use Rattle.game_tree.proofs.Numbers.{those_in}
use Rattle.leduc_betting.specs.Betting.{turn}
use Rattle.leduc_betting.specs.Cards.{seen, left, remaining}
use Rattle.leduc_rules.specs.Rules.{shown-public}
use Rattle.leduc_rules.specs.Rules as Rules

-- of six cards one is neither of two
free_of_two : (a b : ℕ) → (c : ℕ) × (c < 3) × (a ≡ c → ⊥) × (b ≡ c → ⊥)
free_of_two zero zero = (1, omega arith, (λ e. omega arith), λ e. omega arith)
free_of_two zero (suc zero) = (2, omega arith, (λ e. omega arith), λ e. omega arith)
free_of_two zero (suc (suc b)) = (1, omega arith, (λ e. omega arith), λ e. omega arith)
free_of_two (suc zero) zero = (2, omega arith, (λ e. omega arith), λ e. omega arith)
free_of_two (suc zero) (suc b) = (0, omega arith, (λ e. omega arith), λ e. omega arith)
free_of_two (suc (suc a)) zero = (1, omega arith, (λ e. omega arith), λ e. omega arith)
free_of_two (suc (suc a)) (suc b) = (0, omega arith, (λ e. omega arith), λ e. omega arith)

some_in : (c : ℕ) (l : List ℕ) → In c l → 0 < length l
unfolding In
some_in c [] w = absurd w
some_in c (x ∷ l) w = omega arith

some_left : (x : ℕ) (p : Option ℕ) → 0 < length (remaining (seen (x ∷ []) p))
unfolding remaining left has
some_left x None = let (c, l, f, g) = free_of_two x x in
    some_in c _ (those_in (left (x ∷ [])) 6 c (omega arith) (both (lt-ltb c 6 (omega arith)) (ap not (neither (ne_eqb x c f) refl))))
some_left x (Some y) = let (c, l, f, g) = free_of_two x y in
    some_in c _ (those_in (left (x ∷ y ∷ [])) 6 c (omega arith) (both (lt-ltb c 6 (omega arith)) (ap not (neither (ne_eqb x c f) (neither (ne_eqb y c g) refl)))))

first_place : (l : List ℕ) → 0 < length l → at_place l 0 ≡ Some (get_or l 0 0)
first_place [] p = absurd (omega arith)
first_place (x ∷ l) p = refl

-- the lowest card that is neither one card nor the public one
pub lowest_left : (known : List ℕ) (x : ℕ) (p : Option ℕ) (lowest : Option ℕ) → lowest ≡ at_place (remaining known) 0 → known ≡ seen (x ∷ []) p
    → lowest ≡ Some (get_or (remaining (seen (x ∷ []) p)) 0 0)
lowest_left known x p lowest e f = e ∙ ap (λ k. at_place (remaining k) 0) f ∙ first_place (remaining (seen (x ∷ []) p)) (some_left x p)

pub some_same : (x y : ℕ) → Some x ≡ Some y → x ≡ y
some_same x y e = ap (λ o. unwrap_or o 0) e

-- ---- a key, part by part
pub key_put : (k₀ k₁ k₂ k₃ k₄ k₅ k₆ k₇ h₁ h₂ : List ℕ) (s c p n₁ n₂ : ℕ) → k₀ ≡ [] → k₁ ≡ k₀ ++ (s ∷ []) → k₂ ≡ k₁ ++ (c ∷ []) → k₃ ≡ k₂ ++ (p ∷ []) → k₄ ≡ k₃ ++ (n₁ ∷ [])
    → k₅ ≡ k₄ ++ h₁ → k₆ ≡ k₅ ++ (n₂ ∷ []) → k₇ ≡ k₆ ++ h₂ → k₇ ≡ s ∷ c ∷ p ∷ n₁ ∷ h₁ ++ (n₂ ∷ h₂)
key_put k₀ k₁ k₂ k₃ k₄ k₅ k₆ k₇ h₁ h₂ s c p n₁ n₂ a b d e f g i j = rw (j, i, g, f, e, d, b, a) (append_assoc (s ∷ c ∷ p ∷ n₁ ∷ h₁) (n₂ ∷ []) h₂)

pub shown_is : (p : Option ℕ) → unwrap_or p 255 ≡ shown-public p
shown_is None = refl
shown_is (Some c) = refl

pub key_told : (cs h₁ h₂ key : List ℕ) (public : Option ℕ) (s c p n₁ n₂ : ℕ) → key ≡ s ∷ c ∷ p ∷ n₁ ∷ h₁ ++ (n₂ ∷ h₂) → s ≡ turn h₁ h₂ → c ≡ get_or cs (turn h₁ h₂) 0 → p ≡ unwrap_or public 255
    → n₁ ≡ length h₁ → n₂ ≡ length h₂ → key ≡ Rules.key cs public h₁ h₂ (turn h₁ h₂)
unfolding Rules.key
key_told cs h₁ h₂ key public s c p n₁ n₂ e f g i j k = e ∙ ap₂ (λ x y. x ∷ y ∷ p ∷ n₁ ∷ h₁ ++ (n₂ ∷ h₂)) f g
    ∙ ap (λ x. turn h₁ h₂ ∷ get_or cs (turn h₁ h₂) 0 ∷ x ∷ n₁ ∷ h₁ ++ (n₂ ∷ h₂)) (i ∙ shown_is public)
    ∙ ap₂ (λ x y. turn h₁ h₂ ∷ get_or cs (turn h₁ h₂) 0 ∷ shown-public public ∷ x ∷ h₁ ++ (y ∷ h₂)) j k
