-- The positions that can be reached from the start by legal moves (number 19), by moves, and that the test decides them.
use Rattle.std.specs.Prelude.{◌≡◌, true, false, List, [], ◌∷◌, ◌++◌, ℕ, ltb, length, Option, None, Some}
use Rattle.leduc_betting.specs.Betting.{may, closes}
use Rattle.leduc_betting.specs.Cards.{seen, left}
use Rattle.leduc_rules.specs.Rules.{public-due, live}
use Rattle.leduc_rules.specs.Reached.{possible}

-- the start; a card for a seat that has none; the public card, when it is due;
-- a legal action of round 1, and of round 2 once round 1 has closed
pub data Reached : List ℕ → Option ℕ → List ℕ → List ℕ → Type 0 where
  start : Reached [] None [] []
  deal : {cs h₁ h₂ : List ℕ} {p : Option ℕ} (c : ℕ) → Reached cs p h₁ h₂ → ltb (length cs) 2 ≡ true → left (seen cs p) c ≡ true
      → Reached (cs ++ (c ∷ [])) p h₁ h₂
  reveal : {cs h₁ h₂ : List ℕ} {p : Option ℕ} (c : ℕ) → Reached cs p h₁ h₂ → public-due p h₁ h₂ ≡ true → left (seen cs p) c ≡ true
      → Reached cs (Some c) h₁ h₂
  act₁ : {cs h₁ h₂ : List ℕ} {p : Option ℕ} (a : ℕ) → Reached cs p h₁ h₂ → live cs p h₁ h₂ ≡ true → closes h₁ ≡ false → may h₁ a ≡ true
      → Reached cs p (h₁ ++ (a ∷ [])) h₂
  act₂ : {cs h₁ h₂ : List ℕ} {p : Option ℕ} (a : ℕ) → Reached cs p h₁ h₂ → live cs p h₁ h₂ ≡ true → closes h₁ ≡ true → may h₂ a ≡ true
      → Reached cs p h₁ (h₂ ++ (a ∷ []))

-- the test holds of the reachable positions and of no other
pub record DecidesReached : Type 0 where
  pub sound : (cs : List ℕ) (p : Option ℕ) (h₁ h₂ : List ℕ) → possible cs p h₁ h₂ ≡ true → Reached cs p h₁ h₂
  pub complete : (cs : List ℕ) (p : Option ℕ) (h₁ h₂ : List ℕ) → Reached cs p h₁ h₂ → possible cs p h₁ h₂ ≡ true
