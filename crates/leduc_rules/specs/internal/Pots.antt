-- What both seats have paid as the code's loop counts it, turn by turn. Definitions only; nothing is assumed.
use Rattle.std.specs.Prelude.{◌≡◌, ◌⊎◌, true, cond, List, [], ◌∷◌, ℕ, ◌+◌, ◌%◌, eqb, length}
use Rattle.leduc_betting.specs.Betting.{CALL, RAISE, closes}
use Rattle.leduc_rules.specs.declared.Pot.{Pot}

-- what the seat to act has paid after an action
unfoldable pub matched : (size : ℕ) → Pot → ℕ → ℕ
matched size q a = cond (eqb a CALL) q.other (cond (eqb a RAISE) (q.other + size) q.acting)

-- what both have paid after the actions of a round; at each the turn passes to the other seat
unfoldable pub bet : (size : ℕ) → Pot → List ℕ → Pot
bet size q [] = q
bet size q (a ∷ h) = bet size (record { acting = q.other; other = matched size q a }) h

-- seat 0 begins the round, so after an odd number of actions it is the other
unfoldable pub seated : ℕ → Pot → Pot
seated n q = cond (eqb (n % 2) 0) q (record { acting = q.other; other = q.acting })

-- what both have paid after a round, seat 0 first
unfoldable pub after-round : (size : ℕ) → Pot → List ℕ → Pot
after-round size q h = seated (length h) (bet size q h)

abbrev pub pot_of : ℕ → ℕ → Pot
pot_of a o = record { acting = a; other = o }

-- what both have paid in a hand, seat 0 first
abbrev pub pot : (ante raise₁ raise₂ : ℕ) → List ℕ → List ℕ → Pot
pot ante raise₁ raise₂ h₁ h₂ = after-round raise₂ (after-round raise₁ (pot_of ante ante) h₁) h₂

-- round 2 begins with both seats level, or has not begun
abbrev pub BeginsLevel : List ℕ → List ℕ → Type 0
BeginsLevel h₁ h₂ = (closes h₁ ≡ true) ⊎ (h₂ ≡ [])
