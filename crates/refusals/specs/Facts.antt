-- When a call is accepted, which number refuses it (document 01, "What comes back when a call is refused"); proved in proofs/Facts.antt.
use Rattle.std.specs.Prelude.{◌≡◌, ◌↔◌, true, false, List, [], ◌∷◌, ◌++◌, ℕ, zero, suc, ◌<◌}
use Rattle.refusals.specs.Refusals.{accepted, Check, ◌refuses◌, first}

-- every number of the checks is above 0
abbrev pub Numbered : List Check → Type 0
Numbered [] = Unit {0}
Numbered ((b refuses zero) ∷ cs) = ⊥
Numbered ((b refuses suc k) ∷ cs) = Numbered cs

-- no test holds
unfoldable pub NoneHolds : List Check → Type 0
NoneHolds [] = Unit {0}
NoneHolds ((b refuses k) ∷ cs) = (b ≡ false) × NoneHolds cs

-- the first test that holds has the number k: none of those in front of it does
abbrev pub FirstHolds : ℕ → List Check → Type 0
FirstHolds k cs = (front : List Check) × (behind : List Check) × (cs ≡ front ++ ((true refuses k) ∷ behind)) × NoneHolds front

-- the answer r is 0 exactly if no test holds, and else the number of the first that does
pub record Decides (cs : List Check) (r : ℕ) : Type 0 where
  pub accepts : (r ≡ accepted) ↔ NoneHolds cs
  pub numbers : (k : ℕ) → 0 < k → (r ≡ k) ↔ FirstHolds k cs

-- where every number is above 0, first gives that answer
abbrev pub FirstDecides : Type 0
FirstDecides = (cs : List Check) → Numbered cs → Decides cs (first cs)
