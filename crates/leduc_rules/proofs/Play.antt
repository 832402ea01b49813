-- When the public card is due, for the tactics that the functions name. Assumes nothing.
use mathlib.Core.Path.{◌≡◌, refl}
use mathlib.Core.Bool.{not}
use mathlib.Core.List.{List}
use Prim.Native.Nat.{ℕ}
use Rattle.std.specs.Prelude.{Option}
use Rattle.prelude.specs.Finite.{◌and◌}
use Rattle.leduc_betting.specs.Betting.{closes, ended}
use Rattle.leduc_betting.specs.Cards.{hidden}
use Rattle.leduc_rules.specs.Rules.{public-due}

pub public_is_due : (p : Option ℕ) (h₁ h₂ : List ℕ) → public-due p h₁ h₂ ≡ (hidden p and (closes h₁ and not (ended h₁ h₂)))
unfolding public-due
public_is_due p h₁ h₂ = refl
