-- Laws of the cards. Assumes nothing.
use mathlib.Core.Path.{◌≡◌, refl}
use mathlib.Core.Bool.{not}
use mathlib.Core.List.{List}
use Prim.Native.Nat.{ℕ}
use Rattle.prelude.specs.Finite.{◌and◌, those, has}
use Rattle.leduc_betting.specs.Cards.{left, remaining}

-- a card of the deck is left if it is not dealt
pub deck_left : (cs : List ℕ) → those 6 (λ c. not (has c cs)) ≡ remaining cs
unfolding those left remaining ◌and◌
deck_left cs = refl
