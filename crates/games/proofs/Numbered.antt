-- What a game that a program holds is by its number and seats. Assumes nothing.
use mathlib.Core.Path.{◌≡◌, refl, ◌∙◌}
use mathlib.Core.Bool.{false}
use Prim.Native.Nat.{◌≤◌}
use native.Mathlib.Omega.{arith}
use borrow.Author.Tests.{le-ltb}
use Rattle.prelude.specs.Finite.{◌or◌}
use Rattle.prelude.proofs.Tests.{or_rest}
use Rattle.games.specs.declared.Game.{Game}
use Rattle.games.specs.declared.Game.TheVariants.{Kuhn, Leduc}
use Rattle.games.specs.internal.Numbered.{numbered}
use Rattle.games.specs.Seats.{seats-out}
use Rattle.games.specs.Facts.{nodes_of}
use Rattle.games.specs.Known.{Known}

-- numbers 1 and 2 let it through
pub has_number : (g : Game) → (numbered g).number ≤ 1
has_number (Kuhn seats) = omega arith
has_number Leduc = omega arith

pub has-seats : (g : Game) → seats-out (numbered g) ≡ false
unfolding ◌or◌
has-seats (Kuhn seats) = or_rest _ (le-ltb seats.count 2 seats.in_range.0) ∙ le-ltb 10 seats.count seats.in_range.1
has-seats Leduc = refl

-- and number 3, if its tree is small
pub known_if_small : (g : Game) → nodes_of (numbered g) ≤ 4000000 → Known (numbered g)
known_if_small g l = record { known = has_number g; seats = has-seats g; small = l }
