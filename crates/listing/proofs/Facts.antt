-- The statements of specs/Facts.antt, each by its proof. Assumes nothing.
use mathlib.Core.Path.{refl}
use native.Mathlib.Omega.{arith}
use Rattle.listing.specs.Calls.{game_of}
use Rattle.listing.specs.Facts.{ByNumber, Long}
use Rattle.listing.proofs.Games.{kuhn-listed, leduc-listed, listing-length}

pub by_number : ByNumber
by_number = record { kuhn = λ seats. kuhn-listed (game_of 0 seats) refl; leduc = leduc-listed (game_of 1 2) (λ e. omega arith) }

pub long : Long
long g = listing-length g
