-- The Rust adds NashConv up from −0.0, document 01 from 0.0: the same number. Proved in proofs/Signs.antt, which assumes nothing.
use Rattle.std.specs.Prelude.{◌≡◌, List, Float}
use Rattle.std.specs.Float.{binary64}
use Rattle.std.specs.Float.Ieee.{sub}
use Rattle.prelude.specs.Finite.{places}
use Rattle.game_tree_f64.specs.Signs.{minus_nought, sum_from}
use Rattle.games.specs.Games.{Game}
use Rattle.games.specs.Known.{Known}
use Rattle.f64_games.specs.Values.{best_of, worth_of, nash_conv_of}

-- best value − worth, seat after seat
abbrev pub differences : Game → List Float → List Float
differences g P = places g.seats (λ i. sub binary64 (best_of g P i) (worth_of g P i))

-- of every game that numbers 1 to 3 let through, and any profile
abbrev pub FromMinusNought : Type 0
FromMinusNought = (g : Game) (P : List Float) → Known g → sum_from minus_nought (differences g P) ≡ nash_conv_of g P
