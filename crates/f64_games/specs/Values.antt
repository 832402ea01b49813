-- The f64 values of a profile by game number (document 01, "The f64 values"). Definitions only; nothing is assumed.
use Rattle.std.specs.Prelude.{cond, List, ℕ, zero, suc, ltb, pos, Float}
use Rattle.std.specs.Float.{binary64}
use Rattle.std.specs.Float.Ieee.{of_int, sub, div}
use Rattle.prelude.specs.Finite.{places}
use Rattle.game_tree_f64.specs.Values.{profile_of, nought, plus, best_value, worth}
use Rattle.games.specs.Games.{Game, tree_of}

-- the best response value of seat i to a profile, and what the profile is worth to it
unfoldable pub best_of : Game → List Float → ℕ → Float
unfolding best_value profile_of
best_of g P i = best_value (profile_of (tree_of g) P) i (tree_of g)

unfoldable pub worth_of : Game → List Float → ℕ → Float
unfolding worth profile_of
worth_of g P i = worth (profile_of (tree_of g) P) i (tree_of g)

-- the same of each seat, in six places: 0.0 past the seats
abbrev pub by_seat : Game → (ℕ → Float) → List Float
by_seat g f = places 6 (λ i. cond (ltb i g.seats) (f i) nought)

unfoldable pub bests_of : Game → List Float → List Float
unfolding places best_of
bests_of g P = by_seat g (best_of g P)

unfoldable pub worths_of : Game → List Float → List Float
unfolding places worth_of
worths_of g P = by_seat g (worth_of g P)

-- best value − worth, added up over the first n seats, from 0.0
unfoldable pub gaps : Game → List Float → ℕ → Float
unfolding best_of worth_of
gaps g P zero = nought
gaps g P (suc n) = plus (gaps g P n) (sub binary64 (best_of g P n) (worth_of g P n))

-- NashConv: over all seats
abbrev pub nash_conv_of : Game → List Float → Float
nash_conv_of g P = gaps g P g.seats

-- exploitability: NashConv divided by the seats
abbrev pub exploitability_of : Game → List Float → Float
exploitability_of g P = div binary64 (nash_conv_of g P) (of_int binary64 (pos g.seats))
