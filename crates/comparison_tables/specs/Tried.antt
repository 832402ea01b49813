-- The comparison tried on tables: what the call for NashConv answers of some, and how these quotients compare. Proved in proofs/Tried.antt
-- by computing.
use Rattle.std.specs.Prelude.{◌≡◌, List, [], ◌∷◌, map, ℕ}
use Rattle.comparison.specs.Order.{compared_quotients}
use Rattle.std.specs.declared.cmp.Ordering.{Ordering}
use Rattle.std.specs.declared.cmp.Ordering.TheVariants.{Less, Equal, Greater}
use Rattle.game_tree.specs.Table.{Table}
use Rattle.games.specs.Games.{Game, game_of}
use Rattle.tree_refusals.specs.Checks.{evaluation_refusal}
use Rattle.nash_conv_units.specs.Calls.{answer}
use Rattle.nash_conv_units.specs.declared.NashConvAnswer.{NashConvAnswer}

-- Kuhn with 2 seats
abbrev pub kuhn2 : Game
kuhn2 = game_of 0 2

-- p parts on PASS and b on BET in each of its 12 sets: document 01's table of case k, if they are 1 and 0
abbrev pub alike : (p b : ℕ) → Table
alike p b = p ∷ b ∷ p ∷ b ∷ p ∷ b ∷ p ∷ b ∷ p ∷ b ∷ p ∷ b ∷ p ∷ b ∷ p ∷ b ∷ p ∷ b ∷ p ∷ b ∷ p ∷ b ∷ p ∷ b ∷ []

-- what the call answers, with 12 words for each of 58 nodes
abbrev pub answered : (D p b : ℕ) → NashConvAnswer
answered D p b = answer (evaluation_refusal kuhn2 696 D (alike p b)) kuhn2 D (alike p b)

-- accepted, with NashConv and the units
abbrev pub says : (conv units : ℕ) → NashConvAnswer
says conv units = record { refusal = 0; nash_conv = conv; units = units }

-- always PASS with D 1 and D 2, and 2 parts of 3 on PASS
abbrev pub Answered : Type 0
Answered = (answered 1 1 0 ≡ says 12 6) × (answered 2 2 0 ≡ says 96 48) × (answered 3 2 1 ≡ says 198 162)

-- two quotients, and how the first stands to the second
pub data Try : Type 0 where
  try : (a u b v : ℕ) → Ordering → Try

abbrev pub given : Try → Ordering
given (try a u b v c) = compared_quotients a u b v

abbrev pub said : Try → Ordering
said (try a u b v c) = c

-- Always PASS in Kuhn 2 has the same quotient with D 1 and D 2, and as Leduc's first actions have with D 1; of Leduc further 956821248 of
-- 201553920 units is D 6 with even parts, 74975788562120704 of 33776997205278720 is D 64 with 1 part on each action but the first, and the
-- last two are first actions with D 7 and D 15.
abbrev pub tries : List Try
tries =
    try 12 6 96 48 Equal
    ∷ try 12 6 240 120 Equal
    ∷ try 12 6 198 162 Greater
    ∷ try 198 162 12 6 Less
    ∷ try 12 6 956821248 201553920 Less
    ∷ try 956821248 201553920 74975788562120704 33776997205278720 Greater
    ∷ try 1383552240 691776120 615093750000 307546875000 Equal
    ∷ []

abbrev pub Compared : Type 0
Compared = map given tries ≡ map said tries
