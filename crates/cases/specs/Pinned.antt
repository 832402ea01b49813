-- Values that the worked cases leave open, computed from the definitions: payoffs of each round's raise, ranks, a refusal for each
-- number, moves, bits. Proved in proofs/Pinned.antt.
use Rattle.std.specs.Prelude.{◌≡◌, List, [], ◌∷◌, ◌++◌, ℕ, ◌*◌, ◌≤◌, Float, take, replicate, None, Some}
use Rattle.std.specs.Float.{binary64}
use Rattle.std.specs.Float.Ieee.{of_bits, to_bits}
use Rattle.kuhn_rules.specs.Rules.{PASS, BET}
use Rattle.kuhn.specs.Calls as Kuhn
use Rattle.leduc_betting.specs.Betting.{FOLD, CALL, RAISE}
use Rattle.leduc.specs.Calls as Leduc
use Rattle.refusals.specs.Refusals.{first}
use Rattle.game_tree.specs.Sets.{size}
use Rattle.games.specs.Games.{game_of, tree_of, most_parts}
use Rattle.trees_played.specs.Kuhn as Kuhn-played
use Rattle.trees_played.specs.Leduc as Leduc-played
use Rattle.f64_games.specs.Values.{nash_conv_of, exploitability_of}
use Rattle.tree_refusals.specs.Checks.{tree_checks, evaluation_refusal, reply-refusal}
use Rattle.cases.specs.Cases.{Case, case, refusal, plus, minus, kuhn2, kuhn_at, leduc_at, leduc-payoffs, paid_in}
use Rattle.cases.specs.Cases.{kuhn2_tables, room, passes, table-refusal, refused}

-- ---- Leduc's money and ranks

-- rounds without a raise, and with one
abbrev pub called : List ℕ
called = CALL ∷ CALL ∷ []

abbrev pub raised : List ℕ
raised = RAISE ∷ CALL ∷ []

abbrev pub payments : List Case
payments =
    case "RAISE CALL in round 1 alone" (paid_in raised called ++ leduc-payoffs (leduc_at (0 ∷ 5 ∷ []) (Some 2) raised called))
    (plus 3 ∷ plus 3 ∷ minus 3 ∷ plus 3 ∷ [])
    ∷ case "RAISE CALL in round 2 alone" (paid_in called raised ++ leduc-payoffs (leduc_at (0 ∷ 5 ∷ []) (Some 2) called raised))
    (plus 5 ∷ plus 5 ∷ minus 5 ∷ plus 5 ∷ [])
    ∷ case "RAISE FOLD in round 2" (leduc-payoffs (leduc_at (0 ∷ 5 ∷ []) (Some 2) called (RAISE ∷ FOLD ∷ []))) (plus 1 ∷ minus 1 ∷ [])
    ∷ case "2 and 4, no pair" (leduc-payoffs (leduc_at (2 ∷ 4 ∷ []) (Some 0) called called)) (minus 1 ∷ plus 1 ∷ [])
    ∷ case "2 and 4, 3 public" (leduc-payoffs (leduc_at (2 ∷ 4 ∷ []) (Some 3) called called)) (plus 1 ∷ minus 1 ∷ [])
    ∷ []

-- ---- a refusal for each number; 1 and 3 come whatever the table

abbrev pub refusals : List Case
refusals =
    case "2" (refusal (Kuhn.start_refusal (record { players = 11 }))) (refusal 2)
    ∷ case "4" (refusal (evaluation_refusal kuhn2_tables 695 1 passes)) (refusal 4)
    ∷ case "5" (refusal (refused 2 1 passes)) (refusal 5)
    ∷ case "6" (refusal (table-refusal 65 passes)) (refusal 6)
    ∷ case "7" (refusal (table-refusal 1 (take 23 passes))) (refusal 7)
    ∷ case "8" (refusal (table-refusal 2 passes)) (refusal 8)
    ∷ case "9" (refusal (reply-refusal kuhn2_tables room 0 1 passes 23)) (refusal 9)
    ∷ case "10" (refusal (Kuhn.saved_refusal kuhn2 (kuhn_at (0 ∷ []) []) 0)) (refusal 10)
    ∷ case "11" (refusal (Kuhn.saved_refusal kuhn2 (kuhn_at (0 ∷ 3 ∷ []) []) 0)) (refusal 11)
    ∷ case "12" (refusal (Leduc.saved_refusal (leduc_at (4 ∷ 4 ∷ []) None [] []) 0)) (refusal 12)
    ∷ case "13" (refusal (Leduc.saved_refusal (leduc_at (0 ∷ 5 ∷ []) None (3 ∷ []) []) 0)) (refusal 13)
    ∷ case "14" (refusal (Leduc.saved_refusal (leduc_at (0 ∷ 5 ∷ []) (Some 1) (CALL ∷ []) (CALL ∷ [])) 0)) (refusal 14)
    ∷ case "15" (refusal (Leduc.saved_refusal (leduc_at (0 ∷ 5 ∷ []) None (FOLD ∷ []) []) 1)) (refusal 15)
    ∷ case "16" (refusal (Leduc.saved_refusal (leduc_at (0 ∷ 5 ∷ []) None (CALL ∷ CALL ∷ []) []) 0)) (refusal 16)
    ∷ case "17" (refusal (Leduc.saved_refusal (leduc_at (0 ∷ 5 ∷ []) (Some 1) (CALL ∷ []) []) 0)) (refusal 17)
    ∷ case "18" (refusal (Kuhn.saved_refusal kuhn2 (kuhn_at (0 ∷ 1 ∷ []) (PASS ∷ PASS ∷ [])) 0)) (refusal 18)
    ∷ case "19" (refusal (Kuhn.payoff_refusal kuhn2 (kuhn_at (0 ∷ 1 ∷ []) (PASS ∷ PASS ∷ BET ∷ [])))) (refusal 19)
    ∷ case "20" (refusal (Leduc.payoff-refusal (leduc_at (0 ∷ 5 ∷ []) None (CALL ∷ []) []))) (refusal 20)
    ∷ []

-- 1: a game with the number 2
abbrev pub GameTwo : Type 0
GameTwo = (memory D : ℕ) (table : List ℕ) → evaluation_refusal (game_of 2 2) memory D table ≡ 1

-- 3: Kuhn with seven seats
abbrev pub SevenSeats : Type 0
SevenSeats = (memory D : ℕ) (table : List ℕ) → evaluation_refusal (game_of 0 7) memory D table ≡ 3

-- of the games that document 01 evaluates, Kuhn with 2 to 6 seats and Leduc, none is refused for its tree
abbrev pub SmallEnough : Type 0
SmallEnough = ((n memory : ℕ) → 2 ≤ n → n ≤ 6 → 12 * size (tree_of (game_of 0 n)) ≤ memory → first (tree_checks (game_of 0 n) memory) ≡ 0)
    × ((memory : ℕ) → 12 * size (tree_of (game_of 1 2)) ≤ memory → first (tree_checks (game_of 1 2) memory) ≡ 0)

-- 6: the most parts of each
abbrev pub MostParts : Type 0
MostParts = (most_parts (game_of 0 2) ≡ 64) × (most_parts (game_of 0 3) ≡ 64) × (most_parts (game_of 0 4) ≡ 64)
    × (most_parts (game_of 0 5) ≡ 16) × (most_parts (game_of 0 6) ≡ 16) × (most_parts (game_of 1 2) ≡ 64)

-- ---- the trees that are evaluated are those that the calls on positions play

abbrev pub TreesEvaluated : Type 0
TreesEvaluated = ((n : ℕ) → tree_of (game_of 0 n) ≡ Kuhn-played.tree (record { players = n })) × (tree_of (game_of 1 2) ≡ Leduc-played.tree)

-- ---- moves

-- Kuhn: of the cards 0 and 1 outcome 1 is card 1; an action of 7 counts as BET
abbrev pub KuhnMoves : Type 0
KuhnMoves = (Kuhn.dealt kuhn2 (kuhn_at (2 ∷ []) []) 1 ≡ record { refusal = 0; state = kuhn_at (2 ∷ 1 ∷ []) [] })
    × (Kuhn.stepped kuhn2 (kuhn_at (2 ∷ 1 ∷ []) (PASS ∷ [])) 7 ≡ record { refusal = 0; state = kuhn_at (2 ∷ 1 ∷ []) (PASS ∷ BET ∷ []) })

-- Leduc: of the cards 1 to 4 outcome 2 is card 3; RAISE opens round 2; FOLD, by a seat that is not behind, becomes CALL
abbrev pub LeducMoves : Type 0
LeducMoves = (Leduc.dealt (leduc_at (0 ∷ 5 ∷ []) None called []) 2
    ≡ record { refusal = 0; state = leduc_at (0 ∷ 5 ∷ []) (Some 3) called [] })
    × (Leduc.stepped (leduc_at (0 ∷ 5 ∷ []) (Some 3) called []) RAISE
    ≡ record { refusal = 0; state = leduc_at (0 ∷ 5 ∷ []) (Some 3) called (RAISE ∷ []) })
    × (Leduc.stepped (leduc_at (0 ∷ 5 ∷ []) None [] []) FOLD
    ≡ record { refusal = 0; state = leduc_at (0 ∷ 5 ∷ []) None (CALL ∷ []) [] })

-- ---- bits: Kuhn 2, every entry 0.5

abbrev pub halves : List Float
halves = replicate 24 (of_bits binary64 4602678819172646912)

-- NashConv is 0.9166666666666666, exploitability 0.4583333333333333
abbrev pub UniformBits : Type 0
UniformBits = (to_bits binary64 (nash_conv_of kuhn2_tables halves) ≡ 4606431818862122325)
    × (to_bits binary64 (exploitability_of kuhn2_tables halves) ≡ 4601928219234751829)
