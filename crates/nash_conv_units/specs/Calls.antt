-- What the call for NashConv answers (document 01, "Whole units": "NashConv (sum of best − worth, in units)"), and when it is 0
-- (document 02, Eight).
use Rattle.std.specs.Prelude.{Result, ◌≡◌, ◌↔◌, ℕ, zero, suc, ℤ, pos, nat_abs}
use Rattle.game_tree.specs.Table.{Table, nash_conv_over, Equilibrium}
use Rattle.games.specs.Games.{Game, tree_of, m, root_units}
use Rattle.std.specs.Result.{result_unwrap_or}
use Rattle.refusals.specs.declared.Refusal.{Refusal}
use Rattle.refusals.specs.Outcomes.{number_of}
use Rattle.nash_conv_units.specs.declared.NashConv.{NashConv}
use Rattle.nash_conv_units.specs.declared.NashConvAnswer.{NashConvAnswer}

-- NashConv of a table with D parts in each set: the sum of best − worth over the game's seats, from C × D^m units at the root
abbrev pub nash_conv_of : Game → (D : ℕ) → Table → ℤ
nash_conv_of g D table = nash_conv_over (tree_of g) D (root_units g D) table g.seats

-- the answer: NashConv, and the units of the root; every number but the refusal is 0, if the call was refused
abbrev pub answer : ℕ → Game → (D : ℕ) → Table → NashConvAnswer
answer zero g D table = record { refusal = 0; nash_conv = nat_abs (nash_conv_of g D table); units = root_units g D }
answer (suc r) g D table = record { refusal = suc r; nash_conv = 0; units = 0 }

-- the answer for C to a result
abbrev pub answer_of : Result NashConv Refusal → NashConvAnswer
answer_of r = let n = result_unwrap_or r (record { nash_conv = 0; units = 0 }) in
    record { refusal = number_of r; nash_conv = n.nash_conv; units = n.units }

-- if the call was accepted, NashConv is the number answered, so it is never below 0
abbrev pub Whole : NashConvAnswer → Game → (D : ℕ) → Table → Type 0
Whole r g D table = r.refusal ≡ 0 → pos r.nash_conv ≡ nash_conv_of g D table

-- if the call was accepted, the number answered is 0 exactly if no seat has a rival of any grain worth more than its entries
abbrev pub ZeroAtEquilibrium : NashConvAnswer → Game → (D : ℕ) → Table → Type 0
ZeroAtEquilibrium r g D table = r.refusal ≡ 0
    → (r.nash_conv ≡ 0) ↔ Equilibrium (tree_of g) (m g) D (root_units g D) table g.seats
