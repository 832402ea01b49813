-- What the call for the worths answers (document 01, "Whole units":
-- "The answer with the worths holds six whole numbers, 0 past the seats").
use Rattle.std.specs.Prelude.{Result, ℕ, zero, suc, pos, replicate}
use Rattle.game_tree.specs.Table.{Table}
use Rattle.games.specs.Games.{Game}
use Rattle.units_worths.specs.Worths.{worths_of}
use Rattle.std.specs.Result.{result_unwrap_or}
use Rattle.refusals.specs.declared.Refusal.{Refusal}
use Rattle.refusals.specs.Outcomes.{number_of}
use Rattle.worths.specs.declared.SeatWorths.{SeatWorths}
use Rattle.worths.specs.declared.WorthsAnswer.{WorthsAnswer}

-- the answer: how many seats there are, and what the table is worth to each of them, 0 past them;
-- every number but the refusal is 0, if the call was refused
abbrev pub answer : ℕ → Game → (D : ℕ) → Table → WorthsAnswer
answer zero g D table = record { refusal = 0; count = g.seats; worths = worths_of g D table }
answer (suc r) g D table = record { refusal = suc r; count = 0; worths = replicate 6 (pos 0) }

-- the answer for C to a result
abbrev pub answer_of : Result SeatWorths Refusal → WorthsAnswer
answer_of r = let w = result_unwrap_or r (record { count = 0; worths = replicate 6 (pos 0) }) in
    record { refusal = number_of r; count = w.count; worths = w.worths }
