-- What the five calls answer, from their refusal number and their values.
use Rattle.std.specs.Prelude.{List, ◌∷◌, ℕ, zero, suc, Float, replicate, Result}
use Rattle.std.specs.Result.{result_unwrap_or}
use Rattle.game_tree_f64.specs.Values.{nought}
use Rattle.refusals.specs.declared.Refusal.{Refusal}
use Rattle.refusals.specs.Outcomes.{number_of}
use Rattle.best_response.specs.declared.Values.{Values}
use Rattle.best_response.specs.declared.ValuesAnswer.{ValuesAnswer}

-- one value in place 0, and 0.0 in the others
abbrev pub single : Float → List Float
single x = x ∷ replicate 5 nought

-- the answer: so many values; every number but the refusal is 0, if the call was refused
abbrev pub answer : ℕ → (count : ℕ) → (values : List Float) → ValuesAnswer
answer zero count values = record { refusal = 0; count = count; values = values }
answer (suc r) count values = record { refusal = suc r; count = 0; values = replicate 6 nought }

-- the answer for C to a result
abbrev pub answer_of : Result Values Refusal → ValuesAnswer
answer_of r = let v = result_unwrap_or r (record { count = 0; values = replicate 6 nought }) in
    record { refusal = number_of r; count = v.count; values = v.values }
