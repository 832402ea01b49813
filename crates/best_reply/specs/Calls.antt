-- What the call for a seat's best value and reply answers (document 01, "Whole units"), demand 3 of it, and request Eight (document 02).
use Rattle.std.specs.Prelude.{Result, List, ◌++◌, ℕ, zero, suc, ℤ, pos, take, drop}
use Rattle.game_tree.specs.Sets.{entries}
use Rattle.game_tree.specs.Table.{Table, table_best, reply_table, BestReply}
use Rattle.games.specs.Games.{Game, tree_of, m, root_units}
use Rattle.std.specs.Result.{result_unwrap_or}
use Rattle.refusals.specs.declared.Refusal.{Refusal}
use Rattle.refusals.specs.Outcomes.{number_of}
use Rattle.best_reply.specs.declared.ReplyAnswer.{ReplyAnswer}

-- the answer: the best value of the seat, 0 if the call was refused
abbrev pub answer : ℕ → Game → (seat D : ℕ) → Table → ReplyAnswer
answer zero g seat D table = record { refusal = 0; value = table_best (tree_of g) D (root_units g D) table seat }
answer (suc r) g seat D table = record { refusal = suc r; value = pos 0 }

-- the answer for C to a result
abbrev pub answer_of : Result ℤ Refusal → ReplyAnswer
answer_of r = record { refusal = number_of r; value = result_unwrap_or r (pos 0) }

-- what the output holds then: the reply at its front and what it held beyond; all it held, if the call was refused
abbrev pub written : ℕ → Game → (seat D : ℕ) → Table → List ℕ → List ℕ
written zero g seat D table out = reply_table (tree_of g) D (root_units g D) table seat ++ drop (entries (tree_of g)) out
written (suc r) g seat D table out = out

-- of an accepted call: what stands at the front of the output is a valid table with every other seat's entries as given, it is worth
-- the value to the seat, and no such table is worth more, nor is a rival of any grain: with E parts in the seat's sets, for every E from 1,
-- and D in the others', its worth is at most E^m × the value
abbrev pub Demand : ℕ → Game → (seat D : ℕ) → Table → (value : ℤ) (out : List ℕ) → Type 0
Demand zero g seat D table value out =
    BestReply (tree_of g) (m g) D (root_units g D) seat table value (take (entries (tree_of g)) out)
Demand (suc r) g seat D table value out = Unit {0}
