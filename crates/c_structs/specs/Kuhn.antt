-- Kuhn's position and answers as C has them: what each holds, and a position's way back.
use Rattle.std.specs.Prelude.{ℕ}
use Rattle.kuhn.specs.declared.KuhnPoker.{KuhnPoker}
use Rattle.kuhn_positions.specs.declared.KuhnState.{KuhnState}
use Rattle.refusals.specs.Outcomes.{Moved, Written, Paid}
use Rattle.c_structs.specs.declared.of_kuhn.KuhnPosition.{KuhnPosition}
use Rattle.c_structs.specs.declared.of_kuhn.KuhnMoved.{KuhnMoved}
use Rattle.c_structs.specs.declared.of_kuhn.KuhnWritten.{KuhnWritten}
use Rattle.c_structs.specs.declared.of_kuhn.KuhnPayoffs.{KuhnPayoffs}

-- the game of a seat count
abbrev pub game_of : ℕ → KuhnPoker
game_of seats = record { players = seats }

abbrev pub state_of : KuhnPosition → KuhnState
state_of p = record { cards = p.cards; dealt = p.dealt; history = p.history; acted = p.acted }

abbrev pub position_of : KuhnState → KuhnPosition
position_of s = record { cards = s.cards; dealt = s.dealt; history = s.history; acted = s.acted }

abbrev pub moved_of : Moved KuhnState → KuhnMoved
moved_of a = record { refusal = a.refusal; position = position_of a.state }

abbrev pub written_of : Written KuhnState → KuhnWritten
written_of a = record { refusal = a.refusal; position = position_of a.state; count = a.count }

abbrev pub payoffs_of : Paid KuhnState → KuhnPayoffs
payoffs_of a = record { refusal = a.refusal; position = position_of a.state; count = a.count; payoffs = a.payoffs }
