-- Leduc's position and answers as C has them: what each holds, and a position's way back.
use Rattle.std.specs.Prelude.{Bool, true, false, ℕ, eqb, Option, None, Some}
use Rattle.leduc_positions.specs.declared.LeducState.{LeducState}
use Rattle.refusals.specs.Outcomes.{Moved, Written, Paid}
use Rattle.c_structs.specs.declared.of_leduc.LeducPosition.{LeducPosition}
use Rattle.c_structs.specs.declared.of_leduc.LeducMoved.{LeducMoved}
use Rattle.c_structs.specs.declared.of_leduc.LeducWritten.{LeducWritten}
use Rattle.c_structs.specs.declared.of_leduc.LeducPayoffs.{LeducPayoffs}

-- the public card of a byte: none at 255, else the card, in the deck or not
abbrev pub card_unless : Bool → ℕ → Option ℕ
card_unless true b = None
card_unless false b = Some b

abbrev pub public_of : ℕ → Option ℕ
public_of b = card_unless (eqb b 255) b

-- its byte
abbrev pub byte_of : Option ℕ → ℕ
byte_of None = 255
byte_of (Some c) = c

abbrev pub state_of : LeducPosition → LeducState
state_of p = record {
  cards = p.cards;
  dealt = p.dealt;
  public = public_of p.public;
  history = p.history;
  acted1 = p.acted1;
  acted2 = p.acted2;
}

abbrev pub position_of : LeducState → LeducPosition
position_of s = record {
  cards = s.cards;
  dealt = s.dealt;
  public = byte_of s.public;
  history = s.history;
  acted1 = s.acted1;
  acted2 = s.acted2;
}

abbrev pub moved_of : Moved LeducState → LeducMoved
moved_of a = record { refusal = a.refusal; position = position_of a.state }

abbrev pub written_of : Written LeducState → LeducWritten
written_of a = record { refusal = a.refusal; position = position_of a.state; count = a.count }

abbrev pub payoffs_of : Paid LeducState → LeducPayoffs
payoffs_of a = record { refusal = a.refusal; position = position_of a.state; count = a.count; payoffs = a.payoffs }
