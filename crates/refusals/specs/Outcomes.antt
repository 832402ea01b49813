-- Results as a caller sees them: by the refusal's number, and for a call on a position with that position.
use Rattle.std.specs.Prelude.{List, ◌++◌, ℕ, zero, suc, ℤ, pos, length, drop, replicate, Result, Ok, Err}
use Rattle.refusals.specs.Refusals as Refusals
use Rattle.refusals.specs.declared.Payoffs.{Payoffs}
use Rattle.refusals.specs.declared.Refusal.{Refusal}
use Rattle.refusals.specs.declared.Refusal.TheVariants.{Game, Seats, Tree, Memory, Seat, Parts, Table, Sum, Output, CardCount, Card}
use Rattle.refusals.specs.declared.Refusal.TheVariants.{CardTwice, History, Closed, Illegal, NoPublic, EarlyPublic, EndMark, Unreachable, Unfit}

-- the number of a refusal
abbrev pub number : Refusal → ℕ
number Game = Refusals.game
number Seats = Refusals.seats
number Tree = Refusals.tree
number Memory = Refusals.memory
number Seat = Refusals.seat
number Parts = Refusals.parts
number Table = Refusals.table
number Sum = Refusals.sum
number Output = Refusals.output
number CardCount = Refusals.card-count
number Card = Refusals.card
number CardTwice = Refusals.card-twice
number History = Refusals.history
number Closed = Refusals.closed
number Illegal = Refusals.illegal
number NoPublic = Refusals.no_public
number EarlyPublic = Refusals.early-public
number EndMark = Refusals.end_mark
number Unreachable = Refusals.unreachable
number Unfit = Refusals.unfit

-- the number of a result: that of its refusal, accepted if there is none
abbrev pub number_of : {A : Type 0} → Result A Refusal → ℕ
number_of (Ok x) = Refusals.accepted
number_of (Err e) = number e

-- ---- what a call on a position answers; S is the game's position

-- a refusal number, 0 if the call was accepted, and a position: the new one of an accepted deal or step, else the one handed in
pub record Moved (S : Type 0) : Type 0 where
  pub refusal : ℕ
  pub state : S

-- the same for a call that writes: how many bytes it wrote
pub record Written (S : Type 0) : Type 0 where
  pub refusal : ℕ
  pub state : S
  pub count : ℕ

-- the same for the payoffs: one for each of count seats, 0 past them
pub record Paid (S : Type 0) : Type 0 where
  pub refusal : ℕ
  pub state : S
  pub count : ℕ
  pub payoffs : List ℤ

-- a move that was accepted gives the new position, t, a refused one the old, s
abbrev pub moved : {S : Type 0} → ℕ → S → S → Moved S
moved zero s t = record { refusal = zero; state = t }
moved (suc r) s t = record { refusal = suc r; state = s }

-- how many bytes a call wrote
abbrev pub wrote : {S : Type 0} → ℕ → S → ℕ → Written S
wrote zero s k = record { refusal = zero; state = s; count = k }
wrote (suc r) s k = record { refusal = suc r; state = s; count = 0 }

-- what an output holds then: the bytes at its front and what it held beyond them; all it held, if the call was refused
abbrev pub written : ℕ → List ℕ → List ℕ → List ℕ
written zero bytes out = bytes ++ drop (length bytes) out
written (suc r) bytes out = out

-- ---- the answer of a result, to a caller that handed in position s

abbrev pub moved_by : {S : Type 0} → S → Result S Refusal → Moved S
moved_by s (Ok t) = record { refusal = Refusals.accepted; state = t }
moved_by s (Err e) = record { refusal = number e; state = s }

abbrev pub written_by : {S : Type 0} → S → Result ℕ Refusal → Written S
written_by s (Ok k) = record { refusal = Refusals.accepted; state = s; count = k }
written_by s (Err e) = record { refusal = number e; state = s; count = 0 }

abbrev pub paid_by : {S : Type 0} → S → Result Payoffs Refusal → Paid S
paid_by s (Ok p) = record { refusal = Refusals.accepted; state = s; count = p.count; payoffs = p.payoffs }
paid_by s (Err e) = record { refusal = number e; state = s; count = 0; payoffs = replicate 10 (pos 0) }
