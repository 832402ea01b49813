-- Key. Assumes nothing.
use mathlib.Core.Path.{sym, ap}
use native.Mathlib.Omega.{arith}
use lib.ListN.{length}
use Rattle.leduc_positions.specs.Positions.{cards_of, round_one, round_two}
use Rattle.refusals.specs.declared.Refusal.TheVariants.{Unfit, Output}
use Rattle.std.proofs.lemmas.Result.{err_from_is_err_and}
use Rattle.refusals.proofs.Outcomes.{written_ok, written_err}
use Rattle.leduc.specs.Calls.{key-refusal}
use Rattle.leduc.proofs.Answers.{stopped, reached, key-unfit, key-no-room, key-accepted}
use Rattle.leduc.proofs.Writing.{key-length}
use Rattle.leduc.proofs.LeducPoker.information_state_key.Goals as goal

pub returns-in_err-hand-clause-answer : goal.returns-in_err-hand-clause-answer
unfolding key-refusal
returns-in_err-hand-clause-answer c =
    let p = err_from_is_err_and c.from_residual.result c.from_residual.ensures.1 in
    rw (p.1, p.2) (written_err c.args.state _ _ _ (stopped c.args.state _ _ c.in_err-hand.ensures.number))

pub returns-then-hand-agent-clause-answer : goal.returns-then-hand-agent-clause-answer
returns-then-hand-agent-clause-answer c =
    let dealt = ap length c.in_ok-hand.ensures.hand.cards in
    written_err c.args.state Unfit _ _ (sym (key-unfit c.args.state (reached _ c.in_ok-hand.ensures.number) c.args.agent (length c.args.out.now) (omega arith)))

pub returns-then-out-bytes-clause-answer : goal.returns-then-out-bytes-clause-answer
returns-then-out-bytes-clause-answer c =
    let w = c.in_ok-hand.ensures.hand in
    let size = key-length (cards_of c.args.state) c.args.state.public (round_one c.args.state) (round_two c.args.state) c.args.agent in
    let dealt = ap length w.cards in let one = ap length w.first in let two = ap length w.second in
    written_err c.args.state Output _ _ (sym (key-no-room c.args.state (reached _ c.in_ok-hand.ensures.number) c.args.agent (length c.args.out.now) (omega arith) (omega arith)))

pub returns-clause-answer : goal.returns-clause-answer
returns-clause-answer c =
    let w = c.in_ok-hand.ensures.hand in
    let size = key-length (cards_of c.args.state) c.args.state.public (round_one c.args.state) (round_two c.args.state) c.args.agent in
    let dealt = ap length w.cards in let one = ap length w.first in let two = ap length w.second in
    written_ok c.args.state _ _ _ (key-accepted c.args.state (reached _ c.in_ok-hand.ensures.number) c.args.agent (length c.args.out.now) (omega arith) (omega arith)) (omega arith)
