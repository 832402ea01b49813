-- A live hand has room for one action more. Assumes nothing.
use mathlib.Core.Path.{sym, ◌∙◌}
use borrow.Author.Rules.{rules}
use native.Mathlib.Omega.{arith}
use Rattle.kuhn_positions.proofs.Positions.{room_to_act, seats_least, seats_most}
use Rattle.kuhn.proofs.KuhnPoker.step.Goals as goal

pub with_action-requires : goal.with_action-requires
with_action-requires c =
    let position = c.in_ok-hand.ensures.position in
    let passed = c.in_ok-hand.ensures.passed in
    let least = seats_least _ passed.0 in
    let is_live = rw (position.0, position.1) at (sym c.is_live.ensures ∙ c.if-not-is_live.false) in
    room_to_act c.args.self.players c.args.state (search rules) (search rules) (omega arith) (seats_most _ passed.0) passed.1 is_live
