-- A hand without a bet: an end, or a decision over a pass and the first bet. Assumes nothing.
use Rattle.std.proofs.Common.{◌-◌, ◌+◌, ◌<◌, length, arith}
use Rattle.kuhn_arena_layout.proofs.Hands as hands
use Rattle.kuhn_arena_hands.proofs.+before_bet.Goals as goal

pub returns-then-seat-n : goal.returns-then-seat-n
returns-then-seat-n t c = hands.before_ends c.args.cards.now c.requires.passing c.requires.room c.if-seat-n.true _ _ _ c.highest.ensures c.end_word.ensures c.put.ensures

pub before_bet-bet-requires : goal.before_bet-bet-requires
before_bet-bet-requires t c = let a = c.args in let p = c.requires.passing in let on = hands.before_goes_on a.cards.now p c.requires.room c.if-seat-n.false in
    let less : length a.cards.now - (a.seat + 1) < t = omega (arith, c.decreases, (hands.before-seat a.cards.now p c.requires.room c.if-seat-n.false).0) in
    (less, (hands.before_pass a.cards.now p c.requires.room c.if-seat-n.false, hands.first_room _ a.cards.now a.number on c.requires.room))

pub after_bet-behind-requires-clause-betting : goal.after_bet-behind-requires-clause-betting
after_bet-behind-requires-clause-betting t c = hands.before_raise c.args.cards.now c.requires.passing c.requires.room c.if-seat-n.false _ c.unit.ensures.0

pub after_bet-behind-requires-clause-few : goal.after_bet-behind-requires-clause-few
after_bet-behind-requires-clause-few t c = hands.first_left c.requires.passing c.if-seat-n.false

pub after_bet-behind-requires-clause-room : goal.after_bet-behind-requires-clause-room
after_bet-behind-requires-clause-room t c = let a = c.args in let on = hands.before_goes_on a.cards.now c.requires.passing c.requires.room c.if-seat-n.false in
    hands.second_room _ a.cards.now a.number on c.requires.room c.before_bet-bet.ensures

pub decision_word-requires : goal.decision_word-requires
decision_word-requires t c = let a = c.args in let p = c.requires.passing in let on = hands.before_goes_on a.cards.now p c.requires.room c.if-seat-n.false in
    let seat = hands.before-seat a.cards.now p c.requires.room c.if-seat-n.false in
    (seat.1, omega (arith, hands.before-number a.cards.now p c.requires.room c.if-seat-n.false), seat.0, hands.behind-few _ a.cards.now a.number on c.requires.room c.before_bet-bet.ensures c.after_bet-behind.ensures)

pub returns : goal.returns
returns t c = let a = c.args in let p = c.requires.passing in let on = hands.before_goes_on a.cards.now p c.requires.room c.if-seat-n.false in
    let seat = hands.before-seat a.cards.now p c.requires.room c.if-seat-n.false in
    hands.lays_decision _ a.cards.now a.number on c.requires.room c.before_bet-bet.ensures c.after_bet-behind.ensures a.seat _ _ seat.1 seat.0 c.decision_word.ensures.byte
    (hands.before-turn a.cards.now p c.requires.room c.if-seat-n.false) (omega (arith, hands.before-number a.cards.now p c.requires.room c.if-seat-n.false)) c.decision_word.ensures.word c.put-2.ensures
