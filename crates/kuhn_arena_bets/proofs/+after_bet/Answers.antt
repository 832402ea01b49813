-- A hand with a bet: an end, or a decision over a pass and a bet. Assumes nothing.
use Rattle.std.proofs.Common.{arith}
use Rattle.kuhn_arena_layout.proofs.Numbers.{less_left, last_left}
use Rattle.kuhn_arena_layout.proofs.Hands as hands
use Rattle.kuhn_arena_bets.proofs.+after_bet.Goals as goal

pub end_word-requires : goal.end_word-requires
end_word-requires t c = hands.after-words c.args.cards.now c.args.number c.requires.betting c.requires.room

pub returns-then-left-eq0 : goal.returns-then-left-eq0
returns-then-left-eq0 t c = hands.after_ends c.args.cards.now c.args.number c.requires.betting c.requires.room c.if-left-eq0.true _ _ c.end_word.ensures c.put.ensures

pub after_bet-bet-requires : goal.after_bet-bet-requires
after_bet-bet-requires t c = let a = c.args in let on = hands.after_goes_on a.cards.now a.number c.requires.betting c.requires.room c.if-left-eq0.false in (
  omega (arith, c.decreases, c.if-left-eq0.false),
  (
    hands.after_pass a.cards.now a.number c.requires.betting c.requires.room c.if-left-eq0.false,
    (less_left a.number a.left 1 c.if-left-eq0.false c.requires.few (omega arith), hands.first_room _ a.cards.now a.number on c.requires.room),
  ),
)

pub with_bet-with_bet-requires-clause-paid : goal.with_bet-with_bet-requires-clause-paid
with_bet-with_bet-requires-clause-paid t c = (
  hands.after-unit c.args.cards.now c.args.number c.requires.betting c.requires.room c.if-left-eq0.false,
  (hands.after-words c.args.cards.now c.args.number c.requires.betting c.requires.room).1,
)

pub after_bet-next-requires : goal.after_bet-next-requires
after_bet-next-requires t c = let a = c.args in let on = hands.after_goes_on a.cards.now a.number c.requires.betting c.requires.room c.if-left-eq0.false in
    let few = hands.after-words a.cards.now a.number c.requires.betting c.requires.room in
    let acts = hands.after-seat a.cards.now a.number c.requires.betting c.requires.room in
    let pays = hands.after-unit a.cards.now a.number c.requires.betting c.requires.room c.if-left-eq0.false in (
      omega (arith, c.decreases, c.if-left-eq0.false),
      (
        hands.after_raise a.cards.now a.number c.requires.betting c.requires.room c.if-left-eq0.false _ _ _ (grind arith) (grind arith) (grind arith),
        (less_left a.number a.left 2 c.if-left-eq0.false c.requires.few (omega arith), hands.second_room _ a.cards.now a.number on c.requires.room c.after_bet-bet.ensures),
      ),
    )

pub decision_word-requires : goal.decision_word-requires
decision_word-requires t c = let a = c.args in let on = hands.after_goes_on a.cards.now a.number c.requires.betting c.requires.room c.if-left-eq0.false in
    let seat = hands.after-seat a.cards.now a.number c.requires.betting c.requires.room in
    (seat.1, last_left a.number a.left c.if-left-eq0.false c.requires.few, seat.0, hands.behind-few _ a.cards.now a.number on c.requires.room c.after_bet-bet.ensures c.after_bet-next.ensures)

pub returns : goal.returns
returns t c = let a = c.args in let on = hands.after_goes_on a.cards.now a.number c.requires.betting c.requires.room c.if-left-eq0.false in
    let seat = hands.after-seat a.cards.now a.number c.requires.betting c.requires.room in
    hands.lays_decision _ a.cards.now a.number on c.requires.room c.after_bet-bet.ensures c.after_bet-next.ensures a.seat _ _ seat.1 seat.0 c.decision_word.ensures.byte
    c.requires.betting.acts (last_left a.number a.left c.if-left-eq0.false c.requires.few) c.decision_word.ensures.word c.put-2.ensures
