-- The pot after a round: the actions passed and those still to come give it. Assumes nothing.
use Prim.Native.Nat.{◌+◌, ◌*◌}
use mathlib.Core.Path.{sym, ap, ◌∙◌}
use native.Mathlib.Omega.{arith}
use lib.ListN.{length, get_or, drop}
use Rattle.leduc_rules.specs.internal.Pots.{bet, seated, after-round, pot_of}
use Rattle.leduc_rules.proofs.Pots.{bet_step, bet_end, matched_bound}
use Rattle.leduc_money.proofs.round_pot.Goals as goal

pub loop-a-preserved : goal.loop-a-preserved
loop-a-preserved c =
    let l = c.loop-a in let h = c.args.h.now in let size = c.args.size in
    let paid = c.paid_after.ensures in
    let bound = matched_bound size l.turn.acting l.turn.other (get_or h l.a-index 0) (32 + 4 * l.a-index) (omega arith) (omega arith) in (
      omega arith,
      omega arith,
      ap (λ x. bet size (pot_of l.turn.other x) (drop (l.a-index + 1) h)) paid
          ∙ sym (bet_step size l.turn.acting l.turn.other h l.a-index (omega arith)) ∙ l.invariant.2,
    )

pub returns : goal.returns
unfolding after-round
returns c =
    let l = c.loop-a in let h = c.args.h.now in
    c.seat_zero_first.ensures ∙ ap (seated (length h)) (sym (bet_end c.args.size l.turn.acting l.turn.other h l.a-index (omega arith)) ∙ l.invariant.2)
