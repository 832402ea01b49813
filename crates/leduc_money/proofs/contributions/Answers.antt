-- What both seats have paid. Assumes nothing.
use mathlib.Core.Path.{◌≡◌, ap, ◌∙◌}
use native.Mathlib.Omega.{arith}
use Rattle.leduc_rules.specs.internal.Pots.{after-round, pot_of, pot}
use Rattle.leduc_rules.proofs.Pots.{Within, round_bound, paid_bound}
use Rattle.leduc_money.proofs.contributions.Goals as goal

pub round_pot-requires : goal.round_pot-requires
round_pot-requires c =
    let w : Within 17 c.round_pot-middle.result = rw c.round_pot-middle.ensures (round_bound 2 1 (pot_of 1 1) c.args.round1.now (omega arith)
    (omega arith) (record { acting-within = omega arith; other-within = omega arith })) in let x = w.acting-within in let y = w.other-within in
    (omega arith, omega arith, omega arith, omega arith)

pub returns : goal.returns
returns c =
    let all : c.round_pot.result ≡ pot 1 2 4 c.args.round1.now c.args.round2.now = c.round_pot.ensures ∙ ap (λ q. after-round 4 q c.args.round2.now) c.round_pot-middle.ensures in
    let w : Within 33 c.round_pot.result = rw all (paid_bound c.args.round1.now c.args.round2.now c.requires.0 c.requires.1) in
    record { pot = all; most = (w.acting-within, w.other-within) }
