-- The range of the parts. Assumes nothing.
use mathlib.Core.Path.{◌∙◌}
use borrow.Author.Tests.{eq-eqb, ne_eqb, lt-ltb, le-ltb}
use native.Mathlib.Omega.{arith}
use Rattle.prelude.proofs.Tests.{or_left, or_rest}
use Rattle.games.specs.Games.{game_of, most_parts}
use Rattle.refusals.proofs.Order.{one_refuses, one_passes}
use Rattle.tree_refusals.proofs.numbers.check_parts.Goals as goal
use Rattle.tree_refusals.proofs.numbers.check_parts.Goals.{then-d-eq0-via-then-d-eq0, then-d-eq0-via-else-d-eq0+then-most_parts-d}

pub returns-then-d-eq0 : goal.returns-then-d-eq0
returns-then-d-eq0 c = elim c.then-d-eq0.branch [
  | then-d-eq0-via-then-d-eq0 w ↦ one_refuses (or_left _ (eq-eqb _ _ w.if-d-eq0.true))
  | then-d-eq0-via-else-d-eq0+then-most_parts-d w ↦ one_refuses
      (or_rest _ (ne_eqb _ _ w.if-d-eq0.false) ∙ lt-ltb (most_parts (game_of c.args.game.number c.args.game.seats)) c.args.d (omega (arith, w.most_parts.ensures, w.if-most_parts-d.true)))
]

pub returns : goal.returns
returns c = one_passes (or_rest _ (ne_eqb _ _ c.if-d-eq0.false) ∙ le-ltb (most_parts (game_of c.args.game.number c.args.game.seats)) c.args.d
    (omega (arith, c.most_parts.ensures))) (omega arith, omega (arith, c.most_parts.ensures))
