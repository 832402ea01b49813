-- The hand that a position holds. Assumes nothing.
use mathlib.Core.Path.{refl, ◌∙◌}
use native.Mathlib.Omega.{arith}
use lib.ListN.{drop}
use Rattle.std.proofs.lemmas.Grind.{common_steps}
use Rattle.leduc_positions.proofs.Positions.{front_of_part}
use Rattle.leduc_positions.proofs.LeducState.hand.Goals as goal

pub returns-clause-hand : goal.returns-clause-hand
returns-clause-hand c =
    let first = c.in_ok-get-2.ensures.lookup.0 in let second = c.in_ok-get-3.ensures.lookup.0 in
    record {
      short = (grind (arith, common_steps), grind (arith, common_steps), grind (arith, common_steps));
      cards = grind (arith, common_steps);
      public = refl;
      first = first.2 ∙ front_of_part 4 _ c.args.self.now.history first.1;
      second = second.2 ∙ front_of_part 4 _ (drop 4 c.args.self.now.history) second.1;
    }
