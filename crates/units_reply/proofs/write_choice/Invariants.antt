-- All parts on the choice, entry by entry. Assumes nothing.
use Rattle.std.proofs.Common.{◌≡◌, cond, eqb}
use Rattle.std.proofs.lemmas.List.Edits.{sets}
use Rattle.game_tree.specs.Table.{listed}
use Rattle.units_reply.proofs.write_choice.Given as goal

abbrev pub invariant-loop-action : goal.invariant-loop-action
invariant-loop-action l = l.out ≡ sets l.initial.out l.at (listed l.action (λ a. cond (eqb a l.choice) l.parts 0))
