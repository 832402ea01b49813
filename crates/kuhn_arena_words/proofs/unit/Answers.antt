use Rattle.kuhn_arena_layout.proofs.Ends.{unit_most, unit-shifted}
use native.Mathlib.Omega.{arith}
use Rattle.kuhn_arena_words.proofs.unit.Goals as goal

pub returns : goal.returns
returns c = let e = unit-shifted c.args.seat c.requires in (e, omega (arith, e, unit_most c.args.seat c.requires))
