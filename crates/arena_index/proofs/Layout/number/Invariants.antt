use Rattle.std.proofs.Common.{◌*◌, ◌≤◌}
use Rattle.arena_index.proofs.Numbering.{Walked}
use Rattle.arena_index.proofs.Layout.number.Given as goal

abbrev pub invariant-loop-a : goal.invariant-loop-a
invariant-loop-a l = Walked l.self.nodes l.initial.w l.w l.entry l.a × (l.entry ≤ 4 * l.a)
