use Rattle.arena_index.proofs.Linking.{Linked}
use Rattle.arena_index.proofs.Layout.link.Given as goal

abbrev pub invariant-loop-a : goal.invariant-loop-a
invariant-loop-a l = Linked l.self.nodes l.self.heads l.initial.w l.w l.a
