-- The place of a child. Assumes nothing.
use Rattle.arena_walks.proofs.Children as children
use Rattle.arena_walks.proofs.child.Goals as goal

pub returns-then-c-eq0 : goal.returns-then-c-eq0
returns-then-c-eq0 c = children.first c.args.w.now c.args.a c.args.c c.if-c-eq0.true

pub returns-then-c-eq1 : goal.returns-then-c-eq1
returns-then-c-eq1 c = children.second c.args.w.now c.args.a c.args.c c.behind-second.result c.behind-second.ensures c.if-c-eq1.true

pub returns : goal.returns
returns c = children.third c.args.w.now c.args.a c.args.c c.behind-second.result c.behind.result c.if-c-eq0.false c.if-c-eq1.false c.behind-second.ensures c.behind.ensures
