-- The whole tree, from the deal of no card on. Assumes nothing.
use Rattle.kuhn_arena_layout.proofs.Start.{starts, start_room, built_tree}
use Rattle.kuhn_arena.proofs.build.Goals as goal

pub deal-requires-clause-dealing : goal.deal-requires-clause-dealing
deal-requires-clause-dealing c = starts c.args.n c.requires.0 c.requires.1 c.new.result.items c.new.ensures

pub deal-requires-clause-room : goal.deal-requires-clause-room
deal-requires-clause-room c = start_room c.args.n c.requires.0 c.requires.1 c.new.result.items c.new.ensures _ c.requires.2

pub returns : goal.returns
returns c = built_tree c.args.n c.requires.0 c.requires.1 c.new.result.items c.new.ensures c.deal.ensures.built
