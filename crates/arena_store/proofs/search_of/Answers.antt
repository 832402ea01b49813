-- The search over a stored tree. Assumes nothing.
use native.Mathlib.Omega.{arith}
use Rattle.games.specs.internal.Numbered.{numbered}
use Rattle.arena_store.proofs.Room.{roomy}
use Rattle.arena_store.proofs.search_of.Goals as goal

pub overflow_add-reach : goal.overflow_add-reach
overflow_add-reach g c =
    record { fits = omega (arith, (roomy (numbered c.args.tree.game) c.args.tree.known).near, c.nodes-nodes.ensures, c.codes_of.ensures, c.entries.ensures) }

pub overflow_add-kept : goal.overflow_add-kept
overflow_add-kept g c =
    record { fits = omega (arith, (roomy (numbered c.args.tree.game) c.args.tree.known).near, c.nodes-nodes.ensures, c.codes_of.ensures, c.entries.ensures) }

pub invariant_of-result : goal.invariant_of-result
invariant_of-result g c =
    record { near = omega (arith, (roomy (numbered c.args.tree.game) c.args.tree.known).near, c.nodes-nodes.ensures, c.codes_of.ensures, c.entries.ensures) }

pub invariant_of-result-2 : goal.invariant_of-result-2
invariant_of-result-2 g c = record {
  heads_near = omega (arith, (roomy (numbered c.args.tree.game) c.args.tree.known).near, c.nodes-nodes.ensures, c.codes_of.ensures, c.entries.ensures);
  kept_near = omega (arith, (roomy (numbered c.args.tree.game) c.args.tree.known).near, c.nodes-nodes.ensures, c.codes_of.ensures, c.entries.ensures);
}
