-- The tree, then its index. Assumes nothing.
use native.Mathlib.Omega.{arith}
use mathlib.Core.Path.{refl}
use Rattle.games.specs.internal.Numbered.{numbered}
use Rattle.arena_store.proofs.Stored.{nodes-near, codes-near, index_near, stored}
use Rattle.arena_store.proofs.store.Goals as goal

pub overflow_add-nodes : goal.overflow_add-nodes
overflow_add-nodes c =
    omega (arith, index_near (numbered c.args.tree.game) c.args.tree.known _ _ _ _ _ c.requires c.build-nodes.ensures c.codes_of-codes.ensures refl)

pub overflow_add-nodes-2 : goal.overflow_add-nodes-2
overflow_add-nodes-2 c =
    omega (arith, index_near (numbered c.args.tree.game) c.args.tree.known _ _ _ _ _ c.requires c.build-nodes.ensures c.codes_of-codes.ensures c.entries.ensures)

pub index-requires : goal.index-requires
index-requires c = let g = numbered c.args.tree.game in let k = c.args.tree.known in (
  nodes-near g k _ _ _ _ _ c.requires c.build-nodes.ensures c.codes_of-codes.ensures c.entries.ensures,
  codes-near g k _ _ _ _ _ c.requires c.build-nodes.ensures c.codes_of-codes.ensures c.entries.ensures,
)

pub returns : goal.returns
returns c = stored (numbered c.args.tree.game) c.args.tree.known _ _ _ _ _ c.requires c.build-nodes.ensures c.codes_of-codes.ensures c.entries.ensures _ _
    c.clear.ensures c.index.ensures
