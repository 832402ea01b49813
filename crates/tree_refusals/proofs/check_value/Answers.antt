-- The tree, the seat, the profile. Assumes nothing.
use Rattle.tree_refusals.proofs.Exits.{settled_exit}
use Rattle.tree_refusals.proofs.check_value.Goals as goal

pub returns-in_err-tree-clause-refused : goal.returns-in_err-tree-clause-refused
returns-in_err-tree-clause-refused c = settled_exit _ _ _ _ c.from_residual.ensures.1 c.in_err-tree.ensures.refused
