-- The checks of a tree, in order. Assumes nothing.
use mathlib.Core.Path.{subst}
use Rattle.games.specs.internal.Numbered.{numbered}
use Rattle.games.proofs.Numbered.{has_number, has-seats}
use Rattle.tree_refusals.proofs.Exits.{settled_exit}
use Rattle.tree_refusals.proofs.Tree.{Answer, refused_by_number, tree-refused, memory-refused, tree_passed}
use Rattle.tree_refusals.proofs.checks.check_tree.Goals as goal

pub returns-in_err-game-clause-refused : goal.returns-in_err-game-clause-refused
returns-in_err-game-clause-refused c = settled_exit _ _ _ _ c.from_residual.ensures.1 (refused_by_number _ _ c.in_err-game.ensures.refused)

pub returns-then-nodes-gt-MOST_NODES-clause-refused : goal.returns-then-nodes-gt-MOST_NODES-clause-refused
returns-then-nodes-gt-MOST_NODES-clause-refused c = let v = c.in_ok-game.game in
    subst (λ g. Answer g c.args.memory 3) c.in_ok-game.ensures.made
    (tree-refused (numbered v) c.args.memory (has_number v) (has-seats v) _ c.nodes-nodes.ensures c.if-nodes-gt-MOST_NODES.true)

pub returns-then-memory-nodes-clause-refused : goal.returns-then-memory-nodes-clause-refused
returns-then-memory-nodes-clause-refused c = let v = c.in_ok-game.game in
    subst (λ g. Answer g c.args.memory 4) c.in_ok-game.ensures.made
    (memory-refused (numbered v) c.args.memory (has_number v) (has-seats v) _ c.nodes-nodes.ensures c.if-nodes-gt-MOST_NODES.false c.if-memory-nodes.true)

pub returns-clause-refused : goal.returns-clause-refused
returns-clause-refused c = let v = c.in_ok-game.game in
    subst (λ g. Answer g c.args.memory 0) c.in_ok-game.ensures.made
    (tree_passed (numbered v) c.args.memory (has_number v) (has-seats v) _ c.nodes-nodes.ensures c.if-nodes-gt-MOST_NODES.false c.if-memory-nodes.false)
