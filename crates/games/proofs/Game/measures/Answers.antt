-- The constants are the counts. Assumes nothing.
use mathlib.Core.Path.{◌≡◌, refl}
use borrow.Author.Rules.{rules}
use Rattle.kuhn_tree.specs.Counts.{deal_nodes, kuhn_nodes}
use Rattle.kuhn_tree.specs.Tree as Kuhn
use Rattle.games.proofs.Game.measures.Goals as goal

counted : (kuhn_nodes 2 ≡ 58) × (kuhn_nodes 3 ≡ 617) × (kuhn_nodes 4 ≡ 7886) × (kuhn_nodes 5 ≡ 116437) × (kuhn_nodes 6 ≡ 1944020)
    × (kuhn_nodes 7 ≡ 36196001) × (kuhn_nodes 8 ≡ 743801770) × (kuhn_nodes 9 ≡ 16727745701) × (kuhn_nodes 10 ≡ 408816620312)
unfolding deal_nodes
counted = (refl, refl, refl, refl, refl, refl, refl, refl, refl)

pub returns-in-Kuhn-clause-nodes : goal.returns-in-Kuhn-clause-nodes
returns-in-Kuhn-clause-nodes c = search (rules, counted)

pub returns-in-Kuhn-clause-fans : goal.returns-in-Kuhn-clause-fans
unfolding Kuhn.C Kuhn.factorial
returns-in-Kuhn-clause-fans c = search rules
