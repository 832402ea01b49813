-- Of Tree, what stands between functions.
use Rattle.std.specs.Prelude.{Bool}
use Rattle.leduc_rules.specs.Rules as Rules
use Rattle.leduc_tree.specs.Tree.{Position}

abbrev pub acts : Position → Bool
acts q = Rules.live q.cards q.public q.first q.second
