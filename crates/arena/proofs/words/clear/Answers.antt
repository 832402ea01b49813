use Rattle.arena.proofs.Clearing.{cleared}
use Rattle.arena.proofs.words.clear.Goals as goal

pub returns-then-lo-end : goal.returns-then-lo-end
returns-then-lo-end c = cleared _ _ _ _ _ c.min-end.ensures c.if-lo-end.true (c.fill.ensures.after (λ y e. e))
