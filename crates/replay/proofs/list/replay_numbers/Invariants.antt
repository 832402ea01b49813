use Rattle.replay.proofs.list.replay_numbers.Given as goal

abbrev pub decreases-loop-source : goal.decreases-loop-source
decreases-loop-source g l = l.source.left
