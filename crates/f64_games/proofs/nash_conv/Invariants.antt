-- The gaps of the seats passed, added up. Assumes nothing.
use mathlib.Core.Path.{◌≡◌}
use lib.ListN.{length}
use Rattle.games.specs.internal.Numbered.{numbered}
use Rattle.arena_store.specs.internal.Stored.{Stored}
use Rattle.f64_games.specs.Values.{gaps}
use Rattle.f64_games.proofs.nash_conv.Given as goal

abbrev pub invariant-loop-seat : goal.invariant-loop-seat
invariant-loop-seat l = (l.sum ≡ gaps (numbered l.profile.tree.game) l.profile.entries.now l.seat) × Stored (numbered l.profile.tree.game) l.words
    × (length l.words ≡ length l.initial.words)
