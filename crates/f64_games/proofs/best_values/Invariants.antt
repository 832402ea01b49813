-- The best values of the seats passed; 0.0 past them. Assumes nothing.
use mathlib.Core.Path.{◌≡◌}
use lib.ListN.{length}
use Rattle.games.specs.internal.Numbered.{numbered}
use Rattle.arena_store.specs.internal.Stored.{Stored}
use Rattle.f64_games.specs.Values.{best_of}
use Rattle.f64_games.proofs.Seats.{front}
use Rattle.f64_games.proofs.best_values.Given as goal

abbrev pub invariant-loop-seat : goal.invariant-loop-seat
invariant-loop-seat l = (l.out ≡ front (best_of (numbered l.profile.tree.game) l.profile.entries.now) l.seat) × Stored (numbered l.profile.tree.game) l.words
    × (length l.words ≡ length l.initial.words)
