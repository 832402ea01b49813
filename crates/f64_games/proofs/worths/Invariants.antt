-- The worths of the seats passed, two at a time; 0.0 past them. Assumes nothing.
use mathlib.Core.Path.{◌≡◌}
use Prim.Native.Nat.{ℕ, ◌*◌, ◌≤◌, ◌<◌}
use Rattle.games.specs.internal.Numbered.{numbered}
use Rattle.f64_games.specs.Values.{worth_of}
use Rattle.f64_games.proofs.Seats.{front}
use Rattle.f64_games.proofs.worths.Given as goal

abbrev pub invariant-loop-pair : goal.invariant-loop-pair
invariant-loop-pair l = (k : ℕ) × (k ≤ 2 * l.pair) × (k ≤ l.count) × (k < l.count → k ≡ 2 * l.pair)
    × (l.out ≡ front (worth_of (numbered l.profile.tree.game) l.profile.entries.now) k)
