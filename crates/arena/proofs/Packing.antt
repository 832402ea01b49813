-- The fields of a word that is put together. Assumes nothing.
use mathlib.Core.Path.{◌≡◌}
use Prim.Native.Nat.{ℕ, ◌<◌}
use native.Mathlib.Omega.{arith}
use Rattle.arena.specs.internal.Words.{DECISION, CHANCE, kind_of, actor_of, actions_of, set_of, next_of, later_of, decision_word, chance_word, PLACES}

module _ (actor actions set next later : ℕ) (p : actor < 8) (q : actions < 4) (r : set < 16384) (s : next < PLACES) (t : later < PLACES) where
  pub kind_of_lem : kind_of (decision_word actor actions set next later) ≡ DECISION
  kind_of_lem = omega arith

  pub actor_of_lem : actor_of (decision_word actor actions set next later) ≡ actor
  actor_of_lem = omega arith

  pub actions_of_lem : actions_of (decision_word actor actions set next later) ≡ actions
  actions_of_lem = omega arith

  pub set_of_lem : set_of (decision_word actor actions set next later) ≡ set
  set_of_lem = omega arith

  pub next_of_lem : next_of (decision_word actor actions set next later) ≡ next
  next_of_lem = omega arith

  pub later_of_lem : later_of (decision_word actor actions set next later) ≡ later
  later_of_lem = omega arith

pub chance_kind : (next : ℕ) → kind_of (chance_word next) ≡ CHANCE
chance_kind next = omega arith

pub chance_next : (next : ℕ) → next < PLACES → next_of (chance_word next) ≡ next
chance_next next s = omega arith
