-- The key: the actions passed stand behind seat and card. Assumes nothing.
use Rattle.std.proofs.Common.{◌≡◌, ◌∷◌, take}
use Rattle.kuhn_listing.proofs.key_of.Given as goal

abbrev pub invariant-loop-action : goal.invariant-loop-action
invariant-loop-action l = l.key.items ≡ l.seat ∷ l.card ∷ take l.action-index l.history
