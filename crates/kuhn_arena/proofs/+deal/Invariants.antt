-- The deals: the trees below the lower cards stand. The measure is how many seats have no card. Assumes nothing.
use Rattle.std.proofs.Common.{◌≡◌, ◌+◌, ◌-◌, length}
use Rattle.arena.specs.internal.Built.{Row}
use Rattle.kuhn_arena_layout.specs.internal.Layout.{code_of, children_to}
use Rattle.kuhn_arena.proofs.+deal.Given as goal

abbrev pub decreases-deal : goal.decreases-deal
decreases-deal l = l.n - length l.cards.now.items

abbrev pub invariant-loop-card : goal.invariant-loop-card
invariant-loop-card l = record {
  built : Row l.n (code_of l.n) (l.at + 1) l.initial.w l.w (children_to l.n l.initial.cards.items l.card) l.next;
  same : l.cards.items ≡ l.initial.cards.items;
}
