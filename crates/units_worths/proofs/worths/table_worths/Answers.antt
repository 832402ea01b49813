-- The units of each node, what the ends are worth with them, lowered. Assumes nothing.
use mathlib.Core.Path.{◌∙◌}
use native.Mathlib.Omega.{arith}
use Rattle.games.specs.internal.Numbered.{numbered}
use Rattle.units_worths.proofs.Lowering.{sums_few, sums_worths, few-seats}
use Rattle.units_worths.proofs.Standing.{units-near, nodes-near, still_stored, sums_lifted}
use Rattle.units_worths.proofs.worths.table_worths.Goals as goal

pub end_sums-sums-requires : goal.end_sums-sums-requires
end_sums-sums-requires c =
    let t = c.args.table.now in let g = numbered t.tree.game in
    let s = c.search_of-search.ensures in let at = s.reach in
    (nodes-near g t.parts t.entries.now t.accepted _ at _ c.nodes.ensures, units-near g t.parts t.entries.now t.accepted _ at)

pub lowered_all-requires : goal.lowered_all-requires
lowered_all-requires c =
    let t = c.args.table.now in let g = numbered t.tree.game in
    let s = c.search_of-search.ensures in let at = s.reach in
    let u = c.root_units-u.ensures in
    let o = rw (s.others, s.seat, c.shares_of.ensures.0, c.shares_of.ensures.1) at c.collect.ensures in
    let sums = sums_lifted g t.parts t.entries.now t.accepted _ at _ u _ _ c.requires.0 c.requires.1 o _ c.nodes.ensures c.end_sums-sums.result.of c.end_sums-sums.ensures in
    (omega (arith, c.seats.ensures, few-seats g t.parts t.entries.now t.accepted), u.1, rw c.seats.ensures (sums_few g t.parts t.entries.now t.accepted _ u.0 c.end_sums-sums.result.of sums))

pub returns : goal.returns
returns c =
    let t = c.args.table.now in let g = numbered t.tree.game in
    let s = c.search_of-search.ensures in let at = s.reach in
    let u = c.root_units-u.ensures in
    let o = rw (s.others, s.seat, c.shares_of.ensures.0, c.shares_of.ensures.1) at c.collect.ensures in
    let sums = sums_lifted g t.parts t.entries.now t.accepted _ at _ u _ _ c.requires.0 c.requires.1 o _ c.nodes.ensures c.end_sums-sums.result.of c.end_sums-sums.ensures in (
      rw c.seats.ensures at c.lowered_all.ensures ∙ sums_worths g t.parts t.entries.now t.accepted _ u.0 c.end_sums-sums.result.of sums,
      still_stored g t.parts t.entries.now t.accepted _ at _ u 8 _ _ c.requires.0 o,
    )
