-- The checks, then the listing and the counts. Assumes nothing.
use mathlib.Core.Path.{refl, ap, ap₂, ◌∙◌}
use native.Mathlib.Omega.{arith}
use Rattle.games.specs.Games.{game_of, tree_of}
use Rattle.games.specs.internal.Numbered.{numbered}
use Rattle.games.proofs.Numbered.{has-seats}
use Rattle.game_tree.specs.Sets.{size, set_count}
use Rattle.listing.specs.Calls.{answer}
use Rattle.listing.proofs.Games.{nodes-counted, sets-counted, listing-length, written_on}
use Rattle.listing.proofs.enumerate_infosets.Goals as goal

pub write_listing-requires : goal.write_listing-requires
write_listing-requires c =
    let q = c.in_ok-tree.ensures.made in
    let a = c.in_ok-tree.ensures.refused.passed refl in
    rw q (omega (arith, a.1, listing-length (game_of c.args.number c.args.seats)))

pub returns-clause-answer : goal.returns-clause-answer
returns-clause-answer c =
    let g = game_of c.args.number c.args.seats in
    let v = c.in_ok-tree.tree.game in
    let q = c.in_ok-tree.ensures.made in
    let n = nodes-counted (numbered v) (has-seats v) _ c.nodes.ensures ∙ ap (λ x. size (tree_of x)) q in
    let s = sets-counted (numbered v) (has-seats v) _ c.sets.ensures ∙ ap (λ x. set_count (tree_of x)) q in
    ap₂ (λ x y. record { refusal = 0; nodes = x; sets = y }) n s ∙ ap (λ r. answer r g) c.in_ok-tree.ensures.refused.number

pub returns-clause-output : goal.returns-clause-output
returns-clause-output c =
    let g = game_of c.args.number c.args.seats in
    let a = c.in_ok-tree.ensures.refused.passed refl in
    written_on 0 g c.args.out.now _ refl (omega (arith, a.1, listing-length g)) (rw c.in_ok-tree.ensures.made at c.write_listing.ensures)
