-- What a call leaves of work memory. Assumes nothing.
use mathlib.Core.Path.{◌≡◌, sym, ap, ◌∙◌}
use mathlib.Core.List.{List, ◌++◌}
use Prim.Native.Nat.{ℕ, ◌*◌, ◌≤◌}
use native.Mathlib.Omega.{arith}
use lib.ListN.{length, drop, length-append, length-drop}
use lib.Seq.{drop_at}
use Rattle.game_tree.specs.Sets.{size}
use Rattle.games.specs.Games.{Game, tree_of}
use Rattle.games.specs.declared.Game as declared
use Rattle.games.specs.internal.Numbered.{numbered}
use Rattle.games.specs.Facts.{nodes_of}
use Rattle.games.proofs.Numbered.{has-seats}
use Rattle.games.proofs.Facts.{nodes_are}
use Rattle.arena_store.specs.Memory.{MemoryAfter}

-- a call that was accepted has written to the front, which has 12 words for each node, and leaves the rest
pub front_left : (v : declared.Game) (g : Game) → numbered v ≡ g → (work part rest : List ℕ) → 12 * nodes_of g ≤ length work
    → length part ≡ 12 * nodes_of (numbered v) → rest ≡ drop (12 * nodes_of (numbered v)) work → MemoryAfter 0 g work (part ++ rest)
front_left v g e work part rest fits p r =
    let n = nodes_of (numbered v) in
    let s : 12 * n ≡ 12 * size (tree_of g) = ap (λ x. 12 * x) (sym (nodes_are (numbered v) (has-seats v)) ∙ ap (λ x. size (tree_of x)) e) in
    let inside : 12 * n ≤ length work = omega (arith, fits, ap nodes_of e) in
    rw r (
      omega (arith, inside, p, length-append part (drop (12 * n) work), length-drop (12 * n) work),
      ap (λ x. drop x (part ++ drop (12 * n) work)) (sym s) ∙ drop_at part (drop (12 * n) work) (12 * n) p ∙ ap (λ x. drop x work) s,
    )
