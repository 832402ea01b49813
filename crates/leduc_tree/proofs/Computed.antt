-- What is computed over all turns of Leduc: the rule on the cards tells the first nodes of sets, and how many sets and entries there are. Assumes nothing.
use mathlib.Core.Path.{◌≡◌, refl, ap, ◌∙◌}
use mathlib.Core.Bool.{Bool, true}
use mathlib.Core.List.{List, [], map}
use Prim.Native.Nat.{ℕ}
use lib.Dec.{eqb}
use lib.ListN.{length}
use borrow.Author.Tests.{eqb-true}
use Rattle.prelude.specs.Finite.{◌and◌, ◌or◌, some, those, has}
use Rattle.prelude.proofs.Tests.{and_left, and_right}
use Rattle.game_tree.specs.Sets.{Decision, met, firsts, sets, set_count, entries, entries_of}
use Rattle.game_tree.proofs.Tries.{none, finds}
use Rattle.leduc_betting.specs.Betting.{ends_with, folded, closes, behind, raises, may, options, in_play, turn, ended}
use Rattle.leduc_betting.specs.Cards.{left, remaining}
use Rattle.leduc_rules.specs.Rules.{public-due, due, key}
use Rattle.leduc_tree.specs.Tree.{Position, start, payoff, next, fuel, tree_of_leduc}
use Rattle.leduc_tree.specs.Turns.{turns, first_ones, first_turns, decision_at}
use Rattle.leduc_tree.proofs.Firsts.{below_decisions, Tells, tells-firsts, told, told-tells}

-- so many are the sets and their entries
unfoldable many : List Decision → Bool
many xs = eqb (length xs) 936 and eqb (entries_of xs) 2184

-- the rule tells of the turns qs which are the first of their set, and so many are those
unfoldable checked : List Position → Bool
checked qs = told none qs and many (map decision_at (first_ones qs))

is_checked : checked (turns fuel (next start) start) ≡ true
unfolding checked many told turns first_ones entries_of next ◌and◌ ◌or◌ some those has ends_with folded closes behind raises may options in_play turn ended left remaining public-due due key
is_checked = refl

pub turns-told : Tells [] (turns fuel (next start) start)
unfolding checked finds met
turns-told = told-tells none [] (turns fuel (next start) start) (λ j k. refl) (and_left _ _ is_checked)

is_many : many (map decision_at first_turns) ≡ true
unfolding checked first_turns
is_many = and_right _ _ is_checked

module _ (ante raise₁ raise₂ : ℕ) where
  pub first_of_set : sets (tree_of_leduc ante raise₁ raise₂) ≡ map decision_at first_turns
  unfolding sets tree_of_leduc first_turns
  first_of_set = ap (firsts []) (below_decisions (payoff ante raise₁ raise₂) fuel (next start) start) ∙ tells-firsts [] (turns fuel (next start) start) turns-told

  pub set-count : set_count (tree_of_leduc ante raise₁ raise₂) ≡ 936
  unfolding many
  set-count = ap length first_of_set ∙ eqb-true _ _ (and_left _ _ is_many)

  pub entry-count : entries (tree_of_leduc ante raise₁ raise₂) ≡ 2184
  unfolding many
  entry-count = ap entries_of first_of_set ∙ eqb-true _ _ (and_right _ _ is_many)
