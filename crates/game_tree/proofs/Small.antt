-- The theorem tried on the small tree: its premises hold, its numbers are computed. Nothing is assumed.
use mathlib.Core.Path.{refl, subst}
use mathlib.Core.Bool.{cond}
use mathlib.Core.List.{[], ◌∷◌}
use native.Mathlib.Omega.{arith}
use lib.Dec.{eqb}
use lib.Signed.{◌≤ℤ◌}
use Rattle.game_tree.specs.Sums.{◌·◌, sum, sumℕ, parts}
use Rattle.game_tree.specs.Tree.{Key, all, worth}
use Rattle.game_tree.specs.Conditions.{Splits, Pays, Every, Valid, units}
use Rattle.game_tree.specs.Reply.{value, with_key, highest, best, reply}
use Rattle.game_tree.specs.Recall.{Path, Recall, PerfectRecall}
use Rattle.game_tree.specs.Small.{small, given, seen}
use Rattle.game_tree.specs.Theorem.{SmallPremises, SmallChoices, SmallNumbers, SmallNoUnits, SmallNoRival}
use Rattle.game_tree.proofs.Rival.{no_rival_better}

-- seat 0 comes to set 4 by action 1 of set 1, to its other sets by no move of its own
unfoldable before : Key → Path
before [] = []
before (n ∷ k) = cond (eqb n 4) ((1 ∷ [], 1) ∷ []) []

small-splits : Splits 3 2 small
unfolding Splits small
small-splits = (1, refl, omega arith, omega arith)

small-recall : PerfectRecall 0 small
unfolding Recall small before
small-recall = (
  before,
  (λ k. 2),
  (
    ((λ e. (refl, refl)), (tt, (((λ e. (refl, refl)), (tt, (tt, tt))), tt))),
    (
      ((λ e. (refl, refl)), (tt, (((λ e. (refl, refl)), (tt, (tt, tt))), tt))),
      (((λ e. absurd (omega arith)), (tt, (((λ e. (refl, refl)), (tt, (tt, tt))), tt))), tt),
    ),
  ),
)

small-valid : Valid (all 2) given small
unfolding Every small given parts
small-valid = ((refl, (tt, ((refl, (tt, (tt, tt))), tt))), ((refl, (tt, ((refl, (tt, (tt, tt))), tt))), ((refl, (tt, ((refl, (tt, (tt, tt))), tt))), tt)))

small-pays : Pays 5 0 small
unfolding Pays small
small-pays = omega arith

pub small_premises : SmallPremises
small_premises = (small-splits, small-recall, small-valid, small-pays)

pub small-choices : SmallChoices
unfolding seen best highest sum with_key value ◌·◌
small-choices = (refl, refl, refl, refl)

pub small-numbers : SmallNumbers
unfolding seen best units worth reply given ◌·◌
small-numbers = (refl, refl, refl, refl)

pub small_no_units : SmallNoUnits
unfolding seen sumℕ with_key reply ◌·◌
small_no_units = (refl, refl, refl)

pub small_no_rival : SmallNoRival
unfolding seen
small_no_rival z v = subst (λ x. worth (all 2) z 0 12 small ≤ℤ x) small-numbers.2
    (no_rival_better 3 2 2 0 given z small (omega arith) small-splits small-recall v)
