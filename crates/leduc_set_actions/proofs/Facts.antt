-- The program's words say of each set what the rules give. Assumes nothing.
use mathlib.Core.Path.{◌≡◌, refl, sym, ap, ◌∙◌}
use mathlib.Core.List.{List, [], ◌∷◌}
use Prim.Native.Nat.{ℕ, ◌+◌, ◌/◌, ◌%◌, ◌^◌, ◌<◌}
use lib.ListN.{length, get_or}
use Rattle.prelude.specs.Finite.{◌and◌, ◌or◌, some, those, has, places}
use Rattle.prelude.proofs.Lists.{length-places, get_d_places}
use Rattle.leduc_betting.specs.Betting.{ends_with, folded, closes, behind, raises, may, options, in_play, turn, ended}
use Rattle.leduc_betting.specs.Cards.{left, remaining}
use Rattle.leduc_rules.specs.Rules.{public-due, due}
use Rattle.leduc_tree.specs.Tree.{next}
use Rattle.leduc_tree.specs.Turns.{joined, turns, is_first, first_ones, first_turns, actions_in_order}

-- 64 sets to a word, the first at its lowest bit, which is 1 where a set has three actions
unfoldable pub threes : List ℕ
threes = 5855394372711158864 ∷ 1464027263805854996 ∷ 10539885775171167370 ∷ 5270980756769114402 ∷ 2635490378384557202 ∷ 10541117226047054409
    ∷ 9589378887165976868 ∷ 11712196120215693474 ∷ 10540996578643184168 ∷ 10543248494353860900 ∷ 1464027307301161256 ∷ 5270417885352241737
    ∷ 1317624576717505682 ∷ 5270498699437707849 ∷ 314146178194 ∷ []

unfoldable pub actions_at : ℕ → ℕ
unfolding threes
actions_at s = 2 + get_or threes (s / 64) 0 / 2 ^ (s % 64) % 2

pub in_words : actions_in_order ≡ places 936 actions_at
unfolding actions_at threes places actions_in_order first_turns first_ones is_first turns joined next ◌and◌ ◌or◌ some those has ends_with folded closes behind raises may options in_play turn ended left remaining public-due due
in_words = refl

pub actions_in_all : length actions_in_order ≡ 936
actions_in_all = ap length in_words ∙ length-places 936 actions_at

pub actions_at_lem : (s : ℕ) → s < 936 → 2 + get_or threes (s / 64) 0 / 2 ^ (s % 64) % 2 ≡ get_or actions_in_order s 0
unfolding actions_at
actions_at_lem s w = sym (get_d_places 936 actions_at s 0 w) ∙ ap (λ l. get_or l s 0) (sym in_words)
