-- Where −0.0 arises in a profile's values, statement by statement. Each is proved in proofs/Signs.antt, which assumes nothing.
-- NashConv starts at 0.0 (document 01), the Rust's `sum` at −0.0:
-- they are the same, since no difference of a best value and a worth is −0.0.
use Rattle.std.specs.Prelude.{◌≡◌, Bool, List, [], ◌∷◌, ℕ, T, Float}
use Rattle.std.specs.Float.{binary64}
use Rattle.std.specs.Float.Ieee.{of_bits, sub, fits}
use Rattle.game_tree.specs.Tree.{chance, Trees}
use Rattle.game_tree.specs.Reply.{Choice}
use Rattle.game_tree_f64.specs.Values.{Profile, nought, plus, value, added, best_value, worth}

abbrev pub minus_nought : Float
minus_nought = of_bits binary64 9223372036854775808

-- the sum of a list's numbers from v on
unfoldable pub sum_from : Float → List Float → Float
sum_from v [] = v
sum_from v (d ∷ ds) = sum_from (plus v d) ds

-- 1. A sum over children that starts at another number than −0.0 is not −0.0.
abbrev pub SumSigned : Type 0
SumSigned = (s : Profile) (i : ℕ) (owns : ℕ → Bool) (c : Choice) (w : ℕ → Float) (a : ℕ) (v : Float) (f : Trees)
    → T (fits binary64 v) → (v ≡ minus_nought → ⊥)
    → added s i owns c w a v f ≡ minus_nought → ⊥

-- So the value of a chance node is not.
abbrev pub ChanceSigned : Type 0
ChanceSigned = (s : Profile) (i : ℕ) (owns : ℕ → Bool) (c : Choice) (f : Trees) → value s i owns c (chance f) ≡ minus_nought → ⊥

-- 2. x − y is −0.0 only if x is.
abbrev pub DifferenceSigned : Type 0
DifferenceSigned = (x y : Float) → T (fits binary64 x) → T (fits binary64 y) → sub binary64 x y ≡ minus_nought → x ≡ minus_nought

-- So a best value − a worth is not −0.0, where chance moves first.
abbrev pub GainSigned : Type 0
GainSigned = (s : Profile) (i : ℕ) (f : Trees) → sub binary64 (best_value s i (chance f)) (worth s i (chance f)) ≡ minus_nought → ⊥

-- 3. A sum of numbers, the first of which is not −0.0, is the same from −0.0 as from 0.0.
abbrev pub StartSigned : Type 0
StartSigned = (d : Float) (ds : List Float) → T (fits binary64 d) → (d ≡ minus_nought → ⊥)
    → sum_from minus_nought (d ∷ ds) ≡ sum_from nought (d ∷ ds)
