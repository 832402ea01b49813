-- That NashConv is the same from −0.0 as from 0.0: in both games chance moves first, so the first difference is not −0.0. Assumes nothing.
use mathlib.Core.Path.{◌≡◌, refl, sym, ap, ◌∙◌}
use mathlib.Core.List.{List, [], ◌∷◌, ◌++◌}
use Prim.Native.Nat.{ℕ, zero, suc, ◌≤◌}
use native.Mathlib.Omega.{arith}
use lib.Dec.{T}
use lib.Ieee.{Float, binary64, sub, neg, fits}
use lib.Ieee.Fits.{add-fits}
use Rattle.prelude.specs.Finite.{places}
use Rattle.game_tree.specs.Tree.{Tree, end, chance, decide}
use Rattle.game_tree_f64.specs.Values.{Profile, profile_of, nought, plus, best_value, worth}
use Rattle.game_tree_f64.specs.Signs.{minus_nought, sum_from}
use Rattle.game_tree_f64.proofs.Signs.{gain_signed, start_signed}
use Rattle.games.specs.Games.{Game, tree_of}
use Rattle.arena_store.proofs.Shaped.{games_shaped}
use Rattle.arena_store.proofs.Room.{Deals, root-deals}
use Rattle.f64_games.specs.Values.{best_of, worth_of, gaps}
use Rattle.f64_games.specs.Signs.{FromMinusNought}

-- ---- a sum takes its last number last
sum_last : (v : Float) (xs : List Float) (x : Float) → sum_from v (xs ++ (x ∷ [])) ≡ plus (sum_from v xs) x
unfolding sum_from
sum_last v [] x = refl
sum_last v (y ∷ xs) x = sum_last (plus v y) xs x

-- from −0.0 as from 0.0
same_start : (d : ℕ → Float) (n : ℕ) → T (fits binary64 (d 0)) → (d 0 ≡ minus_nought → ⊥) → sum_from minus_nought (places (suc n) d) ≡ sum_from nought (places (suc n) d)
unfolding places
same_start d zero h c = start_signed (d 0) [] h c
same_start d (suc n) h c = sum_last minus_nought (places (suc n) d) (d (suc n)) ∙ ap (λ v. plus v (d (suc n))) (same_start d n h c) ∙ sym (sum_last nought (places (suc n) d) (d (suc n)))

module _ (g : Game) (P : List Float) where
  abbrev difference : ℕ → Float
  difference i = sub binary64 (best_of g P i) (worth_of g P i)

  gaps_sum : (n : ℕ) → sum_from nought (places n difference) ≡ gaps g P n
  unfolding sum_from places gaps
  gaps_sum zero = refl
  gaps_sum (suc n) = sum_last nought (places n difference) (difference n) ∙ ap (λ v. plus v (difference n)) (gaps_sum n)

-- ---- where chance moves first
first_signed : (s : Profile) (t : Tree) → Deals t → sub binary64 (best_value s 0 t) (worth s 0 t) ≡ minus_nought → ⊥
unfolding Deals
first_signed s (end p) d = absurd d
first_signed s (chance f) d = gain_signed s 0 f
first_signed s (decide j k f) d = absurd d

pub from_minus-nought : FromMinusNought
unfolding sub best_of worth_of
from_minus-nought g P a = some g.seats (games_shaped g a).least
  where
    some : (n : ℕ) → 2 ≤ n → sum_from minus_nought (places n (difference g P)) ≡ gaps g P n
    some zero h = absurd (omega arith)
    some (suc n) h = same_start (difference g P) n (add-fits binary64 (best_of g P 0) (neg (worth_of g P 0))) (first_signed (profile_of (tree_of g) P) (tree_of g) (root-deals g a)) ∙ gaps_sum g P (suc n)
