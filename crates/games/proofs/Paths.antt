-- The facts of specs/Paths.antt: Kuhn's by its deals and one path of each hand, Leduc's by computing. Assumes nothing.
use mathlib.Core.Path.{◌≡◌, refl, sym, ap, ap₂, subst, ◌∙◌}
use mathlib.Core.Logic.{inl, inr}
use mathlib.Core.Bool.{Bool, true, false, cond}
use mathlib.Core.List.{List, [], ◌∷◌, ◌++◌}
use Prim.Native.Nat.{ℕ, zero, suc, pred, ◌*◌, ◌-◌, ◌≤◌, ◌<◌, max, zero-le, suc-le-suc}
use native.Mathlib.Nat as NatL
use native.Mathlib.Numerals.{add-one}
use native.Mathlib.Omega.{arith}
use lib.Dec.{eqb}
use lib.ListN.{length, replicate}
use borrow.Author.Tests.{eqb-true, eqb-false}
use Rattle.prelude.specs.Finite.{◌and◌, ◌or◌, some, every, those, has}
use Rattle.prelude.proofs.Tests.{Tested, holds, fails, tested}
use Rattle.game_tree.specs.Tree.{Tree, end, chance, decide, Trees, nil, cons, fan}
use Rattle.game_tree.specs.Conditions.{Splits, SplitsAll}
use Rattle.game_tree.specs.Sets.{height, height_all}
use Rattle.game_tree.proofs.Counting.{In}
use Rattle.kuhn_rules.specs.Rules.{PASS, BET, bet-made, after-bet, ended, remaining}
use Rattle.kuhn_tree.specs.Tree as Kuhn
use Rattle.kuhn_tree.specs.Tree.{each, tree_of_kuhn, factorial}
use Rattle.kuhn_tree.proofs.Cards.{remaining_less, remaining_all}
use Rattle.kuhn_tree.proofs.Shape.{hand, deals, kuhn-deals}
use Rattle.kuhn_tree.proofs.Units.{each_fan}
use Rattle.leduc_betting.specs.Betting as Betting
use Rattle.leduc_betting.specs.Cards as Cards
use Rattle.leduc_rules.specs.Rules as Rules
use Rattle.leduc_tree.specs.Tree as Leduc
use Rattle.leduc_tree.specs.Tree.{tree_of_leduc}
use Rattle.games.specs.Games.{tree_of, C, m}
use Rattle.games.specs.Paths.{widest, widest_all, EachPath, EachPathAll, largest_fan, largest_fan_all, GamesMeasured}
use Rattle.games.proofs.Counts.{each_seats, kuhn_least, kuhn_most}
use Rattle.games.proofs.Facts.{kuhn-tree_is, leduc-tree_is, games_fit}

-- ---- fans that split C divide it

mutual
  unfolding Splits EachPath

  divide : (T q c r : ℕ) (t : Tree) → T ≡ q * c → Splits c r t → EachPath (λ x. (y : ℕ) × (T ≡ x * y)) q t
  divide T q c r (end p) e h = (c, e)
  divide T q c r (chance f) e (d, i, l, h) = divide_all T (q * fan f) d r f (e ∙ ap (λ x. q * x) i ∙ sym (NatL.mul_assoc q (fan f) d)) h
  divide T q c r (decide j k f) e (l, h) = divide_all T q c (pred r) f e h

  divide_all : (T q c r : ℕ) (f : Trees) → T ≡ q * c → SplitsAll c r f → EachPathAll (λ x. (y : ℕ) × (T ≡ x * y)) q f
  divide_all T q c r nil e h = tt
  divide_all T q c r (cons t f) e (h, i) = (divide T q c r t e h, divide_all T q c r f e i)

-- ---- the greatest of equal numbers

max_same : (a b w : ℕ) → a ≡ w → b ≡ w → max a b ≡ w
max_same a b w e d = rw (e, d) (NatL.le_antisymm (NatL.max-le (NatL.le_refl w) (NatL.le_refl w)) (NatL.le-max_left w w))

max_none : (a w : ℕ) → a ≡ w → max a 0 ≡ w
max_none a w e = rw e (NatL.le_antisymm (NatL.max-le (NatL.le_refl w) zero-le) (NatL.le-max_left w 0))

each_widest : (w : ℕ) (l : List ℕ) (g : ℕ → Tree) → 0 < length l → ((c : ℕ) → In c l → widest (g c) ≡ w) → widest_all (each l g) ≡ w
unfolding each widest In
each_widest w [] g o h = absurd (omega arith)
each_widest w (c ∷ []) g o h = max_none (widest (g c)) w (h c (inl refl))
each_widest w (c ∷ d ∷ l) g o h = max_same (widest (g c)) (widest_all (each (d ∷ l) g)) w (h c (inl refl)) (each_widest w (d ∷ l) g (omega arith) (λ x i. h x (inr i)))

each_height : (w : ℕ) (l : List ℕ) (g : ℕ → Tree) → 0 < length l → ((c : ℕ) → In c l → height (g c) ≡ w) → height_all (each l g) ≡ w
unfolding each height In
each_height w [] g o h = absurd (omega arith)
each_height w (c ∷ []) g o h = max_none (height (g c)) w (h c (inl refl))
each_height w (c ∷ d ∷ l) g o h = max_same (height (g c)) (height_all (each (d ∷ l) g)) w (h c (inl refl)) (each_height w (d ∷ l) g (omega arith) (λ x i. h x (inr i)))

each_largest : (b : ℕ) (l : List ℕ) (g : ℕ → Tree) → ((c : ℕ) → In c l → largest_fan (g c) ≤ b) → largest_fan_all (each l g) ≤ b
unfolding each largest_fan In
each_largest b [] g h = zero-le
each_largest b (c ∷ l) g h = NatL.max-le (h c (inl refl)) (each_largest b l g (λ x i. h x (inr i)))

-- ---- Kuhn

-- the product of the k fans from L down
unfoldable falling : ℕ → ℕ → ℕ
falling zero L = 1
falling (suc k) zero = 0
falling (suc k) (suc L) = suc L * falling k L

falling_all : (n : ℕ) → falling n (suc n) ≡ factorial (suc n)
unfolding falling factorial
falling_all zero = refl
falling_all (suc n) = ap (λ x. suc (suc n) * x) (falling_all n)

-- BET or PASS
abbrev act : Bool → ℕ
act b = cond b BET PASS

-- no hand ends before the last of these actions
unfoldable plays : ℕ → List ℕ → List Bool → Bool
unfolding ended
plays n h [] = true
plays n h (b ∷ bs) = let r : Bool = plays n (h ++ (act b ∷ [])) bs in cond (ended n h) false r

-- all but the last seat pass, that one bets, and the others pass
abbrev longest : ℕ → List Bool
longest n = replicate (n - 1) false ++ (true ∷ replicate (n - 1) false)

longest-played : (n : ℕ) → 2 ≤ n → n ≤ 10 → (plays n [] (longest n) ≡ true) × (length (longest n) ≡ Kuhn.m n)
unfolding plays ◌and◌ ◌or◌ some every has those bet-made after-bet ended
longest-played = each_seats (λ n. (plays n [] (longest n) ≡ true) × (length (longest n) ≡ Kuhn.m n))
    (refl, refl) (refl, refl) (refl, refl) (refl, refl) (refl, refl) (refl, refl) (refl, refl) (refl, refl) (refl, refl)

module _ (n : ℕ) where
  hand-widest : (cs : List ℕ) (r : ℕ) (b : Bool) (h : List ℕ) → widest (hand 1 1 n cs r b h) ≡ 1
  unfolding hand widest
  hand-widest cs zero b h = refl
  hand-widest cs (suc r) true h = refl
  hand-widest cs (suc r) false h = ap₂ (λ x y. max x (max y 0)) (hand-widest cs r (ended n (h ++ (PASS ∷ []))) (h ++ (PASS ∷ []))) (hand-widest cs r (ended n (h ++ (BET ∷ []))) (h ++ (BET ∷ [])))

  hand_largest : (cs : List ℕ) (r : ℕ) (b : Bool) (h : List ℕ) → largest_fan (hand 1 1 n cs r b h) ≤ 2
  unfolding hand largest_fan fan
  hand_largest cs zero b h = zero-le
  hand_largest cs (suc r) true h = zero-le
  hand_largest cs (suc r) false h = NatL.max-le (NatL.le_refl 2) (NatL.max-le (hand_largest cs r (ended n (h ++ (PASS ∷ []))) (h ++ (PASS ∷ []))) (NatL.max-le (hand_largest cs r (ended n (h ++ (BET ∷ []))) (h ++ (BET ∷ []))) zero-le))

  hand_low : (cs : List ℕ) (r : ℕ) (b : Bool) (h : List ℕ) → height (hand 1 1 n cs r b h) ≤ r
  unfolding hand height
  hand_low cs zero b h = zero-le
  hand_low cs (suc r) true h = zero-le
  hand_low cs (suc r) false h = suc-le-suc (NatL.max-le (hand_low cs r (ended n (h ++ (PASS ∷ []))) (h ++ (PASS ∷ []))) (NatL.max-le (hand_low cs r (ended n (h ++ (BET ∷ []))) (h ++ (BET ∷ []))) zero-le))

  hand-tall : (cs : List ℕ) (bs : List Bool) (r : ℕ) (h : List ℕ) → length bs ≤ r → plays n h bs ≡ true → length bs ≤ height (hand 1 1 n cs r (ended n h) h)
  unfolding plays hand height
  hand-tall cs [] r h l p = zero-le
  hand-tall cs (b ∷ bs) zero h l p = absurd (omega arith)
  hand-tall cs (b ∷ bs) (suc r) h l p = at (ended n h) b p (λ q. hand-tall cs bs r (h ++ (act b ∷ [])) (omega arith) q)
    where
      at : (e : Bool) (b : Bool) → cond e false (plays n (h ++ (act b ∷ [])) bs) ≡ true
          → (plays n (h ++ (act b ∷ [])) bs ≡ true → length bs ≤ height (hand 1 1 n cs r (ended n (h ++ (act b ∷ []))) (h ++ (act b ∷ []))))
          → suc (length bs) ≤ height (hand 1 1 n cs (suc r) e h)
      at true b q o = let z : ◌≡◌ {A = ℕ} 0 1 = cc in absurd (omega arith)
      at false true q o = suc-le-suc (NatL.le_trans (o q) (NatL.le_trans (NatL.le-max_left _ 0) (NatL.le-max_right _ _)))
      at false false q o = suc-le-suc (NatL.le_trans (o q) (NatL.le-max_left _ _))

  deals-widest : (k L : ℕ) (cs : List ℕ) → length (remaining n cs) ≡ L → k ≤ L → widest (deals 1 1 n k cs) ≡ falling k L
  unfolding deals widest falling
  deals-widest zero L cs e l = hand-widest cs (Kuhn.m n) (ended n []) []
  deals-widest (suc k) zero cs e l = absurd (omega arith)
  deals-widest (suc k) (suc L) cs e l = ap₂ ◌*◌ (each_fan (remaining n cs) (λ c. deals 1 1 n k (cs ++ (c ∷ []))) ∙ e)
      (each_widest (falling k L) (remaining n cs) (λ c. deals 1 1 n k (cs ++ (c ∷ []))) (omega arith)
      (λ c w. deals-widest k L (cs ++ (c ∷ [])) (omega (arith, remaining_less n cs c w)) (omega arith)))

  deals_largest : (b k : ℕ) (cs : List ℕ) → length (remaining n cs) ≤ b → 2 ≤ b → largest_fan (deals 1 1 n k cs) ≤ b
  unfolding deals largest_fan
  deals_largest b zero cs l w = NatL.le_trans (hand_largest cs (Kuhn.m n) (ended n []) []) w
  deals_largest b (suc k) cs l w = NatL.max-le (rw (each_fan (remaining n cs) (λ c. deals 1 1 n k (cs ++ (c ∷ [])))) l)
      (each_largest b (remaining n cs) (λ c. deals 1 1 n k (cs ++ (c ∷ []))) (λ c v. deals_largest b k (cs ++ (c ∷ [])) (omega (arith, remaining_less n cs c v)) w))

  module _ (d : ℕ) (is : (cs : List ℕ) → height (hand 1 1 n cs (Kuhn.m n) (ended n []) []) ≡ d) where
    deals-height : (k L : ℕ) (cs : List ℕ) → length (remaining n cs) ≡ L → k ≤ L → height (deals 1 1 n k cs) ≡ d
    unfolding deals height
    deals-height zero L cs e l = is cs
    deals-height (suc k) zero cs e l = absurd (omega arith)
    deals-height (suc k) (suc L) cs e l = each_height d (remaining n cs) (λ c. deals 1 1 n k (cs ++ (c ∷ []))) (omega arith)
        (λ c w. deals-height k L (cs ++ (c ∷ [])) (omega (arith, remaining_less n cs c w)) (omega arith))

  kuhn-widest : widest (tree_of_kuhn 1 1 n) ≡ Kuhn.C n
  unfolding Kuhn.C
  kuhn-widest = ap widest (kuhn-deals 1 1 n) ∙ deals-widest n (suc n) [] (remaining_all n) (NatL.le-suc n) ∙ falling_all n ∙ ap factorial (sym (add-one n))

  kuhn_largest : n ≤ 10 → largest_fan (tree_of_kuhn 1 1 n) ≤ 11
  kuhn_largest w = rw (kuhn-deals 1 1 n) (deals_largest 11 n [] (omega (arith, remaining_all n)) (omega arith))

  kuhn-height : 2 ≤ n → n ≤ 10 → height (tree_of_kuhn 1 1 n) ≡ Kuhn.m n
  kuhn-height v w = ap height (kuhn-deals 1 1 n) ∙ deals-height (Kuhn.m n) is n (suc n) [] (remaining_all n) (NatL.le-suc n)
    where
      is : (cs : List ℕ) → height (hand 1 1 n cs (Kuhn.m n) (ended n []) []) ≡ Kuhn.m n
      is cs = let (p, q) = longest-played n v w in
          NatL.le_antisymm (hand_low cs (Kuhn.m n) (ended n []) [])
          (subst (λ x. x ≤ height (hand 1 1 n cs (Kuhn.m n) (ended n []) [])) q (hand-tall cs (longest n) (Kuhn.m n) [] (omega (arith, q)) p))

-- ---- Leduc

leduc-measures : (height (tree_of_leduc 1 2 4) ≡ 8) × (widest (tree_of_leduc 1 2 4) ≡ 120) × (largest_fan (tree_of_leduc 1 2 4) ≡ 6)
unfolding height widest largest_fan tree_of_leduc Leduc.below Leduc.next Leduc.each ◌and◌ ◌or◌ some those has Betting.ends_with Betting.folded Betting.closes
    Betting.behind Betting.raises Betting.may Betting.options Betting.in_play Betting.turn Betting.ended Cards.left Cards.remaining Rules.public-due
    Rules.due
leduc-measures = (refl, refl, refl)

-- ---- both

pub games_measured : GamesMeasured
games_measured g known out = record {
  decisions = heights (tested (eqb g.number 0));
  product = products (tested (eqb g.number 0));
  divides = divide (C g) 1 (C g) (m g) (tree_of g) (sym (NatL.one-mul (C g))) (games_fit g known out).splits;
  fans = fans (tested (eqb g.number 0));
}
  where
    heights : Tested (eqb g.number 0) → height (tree_of g) ≡ m g
    heights (holds t) = let k = eqb-true g.number 0 t in ap height (kuhn-tree_is g k) ∙ kuhn-height g.seats (kuhn_least g k out) (kuhn_most g k out) ∙ ap (λ b. cond b (Kuhn.m g.seats) 8) (sym t)
    heights (fails t) = ap height (leduc-tree_is g (eqb-false g.number 0 t)) ∙ leduc-measures.0 ∙ ap (λ b. cond b (Kuhn.m g.seats) 8) (sym t)

    products : Tested (eqb g.number 0) → widest (tree_of g) ≡ C g
    products (holds t) = ap widest (kuhn-tree_is g (eqb-true g.number 0 t)) ∙ kuhn-widest g.seats ∙ ap (λ b. cond b (Kuhn.C g.seats) 120) (sym t)
    products (fails t) = ap widest (leduc-tree_is g (eqb-false g.number 0 t)) ∙ leduc-measures.1 ∙ ap (λ b. cond b (Kuhn.C g.seats) 120) (sym t)

    fans : Tested (eqb g.number 0) → largest_fan (tree_of g) ≤ 11
    fans (holds t) = let k = eqb-true g.number 0 t in rw (kuhn-tree_is g k) (kuhn_largest g.seats (kuhn_most g k out))
    fans (fails t) = omega (arith, ap largest_fan (leduc-tree_is g (eqb-false g.number 0 t)) ∙ leduc-measures.2)
