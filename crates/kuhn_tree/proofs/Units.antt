-- The fans of Kuhn's deal divide C, a path has at most m decisions, every decision has two actions, and its depth is its history's. Assumes nothing.
use mathlib.Core.Path.{◌≡◌, refl, sym, ap, ap₂, ◌∙◌}
use mathlib.Core.Logic.{inl, inr}
use mathlib.Core.Bool.{Bool, true, false}
use mathlib.Core.List.{List, [], ◌∷◌, ◌++◌}
use Prim.Native.Nat.{ℕ, zero, suc, pred, ◌+◌, ◌*◌, ◌-◌, ◌≤◌, ◌<◌, max, zero-le, suc-le-suc}
use native.Mathlib.Nat as NatL
use native.Mathlib.Numerals.{add-one}
use native.Mathlib.Omega.{arith}
use lib.ListN.{length, drop, length-append}
use Rattle.game_tree.proofs.Counting.{In}
use Rattle.game_tree.specs.Tree.{Key, Tree, fan}
use Rattle.game_tree.specs.Conditions.{Splits, SplitsAll, Every, EveryAll}
use Rattle.game_tree.specs.Sets.{height}
use Rattle.game_tree.specs.Shape.{Heights, HeightsAll, Levels, LevelsAll}
use Rattle.kuhn_rules.specs.Rules.{PASS, BET, ended, remaining}
use Rattle.kuhn_tree.specs.Tree.{each, m, tree_of_kuhn, factorial, C}
use Rattle.kuhn_tree.proofs.Cards.{remaining_less, remaining_all}
use Rattle.kuhn_tree.proofs.Shape.{hand, deals, kuhn-deals}

pub each_fan : (l : List ℕ) (g : ℕ → Tree) → fan (each l g) ≡ length l
unfolding each fan
each_fan [] g = refl
each_fan (c ∷ l) g = ap suc (each_fan l g)

each_splits : (q r : ℕ) (l : List ℕ) (g : ℕ → Tree) → ((c : ℕ) → In c l → Splits q r (g c)) → SplitsAll q r (each l g)
unfolding each Splits In
each_splits q r [] g h = tt
each_splits q r (c ∷ l) g h = (h c (inl refl), each_splits q r l g (λ x w. h x (inr w)))

module _ (P : ℕ → Key → ℕ → Type 0) where
  each_every : (l : List ℕ) (g : ℕ → Tree) → ((c : ℕ) → Every P (g c)) → EveryAll P (each l g)
  unfolding each Every
  each_every [] g h = tt
  each_every (c ∷ l) g h = (h c, each_every l g h)

each_heights : (d : ℕ → Key → ℕ) (l : List ℕ) (g : ℕ → Tree) → ((c : ℕ) → Heights d (g c)) → HeightsAll d (each l g)
unfolding each Heights
each_heights d [] g h = tt
each_heights d (c ∷ l) g h = (h c, each_heights d l g h)

each_levels : (v : ℕ → Key → ℕ) (d : ℕ) (l : List ℕ) (g : ℕ → Tree) → ((c : ℕ) → Levels v d (g c)) → LevelsAll v d (each l g)
unfolding each Levels
each_levels v d [] g h = tt
each_levels v d (c ∷ l) g h = (h c, each_levels v d l g h)

module _ (ante bet n : ℕ) where
  -- ---- units
  hand-splits : (q : ℕ) (cs : List ℕ) (r : ℕ) (b : Bool) (h : List ℕ) → Splits q r (hand ante bet n cs r b h)
  unfolding hand Splits
  hand-splits q cs zero b h = tt
  hand-splits q cs (suc r) true h = tt
  hand-splits q cs (suc r) false h = (suc-le-suc zero-le, (hand-splits q cs r (ended n (h ++ (PASS ∷ []))) (h ++ (PASS ∷ [])), (hand-splits q cs r (ended n (h ++ (BET ∷ []))) (h ++ (BET ∷ [])), tt)))

  deals-splits : (k L : ℕ) (cs : List ℕ) → length (remaining n cs) ≡ L → k ≤ L → Splits (factorial L) (m n) (deals ante bet n k cs)
  unfolding deals Splits factorial
  deals-splits zero L cs e l = hand-splits (factorial L) cs (m n) (ended n []) []
  deals-splits (suc k) zero cs e l = absurd (NatL.not-suc-le-zero l)
  deals-splits (suc k) (suc L) cs e l = (
    factorial L,
    ap (λ x. x * factorial L) (sym is_fan),
    rw is_fan (suc-le-suc zero-le),
    each_splits (factorial L) (m n) (remaining n cs) (λ c. deals ante bet n k (cs ++ (c ∷ [])))
        (λ c w. deals-splits k L (cs ++ (c ∷ [])) (omega (arith, remaining_less n cs c w)) (NatL.le_of_suc-le-suc l)),
  )
    where
      is_fan : fan (each (remaining n cs) (λ c. deals ante bet n k (cs ++ (c ∷ [])))) ≡ suc L
      is_fan = each_fan (remaining n cs) (λ c. deals ante bet n k (cs ++ (c ∷ []))) ∙ e

  pub kuhn-splits : Splits (C n) (m n) (tree_of_kuhn ante bet n)
  unfolding C
  kuhn-splits = rw (kuhn-deals ante bet n, add-one n) (deals-splits n (suc n) [] (remaining_all n) (NatL.le-suc n))

  -- ---- what the key tells: the seat, two actions, the depth
  hand-every : (P : ℕ → Key → ℕ → Type 0) → ((j c : ℕ) (h : List ℕ) → P j (j ∷ c ∷ h) 2) → (cs : List ℕ) (r : ℕ) (b : Bool) (h : List ℕ) → Every P (hand ante bet n cs r b h)
  unfolding hand Every fan
  hand-every P g cs zero b h = tt
  hand-every P g cs (suc r) true h = tt
  hand-every P g cs (suc r) false h = (g _ _ h, (hand-every P g cs r (ended n (h ++ (PASS ∷ []))) (h ++ (PASS ∷ [])), (hand-every P g cs r (ended n (h ++ (BET ∷ []))) (h ++ (BET ∷ [])), tt)))

  deals-every : (P : ℕ → Key → ℕ → Type 0) → ((j c : ℕ) (h : List ℕ) → P j (j ∷ c ∷ h) 2) → (k : ℕ) (cs : List ℕ) → Every P (deals ante bet n k cs)
  unfolding deals Every
  deals-every P g zero cs = hand-every P g cs (m n) (ended n []) []
  deals-every P g (suc k) cs = each_every P (remaining n cs) (λ c. deals ante bet n k (cs ++ (c ∷ []))) (λ c. deals-every P g k (cs ++ (c ∷ [])))

  -- what holds of any seat, card and history with two actions holds of every decision
  pub kuhn-every : (P : ℕ → Key → ℕ → Type 0) → ((j c : ℕ) (h : List ℕ) → P j (j ∷ c ∷ h) 2) → Every P (tree_of_kuhn ante bet n)
  kuhn-every P g = rw (kuhn-deals ante bet n) (deals-every P g n [])

  hand-height : (cs ds : List ℕ) (r : ℕ) (b : Bool) (h : List ℕ) → height (hand ante bet n cs r b h) ≡ height (hand ante bet n ds r b h)
  unfolding hand height
  hand-height cs ds zero b h = refl
  hand-height cs ds (suc r) true h = refl
  hand-height cs ds (suc r) false h = ap₂ (λ x y. suc (max x (max y 0))) (hand-height cs ds r (ended n (h ++ (PASS ∷ []))) (h ++ (PASS ∷ []))) (hand-height cs ds r (ended n (h ++ (BET ∷ []))) (h ++ (BET ∷ [])))

  -- the depth at a history: whatever the cards
  unfoldable pub depth_at : List ℕ → ℕ
  depth_at h = height (hand ante bet n [] (m n - length h) false h)

  hand-heights : (cs : List ℕ) (r : ℕ) (b : Bool) (h : List ℕ) → length h + r ≡ m n → Heights (λ j k. depth_at (drop 2 k)) (hand ante bet n cs r b h)
  unfolding hand Heights depth_at
  hand-heights cs zero b h l = tt
  hand-heights cs (suc r) true h l = tt
  hand-heights cs (suc r) false h l = (
    hand-height cs [] (suc r) false h ∙ ap (λ x. height (hand ante bet n [] x false h)) rest,
    (hand-heights cs r (ended n (h ++ (PASS ∷ []))) (h ++ (PASS ∷ [])) (longer PASS), (hand-heights cs r (ended n (h ++ (BET ∷ []))) (h ++ (BET ∷ [])) (longer BET), tt)),
  )
    where
      rest : suc r ≡ m n - length h
      rest = omega arith

      longer : (a : ℕ) → length (h ++ (a ∷ [])) + r ≡ m n
      longer a = omega (arith, length-append h (a ∷ []))

  deals-heights : (k : ℕ) (cs : List ℕ) → Heights (λ j k. depth_at (drop 2 k)) (deals ante bet n k cs)
  unfolding deals Heights
  deals-heights zero cs = hand-heights cs (m n) (ended n []) [] (NatL.zero-add (m n))
  deals-heights (suc k) cs = each_heights (λ j k. depth_at (drop 2 k)) (remaining n cs) (λ c. deals ante bet n k (cs ++ (c ∷ []))) (λ c. deals-heights k (cs ++ (c ∷ [])))

  pub kuhn-heights : Heights (λ j k. depth_at (drop 2 k)) (tree_of_kuhn ante bet n)
  kuhn-heights = rw (kuhn-deals ante bet n) (deals-heights n [])

  -- ---- the nodes above a decision: the cards and its history
  module _ (d : ℕ) where
    unfoldable pub level_at : ℕ → Key → ℕ
    level_at j k = d - (n + length (drop 2 k) + 1)

    hand-levels : (cs : List ℕ) (r : ℕ) (b : Bool) (h : List ℕ) (x : ℕ) → r < x → n + length h + x ≡ d → Levels level_at x (hand ante bet n cs r b h)
    unfolding hand Levels level_at
    hand-levels cs zero b h x l e = omega arith
    hand-levels cs (suc r) true h x l e = omega arith
    hand-levels cs (suc r) false h x l e = (
      omega arith,
      omega arith,
      (hand-levels cs r (ended n (h ++ (PASS ∷ []))) (h ++ (PASS ∷ [])) (pred x) (omega arith) (longer PASS), (hand-levels cs r (ended n (h ++ (BET ∷ []))) (h ++ (BET ∷ [])) (pred x) (omega arith) (longer BET), tt)),
    )
      where
        longer : (a : ℕ) → n + length (h ++ (a ∷ [])) + pred x ≡ d
        longer a = omega (arith, length-append h (a ∷ []))

    deals-levels : (k : ℕ) (cs : List ℕ) (x : ℕ) → k + m n < x → n + x ≡ d + k → Levels level_at x (deals ante bet n k cs)
    unfolding deals Levels
    deals-levels zero cs x l e = hand-levels cs (m n) (ended n []) [] x (omega arith) (omega arith)
    deals-levels (suc k) cs x l e = (
      omega arith,
      each_levels level_at (pred x) (remaining n cs) (λ c. deals ante bet n k (cs ++ (c ∷ []))) (λ c. deals-levels k (cs ++ (c ∷ [])) (pred x) (omega arith) (omega arith)),
    )

    pub kuhn-levels : n + m n < d → Levels level_at d (tree_of_kuhn ante bet n)
    kuhn-levels l = rw (kuhn-deals ante bet n) (deals-levels n [] d l (NatL.add_comm n d))
