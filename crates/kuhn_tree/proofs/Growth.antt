-- Kuhn's tree follows the rules from the start, and more fuel changes nothing. Assumes nothing.
use mathlib.Core.Path.{◌≡◌, refl, sym, ap, ap₂, ◌∙◌}
use mathlib.Core.Logic.{inl, inr}
use mathlib.Core.Bool.{Bool, true, false, not, cond}
use mathlib.Core.List.{List, [], ◌∷◌, ◌++◌, map}
use Prim.Native.Nat.{ℕ, zero, suc, ◌+◌, ◌*◌, ◌-◌, ◌≤◌, ◌<◌}
use native.Mathlib.Nat as NatL
use native.Mathlib.Numerals.{add-one}
use native.Mathlib.Omega.{arith}
use lib.Dec.{eqb, leb}
use lib.ListN.{length, take, length-append}
use lib.Seq.{take-append-le, take-length}
use borrow.Author.Tests.{ltb-true, ltb-false, eqb-true, eq-eqb, not-true}
use Rattle.prelude.specs.Finite.{◌and◌, ◌or◌, some}
use Rattle.prelude.proofs.Tests.{Tested, holds, fails, tested, both, and_left, and_right, neither, some_same}
use Rattle.game_tree.proofs.Counting.{In}
use Rattle.game_tree.specs.Tree.{Tree, chance, decide, cons}
use Rattle.kuhn_rules.specs.Rules.{PASS, BET, ended, overrun, turn, due, live, over, remaining, legal, key}
use Rattle.kuhn_rules.specs.Moves.{Reached, start, deal, act}
use Rattle.kuhn_rules.proofs.Histories.{hand-lasts}
use Rattle.kuhn_tree.specs.Tree.{Next, card, action, nothing, next, each, below, m, fuel, tree_of_kuhn}
use Rattle.kuhn_tree.specs.Positions.{Position, dealt, acted}
use Rattle.kuhn_tree.specs.Follows.{Follows, FollowsAll}
use Rattle.kuhn_tree.proofs.Cards.{left_of_in}

-- ---- what is known of a reachable position
overrun_more : (n : ℕ) (h : List ℕ) (a : ℕ) → overrun n (h ++ (a ∷ [])) ≡ (overrun n h or ended n h)
unfolding overrun some
overrun_more n h a = ap (λ l. some l after) (length-append h (a ∷ []) ∙ add-one (length h))
    ∙ ap₂ ◌or◌ (some_same (length h) after (λ k. ended n (take k h)) (λ k w. ap (ended n) (take-append-le k h (a ∷ []) (omega arith))))
    (ap (ended n) (take-append-le (length h) h (a ∷ []) (NatL.le_refl (length h)) ∙ take-length h))
  where
    after : ℕ → Bool
    after k = ended n (take k (h ++ (a ∷ [])))

pub record Sound (n : ℕ) (cs h : List ℕ) : Type 0 where
  pub few : length cs ≤ n
  pub well : overrun n h ≡ false
  pub early : length cs < n → h ≡ []

module _ (n : ℕ) where
  pub sound : {cs h : List ℕ} → Reached n cs h → Sound n cs h
  unfolding overrun some
  sound start = record { few = omega arith; well = refl; early = λ l. refl }
  sound (deal {cs} {h} c r d l) =
      let w : length cs < n = ltb-true (length cs) n d in
      let g : Sound n cs h = sound r in
      record { few = omega (arith, length-append cs (c ∷ [])); well = g.well; early = λ v. g.early w }
  sound (act {cs} {h} a r l e) =
      let g : Sound n cs h = sound r in
      let q : length cs ≡ n = eqb-true (length cs) n (and_left (eqb (length cs) n) (not (ended n h)) l) in
      record {
        few = omega arith;
        well = overrun_more n h a ∙ neither g.well (not-true (ended n h) (and_right (eqb (length cs) n) (not (ended n h)) l));
        early = λ v. absurd (omega arith);
      }

  -- a seat may pass or bet
  pub legal-acts : (cs h : List ℕ) → live n cs h ≡ true → legal n cs h (turn n h) ≡ PASS ∷ BET ∷ []
  unfolding legal
  legal-acts cs h e = rw (both e (eq-eqb (turn n h) (turn n h) refl))

  -- ---- what comes next
  pub data Case (cs h : List ℕ) : Next → Type 0 where
    is_card : due n cs ≡ true → Case cs h card
    is_action : live n cs h ≡ true → Case cs h action
    is_over : over n cs h ≡ true → Case cs h nothing

  pub case : (cs h : List ℕ) → length cs ≤ n → Case cs h (next n cs h)
  unfolding next ◌and◌
  case cs h l = at (tested (due n cs)) (tested (ended n h))
    where
      full : due n cs ≡ false → eqb (length cs) n ≡ true
      full e = let w : n ≤ length cs = ltb-false (length cs) n e in eq-eqb (length cs) n (omega arith)

      at : Tested (due n cs) → Tested (ended n h) → Case cs h (cond (due n cs) card (cond (live n cs h) action nothing))
      at (holds e) w = rw e (is_card e)
      at (fails e) (holds w) = rw (e, full e, w) (is_over (both (full e) w))
      at (fails e) (fails w) = rw (e, full e, w) (is_action (both (full e) (ap not w)))

  -- cards and actions still to come, at most
  abbrev Enough : List ℕ → List ℕ → ℕ → Type 0
  Enough cs h r = (n - length cs) + (m n - length h) ≤ r

  module _ (one : 1 ≤ n) where
    -- a seat acts, so an action is to come
    acts_more : (cs h : List ℕ) → Sound n cs h → live n cs h ≡ true → length h + 1 < 2 * n
    acts_more cs h g e = (hand-lasts n h one g.well).1 (not-true (ended n h) (and_right (eqb (length cs) n) (not (ended n h)) e))

    enough-card : (cs h : List ℕ) (c r : ℕ) → due n cs ≡ true → Enough cs h (suc r) → Enough (cs ++ (c ∷ [])) h r
    enough-card cs h c r e l = let w : length cs < n = ltb-true (length cs) n e in omega (arith, length-append cs (c ∷ []))

    enough-action : (cs h : List ℕ) (a r : ℕ) → Sound n cs h → live n cs h ≡ true → Enough cs h (suc r) → Enough cs (h ++ (a ∷ [])) r
    enough-action cs h a r g e l = omega (arith, acts_more cs h g e, length-append h (a ∷ []))

    no_card : (cs h : List ℕ) → due n cs ≡ true → Enough cs h 0 → ⊥
    no_card cs h e l = let w : length cs < n = ltb-true (length cs) n e in omega arith

    no_action : (cs h : List ℕ) → Sound n cs h → live n cs h ≡ true → Enough cs h 0 → ⊥
    no_action cs h g e l = omega (arith, acts_more cs h g e)

    -- legal actions are a pass or a bet
    may : (cs h : List ℕ) (a : ℕ) → live n cs h ≡ true → In a (legal n cs h (turn n h)) → leb a BET ≡ true
    unfolding In
    may cs h a e w = at (rw (legal-acts cs h e) at w)
      where
        at : In a (PASS ∷ BET ∷ []) → leb a BET ≡ true
        at (inl q) = ap (λ x. leb x BET) (sym q)
        at (inr (inl q)) = ap (λ x. leb x BET) (sym q)
        at (inr (inr q)) = absurd q

    module _ (ante bet : ℕ) where
      -- ---- the rules are followed
      follows_each : (l : List ℕ) (g : ℕ → Tree) (q : ℕ → Position) → ((c : ℕ) → In c l → Follows ante bet n (g c) (q c).0 (q c).1)
          → FollowsAll ante bet n (each l g) (map q l)
      unfolding each Follows In
      follows_each [] g q h = tt
      follows_each (c ∷ l) g q h = (h c (inl refl), follows_each l g q (λ x w. h x (inr w)))

      pub below_follows : (r : ℕ) (x : Next) (cs h : List ℕ) → Case cs h x → Reached n cs h → Enough cs h r → Follows ante bet n (below ante bet n r x cs h) cs h
      unfolding below Follows dealt acted
      below_follows zero card cs h (is_card e) p l = absurd (no_card cs h e l)
      below_follows zero action cs h (is_action e) p l = absurd (no_action cs h (sound p) e l)
      below_follows zero nothing cs h (is_over e) p l = (p, e, refl)
      below_follows (suc r) nothing cs h (is_over e) p l = (p, e, refl)
      below_follows (suc r) card cs h (is_card e) p l = (
        p,
        e,
        follows_each (remaining n cs) (λ c. below ante bet n r (next n (cs ++ (c ∷ [])) h) (cs ++ (c ∷ [])) h)
            (λ c. (cs ++ (c ∷ []), h)) (λ c w. let y : Reached n (cs ++ (c ∷ [])) h = deal c p e (left_of_in n cs c w) in
            below_follows r (next n (cs ++ (c ∷ [])) h) (cs ++ (c ∷ [])) h (case (cs ++ (c ∷ [])) h (sound y).few) y (enough-card cs h c r e l)),
      )
      below_follows (suc r) action cs h (is_action e) p l = (
        p,
        e,
        refl,
        refl,
        follows_each (legal n cs h (turn n h)) (λ a. below ante bet n r (next n cs (h ++ (a ∷ []))) cs (h ++ (a ∷ [])))
            (λ a. (cs, h ++ (a ∷ []))) (λ a w. let y : Reached n cs (h ++ (a ∷ [])) = act a p e (may cs h a e w) in
            below_follows r (next n cs (h ++ (a ∷ []))) cs (h ++ (a ∷ [])) (case cs (h ++ (a ∷ [])) (sound y).few) y (enough-action cs h a r (sound p) e l)),
      )

      -- ---- more fuel changes nothing
      each_same : (l : List ℕ) (g k : ℕ → Tree) → ((c : ℕ) → In c l → g c ≡ k c) → each l g ≡ each l k
      unfolding each In
      each_same [] g k h = refl
      each_same (c ∷ l) g k h = ap₂ cons (h c (inl refl)) (each_same l g k (λ x w. h x (inr w)))

      pub below_more : (r : ℕ) (x : Next) (cs h : List ℕ) → Case cs h x → Reached n cs h → Enough cs h r → below ante bet n (suc r) x cs h ≡ below ante bet n r x cs h
      unfolding below
      below_more zero card cs h (is_card e) p l = absurd (no_card cs h e l)
      below_more zero action cs h (is_action e) p l = absurd (no_action cs h (sound p) e l)
      below_more zero nothing cs h (is_over e) p l = refl
      below_more (suc r) nothing cs h (is_over e) p l = refl
      below_more (suc r) card cs h (is_card e) p l = ap chance (each_same (remaining n cs)
          (λ c. below ante bet n (suc r) (next n (cs ++ (c ∷ [])) h) (cs ++ (c ∷ [])) h) (λ c. below ante bet n r (next n (cs ++ (c ∷ [])) h) (cs ++ (c ∷ [])) h)
          (λ c w. let y : Reached n (cs ++ (c ∷ [])) h = deal c p e (left_of_in n cs c w) in
          below_more r (next n (cs ++ (c ∷ [])) h) (cs ++ (c ∷ [])) h (case (cs ++ (c ∷ [])) h (sound y).few) y (enough-card cs h c r e l)))
      below_more (suc r) action cs h (is_action e) p l = ap (decide (turn n h) (key cs h (turn n h))) (each_same (legal n cs h (turn n h))
          (λ a. below ante bet n (suc r) (next n cs (h ++ (a ∷ []))) cs (h ++ (a ∷ []))) (λ a. below ante bet n r (next n cs (h ++ (a ∷ []))) cs (h ++ (a ∷ [])))
          (λ a w. let y : Reached n cs (h ++ (a ∷ [])) = act a p e (may cs h a e w) in
          below_more r (next n cs (h ++ (a ∷ []))) cs (h ++ (a ∷ [])) (case cs (h ++ (a ∷ [])) (sound y).few) y (enough-action cs h a r (sound p) e l)))

      enough-start : Enough [] [] (fuel n)
      enough-start = omega arith

      pub kuhn-follows : Follows ante bet n (tree_of_kuhn ante bet n) [] []
      unfolding tree_of_kuhn
      kuhn-follows = below_follows (fuel n) (next n [] []) [] [] (case [] [] (omega arith)) start enough-start

      pub kuhn-fuel : (x : ℕ) → below ante bet n (x + fuel n) (next n [] []) [] [] ≡ tree_of_kuhn ante bet n
      unfolding tree_of_kuhn
      kuhn-fuel zero = ap (λ r. below ante bet n r (next n [] []) [] []) (NatL.zero-add (fuel n))
      kuhn-fuel (suc x) = ap (λ r. below ante bet n r (next n [] []) [] []) (NatL.suc-add x (fuel n))
          ∙ below_more (x + fuel n) (next n [] []) [] [] (case [] [] (omega arith)) start (omega arith) ∙ kuhn-fuel x
