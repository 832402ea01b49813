-- Kuhn's tree in two parts: the deals, and below each full deal one hand, whose shape does not depend on the cards. Assumes nothing.
use mathlib.Core.Path.{◌≡◌, refl, sym, ap, ap₂, ◌∙◌, fun_ext}
use mathlib.Core.Bool.{Bool, true, false, not}
use mathlib.Core.List.{List, [], ◌∷◌, ◌++◌}
use Prim.Native.Nat.{ℕ, zero, suc, ◌+◌, ◌<◌}
use native.Mathlib.Nat as NatL
use native.Mathlib.Omega.{arith}
use lib.ListN.{length, length-append}
use borrow.Author.Tests.{eq-eqb, lt-ltb, le-ltb}
use Rattle.prelude.specs.Finite.{◌and◌}
use Rattle.prelude.proofs.Tests.{Tested, holds, fails, tested, both}
use Rattle.game_tree.specs.Tree.{Tree, end, chance, decide, cons, nil}
use Rattle.kuhn_rules.specs.Rules.{PASS, BET, ended, turn, live, remaining, key, payoff}
use Rattle.kuhn_tree.specs.Tree.{card, action, nothing, next, each, below, m, tree_of_kuhn}
use Rattle.kuhn_tree.proofs.Growth.{legal-acts}

module _ (ante bet n : ℕ) where
  -- the hand from history h on, of at most r actions; b says whether it has ended
  unfoldable pub hand : List ℕ → ℕ → Bool → List ℕ → Tree
  unfolding ended
  hand cs zero b h = end (payoff ante bet n cs h)
  hand cs (suc r) true h = end (payoff ante bet n cs h)
  hand cs (suc r) false h = decide (turn n h) (key cs h (turn n h))
      (cons (hand cs r (ended n (h ++ (PASS ∷ []))) (h ++ (PASS ∷ []))) (cons (hand cs r (ended n (h ++ (BET ∷ []))) (h ++ (BET ∷ []))) nil))

  -- k cards to deal, then a hand
  unfoldable pub deals : ℕ → List ℕ → Tree
  unfolding hand each
  deals zero cs = hand cs (m n) (ended n []) []
  deals (suc k) cs = chance (each (remaining n cs) (λ c. deals k (cs ++ (c ∷ []))))

  module _ (cs : List ℕ) (full : length cs ≡ n) where
    next_over : (h : List ℕ) → ended n h ≡ true → next n cs h ≡ nothing
    unfolding next ◌and◌
    next_over h e = rw (le-ltb (length cs) n (omega arith), eq-eqb (length cs) n full, e)

    acts : (h : List ℕ) → ended n h ≡ false → live n cs h ≡ true
    acts h e = both (eq-eqb (length cs) n full) (ap not e)

    next_action : (h : List ℕ) → ended n h ≡ false → next n cs h ≡ action
    unfolding next ◌and◌
    next_action h e = rw (le-ltb (length cs) n (omega arith), eq-eqb (length cs) n full, e)

    below_hand : (r : ℕ) (h : List ℕ) → below ante bet n r (next n cs h) cs h ≡ hand cs r (ended n h) h
    unfolding below hand each
    below_hand zero h = refl
    below_hand (suc r) h = at (tested (ended n h)) (below_hand r (h ++ (PASS ∷ []))) (below_hand r (h ++ (BET ∷ [])))
      where
        kid : ℕ → Tree
        kid a = below ante bet n r (next n cs (h ++ (a ∷ []))) cs (h ++ (a ∷ []))

        of_hand : ℕ → Tree
        of_hand a = hand cs r (ended n (h ++ (a ∷ []))) (h ++ (a ∷ []))

        at : Tested (ended n h) → kid PASS ≡ of_hand PASS → kid BET ≡ of_hand BET → below ante bet n (suc r) (next n cs h) cs h ≡ hand cs (suc r) (ended n h) h
        at (holds e) x y = rw (next_over h e, e) refl
        at (fails e) x y = ap (λ w. below ante bet n (suc r) w cs h) (next_action h e)
            ∙ ap (λ l. decide (turn n h) (key cs h (turn n h)) (each l kid)) (legal-acts n cs h (acts h e))
            ∙ ap₂ (λ t u. decide (turn n h) (key cs h (turn n h)) (cons t (cons u nil))) x y ∙ ap (λ b. hand cs (suc r) b h) (sym e)

  due-card : (cs h : List ℕ) → length cs < n → next n cs h ≡ card
  unfolding next
  due-card cs h l = rw (lt-ltb (length cs) n l)

  below_card : (r : ℕ) (cs : List ℕ) → length cs < n
      → below ante bet n (suc r) (next n cs []) cs [] ≡ chance (each (remaining n cs) (λ c. below ante bet n r (next n (cs ++ (c ∷ [])) []) (cs ++ (c ∷ [])) []))
  unfolding below
  below_card r cs l = ap (λ x. below ante bet n (suc r) x cs []) (due-card cs [] l)

  below_deals : (k : ℕ) (cs : List ℕ) → length cs + k ≡ n → below ante bet n (k + m n) (next n cs []) cs [] ≡ deals k cs
  unfolding deals
  below_deals zero cs e = ap (λ r. below ante bet n r (next n cs []) cs []) (NatL.zero-add (m n)) ∙ below_hand cs (omega arith) (m n) []
  below_deals (suc k) cs e = ap (λ r. below ante bet n r (next n cs []) cs []) (NatL.suc-add k (m n)) ∙ below_card (k + m n) cs (omega arith)
      ∙ ap (λ g. chance (each (remaining n cs) g)) (fun_ext (λ c. below_deals k (cs ++ (c ∷ [])) (omega (arith, length-append cs (c ∷ [])))))

  pub kuhn-deals : tree_of_kuhn ante bet n ≡ deals n []
  unfolding tree_of_kuhn
  kuhn-deals = below_deals n [] (NatL.zero-add n)
