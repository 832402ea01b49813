-- The counts, by the deal and the betting shape: after the first bet every seat acts once more, before it a seat passes or bets. Assumes nothing.
use mathlib.Core.Path.{◌≡◌, refl, sym, ap, ap₂, ◌∙◌}
use mathlib.Core.Bool.{Bool, true, false, cond}
use mathlib.Core.List.{List, [], ◌∷◌, ◌++◌, append-nil}
use Prim.Native.Nat.{ℕ, zero, suc, ◌+◌, ◌*◌, ◌-◌, ◌^◌, ◌≤◌, ◌<◌}
use native.Mathlib.Nat as NatL
use native.Mathlib.Numerals.{add-one}
use native.Mathlib.Omega.{arith}
use lib.Dec.{eqb}
use lib.ListN.{length, length-append}
use borrow.Author.Tests.{eq-eqb, ne_eqb}
use Rattle.prelude.specs.Finite.{◌or◌}
use Rattle.prelude.proofs.Tests.{true≢false}
use Rattle.game_tree.specs.Sets.{size, set_count}
use Rattle.kuhn_rules.specs.Rules.{PASS, BET, bet-made, after-bet, ended}
use Rattle.kuhn_tree.specs.Tree.{m, tree_of_kuhn}
use Rattle.kuhn_tree.specs.Counts.{turn_count, deal_nodes, kuhn_nodes, kuhn_sets}
use Rattle.kuhn_tree.specs.Order.{turns, histories}
use Rattle.kuhn_tree.specs.Facts.{Counted, Counts, TooLarge}
use Rattle.kuhn_tree.proofs.Shape.{hand}
use Rattle.kuhn_tree.proofs.Sizes.{hand_size, kuhn-size}
use Rattle.kuhn_tree.proofs.Sets.{kuhn-set-count, kuhn-entries}

-- ---- one action more
bet_more : (h : List ℕ) (a : ℕ) → bet-made h ≡ true → bet-made (h ++ (a ∷ [])) ≡ true
unfolding bet-made ◌or◌
bet_more [] a e = true≢false false e refl
bet_more (x ∷ h) a e = at (eqb x BET) e (λ w. bet_more h a w)
  where
    at : (b : Bool) → (b or bet-made h) ≡ true → (bet-made h ≡ true → bet-made (h ++ (a ∷ [])) ≡ true) → (b or bet-made (h ++ (a ∷ []))) ≡ true
    at true q f = refl
    at false q f = f q

after_more : (h : List ℕ) (a : ℕ) → bet-made h ≡ true → length (after-bet (h ++ (a ∷ []))) ≡ suc (length (after-bet h))
unfolding bet-made after-bet ◌or◌
after_more [] a e = true≢false false e refl
after_more (x ∷ h) a e = at (eqb x BET) e (λ w. after_more h a w)
  where
    at : (b : Bool) → (b or bet-made h) ≡ true → (bet-made h ≡ true → length (after-bet (h ++ (a ∷ []))) ≡ suc (length (after-bet h)))
        → length (cond b (h ++ (a ∷ [])) (after-bet (h ++ (a ∷ [])))) ≡ suc (length (cond b h (after-bet h)))
    at true q f = length-append h (a ∷ []) ∙ add-one (length h)
    at false q f = f q

quiet_pass : (h : List ℕ) → bet-made h ≡ false → bet-made (h ++ (PASS ∷ [])) ≡ false
unfolding bet-made ◌or◌
quiet_pass [] e = refl
quiet_pass (x ∷ h) e = at (eqb x BET) e (λ w. quiet_pass h w)
  where
    at : (b : Bool) → (b or bet-made h) ≡ false → (bet-made h ≡ false → bet-made (h ++ (PASS ∷ [])) ≡ false) → (b or bet-made (h ++ (PASS ∷ []))) ≡ false
    at true q f = q
    at false q f = f q

first_bet : (h : List ℕ) → bet-made h ≡ false → (bet-made (h ++ (BET ∷ [])) ≡ true) × (after-bet (h ++ (BET ∷ [])) ≡ [])
unfolding bet-made after-bet ◌or◌
first_bet [] e = (refl, refl)
first_bet (x ∷ h) e = at (eqb x BET) e (λ w. first_bet h w)
  where
    at : (b : Bool) → (b or bet-made h) ≡ false → (bet-made h ≡ false → (bet-made (h ++ (BET ∷ [])) ≡ true) × (after-bet (h ++ (BET ∷ [])) ≡ []))
        → ((b or bet-made (h ++ (BET ∷ []))) ≡ true) × (cond b (h ++ (BET ∷ [])) (after-bet (h ++ (BET ∷ []))) ≡ [])
    at true q f = true≢false true refl q
    at false q f = f q

module _ (n : ℕ) where
  ended-bet : (h : List ℕ) → bet-made h ≡ true → ended n h ≡ eqb (length (after-bet h)) (n - 1)
  unfolding ended
  ended-bet h e = rw e refl

  ended-quiet : (h : List ℕ) → bet-made h ≡ false → ended n h ≡ eqb (length h) n
  unfolding ended
  ended-quiet h e = rw e refl

  -- ---- the histories at which a seat acts
  module _ (r : ℕ) (h : List ℕ) where
    -- those below an action
    kid : ℕ → List (List ℕ)
    kid a = turns n r (ended n (h ++ (a ∷ []))) (h ++ (a ∷ []))

    kids : length (kid PASS ++ (kid BET ++ [])) ≡ length (kid PASS) + length (kid BET)
    kids = length-append (kid PASS) (kid BET ++ []) ∙ ap (λ l. length (kid PASS) + length l) (append-nil (kid BET))

  -- q actions to come after a bet: as many as there are shorter sequences
  turns-bet : (r q : ℕ) (h : List ℕ) → bet-made h ≡ true → length (after-bet h) + q ≡ n - 1 → q ≤ r → suc (length (turns n r (ended n h) h)) ≡ 2 ^ q
  unfolding turns kid
  turns-bet zero zero h e l w = refl
  turns-bet (suc r) zero h e l w = rw (ended-bet h e, eq-eqb (length (after-bet h)) (n - 1) (omega arith)) refl
  turns-bet zero (suc q) h e l w = absurd (omega arith)
  turns-bet (suc r) (suc q) h e l w = rw (ended-bet h e, ne_eqb (length (after-bet h)) (n - 1) (λ z. omega arith))
      (omega (arith, kids r h, NatL.pow-succ' 2 q, below PASS (λ x y. turns-bet r q (h ++ (PASS ∷ [])) x y (omega arith)), below BET (λ x y. turns-bet r q (h ++ (BET ∷ [])) x y (omega arith))))
    where
      below : (a : ℕ) → (bet-made (h ++ (a ∷ [])) ≡ true → length (after-bet (h ++ (a ∷ []))) + q ≡ n - 1 → suc (length (kid r h a)) ≡ 2 ^ q) → suc (length (kid r h a)) ≡ 2 ^ q
      below a f = f (bet_more h a e) (omega (arith, after_more h a e))

  -- p passes to come while nobody has bet: each of them may be a bet
  turns-quiet : (r p : ℕ) (h : List ℕ) → bet-made h ≡ false → length h + p ≡ n → p + (n - 1) ≤ r → length (turns n r (ended n h) h) ≡ p * 2 ^ (n - 1)
  unfolding turns kid
  turns-quiet zero zero h e l w = sym (NatL.zero-mul (2 ^ (n - 1)))
  turns-quiet (suc r) zero h e l w = rw (ended-quiet h e, eq-eqb (length h) n (omega arith)) (sym (NatL.zero-mul (2 ^ (n - 1))))
  turns-quiet zero (suc p) h e l w = absurd (omega arith)
  turns-quiet (suc r) (suc p) h e l w = rw (ended-quiet h e, ne_eqb (length h) n (λ z. omega arith)) (omega (
    arith,
    kids r h,
    NatL.suc-mul p (2 ^ (n - 1)),
    turns-quiet r p (h ++ (PASS ∷ [])) (quiet_pass h e) (omega (arith, length-append h (PASS ∷ []))) (omega arith),
    turns-bet r (n - 1) (h ++ (BET ∷ [])) (first_bet h e).0 (ap (λ x. length x + (n - 1)) (first_bet h e).1 ∙ NatL.zero-add (n - 1)) (omega arith),
  ))

  pub history-count : 1 ≤ n → length (histories n) ≡ turn_count n
  unfolding histories bet-made
  history-count l = turns-quiet (m n) n [] refl (NatL.zero-add n) (omega arith)

  -- ---- the nodes of a hand: a decision has two children
  hand-nodes : (ante bet : ℕ) (cs : List ℕ) (r : ℕ) (b : Bool) (h : List ℕ) → size (hand ante bet n cs r b h) ≡ length (turns n r b h) * 2 + 1
  unfolding hand size turns kid
  hand-nodes ante bet cs zero b h = refl
  hand-nodes ante bet cs (suc r) true h = refl
  hand-nodes ante bet cs (suc r) false h = omega (
    arith,
    kids r h,
    hand-nodes ante bet cs r (ended n (h ++ (PASS ∷ []))) (h ++ (PASS ∷ [])),
    hand-nodes ante bet cs r (ended n (h ++ (BET ∷ []))) (h ++ (BET ∷ [])),
  )

pub counted : Counted
unfolding hand_size histories
counted ante bet n l = (node-count, set-count, kuhn-entries ante bet n ∙ ap (λ s. s * 2) set-count)
  where
    node-count : size (tree_of_kuhn ante bet n) ≡ kuhn_nodes n
    node-count = kuhn-size ante bet n
        ∙ ap₂ (λ B L. deal_nodes B L n) (hand-nodes n ante bet [] (m n) (ended n []) [] ∙ ap (λ t. t * 2 + 1) (history-count n l)) (sym (add-one n))

    set-count : set_count (tree_of_kuhn ante bet n) ≡ kuhn_sets n
    set-count = kuhn-set-count ante bet n l ∙ ap₂ (λ t c. t * c) (history-count n l) (sym (add-one n))

-- ---- document 01's rows
pub counts : Counts
unfolding deal_nodes
counts ante bet = (
  counted ante bet 2 (omega arith),
  counted ante bet 3 (omega arith),
  counted ante bet 4 (omega arith),
  counted ante bet 5 (omega arith),
  counted ante bet 6 (omega arith),
)

above : (ante bet n : ℕ) → 1 ≤ n → 4000000 < kuhn_nodes n → 4000000 < size (tree_of_kuhn ante bet n)
above ante bet n l w = rw (counted ante bet n l).0 w

pub too_large : TooLarge
unfolding deal_nodes
too_large ante bet = (
  (counted ante bet 7 (omega arith)).0,
  above ante bet 7 (omega arith) (omega arith),
  above ante bet 8 (omega arith) (omega arith),
  above ante bet 9 (omega arith) (omega arith),
  above ante bet 10 (omega arith) (omega arith),
)
