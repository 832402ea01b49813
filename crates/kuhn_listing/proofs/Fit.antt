-- No key of Kuhn with up to 6 seats is longer than its 13 bytes. Assumes nothing.
use mathlib.Core.Path.{sym, subst}
use mathlib.Core.Bool.{Bool, true, false}
use mathlib.Core.List.{List, [], ◌∷◌, ◌++◌}
use Prim.Native.Nat.{ℕ, zero, suc, ◌+◌, ◌*◌, ◌≤◌}
use native.Mathlib.Omega.{arith}
use lib.ListN.{length, length-append}
use Rattle.game_tree.specs.Tree.{Key, Tree}
use Rattle.game_tree.specs.Conditions.{Every, EveryAll}
use Rattle.kuhn_rules.specs.Rules.{PASS, BET, ended, remaining}
use Rattle.kuhn_tree.specs.Tree.{each, m, tree_of_kuhn}
use Rattle.kuhn_tree.proofs.Shape.{hand, deals, kuhn-deals}

module _ (ante bet n : ℕ) where
  -- a key of at most 2n numbers
  abbrev Short : ℕ → Key → ℕ → Type 0
  Short j k a = length k ≤ 2 * n

  hand-short : (cs : List ℕ) (r : ℕ) (b : Bool) (h : List ℕ) → length h + r ≤ m n → Every Short (hand ante bet n cs r b h)
  unfolding hand Every
  hand-short cs zero b h l = tt
  hand-short cs (suc r) true h l = tt
  hand-short cs (suc r) false h l = (
    omega arith,
    (hand-short cs r (ended n (h ++ (PASS ∷ []))) (h ++ (PASS ∷ [])) (omega (arith, length-append h (PASS ∷ []))), (hand-short cs r (ended n (h ++ (BET ∷ []))) (h ++ (BET ∷ [])) (omega (arith, length-append h (BET ∷ []))), tt)),
  )

  each_short : (l : List ℕ) (g : ℕ → Tree) → ((c : ℕ) → Every Short (g c)) → EveryAll Short (each l g)
  unfolding each Every
  each_short [] g f = tt
  each_short (c ∷ l) g f = (f c, each_short l g f)

  deals-short : (k : ℕ) (cs : List ℕ) → Every Short (deals ante bet n k cs)
  unfolding deals Every
  deals-short zero cs = hand-short cs (m n) (ended n []) [] (omega arith)
  deals-short (suc k) cs = each_short (remaining n cs) (λ c. deals ante bet n k (cs ++ (c ∷ []))) (λ c. deals-short k (cs ++ (c ∷ [])))

  pub keys_short : Every (λ j k a. length k ≤ 2 * n) (tree_of_kuhn ante bet n)
  keys_short = subst (Every Short) (sym (kuhn-deals ante bet n)) (deals-short n [])
