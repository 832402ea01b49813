-- Each seat of Kuhn has perfect recall: its earlier keys are its card with the fronts of the history at its own places. Assumes nothing.
use mathlib.Core.Path.{◌≡◌, refl, sym, ap, ap₂, ◌∙◌}
use mathlib.Core.Bool.{Bool, true, false}
use mathlib.Core.List.{List, [], ◌∷◌, ◌++◌, append-nil, append_assoc}
use Prim.Native.Nat.{ℕ, zero, suc, ◌%◌}
use lib.Dec.{eqb}
use lib.ListN.{length, get_or}
use borrow.Author.Tests.{eqb-true}
use Rattle.prelude.proofs.Tests.{Tested, holds, fails, tested}
use Rattle.game_tree.specs.Tree.{Key, Tree, fan}
use Rattle.game_tree.specs.Recall.{Path, moved, Recall, RecallAll, PerfectRecall}
use Rattle.kuhn_rules.specs.Rules.{PASS, BET, ended, turn, key, remaining}
use Rattle.kuhn_tree.specs.Tree.{each, m, tree_of_kuhn}
use Rattle.kuhn_tree.proofs.Shape.{hand, deals, kuhn-deals}

-- the moves of seat i, whose card is c, among the actions h that follow the actions pre, the latest first
unfoldable pub moves : ℕ → ℕ → ℕ → List ℕ → List ℕ → Path → Path
unfolding moved
moves n i c pre [] π = π
moves n i c pre (a ∷ h) π = moves n i c (pre ++ (a ∷ [])) h (moved (eqb (length pre % n) i) (i ∷ c ∷ pre) a π)

-- the own moves before a key
unfoldable pub past : ℕ → Key → Path
unfolding moves
past n [] = []
past n (j ∷ []) = []
past n (j ∷ c ∷ h) = moves n j c [] h []

moves_more : (n i c : ℕ) (pre h : List ℕ) (a : ℕ) (π : Path)
    → moves n i c pre (h ++ (a ∷ [])) π ≡ moved (eqb (length (pre ++ h) % n) i) (i ∷ c ∷ (pre ++ h)) a (moves n i c pre h π)
unfolding moves
moves_more n i c pre [] a π = ap (λ l. moved (eqb (length l % n) i) (i ∷ c ∷ l) a π) (sym (append-nil pre))
moves_more n i c pre (x ∷ h) a π = moves_more n i c (pre ++ (x ∷ [])) h a (moved (eqb (length pre % n) i) (i ∷ c ∷ pre) x π)
    ∙ ap (λ l. moved (eqb (length l % n) i) (i ∷ c ∷ l) a (moves n i c (pre ++ (x ∷ [])) h (moved (eqb (length pre % n) i) (i ∷ c ∷ pre) x π))) (append_assoc pre (x ∷ []) h)

module _ (ante bet n i : ℕ) where
  -- a move of any seat adds to the moves of seat i what it is to add
  move_next : (cs h : List ℕ) (a : ℕ) (π : Path) → π ≡ moves n i (get_or cs i 0) [] h []
      → moved (eqb (turn n h) i) (key cs h (turn n h)) a π ≡ moves n i (get_or cs i 0) [] (h ++ (a ∷ [])) []
  unfolding moved
  move_next cs h a π e = at (tested (eqb (turn n h) i)) ∙ sym (moves_more n i (get_or cs i 0) [] h a [])
    where
      at : Tested (eqb (turn n h) i) → moved (eqb (turn n h) i) (key cs h (turn n h)) a π ≡ moved (eqb (turn n h) i) (i ∷ get_or cs i 0 ∷ h) a (moves n i (get_or cs i 0) [] h [])
      at (holds q) = ap₂ (λ j ρ. moved (eqb (turn n h) i) (j ∷ get_or cs j 0 ∷ h) a ρ) (eqb-true (turn n h) i q) e
      at (fails q) = rw q e

  hand-recall : (cs : List ℕ) (r : ℕ) (b : Bool) (h : List ℕ) (π : Path) → π ≡ moves n i (get_or cs i 0) [] h [] → Recall i (past n) (λ k. 2) π (hand ante bet n cs r b h)
  unfolding hand Recall past fan
  hand-recall cs zero b h π e = tt
  hand-recall cs (suc r) true h π e = tt
  hand-recall cs (suc r) false h π e = (
    (λ q. (e ∙ ap (λ j. moves n j (get_or cs j 0) [] h []) (sym q), refl)),
    (
      hand-recall cs r (ended n (h ++ (PASS ∷ []))) (h ++ (PASS ∷ [])) _ (move_next cs h PASS π e),
      (hand-recall cs r (ended n (h ++ (BET ∷ []))) (h ++ (BET ∷ [])) _ (move_next cs h BET π e), tt),
    ),
  )

  each_recall : (l : List ℕ) (g : ℕ → Tree) → ((c : ℕ) → Recall i (past n) (λ k. 2) [] (g c)) → RecallAll i (past n) (λ k. 2) [] (each l g)
  unfolding each Recall
  each_recall [] g h = tt
  each_recall (c ∷ l) g h = (h c, each_recall l g h)

  deals-recall : (k : ℕ) (cs : List ℕ) → Recall i (past n) (λ k. 2) [] (deals ante bet n k cs)
  unfolding deals Recall moves
  deals-recall zero cs = hand-recall cs (m n) (ended n []) [] [] refl
  deals-recall (suc k) cs = each_recall (remaining n cs) (λ c. deals ante bet n k (cs ++ (c ∷ []))) (λ c. deals-recall k (cs ++ (c ∷ [])))

  pub kuhn-recall : PerfectRecall i (tree_of_kuhn ante bet n)
  kuhn-recall = (past n, (λ k. 2), rw (kuhn-deals ante bet n) (deals-recall n []))
