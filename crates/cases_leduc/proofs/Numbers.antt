-- Leduc, always CALL: its worths and best values, computed. A choice by the cards is shown to decide every set, so its value is the best
-- value. Assumes nothing.
use mathlib.Core.Path.{◌≡◌, refl, sym, ap, ap₂, subst, ◌∙◌}
use mathlib.Core.Bool.{Bool, true, cond}
use mathlib.Core.List.{List, [], ◌∷◌, ◌++◌, map}
use Prim.Native.Nat.{ℕ, ◌+◌, ◌-◌, ◌<◌, ◌%◌}
use native.Mathlib.Omega.{arith}
use lib.Dec.{eqb, leb}
use lib.IntN.{ℤ, pos, ◌+ℤ◌, ◌-ℤ◌}
use lib.ListN.{length, get_or, take, drop}
use lib.Seq.{take-append_seam, drop-append-add}
use Rattle.prelude.specs.Finite.{◌and◌, ◌or◌, some, those, has}
use Rattle.game_tree.specs.Sums.{◌·◌}
use Rattle.game_tree.specs.Tree.{Key, Tree, Strategy, all, worth}
use Rattle.game_tree.specs.Conditions.{Every}
use Rattle.game_tree.specs.Reply.{Choice, Reply, reply_tree, value, nodes, highest, best_value}
use Rattle.game_tree.specs.Optimal.{Decides, scaled}
use Rattle.game_tree.specs.Recall.{RecallsOwn}
use Rattle.game_tree.specs.Table.{strategy_of, listed, laid_out, table_worth, table_best, nash_conv_over}
use Rattle.game_tree.proofs.Integers.{·-one}
use Rattle.game_tree.proofs.Against.{every_of, every_both}
use Rattle.game_tree.proofs.Tables.{Same, worth_same}
use Rattle.game_tree.proofs.TableTheorem.{strategy_back}
use Rattle.game_tree.proofs.Theorem.{recall_kept, own_entries-free, decides-alike, link_in_units}
use Rattle.leduc_betting.specs.Betting as Betting
use Rattle.leduc_betting.specs.Betting.{CALL, RAISE, options, in_play}
use Rattle.leduc_betting.specs.Cards as Cards
use Rattle.leduc_betting.specs.Cards.{rank}
use Rattle.leduc_rules.specs.Rules as Rules
use Rattle.leduc_tree.specs.Tree as Leduc
use Rattle.leduc_tree.specs.Tree.{Position, actor, choices, tree_of_leduc}
use Rattle.leduc_tree.specs.Turns.{first_turns, decision_at}
use Rattle.leduc_tree.proofs.Facts.{first_of_set}
use Rattle.games.specs.Games.{tree_of}
use Rattle.games.proofs.Facts.{games_fit}
use Rattle.cases.specs.Tried.{leduc, calls_at, calls}
use Rattle.cases_leduc.specs.Numbers.{LeducCalls}
use Rattle.cases_leduc.proofs.Rows.{rows_of, tested, rows_decide}

-- ---- the table's strategy, by the key

-- the histories of both rounds
abbrev first : Key → List ℕ
first k = take (get_or k 3 0) (drop 4 k)

abbrev second : Key → List ℕ
second k = drop (get_or k 3 0 + 1) (drop 4 k)

-- the part on CALL
unfoldable calling : Strategy
unfolding options in_play
calling j k a = cond (eqb (get_or (options (in_play (first k) (second k))) a 0) CALL) 1 0

-- the other seat has raised in a round
unfoldable raised : ℕ → List ℕ → Bool
unfolding some ◌and◌
raised s h = some (length h) (λ i. eqb (i % 2) (1 - s) and eqb (get_or h i 0) RAISE)

-- with card c and public card p a raise pays
unfoldable strong : ℕ → ℕ → Bool
unfolding ◌and◌ ◌or◌
strong c p = leb 4 c or (eqb (rank c) (rank p) or (leb 2 c and (eqb p 4 or eqb p 5)))

-- the second action, which is RAISE, with a strong card; the first where the other seat, which never raises, has raised
unfoldable raising : Choice
unfolding raised strong ◌or◌
raising k = cond (raised (get_or k 0 0) (first k) or raised (get_or k 0 0) (second k)) 0 (cond (strong (get_or k 1 0) (get_or k 2 0)) 1 0)

abbrev tree : Tree
tree = tree_of_leduc 1 2 4

-- ---- it is the table's strategy

key_first : (q : Position) → first (Leduc.key q) ≡ q.first
unfolding Rules.key
key_first q = take-append_seam q.first (length q.second ∷ q.second)

key-second : (q : Position) → second (Leduc.key q) ≡ q.second
unfolding Rules.key
key-second q = drop-append-add q.first (length q.second ∷ q.second) 1

listed-map : (f : ℕ → ℕ) (xs : List ℕ) → listed (length xs) (λ a. f (get_or xs a 0)) ≡ map f xs
unfolding listed
listed-map f [] = refl
listed-map f (x ∷ xs) = ap (λ l. f x ∷ l) (listed-map f xs)

one_set : (q : Position) → listed (length (choices q)) (calling (actor q) (Leduc.key q)) ≡ map (λ a. cond (eqb a CALL) 1 0) (choices q)
unfolding calling
one_set q = ap₂ (λ x y. listed (length (choices q)) (λ a. cond (eqb (get_or (options (in_play x y)) a 0) CALL) 1 0)) (key_first q) (key-second q)
    ∙ listed-map (λ a. cond (eqb a CALL) 1 0) (choices q)

laid_out_lem : (qs : List Position) → laid_out (map decision_at qs) calling ≡ calls_at qs
unfolding laid_out calls_at
laid_out_lem [] = refl
laid_out_lem (q ∷ qs) = ap₂ ◌++◌ (one_set q) (laid_out_lem qs)

same_calls : Every (λ j k n. (a : ℕ) → a < n → strategy_of tree calls j k a ≡ calling j k a) tree
unfolding tree_of calls
same_calls = subst (λ table. Every (λ j k n. (a : ℕ) → a < n → strategy_of tree table j k a ≡ calling j k a) tree)
    (ap (λ xs. laid_out xs calling) (first_of_set 1 2 4) ∙ laid_out_lem first_turns) (strategy_back tree calling (games_fit leduc (omega arith) refl).actions)

same_reply : (i : ℕ) → reply_tree 1 (strategy_of tree calls) i 120 tree ≡ reply_tree 1 calling i 120 tree
same_reply i = (own_entries-free 1 i 120 calling (strategy_of tree calls) tree
    (every_both (Same (strategy_of tree calls) calling) (Same (strategy_of tree calls) calling)
    (λ j k n. (j ≡ i → ⊥) → (a : ℕ) → a < n → strategy_of tree calls j k a ≡ calling j k a) (λ j k n p q f. p) tree same_calls same_calls)).0

-- ---- computed

abbrev seen : ℕ → Reply
seen i = reply_tree 1 calling i 120 tree

-- of a tree and each seat: what the strategy is worth, the value of the choice, and whether it decides every set
abbrev Measures : Type 0
Measures = ℤ × ℤ × Bool

unfoldable measures : ℕ → Tree → Measures
unfolding scaled value reply_tree nodes rows_of tested calling raising
measures i t = let r : Reply = reply_tree 1 calling i 120 t in (scaled 1 (calling i) r 8, value raising r, tested raising (rows_of raising (nodes r)))

unfoldable both : Tree → Measures × Measures
unfolding measures
both t = (measures 0 t, measures 1 t)

measured : both tree ≡ ((pos 0, pos 176, true), (pos 0, pos 176, true))
unfolding both highest ◌·◌ tree_of_leduc Leduc.below Leduc.next Leduc.each ◌and◌ ◌or◌ some those has Betting.ends_with Betting.folded Betting.closes Betting.behind
    Betting.raises Betting.may Betting.options Betting.in_play Betting.turn Betting.ended Cards.left Cards.remaining Rules.public-due Rules.due Rules.key
    Rules.after-action Rules.put_in Rules.contribution Rules.folds Rules.pairs Rules.beats Rules.wins Rules.payoff
measured = refl

of_seat_0 : measures 0 tree ≡ (pos 0, pos 176, true)
unfolding both
of_seat_0 = ap (λ (x : Measures × Measures). x.0) measured

of_seat_1 : measures 1 tree ≡ (pos 0, pos 176, true)
unfolding both
of_seat_1 = ap (λ (x : Measures × Measures). x.1) measured

-- ---- so these are the table's

module _ (i : ℕ) (l : i < 2) (w v : ℤ) (e : measures i tree ≡ (w, v, true)) where
  scaled_is : worth (all 1) calling i 120 tree ≡ scaled 1 (calling i) (seen i) 8
  unfolding tree_of
  scaled_is = sym (·-one (worth (all 1) calling i 120 tree)) ∙ link_in_units 120 8 1 i calling calling tree (omega arith) (games_fit leduc (omega arith) refl).splits (every_of _ (λ j k n f a m. refl) tree)

  worth_of : table_worth tree 1 120 calls i ≡ w
  unfolding table_worth measures
  worth_of = worth_same (all 1) (strategy_of tree calls) calling i tree 120 same_calls ∙ scaled_is ∙ ap (λ (x : Measures). x.0) e

  recalls : RecallsOwn (seen i)
  unfolding tree_of
  recalls = recall_kept 1 i 120 calling tree ((games_fit leduc (omega arith) refl).recall i l)

  decides : Decides raising (seen i)
  unfolding measures
  decides = rows_decide raising (seen i) (ap (λ (x : Measures). x.2) e)

  best_of : table_best tree 1 120 calls i ≡ v
  unfolding table_best measures
  best_of = ap best_value (same_reply i) ∙ sym (decides-alike (seen i) raising recalls decides).1 ∙ ap (λ (x : Measures). x.1) e

pub leduc-calls : LeducCalls
unfolding tree_of nash_conv_over
leduc-calls =
    let w₀ = worth_of 0 (omega arith) (pos 0) (pos 176) of_seat_0 in
    let w₁ = worth_of 1 (omega arith) (pos 0) (pos 176) of_seat_1 in
    let b₀ = best_of 0 (omega arith) (pos 0) (pos 176) of_seat_0 in
    let b₁ = best_of 1 (omega arith) (pos 0) (pos 176) of_seat_1 in
    (refl, w₀, w₁, b₀, b₁, ap₂ ◌+ℤ◌ (ap (λ z. pos 0 +ℤ z) (ap₂ ◌-ℤ◌ b₀ w₀)) (ap₂ ◌-ℤ◌ b₁ w₁))
