-- Leduc's calls play its tree. Assumes nothing.
use mathlib.Core.Path.{◌≡◌, refl, sym, ap, subst, ◌∙◌}
use mathlib.Core.Logic.{◌≢◌, inl, inr}
use mathlib.Core.Bool.{true, cond}
use mathlib.Core.List.{List, [], ◌∷◌, ◌++◌, map}
use Prim.Native.Nat.{ℕ, suc, ◌≤◌, ◌<◌}
use native.Mathlib.Omega.{arith}
use lib.Dec.{ltb}
use lib.IntN.{ℤ, pos}
use lib.ListN.{length, drop, replicate}
use borrow.Author.Tests.{eq-eqb, le-ltb, lt-ltb, ltb-true, ltb-false, ne_eqb}
use Rattle.std.specs.Prelude.{Some}
use Rattle.prelude.specs.Finite.{◌and◌}
use Rattle.prelude.proofs.Tests.{Tested, holds, fails, tested, both, and_right_fails}
use Rattle.game_tree.specs.Tree.{Tree, end, chance, decide, Trees, nil, cons}
use Rattle.game_tree.specs.Nodes.{node_of}
use Rattle.game_tree.proofs.Counting.{In}
use Rattle.game_tree.proofs.Numbers.{in_those}
use Rattle.leduc_betting.specs.Betting.{closes, may, options, counted, turn, ended}
use Rattle.leduc_betting.specs.Cards.{remaining}
use Rattle.leduc_rules.specs.Rules.{due, live, legal, payoff}
use Rattle.leduc_rules.specs.Moves.{start}
use Rattle.leduc_positions.specs.Positions.{cards_of, seen_of, round_one, round_two, in_play_of, initial, reachable, legal_of}
use Rattle.leduc_positions.specs.declared.LeducState.{LeducState}
use Rattle.leduc.specs.Calls.{deal-refusal, dealt, step_refusal, stepped, payoff-answer, payoff-refusal, paid}
use Rattle.leduc.specs.Facts.{Fit, OneCardMore, OneActionMore}
use Rattle.leduc.proofs.Decides.{moved_number}
use Rattle.leduc.proofs.Facts.{reachable_by_moves}
use Rattle.leduc.proofs.Moving.{deals, steps}
use Rattle.leduc_tree.specs.Tree.{Position}
use Rattle.leduc_tree.specs.Positions.{position}
use Rattle.leduc_tree.specs.Follows.{Follows, FollowsAll}
use Rattle.leduc_tree.specs.Positions as Rule
use Rattle.leduc_tree.proofs.Growth.{Stands, leduc-follows}
use Rattle.leduc_tree.proofs.Positions.{node-follows}
use Rattle.trees_played.specs.Leduc.{Played, Dealt, Stepped, tree, NodesPlayed, TreePlayed}
use Rattle.trees_played.proofs.Lists.{rest_none, rest-head}

-- the position that a state holds
abbrev held : LeducState → Position
held s = position (cards_of s) s.public (round_one s) (round_two s)

-- that with one card more, and with one action more
abbrev with_card : LeducState → ℕ → Position
with_card s c = cond (ltb (length (cards_of s)) 2) (position (cards_of s ++ (c ∷ [])) s.public (round_one s) (round_two s)) (position (cards_of s) (Some c) (round_one s) (round_two s))

abbrev with_action : LeducState → ℕ → Position
with_action s a = cond (closes (round_one s)) (position (cards_of s) s.public (round_one s) (round_two s ++ (a ∷ []))) (position (cards_of s) s.public (round_one s ++ (a ∷ [])) (round_two s))

-- ---- what the calls answer at a position that moves reach
module _ (s : LeducState) (z : Fit s) where
  passes : reachable s ≡ true
  passes = let (x, y, w) = z.within in (reachable_by_moves s).1 (x, y, w, z.reached)

  deal-accepted : (k : ℕ) → due (cards_of s) s.public (round_one s) (round_two s) ≡ true → k < length (remaining (seen_of s)) → (dealt s k).refusal ≡ 0
  unfolding deal-refusal ◌and◌
  deal-accepted k d l = moved_number (deal-refusal s k) s _ ∙ rw (passes, d, lt-ltb k (length (remaining (seen_of s))) l) refl

  deal-refused : (k : ℕ) → length (remaining (seen_of s)) ≤ k → (dealt s k).refusal ≡ 20
  unfolding deal-refusal
  deal-refused k l = moved_number (deal-refusal s k) s _ ∙ rw (passes, and_right_fails (due (cards_of s) s.public (round_one s) (round_two s)) (le-ltb k _ l)) refl

  step_accepted : (a : ℕ) → live (cards_of s) s.public (round_one s) (round_two s) ≡ true → (stepped s a).refusal ≡ 0
  unfolding step_refusal
  step_accepted a l = moved_number (step_refusal s) s _ ∙ rw (passes, l) refl

  payoff-accepted : ended (round_one s) (round_two s) ≡ true → payoff-refusal s ≡ 0
  unfolding payoff-refusal
  payoff-accepted o = rw (passes, o) refl

  ended-paid : (p : ℕ → ℤ) → ended (round_one s) (round_two s) ≡ true → p ≡ payoff 1 2 4 (cards_of s) s.public (round_one s) (round_two s)
      → paid s ≡ record { refusal = 0; state = s; count = 2; payoffs = p 0 ∷ p 1 ∷ replicate 8 (pos 0) }
  ended-paid p o e =
      ap (λ r. payoff-answer r s) (payoff-accepted o)
      ∙ ap (λ q. record { refusal = 0; state = s; count = 2; payoffs = q 0 ∷ q 1 ∷ replicate 8 (pos 0) }) (sym e)

  others_none : (i : ℕ) → i ≢ turn (round_one s) (round_two s) → legal_of s i ≡ []
  unfolding legal
  others_none i h =
      ap (λ b. cond b (options (in_play_of s)) [])
      (and_right_fails (live (cards_of s) s.public (round_one s) (round_two s)) (ne_eqb i (turn (round_one s) (round_two s)) h))

-- ---- where a move leads
counted_same : (h : List ℕ) (a : ℕ) → may h a ≡ true → counted h a ≡ a
unfolding counted
counted_same h a e = rw e

card_there : (s : LeducState) (c : ℕ) {d : ℕ} {t : LeducState} → OneCardMore s d t → d ≡ c → with_card s c ≡ held t
card_there s c {d} {t} m e = go (tested (ltb (length (cards_of s)) 2))
  where
    go : Tested (ltb (length (cards_of s)) 2) → with_card s c ≡ held t
    go (holds q) = let (x, y) = m.to_seat (ltb-true _ 2 q) in let (u, v) = m.rounds_are in rw q (cc)
    go (fails q) = let (x, y) = m.to_table (ltb-false _ 2 q) in let (u, v) = m.rounds_are in rw q (cc)

action_there : (s : LeducState) (a : ℕ) {d : ℕ} {t : LeducState} → OneActionMore s d t → d ≡ a → with_action s a ≡ held t
action_there s a {d} {t} m e = go (tested (closes (round_one s)))
  where
    go : Tested (closes (round_one s)) → with_action s a ≡ held t
    go (holds q) = let (x, y) = m.round.in_two q in rw q (cc)
    go (fails q) = let (x, y) = m.round.in_one q in rw q (cc)

moved_to : (t : Tree) {q r : Position} → q ≡ r → Stands 1 2 4 t q → Stands 1 2 4 t r
moved_to t e v = subst (Stands 1 2 4 t) e v

-- ---- the tree that follows the rules from there is the one that they play
abbrev Legal : LeducState → List ℕ → Type 0
Legal s l = (a : ℕ) → In a l → may (in_play_of s) a ≡ true

options-legal : (s : LeducState) → Legal s (options (in_play_of s))
unfolding options
options-legal s a i = (in_those (may (in_play_of s)) 3 a i).1

listed : (s : LeducState) (j : ℕ) → live (cards_of s) s.public (round_one s) (round_two s) ≡ true → j ≡ turn (round_one s) (round_two s) → legal_of s j ≡ options (in_play_of s)
unfolding legal
listed s j l e = rw (both l (eq-eqb j (turn (round_one s) (round_two s)) e)) refl

mutual
  unfolding Follows Played In Rule.dealt Rule.acted

  pub played : (t : Tree) (s : LeducState) → Fit s → Stands 1 2 4 t (held s) → Played t s
  played (end p) s z (r, o, e) = ended-paid s z p o e
  played (chance f) s z (r, d, v) = played-deals f s z d 0 (remaining (seen_of s)) refl v
  played (decide j k f) s z (r, l, a, b, v) = (
    b,
    (λ i h. others_none s z i (λ e. h (e ∙ sym a))),
    subst (Stepped f s) (sym (listed s j l a)) (played-steps f s z l (options (in_play_of s)) (options-legal s) (rw (listed s (turn (round_one s) (round_two s)) l refl) at v)),
  )

  played-deals : (f : Trees) (s : LeducState) → Fit s → due (cards_of s) s.public (round_one s) (round_two s) ≡ true → (k : ℕ) (l : List ℕ) → drop k (remaining (seen_of s)) ≡ l
      → FollowsAll 1 2 4 f (map (with_card s) l) → Dealt f s k
  played-deals nil s z d k [] e v = deal-refused s z k (rest_none (remaining (seen_of s)) k e)
  played-deals nil s z d k (c ∷ l) e v = absurd v
  played-deals (cons t f) s z d k [] e v = absurd v
  played-deals (cons t f) s z d k (c ∷ l) e (v, w) =
      let (x, y, q) = rest-head (remaining (seen_of s)) k c l e in
      let ok = deal-accepted s z k d x in
      let m = (deals s k z.sized).adds ok in
      (ok, played t (dealt s k).state m.fit (moved_to t (card_there s c m y) v), played-deals f s z d (suc k) l q w)

  played-steps : (f : Trees) (s : LeducState) → Fit s → live (cards_of s) s.public (round_one s) (round_two s) ≡ true → (l : List ℕ) → Legal s l
      → FollowsAll 1 2 4 f (map (with_action s) l) → Stepped f s l
  played-steps nil s z e [] h v = tt
  played-steps nil s z e (a ∷ l) h v = absurd v
  played-steps (cons t f) s z e [] h v = absurd v
  played-steps (cons t f) s z e (a ∷ l) h (v, w) =
      let ok = step_accepted s z a e in
      let m = (steps s a z.sized).adds ok in
      (ok, played t (stepped s a).state m.fit (moved_to t (action_there s a m (counted_same (in_play_of s) a (h a (inl refl)))) v), played-steps f s z e l (λ x i. h x (inr i)) w)

pub nodes-played : NodesPlayed
nodes-played s a z l e = played (node_of tree a) s z (subst (Stands 1 2 4 (node_of tree a)) e (node-follows 1 2 4 a l))

pub tree-played : TreePlayed
tree-played = played tree initial fits (leduc-follows 1 2 4)
  where
    fits : Fit initial
    fits = record { sized = record { cards-size = refl; history-size = refl }; within = (omega arith, omega arith, omega arith); reached = start }
