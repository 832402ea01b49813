-- Kuhn's calls play its tree. Assumes nothing.
use mathlib.Core.Path.{◌≡◌, refl, sym, ap, subst, subst₂, ◌∙◌}
use mathlib.Core.Logic.{◌≢◌, inl, inr}
use mathlib.Core.Bool.{true, false, cond}
use mathlib.Core.List.{List, [], ◌∷◌, ◌++◌, map}
use Prim.Native.Nat.{ℕ, suc, ◌≤◌, ◌<◌}
use native.Mathlib.Omega.{arith}
use lib.Dec.{ltb}
use lib.IntN.{ℤ, pos}
use lib.ListN.{length, drop}
use borrow.Author.Tests.{le-ltb, lt-ltb, ne_eqb}
use Rattle.prelude.specs.Finite.{◌and◌, places}
use Rattle.prelude.proofs.Tests.{neither, and_right_fails}
use Rattle.game_tree.specs.Tree.{Tree, end, chance, decide, Trees, nil, cons}
use Rattle.game_tree.specs.Nodes.{node_of}
use Rattle.game_tree.proofs.Counting.{In}
use Rattle.kuhn_rules.specs.Rules.{PASS, BET, turn, due, live, over, remaining, legal, payoff}
use Rattle.kuhn_rules.specs.Stakes.{payoffs_of}
use Rattle.kuhn_rules.specs.Moves.{start}
use Rattle.kuhn_positions.specs.Positions.{cards_of, history_of, initial, counted, seats-out, reachable}
use Rattle.kuhn_positions.specs.declared.KuhnState.{KuhnState}
use Rattle.kuhn.specs.declared.KuhnPoker.{KuhnPoker}
use Rattle.kuhn.specs.Calls.{deal_refusal, dealt, step_refusal, stepped, legal_of, key_of, payoff-answer, payoff_refusal, paid}
use Rattle.kuhn.specs.Facts.{Fit, OneCardMore, OneActionMore}
use Rattle.kuhn.proofs.Decides.{moved_number}
use Rattle.kuhn.proofs.Facts.{reachable_by_moves}
use Rattle.kuhn.proofs.Moving.{deals, steps}
use Rattle.kuhn_tree.specs.Follows.{Follows, FollowsAll}
use Rattle.kuhn_tree.specs.Positions as Rule
use Rattle.kuhn_tree.proofs.Growth.{legal-acts, kuhn-follows}
use Rattle.kuhn_tree.proofs.Positions.{node-follows}
use Rattle.trees_played.specs.Kuhn.{Played, Dealt, Stepped, tree, NodesPlayed, TreePlayed}
use Rattle.trees_played.proofs.Lists.{rest_none, rest-head}

module _ (g : KuhnPoker) (least : 2 ≤ g.players) (most : g.players ≤ 10) where
  abbrev n : ℕ
  n = g.players

  seats_in : seats-out n ≡ false
  seats_in = neither (le-ltb n 2 least) (le-ltb 10 n most)

  -- ---- what the calls answer at a position that moves reach
  module _ (s : KuhnState) (z : Fit n s) where
    passes : reachable n s ≡ true
    passes = (reachable_by_moves n s).1 (z.within.0, z.within.1, z.reached)

    deal-accepted : (k : ℕ) → due n (cards_of s) ≡ true → k < length (remaining n (cards_of s)) → (dealt g s k).refusal ≡ 0
    unfolding deal_refusal ◌and◌
    deal-accepted k d l = moved_number (deal_refusal g s k) s _ ∙ rw (seats_in, passes, d, lt-ltb k (length (remaining n (cards_of s))) l) refl

    deal-refused : (k : ℕ) → length (remaining n (cards_of s)) ≤ k → (dealt g s k).refusal ≡ 20
    unfolding deal_refusal
    deal-refused k l = moved_number (deal_refusal g s k) s _ ∙ rw (seats_in, passes, and_right_fails (due n (cards_of s)) (le-ltb k _ l)) refl

    step_accepted : (a : ℕ) → live n (cards_of s) (history_of s) ≡ true → (stepped g s a).refusal ≡ 0
    unfolding step_refusal
    step_accepted a l = moved_number (step_refusal g s) s _ ∙ rw (seats_in, passes, l) refl

    payoff-accepted : over n (cards_of s) (history_of s) ≡ true → payoff_refusal g s ≡ 0
    unfolding payoff_refusal
    payoff-accepted o = rw (seats_in, passes, o) refl

    ended-paid : (p : ℕ → ℤ) → over n (cards_of s) (history_of s) ≡ true → p ≡ payoff 1 1 n (cards_of s) (history_of s)
        → paid g s ≡ record { refusal = 0; state = s; count = n; payoffs = places 10 (λ i. cond (ltb i n) (p i) (pos 0)) }
    unfolding payoffs_of
    ended-paid p o e =
        ap (λ r. payoff-answer r g s) (payoff-accepted o)
        ∙ ap (λ q. record { refusal = 0; state = s; count = n; payoffs = places 10 (λ i. cond (ltb i n) (q i) (pos 0)) }) (sym e)

    others_none : (i : ℕ) → i ≢ turn n (history_of s) → legal_of g s i ≡ []
    unfolding legal_of legal
    others_none i h = ap (λ b. cond b (PASS ∷ BET ∷ []) []) (and_right_fails (live n (cards_of s) (history_of s)) (ne_eqb i (turn n (history_of s)) h))

    -- the seat whose turn it is may pass or bet
    listed : (j : ℕ) → live n (cards_of s) (history_of s) ≡ true → j ≡ turn n (history_of s) → legal_of g s j ≡ PASS ∷ BET ∷ []
    unfolding legal_of
    listed j l e = ap (legal n (cards_of s) (history_of s)) e ∙ legal-acts n (cards_of s) (history_of s) l

  counted_same : (a : ℕ) → a ≤ 1 → counted a ≡ a
  counted_same a l = ap (λ b. cond b BET a) (le-ltb BET a l)

  card_there : (s : KuhnState) (c : ℕ) {d : ℕ} {t : KuhnState} → OneCardMore n s d t → d ≡ c → cards_of t ≡ cards_of s ++ (c ∷ [])
  card_there s c m e = m.cards_are ∙ ap (λ x. cards_of s ++ (x ∷ [])) e

  action_there : (s : KuhnState) (a : ℕ) {t : KuhnState} → OneActionMore n s (counted a) t → a ≤ 1 → history_of t ≡ history_of s ++ (a ∷ [])
  action_there s a m l = m.history_is ∙ ap (λ x. history_of s ++ (x ∷ [])) (counted_same a l)

  moved_to : (t : Tree) {cs cs' h h' : List ℕ} → cs' ≡ cs → h' ≡ h → Follows 1 1 n t cs h → Follows 1 1 n t cs' h'
  moved_to t p q v = subst₂ (λ cs h. Follows 1 1 n t cs h) (sym p) (sym q) v

  -- ---- the tree that follows the rules from there is the one that they play
  abbrev Few : List ℕ → Type 0
  Few l = (a : ℕ) → In a l → a ≤ 1

  pass_or_bet : Few (PASS ∷ BET ∷ [])
  unfolding In
  pass_or_bet a (inl e) = omega arith
  pass_or_bet a (inr (inl e)) = omega arith
  pass_or_bet a (inr (inr e)) = absurd e

  mutual
    unfolding Follows Played In Rule.dealt Rule.acted key_of

    pub played : (t : Tree) (s : KuhnState) → Fit n s → Follows 1 1 n t (cards_of s) (history_of s) → Played g t s
    played (end p) s z (r, o, e) = ended-paid s z p o e
    played (chance f) s z (r, d, v) = played-deals f s z d 0 (remaining n (cards_of s)) refl v
    played (decide j k f) s z (r, l, a, b, v) = (
      b,
      (λ i h. others_none s z i (λ e. h (e ∙ sym a))),
      subst (Stepped g f s) (sym (listed s z j l a)) (played-steps f s z l (PASS ∷ BET ∷ []) pass_or_bet (rw (legal-acts n (cards_of s) (history_of s) l) at v)),
    )

    played-deals : (f : Trees) (s : KuhnState) → Fit n s → due n (cards_of s) ≡ true → (k : ℕ) (l : List ℕ) → drop k (remaining n (cards_of s)) ≡ l
        → FollowsAll 1 1 n f (map (λ c. (cards_of s ++ (c ∷ []), history_of s)) l) → Dealt g f s k
    played-deals nil s z d k [] e v = deal-refused s z k (rest_none (remaining n (cards_of s)) k e)
    played-deals nil s z d k (c ∷ l) e v = absurd v
    played-deals (cons t f) s z d k [] e v = absurd v
    played-deals (cons t f) s z d k (c ∷ l) e (v, w) =
        let (x, y, q) = rest-head (remaining n (cards_of s)) k c l e in
        let ok = deal-accepted s z k d x in
        let m = (deals g s k z.sized).adds ok in
        (ok, played t (dealt g s k).state m.fit (moved_to t (card_there s c m y) m.history_is v), played-deals f s z d (suc k) l q w)

    played-steps : (f : Trees) (s : KuhnState) → Fit n s → live n (cards_of s) (history_of s) ≡ true → (l : List ℕ) → Few l
        → FollowsAll 1 1 n f (map (λ a. (cards_of s, history_of s ++ (a ∷ []))) l) → Stepped g f s l
    played-steps nil s z e [] h v = tt
    played-steps nil s z e (a ∷ l) h v = absurd v
    played-steps (cons t f) s z e [] h v = absurd v
    played-steps (cons t f) s z e (a ∷ l) h (v, w) =
        let ok = step_accepted s z a e in
        let m = (steps g s a z.sized).adds ok in
        (ok, played t (stepped g s a).state m.fit (moved_to t m.cards_are (action_there s a m (h a (inl refl))) v), played-steps f s z e l (λ x i. h x (inr i)) w)

pub nodes-played : NodesPlayed
nodes-played g s a least most z l e =
    played g least most (node_of (tree g) a) s z (subst (λ q. Follows 1 1 g.players (node_of (tree g) a) q.0 q.1) e (node-follows 1 1 g.players (omega arith) a l))

initial_fits : (n : ℕ) → Fit n initial
initial_fits n = record { sized = record { cards-size = refl; history-size = refl }; within = (omega arith, omega arith); reached = start }

pub tree-played : TreePlayed
tree-played g least most = played g least most (tree g) initial (initial_fits g.players) (kuhn-follows g.players (omega arith) 1 1)
