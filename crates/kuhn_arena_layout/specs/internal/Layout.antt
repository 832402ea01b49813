-- Kuhn's tree as the builder goes through it: histories as numbers,
-- a hand before and after its first bet, and the code of a set. Definitions only; nothing is assumed.
use Rattle.std.specs.Prelude.{◌≡◌, true, false, cond, List, [], ◌∷◌, ◌++◌, ℕ, zero, suc, ◌+◌, ◌*◌, ◌-◌, ◌/◌, ◌%◌, ◌^◌, ◌≤◌, ◌<◌, length, get_or}
use Rattle.prelude.specs.Finite.{those, sum}
use Rattle.game_tree.specs.Tree.{Key, Tree, end, decide, Trees, nil, cons}
use Rattle.kuhn_rules.specs.Rules.{PASS, BET, turn, bet-made, bets, key, left, contribution, wins, payoff}
use Rattle.kuhn_rules.specs.Moves.{Reached}
use Rattle.kuhn_rules.specs.Reached.{fair}
use Rattle.kuhn_rules.specs.Stakes.{ante, stake}
use Rattle.kuhn_tree.specs.Tree.{each, m}
use Rattle.kuhn_tree.proofs.Shape.{deals}

-- a history as a number, behind a number c: no two histories of passes and bets share one
unfoldable pub number_from : ℕ → List ℕ → ℕ
number_from c [] = c
number_from c (a ∷ h) = number_from (2 * c + a + 1) h

-- the code of a key: its history's number, and its card among n + 1
unfoldable pub code_of : ℕ → ℕ → Key → ℕ
unfolding number_from
code_of n j [] = 0
code_of n j (p ∷ []) = 0
code_of n j (p ∷ c ∷ h) = number_from 0 h * (n + 1) + c

-- how many codes the sets of n seats may have
abbrev pub code_count : ℕ → ℕ
code_count n = 2 ^ m n * (n + 1)

-- the history of a number: its last action is told by the number's parity, at most f of them are read
unfoldable pub last_actions : ℕ → ℕ → List ℕ
last_actions zero x = []
last_actions (suc f) zero = []
last_actions (suc f) (suc x) = last_actions f (x / 2) ++ (x % 2 ∷ [])

unfoldable pub history_at : ℕ → List ℕ
unfolding last_actions
history_at x = last_actions x x

-- the hand from history h on, once a seat has bet and r actions are to come
unfoldable pub after_bet : ℕ → List ℕ → ℕ → List ℕ → Tree
after_bet n cs zero h = end (payoff ante stake n cs h)
after_bet n cs (suc r) h =
    decide (turn n h) (key cs h (turn n h)) (cons (after_bet n cs r (h ++ (PASS ∷ []))) (cons (after_bet n cs r (h ++ (BET ∷ []))) nil))

-- and while none has, and r seats are to act
unfoldable pub before_bet : ℕ → List ℕ → ℕ → List ℕ → Tree
unfolding after_bet
before_bet n cs zero h = end (payoff ante stake n cs h)
before_bet n cs (suc r) h = decide (turn n h) (key cs h (turn n h))
    (cons (before_bet n cs r (h ++ (PASS ∷ []))) (cons (after_bet n cs (n - 1) (h ++ (BET ∷ []))) nil))

-- the same by the number of the history
unfoldable pub after_at : ℕ → List ℕ → (number r : ℕ) → Tree
unfolding after_bet history_at
after_at n cs number r = after_bet n cs r (history_at number)

unfoldable pub before_at : ℕ → List ℕ → (number r : ℕ) → Tree
unfolding before_bet history_at
before_at n cs number r = before_bet n cs r (history_at number)

-- what a unit of seat i's payoff is in the word of an end
abbrev pub unit_of : ℕ → ℕ
unit_of i = 4 * 2 ^ (8 * i)

-- six bytes behind the kind of an end
abbrev pub packed : (ℕ → ℕ) → ℕ
packed f = 4 * f 0 + 1024 * f 1 + 262144 * f 2 + 67108864 * f 3 + 17179869184 * f 4 + 4398046511104 * f 5

-- the word of an end at which all seats lose what they have paid
unfoldable pub losses : ℕ → List ℕ → ℕ
losses n h = packed (λ i. 64 - contribution ante stake n h i)

-- a full deal
pub record Dealt (n : ℕ) (cs : List ℕ) : Type 0 where
  pub least : 2 ≤ n
  pub most : n ≤ 6
  pub full : length cs ≡ n
  pub apart : fair n cs ≡ true

-- history h with a bet and r actions to come, each of a seat that has not bet: what the seats have lost, the pot, and who would win it
pub record Betting (n : ℕ) (cs h : List ℕ) (seat r pays pot win : ℕ) : Type 0 where
  pub deal : Dealt n cs
  pub acts : seat ≡ turn n h
  pub few : r < n
  pub opened : bet-made h ≡ true
  pub fresh : (j : ℕ) → j < r → bets n h ((length h + j) % n) ≡ false
  pub lost : pays ≡ losses n h
  pub stakes : pot ≡ sum n (contribution ante stake n h)
  pub seated : win < n
  pub leads : wins n cs h win ≡ true

-- history h of as many passes as seat, and its number
pub record Passing (n : ℕ) (cs h : List ℕ) (seat number : ℕ) : Type 0 where
  pub deal : Dealt n cs
  pub acted : length h ≡ seat
  pub few : seat ≤ n
  pub quiet : bet-made h ≡ false
  pub passes : number + 1 ≡ 2 ^ seat

-- no seat has a higher card than seat r
pub record Top (n : ℕ) (cs : List ℕ) (r : ℕ) : Type 0 where
  pub seated : r < n
  pub highest : (q : ℕ) → q < n → get_or cs q 0 ≤ get_or cs r 0

-- the tree below a deal of cards cs to the first seats
unfoldable pub deal_at : ℕ → List ℕ → Tree
unfolding deals
deal_at n cs = deals ante stake n (n - length cs) cs

-- the children of a deal, up to card c
unfoldable pub children_to : ℕ → List ℕ → ℕ → Trees
unfolding deal_at
children_to n cs c = each (those c (left n cs)) (λ e. deal_at n (cs ++ (e ∷ [])))

-- the child of card c, if that is left
unfoldable pub child_at : ℕ → List ℕ → ℕ → Trees
unfolding deal_at
child_at n cs c = cond (left n cs c) (cons (deal_at n (cs ++ (c ∷ []))) nil) nil

-- a deal to the first seats
pub record Dealing (n : ℕ) (cs : List ℕ) : Type 0 where
  pub least : 2 ≤ n
  pub most : n ≤ 6
  pub few : length cs ≤ n
  pub reached : Reached n cs []
