-- What holds of Kuhn's rules, proved in proofs/Facts.antt. n is the number of seats, cs the cards dealt, h the history.
use Rattle.std.specs.Prelude.{◌≡◌, true, List, ℕ, ◌*◌, ◌≤◌, ◌<◌, eqb, leb, pos, length, get_or, take}
use Rattle.prelude.specs.Finite.{◌and◌, sumℤ, has}
use Rattle.kuhn_rules.specs.Rules.{BET, turn, live, over, left, remaining, legal, key, wins, payoff}
use Rattle.kuhn_rules.specs.Moves.{Reached}
use Rattle.kuhn_rules.specs.Reached.{possible}

-- the test of a position holds of the reachable ones and of no other
pub record DecidesReached : Type 0 where
  pub sound : (n : ℕ) (cs h : List ℕ) → possible n cs h ≡ true → Reached n cs h
  pub complete : (n : ℕ) (cs h : List ℕ) → Reached n cs h → possible n cs h ≡ true

-- the actions that moves make are the legal ones of the seat whose turn it is
abbrev pub LegalMoves : Type 0
LegalMoves = (n : ℕ) (cs h : List ℕ) (a : ℕ) → has a (legal n cs h (turn n h)) ≡ (live n cs h and leb a BET)

-- at every end just one seat wins
abbrev pub OneWinner : Type 0
OneWinner = (n : ℕ) (cs h : List ℕ) → 1 ≤ n → Reached n cs h → over n cs h ≡ true → (w : ℕ) × (w < n)
    × ((p : ℕ) → p < n → wins n cs h p ≡ eqb p w)

-- payoffs add up to 0 at every end, at all stakes
abbrev pub ZeroSum : Type 0
ZeroSum = (ante stake n : ℕ) (cs h : List ℕ) → 1 ≤ n → Reached n cs h → over n cs h ≡ true → sumℤ n (payoff ante stake n cs h) ≡ pos 0

-- the cards left are listed in ascending order,
abbrev pub Ascending : Type 0
Ascending = (n : ℕ) (cs : List ℕ) (i j : ℕ) → i < j → j < length (remaining n cs) → get_or (remaining n cs) i 0 < get_or (remaining n cs) j 0

-- and they are all the cards left
abbrev pub AllLeft : Type 0
AllLeft = (n : ℕ) (cs : List ℕ) (c : ℕ) → has c (remaining n cs) ≡ left n cs c

-- no hand has more than 2n - 1 actions
abbrev pub LongestHand : Type 0
LongestHand = (n : ℕ) (cs h : List ℕ) → 1 ≤ n → Reached n cs h → length h < 2 * n

-- a key tells the seat, its card and the history,
abbrev pub KeyTells : Type 0
KeyTells = (cs cs' h h' : List ℕ) (p p' : ℕ) → key cs h p ≡ key cs' h' p' → (p ≡ p') × (get_or cs p 0 ≡ get_or cs' p' 0) × (h ≡ h')

-- and so every earlier key of the seat
abbrev pub KeyRecalls : Type 0
KeyRecalls = (cs cs' h h' : List ℕ) (p p' : ℕ) → key cs h p ≡ key cs' h' p' → (k : ℕ) → key cs (take k h) p ≡ key cs' (take k h') p'
