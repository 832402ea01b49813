-- Kuhn's rules for n seats (document 01, "The two games"; Kuhn 1950 has two seats),
-- in three layers: the betting depends on the history alone,
-- the deal on the cards, the money on both and on the stakes. A history lists the actions made, from the first.
-- `abbrev` and `unfoldable` tell the prover when it may put a definition in place of its name; a reader may pass over both.
use Rattle.std.specs.Prelude.{Bool, false, not, cond, List, [], ◌∷◌, ℕ, ◌+◌, ◌-◌, ◌%◌, eqb, leb, ltb, ℤ, pos, neg_ℤ, length, get_or, take}
use Rattle.prelude.specs.Finite.{◌and◌, ◌or◌, some, every, sum, those, has}

-- ---- betting

abbrev pub PASS : ℕ
PASS = 0

abbrev pub BET : ℕ
BET = 1

-- the seat whose turn it is
abbrev pub turn : ℕ → List ℕ → ℕ
turn n h = length h % n

-- some action is a bet
unfoldable pub bet-made : List ℕ → Bool
bet-made [] = false
bet-made (a ∷ h) = eqb a BET or bet-made h

-- the actions that follow the first bet
unfoldable pub after-bet : List ℕ → List ℕ
after-bet [] = []
after-bet (a ∷ h) = cond (eqb a BET) h (after-bet h)

-- the hand ends after n passes, or n - 1 actions after the first bet: at its last action, and not past it
unfoldable pub ended : ℕ → List ℕ → Bool
ended n h = cond (bet-made h) (eqb (length (after-bet h)) (n - 1)) (eqb (length h) n)

-- some action stands after the hand ended
unfoldable pub overrun : ℕ → List ℕ → Bool
overrun n h = some (length h) (λ k. ended n (take k h))

-- seat p has bet: at a place of the history where the turn was p's
unfoldable pub bets : ℕ → List ℕ → ℕ → Bool
bets n h p = some (length h) (λ i. eqb (i % n) p and eqb (get_or h i PASS) BET)

-- those who bet stand; all, if none did
unfoldable pub stands : ℕ → List ℕ → ℕ → Bool
stands n h p = not (bet-made h) or bets n h p

-- ---- cards: 0 to n, one for each seat

-- card c is left once the cards cs are dealt
unfoldable pub left : ℕ → List ℕ → ℕ → Bool
left n cs c = leb c n and not (has c cs)

-- the cards left, in ascending order
unfoldable pub remaining : ℕ → List ℕ → List ℕ
remaining n cs = those (n + 1) (left n cs)

-- a card is due while a seat has none
abbrev pub due : ℕ → List ℕ → Bool
due n cs = ltb (length cs) n

-- a seat acts once all cards are dealt and until the hand ends
abbrev pub live : ℕ → List ℕ → List ℕ → Bool
live n cs h = eqb (length cs) n and not (ended n h)

-- the hand is over
abbrev pub over : ℕ → List ℕ → List ℕ → Bool
over n cs h = eqb (length cs) n and ended n h

-- what seat p may do: pass or bet at its turn, nothing otherwise
unfoldable pub legal : ℕ → List ℕ → List ℕ → ℕ → List ℕ
legal n cs h p = cond (live n cs h and eqb p (turn n h)) (PASS ∷ BET ∷ []) []

-- what seat p knows: its number, its card, the history
abbrev pub key : List ℕ → List ℕ → ℕ → List ℕ
key cs h p = p ∷ get_or cs p 0 ∷ h

-- ---- money: an ante for all, a stake more for those who bet

-- what seat p has paid
unfoldable pub contribution : (ante stake n : ℕ) → List ℕ → ℕ → ℕ
contribution ante stake n h p = ante + cond (bets n h p) stake 0

-- seat p stands, and no seat that stands has a higher card
unfoldable pub wins : ℕ → List ℕ → List ℕ → ℕ → Bool
wins n cs h p = stands n h p and every n (λ q. not (stands n h q) or leb (get_or cs q 0) (get_or cs p 0))

-- what the seats other than p have paid
unfoldable pub paid_by_others : (ante stake n : ℕ) → List ℕ → ℕ → ℕ
paid_by_others ante stake n h p = sum n (λ q. cond (eqb q p) 0 (contribution ante stake n h q))

-- the winner gains what the others lose: each of them its contribution
unfoldable pub payoff : (ante stake n : ℕ) → List ℕ → List ℕ → ℕ → ℤ
payoff ante stake n cs h p = cond (wins n cs h p) (pos (paid_by_others ante stake n h p)) (neg_ℤ (pos (contribution ante stake n h p)))
