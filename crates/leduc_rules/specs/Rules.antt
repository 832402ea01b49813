-- Leduc's rules over its betting and its cards (Southey et al. 2005): the deal and the keys depend on
-- the cards and the histories, the money on the stakes too. h₁ and h₂ are the histories of the two rounds.
use Rattle.std.specs.Prelude.{Bool, false, not, cond, List, [], ◌∷◌, ◌++◌, ℕ, zero, suc, ◌+◌, ◌-◌, ◌%◌, eqb, ltb, ℤ, pos, neg_ℤ}
use Rattle.std.specs.Prelude.{length, get_or, Option, None, Some}
use Rattle.prelude.specs.Finite.{◌and◌, ◌or◌, some}
use Rattle.leduc_betting.specs.Betting.{FOLD, CALL, RAISE, folded, closes, options, in_play, turn, ended}
use Rattle.leduc_betting.specs.Cards.{rank, hidden}

-- ---- the deal: a card for each seat, and the public one once round 1 has closed

-- the public card is due once round 1 has closed
unfoldable pub public-due : Option ℕ → List ℕ → List ℕ → Bool
public-due p h₁ h₂ = hidden p and (closes h₁ and not (ended h₁ h₂))

-- a card is due while a seat has none, and then the public one in its time
unfoldable pub due : List ℕ → Option ℕ → List ℕ → List ℕ → Bool
due cs p h₁ h₂ = ltb (length cs) 2 or public-due p h₁ h₂

-- a seat acts while no card is due and until the hand ends
unfoldable pub live : List ℕ → Option ℕ → List ℕ → List ℕ → Bool
live cs p h₁ h₂ = not (due cs p h₁ h₂ or ended h₁ h₂)

-- what seat s may do at its turn; nothing otherwise
unfoldable pub legal : List ℕ → Option ℕ → List ℕ → List ℕ → ℕ → List ℕ
legal cs p h₁ h₂ s = cond (live cs p h₁ h₂ and eqb s (turn h₁ h₂)) (options (in_play h₁ h₂)) []

-- what a key shows of a card: the card itself
abbrev pub shown : ℕ → ℕ
shown c = c

-- what a key shows of the public card, 255 for none
abbrev pub shown-public : Option ℕ → ℕ
shown-public None = 255
shown-public (Some c) = shown c

-- what seat s knows: its number, its card, the public card, and each round's length and actions
unfoldable pub key : List ℕ → Option ℕ → List ℕ → List ℕ → ℕ → List ℕ
key cs p h₁ h₂ s = s ∷ shown (get_or cs s 0) ∷ shown-public p ∷ length h₁ ∷ h₁ ++ (length h₂ ∷ h₂)

-- ---- money: an ante, then raises of one size in round 1 and another in round 2

-- a seat has put in own and the other seat other; what it has put in after its action: CALL matches the other seat; RAISE matches and adds
unfoldable pub after-action : (size action own other : ℕ) → ℕ
after-action size action own other = cond (eqb action CALL) other (cond (eqb action RAISE) (other + size) own)

-- what seat s has put in by the first i actions of a round, which the seats make in turn from seat 0
unfoldable pub put_in : (size : ℕ) → List ℕ → (i s : ℕ) → ℕ
unfolding after-action
put_in size h zero s = 0
put_in size h (suc i) s =
    let own : ℕ = put_in size h i s in
    let other : ℕ = put_in size h i (1 - s) in
    cond (eqb s (i % 2)) (after-action size (get_or h i FOLD) own other) own

-- what the calls and raises of seat s have added in a round
abbrev pub added : (size : ℕ) → List ℕ → ℕ → ℕ
added size h s = put_in size h (length h) s

-- what seat s has paid: the ante, and what it added in each round
unfoldable pub contribution : (ante raise₁ raise₂ : ℕ) → List ℕ → List ℕ → ℕ → ℕ
unfolding put_in
contribution ante raise₁ raise₂ h₁ h₂ s = ante + added raise₁ h₁ s + added raise₂ h₂ s

-- seat s has folded: at a place of a history where the turn was its own
unfoldable pub folds : List ℕ → ℕ → Bool
folds h s = some (length h) (λ i. eqb (i % 2) s and eqb (get_or h i 0) FOLD)

-- seat s has a pair with the public card
unfoldable pub pairs : List ℕ → Option ℕ → ℕ → Bool
pairs cs None s = false
pairs cs (Some c) s = eqb (rank (get_or cs s 0)) (rank c)

-- seat s beats seat t at the showdown: a pair wins, else the higher rank
unfoldable pub beats : List ℕ → Option ℕ → ℕ → ℕ → Bool
beats cs p s t = not (pairs cs p t) and (pairs cs p s or ltb (rank (get_or cs t 0)) (rank (get_or cs s 0)))

-- seat s wins against seat t: t has folded, or nobody has and s beats t
unfoldable pub wins : List ℕ → Option ℕ → List ℕ → List ℕ → ℕ → ℕ → Bool
wins cs p h₁ h₂ s t = cond (folded h₁ or folded h₂) (folds h₁ t or folds h₂ t) (beats cs p s t)

-- the winner gains the loser's contribution; 0 to both if nobody wins
unfoldable pub payoff : (ante raise₁ raise₂ : ℕ) → List ℕ → Option ℕ → List ℕ → List ℕ → ℕ → ℤ
payoff ante raise₁ raise₂ cs p h₁ h₂ s =
    cond (wins cs p h₁ h₂ s (1 - s))
    (pos (contribution ante raise₁ raise₂ h₁ h₂ (1 - s)))
    (cond (wins cs p h₁ h₂ (1 - s) s) (neg_ℤ (pos (contribution ante raise₁ raise₂ h₁ h₂ s))) (pos 0))
