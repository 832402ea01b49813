-- What holds of Leduc's rules, proved in proofs/. cs are the seats' cards, p the public card, h₁ and h₂ the histories of the rounds.
use Rattle.std.specs.Prelude.{◌≡◌, Bool, true, false, cond, List, [], ◌∷◌, ℕ, ◌+◌, ◌*◌, ◌-◌, ◌≤◌, ◌<◌, ltb, pos, ◌+ℤ◌}
use Rattle.std.specs.Prelude.{length, get_or, take, Option, None}
use Rattle.refusals.specs.Refusals.{first}
use Rattle.refusals.specs.Refusals as Refusals
use Rattle.prelude.specs.Finite.{◌and◌, has}
use Rattle.leduc_betting.specs.Betting.{closes, behind, may, in_play, turn, ended}
use Rattle.leduc_betting.specs.Cards.{hidden, left, remaining}
use Rattle.leduc_rules.specs.Rules.{due, live, legal, shown-public, key, added, contribution, payoff}
use Rattle.leduc_rules.specs.Moves.{Reached}
use Rattle.leduc_betting.specs.Checks.{action_checks, barred_by}

-- the legal list of the seat whose turn it is has the actions that moves make there, in round 1 or, once that has closed, in round 2
abbrev pub LegalMoves : Type 0
LegalMoves = (cs : List ℕ) (p : Option ℕ) (h₁ h₂ : List ℕ) (a : ℕ)
    → has a (legal cs p h₁ h₂ (turn h₁ h₂)) ≡ (live cs p h₁ h₂ and cond (closes h₁) (may h₂ a) (may h₁ a))

-- payoffs add up to 0 at every end, at all stakes
abbrev pub ZeroSum : Type 0
ZeroSum = (ante raise₁ raise₂ : ℕ) (cs : List ℕ) (p : Option ℕ) (h₁ h₂ : List ℕ) → Reached cs p h₁ h₂ → ended h₁ h₂ ≡ true
    → payoff ante raise₁ raise₂ cs p h₁ h₂ 0 +ℤ payoff ante raise₁ raise₂ cs p h₁ h₂ 1 ≡ pos 0

-- the seat to act is behind exactly when it has paid less than the other, at all positive stakes
abbrev pub BehindPaysLess : Type 0
BehindPaysLess = (ante raise₁ raise₂ : ℕ) → 0 < raise₁ → 0 < raise₂
    → (cs : List ℕ) (p : Option ℕ) (h₁ h₂ : List ℕ) → Reached cs p h₁ h₂ → live cs p h₁ h₂ ≡ true
    → behind (in_play h₁ h₂)
    ≡ ltb (contribution ante raise₁ raise₂ h₁ h₂ (turn h₁ h₂)) (contribution ante raise₁ raise₂ h₁ h₂ (1 - turn h₁ h₂))

-- the seat to act has never paid more than the other, and has paid as much unless it is behind, at all stakes
abbrev pub NeverAhead : Type 0
NeverAhead = (ante raise₁ raise₂ : ℕ) (cs : List ℕ) (p : Option ℕ) (h₁ h₂ : List ℕ) → Reached cs p h₁ h₂ → live cs p h₁ h₂ ≡ true
    → (contribution ante raise₁ raise₂ h₁ h₂ (turn h₁ h₂) ≤ contribution ante raise₁ raise₂ h₁ h₂ (1 - turn h₁ h₂))
    × (behind (in_play h₁ h₂) ≡ false
    → contribution ante raise₁ raise₂ h₁ h₂ (turn h₁ h₂) ≡ contribution ante raise₁ raise₂ h₁ h₂ (1 - turn h₁ h₂))

-- a contribution is the ante and each round's raise times a count: how many raises of the round the seat has paid
abbrev pub raises-paid : List ℕ → ℕ → ℕ
raises-paid h s = added 1 h s

abbrev pub LinearInStakes : Type 0
LinearInStakes = (ante raise₁ raise₂ : ℕ) (h₁ h₂ : List ℕ) (s : ℕ)
    → contribution ante raise₁ raise₂ h₁ h₂ s ≡ ante + raise₁ * raises-paid h₁ s + raise₂ * raises-paid h₂ s

-- the cards left are listed in ascending order,
abbrev pub Ascending : Type 0
Ascending = (cs : List ℕ) (i j : ℕ) → i < j → j < length (remaining cs) → get_or (remaining cs) i 0 < get_or (remaining cs) j 0

-- and they are all the cards left
abbrev pub AllLeft : Type 0
AllLeft = (cs : List ℕ) (c : ℕ) → has c (remaining cs) ≡ left cs c

-- no round has more than four actions
abbrev pub LongestRound : Type 0
LongestRound = (cs : List ℕ) (p : Option ℕ) (h₁ h₂ : List ℕ) → Reached cs p h₁ h₂ → (length h₁ ≤ 4) × (length h₂ ≤ 4)

-- which cards lie there does not matter to the betting: the shape below every deal is the same
abbrev pub SameShape : Type 0
SameShape = (cs cs' : List ℕ) (p p' : Option ℕ) (h₁ h₂ : List ℕ) → length cs ≡ length cs' → hidden p ≡ hidden p'
    → (due cs p h₁ h₂ ≡ due cs' p' h₁ h₂) × (live cs p h₁ h₂ ≡ live cs' p' h₁ h₂) × ((s : ℕ) → legal cs p h₁ h₂ s ≡ legal cs' p' h₁ h₂ s)

-- a key tells the seat, what it shows of the cards, and both histories,
abbrev pub KeyTells : Type 0
KeyTells = (cs cs' : List ℕ) (p p' : Option ℕ) (h₁ h₁' h₂ h₂' : List ℕ) (s s' : ℕ) → key cs p h₁ h₂ s ≡ key cs' p' h₁' h₂' s'
    → (s ≡ s') × (get_or cs s 0 ≡ get_or cs' s' 0) × (shown-public p ≡ shown-public p') × (h₁ ≡ h₁') × (h₂ ≡ h₂')

-- and so every earlier key of the seat, in round 2 and in round 1
abbrev pub KeyRecalls : Type 0
KeyRecalls = (cs cs' : List ℕ) (p p' : Option ℕ) (h₁ h₁' h₂ h₂' : List ℕ) (s s' : ℕ) → key cs p h₁ h₂ s ≡ key cs' p' h₁' h₂' s'
    → (k : ℕ) → (key cs p h₁ (take k h₂) s ≡ key cs' p' h₁' (take k h₂') s')
    × (key cs None (take k h₁) [] s ≡ key cs' None (take k h₁') [] s')

-- where legal moves lead, what a key shows of the public card tells that card, and whether it lies there
abbrev pub PublicTold : Type 0
PublicTold = (cs cs' : List ℕ) (p p' : Option ℕ) (h₁ h₁' h₂ h₂' : List ℕ) → Reached cs p h₁ h₂ → Reached cs' p' h₁' h₂'
    → shown-public p ≡ shown-public p' → p ≡ p'

-- once the histories are well formed (13), an action of round 2 before round 1 has closed is refused with 14, whatever it is;
-- so that error has no number of its own
abbrev pub SecondTooEarly : Type 0
SecondTooEarly = (blind : Bool) (h₁ h : List ℕ) (a : ℕ) → closes h₁ ≡ false
    → first (action_checks (barred_by h₁) blind [] (a ∷ h)) ≡ Refusals.closed
