-- What holds of Leduc's positions and of the calls' tests and answers, proved in proofs/.
use Rattle.std.specs.Prelude.{◌≡◌, ◌↔◌, ◌≢◌, true, false, List, [], ◌∷◌, ◌++◌, ℕ, ◌+◌, ◌≤◌, ◌<◌, length, get_or, Some}
use Rattle.refusals.specs.Refusals as Refusals
use Rattle.refusals.specs.Facts.{Decides}
use Rattle.leduc_betting.specs.Betting.{closes, counted, ended}
use Rattle.leduc_betting.specs.Cards.{remaining}
use Rattle.leduc_rules.specs.Rules.{public-due, due}
use Rattle.leduc_rules.specs.Moves.{Reached}
use Rattle.leduc_positions.specs.Positions.{cards_of, seen_of, round_one, round_two, in_play_of, reachable, position_checks, saved_checks, mark}
use Rattle.leduc.specs.Calls.{dealt, stepped, listed, keyed, paid, saved_refusal, checked, deal_checks, step_checks, legal_checks}
use Rattle.leduc.specs.Calls.{key_checks, payoff_checks, mark_checks}
use Rattle.leduc_positions.specs.declared.LeducState.{LeducState}

-- a position of two cards and eight actions
pub record Sized (s : LeducState) : Type 0 where
  pub cards-size : length s.cards ≡ 2
  pub history-size : length s.history ≡ 8

-- number 19: the test of a position says whether no length is above its part of the array and legal moves reach it
abbrev pub ReachableByMoves : Type 0
ReachableByMoves = (s : LeducState)
    → (reachable s ≡ true)
    ↔ ((s.dealt ≤ 2) × (s.acted1 ≤ 4) × (s.acted2 ≤ 4) × Reached (cards_of s) s.public (round_one s) (round_two s))

-- the saved-position check accepts exactly the reachable positions with both cards dealt and no card due,
-- whose mark says whether the hand has ended
abbrev pub SavedAccepts : Type 0
SavedAccepts = (s : LeducState) (m : ℕ) → Sized s
    → (saved_refusal s m ≡ 0)
    ↔ ((s.dealt ≡ 2) × (reachable s ≡ true) × (due (cards_of s) s.public (round_one s) (round_two s) ≡ false)
    × (m ≡ mark (ended (round_one s) (round_two s))))

-- a reachable position that waits for its public card is no saved one: it is refused with 16, whatever its mark
abbrev pub WaitingRefused : Type 0
WaitingRefused = (s : LeducState) (m : ℕ) → Sized s → reachable s ≡ true → s.dealt ≡ 2
    → public-due s.public (round_one s) (round_two s) ≡ true → saved_refusal s m ≡ Refusals.no_public

-- a call is accepted exactly if no test of its checks holds, and else refused with the number of the first that does
pub record CallsDecide (s : LeducState) : Type 0 where
  pub deal-decides : (k : ℕ) → Decides (position_checks s ++ deal_checks s k) (dealt s k).refusal
  pub step_decides : (a : ℕ) → Decides (position_checks s ++ step_checks s) (stepped s a).refusal
  pub legal-decides : (t room : ℕ) → Decides (position_checks s ++ legal_checks s t room) (listed s t room).refusal
  pub key-decides : (t room : ℕ) → Decides (position_checks s ++ key_checks s t room) (keyed s t room).refusal
  pub payoff-decides : Decides (position_checks s ++ payoff_checks s) (paid s).refusal
  pub saved_decides : (m : ℕ) → Decides (saved_checks s ++ mark_checks s m) (checked s m).refusal

-- ---- step and deal

-- every place but the i-th holds what it held
abbrev pub KeptBut : (i : ℕ) (held holds : List ℕ) → Type 0
KeptBut i held holds = (j : ℕ) → j ≢ i → get_or holds j 0 ≡ get_or held j 0

-- a position that legal moves reach, with no length above its part of the array
pub record Fit (s : LeducState) : Type 0 where
  pub sized : Sized s
  pub within : (s.dealt ≤ 2) × (s.acted1 ≤ 4) × (s.acted2 ≤ 4)
  pub reached : Reached (cards_of s) s.public (round_one s) (round_two s)

-- t is s with card c dealt: behind the seats' cards while a seat has none, else it is the public card;
-- the rounds are the same, and every other place holds what it held
pub record OneCardMore (s : LeducState) (c : ℕ) (t : LeducState) : Type 0 where
  pub to_seat : length (cards_of s) < 2 → (cards_of t ≡ cards_of s ++ (c ∷ [])) × (t.public ≡ s.public)
  pub to_table : 2 ≤ length (cards_of s) → (cards_of t ≡ cards_of s) × (t.public ≡ Some c)
  pub rounds_are : (round_one t ≡ round_one s) × (round_two t ≡ round_two s)
  pub cards_kept : KeptBut (length (cards_of s)) s.cards t.cards
  pub history_kept : t.history ≡ s.history
  pub fit : Fit t

-- t is s with action a behind the history of round 1, or of round 2 once round 1 has closed, and the other round the same
pub record RoundLonger (s : LeducState) (a : ℕ) (t : LeducState) : Type 0 where
  pub in_one : closes (round_one s) ≡ false → (round_one t ≡ round_one s ++ (a ∷ [])) × (round_two t ≡ round_two s)
  pub in_two : closes (round_one s) ≡ true → (round_one t ≡ round_one s) × (round_two t ≡ round_two s ++ (a ∷ []))
  pub kept_one : closes (round_one s) ≡ false → KeptBut (length (round_one s)) s.history t.history
  pub kept_two : closes (round_one s) ≡ true → KeptBut (4 + length (round_two s)) s.history t.history

-- the cards and the public card are the same too, and every place but the action's holds what it held
pub record OneActionMore (s : LeducState) (a : ℕ) (t : LeducState) : Type 0 where
  pub round : RoundLonger s a t
  pub cards_are : cards_of t ≡ cards_of s
  pub public_is : t.public ≡ s.public
  pub cards_kept : t.cards ≡ s.cards
  pub fit : Fit t

-- a deal that is accepted adds the card that stands at the outcome among those left; one that is refused gives the position back
pub record DealMoves (s : LeducState) (k : ℕ) : Type 0 where
  pub outcome : (dealt s k).refusal ≡ 0 → k < length (remaining (seen_of s))
  pub adds : (dealt s k).refusal ≡ 0 → OneCardMore s (get_or (remaining (seen_of s)) k 0) (dealt s k).state
  pub keeps : (dealt s k).refusal ≢ 0 → (dealt s k).state ≡ s

abbrev pub Deals : Type 0
Deals = (s : LeducState) (k : ℕ) → Sized s → DealMoves s k

-- a step that is accepted adds the action that counts; one that is refused gives the position back
pub record StepMoves (s : LeducState) (a : ℕ) : Type 0 where
  pub adds : (stepped s a).refusal ≡ 0 → OneActionMore s (counted (in_play_of s) a) (stepped s a).state
  pub keeps : (stepped s a).refusal ≢ 0 → (stepped s a).state ≡ s

abbrev pub Steps : Type 0
Steps = (s : LeducState) (a : ℕ) → Sized s → StepMoves s a
