-- What holds of the calls' tests and answers, proved in proofs/.
use Rattle.std.specs.Prelude.{◌≡◌, ◌↔◌, ◌≢◌, true, List, [], ◌∷◌, ◌++◌, ℕ, ◌≤◌, ◌<◌, length, get_or}
use Rattle.refusals.specs.Refusals.{◌refuses◌}
use Rattle.refusals.specs.Refusals as Refusals
use Rattle.refusals.specs.Facts.{Decides}
use Rattle.kuhn_rules.specs.Rules.{ended, remaining}
use Rattle.kuhn_rules.specs.Moves.{Reached}
use Rattle.kuhn_positions.specs.Positions.{cards_of, history_of, counted, seats-out, reachable, position_checks, saved_checks, mark}
use Rattle.kuhn.specs.Calls.{started, dealt, stepped, listed, keyed, paid, saved_refusal, checked, deal_checks, step_checks}
use Rattle.kuhn.specs.Calls.{legal_checks, key_checks, payoff_checks, mark_checks}
use Rattle.kuhn.specs.declared.KuhnPoker.{KuhnPoker}
use Rattle.kuhn_positions.specs.declared.KuhnState.{KuhnState}

-- a position has ten cards and nineteen actions: every one that a call is given has, by its type
pub record Sized (s : KuhnState) : Type 0 where
  pub cards-size : length s.cards ≡ 10
  pub history-size : length s.history ≡ 19

-- number 19: the test of a position says whether no length is above its array and legal moves reach it
abbrev pub ReachableByMoves : Type 0
ReachableByMoves = (n : ℕ) (s : KuhnState)
    → (reachable n s ≡ true) ↔ ((s.dealt ≤ 10) × (s.acted ≤ 19) × Reached n (cards_of s) (history_of s))

-- the saved-position check accepts exactly the reachable positions with one card per seat whose mark says whether the hand has ended
abbrev pub SavedAccepts : Type 0
SavedAccepts = (g : KuhnPoker) (s : KuhnState) (m : ℕ) → Sized s
    → (saved_refusal g s m ≡ 0)
    ↔ ((2 ≤ g.players) × (g.players ≤ 10) × (s.dealt ≡ g.players) × (reachable g.players s ≡ true)
    × (m ≡ mark (ended g.players (history_of s))))

-- a call is accepted exactly if no test of its checks holds, and else refused with the number of the first that does
pub record CallsDecide (g : KuhnPoker) (s : KuhnState) : Type 0 where
  pub start-decides : Decides ((seats-out g.players refuses Refusals.seats) ∷ []) (started g).refusal
  pub deal-decides : (k : ℕ) → Decides (position_checks g.players s ++ deal_checks g.players s k) (dealt g s k).refusal
  pub step_decides : (a : ℕ) → Decides (position_checks g.players s ++ step_checks g.players s) (stepped g s a).refusal
  pub legal-decides : (p room : ℕ) → Decides (position_checks g.players s ++ legal_checks g s p room) (listed g s p room).refusal
  pub key-decides : (p room : ℕ) → Decides (position_checks g.players s ++ key_checks s p room) (keyed g s p room).refusal
  pub payoff-decides : Decides (position_checks g.players s ++ payoff_checks g.players s) (paid g s).refusal
  pub saved_decides : (m : ℕ) → Decides (saved_checks g.players s ++ mark_checks g.players s m) (checked g s m).refusal

-- ---- step and deal

-- every place but the i-th holds what it held
abbrev pub KeptBut : (i : ℕ) (held holds : List ℕ) → Type 0
KeptBut i held holds = (j : ℕ) → j ≢ i → get_or holds j 0 ≡ get_or held j 0

-- a position that legal moves reach, with no length above its array
pub record Fit (n : ℕ) (s : KuhnState) : Type 0 where
  pub sized : Sized s
  pub within : (s.dealt ≤ 10) × (s.acted ≤ 19)
  pub reached : Reached n (cards_of s) (history_of s)

-- t is s with card c behind the cards dealt: the history is the same, and every other place holds what it held
pub record OneCardMore (n : ℕ) (s : KuhnState) (c : ℕ) (t : KuhnState) : Type 0 where
  pub cards_are : cards_of t ≡ cards_of s ++ (c ∷ [])
  pub history_is : history_of t ≡ history_of s
  pub cards_kept : KeptBut (length (cards_of s)) s.cards t.cards
  pub history_kept : t.history ≡ s.history
  pub fit : Fit n t

-- t is s with action a behind the history: the cards are the same, and every other place holds what it held
pub record OneActionMore (n : ℕ) (s : KuhnState) (a : ℕ) (t : KuhnState) : Type 0 where
  pub history_is : history_of t ≡ history_of s ++ (a ∷ [])
  pub cards_are : cards_of t ≡ cards_of s
  pub history_kept : KeptBut (length (history_of s)) s.history t.history
  pub cards_kept : t.cards ≡ s.cards
  pub fit : Fit n t

-- a deal that is accepted adds the card that stands at the outcome among those left; one that is refused gives the position back
pub record DealMoves (g : KuhnPoker) (s : KuhnState) (k : ℕ) : Type 0 where
  pub outcome : (dealt g s k).refusal ≡ 0 → k < length (remaining g.players (cards_of s))
  pub adds : (dealt g s k).refusal ≡ 0 → OneCardMore g.players s (get_or (remaining g.players (cards_of s)) k 0) (dealt g s k).state
  pub keeps : (dealt g s k).refusal ≢ 0 → (dealt g s k).state ≡ s

abbrev pub Deals : Type 0
Deals = (g : KuhnPoker) (s : KuhnState) (k : ℕ) → Sized s → DealMoves g s k

-- a step that is accepted adds the counted action; one that is refused gives the position back
pub record StepMoves (g : KuhnPoker) (s : KuhnState) (a : ℕ) : Type 0 where
  pub adds : (stepped g s a).refusal ≡ 0 → OneActionMore g.players s (counted a) (stepped g s a).state
  pub keeps : (stepped g s a).refusal ≢ 0 → (stepped g s a).state ≡ s

abbrev pub Steps : Type 0
Steps = (g : KuhnPoker) (s : KuhnState) (a : ℕ) → Sized s → StepMoves g s a
