-- The sets of Kuhn's tree in order, by a rule on the cards: which node is the first of its set. Definitions only; nothing is assumed.
use Rattle.std.specs.Prelude.{Bool, true, false, not, cond, List, [], ◌∷◌, ◌++◌, ℕ, zero, suc, eqb, length, get_or, take}
use Rattle.prelude.specs.Finite.{◌and◌, ◌or◌, some, every}
use Rattle.game_tree.specs.Sets.{Decision}
use Rattle.kuhn_rules.specs.Rules.{PASS, BET, ended, turn, key, left, remaining}
use Rattle.kuhn_tree.specs.Tree.{m}

-- the histories from h on at which a seat acts, each before its longer ones;
-- b says whether the hand has ended, r how many actions it may still have
unfoldable pub turns : ℕ → ℕ → Bool → List ℕ → List (List ℕ)
turns n zero b h = []
turns n (suc r) true h = []
turns n (suc r) false h = h
    ∷ (turns n r (ended n (h ++ (PASS ∷ []))) (h ++ (PASS ∷ [])) ++ (turns n r (ended n (h ++ (BET ∷ []))) (h ++ (BET ∷ [])) ++ []))

-- the histories of a hand at which a seat acts
unfoldable pub histories : ℕ → List (List ℕ)
unfolding turns
histories n = turns n (m n) (ended n []) []

-- the decision of a history once all cards are dealt: two actions
abbrev pub decision_at : ℕ → List ℕ → List ℕ → Decision
decision_at n cs h = (turn n h, key cs h (turn n h), 2)

-- seat q was dealt the lowest card then left, but for card x
unfoldable pub lowest_but : ℕ → List ℕ → ℕ → ℕ → Bool
lowest_but n cs x q = not (some (get_or cs q 0) (λ y. left n (take q cs) y and not (eqb y x)))

-- every seat but j was, x being seat j's
unfoldable pub lowest : ℕ → List ℕ → ℕ → ℕ → Bool
unfolding lowest_but
lowest n cs j x = every (length cs) (λ q. eqb q j or lowest_but n cs x q)

-- a node at which seat j acts is first of its set: every other seat was dealt the lowest card then left, but for seat j's card
abbrev pub first : ℕ → List ℕ → ℕ → Bool
first n cs j = lowest n cs j (get_or cs j 0)

-- of these histories the decisions that are first of their set
unfoldable pub first_of : ℕ → List ℕ → List (List ℕ) → List Decision
unfolding lowest
first_of n cs [] = []
first_of n cs (h ∷ hs) = let r : List Decision = first_of n cs hs in cond (first n cs (turn n h)) (decision_at n cs h ∷ r) r

-- the lists of all c, one after another
unfoldable pub joined : List ℕ → (ℕ → List Decision) → List Decision
joined [] g = []
joined (c ∷ l) g = g c ++ joined l g

-- k cards to deal, then the histories of a hand
unfoldable pub in_order : ℕ → ℕ → List ℕ → List Decision
unfolding first_of joined histories
in_order n zero cs = first_of n cs (histories n)
in_order n (suc k) cs = joined (remaining n cs) (λ c. in_order n k (cs ++ (c ∷ [])))
