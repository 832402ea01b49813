-- What a key of Leduc tells: the rounds' histories, the legal actions, the decisions still to come, and the own moves before it. Definitions only; nothing is assumed.
use mathlib.Core.Bool.{cond}
use mathlib.Core.List.{List, [], ◌∷◌, ◌++◌}
use Prim.Native.Nat.{ℕ, ◌+◌, ◌-◌, ◌%◌}
use lib.Dec.{eqb}
use lib.ListN.{length, get_or, take, drop}
use Rattle.game_tree.specs.Tree.{Key}
use Rattle.game_tree.specs.Recall.{Path, moved}
use Rattle.leduc_betting.specs.Betting.{closes, behind, raises, options, in_play}

-- the histories of round 1 and round 2
abbrev pub first_of : Key → List ℕ
first_of k = take (get_or k 3 0) (drop 4 k)

abbrev pub second_of : Key → List ℕ
second_of k = drop (5 + get_or k 3 0) k

-- how many actions are legal
unfoldable pub actions_of : Key → ℕ
unfolding options in_play
actions_of k = length (options (in_play (first_of k) (second_of k)))

-- the most decisions to come in a round after h: four at its start, then one more than the raises left
unfoldable pub to_come : List ℕ → ℕ
unfolding raises
to_come [] = 4
to_come (a ∷ h) = 3 - raises (a ∷ h)

-- the most decisions to come: until round 1 has closed round 2 is still to be played
unfoldable pub depth_of : Key → ℕ
unfolding to_come closes
depth_of k = cond (closes (first_of k)) (to_come (second_of k)) (to_come (first_of k) + 4)

-- of 12 nodes on a path, how many may follow: two cards stand above, round 1's actions and, once it has closed, the public card and round 2's
unfoldable pub level_of : Key → ℕ
unfolding closes
level_of k = cond (closes (first_of k)) (8 - (length (first_of k) + length (second_of k))) (9 - length (first_of k))

-- the place of action a among the legal ones after h, where FOLD may be missing
abbrev pub place : List ℕ → ℕ → ℕ
place h a = cond (behind h) a (a - 1)

-- the moves of seat s among the actions h of a round that follow the actions before, the latest first; told gives its key at each
unfoldable pub moves : ℕ → (List ℕ → Key) → (before h : List ℕ) → Path → Path
unfolding moved behind
moves s told before [] π = π
moves s told before (a ∷ h) π = moves s told (before ++ (a ∷ [])) h (moved (eqb (length before % 2) s) (told before) (place before a) π)

-- the own moves before a key of seat s with card c and public card p
unfoldable pub past : Key → Path
unfolding moves
past [] = []
past (s ∷ []) = []
past (s ∷ c ∷ []) = []
past (s ∷ c ∷ p ∷ k) =
    moves s (λ h. s ∷ c ∷ p ∷ length h₁ ∷ h₁ ++ (length h ∷ h)) [] h₂
    (moves s (λ h. s ∷ c ∷ 255 ∷ length h ∷ h ++ (0 ∷ [])) [] h₁ [])
  where
    h₁ : List ℕ
    h₁ = take (get_or k 0 0) (drop 1 k)

    h₂ : List ℕ
    h₂ = drop (2 + get_or k 0 0) k
