-- The index of a held tree: each set's first entry and its first member. Definitions only; nothing is assumed.
use Rattle.std.specs.Prelude.{◌≡◌, ◌⊎◌, List, [], ◌∷◌, ℕ, suc, ◌+◌, ◌≤◌, ◌<◌, length, get_or, drop}
use Rattle.game_tree.specs.Tree.{Key, Tree}
use Rattle.game_tree.specs.Conditions.{Every}
use Rattle.game_tree.specs.Sets.{size, preorder, numbers, entries, first_entry, set_members}
use Rattle.arena.specs.internal.Words.{later_of}
use Rattle.arena.specs.internal.Held.{Held}

-- the first of a list of places, 0 if it is empty
unfoldable pub first_of : List ℕ → ℕ
first_of [] = 0
first_of (a ∷ l) = a

-- the next member of a set behind place a
unfoldable pub later_in : Tree → ℕ → ℕ → Key → ℕ
unfolding first_of
later_in t a j k = first_of (numbers j k (suc a) (drop (suc a) (preorder t)))

-- nothing links the members yet
abbrev pub unlinked : ℕ → ℕ → Key → ℕ
unlinked a j k = 0

-- the words of old stand in new, but for places lo to hi
pub record Kept (lo hi : ℕ) (old new : List ℕ) : Type 0 where
  pub words : (i : ℕ) → (i < lo) ⊎ (hi ≤ i) → get_or new i 0 ≡ get_or old i 0
  pub long : length new ≡ length old

-- the words of v below place b are those of w
abbrev pub Alike : (b : ℕ) (v w : List ℕ) → Type 0
Alike b v w = (p : ℕ) → p < b → get_or w p 0 ≡ get_or v p 0

-- places lo to hi are 0
pub record Cleared (lo hi : ℕ) (old new : List ℕ) : Type 0 where
  pub zero : (i : ℕ) → lo ≤ i → i < hi → get_or new i 0 ≡ 0
  pub kept : Kept lo hi old new

-- code numbers the sets of t below m, no two alike
pub record Codes (code : ℕ → Key → ℕ) (m : ℕ) (t : Tree) : Type 0 where
  pub inside : Every (λ j k a. code j k < m) t
  pub apart : Every (λ j k a. Every (λ i l b. code j k ≡ code i l → (j ≡ i) × (k ≡ l)) t) t

-- t as a builder leaves it, for n seats: its sets by code, and behind the nodes, all 0, m words for the codes and one for each entry
pub record Coded (n : ℕ) (code : ℕ → Key → ℕ) (m : ℕ) (w : List ℕ) (t : Tree) : Type 0 where
  pub codes : Codes code m t
  pub acts : Every (λ j k a. 1 ≤ a) t
  pub few : entries t ≤ 16384
  pub held : Held n code unlinked w 0 t
  pub clear : (i : ℕ) → i < m + entries t → get_or w (size t + i) 0 ≡ 0
  pub room : size t + (m + entries t) ≤ length w

-- t with its index: its sets by first entry, a set's members linked, and from place h on the first member of each set, at its first entry
pub record Indexed (n h : ℕ) (w : List ℕ) (t : Tree) : Type 0 where
  pub held : Held n (first_entry t) (later_in t) w 0 t
  pub heads : Every (λ j k a. get_or w (h + first_entry t j k) 0 ≡ first_of (set_members t j k)) t

-- each place of a list names the next in its word, and the last 0
unfoldable pub Linked : List ℕ → List ℕ → Type 0
unfolding first_of
Linked w [] = Unit {0}
Linked w (a ∷ l) = (later_of (get_or w a 0) ≡ first_of l) × Linked w l
