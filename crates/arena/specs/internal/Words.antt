-- The word of a node, field by field from its lowest bits: kind 2, actor 3, actions 2, set 14, next 21 and later 21;
-- behind an end's kind stands a byte for each of six payoffs, of seven bits.
use Rattle.std.specs.Prelude.{ℕ, ◌+◌, ◌*◌, ◌/◌, ◌%◌, ◌^◌, ℤ, pos, ◌-ℤ◌}

-- what a node is
abbrev pub END : ℕ
END = 0

abbrev pub CHANCE : ℕ
CHANCE = 1

abbrev pub DECISION : ℕ
DECISION = 2

-- places of the tree in memory: a word has 21 bits for one
abbrev pub PLACES : ℕ
PLACES = 2097152

abbrev pub kind_of : ℕ → ℕ
kind_of x = x % 4

-- the seat that acts
abbrev pub actor_of : ℕ → ℕ
actor_of x = x / 4 % 8

-- how many actions it has
abbrev pub actions_of : ℕ → ℕ
actions_of x = x / 32 % 4

-- its set
abbrev pub set_of : ℕ → ℕ
set_of x = x / 128 % 16384

-- the place behind the node's subtree
abbrev pub next_of : ℕ → ℕ
next_of x = x / PLACES % PLACES

-- the next member of its set, 0 at the last
abbrev pub later_of : ℕ → ℕ
later_of x = x / 4398046511104 % PLACES

-- the word of a decision
abbrev pub decision_word : (actor actions set next later : ℕ) → ℕ
decision_word actor actions set next later = 2 + 4 * actor + 32 * actions + 128 * set + PLACES * next + 4398046511104 * later

-- the word of a chance node
abbrev pub chance_word : ℕ → ℕ
chance_word next = 1 + PLACES * next

-- the byte of seat i at an end, and the payoff that it stands for: 64 is 0, so that none is below 0
abbrev pub byte_of : ℕ → ℕ → ℕ
byte_of x i = x / 4 / 2 ^ (8 * i) % 128

abbrev pub payoff_of : ℕ → ℕ → ℤ
payoff_of x i = pos (byte_of x i) -ℤ pos 64
