-- How a tree is indexed: each set gets its first entry, then its members are linked. Definitions only; nothing is assumed.
use Rattle.std.specs.Prelude.{◌≡◌, Bool, not, cond, List, ℕ, suc, ◌+◌, ◌-◌, ◌%◌, eqb, get_or, set}
use Rattle.prelude.specs.Finite.{◌and◌}
use Rattle.game_tree.specs.Tree.{Key, Tree}
use Rattle.game_tree.specs.Conditions.{Every}
use Rattle.game_tree.specs.Sets.{size, first_entry}
use Rattle.arena.specs.internal.Words.{DECISION, kind_of, actor_of, actions_of, set_of, next_of, decision_word, PLACES}
use Rattle.arena.specs.internal.Index.{Kept, Coded, Indexed}

-- word x is a decision, and the word at its set's code is 0
unfoldable pub is_new : List ℕ → ℕ → ℕ → Bool
is_new w nodes x = eqb (kind_of x) DECISION and eqb (get_or w (nodes + set_of x) 0) 0

-- such a word has its set entered
pub record Met (nodes x entry : ℕ) (old new : List ℕ) (r : ℕ) : Type 0 where
  pub words : new ≡ cond (is_new old nodes x) (set old (nodes + set_of x) (entry + 1)) old
  pub count : r ≡ cond (is_new old nodes x) (entry + actions_of x) entry

-- word x is a decision, and the word at its set's code is not 0
unfoldable pub is_known : List ℕ → ℕ → ℕ → Bool
is_known w nodes x = eqb (kind_of x) DECISION and not (eqb (get_or w (nodes + set_of x) 0) 0)

-- the first entry that stands at the code of word x
abbrev pub entry_of : List ℕ → ℕ → ℕ → ℕ
entry_of w nodes x = (get_or w (nodes + set_of x) 0 - 1) % 16384

-- word x by its set's first entry e, and the next member l
abbrev pub relinked : ℕ → ℕ → ℕ → ℕ
relinked x e l = decision_word (actor_of x) (actions_of x) e (next_of x) l

-- the node at place a, of word x, put before the members that stand at first entry e
abbrev pub pushed : (heads a x e : ℕ) → List ℕ → List ℕ
pushed heads a x e w = set (set w a (relinked x e (get_or w (heads + e) 0 % PLACES))) (heads + e) a

-- the node at place a put before the members of its set
unfoldable pub linked : (nodes heads a : ℕ) → List ℕ → List ℕ
unfolding is_known
linked nodes heads a w = cond (is_known w nodes (get_or w a 0)) (pushed heads a (get_or w a 0) (entry_of w nodes (get_or w a 0)) w) w

-- at each set's code one more than its first entry
pub record Numbered (code : ℕ → Key → ℕ) (m : ℕ) (old new : List ℕ) (t : Tree) : Type 0 where
  pub entries : Every (λ j k a. get_or new (size t + code j k) 0 ≡ suc (first_entry t j k)) t
  pub kept : Kept (size t) (size t + m) old new

-- what numbering does to a tree of so many nodes
abbrev pub Numbers : (nodes : ℕ) (old new : List ℕ) → Type 0
Numbers nodes old new = (n : ℕ) (code : ℕ → Key → ℕ) (m : ℕ) (t : Tree) → size t ≡ nodes → Coded n code m old t → Numbered code m old new t

-- what linking does, once it is numbered
abbrev pub Links : (nodes heads : ℕ) (old new : List ℕ) → Type 0
Links nodes heads old new = (n : ℕ) (code : ℕ → Key → ℕ) (m : ℕ) (bare : List ℕ) (t : Tree) → size t ≡ nodes → nodes + m ≡ heads
    → Coded n code m bare t → Numbered code m bare old t
    → Indexed n heads new t

-- and both
abbrev pub Indexes : (nodes codes : ℕ) (old new : List ℕ) → Type 0
Indexes nodes codes old new = (n : ℕ) (code : ℕ → Key → ℕ) (t : Tree) → size t ≡ nodes → Coded n code codes old t
    → Indexed n (nodes + codes) new t
