-- What is written of a reply. Definitions only; nothing is assumed.
use Rattle.std.specs.Prelude.{◌≡◌, List, ℕ, ◌+◌, ◌≤◌, eqb, length, get_or}
use Rattle.std.proofs.Math.Bool.{cond}
use Rattle.std.proofs.lemmas.List.Edits.{sets}
use Rattle.game_tree.specs.Tree.{Key, Strategy}
use Rattle.game_tree.specs.Reply.{pure}
use Rattle.game_tree.specs.Sets.{entries, first_entry, set_count}
use Rattle.game_tree.specs.Table.{Table, table_of, listed}
use Rattle.arena.specs.internal.Words.{actor_of, actions_of}
use Rattle.arena_walks.specs.internal.Stage.{Known, Memo}
use Rattle.units_values.specs.internal.Valued.{Scene}

module _ {i h b k : ℕ} (S : Scene i h b k) where
  -- the scene's strategy is that of a table with D parts in each set
  pub record Tabled (table : Table) (D : ℕ) : Type 0 where
    pub strategy : (j : ℕ) (y : Key) (a : ℕ) → S.strategy j y a ≡ get_or table (first_entry S.stage.tree j y + a) 0
    pub parts : S.parts ≡ D
    pub long : entries S.stage.tree ≤ length table

  -- the reply by the scene's choices
  unfoldable pub replied : Strategy
  unfolding pure
  replied j y a = cond (eqb j i) (pure S.parts S.stage.choice y a) (S.strategy j y a)

-- the entries of a set are written from entry e on; x is the word of a member
abbrev pub LaidSet : (table : Table) (x e i D h b k : ℕ) (old new out written : List ℕ) → Type 0
LaidSet table x e i D h b k old new out written = (S : Scene i h b k) → Memo S.stage old → Tabled S table D → (j : ℕ) (y : Key) (n : ℕ)
    → Known S.stage j y n → e ≡ first_entry S.stage.tree j y
    → actor_of x ≡ j → actions_of x ≡ n → Memo S.stage new × (written ≡ sets out e (listed n (replied S j y)))

-- the whole reply is, for so many sets
abbrev pub Laid : (table : Table) (count i D h b k : ℕ) (old new out written : List ℕ) → Type 0
Laid table count i D h b k old new out written = (S : Scene i h b k) → Memo S.stage old → Tabled S table D
    → count ≡ set_count S.stage.tree → Memo S.stage new × (written ≡ sets out 0 (table_of S.stage.tree (replied S)))
