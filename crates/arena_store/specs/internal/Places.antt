-- The places of work memory behind a game's stored tree. Definitions only; nothing is assumed.
use Rattle.std.specs.Prelude.{◌≡◌, ℕ, ◌+◌}
use Rattle.games.specs.Games.{Game}
use Rattle.games.specs.Facts.{nodes_of, entries_of}
use Rattle.arena_store.specs.internal.Stored.{heads_of}
use Rattle.arena_walks.specs.declared.Search.{Search}

-- the units or the reach of each node stand behind the index
abbrev pub reach_at : Game → ℕ
reach_at g = heads_of g + entries_of g

-- and the choices behind these
abbrev pub kept_at : Game → ℕ
kept_at g = reach_at g + nodes_of g

-- a search for seat i against what the others play, o, with these places
pub record Placed {T : Type 0} (g : Game) (o : T) (i : ℕ) (search : Search T) : Type 0 where
  pub others : search.walk.others ≡ o
  pub seat : search.walk.seat ≡ i
  pub reach : search.walk.reach ≡ reach_at g
  pub heads : search.heads ≡ heads_of g
  pub kept : search.kept ≡ kept_at g
