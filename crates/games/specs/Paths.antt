-- What C and m are of a game's tree (document 01, "Whole units"): the largest product of fans on a path, and the most decisions on one.
-- Proved in proofs/Paths.antt, which assumes nothing.
use Rattle.std.specs.Prelude.{◌≡◌, false, ℕ, ◌*◌, ◌≤◌, max}
use Rattle.game_tree.specs.Tree.{Tree, end, chance, decide, Trees, nil, cons, fan}
use Rattle.game_tree.specs.Sets.{height}
use Rattle.games.specs.Games.{Game, tree_of, C, m}
use Rattle.games.specs.Seats.{seats-out}

-- the largest product of the fans of chance nodes on a path
unfoldable mutual
  unfolding fan

  pub widest : Tree → ℕ
  widest (end p) = 1
  widest (chance f) = fan f * widest_all f
  widest (decide j k f) = widest_all f

  pub widest_all : Trees → ℕ
  widest_all nil = 0
  widest_all (cons t f) = max (widest t) (widest_all f)

-- P holds of q × the product of these fans, on each path
unfoldable mutual
  unfolding fan

  pub EachPath : (ℕ → Type 0) → ℕ → Tree → Type 0
  EachPath P q (end p) = P q
  EachPath P q (chance f) = EachPathAll P (q * fan f) f
  EachPath P q (decide j k f) = EachPathAll P q f

  pub EachPathAll : (ℕ → Type 0) → ℕ → Trees → Type 0
  EachPathAll P q nil = Unit {0}
  EachPathAll P q (cons t f) = EachPath P q t × EachPathAll P q f

-- the most children of a node
unfoldable mutual
  unfolding fan

  pub largest_fan : Tree → ℕ
  largest_fan (end p) = 0
  largest_fan (chance f) = max (fan f) (largest_fan_all f)
  largest_fan (decide j k f) = max (fan f) (largest_fan_all f)

  pub largest_fan_all : Trees → ℕ
  largest_fan_all nil = 0
  largest_fan_all (cons t f) = max (largest_fan t) (largest_fan_all f)

-- m is the most decisions on a path; C is the largest product of fans on one, and each such product divides it; no fan is above 11
pub record Measured (g : Game) : Type 0 where
  pub decisions : height (tree_of g) ≡ m g
  pub product : widest (tree_of g) ≡ C g
  pub divides : EachPath (λ q. (r : ℕ) × (C g ≡ q * r)) 1 (tree_of g)
  pub fans : largest_fan (tree_of g) ≤ 11

-- of every game that numbers 1 and 2 let through
abbrev pub GamesMeasured : Type 0
GamesMeasured = (g : Game) → g.number ≤ 1 → seats-out g ≡ false → Measured g
