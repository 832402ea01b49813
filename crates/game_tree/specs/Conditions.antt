-- What the reply theorem asks of trees and strategies, and says of them: the units of all ends, exact division, validity, rivals.
-- Definitions only; nothing is assumed.
use Rattle.std.specs.Prelude.{◌≡◌, cond, ℕ, suc, pred, ◌+◌, ◌*◌, ◌/◌, ◌≤◌, ◌<◌, eqb, nat_abs}
use Rattle.game_tree.specs.Sums.{parts}
use Rattle.game_tree.specs.Tree.{Key, Strategy, Tree, Trees, chance, cons, decide, end, fan, nil}

-- how many parts each seat's sets have: D for all but seat i, which has E
abbrev pub all_but : ℕ → ℕ → ℕ → ℕ → ℕ
all_but i E D j = cond (eqb j i) E D

-- a chance child has its parent's units / fan, a decision child its parent's units × part / D
module _ (D : ℕ → ℕ) (s : Strategy) where
  -- the units of all ends, added up
  unfoldable mutual
    unfolding fan

    pub units : ℕ → Tree → ℕ
    units u (end p) = u
    units u (chance f) = units_all (u / fan f) f
    units u (decide j k f) = units_kids u j k 0 f

    pub units_all : ℕ → Trees → ℕ
    units_all u nil = 0
    units_all u (cons t f) = units u t + units_all u f

    pub units_kids : ℕ → ℕ → Key → ℕ → Trees → ℕ
    units_kids u j k a nil = 0
    units_kids u j k a (cons t f) = units (u * s j k a / D j) t + units_kids u j k (suc a) f

  -- every division on the way down from u units is exact
  unfoldable mutual
    unfolding fan

    pub Exact : ℕ → Tree → Type 0
    Exact u (end p) = Unit {0}
    Exact u (chance f) = (fan f * (u / fan f) ≡ u) × ExactAll (u / fan f) f
    Exact u (decide j k f) = ExactKids u j k 0 f

    pub ExactAll : ℕ → Trees → Type 0
    ExactAll u nil = Unit {0}
    ExactAll u (cons t f) = Exact u t × ExactAll u f

    pub ExactKids : ℕ → ℕ → Key → ℕ → Trees → Type 0
    ExactKids u j k a nil = Unit {0}
    ExactKids u j k a (cons t f) = (D j * (u * s j k a / D j) ≡ u * s j k a) × Exact (u * s j k a / D j) t × ExactKids u j k (suc a) f

-- every path has at most m decisions, and the fans along it divide C, one after the other
unfoldable mutual
  unfolding fan

  pub Splits : ℕ → ℕ → Tree → Type 0
  Splits C m (end p) = Unit {0}
  Splits C m (chance f) = (q : ℕ) × (C ≡ fan f * q) × (0 < fan f) × SplitsAll q m f
  Splits C m (decide j k f) = (0 < m) × SplitsAll C (pred m) f

  pub SplitsAll : ℕ → ℕ → Trees → Type 0
  SplitsAll C m nil = Unit {0}
  SplitsAll C m (cons t f) = Splits C m t × SplitsAll C m f

-- P holds at every decision, of its seat, its key and its number of actions
unfoldable mutual
  unfolding fan

  pub Every : (ℕ → Key → ℕ → Type 0) → Tree → Type 0
  Every P (end p) = Unit {0}
  Every P (chance f) = EveryAll P f
  Every P (decide j k f) = P j k (fan f) × EveryAll P f

  pub EveryAll : (ℕ → Key → ℕ → Type 0) → Trees → Type 0
  EveryAll P nil = Unit {0}
  EveryAll P (cons t f) = Every P t × EveryAll P f

-- no end pays seat i more than B in size
unfoldable mutual
  pub Pays : ℕ → ℕ → Tree → Type 0
  Pays B i (end p) = nat_abs (p i) ≤ B
  Pays B i (chance f) = PaysAll B i f
  Pays B i (decide j k f) = PaysAll B i f

  pub PaysAll : ℕ → ℕ → Trees → Type 0
  PaysAll B i nil = Unit {0}
  PaysAll B i (cons t f) = Pays B i t × PaysAll B i f

-- the parts of each set in the tree add up to D of its seat
abbrev pub Valid : (ℕ → ℕ) → Strategy → Tree → Type 0
Valid D s t = Every (λ j k n. parts n (s j k) ≡ D j) t

-- z has the entries of s in the other seats' sets
abbrev pub Keeps : ℕ → Strategy → Strategy → Tree → Type 0
Keeps i s z t = Every (λ j k n. (j ≡ i → ⊥) → (a : ℕ) → a < n → z j k a ≡ s j k a) t

-- z is a rival of seat i for s: valid, and s but for the seat's own sets
abbrev pub Rival : (ℕ → ℕ) → ℕ → Strategy → Strategy → Tree → Type 0
Rival D i s z t = Valid D z t × Keeps i s z t
