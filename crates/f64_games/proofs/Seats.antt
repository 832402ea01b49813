-- Values seat by seat, as a loop fills or adds them. Assumes nothing.
use mathlib.Core.Path.{◌≡◌, refl, ap, ap₂, ◌∙◌}
use mathlib.Core.Bool.{cond}
use mathlib.Core.List.{List}
use Prim.Native.Nat.{ℕ, suc, ◌+◌, ◌≤◌, ◌<◌}
use native.Mathlib.Omega.{arith}
use lib.Dec.{ltb}
use borrow.Author.Tests.{lt-ltb}
use lib.Ieee.{Float, nan, binary64, sub}
use lib.ListN.{length, get_or, set, replicate}
use Rattle.prelude.specs.Finite.{places}
use Rattle.prelude.proofs.Lists.{filled_none, filled_more, get_d_places}
use Rattle.game_tree_f64.specs.Values.{nought, plus}
use Rattle.games.specs.Games.{Game, tree_of}
use Rattle.arena.specs.internal.Index.{later_in}
use Rattle.f64_worths.specs.internal.Expected.{Expected}
use Rattle.arena_store.specs.internal.Stored.{Stored}
use Rattle.games.specs.Known.{Known}
use Rattle.arena_store.proofs.Shaped.{games_shaped, games_legible}
use Rattle.tree_refusals.specs.internal.Accepted.{AcceptedProfile}
use Rattle.f64_games.specs.Values.{best_of, worth_of, by_seat, bests_of, worths_of, gaps, nash_conv_of}

-- the first k of six places have f
abbrev pub front : (ℕ → Float) → ℕ → List Float
front f k = places 6 (λ i. cond (ltb i k) (f i) nought)

module _ (f : ℕ → Float) where
  pub front_none : replicate 6 nought ≡ front f 0
  front_none = filled_none 6 f nought

  pub front_more : (k : ℕ) (out : List Float) (x : Float) → k < 6 → out ≡ front f k → x ≡ f k → set out k x ≡ front f (k + 1)
  front_more k out x h e q = ap₂ (λ l z. set l k z) e q ∙ filled_more 6 f nought k h

  pub front_all : (g : Game) (k : ℕ) (out : List Float) → k ≤ g.seats → g.seats ≤ k → out ≡ front f k → out ≡ by_seat g f
  front_all g k out a b e = let q : k ≡ g.seats = omega arith in e ∙ ap (front f) q

module _ (g : Game) (P : List Float) where
  pub all_bests : (k : ℕ) (out : List Float) → k ≤ g.seats → g.seats ≤ k → out ≡ front (best_of g P) k → out ≡ bests_of g P
  unfolding bests_of
  all_bests k out a b e = front_all (best_of g P) g k out a b e

  pub all_worths : (k : ℕ) (out : List Float) → k ≤ g.seats → g.seats ≤ k → out ≡ front (worth_of g P) k → out ≡ worths_of g P
  unfolding worths_of
  all_worths k out a b e = front_all (worth_of g P) g k out a b e

  -- the worth of a seat
  pub worth_at : (ws : List Float) (k : ℕ) → g.seats ≤ 6 → ws ≡ worths_of g P → k < g.seats → get_or ws k nan ≡ worth_of g P k
  unfolding worths_of
  worth_at ws k m e l = ap (λ x. get_or x k nan) e ∙ get_d_places 6 (λ i. cond (ltb i g.seats) (worth_of g P i) nought) k nan (omega arith) ∙ rw (lt-ltb k g.seats l) refl

  pub gaps_none : nought ≡ gaps g P 0
  unfolding gaps
  gaps_none = refl

  pub gaps_more : (k : ℕ) (sum best worth : Float) → sum ≡ gaps g P k → best ≡ best_of g P k → worth ≡ worth_of g P k → plus sum (sub binary64 best worth) ≡ gaps g P (k + 1)
  unfolding gaps
  gaps_more k sum best worth e p q = let o : suc k ≡ k + 1 = omega arith in ap (λ x. plus x (sub binary64 best worth)) e ∙ ap₂ (λ x y. plus (gaps g P k) (sub binary64 x y)) p q ∙ ap (gaps g P) o

  pub gaps_all : (k : ℕ) (sum : Float) → k ≤ g.seats → g.seats ≤ k → sum ≡ gaps g P k → sum ≡ nash_conv_of g P
  gaps_all k sum a b e = let q : k ≡ g.seats = omega arith in e ∙ ap (gaps g P) q

-- ---- the games have two to six seats
pub two_seats : (g : Game) → Known g → 2 ≤ g.seats
two_seats g a = (games_shaped g a).least

pub few-seats : (g : Game) → Known g → g.seats ≤ 6
few-seats g a = (games_shaped g a).most

-- seats are passed in pairs: where one is left, those passed are an even number
abbrev pub Paired : (k n : ℕ) → Type 0
Paired k n = k < n → (j : ℕ) × (k ≡ j + j)

-- so the next pair is within six
pub pair_fits : (k n : ℕ) → n ≤ 6 → Paired k n → k < n → k < 5
pair_fits k n m e l = let p = e l in omega (arith, p.1)

pub paired_none : (n : ℕ) → Paired 0 n
paired_none n l = (0, refl)

pub paired_more : (k n : ℕ) → Paired k n → k < n → Paired (k + 1 + 1) n
paired_more k n e l m = let p = e l in (suc p.0, omega (arith, p.1))

-- what is read of the tree for a seat
pub worth_is : (g : Game) (P : List Float) → AcceptedProfile g P → (w : List ℕ) → Stored g w → (i : ℕ) (r : Float) → i < g.seats → Expected P w 0 32 i r → r ≡ worth_of g P i
unfolding worth_of
worth_is g P a w x i r l o = o g.seats (tree_of g) (tree_of g) (later_in (tree_of g)) l (games_legible g w (length P) a.game x a.long)
