-- What a tree is worth to two seats, from what its children are, and the places that a walk goes to. Assumes nothing.
use mathlib.Core.Path.{◌≡◌, refl}
use mathlib.Core.List.{List}
use Prim.Native.Nat.{ℕ, ◌+◌, ◌-◌, ◌≤◌, ◌<◌}
use native.Mathlib.Omega.{arith}
use lib.ListN.{length, get_or, take, drop}
use Rattle.prelude.proofs.Parts.{part_at}
use lib.Ieee.{Float, nan, binary64, of_int}
use Rattle.game_tree_f64.specs.Values.{nought, plus, weight}
use Rattle.arena.specs.internal.Words.{END, CHANCE, kind_of, actions_of, set_of, next_of, payoff_of}
use Rattle.arena.specs.internal.Walk.{Behind, Fan}
use Rattle.f64_worths.specs.declared.Two.{Two}
use Rattle.f64_worths.specs.internal.Expected.{Both, Summed, Walkable, Expected, Gained, Dealt, Moved}
use Rattle.f64_worths.proofs.Summing as one

-- an entry of a part of the profile is one of the profile
pub summed_part : (profile : List Float) (e z x : ℕ) (v g r : Two) → x < z - e → Summed v (get_or (take (z - e) (drop e profile)) x nan) g r
    → Summed v (get_or profile (e + x) nan) g r
summed_part profile e z x v g r l q = rw (part_at profile e z x nan l) at q

-- both sums start
abbrev pub Started : Two → Type 0
Started r = (r.first ≡ nought) × (r.second ≡ nought)

-- ---- a node by its word
module _ (profile : List Float) (w : List ℕ) (a d i : ℕ) (r : Two) where
  pub worths-shallow : d ≡ 0 → Both (Expected profile w a d) i r
  worths-shallow e = (one.worth-shallow profile w a d i r.first e, one.worth-shallow profile w a d (i + 1) r.second e)

  module _ (x : ℕ) (e : x ≡ get_or w a 0) where
    pub worths_end : kind_of x ≡ END → Started r → Both (Expected profile w a d) i r
    worths_end z v = (one.worth_end profile w a d i r.first x e z v.0, one.worth_end profile w a d (i + 1) r.second x e z v.1)

    pub worths-chance : (z : ℕ) → kind_of x ≡ CHANCE → z ≡ next_of x → Both (Dealt profile w (a + 1) z (d - 1)) i r → Both (Expected profile w a d) i r
    worths-chance z c o v = (one.worth-chance profile w a d i r.first x e z c o v.0, one.worth-chance profile w a d (i + 1) r.second x e z c o v.1)

    pub worths_decision : (kind_of x ≡ END → ⊥) → (kind_of x ≡ CHANCE → ⊥) → Both (Moved profile w (a + 1) x (d - 1)) i r → Both (Expected profile w a d) i r
    worths_decision z c v = (one.worth_decision profile w a d i r.first x e z c v.0, one.worth_decision profile w a d (i + 1) r.second x e z c v.1)

    pub gains_end : kind_of x ≡ END → Both (λ j g. g ≡ plus (of_int binary64 (payoff_of x j)) nought) i r → Both (Gained profile w a d) i r
    gains_end z v = (one.gain_end profile w a d i r.first x e z v.0, one.gain_end profile w a d (i + 1) r.second x e z v.1)

    pub gains-other : (v : Two) → (kind_of x ≡ END → ⊥) → Both (Expected profile w a d) i v → (r.first ≡ plus nought v.first) × (r.second ≡ plus nought v.second) → Both (Gained profile w a d) i r
    gains-other v z o q = (one.gain-other profile w a d i r.first x e v.first z o.0 q.0, one.gain-other profile w a d (i + 1) r.second x e v.second z o.1 q.1)

module _ (profile : List Float) (w : List ℕ) (a d i : ℕ) where
  -- ---- the children of a chance node
  module _ (z : ℕ) where
    -- place c is reached with the sums v
    abbrev pub Dealing : ℕ → Two → Type 0
    Dealing c v = Both (λ j x. one.Dealing profile w a d j z c x) i v

    pub deal-start : (v : Two) → Started v → Dealing a v
    deal-start v e = (one.deal-start profile w a d i z v.first e.0, one.deal-start profile w a d (i + 1) z v.second e.1)

    module _ (c q b : ℕ) (y : Float) (v g u : Two) (F : Fan w a z b) (W : b < 4294967296 → y ≡ weight b) (D : Dealing c v) (o : c < z) (N : Both (Gained profile w c d) i g) (B : Behind w c q) where
      pub deal_more : Summed v y g u → Dealing q u
      deal_more s = (one.deal_more profile w a d i z c q b y v.first g.first u.first F W D.0 o N.0 B s.0, one.deal_more profile w a d (i + 1) z c q b y v.second g.second u.second F W D.1 o N.1 B s.1)

      pub deal_stuck : q ≤ c → Both (Dealt profile w a z d) i u
      deal_stuck s = (one.deal_stuck profile w a d i z c q b y v.first g.first u.first F W D.0 o N.0 B s, one.deal_stuck profile w a d (i + 1) z c q b y v.second g.second u.second F W D.1 o N.1 B s)

    pub deal_end : (c : ℕ) (v : Two) → Dealing c v → z ≤ c → Both (Dealt profile w a z d) i v
    deal_end c v D o = (one.deal_end profile w a d i z c v.first D.0 o, one.deal_end profile w a d (i + 1) z c v.second D.1 o)

  -- ---- the children of a decision with word y
  module _ (y : ℕ) where
    -- x of them are passed, place c is reached with the sums v
    abbrev pub Moving : ℕ → ℕ → Two → Type 0
    Moving c x v = Both (λ j z. one.Moving profile w a d j y c x z) i v

    pub decide-start : (v : Two) → Started v → Moving a 0 v
    decide-start v e = (one.decide-start profile w a d i y v.first e.0, one.decide-start profile w a d (i + 1) y v.second e.1)

    module _ (c x s : ℕ) (v g u : Two) (S : s ≡ set_of y) (M : Moving c x v) (N : Both (Gained profile w c d) i g) (U : Summed v (get_or profile (s + x) nan) g u) where
      pub decide_more : (q : ℕ) → x < actions_of y → Behind w c q → Moving q (x + 1) u
      decide_more q o B = (one.decide_more profile w a d i y c x s _ v.first g.first u.first S refl M.0 N.0 U.0 q o B, one.decide_more profile w a d (i + 1) y c x s _ v.second g.second u.second S refl M.1 N.1 U.1 q o B)

      pub decide_last : actions_of y ≡ x + 1 → Both (Moved profile w a y d) i u
      decide_last o = (one.decide_last profile w a d i y c x s _ v.first g.first u.first S refl M.0 N.0 U.0 o, one.decide_last profile w a d (i + 1) y c x s _ v.second g.second u.second S refl M.1 N.1 U.1 o)

    -- fewer than two actions, or no entries for them
    pub decide-few : (v : Two) → actions_of y < 2 → Both (Moved profile w a y d) i v
    decide-few v o = (one.decide-few profile w a d i y v.first o, one.decide-few profile w a d (i + 1) y v.second o)

    pub decide_none : (v : Two) → length profile < set_of y + actions_of y → Both (Moved profile w a y d) i v
    decide_none v o = (one.decide_none profile w a d i y v.first o, one.decide_none profile w a d (i + 1) y v.second o)

-- ---- one step along
pub walk-along : (a b i d : ℕ) → Walkable a i d → b < 4194304 → Walkable b i d
walk-along a b i d h l = record { place = omega (arith, h.shallow); seat = h.seat; shallow = h.shallow }
