-- Words that are cleared. Assumes nothing.
use Rattle.std.proofs.Common.{rules, ◌≡◌, ◌∙◌, ◌⊎◌, ℕ, ◌-◌, ◌<◌, ◌≤◌, List, length, get_or, replicate, min, take, drop, ap, inl, inr, arith, ltb, ltb-true, ltb-false}
use Rattle.std.proofs.lemmas.List.{places}
use borrow.Rule.Slice.PartMut.{put_mid}
use lib.ListN.{get_or-eq_default}
use Rattle.prelude.proofs.Tests.{Tested, holds, fails, tested}
use Rattle.arena.specs.internal.Index.{Cleared}

module _ (lo e : ℕ) (w ys : List ℕ) (m : lo < e) (r : e ≤ length w) (z : ys ≡ replicate (e - lo) 0) where
  below : (i : ℕ) → i < lo → get_or (put_mid lo (e - lo) w ys) i 0 ≡ get_or w i 0
  below i h = search (rules, places)

  inside : (i : ℕ) → lo ≤ i → i < e → get_or (put_mid lo (e - lo) w ys) i 0 ≡ 0
  inside i g h = search (rules, places)

  beyond : (i : ℕ) → e ≤ i → get_or (put_mid lo (e - lo) w ys) i 0 ≡ get_or w i 0
  beyond i h = search (rules, places)

  long : length (put_mid lo (e - lo) w ys) ≡ length w
  long = search (rules, places)

-- the words as far as place e are filled, which is hi or where they end
pub cleared : (lo hi e : ℕ) (w ys : List ℕ) → e ≡ min hi (length w) → lo < e → ys ≡ replicate (length (take (e - lo) (drop lo w))) 0
    → Cleared lo hi w (put_mid lo (e - lo) w ys)
cleared lo hi e w ys q m y = record { zero = zero; kept = record { words = kept; long = long lo e w ys m r z } }
  where
    r : e ≤ length w
    r = omega arith

    z : ys ≡ replicate (e - lo) 0
    z = y ∙ ap (λ n. replicate n 0) (search (rules, places))

    zero : (i : ℕ) → lo ≤ i → i < hi → get_or (put_mid lo (e - lo) w ys) i 0 ≡ 0
    zero i a b = at (tested (ltb i e))
      where
        at : Tested (ltb i e) → get_or (put_mid lo (e - lo) w ys) i 0 ≡ 0
        at (holds h) = inside lo e w ys m r z i a (ltb-true i e h)
        at (fails h) = beyond lo e w ys m r z i (ltb-false i e h) ∙ get_or-eq_default w 0 (omega (arith, ltb-false i e h))

    kept : (i : ℕ) → (i < lo) ⊎ (hi ≤ i) → get_or (put_mid lo (e - lo) w ys) i 0 ≡ get_or w i 0
    kept i (inl h) = below lo e w ys m r z i h
    kept i (inr h) = beyond lo e w ys m r z i (omega arith)
