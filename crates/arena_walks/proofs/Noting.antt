-- A choice kept in work memory, and found there. Assumes nothing.
use mathlib.Core.Path.{◌≡◌, sym, ap, ◌∙◌, subst}
use mathlib.Core.Logic.{◌⊎◌, inl, inr}
use mathlib.Core.List.{List}
use Prim.Native.Nat.{ℕ, suc, ◌+◌, ◌-◌, ◌<◌}
use native.Mathlib.Omega.{arith}
use lib.Dec.{eqb}
use borrow.Author.Tests.{eqb-true, eqb-false}
use lib.ListN.{length, get_or, set, length-set}
use lib.Seq.{get_or-set_same, get_or-set_other}
use Rattle.prelude.proofs.Tests.{Tested, holds, fails, tested}
use Rattle.game_tree.specs.Tree.{Key}
use Rattle.game_tree.specs.Sets.{first_entry}
use Rattle.game_tree.proofs.Entries.{entry-apart}
use Rattle.arena_walks.specs.internal.Stage.{Stage, Known, Memo}
use Rattle.arena_walks.proofs.Standing.{some, inside}

module _ {i h k : ℕ} (S : Stage i h k) (w : List ℕ) (m : Memo S w) (y : Key) (n : ℕ) (g : Known S i y n) where
  -- the right choice written
  noted-set : (c : ℕ) → c ≡ S.choice y → Memo S (set w (k + first_entry S.tree i y) (c + 1))
  noted-set c e = record {
    words = λ p l. get_or-set_other w (k + first_entry S.tree i y) p (c + 1) 0 (λ q. omega arith) ∙ m.words p l;
    long = length-set w (k + first_entry S.tree i y) (c + 1) ∙ m.long;
    choices = λ z a o. at z a o (tested (eqb (first_entry S.tree i z) (first_entry S.tree i y)));
  }
    where
      room : k + first_entry S.tree i y < length w
      room = omega (arith, inside S i y n g, S.long, m.long)

      at : (z : Key) (a : ℕ) → Known S i z a → Tested (eqb (first_entry S.tree i z) (first_entry S.tree i y))
          → (get_or (set w (k + first_entry S.tree i y) (c + 1)) (k + first_entry S.tree i z) 0 ≡ 0) ⊎ (get_or (set w (k + first_entry S.tree i y) (c + 1)) (k + first_entry S.tree i z) 0 ≡ suc (S.choice z))
      at z a o (holds t) = let q : first_entry S.tree i z ≡ first_entry S.tree i y = eqb-true (first_entry S.tree i z) (first_entry S.tree i y) t in
          inr (ap (λ p. get_or (set w (k + first_entry S.tree i y) (c + 1)) (k + p) 0) q ∙ get_or-set_same w (k + first_entry S.tree i y) (c + 1) 0 room ∙ omega (arith, e, ap S.choice (entry-apart S.tree (some S) (i, z, a) (i, y, n) o g q).1))
      at z a o (fails t) = subst (λ v. (v ≡ 0) ⊎ (v ≡ suc (S.choice z)))
          (sym (get_or-set_other w (k + first_entry S.tree i y) (k + first_entry S.tree i z) (c + 1) 0 (λ q. eqb-false (first_entry S.tree i z) (first_entry S.tree i y) t (omega arith)))) (m.choices z a o)

  module _ (e : ℕ) (q : e ≡ first_entry S.tree i y) where
    pub noted_more : (new : List ℕ) (c : ℕ) → c ≡ S.choice y → new ≡ set w (k + e) (c + 1) → Memo S new
    noted_more new c p o = subst (Memo S) (ap (λ j. set w (k + j) (c + 1)) (sym q) ∙ sym o) (noted-set c p)

    -- a choice that was found before
    pub chosen-known : (v r : ℕ) → v ≡ get_or w (k + e) 0 → (v ≡ 0 → ⊥) → r ≡ v - 1 → r ≡ S.choice y
    chosen-known v r p z o = at (m.choices y n g)
      where
        same : v ≡ get_or w (k + first_entry S.tree i y) 0
        same = p ∙ ap (λ j. get_or w (k + j) 0) q

        at : (get_or w (k + first_entry S.tree i y) 0 ≡ 0) ⊎ (get_or w (k + first_entry S.tree i y) 0 ≡ suc (S.choice y)) → r ≡ S.choice y
        at (inl u) = absurd (z (same ∙ u))
        at (inr u) = omega (arith, o, same, u)
