-- The codes of Leduc's sets: each tells the seat and the key of its set. Assumes nothing.
use mathlib.Core.Path.{◌≡◌, sym, ap, ◌∙◌}
use Prim.Native.Nat.{ℕ}
use lib.ListN.{get_or}
use borrow.Author.Tests.{eqb-true, ltb-true}
use Rattle.prelude.proofs.Tests.{and_left, and_right}
use Rattle.game_tree.specs.Tree.{Key}
use Rattle.game_tree.specs.Conditions.{Every}
use Rattle.game_tree.proofs.Tests.{T_of, same→eq}
use Rattle.game_tree.proofs.Against.{every_both}
use Rattle.arena.specs.internal.Index.{Codes}
use Rattle.leduc_rules.specs.Stakes.{ante, raise₁, raise₂}
use Rattle.leduc_tree.specs.Tree.{tree_of_leduc}
use Rattle.leduc_arena_layout.specs.internal.Codes.{code_of, codes}
use Rattle.leduc_arena_layout.proofs.Agreeing.{key_of, told, Told, leduc-told}

-- two decisions with one code are of one set
one_set : (j : ℕ) (k : Key) (n i : ℕ) (l : Key) (m : ℕ) → Told j k n → Told i l m → code_of j k ≡ code_of i l → (j ≡ i) × (k ≡ l)
unfolding told
one_set j k n i l m e f c =
    let own : (x : ℕ) (z : Key) (a : ℕ) → Told x z a → (key_of (code_of x z) ≡ z) × (x ≡ get_or z 0 0) = λ x z a t. (same→eq _ _ (T_of (and_left _ _ (and_right _ _ t))), eqb-true _ _ (and_left _ _ (and_right _ _ (and_right _ _ t)))) in
    let same_key : k ≡ l = sym (own j k n e).0 ∙ ap key_of c ∙ (own i l m f).0 in
    ((own j k n e).1 ∙ ap (λ z. get_or z 0 0) same_key ∙ sym (own i l m f).1, same_key)

-- what follows from what the codes tell
each_told : (P : ℕ → Key → ℕ → Type 0) → ((j : ℕ) (k : Key) (n : ℕ) → Told j k n → P j k n) → Every P (tree_of_leduc ante raise₁ raise₂)
each_told P g = every_both Told Told P (λ j k n e f. g j k n e) (tree_of_leduc ante raise₁ raise₂) leduc-told leduc-told

-- ---- what an index of the tree asks
pub leduc-codes : Codes code_of codes (tree_of_leduc ante raise₁ raise₂)
unfolding told
leduc-codes = record {
  inside = each_told _ (λ j k n e. ltb-true _ _ (and_left _ _ e));
  apart = each_told _ (λ j k n e. each_told _ (λ i l m f. one_set j k n i l m e f));
}
