-- Laws of bytes written one part after the other. Assumes nothing.
use mathlib.Core.Path.{◌≡◌, refl, sym, ap, ap₂, ◌∙◌}
use mathlib.Core.List.{List, [], ◌∷◌, ◌++◌, append_assoc}
use Prim.Native.Nat.{ℕ, ◌+◌}
use native.Mathlib.Omega.{arith}
use lib.ListN.{length, get_or, drop, length-append}
use Rattle.leduc_rules.specs.Rules.{key, shown-public}
use Rattle.std.specs.Prelude.{Option, Some, None, unwrap_or}
use lib.Seq.{take-length, take-append_seam, drop-append-add, drop-drop, paste}

-- the bytes at the front of an output, and what it held beyond them
abbrev pub at_front : List ℕ → List ℕ → List ℕ
at_front bytes out = bytes ++ drop (length bytes) out

pub write_first : (b out : List ℕ) → paste out 0 b (length b) ≡ at_front b out
write_first b out =
    let z : 0 + length b ≡ length b = omega arith in
    ap (λ l. l ++ drop (0 + length b) out) (take-length b) ∙ ap (λ n. b ++ drop n out) z

pub write_next : (a b out : List ℕ) (n : ℕ) → length a ≡ n → paste (at_front a out) n b (length b) ≡ at_front (a ++ b) out
write_next a b out n e =
    ap (λ k. paste (at_front a out) k b (length b)) (sym e)
    ∙ ap₂ (λ x y. (x ++ y) ++ drop (length a + length b) (at_front a out)) (take-append_seam a (drop (length a) out)) (take-length b)
    ∙ ap (λ l. (a ++ b) ++ l) (drop-append-add a (drop (length a) out) (length b) ∙ drop-drop (length b) (length a) out)
    ∙ ap (λ k. (a ++ b) ++ drop k out) (sym (length-append a b))

-- four parts
pub write_four : (a b c d out o₁ o₂ o₃ o₄ : List ℕ) (k m n : ℕ) → length a ≡ k → length (a ++ b) ≡ m → length (a ++ b ++ c) ≡ n
    → o₁ ≡ paste out 0 a (length a) → o₂ ≡ paste o₁ k b (length b) → o₃ ≡ paste o₂ m c (length c) → o₄ ≡ paste o₃ n d (length d)
    → o₄ ≡ at_front (a ++ b ++ c ++ d) out
write_four a b c d out o₁ o₂ o₃ o₄ k m n r p q e₁ e₂ e₃ e₄ =
    let f₁ : o₁ ≡ at_front a out = e₁ ∙ write_first a out in
    let f₂ : o₂ ≡ at_front (a ++ b) out = e₂ ∙ ap (λ o. paste o k b (length b)) f₁ ∙ write_next a b out k r in
    let f₃ : o₃ ≡ at_front (a ++ b ++ c) out = e₃ ∙ ap (λ o. paste o m c (length c)) f₂ ∙ write_next (a ++ b) c out m p in
    e₄ ∙ ap (λ o. paste o n d (length d)) f₃ ∙ write_next (a ++ b ++ c) d out n q

-- the parts of a key
module _ (cs : List ℕ) (p : Option ℕ) (h₁ h₂ : List ℕ) (t : ℕ) where
  abbrev pub head_of : List ℕ
  head_of = t ∷ get_or cs t 0 ∷ shown-public p ∷ length h₁ ∷ []

  key_parts : head_of ++ h₁ ++ (length h₂ ∷ []) ++ h₂ ≡ key cs p h₁ h₂ t
  unfolding key
  key_parts = append_assoc (head_of ++ h₁) (length h₂ ∷ []) h₂

  pub key-length : length (key cs p h₁ h₂ t) ≡ 5 + length h₁ + length h₂
  unfolding key
  key-length = omega (arith, length-append h₁ (length h₂ ∷ h₂))

  -- the key as it is written: a is the head
  pub key-written : (a out o₁ o₂ o₃ o₄ : List ℕ) → a ≡ head_of → o₁ ≡ paste out 0 a (length a)
      → o₂ ≡ paste o₁ 4 h₁ (length h₁) → o₃ ≡ paste o₂ (4 + length h₁) (length h₂ ∷ []) (length (length h₂ ∷ []))
      → o₄ ≡ paste o₃ (5 + length h₁) h₂ (length h₂) → o₄ ≡ at_front (key cs p h₁ h₂ t) out
  key-written a out o₁ o₂ o₃ o₄ e e₁ e₂ e₃ e₄ =
      let h = ap length e in let ab = length-append a h₁ in let abc = length-append (a ++ h₁) (length h₂ ∷ []) in
      write_four a h₁ (length h₂ ∷ []) h₂ out o₁ o₂ o₃ o₄ 4 (4 + length h₁) (5 + length h₁) h (omega arith) (omega arith) e₁ e₂ e₃ e₄
      ∙ ap (λ l. at_front l out) (ap (λ x. x ++ h₁ ++ (length h₂ ∷ []) ++ h₂) e ∙ key_parts)

-- what a key shows of the public card
pub public_shown : (p : Option ℕ) → unwrap_or p 255 ≡ shown-public p
public_shown None = refl
public_shown (Some c) = refl
