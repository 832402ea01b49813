-- Lists one after another, and bytes that stand in an output: tools of private contracts.
use Rattle.std.specs.Prelude.{◌≡◌, List, [], ◌∷◌, ◌++◌, ℕ, ◌+◌, ◌≤◌, length}
use Rattle.std.proofs.lemmas.List.Edits.{sets}
use Rattle.listing_records.specs.declared.Writer.{Writer}

-- the lists of all numbers, one after another
unfoldable pub joined : {A : Type 0} → List ℕ → (ℕ → List A) → List A
joined [] g = []
joined (c ∷ l) g = g c ++ joined l g

-- what is left of the output holds the bytes
abbrev pub HasRoom : Writer → List ℕ → Type 0
HasRoom w bytes = w.at + length bytes ≤ length w.out.now

-- the bytes went behind what was written, nothing else changed, and it is the same output still
pub record Wrote (old new : Writer) (bytes : List ℕ) : Type 0 where
  pub output : new.out.ghost_name ≡ old.out.ghost_name
  pub next : new.at ≡ old.at + length bytes
  pub wrote : new.out.now ≡ sets old.out.now old.at bytes
