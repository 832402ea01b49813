-- What a position keeps on its way through a call, proved in proofs/Facts.antt.
use Rattle.std.specs.Prelude.{◌≡◌, ℕ, None, Some}
use Rattle.refusals.specs.Outcomes as Outcomes
use Rattle.kuhn_positions.specs.declared.KuhnState.{KuhnState}
use Rattle.leduc_positions.specs.declared.LeducState.{LeducState}
use Rattle.c_structs.specs.Kuhn as Kuhn
use Rattle.c_structs.specs.Leduc as Leduc
use Rattle.c_structs.specs.declared.of_kuhn.KuhnPosition.{KuhnPosition}
use Rattle.c_structs.specs.declared.of_leduc.LeducPosition.{LeducPosition}

-- ---- the public card

-- every byte comes back, 255 as none and any other as a card
abbrev pub ByteBack : Type 0
ByteBack = (b : ℕ) → Leduc.byte_of (Leduc.public_of b) ≡ b

-- the other way round none comes back, and every card but 255: that one, which is in no deck, comes back as none
abbrev pub HiddenBack : Type 0
HiddenBack = Leduc.public_of (Leduc.byte_of None) ≡ None

abbrev pub CardBack : Type 0
CardBack = (c : ℕ) → (c ≡ 255 → ⊥) → Leduc.public_of (Leduc.byte_of (Some c)) ≡ Some c

abbrev pub Card255Lost : Type 0
Card255Lost = Leduc.public_of (Leduc.byte_of (Some 255)) ≡ None

-- ---- positions

-- a call that gives back the position it was handed gives it back to the byte
abbrev pub KuhnBack : Type 0
KuhnBack = (p : KuhnPosition) → Kuhn.position_of (Kuhn.state_of p) ≡ p

abbrev pub LeducBack : Type 0
LeducBack = (p : LeducPosition) → Leduc.position_of (Leduc.state_of p) ≡ p

-- so does a refused deal or step
abbrev pub KuhnRefusedBack : Type 0
KuhnRefusedBack = (refusal : ℕ) (p : KuhnPosition) (next : KuhnState) → (refusal ≡ 0 → ⊥)
    → (Kuhn.moved_of (Outcomes.moved refusal (Kuhn.state_of p) next)).position ≡ p

abbrev pub LeducRefusedBack : Type 0
LeducRefusedBack = (refusal : ℕ) (p : LeducPosition) (next : LeducState) → (refusal ≡ 0 → ⊥)
    → (Leduc.moved_of (Outcomes.moved refusal (Leduc.state_of p) next)).position ≡ p
