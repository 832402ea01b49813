-- What a tree's ends are worth, place by place. Definitions only; nothing is assumed.
use Rattle.std.specs.Prelude.{cond, List, ℕ, zero, suc, ◌+◌, ◌*◌, ◌%◌, eqb, get_or}
use Rattle.arena.specs.internal.Words.{END, kind_of, byte_of}
use Rattle.units.specs.internal.Sums.{Summed}
use Rattle.units.specs.internal.Readable.{UNITS}

-- what y units of the node with word x are worth to seat i, lifted: nothing, unless it is an end
unfoldable pub end_gain : (x y i : ℕ) → ℕ
end_gain x y i = cond (eqb (kind_of x) END) (y * byte_of x i) 0

-- the same of n nodes from place a on, with the units of place p at place b + p
unfoldable pub end_gains : (w : List ℕ) (b i a n : ℕ) → ℕ
end_gains w b i a zero = 0
end_gains w b i a (suc n) = end_gain (get_or w a 0) (get_or w (b + a) 0 % UNITS) i + end_gains w b i (suc a) n

-- whatever the old sums are, the new ones are those and what y units of the node with word x are worth
abbrev pub WithNode : (x y : ℕ) (old new : List ℕ) → Type 0
WithNode x y old new = (f : ℕ → ℕ) → Summed f old → Summed (λ i. f i + end_gain x y i) new
