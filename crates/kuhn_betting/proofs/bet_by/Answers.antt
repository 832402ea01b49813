-- Whether a seat has bet: each chunk of n actions has its turn at the same place. Assumes nothing.
use denote.Ref.{Bor}
use Prim.Native.Nat.{ℕ, zero, suc, ◌+◌, ◌-◌, ◌*◌, ◌/◌, ◌%◌, ◌≤◌, ◌<◌}
use native.Mathlib.Nat as NatL
use mathlib.Core.Bool.{Bool, true}
use mathlib.Core.List.{List, [], ◌∷◌}
use mathlib.Core.Path.{◌≡◌, refl, sym, ap, subst, ◌∙◌}
use native.Mathlib.Omega.{arith}
use Rattle.std.proofs.Common.{rules, tests}
use borrow.Author.Tests.{le-ltb, ltb-true, ltb-false}
use lib.Dec.{ltb}
use lib.ListN.{length, get_or}
use Rattle.std.specs.Prelude.{Option, Some, None, IfSome, IsSomeAnd}
use Rattle.std.specs.Bool.{MatchBool}
use Rattle.std.specs.Option.{option_map}
use Rattle.std.specs.List.{HoldsAt, IsSubsliceAt, slice_get}
use Rattle.std.specs.Iterator.Runs.{Run, IsChunksRun}
use Rattle.std.proofs.lemmas.List.{get_or_past}
use Rattle.std.specs.Slice.Iter.{chunks_rest, chunks_size, chunk_count}
use Rattle.prelude.specs.Finite.{some}
use Rattle.prelude.proofs.Tests.{Tested, holds, fails, tested}
use Rattle.kuhn_rules.specs.Rules.{bets}
use Rattle.kuhn_rules.proofs.Apart as apart
use Rattle.kuhn_betting.proofs.bet_by.Goals as goal

item : (l : List ℕ) (k : ℕ) → IfSome (slice_get l k) (λ x. HoldsAt (λ y. x ≡ y) l k)
item [] k = tt
item (x ∷ l) zero = λ d. refl
item (x ∷ l) (suc k) = item l k

all : (l : List ℕ) (k d : ℕ) → k < length l → option_map (λ x. x) (slice_get l k) ≡ Some (get_or l k d)
all [] k d o = absurd (omega arith)
all (x ∷ l) zero d o = refl
all (x ∷ l) (suc k) d o = all l k d (omega arith)

one : (l : List ℕ) (k : ℕ) → get_or l k 0 ≡ 1 → IsSomeAnd (slice_get l k) (λ x. x ≡ 1)
one [] k e = absurd (omega (arith, e))
one (x ∷ l) zero e = e
one (x ∷ l) (suc k) e = one l k e

other : (l : List ℕ) (k : ℕ) → (get_or l k 0 ≡ 1 → ⊥) → IfSome (slice_get l k) (λ x. x ≡ 1 → ⊥)
other [] k e = tt
other (x ∷ l) zero e = e
other (x ∷ l) (suc k) e = other l k e

-- no place is left past the last chunk
past : (l n k : ℕ) → 1 ≤ n → chunk_count l n ≤ k → l ≤ k * n
past l n k o w = let parts : ℕ = (l + n - 1) / n in
    let whole : (l + n - 1) % n + parts * n ≡ l + n - 1 = NatL.mod-add-div' (l + n - 1) n in
    let rest : (l + n - 1) % n < n = NatL.mod-lt (l + n - 1) {m = n} o in
    least (tested (ltb l parts)) whole rest
  where
    least : Tested (ltb l ((l + n - 1) / n)) → (l + n - 1) % n + (l + n - 1) / n * n ≡ l + n - 1 → (l + n - 1) % n < n → l ≤ k * n
    least (holds t) e r = let m : l * 1 ≤ k * n = NatL.mul-le-mul (omega (arith, w, ltb-true _ _ t)) o in omega (arith, m)
    least (fails t) e r = let m : (l + n - 1) / n * n ≤ k * n = NatL.mul-le-mul (omega (arith, w, ltb-false _ _ t)) (omega arith) in omega (arith, m, e, r, o)

module _ {S : Type 0} {steps : S → Option (Bor (List ℕ)) → S → Type 0} (q : Run steps) (h : List ℕ) (n p : ℕ) (o : p < n) (cut : IsChunksRun q n h) where
  -- what a chunk has at place p
  read : (k : ℕ) → IfSome (q.at k) (λ x. get_or x.now p 0 ≡ get_or h (p + k * n) 0)
  read k = of (q.at k) (cut.2 k)
    where
      of : (r : Option (Bor (List ℕ))) → IfSome r (λ x. (0 < length x.now) × (k * n < length h) × IsSubsliceAt n h (k * n) x.now) → IfSome r (λ x. get_or x.now p 0 ≡ get_or h (p + k * n) 0)
      of None a = tt
      of (Some x) a = a.2.2 p 0 o ∙ ap (λ i. get_or h i 0) (omega arith)

  -- what a chain answers over the chunks, by what it answers at each
  chunked : (P N : Bor (List ℕ) → Type 0) (b : Bool) (X Y : Type 0) → MatchBool b X Y → (Y → q.whole ≡ true) →
      ((x : Bor (List ℕ)) → P x → get_or x.now p 0 ≡ 1) → ((x : Bor (List ℕ)) → N x → get_or x.now p 0 ≡ 1 → ⊥) →
      (X → (k : ℕ) × IsSomeAnd (q.at k) P) → (Y → (k : ℕ) → IfSome (q.at k) N) → b ≡ some (length h) (apart.bet_at h n p)
  chunked P N b X Y m done hit miss w u = apart.strided h n p (λ x. x ≡ 1) (λ x. x ≡ 1 → ⊥) (λ x. x) (λ k. slice_get h (p + k * n)) (slice_get h) b X Y m o
      (λ k. refl) (item h) (λ y. all h) (λ x e. e) (λ x e. e) (λ x. let k = w x in (k.0, one h (p + k.0 * n) (found k.0 (q.at k.0) (read k.0) k.1)))
      (λ y k. other h (p + k * n) (λ e. absurd (left y k e (tested (ltb k q.len)))))
    where
      found : (k : ℕ) (r : Option (Bor (List ℕ))) → IfSome r (λ x. get_or x.now p 0 ≡ get_or h (p + k * n) 0) → IsSomeAnd r P → get_or h (p + k * n) 0 ≡ 1
      found k None a y = absurd y
      found k (Some x) a y = sym a ∙ hit x y

      none : (k : ℕ) (r : Option (Bor (List ℕ))) → IfSome r (λ x. get_or x.now p 0 ≡ get_or h (p + k * n) 0) → IfSome r N → get_or h (p + k * n) 0 ≡ 1 → (d : Bor (List ℕ)) → option_map (λ y. y) r ≡ Some d → ⊥
      none k None a y e d z = absurd (search rules)
      none k (Some x) a y e d z = miss x y (a ∙ e)

      left : Y → (k : ℕ) → get_or h (p + k * n) 0 ≡ 1 → Tested (ltb k q.len) → ⊥
      left y k e (holds t) = none k (q.at k) (read k) (u y k) e _ (q.reads k (record { ref_ptr = (0, 0); now = [] }) (ltb-true k q.len t))
      left y k e (fails t) = let z : get_or h (p + k * n) 0 ≡ 0 = get_or_past h (p + k * n) 0 (omega (arith, past (length h) n k (omega (arith, o)) (omega (arith, ltb-false k q.len t, cut.1 (done y))))) in
          omega (arith, z, e)

pub returns-then-player-n : goal.returns-then-player-n
unfolding bets
returns-then-player-n c =
    let p = c.any.ensures.runs.0 in
    let size : chunks_size p.from ≡ c.args.n = ap chunks_size c.any.ensures.runs.1 ∙ c.chunks.ensures.size in
    let rest : chunks_rest p.from ≡ c.args.history.now = ap chunks_rest c.any.ensures.runs.1 ∙ c.chunks.ensures.rest in
    let cut : IsChunksRun p (chunks_size p.from) (chunks_rest p.from) = c.chunks.ensures.runs p p.seen (omega (arith, size, c.requires)) in
    chunked p c.args.history.now c.args.n c.args.player (omega (arith, c.if-player-n.true))
    (subst (λ s. IsChunksRun p s c.args.history.now) size (subst (λ l. IsChunksRun p (chunks_size p.from) l) rest cut))
    _ _ c.any.result _ _ c.any.ensures.runs.2 (λ y. y.0)
    (λ x q. search (rules, tests)) (λ x q. search (rules, tests))
    (λ w. let k = w (λ a b f q. search (rules, tests)) in (k.0, k.2)) (λ y. y.1 (λ a b f q. search (rules, tests)))

pub returns-else-player-n : goal.returns-else-player-n
unfolding bets
returns-else-player-n c = le-ltb _ _ c.if-player-n.false ∙ sym (apart.no_turn c.args.history.now c.args.n c.args.player _ c.requires c.if-player-n.false)
