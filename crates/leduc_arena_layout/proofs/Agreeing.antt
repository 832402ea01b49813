-- The builder's tree and the rules' agree, node by node: the same seat, code and payoffs, and a code tells its set. That is computed over the whole tree. Assumes nothing.
use mathlib.Core.Path.{◌≡◌, refl, sym, ap, ap₂, ◌∙◌, subst}
use mathlib.Core.Bool.{Bool, true, false, cond}
use Prim.Native.Nat.{ℕ, zero, suc, ◌+◌, ◌/◌, ◌%◌, ◌≤◌, ◌<◌}
use native.Mathlib.Omega.{arith}
use lib.Dec.{eqb, ltb, leb}
use lib.IntN.{ℤ, pos, negsuc}
use mathlib.Core.List.{List, [], ◌∷◌, ◌++◌}
use lib.ListN.{length, get_or}
use borrow.Author.Tests.{eqb-true}
use Rattle.prelude.specs.Finite.{◌and◌, ◌or◌, some, those, has}
use Rattle.prelude.proofs.Tests.{true≢false, and_left, and_right}
use Rattle.game_tree.specs.Tree.{Key, Tree, end, chance, decide, Trees, nil, cons, fan}
use Rattle.game_tree.specs.Conditions.{Every, EveryAll}
use Rattle.game_tree.specs.Reply.{same}
use Rattle.game_tree.specs.Sets.{size, sizes}
use Rattle.arena.specs.internal.Held.{Says, Held, HeldAll}
use Rattle.arena.specs.internal.Index.{unlinked}
use Rattle.arena.specs.internal.Built.{Built, Room}
use Rattle.arena.proofs.Building.{join}
use Rattle.leduc_betting.specs.Betting.{ends_with, folded, closes, behind, raises, may, options, in_play, turn, ended}
use Rattle.leduc_betting.specs.Cards.{left, remaining}
use Rattle.leduc_rules.specs.Rules.{public-due, due, key, after-action, put_in, contribution, folds, pairs, beats, wins, payoff}
use Rattle.leduc_rules.specs.Stakes.{ante, raise₁, raise₂}
use Rattle.leduc_tree.specs.Tree.{next, each, below, tree_of_leduc}
use Rattle.leduc_tree.specs.Counts.{leduc_nodes}
use Rattle.leduc_tree_facts.proofs.Facts.{counts}
use Rattle.leduc_arena_layout.specs.internal.Codes.{number_from, code_from, code_of, codes}
use Rattle.leduc_arena_layout.specs.internal.Layout.{plain, byte_for, end_tree, raised_tree, called_tree, round_tree, only, row_to, showdown_for, second_tree, public_tree, first_tree, deal_tree, deals_tree}

-- ---- two payoffs are the same
unfoldable equal : ℤ → ℤ → Bool
equal (pos a) (pos b) = eqb a b
equal (pos a) (negsuc b) = false
equal (negsuc a) (pos b) = false
equal (negsuc a) (negsuc b) = eqb a b

equal_true : (x y : ℤ) → equal x y ≡ true → x ≡ y
unfolding equal
equal_true (pos a) (pos b) e = ap pos (eqb-true a b e)
equal_true (pos a) (negsuc b) e = true≢false false e refl
equal_true (negsuc a) (pos b) e = true≢false false e refl
equal_true (negsuc a) (negsuc b) e = ap negsuc (eqb-true a b e)

-- ---- a code read back
-- the history of a number, of at most so many actions: its last is 1 at an odd number, 2 at an even one
unfoldable history_of : ℕ → ℕ → List ℕ
history_of zero n = []
history_of (suc k) zero = []
history_of (suc k) (suc n) = history_of k (n / 2) ++ ((1 + n % 2) ∷ [])

-- the key of a code
unfoldable pub key_of : ℕ → Key
unfolding history_of closes
key_of x =
    let h₁ : List ℕ = history_of 4 (x / 462) in
    let h₂ : List ℕ = history_of 4 (x / 42 % 11) in
    let p : ℕ = x / 6 % 7 in
    length (cond (closes h₁) h₂ h₁) % 2 ∷ x % 6 ∷ cond (eqb p 6) 255 p ∷ length h₁ ∷ h₁ ++ (length h₂ ∷ h₂)

-- code x is small and tells key k, the key tells seat j, and there is an action
unfoldable pub told : (x j : ℕ) → Key → ℕ → Bool
unfolding key_of
told x j k n = ltb x codes and (same (key_of x) k and (eqb j (get_or k 0 0) and leb 1 n))

-- a decision's code does
abbrev pub Told : ℕ → Key → ℕ → Type 0
Told j k n = told (code_of j k) j k n ≡ true

-- ---- two trees agree
unfoldable mutual
  unfolding equal told fan

  agrees : Tree → Tree → Bool
  agrees (end p) (end q) = equal (p 0) (q 0) and equal (p 1) (q 1)
  agrees (end p) (chance g) = false
  agrees (end p) (decide i l g) = false
  agrees (chance f) (end q) = false
  agrees (chance f) (chance g) = agrees_all f g
  agrees (chance f) (decide i l g) = false
  agrees (decide j k f) (end q) = false
  agrees (decide j k f) (chance g) = false
  agrees (decide j k f) (decide i l g) = eqb j i and (eqb (code_of j k) (plain i l) and (told (plain i l) j k (fan f) and agrees_all f g))

  agrees_all : Trees → Trees → Bool
  agrees_all nil nil = true
  agrees_all nil (cons u g) = false
  agrees_all (cons t f) nil = false
  agrees_all (cons t f) (cons u g) = agrees t u and agrees_all f g

all_agree : agrees (tree_of_leduc ante raise₁ raise₂) deals_tree ≡ true
unfolding agrees equal told same key_of history_of fan code_of code_from number_from tree_of_leduc below next each ◌and◌ ◌or◌ some those has ends_with folded
    closes behind raises may options in_play turn ended left remaining public-due due key after-action put_in contribution folds pairs beats wins
    payoff byte_for end_tree raised_tree called_tree round_tree only row_to join showdown_for second_tree public_tree first_tree deal_tree
all_agree = refl

-- ---- what holds the one holds the other
-- t has as many nodes as u, stands where u does, and its codes tell its sets
record Alike (t u : Tree) : Type 0 where
  nodes : size t ≡ size u
  tells : Every Told t
  stands : (w : List ℕ) (a : ℕ) → Held 2 plain unlinked w a u → Held 2 code_of unlinked w a t

record AllAlike (f g : Trees) : Type 0 where
  nodes : sizes f ≡ sizes g
  tell : EveryAll Told f
  count : fan f ≡ fan g
  stand : (w : List ℕ) (a : ℕ) → HeldAll 2 plain unlinked w a g → HeldAll 2 code_of unlinked w a f

end_alike : (p q : ℕ → ℤ) → p 0 ≡ q 0 → p 1 ≡ q 1 → Alike (end p) (end q)
unfolding Held Says size Every
end_alike p q e f = record { nodes = refl; tells = tt; stands = λ w a h. (h.0, λ i l. h.1 i l ∙ at i l) }
  where
    at : (i : ℕ) → i < 2 → q i ≡ p i
    at zero l = sym e
    at (suc zero) l = sym f
    at (suc (suc i)) l = absurd (omega arith)

chance-alike : (f g : Trees) → AllAlike f g → Alike (chance f) (chance g)
unfolding Held Says size Every
chance-alike f g h = record { nodes = ap suc h.nodes; tells = h.tell; stands = λ w a s. ((s.0.0, s.0.1 ∙ ap (λ z. a + suc z) (sym h.nodes)), h.stand w (suc a) s.1) }

decide-alike : (j i : ℕ) (k l : Key) (f g : Trees) → j ≡ i → code_of j k ≡ plain i l → told (plain i l) j k (fan f) ≡ true → AllAlike f g → Alike (decide j k f) (decide i l g)
unfolding Held Says size Every
decide-alike j i k l f g e c t h = record {
  nodes = ap suc h.nodes;
  tells = (ap (λ x. told x j k (fan f)) c ∙ t, h.tell);
  stands = λ w a s. let says = s.0 in ((says.0, says.1 ∙ sym e, says.2 ∙ sym h.count, says.3 ∙ sym c, says.4 ∙ ap (λ z. a + suc z) (sym h.nodes), says.5), h.stand w (suc a) s.1);
}

more_alike : (t u : Tree) (f g : Trees) → Alike t u → AllAlike f g → AllAlike (cons t f) (cons u g)
unfolding Held size fan Every
more_alike t u f g s h = record {
  nodes = ap₂ ◌+◌ s.nodes h.nodes;
  tell = (s.tells, h.tell);
  count = ap suc h.count;
  stand = λ w a v. (s.stands w a v.0, h.stand w (a + size t) (subst (λ z. HeldAll 2 plain unlinked w (a + z) g) (sym s.nodes) v.1));
}

none_alike : AllAlike nil nil
unfolding Held size fan Every
none_alike = record { nodes = refl; tell = tt; count = refl; stand = λ w a v. tt }

mutual
  unfolding agrees

  agrees-alike : (t u : Tree) → agrees t u ≡ true → Alike t u
  agrees-alike (end p) (end q) e = end_alike p q (equal_true _ _ (and_left _ _ e)) (equal_true _ _ (and_right _ _ e))
  agrees-alike (end p) (chance g) e = true≢false false e refl
  agrees-alike (end p) (decide i l g) e = true≢false false e refl
  agrees-alike (chance f) (end q) e = true≢false false e refl
  agrees-alike (chance f) (chance g) e = chance-alike f g (all_alike f g e)
  agrees-alike (chance f) (decide i l g) e = true≢false false e refl
  agrees-alike (decide j k f) (end q) e = true≢false false e refl
  agrees-alike (decide j k f) (chance g) e = true≢false false e refl
  agrees-alike (decide j k f) (decide i l g) e = decide-alike j i k l f g (eqb-true _ _ (and_left _ _ e)) (eqb-true _ _ (and_left _ _
      (and_right _ _ e))) (and_left _ _ (and_right _ _ (and_right _ _ e))) (all_alike f g (and_right _ _ (and_right _ _ (and_right _ _ e))))

  all_alike : (f g : Trees) → agrees_all f g ≡ true → AllAlike f g
  all_alike nil nil e = none_alike
  all_alike nil (cons u g) e = true≢false false e refl
  all_alike (cons t f) nil e = true≢false false e refl
  all_alike (cons t f) (cons u g) e = more_alike t u f g (agrees-alike t u (and_left _ _ e)) (all_alike f g (and_right _ _ e))

trees_alike : Alike (tree_of_leduc ante raise₁ raise₂) deals_tree
trees_alike = agrees-alike _ _ all_agree

-- ---- the codes tell the sets of the rules' tree
pub leduc-told : Every Told (tree_of_leduc ante raise₁ raise₂)
leduc-told = trees_alike.tells

-- ---- the builder's tree has 9457 nodes, and where it stands the rules' tree does
deals-size : size deals_tree ≡ leduc_nodes
deals-size = sym trees_alike.nodes ∙ (counts ante raise₁ raise₂).0

pub deals_room : (w : List ℕ) → leduc_nodes ≤ length w → Room 0 w (size deals_tree)
deals_room w l = record { words = omega (arith, deals-size); places = omega (arith, deals-size) }

pub deals_built : (v w : List ℕ) (r : ℕ) → Built 2 plain 0 v w deals_tree r → Built 2 code_of 0 v w (tree_of_leduc ante raise₁ raise₂) r
deals_built v w r b = record { next = rw trees_alike.nodes b.next; held = trees_alike.stands w 0 b.held; kept = rw trees_alike.nodes b.kept }
