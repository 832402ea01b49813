-- What is written of a reply, set by set. Assumes nothing.
use Rattle.std.proofs.Common.{ap₂}
use Rattle.std.proofs.lemmas.List.{length-take-le, take_more}
use mathlib.Core.Path.{◌≡◌, refl, sym, ap, ◌∙◌, subst}
use mathlib.Core.Logic.{inl, inr}
use mathlib.Core.Bool.{false, cond}
use mathlib.Core.List.{List, [], ◌∷◌, ◌++◌, append_assoc, append-nil}
use Prim.Native.Nat.{ℕ, zero, suc, pred, ◌+◌, ◌-◌, ◌%◌, ◌≤◌, ◌<◌}
use native.Mathlib.Nat as NatL
use native.Mathlib.Omega.{arith}
use lib.Dec.{eqb}
use borrow.Author.Tests.{eq-eqb, ne_eqb}
use lib.ListN.{length, get_or, set, take, drop, length-append}
use lib.Seq.{sets, drop-cons}
use Rattle.prelude.proofs.Tests.{Tested, holds, fails, tested}
use Rattle.game_tree.specs.Sums.{sumℕ}
use Rattle.game_tree.specs.Tree.{Key, Tree, end, chance, decide, Trees, nil, cons, fan, Strategy}
use Rattle.game_tree.specs.Conditions.{Every, EveryAll}
use Rattle.game_tree.specs.Reply.{pure}
use Rattle.game_tree.specs.Shape.{Levels, LevelsAll, decision_of, decisions_of}
use Rattle.game_tree.specs.Sets.{Decision, size, preorder, is_of, decides, numbers, set_members, before, entries_of, first_entry, set_count}
use Rattle.game_tree.specs.Sets as Sets
use Rattle.game_tree.specs.Table.{Table, listed, laid_out, table_of}
use Rattle.game_tree.proofs.Tests.{T_of, same→eq, same_self, eqb_is}
use Rattle.game_tree.proofs.Sets.{preorder-length, decisions_of_nodes, Distinct, sets_distinct, unmet, clash, is_of_self}
use Rattle.game_tree.proofs.Entries.{entries_of_append}
use Rattle.game_tree.proofs.Tables.{laid_out-length}
use Rattle.game_tree.proofs.Counting.{In, in_right, each_in, sets_in}
use Rattle.arena.specs.internal.Words.{actor_of, actions_of, PLACES}
use Rattle.arena.specs.internal.Held.{Says}
use Rattle.arena.specs.internal.Index.{first_of, later_in}
use Rattle.arena.proofs.Nodes.{none, node, held-node}
use Rattle.arena_walks.specs.internal.Stage.{Stage, Known, Memo}
use Rattle.arena_walks.proofs.Standing.{known_of, inside, set-inside, same_fan}
use Rattle.units_values.specs.internal.Valued.{Scene, Chosen}
use Rattle.units_reply.specs.internal.Laid.{Tabled, replied, LaidSet, Laid}

-- ---- no set stands deeper than its walk
mutual
  unfolding Levels Every

  levels_most : (t : Tree) (v : ℕ → Key → ℕ) (d z : ℕ) → d ≤ z → Levels v d t → Every (λ j k n. v j k ≤ z) t
  levels_most (end p) v d z l h = tt
  levels_most (chance f) v d z l h = levels_most_all f v (pred d) z (omega arith) h.1
  levels_most (decide j k f) v d z l h = (omega (arith, h.1), levels_most_all f v (pred d) z (omega arith) h.2)

  levels_most_all : (f : Trees) (v : ℕ → Key → ℕ) (d z : ℕ) → d ≤ z → LevelsAll v d f → EveryAll (λ j k n. v j k ≤ z) f
  levels_most_all nil v d z l h = tt
  levels_most_all (cons t f) v d z l h = (levels_most t v d z l h.0, levels_most_all f v d z l h.1)

-- ---- a list of entries, and entries that are written one after the other
listed_same : (n : ℕ) (p q : ℕ → ℕ) → ((a : ℕ) → p a ≡ q a) → listed n p ≡ listed n q
unfolding listed
listed_same zero p q h = refl
listed_same (suc n) p q h = ap₂ ◌∷◌ (h 0) (listed_same n (λ a. p (suc a)) (λ a. q (suc a)) (λ a. h (suc a)))

listed_more : (n : ℕ) (p : ℕ → ℕ) → listed n p ++ (p n ∷ []) ≡ listed (suc n) p
unfolding listed
listed_more zero p = refl
listed_more (suc n) p = ap (λ l. p 0 ∷ l) (listed_more n (λ a. p (suc a)))

listed-length : (n : ℕ) (p : ℕ → ℕ) → length (listed n p) ≡ n
unfolding listed
listed-length zero p = refl
listed-length (suc n) p = ap suc (listed-length n (λ a. p (suc a)))

part-listed : (n e : ℕ) (table : Table) → e + n ≤ length table → take n (drop e table) ≡ listed n (λ a. get_or table (e + a) 0)
unfolding listed
part-listed zero e table h = refl
part-listed (suc n) e table h = ap (take (suc n)) (drop-cons table e 0 (omega arith))
    ∙ ap₂ ◌∷◌ (ap (λ j. get_or table j 0) (sym (NatL.add-zero e)))
    (part-listed n (suc e) table (omega arith) ∙ listed_same n _ _ (λ a. let q : suc e + a ≡ e + suc a = omega arith in ap (λ j. get_or table j 0) q))

sets-join : (l vs ws : List ℕ) (i : ℕ) → sets (sets l i vs) (i + length vs) ws ≡ sets l i (vs ++ ws)
sets-join l [] ws i = ap (λ j. sets l j ws) (NatL.add-zero i)
sets-join l (v ∷ vs) ws i = let e : i + length (v ∷ vs) ≡ suc i + length vs = omega arith in ap (λ j. sets (sets (set l i v) (suc i) vs) j ws) e ∙ sets-join (set l i v) vs ws (suc i)

module _ (out : List ℕ) (e n x : ℕ) (w new : List ℕ) (q : new ≡ set w (e + n) x) where
  written_more : (vs : List ℕ) → length vs ≡ n → w ≡ sets out e vs → new ≡ sets out e (vs ++ (x ∷ []))
  written_more vs l p = q ∙ ap₂ (λ v j. set v (e + j) x) p (sym l) ∙ sets-join out vs (x ∷ []) e

  pub part_more : (part : List ℕ) → n < length part → x ≡ get_or part n 0 → w ≡ sets out e (take n part) → new ≡ sets out e (take (n + 1) part)
  part_more part l o p = written_more (take n part) (length-take-le n part (NatL.le_of_lt l)) p
      ∙ ap (sets out e) (ap (λ y. take n part ++ (y ∷ [])) o ∙ sym (take_more part n 0 l))

  pub listing_more : (f : ℕ → ℕ) → x ≡ f n → w ≡ sets out e (listed n f) → new ≡ sets out e (listed (n + 1) f)
  listing_more f o p = written_more (listed n f) (listed-length n f) p
      ∙ ap (sets out e) (ap (λ y. listed n f ++ (y ∷ [])) o ∙ listed_more n f ∙ (let s : suc n ≡ n + 1 = omega arith in ap (λ j. listed j f) s))

-- ---- one set
module _ (table : Table) (x e i D h b k : ℕ) (old : List ℕ) (out : List ℕ) (n : ℕ) (c : n ≡ actions_of x) where
  -- another seat's part
  pub laid_part : (z : ℕ) (written : List ℕ) → z ≡ e + n → z ≤ length table → (actor_of x ≡ i → ⊥) → written ≡ sets out e (take (z - e) (drop e table))
      → LaidSet table x e i D h b k old old out written
  unfolding replied
  laid_part z written f r o w S m t j y a g l v u = (m, w ∙ ap (sets out e) (part ∙ ap (λ p. listed p (λ s. get_or table (e + s) 0)) (c ∙ u) ∙ listed_same a _ _ at))
    where
      part : take (z - e) (drop e table) ≡ listed n (λ s. get_or table (e + s) 0)
      part = let q : z - e ≡ n = omega arith in ap (λ p. take p (drop e table)) q ∙ part-listed n e table (omega arith)

      at : (s : ℕ) → get_or table (e + s) 0 ≡ replied S j y s
      at s = ap (λ p. get_or table (p + s) 0) l ∙ sym (t.strategy j y s) ∙ ap (λ p. cond p (pure S.parts S.stage.choice y s) (S.strategy j y s)) (sym (ne_eqb j i (λ p. o (v ∙ p))))

  -- a table is long enough for every set
  pub laid-short : (z : ℕ) → z ≡ e + n → length table < z → LaidSet table x e i D h b k old old out out
  laid-short z f s S m t j y a g l v u = absurd (omega (arith, s, f, c, l, u, set-inside S.stage j y a g, t.long))

  -- the seat's own
  pub laid_own : (new : List ℕ) (choice : ℕ) (written : List ℕ) → actor_of x ≡ i → Chosen i 32 h b k e n old new choice
      → written ≡ sets out e (listed n (λ a. cond (eqb a choice) D 0)) → LaidSet table x e i D h b k old new out written
  unfolding replied pure
  laid_own new choice written o C w S m t j y a g l v u = (chosen.0, w ∙ ap (sets out e) (ap (λ p. listed p (λ s. cond (eqb s choice) D 0)) (c ∙ u) ∙ listed_same a _ _ at))
    where
      own : j ≡ i
      own = sym v ∙ o

      known : Known S.stage i y n
      known = subst (λ j. Known S.stage j y n) own (subst (Known S.stage j y) (sym (c ∙ u)) g)

      chosen : Memo S.stage new × (choice ≡ S.stage.choice y)
      chosen = C S m y known (l ∙ ap (λ j. first_entry S.stage.tree j y) own)
          (known_of S.stage (λ j y n. S.stage.levels j y ≤ 32) (levels_most S.stage.tree S.stage.levels 32 32 (NatL.le_refl 32) S.stage.level) i y n known)

      at : (s : ℕ) → cond (eqb s choice) D 0 ≡ replied S j y s
      at s = ap (λ u. cond (eqb s u) D 0) chosen.1 ∙ ap (λ u. cond (eqb s (S.stage.choice y)) u 0) (sym t.parts)
          ∙ ap (λ u. cond u (pure S.parts S.stage.choice y s) (S.strategy j y s)) (sym (eq-eqb j i own))

-- ---- the first member of a set
-- of nodes counted from a on, the first that is a decision of the set
first_number : (j : ℕ) (y : Key) (n a : ℕ) (ts : List Tree) → In (j, y, n) (decisions_of ts)
    → (b : ℕ) × (b < length ts) × (first_of (numbers j y a ts) ≡ a + b) × (f : Trees) × (get_or ts b none ≡ decide j y f) × In (j, y, fan f) (decisions_of ts)
unfolding decisions_of decision_of numbers decides first_of In
first_number j y n a [] m = absurd m
first_number j y n a (t ∷ ts) m = at t m (tested (decides j y t)) (λ o. first_number j y n (suc a) ts o)
  where
    Found : Tree → Type 0
    Found t = (b : ℕ) × (b < length (t ∷ ts)) × (first_of (numbers j y a (t ∷ ts)) ≡ a + b) × (f : Trees) × (get_or (t ∷ ts) b none ≡ decide j y f) × In (j, y, fan f) (decision_of t ++ decisions_of ts)

    later : (t : Tree) → decides j y t ≡ false
        → (b : ℕ) × (b < length ts) × (first_of (numbers j y (suc a) ts) ≡ suc a + b) × (f : Trees) × (get_or ts b none ≡ decide j y f) × In (j, y, fan f) (decisions_of ts) → Found t
    later t e (b, l, q, f, d, o) = (suc b, omega arith, rw e (q ∙ omega arith), f, d, in_right (j, y, fan f) (decision_of t) (decisions_of ts) o)

    at : (t : Tree) → In (j, y, n) (decision_of t ++ decisions_of ts) → Tested (decides j y t)
        → (In (j, y, n) (decisions_of ts) → (b : ℕ) × (b < length ts) × (first_of (numbers j y (suc a) ts) ≡ suc a + b) × (f : Trees) × (get_or ts b none ≡ decide j y f) × In (j, y, fan f) (decisions_of ts)) → Found t
    at (end p) m e g = later (end p) refl (g m)
    at (chance f) m e g = later (chance f) refl (g m)
    at (decide i l f) m (fails e) g = later (decide i l f) e (g (past m))
      where
        past : In (j, y, n) (decision_of (decide i l f) ++ decisions_of ts) → In (j, y, n) (decisions_of ts)
        past (inl q) = let p : i ≡ j = ap (λ x. x.0) q in let r : l ≡ y = ap (λ x. x.1) q in absurd (clash (decides j y (decide i l f)) (rw (p, r, eq-eqb j j refl) (same_self y)) e)
        past (inr o) = o
    at (decide i l f) m (holds e) g = both (tested (eqb i j))
      where
        both : Tested (eqb i j) → Found (decide i l f)
        both (fails q) = absurd (clash false (rw q at e) refl)
        both (holds q) = let p : i ≡ j = eqb_is i j q in let r : l ≡ y = same→eq l y (T_of (rw q at e)) in
            (0, omega arith, rw e (sym (NatL.add-zero a)), f, rw (p, r) refl, inl (rw (p, r) refl))

module _ {i h k : ℕ} (S : Stage i h k) where
  -- the word of a set's first member: the seat that acts, and how many actions it has
  head-says : (w : List ℕ) → Memo S w → (j : ℕ) (y : Key) (n : ℕ) → Known S j y n → (e : ℕ) → e ≡ first_entry S.tree j y → (x : ℕ) → x ≡ get_or w (get_or w (h + e) 0 % PLACES) 0 → (actor_of x ≡ j) × (actions_of x ≡ n)
  unfolding Says
  head-says w m j y n g e q x r = at (first_number j y n 0 (preorder S.tree) (subst (In (j, y, n)) (decisions_of_nodes S.tree) g))
    where
      at : (b : ℕ) × (b < length (preorder S.tree)) × (first_of (set_members S.tree j y) ≡ 0 + b) × (f : Trees) × (node S.tree b ≡ decide j y f) × In (j, y, fan f) (decisions_of (preorder S.tree))
          → (actor_of x ≡ j) × (actions_of x ≡ n)
      at (b, l, o, f, d, c) =
          let few : b < size S.tree = subst (λ z. b < z) (preorder-length S.tree) l in
          let place : get_or w (h + e) 0 ≡ b = ap (λ z. get_or w (h + z) 0) q ∙ m.words (h + first_entry S.tree j y) (omega (arith, S.before, inside S j y n g))
          ∙ known_of S (λ j y n. get_or S.words (h + first_entry S.tree j y) 0 ≡ first_of (set_members S.tree j y)) S.indexed.heads j y n g ∙ o ∙ NatL.zero-add b in
          let here : x ≡ get_or S.words b 0 = r ∙ ap (λ z. get_or w (z % PLACES) 0) place ∙ ap (λ z. get_or w z 0) (NatL.mod-eq_of_lt (omega (arith, few, S.room))) ∙ m.words b (omega (arith, few, S.nodes, S.before)) in
          let says : Says S.seats (first_entry S.tree) (later_in S.tree) x b (decide j y f) = subst (λ z. Says S.seats (first_entry S.tree) (later_in S.tree) z b (decide j y f)) (sym here)
          (subst (Says S.seats (first_entry S.tree) (later_in S.tree) (get_or S.words b 0) b) d (held-node S.seats (first_entry S.tree) (later_in S.tree) S.words S.tree S.indexed.held b few)) in
          (says.1, says.2 ∙ (same_fan S j y (fan f) n (subst (In (j, y, fan f)) (sym (decisions_of_nodes S.tree)) c) g).0)

-- ---- set after set
before_here : (done : List Decision) (x : Decision) (xs : List Decision) → Distinct (done ++ x ∷ xs) → before x.0 x.1 (done ++ x ∷ xs) ≡ done
unfolding Distinct before In
before_here [] x xs d = rw (is_of_self x) refl
before_here (z ∷ done) x xs d =
    let e : is_of x.0 x.1 z ≡ false = each_in (λ i l m. is_of i l (z.0, z.1, z.2) ≡ false) (done ++ x ∷ xs) (unmet z.0 z.1 (done ++ x ∷ xs) d.0 z.2) x (in_right x done (x ∷ xs) (inl refl)) in
    rw e (ap (λ l. z ∷ l) (before_here done x xs d.1))

laid_out_append : (s : Strategy) (xs ys : List Decision) → laid_out (xs ++ ys) s ≡ laid_out xs s ++ laid_out ys s
unfolding laid_out
laid_out_append s [] ys = refl
laid_out_append s (x ∷ xs) ys = ap (λ l. listed x.2 (s x.0 x.1) ++ l) (laid_out_append s xs ys) ∙ sym (append_assoc (listed x.2 (s x.0 x.1)) (laid_out xs s) (laid_out ys s))

module _ (table : Table) (count i D h b k : ℕ) (old out : List ℕ) where
  -- n sets are written, up to entry e
  abbrev pub Laying : (w written : List ℕ) (n e : ℕ) → Type 0
  Laying w written n e = (S : Scene i h b k) → Memo S.stage old → Tabled S table D → count ≡ set_count S.stage.tree
      → Memo S.stage w × (done : List Decision) × (rest : List Decision) × (Sets.sets S.stage.tree ≡ done ++ rest) × (n ≡ length done) × (e ≡ entries_of done) × (written ≡ sets out 0 (laid_out done (replied S)))

  pub laying_start : Laying old out 0 0
  unfolding laid_out entries_of sumℕ
  laying_start S m t c = (m, [], Sets.sets S.stage.tree, refl, refl, refl, refl)

  pub laying_more : (w new written more : List ℕ) (n e x : ℕ) → n < count → Laying w written n e → x ≡ get_or w (get_or w (h + e) 0 % PLACES) 0 → LaidSet table x e i D h b k w new written more → Laying new more (n + 1) (e + actions_of x)
  unfolding laid_out entries_of sumℕ In
  laying_more w new written more n e x l p q r S m t c = at (p S m t c)
    where
      at : Memo S.stage w × (done : List Decision) × (rest : List Decision) × (Sets.sets S.stage.tree ≡ done ++ rest) × (n ≡ length done) × (e ≡ entries_of done) × (written ≡ sets out 0 (laid_out done (replied S)))
          → Memo S.stage new × (done : List Decision) × (rest : List Decision) × (Sets.sets S.stage.tree ≡ done ++ rest) × (n + 1 ≡ length done) × (e + actions_of x ≡ entries_of done) × (more ≡ sets out 0 (laid_out done (replied S)))
      at (A, done, [], B, C, E, F) = absurd (omega (arith, l, c, ap length (B ∙ append-nil done), C))
      at (A, done, d ∷ rest, B, C, E, F) =
          let known : Known S.stage d.0 d.1 d.2 = sets_in S.stage.tree d (subst (In d) (sym B) (in_right d done (d ∷ rest) (inl refl))) in
          let entry : e ≡ first_entry S.stage.tree d.0 d.1 = E ∙ ap entries_of (sym (before_here done d rest (subst Distinct B (sets_distinct S.stage.tree)))) ∙ ap (λ l. entries_of (before d.0 d.1 l)) (sym B) in
          let says : (actor_of x ≡ d.0) × (actions_of x ≡ d.2) = head-says S.stage w A d.0 d.1 d.2 known e entry x q in
          let laid : Memo S.stage new × (more ≡ sets written e (listed d.2 (replied S d.0 d.1))) = r S A t d.0 d.1 d.2 known entry says.0 says.1 in (
            laid.0,
            done ++ (d ∷ []),
            rest,
            B ∙ sym (append_assoc done (d ∷ []) rest),
            ap (λ z. z + 1) C ∙ sym (length-append done (d ∷ [])),
            ap (λ z. e + z) says.1 ∙ ap (λ z. z + d.2) E ∙ ap (λ z. entries_of done + z) (sym (NatL.add-zero d.2)) ∙ sym (entries_of_append done (d ∷ [])),
            laid.1 ∙ ap (λ z. sets z e (listed d.2 (replied S d.0 d.1)))
                F ∙ ap (λ z. sets (sets out 0 (laid_out done (replied S))) z (listed d.2 (replied S d.0 d.1)))
                (E ∙ sym (laid_out-length (replied S) done) ∙ sym (NatL.zero-add (length (laid_out done (replied S)))))
                ∙ sets-join out (laid_out done (replied S)) (listed d.2 (replied S d.0 d.1)) 0 ∙ ap (λ z. sets out 0 (laid_out done (replied S) ++ z)) (sym (append-nil (listed d.2 (replied S d.0 d.1)))) ∙ ap (sets out 0) (sym (laid_out_append (replied S) done (d ∷ []))),
          )

  pub laying_end : (w written : List ℕ) (n e : ℕ) → count ≤ n → Laying w written n e → Laid table count i D h b k old w out written
  laying_end w written n e l p S m t c = at (p S m t c)
    where
      at : Memo S.stage w × (done : List Decision) × (rest : List Decision) × (Sets.sets S.stage.tree ≡ done ++ rest) × (n ≡ length done) × (e ≡ entries_of done) × (written ≡ sets out 0 (laid_out done (replied S)))
          → Memo S.stage w × (written ≡ sets out 0 (table_of S.stage.tree (replied S)))
      at (A, done, [], B, C, E, F) = (A, F ∙ ap (λ z. sets out 0 (laid_out z (replied S))) (sym (B ∙ append-nil done)))
      at (A, done, d ∷ rest, B, C, E, F) = absurd (omega (arith, l, c, C, ap length B ∙ length-append done (d ∷ rest)))
