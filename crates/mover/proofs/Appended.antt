-- More rows behind: the rows in front are judged as they were, the rows behind as they are by themselves, and words that are a tree over the rows in front
-- are the same tree.
use Prim.Native.Nat.{ℕ, suc, ◌+◌, ◌-◌, ◌*◌, ◌%◌, ◌≤◌, ◌<◌}
use native.Mathlib.Omega.{arith}
use native.Mathlib.Decide.{dec_lt}
use mathlib.Core.Path.{◌≡◌, refl, sym, ap, ◌∙◌}
use mathlib.Core.Bool.{Bool, true, false, cond, ◌&&◌, ◌||◌}
use mathlib.Core.List.{List, [], ◌++◌}
use borrow.Author.Tests.{ltb-true, leb-true, eqb-true, lt-ltb, le-ltb, le-leb, eq-eqb}
use lib.Dec.{ltb, leb, eqb}
use lib.IntN.{ℤ, pos, nat_abs}
use lib.ListN.{length, get_or, length-append, get_or-append}
use lib.Seq.{get_or-append-add}
use Rattle.lemmas.specs.Sums.{every}
use Rattle.lemmas.proofs.Sums.{and_left, and_right, and_both, every_all, all_every}
use Rattle.universe.specs.declared.Universe.{Universe}
use Rattle.universe.specs.Refusals.{bad_rows}
use Rattle.universe.specs.Universe.{most_axes, offset_limit, coefficient_limit}
use Rattle.universe.proofs.Refusing.{unless_holds}
use Rattle.csg.specs.Halfspace.{Halfspace, most_rows, row_length, row_count, row_at, within_limits, rows_refusal}
use Rattle.csg.specs.Surfaces.{Named}
use Rattle.csg.specs.Tree.{Tree, Leaf, Operator, leaf, node}
use Rattle.csg.specs.Ball.{most_balls}
use Rattle.csg.specs.Words.{most_words, is_among, names_one, is_leaf, first_halfspace, first_ball}
use Rattle.csg.specs.Words.{made, finish, run, parse, tree_refusal, tree_of}
use Rattle.csg.proofs.Words.{Reads, ended, pushed, joined, reads, on_leaf, on_operator, accepted_tree, accepted_length}

-- ---- what a check of rows that accepts says
pub record GoodRows (u : Universe) (rows : List ℤ) : Type 0 where
  pub whole : length rows % row_length ≡ 0
  pub few : row_count rows ≤ most_rows
  pub each : (i : ℕ) → i < row_count rows → within_limits u (row_at rows i) ≡ true

pub good_rows : (u : Universe) (rows : List ℤ) → rows_refusal u rows ≡ 0 → GoodRows u rows
unfolding rows_refusal
good_rows u rows e =
    let W = eqb (length rows % row_length) 0 in let F = leb (row_count rows) most_rows in
    let E = every (row_count rows) (λ i. within_limits u (row_at rows i)) in
    let t = unless_holds (W && F && E) bad_rows (omega arith) e in
    let f = and_left (W && F) E t in
    record {
      whole = eqb-true _ _ (and_left W F f);
      few = leb-true _ _ (and_right W F f);
      each = every_all (row_count rows) (λ i. within_limits u (row_at rows i)) (and_right (W && F) E t);
    }

pub rows_good : (u : Universe) (rows : List ℤ) → GoodRows u rows → rows_refusal u rows ≡ 0
unfolding rows_refusal
rows_good u rows g =
    rw (
      eq-eqb (length rows % row_length) 0 g.whole,
      le-leb (row_count rows) most_rows g.few,
      all_every (row_count rows) (λ i. within_limits u (row_at rows i)) g.each,
    )

-- two halfspaces with the same numbers along every axis that there may be
pub record SameNumbers (h k : Halfspace) : Type 0 where
  pub offset : h.offset ≡ k.offset
  pub coefficient : (i : ℕ) → i < most_axes → h.coefficient i ≡ k.coefficient i

same_within : (u : Universe) {h k : Halfspace} → SameNumbers h k → within_limits u h ≡ true → within_limits u k ≡ true
unfolding within_limits
same_within u {h} {k} s t =
    let limit : ℕ → ℕ = λ i. cond (ltb i u.axes) coefficient_limit 0 in
    let O = leb (nat_abs h.offset) offset_limit in
    let E = every most_axes (λ i. leb (nat_abs (h.coefficient i)) (limit i)) in
    and_both
    (rw s.offset at (and_left O E t))
    (all_every most_axes (λ i. leb (nat_abs (k.coefficient i)) (limit i))
    (λ i l. rw (s.coefficient i l) at (every_all most_axes (λ j. leb (nat_abs (h.coefficient j)) (limit j)) (and_right O E t) i l)))

module _ (rows more : List ℤ) (whole : length rows % row_length ≡ 0) where
  pub count_more : row_count (rows ++ more) ≡ row_count rows + row_count more
  count_more = omega (arith, length-append rows more)

  rows_long : length rows ≡ row_length * row_count rows
  rows_long = omega arith

  pub in_front_lem : (i : ℕ) → i < row_count rows → SameNumbers (row_at rows i) (row_at (rows ++ more) i)
  in_front_lem i h =
      record {
        offset = sym (get_or-append rows more (pos 0) (row_length * i) (omega arith));
        coefficient = λ j l. sym (get_or-append rows more (pos 0) (row_length * i + suc j) (omega arith));
      }

  behind_at : (i j k : ℕ) → i ≡ length rows + j → j ≡ k → get_or more k (pos 0) ≡ get_or (rows ++ more) i (pos 0)
  behind_at i j k e f = sym (ap (λ (n : ℕ). get_or (rows ++ more) n (pos 0)) e ∙ get_or-append-add rows more j (pos 0) ∙ ap (λ (n : ℕ). get_or more n (pos 0)) f)

  pub behind : (i : ℕ) → SameNumbers (row_at more i) (row_at (rows ++ more) (row_count rows + i))
  behind i =
      record {
        offset = behind_at (row_length * (row_count rows + i)) (row_length * i) (row_length * i) (omega arith) refl;
        coefficient = λ j l. behind_at (row_length * (row_count rows + i) + suc j) (row_length * i + suc j) (row_length * i + suc j) (omega arith) refl;
      }

-- THEOREM: rows that are good, with good rows behind them, are good where they are few enough
pub good_more : (u : Universe) (rows more : List ℤ) → GoodRows u rows → GoodRows u more → row_count rows + row_count more ≤ most_rows → GoodRows u (rows ++ more)
good_more u rows more g k few =
    record {
      whole = omega (arith, length-append rows more, g.whole, k.whole);
      few = omega (arith, count_more rows more g.whole);
      each = λ i l. go i l (dec_lt i (row_count rows));
    }
  where
    go : (i : ℕ) → i < row_count (rows ++ more) → Dec (i < row_count rows) → within_limits u (row_at (rows ++ more) i) ≡ true
    go i l (yes h) = same_within u (in_front_lem rows more g.whole i h) (g.each i h)
    go i l (no h) =
        let j : row_count rows + (i - row_count rows) ≡ i = omega arith in
        rw j at
        (same_within u (behind rows more g.whole (i - row_count rows)) (k.each (i - row_count rows) (omega (arith, count_more rows more g.whole))))

-- ---- words over more names
or_more : (a b c d : Bool) → (a ≡ true → c ≡ true) → (b ≡ true → d ≡ true) → a || b ≡ true → c || d ≡ true
or_more true b c d f g t = rw (f refl)
or_more false b true d f g t = refl
or_more false b false d f g t = g t

one_more : (first most : ℕ) {a b : ℕ} (w : ℕ) → a ≤ b → names_one first most a w ≡ true → names_one first most b w ≡ true
one_more first most {a} {b} w h t =
    and_both (and_left (is_among first most w) (ltb (w - first) a) t)
    (lt-ltb (w - first) b (omega (arith, ltb-true (w - first) a (and_right (is_among first most w) (ltb (w - first) a) t))))

module _ {few many : Named} (h : few.halfspaces ≤ many.halfspaces) (k : few.balls ≤ many.balls) where
  leaf_more : (w : ℕ) → is_leaf few w ≡ true → is_leaf many w ≡ true
  leaf_more w =
      let H : ℕ → Bool = λ there. names_one first_halfspace most_rows there w in
      let B : ℕ → Bool = λ there. names_one first_ball most_balls there w in
      or_more (leb w 1) (H few.halfspaces || B few.balls) (leb w 1) (H many.halfspaces || B many.balls) (λ t. t)
      (or_more (H few.halfspaces) (B few.balls) (H many.halfspaces) (B many.balls)
      (one_more first_halfspace most_rows w h) (one_more first_ball most_balls w k))

  reads_more : {A : Type 0} {of_leaf : Leaf → A} {of_node : Operator → A → A → A} {ws : List ℕ} {pending : List A} {a : A} →
      Reads of_leaf of_node few ws pending a → Reads of_leaf of_node many ws pending a
  reads_more ended = ended
  reads_more (pushed {w} o l g r) = pushed o (leaf_more w l) g (reads_more r)
  reads_more (joined o r) = joined o (reads_more r)

-- what is read word by word is what the words come to
pub run_reads : {A : Type 0} {of_leaf : Leaf → A} {of_node : Operator → A → A → A} {names : Named} {ws : List ℕ} {pending : List A} {a : A} →
    Reads of_leaf of_node names ws pending a → run of_leaf of_node names ws pending ≡ made a
unfolding run finish
run_reads ended = refl
run_reads {A} {of_leaf} {of_node} {names} (pushed {w} {ws} {pending} o l g r) = on_leaf of_leaf of_node names w ws pending o l g ∙ run_reads r
run_reads {A} {of_leaf} {of_node} {names} (joined {w} {ws} {pending} {a} {b} o r) = on_operator of_leaf of_node names w ws a b pending o ∙ run_reads r

pub record IsTree (names : Named) (ws : List ℕ) (t : Tree) : Type 0 where
  pub accepted : tree_refusal names ws ≡ 0
  pub tree : tree_of names ws ≡ t

pub read_tree : {names : Named} {ws : List ℕ} {t : Tree} → length ws ≤ most_words → Reads leaf node names ws [] t → IsTree names ws t
unfolding tree_refusal tree_of parse
read_tree {names} {ws} h r =
    record { accepted = rw (le-ltb most_words (length ws) h, run_reads r); tree = rw (le-ltb most_words (length ws) h, run_reads r) }

-- THEOREM: words that are a tree are the same tree where there is more to name
pub tree_more : (few many : Named) (ws : List ℕ) → few.halfspaces ≤ many.halfspaces → few.balls ≤ many.balls → tree_refusal few ws ≡ 0 →
    IsTree many ws (tree_of few ws)
tree_more few many ws h k e =
    read_tree (accepted_length few ws e) (reads_more h k (reads ws [] (tree_of few ws) (accepted_tree few ws e)))
