-- The tree and the rows of a stretch: the Box's words are its tree, the static words are the tree that they are by themselves, and no check of the conversion
-- refuses them; so what the conversion writes is the stretch's raw expression.
use Prim.Native.Nat.{ℕ, ◌+◌, ◌-◌, ◌*◌, ◌≤◌, ◌<◌}
use native.Mathlib.Omega.{arith}
use mathlib.Core.Path.{◌≡◌, refl, ap, ap₂}
use mathlib.Core.Bool.{true, false}
use mathlib.Core.List.{List, [], ◌∷◌, ◌++◌}
use borrow.Author.Tests.{lt-ltb, le-leb, lt-leb, ne_eqb}
use lib.ListN.{length}
use Rattle.universe.specs.declared.Universe.{Universe}
use Rattle.universe.specs.Room.{room}
use Rattle.bintree.specs.Shape.{symbols}
use Rattle.bintree.specs.Verdicts.{verdict}
use Rattle.csg.specs.Halfspace.{most_rows, row_length, row_count, rows_refusal}
use Rattle.csg.specs.Surfaces.{Surfaces, Named, named}
use Rattle.csg.specs.Tree.{Tree, leaf, node, count_leaves, leaves, ball_leaves}
use Rattle.csg.specs.Words.{most_pending, first_halfspace, first_ball, is_operator, is_leaf, leaf_of}
use Rattle.csg.specs.Words.{halfspace_words, ball_words}
use Rattle.csg.specs.Raw.{raw, both}
use Rattle.csg.proofs.Words.{Reads, ended, pushed, joined, tree_leaves, tree_balls}
use Rattle.demands.proofs.Theorems.{demand_3}
use Rattle.convert.specs.Blocks.{trees_of}
use Rattle.convert.specs.Answers.{two_trees_checks, two_trees_refusal, raw_of_two}
use Rattle.standin.specs.Rows.{rows_between}
use Rattle.standin.specs.Points.{flat}
use Rattle.standin.proofs.Theorems.{rows_given_in_limits}
use Rattle.mover.specs.Keys.{Mover}
use Rattle.mover.specs.Stretches.{near_at0, far_at0, step_along, stretch_rows, with_box}
use Rattle.mover.specs.Frames.{box_leaf, box_tree, box_words, static_tree, clearance_tree, stretch_raw}
use Rattle.mover.specs.Answers.{box_rows, most_static}
use Rattle.mover.specs.Ready.{Ready}
use Rattle.mover.proofs.Appended.{GoodRows, good_rows, rows_good, good_more, count_more, IsTree, read_tree, tree_more}
use Rattle.mover.proofs.Stretches.{all_rows}
use Rattle.mover.proofs.Scenes.{numbers_count}
use Rattle.mover.proofs.Accepted.{ready_universe, ready_axes, ready_box, ready_rows, ready_few}

-- ---- the Box's words
module _ (names : Named) where
  -- a word that pushes halfspace i
  push_box : (w i : ℕ) → w ≡ first_halfspace + i → i < names.halfspaces → i < most_rows → {ws : List ℕ} {pending : List Tree} {t : Tree} →
      length pending < most_pending → Reads leaf node names ws (box_leaf i ∷ pending) t → Reads leaf node names (w ∷ ws) pending t
  push_box w i e h k {ws} {pending} {t} few r =
      let onward : Reads leaf node names ws (leaf (leaf_of w) ∷ pending) t = rw pushes r in
      pushed operator named few onward
    where
      operator : is_operator w ≡ false
      operator = rw (le-leb 2 w (omega arith), lt-leb w 4 (omega arith))

      named : is_leaf names w ≡ true
      named =
          rw (
            lt-leb w 1 (omega arith),
            le-leb first_halfspace w (omega arith),
            lt-ltb w (first_halfspace + most_rows) (omega arith),
            lt-ltb (w - first_halfspace) names.halfspaces (omega arith),
          )

      pushes : leaf (leaf_of w) ≡ box_leaf i
      pushes =
          let d : w - first_halfspace ≡ i = omega arith in
          rw (ne_eqb w 0 (λ z. omega arith), ne_eqb w 1 (λ z. omega arith), lt-ltb w first_ball (omega arith), d)

  join_box : {ws : List ℕ} {pending : List Tree} {a b t : Tree} → Reads leaf node names ws (both a b ∷ pending) t →
      Reads leaf node names (3 ∷ ws) (b ∷ a ∷ pending) t
  join_box r = joined refl r

  pub box_tree_lem : (n : ℕ) → n + box_rows ≤ names.halfspaces → n ≤ most_static → IsTree names (box_words n) (box_tree n)
  unfolding box_words box_tree
  box_tree_lem n h k = read_tree (omega arith) reading
    where
      word : (i : ℕ) → i < box_rows → {w : ℕ} → w ≡ first_halfspace + (n + i) → {ws : List ℕ} {pending : List Tree} {t : Tree} →
          length pending < most_pending → Reads leaf node names ws (box_leaf (n + i) ∷ pending) t → Reads leaf node names (w ∷ ws) pending t
      word i l {w} e few r = push_box w (n + i) e (omega arith) (omega arith) few r

      reading : Reads leaf node names (box_words n) [] (box_tree n)
      reading =
          push_box (first_halfspace + n) n refl (omega arith) (omega arith) (omega arith)
          (word 1 (omega arith) (omega arith) (omega arith)
          (join_box
          (word 2 (omega arith) (omega arith) (omega arith)
          (join_box
          (word 3 (omega arith) (omega arith) (omega arith)
          (join_box
          (word 4 (omega arith) (omega arith) (omega arith)
          (join_box
          (word 5 (omega arith) (omega arith) (omega arith)
          (join_box
          ended))))))))))

-- ---- what the conversion of a stretch is asked
module _ {u : Universe} {m : Mover} {surfaces : Surfaces} {words : List ℕ} (r : Ready u m surfaces words) (i : ℕ) (l : i + 1 < length m.moments) where
  abbrev box_names : Named
  box_names = named (with_box surfaces m i)

  static_good : GoodRows u surfaces.rows
  static_good = good_rows u surfaces.rows (ready_rows r)

  box_good : GoodRows u (stretch_rows m i)
  unfolding stretch_rows
  box_good =
      good_rows u (flat (rows_between (near_at0 m i) (far_at0 m i) (step_along m i)))
      (rw (all_rows (ready_box r i l)) at (rows_given_in_limits (near_at0 m i) (far_at0 m i) (step_along m i) u (ready_axes r)))

  box_count : row_count (stretch_rows m i) ≡ box_rows
  unfolding stretch_rows
  box_count = refl

  pub rows_count : row_count (surfaces.rows ++ stretch_rows m i) ≡ row_count surfaces.rows + box_rows
  rows_count = omega (arith, count_more surfaces.rows (stretch_rows m i) static_good.whole, box_count)

  pub rows_length : length (surfaces.rows ++ stretch_rows m i) ≡ length surfaces.rows + box_rows * row_length
  rows_length = numbers_count m i surfaces.rows

  pub static_few : length surfaces.rows + box_rows * row_length ≤ most_rows * row_length
  static_few = omega (arith, ready_few r, static_good.whole)

  static_is : IsTree box_names words (static_tree surfaces words)
  static_is = tree_more (named surfaces) box_names words (omega (arith, rows_count)) (omega arith) r.accepted_tree

  box_is : IsTree box_names (box_words (row_count surfaces.rows)) (box_tree (row_count surfaces.rows))
  box_is = box_tree_lem box_names (row_count surfaces.rows) (omega (arith, rows_count)) (ready_few r)

  pub trees_accepted : two_trees_refusal u (with_box surfaces m i) words (box_words (row_count surfaces.rows)) ≡ 0
  unfolding two_trees_checks
  trees_accepted =
      let rows : rows_refusal u (surfaces.rows ++ stretch_rows m i) ≡ 0 =
      rows_good u (surfaces.rows ++ stretch_rows m i)
      (good_more u surfaces.rows (stretch_rows m i) static_good box_good (omega (arith, box_count, ready_few r))) in
      rw (ready_universe r, rows, r.accepted_balls, static_is.accepted, box_is.accepted)

  trees_are : trees_of (with_box surfaces m i) words (box_words (row_count surfaces.rows)) ≡ clearance_tree surfaces words
  trees_are = ap₂ both static_is.tree box_is.tree

  pub raw_is : raw_of_two u (with_box surfaces m i) words (box_words (row_count surfaces.rows)) ≡ stretch_raw u m surfaces words i
  unfolding raw_of_two stretch_raw
  raw_is = ap (λ (t : Tree). symbols (raw u (with_box surfaces m i) t)) trees_are

  pub verdict_is_lem : (from to : ℕ) →
      verdict u (raw u (with_box surfaces m i) (trees_of (with_box surfaces m i) words (box_words (row_count surfaces.rows)))) from to
      ≡ verdict u (raw u (with_box surfaces m i) (clearance_tree surfaces words)) from to
  verdict_is_lem from to = ap (λ (t : Tree). verdict u (raw u (with_box surfaces m i) t) from to) trees_are

  -- THEOREM: as much room as the formula says for the static words and six more suffices
  pub stretch_fits : length (stretch_raw u m surfaces words i) ≤ room u (halfspace_words words + box_rows) (ball_words words)
  unfolding stretch_raw box_tree count_leaves
  stretch_fits =
      let t = clearance_tree surfaces words in
      let static = static_tree surfaces words in
      let e : leaves t ≡ halfspace_words words + box_rows = omega (arith, tree_leaves (named surfaces) words r.accepted_tree) in
      let f : ball_leaves t ≡ ball_words words = omega (arith, tree_balls (named surfaces) words r.accepted_tree) in
      rw (e, f) at (demand_3 u (ready_universe r) (with_box surfaces m i) t).raw_fits
