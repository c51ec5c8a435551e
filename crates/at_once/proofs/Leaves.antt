-- A leaf judged over the block by its code. The block is a half of itself that moves no value, so that the laws of a step from a block to a half tell which
-- leaf the code is of, and that the code by a halfspace's values or by a ball's distances is that of the side's mark.
use Prim.Native.Nat.{ℕ, ◌-◌, ◌/◌, ◌%◌, ◌≤◌, ◌<◌}
use mathlib.Core.Path.{◌≡◌, refl, sym, ap, ap₂, ◌∙◌}
use mathlib.Core.Bool.{Bool, true, false, cond, false≢true, ◌&&◌}
use mathlib.Core.List.{List}
use native.Mathlib.Omega.{arith}
use borrow.Author.Tests.{leb-true, ltb-true, ltb-false, le-leb, le-ltb}
use lib.Dec.{eqb, leb, ltb}
use lib.IntN.{ℤ, pos, nat_abs}
use lib.Signed.{le_z}
use lib.ListN.{length, get_or}
use Rattle.lemmas.specs.Sums.{every}
use Rattle.lemmas.proofs.Sums.{and_left, and_right, every_all}
use Rattle.lemmas.proofs.Whole.{is_self, is_nat, is_eq}
use Rattle.lemmas.proofs.Machine.{nat_abs_parts}
use Rattle.universe.specs.declared.Universe.{Universe}
use Rattle.universe.specs.declared.Block.{Block}
use Rattle.universe.specs.Refusals.{bad_rows}
use Rattle.universe.specs.Universe.{least_axes, most_axes, offset_limit, coefficient_limit, levels}
use Rattle.universe.proofs.Refusing.{unless_holds}
use Rattle.csg.specs.Halfspace.{most_rows, row_length, row_at, row_count, rows_refusal, within_limits, least, greatest}
use Rattle.csg.specs.Ball.{ball_at}
use Rattle.csg.specs.Surfaces.{Surfaces, halfspace}
use Rattle.csg.specs.Tree.{Plain}
use Rattle.convert.specs.Codes.{tested_code, ball_code_over}
use Rattle.convert.specs.Small.{SmallPlaces, BallReady}
use Rattle.pruned.specs.Left.{left_by}
use Rattle.pruned.specs.Nodes.{of_side, node_code, first_ball_side, least_of, greatest_of, SmallExtreme, Stepping, left_bits, value_code, turned_code}
use Rattle.pruned.proofs.Moving.{held, block_code}
use Rattle.pruned.proofs.Steps.{ok, rows_few, rows_small, standing_small, stepping, step_same}
use Rattle.pruned.proofs.Leaves.{row_leaf, white_told, black_told, row_told, ball_asks, ball_told}
use Rattle.at_once.specs.Codes.{block_at}
use Rattle.at_once.specs.Values.{is_row_side, RowOver, RowFound}
use Rattle.at_once.specs.Moves.{times_of, row_of, PowerPlace, RowStands, ValueOf}
use Rattle.at_once.specs.Pruning.{marks_over, LeafJob, LeafJudged}
use Rattle.at_once.proofs.Powers.{side_power}

-- ---- a row that is not refused has coefficient 0 along an axis that the universe lacks
whole_zero : (z : ℤ) → nat_abs z ≤ 0 → z ≡ pos 0
whole_zero z l = is_eq (is_self z) (is_nat 0) (omega (arith, nat_abs_parts z))

module _ (u : Universe) (rows : List ℤ) (e : rows_refusal u rows ≡ 0) (i : ℕ) (l : i < row_count rows) where
  row_within : within_limits u (row_at rows i) ≡ true
  unfolding rows_refusal
  row_within =
      let a : Bool = eqb (length rows % row_length) 0 in
      let b : Bool = leb (row_count rows) most_rows in
      let c : ℕ → Bool = λ j. within_limits u (row_at rows j) in
      every_all (row_count rows) c (and_right (a && b) (every (row_count rows) c) (unless_holds (a && b && every (row_count rows) c) bad_rows (omega arith) e)) i l

  pub beyond_axes : (j : ℕ) → u.axes ≤ j → j < most_axes → (row_at rows i).coefficient j ≡ pos 0
  unfolding within_limits
  beyond_axes j p q =
      let offset : Bool = leb (nat_abs (row_at rows i).offset) offset_limit in
      let within : ℕ → Bool = λ k. leb (nat_abs ((row_at rows i).coefficient k)) (cond (ltb k u.axes) coefficient_limit 0) in
      let w = every_all most_axes within (and_right offset (every most_axes within) row_within) j q in
      whole_zero ((row_at rows i).coefficient j) (leb-true _ _ (rw (le-ltb j u.axes p) at w))

-- ---- which leaf it is, by the tests of its code
module _ (code : ℕ) where
  pub from_row : is_row_side code ≡ true → 512 ≤ code
  from_row e = leb-true 512 code (and_left (leb 512 code) (ltb code first_ball_side) e)

  pub upto_ball : is_row_side code ≡ true → code < first_ball_side
  upto_ball e = ltb-true code first_ball_side (and_right (leb 512 code) (ltb code first_ball_side) e)

  pub from_ball : is_row_side code ≡ false → 512 ≤ code → first_ball_side ≤ code
  from_ball e l = ltb-false code first_ball_side (sym (ap (λ (t : Bool). t && ltb code first_ball_side) (le-leb 512 code l)) ∙ e)

-- ---- a leaf
module _ {surfaces : Surfaces} {axes : ℕ} {low side : List ℕ} {code : ℕ} (job : LeafJob surfaces axes low side code) where
  abbrev b : Block
  b = block_at job.at

  abbrev step : Stepping surfaces axes low side 0 0 false false
  step = step_same job.at.scene job.at.axes_are job.at.standing (λ e. absurd (false≢true e))

  few : row_count surfaces.rows ≤ most_rows
  few = rows_few job.at.universe surfaces.rows job.at.scene.accepted_rows

  pub white_judged : code ≡ 0 → LeafJudged job 2
  unfolding step_same stepping
  white_judged e = record { judged = (white_told step job.tree job.leaf job.stands job.code_is refl refl e).0 }

  pub black_judged : code < 512 → (code ≡ 0 → ⊥) → LeafJudged job 1
  unfolding step_same stepping
  black_judged h z = record { judged = (black_told step job.tree job.leaf job.stands job.code_is refl refl h z).0 }

  -- a halfspace, whose row a call told
  module _ (here : is_row_side code ≡ true) {row : ℕ} (row_is : row ≡ row_of code) where
    from : 512 ≤ code
    from = from_row code here

    upto : code < first_ball_side
    upto = upto_ball code here

    found : (turned : Bool) × (i : ℕ) × (i < row_count surfaces.rows) × (job.tree ≡ Plain.side turned (halfspace i))
        × (job.leaf ≡ of_side turned (halfspace i)) × ((node_code job.leaf - 512) / 2 ≡ i) × (eqb (node_code job.leaf % 2) 1 ≡ turned)
    found = row_leaf few job.stands (rw job.code_is at from) (rw job.code_is at upto)

    index_is : row ≡ found.1
    index_is =
        let e : code / 2 - 256 ≡ (code - 512) / 2 = omega (arith, from) in
        row_is ∙ e ∙ ap (λ (k : ℕ). (k - 512) / 2) job.code_is ∙ found.5

    there : row < row_count surfaces.rows
    there = rw index_is found.2

    row_over : RowOver surfaces.rows row low side
    row_over =
        record {
          block = b;
          named = there;
          small = rows_small job.at.scene row there;
          few_axes = (ok job.at.scene).few_axes;
          beyond = beyond_axes job.at.universe surfaces.rows job.at.scene.accepted_rows row there;
          begins = λ j m. refl;
          along = job.at.standing.along;
          places = job.at.standing.inside;
        }

    powers : (j : ℕ) → j < job.at.universe.axes → PowerPlace (get_or side j 0)
    powers j l =
        side_power job.at.universe (levels job.at.universe - job.left) j (job.at.standing.along j l)
        (omega (arith, (job.at.standing.inside j).most))

    own : turned_code (eqb (code % 2) 1) (value_code false (least_of surfaces b job.leaf) (greatest_of surfaces b job.leaf))
        ≡ left_bits (left_by (marks_over surfaces b) job.tree)
    unfolding step_same stepping
    own =
        let t = row_told step job.tree job.leaf job.stands job.code_is refl refl from upto refl refl refl refl refl in
        sym (ap₂ (λ (p q : ℤ). turned_code (eqb (code % 2) 1) (value_code false p q)) t.1 t.2) ∙ t.0

    module _ {values : List ℤ} (value : ValueOf surfaces.rows low values code) {times : List ℕ} (times_are : times ≡ times_of side) where
      pub row_stands : RowStands surfaces.rows row values times
      unfolding row_over
      row_stands =
          record { low = low; side = side; over = row_over; powers = powers; times_are = times_are; value = rw row_is (value.row here) }

      -- what a call found
      module _ {x y : ℤ} (tells : (stands : RowStands surfaces.rows row values times) → RowFound stands.over x y) where
        v : RowFound row_over x y
        unfolding row_over row_stands
        v = tells row_stands

        small : SmallExtreme x × SmallExtreme y
        unfolding row_over
        small =
            rw (v.least_is, v.greatest_is)
            (standing_small (ok job.at.scene).few_axes job.at.standing (row_at surfaces.rows row) (rows_small job.at.scene row there))

        ends_are : (x ≡ least_of surfaces b job.leaf) × (y ≡ greatest_of surfaces b job.leaf)
        unfolding row_over
        ends_are = (
          v.least_is ∙ ap (λ (k : ℕ). least (row_at surfaces.rows k) b) index_is ∙ ap (least_of surfaces b) (sym found.4),
          v.greatest_is ∙ ap (λ (k : ℕ). greatest (row_at surfaces.rows k) b) index_is ∙ ap (greatest_of surfaces b) (sym found.4),
        )

        pub row_judged : {judged : ℕ} → judged ≡ turned_code (eqb (code % 2) 1) (tested_code (le_z (pos 0) (held x)) (le_z (held y) (pos 0))) →
            LeafJudged job judged
        row_judged r =
            let k = block_code small.0 small.1 refl refl refl ∙ ap₂ (value_code false) ends_are.0 ends_are.1 in
            record { judged = r ∙ ap (turned_code (eqb (code % 2) 1)) k ∙ own }

  -- a ball
  module _ (from : first_ball_side ≤ code) where
    pub ball_ready : BallReady (axes - 1) surfaces.balls ((code - first_ball_side) / 2) low × SmallPlaces side
    ball_ready = (ball_asks step job.tree job.leaf job.stands job.code_is refl refl from).1

    pub ball_judged : {bits judged : ℕ} {turned : Bool} → bits ≡ ball_code_over (axes - 1) (ball_at surfaces.balls ((code - first_ball_side) / 2)) low side →
        turned ≡ eqb (code % 2) 1 → judged ≡ turned_code turned bits → LeafJudged job judged
    unfolding step_same stepping
    ball_judged p q r = record { judged = (ball_told step job.tree job.leaf job.stands job.code_is refl refl from p q r).0 }

  pub places_there : least_axes ≤ axes
  places_there = rw job.at.axes_are (ok job.at.scene).some_axes
