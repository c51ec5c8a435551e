-- A leaf's node judged over a half: its code tells which leaf it is, the two moved values are those over the half, and the code that they or a ball's distances
-- give is that of the side's mark there, at level L that of its colour at the centre.
use Prim.Native.Nat.{ℕ, suc, ◌+◌, ◌*◌, ◌-◌, ◌/◌, ◌%◌, ◌≤◌, ◌<◌}
use mathlib.Core.Path.{◌≡◌, refl, sym, ap, ap₂, ◌∙◌}
use mathlib.Core.Bool.{Bool, true, false, cond}
use mathlib.Core.List.{List}
use native.Mathlib.Omega.{arith}
use lib.Dec.{eqb, leb}
use lib.IntN.{ℤ, pos, ◌+ℤ◌}
use lib.Signed.{le_z}
use lib.ListN.{length, get_or}
use Rattle.universe.specs.declared.Block.{Block}
use Rattle.universe.specs.Universe.{least_axes, levels, block_side}
use Rattle.universe.proofs.Universes.{side_last}
use Rattle.bintree.specs.declared.Colour.{Colour}
use Rattle.bintree.specs.declared.Colour.TheVariants.{White, Black}
use Rattle.csg.specs.Halfspace.{Halfspace, Mark, decided, undecided, most_rows, row_at, row_count, least, greatest, mark_over, centre_value, colour_at_centre}
use Rattle.csg.specs.Ball.{Ball, radius_squared, ball_at, ball_count}
use Rattle.csg.specs.Surfaces.{Surfaces, Surface, halfspace, ball, Named, named, halfspace_named, ball_named}
use Rattle.csg.specs.Tree.{Plain, colour}
use Rattle.csg.specs.Marks.{opposite_colour, opposite_mark, surface_mark, surface_colour, side_mark, side_colour}
use Rattle.csg.proofs.Halfspace.{voxel_sum}
use Rattle.convert.specs.Codes.{white_bit, bits_of, tested_code, off_over, ball_code_at}
use Rattle.convert.specs.Small.{SmallCoefficient, SmallPlace, SmallPlaces, BallReady}
use Rattle.convert.proofs.Blocks.{low_small, side_small}
use Rattle.convert.proofs.BallMarks.{ball_over, ball_at_lem}
use Rattle.pruned.specs.Left.{side_left, left_by}
use Rattle.pruned.specs.Nodes.{joining, Node, of_colour, of_side, bit_of, node_code, first_ball_side, least_of, greatest_of, moved_least, moved_greatest}
use Rattle.pruned.specs.Nodes.{SmallExtreme}
use Rattle.pruned.specs.Nodes.{Stepping, judged_marks, block_of, marks_of, left_bits, value_code, ball_code, turned_code, LeafOf, colour_leaf, side_leaf}
use Rattle.pruned.specs.Nodes.{LeafJob, LeafJudged}
use Rattle.pruned.specs.Pair.{is_black}
use Rattle.lemmas.proofs.Machine.{near}
use Rattle.pruned.proofs.Moving.{held, extreme_near}

-- ---- codes of sides: that of a reversed one is the opposite
pub side_bits : (turned : Bool) (s : Surface) (m : Mark) → left_bits (side_left turned s m) ≡ bits_of m
side_bits turned s (decided c) = refl
side_bits turned s undecided = refl

opposite_bits : (m : Mark) → bits_of m % white_bit * white_bit + bits_of m / white_bit ≡ bits_of (opposite_mark m)
opposite_bits (decided Black) = refl
opposite_bits (decided White) = refl
opposite_bits undecided = refl

turned_bits : (turned : Bool) (m : Mark) → turned_code turned (bits_of m) ≡ bits_of (cond turned (opposite_mark m) m)
turned_bits true m = opposite_bits m
turned_bits false m = refl

colours : (turned : Bool) (c : Colour) → cond turned (opposite_mark (decided c)) (decided c) ≡ decided (cond turned (opposite_colour c) c)
colours true c = refl
colours false c = refl

-- whether it is BLACK at a centre, where one test decides
abbrev pub turned_black : Bool → Bool → Bool
turned_black true p = cond p false true
turned_black false p = p

black_turned : (turned p : Bool) → is_black (turned_code turned (tested_code p true)) ≡ turned_black turned p
black_turned true true = refl
black_turned true false = refl
black_turned false true = refl
black_turned false false = refl

black_tested : (p : Bool) → is_black (tested_code p true) ≡ p
black_tested true = refl
black_tested false = refl

-- the mark, or the colour as a mark, of the surface itself
abbrev pub own_mark : Bool → Surfaces → Block → Surface → Mark
own_mark false surfaces b s = surface_mark surfaces s b
own_mark true surfaces b s = decided (surface_colour surfaces b.universe s b.low)

pub own_turned : (centre : Bool) (surfaces : Surfaces) (b : Block) (turned : Bool) (s : Surface) →
    turned_code turned (bits_of (own_mark centre surfaces b s)) ≡ bits_of (judged_marks centre surfaces b turned s)
unfolding side_mark side_colour
own_turned false surfaces b turned s = turned_bits turned (surface_mark surfaces s b)
own_turned true surfaces b turned s =
    turned_bits turned (decided (surface_colour surfaces b.universe s b.low))
    ∙ ap bits_of (colours turned (surface_colour surfaces b.universe s b.low))

-- ---- which leaf a code is of
odd : (turned : Bool) (w : ℕ) → eqb ((2 * w + bit_of turned) % 2) 1 ≡ turned
odd true w = let e : (2 * w + 1) % 2 ≡ 1 = omega arith in rw e
odd false w = let e : (2 * w + 0) % 2 ≡ 0 = omega arith in rw e

bit_few : (turned : Bool) → bit_of turned ≤ 1
bit_few true = omega arith
bit_few false = omega arith

module _ {names : Named} (few : names.halfspaces ≤ most_rows) where
  pub white_leaf : {t : Plain} {n : Node} → LeafOf names t n → node_code n ≡ 0 → (t ≡ colour White) × (n ≡ of_colour White)
  white_leaf (colour_leaf {c = White}) e = (refl, refl)
  white_leaf (colour_leaf {c = Black}) e = absurd (omega arith)
  white_leaf (side_leaf {turned = turned} {s = halfspace i} h) e = absurd (omega arith)
  white_leaf (side_leaf {turned = turned} {s = ball i} h) e = absurd (omega arith)

  pub black_leaf : {t : Plain} {n : Node} → LeafOf names t n → node_code n < 512 → (node_code n ≡ 0 → ⊥) → (t ≡ colour Black) × (n ≡ of_colour Black)
  black_leaf (colour_leaf {c = White}) e z = absurd (z refl)
  black_leaf (colour_leaf {c = Black}) e z = (refl, refl)
  black_leaf (side_leaf {turned = turned} {s = halfspace i} h) e z = absurd (omega arith)
  black_leaf (side_leaf {turned = turned} {s = ball i} h) e z = absurd (omega arith)

  pub row_leaf : {t : Plain} {n : Node} → LeafOf names t n → 512 ≤ node_code n → node_code n < first_ball_side →
      (turned : Bool) × (i : ℕ) × (i < names.halfspaces) × (t ≡ Plain.side turned (halfspace i)) × (n ≡ of_side turned (halfspace i))
      × ((node_code n - 512) / 2 ≡ i) × (eqb (node_code n % 2) 1 ≡ turned)
  row_leaf (colour_leaf {c = White}) e z = absurd (omega arith)
  row_leaf (colour_leaf {c = Black}) e z = absurd (omega arith)
  row_leaf (side_leaf {turned = turned} {s = halfspace i} (halfspace_named h)) e z =
      (turned, i, h, refl, refl, omega (arith, bit_few turned), odd turned (256 + i))
  row_leaf (side_leaf {turned = turned} {s = ball i} h) e z = absurd (omega arith)

  pub ball_leaf : {t : Plain} {n : Node} → LeafOf names t n → first_ball_side ≤ node_code n →
      (turned : Bool) × (i : ℕ) × (i < names.balls) × (t ≡ Plain.side turned (ball i)) × (n ≡ of_side turned (ball i))
      × ((node_code n - first_ball_side) / 2 ≡ i) × (eqb (node_code n % 2) 1 ≡ turned)
  ball_leaf (colour_leaf {c = White}) e = absurd (omega arith)
  ball_leaf (colour_leaf {c = Black}) e = absurd (omega arith)
  ball_leaf (side_leaf {turned = turned} {s = halfspace i} (halfspace_named h)) e = absurd (omega (arith, few, h, bit_few turned))
  ball_leaf (side_leaf {turned = turned} {s = ball i} (ball_named h)) e = (turned, i, h, refl, refl, omega (arith, bit_few turned), odd turned (512 + i))

-- ---- the code of a halfspace by its values, and of a ball
tested_mark : (h : Halfspace) (b : Block) → value_code false (least h b) (greatest h b) ≡ bits_of (mark_over h b)
unfolding mark_over
tested_mark h b = by (le_z (pos 0) (least h b)) (le_z (greatest h b) (pos 0))
  where
    by : (p q : Bool) → tested_code p q ≡ bits_of (cond p (decided Black) (cond q (decided White) undecided))
    by true q = refl
    by false true = refl
    by false false = refl

module _ {surfaces : Surfaces} {axes : ℕ} {low side : List ℕ} {axis half : ℕ} {high centre : Bool}
    (step : Stepping surfaces axes low side axis half high centre) where
  abbrev b : Block
  b = block_of step

  unit : step.left ≡ 0 → (i : ℕ) → i < step.universe.axes → block_side step.universe (levels step.universe - step.left) i ≡ 1
  unit e i l = let z : levels step.universe - step.left ≡ levels step.universe = omega arith in rw z (side_last step.universe i l)

  centre_mark : (h : Halfspace) → step.left ≡ 0 → value_code true (least h b) (greatest h b) ≡ bits_of (decided (colour_at_centre b.universe h b.low))
  unfolding colour_at_centre
  centre_mark h e = rw (voxel_sum h b (unit e)) (by (le_z (pos 0) (centre_value b.universe h b.low)))
    where
      by : (p : Bool) → tested_code p true ≡ bits_of (decided (cond p Black White))
      by true = refl
      by false = refl

  pub row_own : (c : Bool) → (c ≡ true → step.left ≡ 0) → (i : ℕ) → let h = row_at surfaces.rows i in
      value_code c (least h b) (greatest h b) ≡ bits_of (own_mark c surfaces b (halfspace i))
  unfolding surface_mark surface_colour
  row_own false l i = tested_mark (row_at surfaces.rows i) b
  row_own true l i = centre_mark (row_at surfaces.rows i) (l refl)

  pub ball_own : (c : Bool) (i : ℕ) → ball_code c (axes - 1) (ball_at surfaces.balls i) low side ≡ bits_of (own_mark c surfaces b (ball i))
  unfolding surface_mark surface_colour
  ball_own false i = rw step.axes_are (ball_over (ball_at surfaces.balls i) b side step.standing.along)
  ball_own true i = rw step.axes_are (ball_at_lem step.universe (ball_at surfaces.balls i) low)

  -- ---- a leaf's node, judged
  module _ {code : ℕ} {x y : ℤ} (t : Plain) (n : Node) (l : LeafOf (named surfaces) t n) (code_is : code ≡ node_code n)
      (x_is : x ≡ least_of surfaces step.parent n) (y_is : y ≡ greatest_of surfaces step.parent n) where
    abbrev Told : ℕ → ℤ → ℤ → Type 0
    Told bits v w = (bits ≡ left_bits (left_by (marks_of step) t)) × (v ≡ least_of surfaces b n) × (w ≡ greatest_of surfaces b n)

    zero_small : SmallExtreme (pos 0)
    zero_small = record { most = omega arith }

    pub values_small : SmallExtreme x × SmallExtreme y
    values_small = by n l x_is y_is
      where
        by : {t : Plain} (m : Node) → LeafOf (named surfaces) t m → x ≡ least_of surfaces step.parent m → y ≡ greatest_of surfaces step.parent m →
            SmallExtreme x × SmallExtreme y
        by (of_colour c) k p q = rw (p, q) (zero_small, zero_small)
        by (of_side turned (halfspace i)) (side_leaf (halfspace_named h)) p q = rw (p, q) (step.small_parent i h)
        by (of_side turned (ball i)) k p q = rw (p, q) (zero_small, zero_small)
        by (joining _) k p q = elim k [ ]

    constant_told : {c : Colour} → (t ≡ colour c) × (n ≡ of_colour c) → Told (bits_of (decided c)) (held x) (held y)
    unfolding left_by
    constant_told w =
        let p : x ≡ pos 0 = x_is ∙ ap (least_of surfaces step.parent) w.1 in
        let q : y ≡ pos 0 = y_is ∙ ap (greatest_of surfaces step.parent) w.1 in (
          rw w.0,
          (extreme_near values_small.0).same ∙ p ∙ ap (least_of surfaces b) (sym w.1),
          (extreme_near values_small.1).same ∙ q ∙ ap (greatest_of surfaces b) (sym w.1),
        )

    pub white_told : code ≡ 0 → Told 2 (held x) (held y)
    white_told e = constant_told (white_leaf step.few_rows l (sym code_is ∙ e))

    pub black_told : code < 512 → (code ≡ 0 → ⊥) → Told 1 (held x) (held y)
    black_told h z = constant_told (black_leaf step.few_rows l (rw code_is at h) (λ e. z (code_is ∙ e)))

    -- a halfspace
    module _ (from : 512 ≤ code) (upto : code < first_ball_side) where
      found : (turned : Bool) × (i : ℕ) × (i < row_count surfaces.rows) × (t ≡ Plain.side turned (halfspace i)) × (n ≡ of_side turned (halfspace i))
          × ((node_code n - 512) / 2 ≡ i) × (eqb (node_code n % 2) 1 ≡ turned)
      found = row_leaf step.few_rows l (rw code_is at from) (rw code_is at upto)

      abbrev i : ℕ
      i = found.1

      abbrev h : Halfspace
      h = row_at surfaces.rows i

      place_is : 5 * ((code - 512) / 2) + 1 + axis ≡ 5 * i + suc axis
      place_is = omega (arith, code_is, found.5)

      pub row_in : 5 * ((code - 512) / 2) + 1 + axis < length surfaces.rows
      row_in = omega (arith, place_is, found.2, step.within)

      abbrev coefficient : ℤ
      coefficient = get_or surfaces.rows (5 * ((code - 512) / 2) + 1 + axis) (pos 0)

      coefficient_is : coefficient ≡ h.coefficient axis
      coefficient_is = ap (λ (k : ℕ). get_or surfaces.rows k (pos 0)) place_is

      own_small : SmallCoefficient (h.coefficient axis)
      own_small = (step.small i found.2).coefficient axis step.within

      coefficient_held : held coefficient ≡ h.coefficient axis
      coefficient_held = ap held coefficient_is ∙ (near (record { most = own_small.most }) tt).same

      pub moved_asks : SmallCoefficient (held coefficient) × (SmallPlace half × (SmallExtreme (held x) × SmallExtreme (held y)))
      moved_asks =
          rw (coefficient_held, (extreme_near values_small.0).same, (extreme_near values_small.1).same)
          (own_small, (record { most = step.short }, values_small))

      module _ {v w : ℤ} (e : v ≡ moved_least high (held coefficient) half (held x)) (f : w ≡ moved_greatest high (held coefficient) half (held y)) where
        v_is : v ≡ least h b
        v_is =
            let p : x ≡ least h step.parent = x_is ∙ ap (least_of surfaces step.parent) found.4 in
            e
            ∙ ap (λ (a : ℤ). moved_least high a half (held x)) coefficient_held
            ∙ ap (moved_least high (h.coefficient axis) half) ((extreme_near values_small.0).same ∙ p)
            ∙ sym (step.moves i).0

        w_is : w ≡ greatest h b
        w_is =
            let p : y ≡ greatest h step.parent = y_is ∙ ap (greatest_of surfaces step.parent) found.4 in
            f
            ∙ ap (λ (a : ℤ). moved_greatest high a half (held y)) coefficient_held
            ∙ ap (moved_greatest high (h.coefficient axis) half) ((extreme_near values_small.1).same ∙ p)
            ∙ sym (step.moves i).1

        moved_small : SmallExtreme v × SmallExtreme w
        moved_small = rw (v_is, w_is) (step.small_block i found.2)

        pub code_asks : SmallExtreme (held v) × SmallExtreme (held w)
        code_asks = rw ((extreme_near moved_small.0).same, (extreme_near moved_small.1).same) moved_small

        pub row_told : {bits judged : ℕ} {turned : Bool} → bits ≡ value_code centre (held v) (held w) → turned ≡ eqb (code % 2) 1 →
            judged ≡ turned_code turned bits → Told judged (held v) (held w)
        unfolding left_by
        row_told {bits} {judged} {turned} p q r =
            let z : turned ≡ found.0 = q ∙ ap (λ (k : ℕ). eqb (k % 2) 1) code_is ∙ found.6 in
            let k : bits ≡ bits_of (own_mark centre surfaces b (halfspace i)) =
            rw ((extreme_near moved_small.0).same, (extreme_near moved_small.1).same, v_is, w_is) at p ∙ row_own centre step.last i in (
              rw found.3 (r ∙ ap₂ turned_code z k ∙ own_turned centre surfaces b found.0 (halfspace i)
                  ∙ sym (side_bits found.0 (halfspace i) (judged_marks centre surfaces b found.0 (halfspace i)))),
              (extreme_near moved_small.0).same ∙ v_is ∙ ap (least_of surfaces b) (sym found.4),
              (extreme_near moved_small.1).same ∙ w_is ∙ ap (greatest_of surfaces b) (sym found.4),
            )

        -- the same by one call that judges, and leaves the values as they are
        pub side_told : {judged : ℕ} {v' w' : ℤ} {turned : Bool} → turned ≡ eqb (code % 2) 1 → judged ≡ turned_code turned (value_code centre (held v) (held w)) →
            (v' ≡ held v) × (w' ≡ held w) → Told judged v' w'
        side_told q r s = let t = row_told refl q r in (t.0, s.0 ∙ t.1, s.1 ∙ t.2)

        -- over a block that is no centre by their signs
        pub over_told : {judged : ℕ} {v' w' : ℤ} → centre ≡ false → judged ≡ turned_code (eqb (code % 2) 1) (value_code false (held v) (held w)) →
            (v' ≡ held v) × (w' ≡ held w) → Told judged v' w'
        over_told z r s = side_told refl (r ∙ ap (λ (k : Bool). turned_code (eqb (code % 2) 1) (value_code k (held v) (held w))) (sym z)) s

        -- at a centre by the sign of their sum
        pub centre_black : centre ≡ true → is_black (left_bits (left_by (marks_of step) t)) ≡ turned_black (eqb (code % 2) 1) (le_z (pos 0) (v +ℤ w))
        centre_black z =
            let r = (row_told {bits = value_code centre (held v) (held w)} refl refl refl).0 in
            let k : value_code centre (held v) (held w) ≡ tested_code (le_z (pos 0) (v +ℤ w)) true =
            rw (z, (extreme_near moved_small.0).same, (extreme_near moved_small.1).same) in
            ap is_black (sym r) ∙ ap (λ (x : ℕ). is_black (turned_code (eqb (code % 2) 1) x)) k
            ∙ black_turned (eqb (code % 2) 1) (le_z (pos 0) (v +ℤ w))

      -- the values where none moves
      pub stays : ((a : ℤ) (z : ℤ) → (z ≡ moved_least high a half z) × (z ≡ moved_greatest high a half z)) →
          (x ≡ moved_least high (held coefficient) half (held x)) × (y ≡ moved_greatest high (held coefficient) half (held y))
      stays f = (
        sym (extreme_near values_small.0).same ∙ (f (held coefficient) (held x)).0,
        sym (extreme_near values_small.1).same ∙ (f (held coefficient) (held y)).1,
      )

    -- a ball
    module _ (from : first_ball_side ≤ code) where
      ball_found : (turned : Bool) × (i : ℕ) × (i < ball_count surfaces.balls) × (t ≡ Plain.side turned (ball i)) × (n ≡ of_side turned (ball i))
          × ((node_code n - first_ball_side) / 2 ≡ i) × (eqb (node_code n % 2) 1 ≡ turned)
      ball_found = ball_leaf step.few_rows l (rw code_is at from)

      index_is : (code - first_ball_side) / 2 ≡ ball_found.1
      index_is = ap (λ (k : ℕ). (k - first_ball_side) / 2) code_is ∙ ball_found.5

      pub ball_asks : (least_axes ≤ axes) × (BallReady (axes - 1) surfaces.balls ((code - first_ball_side) / 2) low × SmallPlaces side)
      ball_asks = (
        step.some_axes,
        (
          record {
            few = omega (arith, step.few_axes);
            named = rw index_is ball_found.2;
            small = rw index_is (step.small_balls ball_found.1 ball_found.2);
            lows = low_small step.standing;
          },
          side_small step.standing,
        ),
      )

      pub ball_told : {bits judged : ℕ} {turned : Bool} → bits ≡ ball_code centre (axes - 1) (ball_at surfaces.balls ((code - first_ball_side) / 2)) low side →
          turned ≡ eqb (code % 2) 1 → judged ≡ turned_code turned bits → Told judged (held x) (held y)
      unfolding left_by
      ball_told {bits} {judged} {turned} p q r =
          let i : ℕ = ball_found.1 in
          let z : turned ≡ ball_found.0 = q ∙ ap (λ (k : ℕ). eqb (k % 2) 1) code_is ∙ ball_found.6 in
          let k : bits ≡ bits_of (own_mark centre surfaces b (ball i)) = rw index_is at p ∙ ball_own centre i in (
            rw ball_found.3 (r ∙ ap₂ turned_code z k ∙ own_turned centre surfaces b ball_found.0 (ball i)
                ∙ sym (side_bits ball_found.0 (ball i) (judged_marks centre surfaces b ball_found.0 (ball i)))),
            (extreme_near values_small.0).same ∙ x_is ∙ ap (least_of surfaces step.parent) ball_found.4 ∙ ap (least_of surfaces b) (sym ball_found.4),
            (extreme_near values_small.1).same ∙ y_is ∙ ap (greatest_of surfaces step.parent) ball_found.4
                ∙ ap (greatest_of surfaces b) (sym ball_found.4),
          )

      -- at a centre
      pub ball_black : centre ≡ true → is_black (left_bits (left_by (marks_of step) t))
          ≡ turned_black (eqb (code % 2) 1) (is_black (ball_code_at (axes - 1) (ball_at surfaces.balls ((code - first_ball_side) / 2)) low))
      ball_black z =
          let b : Ball = ball_at surfaces.balls ((code - first_ball_side) / 2) in
          let r = (ball_told {bits = ball_code centre (axes - 1) b low side} refl refl refl).0 in
          let p : Bool = leb (off_over (axes - 1) b low) (4 * radius_squared b) in
          ap is_black (sym r) ∙ ap (λ (c : Bool). is_black (turned_code (eqb (code % 2) 1) (ball_code c (axes - 1) b low side))) z
          ∙ black_turned (eqb (code % 2) 1) p ∙ ap (turned_black (eqb (code % 2) 1)) (sym (black_tested p))

-- ---- the same of a job
module _ {surfaces : Surfaces} {axes : ℕ} {low side : List ℕ} {axis half : ℕ} {high centre : Bool} {code : ℕ} {x y : ℤ}
    (job : LeafJob surfaces axes low side axis half high centre code x y) where
  pub told_job : {bits : ℕ} {v w : ℤ} →
      (bits ≡ left_bits (left_by (marks_of job.step) job.tree)) × (v ≡ least_of surfaces (block_of job.step) job.leaf)
      × (w ≡ greatest_of surfaces (block_of job.step) job.leaf) → LeafJudged job bits v w
  told_job t = record { judged = t.0; least_over = t.1; greatest_over = t.2 }
