-- Judging by what is carried is judging the block: a row's code is by its extremes, a ball's by its squares, and the codes of a tree's leaves, joined, are those
-- of its marks over two blocks; at level L those of its colours at the centres, which are the marks' wherever these are decided.
use Prim.Native.Nat.{ℕ, zero, suc, ◌+◌, ◌-◌, ◌*◌, ◌%◌, ◌^◌, ◌≤◌, ◌<◌}
use mathlib.Core.Path.{◌≡◌, refl, sym, ap, ap₂, ◌∙◌}
use mathlib.Core.Bool.{Bool, true, false, cond, ◌&&◌}
use mathlib.Core.List.{List}
use native.Mathlib.Nat.{le_refl, le_trans}
use native.Mathlib.Omega.{arith}
use borrow.Author.Tests.{leb-true}
use lib.Dec.{eqb, leb, ltb, lit≤, eqb-suc-zero}
use lib.IntN.{ℤ, pos, nat_abs}
use lib.Signed.{◌≤ℤ◌, le_z}
use lib.ListN.{length}
use Rattle.lemmas.specs.Sums.{every}
use Rattle.lemmas.proofs.Sums.{and_left, and_right, every_all}
use Rattle.lemmas.proofs.Whole.{ι, ν, one_part, le_of, le_z_true}
use Rattle.lemmas.proofs.Machine.{nat_abs_parts}
use Rattle.universe.specs.declared.Universe.{Universe}
use Rattle.universe.specs.declared.Block.{Block}
use Rattle.universe.specs.Refusals.{bad_rows}
use Rattle.universe.specs.Universe.{most_axes, offset_limit, coefficient_limit, centre_limit, radius_limit, levels}
use Rattle.universe.specs.Block.{low, high}
use Rattle.universe.specs.Voxel.{Within}
use Rattle.universe.proofs.Refusing.{unless_holds}
use Rattle.universe.proofs.Universes.{side_positive, side_last}
use Rattle.bintree.specs.declared.Colour.{Colour}
use Rattle.bintree.specs.declared.Colour.TheVariants.{White, Black}
use Rattle.bintree.specs.Shape.{leaf, halved}
use Rattle.csg.specs.Halfspace.{Halfspace, Mark, decided, undecided, least, greatest, row_count, row_at, within_limits, rows_refusal, most_rows, row_length}
use Rattle.csg.specs.Ball.{Ball, place_axes, most_places, ball_length, most_balls, ball_count, ball_at, radius_within, ball_within, balls_refusal}
use Rattle.csg.specs.Tree.{white, black, surface, intersection, Tree, plain}
use Rattle.csg.specs.Tree.{leaf as leafTree}
use Rattle.csg.specs.Surfaces.{Surfaces, named, Surface, halfspace, ball}
use Rattle.csg.specs.Words.{fold, tree_of}
use Rattle.csg.specs.Marks.{intersection_mark, surface_mark, surface_colour, plain_mark, plain_colour, tree_mark, tree_colour}
use Rattle.csg.specs.Raw.{both, examine}
use Rattle.csg.proofs.Halfspace.{voxel_sum}
use Rattle.csg.proofs.Marks.{mark_by, mark_over_lem, mark_at, intersection_colours, tree_sound}
use Rattle.csg.proofs.Raw.{examine_decided, examine_undecided, examine_voxel}
use Rattle.convert.specs.Small.{SmallCoefficient, SmallHalfspace, SmallBall}
use Rattle.convert.specs.Codes.{white_bit, black_bits, white_bits, with_centres, bits_of, paired, centre_unit, voxel_code}
use Rattle.convert.specs.Codes.{judged_bits, value_code, ball_code, join_code}
use Rattle.convert.specs.Blocks.{Standing, trees_of, block_left, judged, codes_of, full_code, full_codes}
use Rattle.convert.proofs.BallMarks.{ball_over, ball_at_lem}
use Rattle.convert.proofs.Codes.{pair_of, four_of, code_tree, code_voxels, code_of_marks, code_of_colours}

-- ---- rows that are not refused are small
limit_most : (b : Bool) → cond b coefficient_limit 0 ≤ coefficient_limit
limit_most true = le_refl coefficient_limit
limit_most false = omega arith

within_small : (u : Universe) (h : Halfspace) → within_limits u h ≡ true → SmallHalfspace h
unfolding within_limits
within_small u h e = record { offset = leb-true _ _ (and_left offset (every most_axes within) e); coefficient = small }
  where
    offset : Bool
    offset = leb (nat_abs h.offset) offset_limit

    within : ℕ → Bool
    within i = leb (nat_abs (h.coefficient i)) (cond (ltb i u.axes) coefficient_limit 0)

    small : (i : ℕ) → i < most_axes → SmallCoefficient (h.coefficient i)
    small i l =
        let w = leb-true _ _ (every_all most_axes within (and_right offset (every most_axes within) e) i l) in
        record { most = le_trans w (limit_most (ltb i u.axes)) }

module _ (u : Universe) (rows : List ℤ) (e : rows_refusal u rows ≡ 0) where
  shaped_rows : Bool
  shaped_rows = eqb (length rows % row_length) 0 && leb (row_count rows) most_rows

  within : ℕ → Bool
  within j = within_limits u (row_at rows j)

  good : shaped_rows && every (row_count rows) within ≡ true
  unfolding rows_refusal shaped_rows within
  good = unless_holds (shaped_rows && every (row_count rows) within) bad_rows (omega arith) e

  pub small_rows : (i : ℕ) → i < row_count rows → SmallHalfspace (row_at rows i)
  unfolding within
  small_rows i l = within_small u (row_at rows i) (every_all (row_count rows) within (and_right shaped_rows (every (row_count rows) within) good) i l)

-- ---- and so are balls
centre_limit_lem : (b : Bool) → cond b centre_limit 0 ≤ centre_limit
centre_limit_lem true = le_refl centre_limit
centre_limit_lem false = omega arith

ball_small : (u : Universe) (b : Ball) → ball_within u b ≡ true → SmallBall b
unfolding ball_within
ball_small u b e = record {
  centre = λ i l. le_trans (leb-true _ _ (every_all most_places within (and_right (radius_within b.radius) (every most_places within) e) i l))
      (centre_limit_lem (ltb i (place_axes u)));
  positive = positive;
  radius = few;
}
  where
    within : ℕ → Bool
    within i = leb (nat_abs (b.centre i)) (cond (ltb i (place_axes u)) centre_limit 0)

    tests : radius_within b.radius ≡ true
    tests = and_left (radius_within b.radius) (every most_places within) e

    positive : pos 0 ≤ℤ b.radius
    positive = le_z_true _ _ (and_left (le_z (pos 0) b.radius) (le_z b.radius (pos radius_limit)) tests)

    most : b.radius ≤ℤ pos radius_limit
    most = le_z_true _ _ (and_right (le_z (pos 0) b.radius) (le_z b.radius (pos radius_limit)) tests)

    few : nat_abs b.radius ≤ radius_limit
    few =
        let p = le_of (ν 0) (ι b.radius) positive in
        let q = le_of (ι b.radius) (ν radius_limit) most in
        one_part b.radius (nat_abs b.radius ≤ radius_limit)
        (λ z. omega (arith, nat_abs_parts b.radius))
        (λ z. omega (arith, nat_abs_parts b.radius))

module _ (u : Universe) (balls : List ℤ) (e : balls_refusal u balls ≡ 0) where
  shaped_balls : Bool
  shaped_balls = eqb (length balls % ball_length) 0 && leb (ball_count balls) most_balls

  within_ball : ℕ → Bool
  within_ball j = ball_within u (ball_at balls j)

  good_balls : shaped_balls && every (ball_count balls) within_ball ≡ true
  unfolding balls_refusal shaped_balls within_ball
  good_balls = unless_holds (shaped_balls && every (ball_count balls) within_ball) bad_rows (omega arith) e

  pub small_balls : (i : ℕ) → i < ball_count balls → SmallBall (ball_at balls i)
  unfolding within_ball
  small_balls i l =
      ball_small u (ball_at balls i) (every_all (ball_count balls) within_ball (and_right shaped_balls (every (ball_count balls) within_ball) good_balls) i l)

-- ---- a tree is judged by the marks of its surfaces, over a block or, at level L, at its centre
-- so the codes of its leaves over two blocks, joined, are its own; at level L those of the marks and those of the colours above them
marks_by : (surfaces : Surfaces) (b : Block) (t : Tree) → tree_mark surfaces t b ≡ mark_by (λ s. surface_mark surfaces s b) (plain t)
marks_by surfaces b t = sym (mark_over_lem surfaces b (plain t))

colours_by : (surfaces : Surfaces) (b : Block) (t : Tree) →
    decided (tree_colour surfaces b.universe t b.low) ≡ mark_by (λ s. decided (surface_colour surfaces b.universe s b.low)) (plain t)
colours_by surfaces b t = sym (mark_at surfaces b.universe b.low (plain t))

four_is : (m n x y : ℕ) → paired (m + centre_unit * x) (n + centre_unit * y) ≡ paired x y * 2 ^ 4 + paired m n
four_is m n x y = omega arith

full_voxels : (surfaces : Surfaces) (b c : Block) (t : Tree) → full_codes surfaces t 0 b c
    ≡ four_of (mark_by (λ s. surface_mark surfaces s b) (plain t)) (mark_by (λ s. surface_mark surfaces s c) (plain t))
    (mark_by (λ s. decided (surface_colour surfaces b.universe s b.low)) (plain t))
    (mark_by (λ s. decided (surface_colour surfaces c.universe s c.low)) (plain t))
unfolding full_code
full_voxels surfaces b c t =
    four_is (bits_of (tree_mark surfaces t b)) (bits_of (tree_mark surfaces t c))
    (bits_of (decided (tree_colour surfaces b.universe t b.low))) (bits_of (decided (tree_colour surfaces c.universe t c.low)))
    ∙ rw (marks_by surfaces b t, marks_by surfaces c t, colours_by surfaces b t, colours_by surfaces c t)

full_blocks : (surfaces : Surfaces) (n : ℕ) (b c : Block) (t : Tree) → full_codes surfaces t (suc n) b c
    ≡ pair_of (mark_by (λ s. surface_mark surfaces s b) (plain t)) (mark_by (λ s. surface_mark surfaces s c) (plain t))
unfolding full_code
full_blocks surfaces n b c t = rw (marks_by surfaces b t, marks_by surfaces c t)

pub tree_codes : (surfaces : Surfaces) (left : ℕ) (b c : Block) (t : Tree) →
    fold (λ l. full_codes surfaces (leafTree l) left b c) join_code t ≡ full_codes surfaces t left b c
tree_codes surfaces zero b c t = code_voxels _ _ _ _ _ (λ l. full_voxels surfaces b c (leafTree l)) t ∙ sym (full_voxels surfaces b c t)
tree_codes surfaces (suc n) b c t = code_tree _ _ _ (λ l. full_blocks surfaces n b c (leafTree l)) t ∙ sym (full_blocks surfaces n b c t)

-- ---- a voxel's block holds its own low places, and is one unit long along each axis
pub own_lows : (b : Block) → Within b b.low
own_lows b = record { above = λ i l. le_refl _; below = λ i l. omega (arith, side_positive b.universe b.level i) }

-- a colour's codes
module _ (surfaces : Surfaces) (b c : Block) where
  pub white_codes : (left : ℕ) → cond (eqb left 0) (with_centres white_bits) white_bits ≡ full_codes surfaces (leafTree white) left b c
  unfolding full_code plain plain_mark plain_colour
  white_codes zero = refl
  white_codes (suc n) = rw (eqb-suc-zero n)

  pub black_codes : (left : ℕ) → cond (eqb left 0) (with_centres black_bits) black_bits ≡ full_codes surfaces (leafTree black) left b c
  unfolding full_code plain plain_mark plain_colour
  black_codes zero = refl
  black_codes (suc n) = rw (eqb-suc-zero n)

-- the code of a surface, of its mark and of its colour at the centre
leaf_mark : (surfaces : Surfaces) (x : Surface) (b : Block) → tree_mark surfaces (leafTree (surface x)) b ≡ surface_mark surfaces x b
unfolding mark_by plain
leaf_mark surfaces x b = marks_by surfaces b (leafTree (surface x))

leaf_colour : (surfaces : Surfaces) (x : Surface) (b : Block) →
    decided (tree_colour surfaces b.universe (leafTree (surface x)) b.low) ≡ decided (surface_colour surfaces b.universe x b.low)
unfolding mark_by plain
leaf_colour surfaces x b = colours_by surfaces b (leafTree (surface x))

module _ {u : Universe} {lows side : List ℕ} (surfaces : Surfaces) (i : ℕ) where
  pub row_code : (left : ℕ) → Standing u left lows side →
      value_code (eqb left 0) (least (row_at surfaces.rows i) (block_left u left lows)) (greatest (row_at surfaces.rows i) (block_left u left lows))
      ≡ full_code surfaces (leafTree (surface (halfspace i))) left (block_left u left lows)
  unfolding full_code surface_mark surface_colour
  row_code zero s =
      let z : levels u - 0 ≡ levels u = omega arith in
      let b = block_left u 0 lows in
      code_of_colours (row_at surfaces.rows i) u lows b (voxel_sum (row_at surfaces.rows i) b (λ j l. rw z (side_last u j l)))
      ∙ rw (leaf_mark surfaces (halfspace i) b, leaf_colour surfaces (halfspace i) b)
  row_code (suc n) s =
      let b = block_left u (suc n) lows in
      rw (eqb-suc-zero n) (code_of_marks (row_at surfaces.rows i) b ∙ ap bits_of (sym (leaf_mark surfaces (halfspace i) b)))

  pub ball_code_lem : (left : ℕ) → Standing u left lows side →
      ball_code (eqb left 0) (u.axes - 1) (ball_at surfaces.balls i) lows side ≡ full_code surfaces (leafTree (surface (ball i))) left (block_left u left lows)
  unfolding full_code surface_mark surface_colour
  ball_code_lem zero s =
      let b = block_left u 0 lows in
      let x = ball_at surfaces.balls i in
      ap₂ voxel_code (ball_over x b side s.along) (ball_at_lem u x lows)
      ∙ rw (leaf_mark surfaces (ball i) b, leaf_colour surfaces (ball i) b)
  ball_code_lem (suc n) s =
      let b = block_left u (suc n) lows in
      rw (eqb-suc-zero n) (ball_over (ball_at surfaces.balls i) b side s.along ∙ ap bits_of (sym (leaf_mark surfaces (ball i) b)))

-- bits
mark_few : (m : Mark) → bits_of m ≤ white_bit
mark_few (decided Black) = lit≤ tt
mark_few (decided White) = lit≤ tt
mark_few undecided = lit≤ tt

colour_some : (c : Colour) → 1 ≤ bits_of (decided c)
colour_some Black = lit≤ tt
colour_some White = lit≤ tt

white_pair : (m n x y : Mark) → pair_of m n ≡ white_bits → white_bits ≡ pair_of (intersection_mark m x) (intersection_mark n y)
unfolding intersection_mark
white_pair (decided White) (decided White) x y e = refl
white_pair (decided White) (decided Black) x y e = absurd (omega arith)
white_pair (decided White) undecided x y e = absurd (omega arith)
white_pair (decided Black) n x y e = absurd (omega (arith, mark_few n))
white_pair undecided n x y e = absurd (omega (arith, mark_few n))

-- two trees intersected are judged by both
both_judged : (surfaces : Surfaces) (t w : Tree) (n : ℕ) (b : Block) →
    judged surfaces (both t w) n b ≡ intersection_mark (judged surfaces t n b) (judged surfaces w n b)
unfolding judged plain plain_mark plain_colour
both_judged surfaces t w zero b = sym (intersection_colours _ _)
both_judged surfaces t w (suc n) b = refl

-- so their codes are those of both, joined
module _ (surfaces : Surfaces) (first second : List ℕ) (b c : Block) where
  abbrev codes_by : ℕ → List ℕ → ℕ
  codes_by left words = full_codes surfaces (tree_of (named surfaces) words) left b c

  both_codes : (left : ℕ) → join_code intersection (codes_by left first) (codes_by left second) ≡ full_codes surfaces (trees_of surfaces first second) left b c
  unfolding fold
  both_codes left =
      ap₂ (join_code intersection) (sym (tree_codes surfaces left b c (tree_of (named surfaces) first)))
      (sym (tree_codes surfaces left b c (tree_of (named surfaces) second)))
      ∙ tree_codes surfaces left b c (trees_of surfaces first second)

  pub codes_joined : (left : ℕ) {x y r : ℕ} → x ≡ codes_by left first → y ≡ codes_by left second → r ≡ join_code intersection x y →
      r ≡ full_codes surfaces (trees_of surfaces first second) left b c
  codes_joined left p q e = e ∙ ap₂ (join_code intersection) p q ∙ both_codes left

  -- above level L a first tree that is WHITE over both blocks decides alone; at level L no code is without its colours
  pub codes_white : (left : ℕ) {x : ℕ} → x ≡ codes_by left first → x ≡ white_bits → white_bits ≡ full_codes surfaces (trees_of surfaces first second) left b c
  unfolding full_code judged
  codes_white zero {x} p e =
      absurd (omega (arith, p, e, colour_some (tree_colour surfaces b.universe (tree_of (named surfaces) first) b.low)))
  codes_white (suc n) p e =
      white_pair (tree_mark surfaces (tree_of (named surfaces) first) b) (tree_mark surfaces (tree_of (named surfaces) first) c)
      (tree_mark surfaces (tree_of (named surfaces) second) b) (tree_mark surfaces (tree_of (named surfaces) second) c) (sym p ∙ e)
      ∙ ap₂ (λ (m w : Mark). pair_of m w) (sym (both_judged surfaces (tree_of (named surfaces) first) (tree_of (named surfaces) second) (suc n) b))
      (sym (both_judged surfaces (tree_of (named surfaces) first) (tree_of (named surfaces) second) (suc n) c))

-- the bits by which blocks are judged
pub judged_codes : (surfaces : Surfaces) (t : Tree) (left : ℕ) (b c : Block) →
    judged_bits (eqb left 0) (full_codes surfaces t left b c) ≡ codes_of surfaces t left b c
unfolding full_code judged
judged_codes surfaces t zero b c = omega (arith, mark_few (tree_mark surfaces t b), mark_few (tree_mark surfaces t c))
judged_codes surfaces t (suc n) b c = rw (eqb-suc-zero n)

pub judge_told : (surfaces : Surfaces) (t : Tree) (left : ℕ) (b c : Block) {codes r : ℕ} → codes ≡ full_codes surfaces t left b c →
    r ≡ judged_bits (eqb left 0) codes → r ≡ codes_of surfaces t left b c
judge_told surfaces t left b c p e = e ∙ ap (judged_bits (eqb left 0)) p ∙ judged_codes surfaces t left b c

-- ---- what is written for a block, by how it is judged
module _ (surfaces : Surfaces) (t : Tree) where
  pub written_decided : (n : ℕ) (b : Block) (c : Colour) → judged surfaces t n b ≡ decided c → examine surfaces t n b ≡ leaf c
  unfolding judged
  written_decided (suc n) b c e = examine_decided surfaces t (suc n) b c e
  written_decided zero b c e = by (tree_mark surfaces t b) refl
    where
      by : (m : Mark) → tree_mark surfaces t b ≡ m → examine surfaces t 0 b ≡ leaf c
      by (decided d) f =
          let g : decided (tree_colour surfaces b.universe t b.low) ≡ decided c = e in
          let k : tree_colour surfaces b.universe t b.low ≡ d = tree_sound surfaces (plain t) b d b.low f (own_lows b) in
          let z : d ≡ c = cc in
          rw (← z) (examine_decided surfaces t 0 b d f)
      by undecided f =
          let g : decided (tree_colour surfaces b.universe t b.low) ≡ decided c = e in
          let z : tree_colour surfaces b.universe t b.low ≡ c = cc in
          rw (← z) (examine_voxel surfaces t b f)

  pub never_last : (b : Block) → judged surfaces t 0 b ≡ undecided → ⊥
  unfolding judged
  never_last b e = let z : ◌≡◌ {A = ℕ} 0 1 = cc in omega arith

  pub written_halved : (n : ℕ) (b : Block) → judged surfaces t (suc n) b ≡ undecided →
      examine surfaces t (suc n) b ≡ halved (examine surfaces t n (low b)) (examine surfaces t n (high b))
  unfolding judged
  written_halved n b e = examine_undecided surfaces t n b e
