-- A ball's codes as the machine finds them. Along an axis the farther end of a block is as far as the greater of two differences, the nearest point is nearer
-- by the block's length, and the square of the distance to a voxel's centre is a product and a quarter. Such numbers are small, so are their squares, and so
-- are the sums of these over the place axes (`Walked`); what is added up is what the definitions add up.
use Prim.Native.Nat.{ℕ, zero, suc, ◌+◌, ◌*◌, ◌-◌, ◌≤◌, ◌<◌}
use mathlib.Core.Path.{◌≡◌, refl, sym, ap, ap₂, subst, ◌∙◌}
use mathlib.Core.Bool.{Bool, true, false, cond}
use mathlib.Core.List.{List}
use native.Mathlib.Omega.{arith}
use native.Mathlib.Decide.{dec_le}
use native.Mathlib.Nat.{mul-le-mul}
use borrow.Author.Rules.{rules}
use borrow.Author.Tests.{le-leb, lt-leb}
use lib.Dec.{T, leb, ltb}
use lib.IntN.{ℤ, pos, negsuc, nat_abs, ◌-ℤ◌, ◌*ℤ◌}
use lib.ListN.{get_or}
use Rattle.std.specs.Int.{int_max}
use lib.Signed.{◌≤ℤ◌, ◌<ℤ◌, lt_z, non_neg}
use mir.Syntax.{w64}
use mir.Val.{Fits, to_z, of_z}
use Rattle.lemmas.specs.Sums.{sum}
use Rattle.lemmas.proofs.Machine.{Near, near, near_back, near_cast, near_lit, near_sub, near_mul, near_unsigned, nat_abs_parts, size_neg}
use Rattle.lemmas.proofs.Whole.{up, dn, one_part, ι, ν, ◌⊖◌, ◌⊗◌, ⊝, is_of, eq_by, le_by, le_of, lt_of, lt_z_true, lt_z_false}
use Rattle.universe.specs.Universe.{most_axes, longest_side, centre_limit, radius_limit}
use Rattle.csg.specs.Ball.{Ball, ball_at, ball_count, square, radius_squared, gap, nearest, farthest, off}
use Rattle.convert.specs.declared.ball.Squares.{Squares}
use Rattle.convert.specs.Codes.{most_code, paired, tested_code, voxel_code}
use Rattle.convert.specs.Codes.{middle_square, squares_along, near_over, far_over, off_over, ball_code}
use Rattle.convert.specs.Small.{SmallPlace, SmallPlaces, BallCentre, SmallBall, BallReady, gap_limit}
use Rattle.convert.proofs.BallMarks.{ball_most}

-- what the machine reads of a number that it holds
abbrev held : ℤ → ℤ
held z = to_z w64 (of_z w64 z)

-- ---- the greater of two numbers
upper : (a b : ℕ) → a ≤ b → cond (leb a b) b a ≡ b
upper a b h = rw (le-leb a b h)

lower : (a b : ℕ) → b ≤ a → cond (leb a b) b a ≡ a
lower a b h = by (dec_le a b)
  where
    by : Dec (a ≤ b) → cond (leb a b) b a ≡ a
    by (yes p) = upper a b p ∙ omega arith
    by (no n) = rw (lt-leb a b (omega arith))

either : (a b most : ℕ) → a ≤ most → b ≤ most → cond (leb a b) b a ≤ most
either a b most h k = by (leb a b)
  where
    by : (t : Bool) → cond t b a ≤ most
    by true = k
    by false = h

-- ---- two differences that add up to a length: the smaller is no farther from 0
module _ (x : ℤ) (s : ℕ) where
  abbrev y : ℤ
  y = pos s -ℤ x

  later_most : x ≤ℤ y → nat_abs x ≤ nat_abs y
  later_most h =
      one_part x (nat_abs x ≤ nat_abs y)
      (λ e. omega (arith, nat_abs_parts x, nat_abs_parts y, (is_of (ν s ⊖ ι x)).is, le_of (ι x) (ν s ⊖ ι x) h))
      (λ e. omega (arith, nat_abs_parts x, nat_abs_parts y, (is_of (ν s ⊖ ι x)).is))

  earlier_most : y <ℤ x → nat_abs y ≤ nat_abs x
  earlier_most h =
      one_part y (nat_abs y ≤ nat_abs x)
      (λ e. omega (arith, nat_abs_parts x, nat_abs_parts y, (is_of (ν s ⊖ ι x)).is, lt_of (ν s ⊖ ι x) (ι x) h))
      (λ e. omega (arith, nat_abs_parts x, nat_abs_parts y, (is_of (ν s ⊖ ι x)).is, lt_of (ν s ⊖ ι x) (ι x) h))

-- ---- a place and a number, whichever is the greater
module _ (x : ℕ) (c : ℤ) where
  gap_below : up c + 0 ≤ x + dn c → up c + gap x c ≡ x + dn c
  gap_below h =
      one_part (pos x -ℤ c) (up c + gap x c ≡ x + dn c)
      (λ e. omega (arith, nat_abs_parts (pos x -ℤ c), (is_of (ν x ⊖ ι c)).is))
      (λ e. omega (arith, nat_abs_parts (pos x -ℤ c), (is_of (ν x ⊖ ι c)).is))

  gap_above : x + dn c ≤ up c + 0 → up c ≡ x + gap x c + dn c
  gap_above h =
      one_part (pos x -ℤ c) (up c ≡ x + gap x c + dn c)
      (λ e. omega (arith, nat_abs_parts (pos x -ℤ c), (is_of (ν x ⊖ ι c)).is))
      (λ e. omega (arith, nat_abs_parts (pos x -ℤ c), (is_of (ν x ⊖ ι c)).is))

-- ---- a number times the one before it is not negative, and a quarter less than a square
product_positive : (x : ℤ) → pos 0 ≤ℤ (x *ℤ (x -ℤ pos 1))
product_positive (pos zero) = le_by (ν 0) (ν 0) (omega arith)
product_positive (pos (suc m)) = le_by (ν 0) (ν (suc m) ⊗ (ν (suc m) ⊖ ν 1)) (omega arith)
product_positive (negsuc m) = le_by (ν 0) (⊝ (ν (suc m)) ⊗ (⊝ (ν (suc m)) ⊖ ν 1)) (omega arith)

product_square : (x : ℤ) → square (nat_abs (pos 1 -ℤ pos 2 *ℤ x)) ≡ 4 * nat_abs (x *ℤ (x -ℤ pos 1)) + 1
product_square (pos zero) = refl
product_square (pos (suc m)) =
    ap (λ (z : ℤ). square (nat_abs z)) (eq_by (ν 1 ⊖ ν 2 ⊗ ν (suc m)) (⊝ (ν (suc (2 * m)))) (omega arith))
    ∙ omega (arith, ap nat_abs (eq_by (ν (suc m) ⊗ (ν (suc m) ⊖ ν 1)) (ν (suc m * m)) (omega arith)))
product_square (negsuc m) =
    ap (λ (z : ℤ). square (nat_abs z)) (eq_by (ν 1 ⊖ ν 2 ⊗ ⊝ (ν (suc m))) (ν (2 * m + 3)) (omega arith))
    ∙ omega (arith, ap nat_abs (eq_by (⊝ (ν (suc m)) ⊗ (⊝ (ν (suc m)) ⊖ ν 1)) (ν (suc m * (suc m + 1))) (omega arith)))

-- ---- squares of small numbers
abbrev square_limit : ℕ
square_limit = gap_limit * gap_limit

square_few : {d : ℕ} → d ≤ gap_limit → d * d ≤ square_limit
square_few h = mul-le-mul h h

square_fits : {d : ℕ} → d ≤ gap_limit → Fits w64 (d * d)
square_fits h = record { fits = omega (arith, square_few h) }

-- ---- how far a place is behind a ball's centre, as the machine finds it
abbrev reach : ℕ
reach = centre_limit + longest_side

module _ {b : ℕ} {c : ℤ} (p : SmallPlace b) (k : BallCentre c) where
  place_near : Near (to_z w64 b) (pos b) longest_side
  place_near = near_cast b longest_side p.most tt

  centre_near : Near (held c) c centre_limit
  centre_near = near (record { most = k.most }) tt

  pub held_asks : BallCentre (held c)
  held_asks = rw centre_near.same k

  pub before_near : Near (held c -ℤ to_z w64 b) (c -ℤ pos b) reach
  before_near = near_sub {x = c} {y = pos b} centre_near place_near

  pub before_held : Near (held (held c -ℤ to_z w64 b)) (c -ℤ pos b) reach
  before_held = near_back {x = c -ℤ pos b} before_near tt

  -- the square to the centre of the voxel that begins there
  pub less_near : Near (held (held c -ℤ to_z w64 b) -ℤ pos 1) (c -ℤ pos b -ℤ pos 1) (reach + 1)
  less_near = near_sub {x = c -ℤ pos b} {y = pos 1} before_held (near_lit (pos 1))

  pub product_near : Near (held (held c -ℤ to_z w64 b) *ℤ held (held (held c -ℤ to_z w64 b) -ℤ pos 1))
      ((c -ℤ pos b) *ℤ (c -ℤ pos b -ℤ pos 1)) (reach * (reach + 1))
  product_near = near_mul {x = c -ℤ pos b} {y = c -ℤ pos b -ℤ pos 1} before_held (near_back {x = c -ℤ pos b -ℤ pos 1} less_near tt)

  product_held : Near (held (held (held c -ℤ to_z w64 b) *ℤ held (held (held c -ℤ to_z w64 b) -ℤ pos 1)))
      ((c -ℤ pos b) *ℤ (c -ℤ pos b -ℤ pos 1)) (reach * (reach + 1))
  product_held = near_back {x = (c -ℤ pos b) *ℤ (c -ℤ pos b -ℤ pos 1)} product_near tt

  pub product_cast : T (non_neg (held (held (held c -ℤ to_z w64 b) *ℤ held (held (held c -ℤ to_z w64 b) -ℤ pos 1))))
      × Fits w64 (nat_abs (held (held (held c -ℤ to_z w64 b) *ℤ held (held (held c -ℤ to_z w64 b) -ℤ pos 1))))
  product_cast = near_unsigned {x = (c -ℤ pos b) *ℤ (c -ℤ pos b -ℤ pos 1)} product_held tt (product_positive (c -ℤ pos b))

  off_square : square (nat_abs (off 2 (2 * b + 1) c)) ≡ 4 * nat_abs ((c -ℤ pos b) *ℤ (c -ℤ pos b -ℤ pos 1)) + 1
  off_square =
      ap (λ (z : ℤ). square (nat_abs z)) (eq_by (ν (2 * b + 1) ⊖ ν 2 ⊗ ι c) (ν 1 ⊖ ν 2 ⊗ (ι c ⊖ ν b)) (omega arith)) ∙ product_square (c -ℤ pos b)

  middle_is : nat_abs ((c -ℤ pos b) *ℤ (c -ℤ pos b -ℤ pos 1)) ≡ middle_square b c
  unfolding middle_square
  middle_is = omega (arith, off_square)

  pub product_is : nat_abs (held (held (held c -ℤ to_z w64 b) *ℤ held (held (held c -ℤ to_z w64 b) -ℤ pos 1))) ≡ middle_square b c
  product_is = ap nat_abs product_held.same ∙ middle_is

  pub middle_four : 4 * middle_square b c + 1 ≡ square (nat_abs (off 2 (2 * b + 1) c))
  middle_four = omega (arith, middle_is, off_square)

  pub middle_few : middle_square b c ≤ reach * (reach + 1)
  middle_few = omega (arith, middle_is, product_held.size)

  -- ---- and its end, this much further
  module _ {s : ℕ} (q : SmallPlace s) where
    abbrev here : ℤ
    here = c -ℤ pos b

    length_near : Near (to_z w64 s) (pos s) longest_side
    length_near = near_cast s longest_side q.most tt

    pub after_near : Near (to_z w64 s -ℤ held (held c -ℤ to_z w64 b)) (pos s -ℤ here) (longest_side + reach)
    after_near = near_sub {x = pos s} {y = here} length_near before_held

    after_held : Near (held (to_z w64 s -ℤ held (held c -ℤ to_z w64 b))) (pos s -ℤ here) (longest_side + reach)
    after_held = near_back {x = pos s -ℤ here} after_near tt

    tested : {t : Bool} → lt_z (held (to_z w64 s -ℤ held (held c -ℤ to_z w64 b))) (held (held c -ℤ to_z w64 b)) ≡ t → lt_z (pos s -ℤ here) here ≡ t
    tested e = sym (ap₂ lt_z after_held.same before_held.same) ∙ e

    gap_begin : gap b c ≡ nat_abs here
    gap_begin = ap nat_abs (eq_by (ν b ⊖ ι c) (⊝ (ι c ⊖ ν b)) (omega arith)) ∙ size_neg here

    gap_end : gap (b + s) c ≡ nat_abs (pos s -ℤ here)
    gap_end = ap nat_abs (eq_by (ν (b + s) ⊖ ι c) (ν s ⊖ (ι c ⊖ ν b)) (omega arith))

    far_by : (t : Bool) → lt_z (held (to_z w64 s -ℤ held (held c -ℤ to_z w64 b))) (held (held c -ℤ to_z w64 b)) ≡ t →
        nat_abs (held (cond t (held (held c -ℤ to_z w64 b)) (held (to_z w64 s -ℤ held (held c -ℤ to_z w64 b))))) ≡ farthest b (b + s) c
    unfolding farthest
    far_by true t =
        let later = earlier_most here s (lt_z_true (pos s -ℤ here) here (tested t)) in
        ap nat_abs (near_back {x = here} before_held tt).same ∙ sym gap_begin ∙ sym (lower (gap b c) (gap (b + s) c) (omega (arith, gap_begin, gap_end, later)))
    far_by false t =
        let later = later_most here s (lt_z_false (pos s -ℤ here) here (tested t)) in
        ap nat_abs (near_back {x = pos s -ℤ here} after_held tt).same ∙ sym gap_end
        ∙ sym (upper (gap b c) (gap (b + s) c) (omega (arith, gap_begin, gap_end, later)))

    -- the greater of the two differences
    pub farthest_is : {m : ℤ} → m ≡ int_max (held (held c -ℤ to_z w64 b)) (held (to_z w64 s -ℤ held (held c -ℤ to_z w64 b))) → nat_abs (held m) ≡ farthest b (b + s) c
    farthest_is e = ap (λ (x : ℤ). nat_abs (held x)) e ∙ far_by _ refl

    far_few : farthest b (b + s) c ≤ gap_limit
    unfolding farthest
    far_few = either (gap b c) (gap (b + s) c) gap_limit (omega (arith, gap_begin, before_near.size)) (omega (arith, gap_end, after_near.size))

    -- the nearest point is nearer by the length than the farthest, and 0 within
    abbrev nears : ℕ → Type 0
    nears n = n ≡ farthest b (b + s) c - s

    near_before : c <ℤ pos b → nears (gap b c)
    unfolding farthest
    near_before h =
        let l = lt_of (ι c) (ν b) h in
        let e : gap (b + s) c ≡ gap b c + s = omega (arith, gap_below b c (omega (arith, l)), gap_below (b + s) c (omega (arith, l))) in
        omega (arith, e, upper (gap b c) (gap (b + s) c) (omega (arith, e)))

    near_after : pos (b + s) <ℤ c → nears (gap (b + s) c)
    unfolding farthest
    near_after h =
        let l = lt_of (ν (b + s)) (ι c) h in
        let e : gap b c ≡ gap (b + s) c + s = omega (arith, gap_above b c (omega (arith, l)), gap_above (b + s) c (omega (arith, l))) in
        omega (arith, e, lower (gap b c) (gap (b + s) c) (omega (arith, e)))

    near_within : pos b ≤ℤ c → c ≤ℤ pos (b + s) → nears 0
    unfolding farthest
    near_within h l =
        let e : gap b c + gap (b + s) c ≡ s = omega (arith, gap_above b c (le_of (ν b) (ι c) h), gap_below (b + s) c (le_of (ι c) (ν (b + s)) l)) in
        omega (arith, either (gap b c) (gap (b + s) c) s (omega (arith, e)) (omega (arith, e)))

    pub near_is : nearest b (b + s) c ≡ farthest b (b + s) c - s
    unfolding nearest
    near_is = by (lt_z c (pos b)) (lt_z (pos (b + s)) c) refl refl
      where
        by : (t r : Bool) → lt_z c (pos b) ≡ t → lt_z (pos (b + s)) c ≡ r → nears (cond t (gap b c) (cond r (gap (b + s) c) 0))
        by true r e f = near_before (lt_z_true c (pos b) e)
        by false true e f = near_after (lt_z_true (pos (b + s)) c f)
        by false false e f = near_within (lt_z_false c (pos b) e) (lt_z_false (pos (b + s)) c f)

    near_few : nearest b (b + s) c ≤ farthest b (b + s) c
    near_few = omega (arith, near_is)

    -- the squares along the axis, by what the calls answered
    module _ {f : ℕ} (e : f ≡ farthest b (b + s) (held c)) where
      far_same : f ≡ farthest b (b + s) c
      far_same = e ∙ ap (farthest b (b + s)) centre_near.same

      pub far_fits : Fits w64 (f * f)
      far_fits = square_fits (omega (arith, far_same, far_few))

      module _ {n : ℕ} (g : n ≡ f - s) where
        pub near_fits : Fits w64 (n * n)
        near_fits = square_fits (omega (arith, g, far_same, far_few))

        pub squares_are : {m : ℕ} → m ≡ middle_square b (held c) → record { near = n * n; far = f * f; middle = m } ≡ squares_along b s c
        unfolding squares_along
        squares_are h =
            let i : n ≡ nearest b (b + s) c = omega (arith, g, far_same, near_is) in
            let j : middle_square b (held c) ≡ middle_square b c = ap (middle_square b) centre_near.same in
            rw (h, j, i, far_same)

    pub held_along : squares_along b s (held c) ≡ squares_along b s c
    held_along = ap (squares_along b s) centre_near.same

    -- they are small, and the nearest is the least
    pub along_ordered : (squares_along b s c).near ≤ (squares_along b s c).far
    unfolding squares_along
    along_ordered = mul-le-mul near_few near_few

    pub along_few : (squares_along b s c).far ≤ square_limit
    unfolding squares_along
    along_few = square_few far_few

    pub along_middle : (squares_along b s c).middle ≤ square_limit
    unfolding squares_along
    along_middle = omega (arith, middle_few)

    pub along_nears : (squares_along b s c).near ≡ square (nearest b (b + s) c)
    unfolding squares_along
    along_nears = refl

    pub along_fars : (squares_along b s c).far ≡ square (farthest b (b + s) c)
    unfolding squares_along
    along_fars = refl

    pub along_middles : 4 * (squares_along b s c).middle + 1 ≡ square (nat_abs (off 2 (2 * b + 1) c))
    unfolding squares_along
    along_middles = middle_four

-- ---- the radius of ball i
module _ {ball : Ball} (small : SmallBall ball) where
  radius_few : radius_squared ball ≤ radius_limit * radius_limit
  radius_few = mul-le-mul small.radius small.radius

  pub radius_four : {most : ℕ} → most ≡ radius_squared ball → Fits w64 (4 * most)
  radius_four e = record { fits = omega (arith, radius_few) }

-- ---- what judging asks is what each ball asks
pub ball_ready : {axes : ℕ} {balls : List ℤ} {low : List ℕ} {i : ℕ} → axes ≤ most_axes → ((k : ℕ) → k < ball_count balls → SmallBall (ball_at balls k)) →
    SmallPlaces low → i < ball_count balls → BallReady (axes - 1) balls i low
ball_ready {i = i} few small lows l = record { few = omega arith; named = l; small = small i l; lows = lows }

-- ---- along one place axis
module _ {places i : ℕ} {balls : List ℤ} {low : List ℕ} (r : BallReady places balls i low) {axis : ℕ} (h : axis < places) where
  abbrev c : ℤ
  c = (ball_at balls i).centre axis

  pub axis_few : axis < most_axes
  axis_few = omega (arith, r.few)

  pub centre_small : BallCentre c
  centre_small = record { most = r.small.centre axis (omega (arith, r.few)) }

  pub begin_small : SmallPlace (get_or low axis 0)
  begin_small = r.lows.place axis

  pub centre_asks : BallCentre (held c)
  centre_asks = held_asks begin_small centre_small

  pub side_small : {side : List ℕ} → SmallPlaces side → SmallPlace (get_or side axis 0)
  side_small q = q.place axis

-- ---- what has been added up before an axis
pub record Walked (places i : ℕ) (balls : List ℤ) (low side : List ℕ) (near far middle axis : ℕ) : Type 0 where
  pub within : axis ≤ places
  pub nears : near ≡ near_over axis (ball_at balls i) low side
  pub fars : far ≡ far_over axis (ball_at balls i) low side
  pub middles : 4 * middle + axis ≡ off_over axis (ball_at balls i) low
  pub ordered : near ≤ far
  pub far_most : far ≤ axis * square_limit
  pub middle_most : middle ≤ axis * square_limit

pub walk_starts : {places i : ℕ} {balls : List ℤ} {low side : List ℕ} → Walked places i balls low side 0 0 0 0
unfolding near_over far_over off_over sum
walk_starts = record {
  within = omega arith;
  nears = refl;
  fars = refl;
  middles = refl;
  ordered = omega arith;
  far_most = omega arith;
  middle_most = omega arith;
}

module _ {places i : ℕ} {balls : List ℤ} {low side : List ℕ} (r : BallReady places balls i low) (q : SmallPlaces side)
    {near far middle axis : ℕ} (w : Walked places i balls low side near far middle axis) where
  module _ (h : axis < places) {found : Squares} (e : found ≡ squares_along (get_or low axis 0) (get_or side axis 0) (held ((ball_at balls i).centre axis))) where
    abbrev along : Squares
    along = squares_along (get_or low axis 0) (get_or side axis 0) ((ball_at balls i).centre axis)

    same : found ≡ along
    same = e ∙ held_along (begin_small r h) (centre_small r h) (side_small r h q)

    near_found : found.near ≡ square (nearest (get_or low axis 0) (get_or low axis 0 + get_or side axis 0) ((ball_at balls i).centre axis))
    near_found = ap (λ (x : Squares). x.near) same ∙ along_nears (begin_small r h) (centre_small r h) (side_small r h q)

    far_found : found.far ≡ square (farthest (get_or low axis 0) (get_or low axis 0 + get_or side axis 0) ((ball_at balls i).centre axis))
    far_found = ap (λ (x : Squares). x.far) same ∙ along_fars (begin_small r h) (centre_small r h) (side_small r h q)

    middle_found : 4 * found.middle + 1 ≡ square (nat_abs (off 2 (2 * get_or low axis 0 + 1) ((ball_at balls i).centre axis)))
    middle_found = ap (λ (x : Squares). 4 * x.middle + 1) same ∙ along_middles (begin_small r h) (centre_small r h) (side_small r h q)

    found_ordered : found.near ≤ found.far
    found_ordered = subst (λ (x : Squares). x.near ≤ x.far) (sym same) (along_ordered (begin_small r h) (centre_small r h) (side_small r h q))

    found_few : found.far ≤ square_limit
    found_few = subst (λ (x : Squares). x.far ≤ square_limit) (sym same) (along_few (begin_small r h) (centre_small r h) (side_small r h q))

    found_middle : found.middle ≤ square_limit
    found_middle = subst (λ (x : Squares). x.middle ≤ square_limit) (sym same) (along_middle (begin_small r h) (centre_small r h) (side_small r h q))

    pub near_sum_fits : Fits w64 (near + found.near)
    near_sum_fits = record { fits = omega (arith, w.ordered, w.far_most, found_ordered, found_few, r.few) }

    pub far_sum_fits : Fits w64 (far + found.far)
    far_sum_fits = record { fits = omega (arith, w.far_most, found_few, r.few) }

    pub middle_sum_fits : Fits w64 (middle + found.middle)
    middle_sum_fits = record { fits = omega (arith, w.middle_most, found_middle, r.few) }

    pub walk_steps : Walked places i balls low side (near + found.near) (far + found.far) (middle + found.middle) (axis + 1)
    unfolding near_over far_over off_over sum
    walk_steps =
        let next : suc axis ≡ axis + 1 = omega arith in
        subst (Walked places i balls low side (near + found.near) (far + found.far) (middle + found.middle)) next (record {
          within = omega arith;
          nears = ap₂ ◌+◌ w.nears near_found;
          fars = ap₂ ◌+◌ w.fars far_found;
          middles = omega (arith, w.middles, middle_found);
          ordered = omega (arith, w.ordered, found_ordered);
          far_most = omega (arith, w.far_most, found_few);
          middle_most = omega (arith, w.middle_most, found_middle);
        })

  pub middle_four_fits : Fits w64 (4 * middle)
  middle_four_fits = record { fits = omega (arith, w.middle_most, w.within, r.few) }

  pub off_fits : Fits w64 (4 * middle + places)
  off_fits = record { fits = omega (arith, w.middle_most, w.within, r.few) }

  -- at the end the tests are the code
  module _ (l : places ≤ axis) {most k : ℕ} (m : most ≡ radius_squared (ball_at balls i))
      (e : k ≡ voxel_code (tested_code (leb far most) (ltb most near)) (tested_code (leb (4 * middle + places) (4 * most)) true)) where
    pub walk_ends : k ≡ ball_code true places (ball_at balls i) low side
    walk_ends =
        let last : axis ≡ places = omega (arith, w.within) in
        let o : 4 * middle + places ≡ off_over axis (ball_at balls i) low = omega (arith, w.middles, last) in
        e ∙ rw (o, m, w.nears, w.fars, last)

    pub walk_most : k ≤ most_code
    walk_most = ball_most true places (ball_at balls i) low side walk_ends

-- and of both blocks both
pub walks_end : {places i : ℕ} {balls : List ℤ} {low high side : List ℕ} {near far middle near' far' middle' axis most below above codes : ℕ} →
    BallReady places balls i low → BallReady places balls i high → SmallPlaces side →
    Walked places i balls low side near far middle axis × Walked places i balls high side near' far' middle' axis →
    places ≤ axis → most ≡ radius_squared (ball_at balls i) →
    below ≡ voxel_code (tested_code (leb far most) (ltb most near)) (tested_code (leb (4 * middle + places) (4 * most)) true) →
    above ≡ voxel_code (tested_code (leb far' most) (ltb most near')) (tested_code (leb (4 * middle' + places) (4 * most)) true) →
    codes ≡ paired below above →
    codes ≡ paired (ball_code true places (ball_at balls i) low side) (ball_code true places (ball_at balls i) high side)
walks_end r r' q w l m e f g = g ∙ ap₂ paired (walk_ends r q w.0 l m e) (walk_ends r' q w.1 l m f)

pub axes_left_lem : {axis places : ℕ} → axis < places → places - (axis + 1) < places - axis
axes_left_lem h = omega arith

-- all that the loop asks
pub ruleset ball_laws = (
  rules,
  axis_few,
  begin_small,
  side_small,
  centre_asks,
  walk_starts,
  near_sum_fits,
  far_sum_fits,
  middle_sum_fits,
  walk_steps,
  middle_four_fits,
  off_fits,
  radius_four,
  walk_most,
  walks_end,
  axes_left_lem,
)
