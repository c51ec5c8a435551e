-- Balls over blocks. THE EXTREMES ARE TRUE: at every point p / q of a block the value lies between least and greatest, and takes both at whole points. A mark
-- tells how the radius squared stands to the sums of the nearest and of the farthest squares (`Told`), which fixes it; what it says of the centres, of every
-- point and of every part of the block follows by comparing these sums axis by axis.
use Prim.Native.Nat.{ℕ, zero, suc, ◌+◌, ◌*◌, ◌≤◌, ◌<◌}
use mathlib.Core.Path.{◌≡◌, refl, sym, ap, ap₂, subst, ◌∙◌}
use mathlib.Core.Bool.{Bool, true, false, cond}
use mathlib.Core.Logic.{◌⊎◌, inl, inr}
use mathlib.Core.List.{List}
use native.Mathlib.Omega.{arith}
use native.Mathlib.Nat.{mul-le-mul, mul-le-mul_left, mul-pos}
use lib.IntN.{ℤ, pos, negsuc, nat_abs, ◌+ℤ◌, ◌-ℤ◌, ◌*ℤ◌}
use lib.Signed.{◌≤ℤ◌, ◌<ℤ◌, le_z}
use Rattle.lemmas.specs.Sums.{sum, total}
use Rattle.lemmas.proofs.Sums.{sum_cong, sum_mono, total_cong}
use Rattle.lemmas.proofs.Whole.{ν, ◌⊖◌, ◌⊗◌, le_by, lt_by, le_of, lt_of, le_z_true, le_z_false, le_or_lt, le_le_z, lt_le_z, lt_lt_z, le_lt_z}
use Rattle.universe.specs.declared.Universe.{Universe}
use Rattle.universe.specs.declared.Block.{Block}
use Rattle.universe.specs.Universe.{frame_axis}
use Rattle.universe.specs.Block.{low_along, length_along}
use Rattle.universe.specs.Voxel.{place_along, Within}
use Rattle.bintree.specs.declared.Colour.{Colour}
use Rattle.bintree.specs.declared.Colour.TheVariants.{White, Black}
use Rattle.csg.specs.Halfspace.{Mark, decided, undecided}
use Rattle.csg.specs.Ball.{Ball, place_axes, square, radius_squared, nearest, farthest, near_sum, far_sum, ball_least, ball_greatest, ball_mark}
use Rattle.csg.specs.Ball.{off, distance_at, ball_value, ball_colour, HasPoint}
use Rattle.csg.proofs.Halfspace.{axes_of, end_along}
use Rattle.csg.proofs.Nested.{Nested}
use Rattle.csg.proofs.Distances.{Reached, AtEnd, near_below, far_above, near_reached, far_reached, near_grows, far_falls, near_far}

-- ---- sums of squares
sum_scaled : (n q : ℕ) (f : ℕ → ℕ) → sum n (λ i. square (q * f i)) ≡ square q * sum n (λ i. square (f i))
unfolding sum
sum_scaled zero q f = omega arith
sum_scaled (suc n) q f = omega (arith, sum_scaled n q f)

squares : (n : ℕ) (f g : ℕ → ℕ) → ((i : ℕ) → i < n → f i ≤ g i) → sum n (λ i. square (f i)) ≤ sum n (λ i. square (g i))
squares n f g h = sum_mono n (λ i. square (f i)) (λ i. square (g i)) (λ i m. mul-le-mul (h i m) (h i m))

squared : (z : ℤ) → z *ℤ z ≡ pos (square (nat_abs z))
squared (pos k) = refl
squared (negsuc k) = refl

total_squares : (n : ℕ) (f : ℕ → ℤ) → total n (λ i. f i *ℤ f i) ≡ pos (sum n (λ i. square (nat_abs (f i))))
unfolding sum total
total_squares zero f = refl
total_squares (suc n) f = ap₂ ◌+ℤ◌ (total_squares n f) (squared (f n))

-- the distance squared as a natural number
abbrev pub off_sum : Universe → Ball → ℕ → (ℕ → ℕ) → ℕ
off_sum u ball q p = sum (place_axes u) (λ i. square (nat_abs (off q (p i) (ball.centre i))))

pub distance_is : (u : Universe) (ball : Ball) (q : ℕ) (p : ℕ → ℕ) → distance_at u ball q p ≡ pos (off_sum u ball q p)
unfolding distance_at
distance_is u ball q p = total_squares (place_axes u) (λ i. off q (p i) (ball.centre i))

-- a place axis is an axis
is_axis : (u : Universe) {i : ℕ} → i < frame_axis u → i < u.axes
is_axis u h = omega arith

module _ (ball : Ball) (b : Block) where
  -- along axis i
  abbrev near : ℕ → ℕ
  near i = nearest (low_along b i) (end_along b i) (ball.centre i)

  abbrev far : ℕ → ℕ
  far i = farthest (low_along b i) (end_along b i) (ball.centre i)

  abbrev places : ℕ
  places = place_axes b.universe

  -- ---- at a point p / q of the block, where the place axes alone count
  module _ (q : ℕ) (p : ℕ → ℕ) (above : (i : ℕ) → i < frame_axis b.universe → q * low_along b i ≤ p i)
      (below : (i : ℕ) → i < frame_axis b.universe → p i ≤ q * end_along b i) where
    near_all : square q * near_sum ball b ≤ off_sum b.universe ball q p
    unfolding near_sum
    near_all = omega (
      arith,
      sum_scaled places q near,
      squares places (λ i. q * near i) (λ i. nat_abs (off q (p i) (ball.centre i)))
          (λ i m. near_below (low_along b i) (end_along b i) q (p i) (ball.centre i) (above i m) (below i m)),
    )

    far_all : off_sum b.universe ball q p ≤ square q * far_sum ball b
    unfolding far_sum
    far_all = omega (
      arith,
      sum_scaled places q far,
      squares places (λ i. nat_abs (off q (p i) (ball.centre i))) (λ i. q * far i)
          (λ i m. far_above (low_along b i) (end_along b i) q (p i) (ball.centre i) (above i m) (below i m)),
    )

  -- THEOREM: no point of the block has a value outside
  module _ (q : ℕ) (p : ℕ → ℕ) (w : HasPoint b q p) where
    pub ball_least_below : (pos (square q) *ℤ ball_least ball b) ≤ℤ ball_value b.universe ball q p
    unfolding ball_least ball_value
    ball_least_below =
        rw (distance_is b.universe ball q p)
        (le_by
        (ν (square q) ⊗ (ν (radius_squared ball) ⊖ ν (far_sum ball b)))
        (ν (square q * radius_squared ball) ⊖ ν (off_sum b.universe ball q p))
        (omega (arith, far_all q p (λ i m. w.above i (is_axis b.universe m)) (λ i m. w.below i (is_axis b.universe m)))))

    pub ball_greatest_above : ball_value b.universe ball q p ≤ℤ (pos (square q) *ℤ ball_greatest ball b)
    unfolding ball_greatest ball_value
    ball_greatest_above =
        rw (distance_is b.universe ball q p)
        (le_by
        (ν (square q * radius_squared ball) ⊖ ν (off_sum b.universe ball q p))
        (ν (square q) ⊗ (ν (radius_squared ball) ⊖ ν (near_sum ball b)))
        (omega (arith, near_all q p (λ i m. w.above i (is_axis b.universe m)) (λ i m. w.below i (is_axis b.universe m)))))

  -- THEOREM: both are attained, the least at a corner, the greatest at a whole point
  pub record Attained (m : ℤ) : Type 0 where
    pub at : ℕ → ℕ
    pub within : HasPoint b 1 at
    pub there : ball_value b.universe ball 1 at ≡ m

  pub record AtCorner (m : ℤ) : Type 0 where
    pub attained : Attained m
    pub corner : (i : ℕ) → (attained.at i ≡ low_along b i) ⊎ (attained.at i ≡ end_along b i)

  -- the value at a whole point whose distances along the axes are these
  value_there : (p f : ℕ → ℕ) → ((i : ℕ) → nat_abs (off 1 (p i) (ball.centre i)) ≡ f i) →
      ball_value b.universe ball 1 p ≡ pos (radius_squared ball) -ℤ pos (sum places (λ i. square (f i)))
  unfolding ball_value
  value_there p f there =
      ap₂ (λ (s : ℕ) (t : ℤ). pos s -ℤ t) (omega arith)
      (distance_is b.universe ball 1 p ∙ ap pos (sum_cong places _ _ (λ i l. ap square (there i))))

  pub ball_least_attained : AtCorner (ball_least ball b)
  unfolding ball_least far_sum
  ball_least_attained =
      let r : (i : ℕ) → AtEnd (low_along b i) (end_along b i) (ball.centre i) (far i) =
      λ i. far_reached (low_along b i) (end_along b i) (ball.centre i) (omega arith) in
      record {
        attained = record {
          at = λ i. (r i).reached.at;
          within = record { above = λ i m. omega (arith, (r i).reached.above); below = λ i m. omega (arith, (r i).reached.below) };
          there = value_there (λ i. (r i).reached.at) far (λ i. (r i).reached.there);
        };
        corner = λ i. (r i).end;
      }

  pub ball_greatest_attained : Attained (ball_greatest ball b)
  unfolding ball_greatest near_sum
  ball_greatest_attained =
      let r : (i : ℕ) → Reached (low_along b i) (end_along b i) (ball.centre i) (near i) =
      λ i. near_reached (low_along b i) (end_along b i) (ball.centre i) (omega arith) in
      record {
        at = λ i. (r i).at;
        within = record { above = λ i m. omega (arith, (r i).above); below = λ i m. omega (arith, (r i).below) };
        there = value_there (λ i. (r i).at) near (λ i. (r i).there);
      }

  near_far_all : near_sum ball b ≤ far_sum ball b
  unfolding near_sum far_sum
  near_far_all = squares places near far (λ i m. near_far (low_along b i) (end_along b i) (ball.centre i) (omega arith))

-- ---- a block that is a part of another along the place axes
pub record PartOf (part b : Block) : Type 0 where
  pub axes : axes_of part ≡ axes_of b
  pub above : (i : ℕ) → i < frame_axis b.universe → low_along b i ≤ low_along part i
  pub below : (i : ℕ) → i < frame_axis b.universe → end_along part i ≤ end_along b i

module _ (ball : Ball) (part b : Block) (w : PartOf part b) where
  same_places : place_axes part.universe ≡ place_axes b.universe
  same_places = omega (arith, w.axes)

  near_all_grows : near_sum ball b ≤ near_sum ball part
  unfolding near_sum
  near_all_grows =
      rw same_places
      (squares (places ball b) (near ball b) (near ball part)
      (λ i m. near_grows (low_along b i) (end_along b i) (low_along part i) (end_along part i) (ball.centre i) (omega arith) (w.above i m) (w.below i m)))

  far_all_falls : far_sum ball part ≤ far_sum ball b
  unfolding far_sum
  far_all_falls =
      rw same_places
      (squares (places ball b) (far ball part) (far ball b)
      (λ i m. far_falls (low_along b i) (end_along b i) (low_along part i) (end_along part i) (ball.centre i) (omega arith) (w.above i m) (w.below i m)))

  -- in a part the least only grows and the greatest only falls
  pub ball_least_grows : ball_least ball b ≤ℤ ball_least ball part
  unfolding ball_least
  ball_least_grows =
      le_by (ν (radius_squared ball) ⊖ ν (far_sum ball b)) (ν (radius_squared ball) ⊖ ν (far_sum ball part)) (omega (arith, far_all_falls))

  pub ball_greatest_falls : ball_greatest ball part ≤ℤ ball_greatest ball b
  unfolding ball_greatest
  ball_greatest_falls =
      le_by (ν (radius_squared ball) ⊖ ν (near_sum ball part)) (ν (radius_squared ball) ⊖ ν (near_sum ball b)) (omega (arith, near_all_grows))

-- ---- what a mark tells of the radius squared and of the two sums
pub data Told (r near far : ℕ) : Mark → Type 0 where
  is_black_lem : far ≤ r → Told r near far (decided Black)
  is_white : r < near → r < far → Told r near far (decided White)
  is_undecided : near ≤ r → r < far → Told r near far undecided

-- and these fix it
pub told_same : {r near far : ℕ} {m k : Mark} → Told r near far m → Told r near far k → m ≡ k
told_same (is_black_lem a) (is_black_lem d) = refl
told_same (is_black_lem a) (is_white d e) = absurd (omega arith)
told_same (is_black_lem a) (is_undecided d e) = absurd (omega arith)
told_same (is_white a b) (is_black_lem d) = absurd (omega arith)
told_same (is_white a b) (is_white d e) = refl
told_same (is_white a b) (is_undecided d e) = absurd (omega arith)
told_same (is_undecided a b) (is_black_lem d) = absurd (omega arith)
told_same (is_undecided a b) (is_white d e) = absurd (omega arith)
told_same (is_undecided a b) (is_undecided d e) = refl

-- rule 2.8: the mark by the least and the greatest
module _ (ball : Ball) (b : Block) where
  pub ball_black : pos 0 ≤ℤ ball_least ball b → ball_mark ball b ≡ decided Black
  unfolding ball_mark
  ball_black m = simp (le_le_z m)

  pub ball_across : ball_least ball b <ℤ pos 0 → pos 0 ≤ℤ ball_greatest ball b → ball_mark ball b ≡ undecided
  unfolding ball_mark
  ball_across k m = simp (lt_le_z k, le_lt_z m)

  pub ball_white : ball_least ball b <ℤ pos 0 → ball_greatest ball b <ℤ pos 0 → ball_mark ball b ≡ decided White
  unfolding ball_mark
  ball_white k m = simp (lt_le_z k, lt_lt_z m)

  pub told : Told (radius_squared ball) (near_sum ball b) (far_sum ball b) (ball_mark ball b)
  unfolding ball_least ball_greatest
  told = by (le_or_lt (pos 0) (ball_least ball b)) (le_or_lt (pos 0) (ball_greatest ball b))
    where
      far_less : ball_least ball b <ℤ pos 0 → radius_squared ball < far_sum ball b
      far_less k = omega (arith, lt_of (ν (radius_squared ball) ⊖ ν (far_sum ball b)) (ν 0) k)

      by : (pos 0 ≤ℤ ball_least ball b) ⊎ (ball_least ball b <ℤ pos 0) → (pos 0 ≤ℤ ball_greatest ball b) ⊎ (ball_greatest ball b <ℤ pos 0) →
          Told (radius_squared ball) (near_sum ball b) (far_sum ball b) (ball_mark ball b)
      by (inl k) m = rw (ball_black k) (is_black_lem (omega (arith, le_of (ν 0) (ν (radius_squared ball) ⊖ ν (far_sum ball b)) k)))
      by (inr k) (inr m) =
          rw (ball_white k m) (is_white (omega (arith, lt_of (ν (radius_squared ball) ⊖ ν (near_sum ball b)) (ν 0) m)) (far_less k))
      by (inr k) (inl m) =
          rw (ball_across k m) (is_undecided (omega (arith, le_of (ν 0) (ν (radius_squared ball) ⊖ ν (near_sum ball b)) m)) (far_less k))

module _ (ball : Ball) (b : Block) where
  abbrev Says : Mark → Type 0
  Says m = Told (radius_squared ball) (near_sum ball b) (far_sum ball b) m

  module _ (c : Colour) (e : ball_mark ball b ≡ decided c) where
    says : Says (decided c)
    says = subst Says e (told ball b)

    -- a decided ball stays decided with its colour in every part of the block
    stays : (part : Block) → PartOf part b → ball_mark ball part ≡ decided c
    stays part w = told_same (told ball part) (by says)
      where
        by : {c : Colour} → Says (decided c) → Told (radius_squared ball) (near_sum ball part) (far_sum ball part) (decided c)
        by (is_black_lem a) = is_black_lem (omega (arith, far_all_falls ball part b w))
        by (is_white a d) =
            is_white (omega (arith, near_all_grows ball part b w)) (omega (arith, near_all_grows ball part b w, near_far_all ball part))

    -- sound at every point p / q of the block: BLACK where the distance is at most the radius, WHITE where it is more
    pub ball_sound_at : (q : ℕ) (p : ℕ → ℕ) → 0 < q → HasPoint b q p → cond (le_z (pos 0) (ball_value b.universe ball q p)) Black White ≡ c
    unfolding ball_value
    ball_sound_at q p h w = rw (distance_is b.universe ball q p) (by says)
      where
        r : ℕ
        r = radius_squared ball

        o : ℕ
        o = off_sum b.universe ball q p

        farther : o ≤ square q * far_sum ball b
        farther = far_all ball b q p (λ i m. w.above i (is_axis b.universe m)) (λ i m. w.below i (is_axis b.universe m))

        nearer : square q * near_sum ball b ≤ o
        nearer = near_all ball b q p (λ i m. w.above i (is_axis b.universe m)) (λ i m. w.below i (is_axis b.universe m))

        by : {c : Colour} → Says (decided c) → cond (le_z (pos 0) (pos (square q * r) -ℤ pos o)) Black White ≡ c
        by (is_black_lem a) = rw (le_le_z (le_by (ν 0) (ν (square q * r) ⊖ ν o) (omega (arith, farther, mul-le-mul_left (square q) a)))) refl
        by (is_white a d) =
            let some : 0 < square q = mul-pos h h in
            rw (lt_le_z (lt_by (ν (square q * r) ⊖ ν o) (ν 0) (omega (arith, nearer, mul-le-mul_left (square q) a)))) refl

-- ---- rule 2.9: the test at a centre is the ball's own at the point (2c + 1) / 2
abbrev middle : List ℕ → ℕ → ℕ
middle v i = 2 * place_along v i + 1

pub ball_colour_is : (u : Universe) (ball : Ball) (v : List ℕ) → ball_colour u ball v ≡ cond (le_z (pos 0) (ball_value u ball 2 (middle v))) Black White
unfolding ball_colour ball_value
ball_colour_is u ball v =
    rw (distance_is u ball 2 (middle v)) (ap (λ (t : Bool). cond t Black White) (same (off_sum u ball 2 (middle v)) (4 * radius_squared ball)))
  where
    same : (o r : ℕ) → le_z (pos o) (pos r) ≡ le_z (pos 0) (pos r -ℤ pos o)
    same o r = by (le_z (pos o) (pos r)) refl
      where
        by : (t : Bool) → le_z (pos o) (pos r) ≡ t → t ≡ le_z (pos 0) (pos r -ℤ pos o)
        by true e = sym (le_le_z (le_by (ν 0) (ν r ⊖ ν o) (omega (arith, le_of (ν o) (ν r) (le_z_true _ _ e)))))
        by false e = sym (lt_le_z (lt_by (ν r ⊖ ν o) (ν 0) (omega (arith, lt_of (ν r) (ν o) (le_z_false _ _ e)))))

-- ---- as for the halfspace: sound at the centres in the block, and persistent in its parts
pub ball_sound : (ball : Ball) (b : Block) (c : Colour) (v : List ℕ) → ball_mark ball b ≡ decided c → Within b v → ball_colour b.universe ball v ≡ c
ball_sound ball b c v e w =
    ball_colour_is b.universe ball v
    ∙ ball_sound_at ball b c e 2 (middle v) (omega arith)
    (record { above = λ i l. omega (arith, w.above i l); below = λ i l. omega (arith, w.below i l) })

pub ball_nested : (ball : Ball) (part b : Block) → Nested part b → (c : Colour) → ball_mark ball b ≡ decided c → ball_mark ball part ≡ decided c
ball_nested ball part b n c e = stays ball b c e part (record {
  axes = n.axes;
  above = λ i m. n.above i (is_axis b.universe m);
  below = λ i m. n.below i (is_axis b.universe m);
})

-- ---- an undecided block has whole points of both kinds: no mark could say more
pub ball_undecided : (ball : Ball) (b : Block) → ball_mark ball b ≡ undecided →
    (ball_value b.universe ball 1 (ball_least_attained ball b).attained.at <ℤ pos 0)
    × (pos 0 ≤ℤ ball_value b.universe ball 1 (ball_greatest_attained ball b).at)
unfolding ball_least ball_greatest
ball_undecided ball b e =
    rw ((ball_least_attained ball b).attained.there, (ball_greatest_attained ball b).there) (by (subst (Says ball b) e (told ball b)))
  where
    by : Says ball b undecided → ((pos (radius_squared ball) -ℤ pos (far_sum ball b)) <ℤ pos 0) × (pos 0 ≤ℤ (pos (radius_squared ball) -ℤ pos (near_sum ball b)))
    by (is_undecided a d) =
        (lt_by (ν (radius_squared ball) ⊖ ν (far_sum ball b)) (ν 0) (omega arith), le_by (ν 0) (ν (radius_squared ball) ⊖ ν (near_sum ball b)) (omega arith))

-- ---- rule 2.7: the same at all times; blocks alike on the place axes have one mark, and voxels alike there one colour
pub ball_timeless : (ball : Ball) (a b : Block) → axes_of a ≡ axes_of b → ((i : ℕ) → i < frame_axis b.universe → low_along a i ≡ low_along b i) →
    ((i : ℕ) → i < frame_axis b.universe → length_along a i ≡ length_along b i) → ball_mark ball a ≡ ball_mark ball b
ball_timeless ball a b d starts lengths = told_same (subst Sums near_same (subst Sums' far_same (told ball a))) (told ball b)
  where
    there : PartOf a b
    there = record { axes = d; above = λ i m. omega (arith, starts i m); below = λ i m. omega (arith, starts i m, lengths i m) }

    back : PartOf b a
    back =
        let same : frame_axis a.universe ≡ frame_axis b.universe = omega (arith, d) in
        record {
          axes = sym d;
          above = λ i m. omega (arith, starts i (omega (arith, same, m)));
          below = λ i m. omega (arith, starts i (omega (arith, same, m)), lengths i (omega (arith, same, m)));
        }

    Sums : ℕ → Type 0
    Sums t = Told (radius_squared ball) t (far_sum ball b) (ball_mark ball a)

    Sums' : ℕ → Type 0
    Sums' t = Told (radius_squared ball) (near_sum ball a) t (ball_mark ball a)

    near_same : near_sum ball a ≡ near_sum ball b
    near_same = omega (arith, near_all_grows ball a b there, near_all_grows ball b a back)

    far_same : far_sum ball a ≡ far_sum ball b
    far_same = omega (arith, far_all_falls ball a b there, far_all_falls ball b a back)

pub ball_timeless_colour : (u : Universe) (ball : Ball) (v w : List ℕ) → ((i : ℕ) → i < frame_axis u → place_along v i ≡ place_along w i) →
    ball_colour u ball v ≡ ball_colour u ball w
unfolding ball_colour distance_at
ball_timeless_colour u ball v w same =
    ap (λ (t : ℤ). cond (le_z t (pos (4 * radius_squared ball))) Black White)
    (total_cong (place_axes u) _ _ (λ i m. ap (λ (x : ℕ). off 2 (2 * x + 1) (ball.centre i) *ℤ off 2 (2 * x + 1) (ball.centre i)) (same i m)))

pub ball_places : (u : Universe) (ball : Ball) (v w : List ℕ) → ((i : ℕ) → i < u.axes → place_along v i ≡ place_along w i) →
    ball_colour u ball v ≡ ball_colour u ball w
ball_places u ball v w same = ball_timeless_colour u ball v w (λ i m. same i (is_axis u m))

-- where there is no place axis the distance is 0, and every ball is BLACK
pub ball_no_place : (ball : Ball) (b : Block) → frame_axis b.universe ≡ 0 → ball_mark ball b ≡ decided Black
unfolding far_sum sum
ball_no_place ball b e = told_same (told ball b) (is_black_lem (rw e (omega arith)))
