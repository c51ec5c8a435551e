-- Halfspaces over blocks. Least, greatest and centre are differences of natural sums (`least_is`, `greatest_is`, `centre_is`), with the ends of
-- the block exchanged between the two sums; all that marks tell follows by comparing these sums axis by axis.
use Prim.Native.Nat.{ℕ, zero, suc, ◌+◌, ◌*◌, ◌≤◌, ◌<◌}
use mathlib.Core.Path.{◌≡◌, refl, ap}
use mathlib.Core.Bool.{Bool, true, false, not, cond}
use mathlib.Core.List.{List}
use native.Mathlib.Omega.{arith}
use native.Mathlib.Nat.{mul-le-mul_left}
use lib.IntN.{ℤ, pos, ◌+ℤ◌, ◌*ℤ◌}
use lib.Signed.{◌≤ℤ◌, ◌<ℤ◌, le_z}
use Rattle.lemmas.specs.Sums.{sum}
use Rattle.lemmas.proofs.Whole.{up, dn, one_part, le_z_true, le_z_false, le_le_z, lt_le_z}
use Rattle.lemmas.proofs.Whole.{Is, is_le, is_lt, is_eq, le_is, lt_is, is_nat, is_self, is_add, is_mul, is_scale}
use Rattle.lemmas.proofs.Sums.{sum_zero, total_cong}
use Rattle.lemmas.proofs.Totals.{total_is, weighted_le, weighted_lt, weightless}
use Rattle.lemmas.proofs.Totals.{centre_above, centre_below, centre_between}
use Rattle.universe.specs.declared.Universe.{Universe}
use Rattle.universe.specs.declared.Block.{Block}
use Rattle.universe.specs.Block.{low_along, length_along}
use Rattle.universe.specs.Voxel.{place_along, Within}
use Rattle.bintree.specs.declared.Colour.{Colour}
use Rattle.bintree.specs.declared.Colour.TheVariants.{White, Black}
use Rattle.csg.specs.Halfspace.{Halfspace, Mark, decided, undecided, corner, value_at, centre_value, colour_at_centre}
use Rattle.csg.specs.Halfspace.{lesser, greater, at_low, at_high, least, greatest, mark_over}

-- ---- values as differences of natural sums
-- how many axes a block has, and its high end along axis i
abbrev pub axes_of : Block → ℕ
axes_of b = b.universe.axes

abbrev pub end_along : Block → ℕ → ℕ
end_along b i = low_along b i + length_along b i

-- the two parts of the coefficient of axis i; what the coefficients add over d axes at a point, and what they take off
abbrev pub added : Halfspace → ℕ → ℕ
added h i = up (h.coefficient i)

abbrev pub taken : Halfspace → ℕ → ℕ
taken h i = dn (h.coefficient i)

unfoldable pub rise : Halfspace → ℕ → (ℕ → ℕ) → ℕ
rise h d x = sum d (λ i. added h i * x i)

unfoldable pub fall : Halfspace → ℕ → (ℕ → ℕ) → ℕ
fall h d x = sum d (λ i. taken h i * x i)

-- of a coefficient at two ends the lesser value has the low end where it adds, and the high end where it takes off; the greater the other way
pub ends_are : (a : ℤ) (l e : ℕ) → l ≤ e →
    Is (lesser (a *ℤ pos l) (a *ℤ pos e)) (up a * l) (dn a * e) × Is (greater (a *ℤ pos l) (a *ℤ pos e)) (up a * e) (dn a * l)
ends_are a l e below = by (le_z (a *ℤ pos l) (a *ℤ pos e)) refl
  where
    at_low_lem : Is (a *ℤ pos l) (up a * l) (dn a * l)
    at_low_lem = is_mul (is_self a) l

    at_end : Is (a *ℤ pos e) (up a * e) (dn a * e)
    at_end = is_mul (is_self a) e

    -- whichever end gives less, the part that would tell them apart the other way is 0
    taken_alike : (a *ℤ pos l) ≤ℤ (a *ℤ pos e) → dn a * l ≡ dn a * e
    taken_alike t = one_part a (dn a * l ≡ dn a * e)
        (λ z. rw z (omega arith))
        (λ z. omega (arith, ap (λ (x : ℕ). x * l) z, ap (λ (x : ℕ). x * e) z, mul-le-mul_left (dn a) below, le_is at_low_lem at_end t))

    added_alike : (a *ℤ pos e) <ℤ (a *ℤ pos l) → up a * l ≡ up a * e
    added_alike t = one_part a (up a * l ≡ up a * e)
        (λ z. omega (arith, ap (λ (x : ℕ). x * l) z, ap (λ (x : ℕ). x * e) z, mul-le-mul_left (up a) below, lt_is at_end at_low_lem t))
        (λ z. rw z (omega arith))

    by : (t : Bool) → le_z (a *ℤ pos l) (a *ℤ pos e) ≡ t →
        Is (cond t (a *ℤ pos l) (a *ℤ pos e)) (up a * l) (dn a * e) × Is (cond t (a *ℤ pos e) (a *ℤ pos l)) (up a * e) (dn a * l)
    by true t =
        let same = taken_alike (le_z_true _ _ t) in
        (record { is = omega (arith, at_low_lem.is, same) }, record { is = omega (arith, at_end.is, same) })
    by false t =
        let same = added_alike (le_z_false _ _ t) in
        (record { is = omega (arith, at_end.is, same) }, record { is = omega (arith, at_low_lem.is, same) })

pub value_is : (u : Universe) (h : Halfspace) (x : ℕ → ℕ) → Is (value_at u h x) (up h.offset + rise h u.axes x) (dn h.offset + fall h u.axes x)
unfolding value_at rise fall
value_is u h x = is_add (is_self h.offset) (total_is u.axes _ _ _ (λ i m. is_mul (is_self (h.coefficient i)) (x i)))

-- twice the place of a voxel's centre along axis i
abbrev middle : List ℕ → ℕ → ℕ
middle v i = 2 * place_along v i + 1

pub centre_is : (u : Universe) (h : Halfspace) (v : List ℕ) →
    Is (centre_value u h v) (2 * up h.offset + rise h u.axes (middle v)) (2 * dn h.offset + fall h u.axes (middle v))
unfolding centre_value rise fall
centre_is u h v = is_add (is_scale 2 (is_self h.offset)) (total_is u.axes _ _ _ (λ i m. is_mul (is_self (h.coefficient i)) (middle v i)))

-- it depends on the voxel's places along the universe's axes
pub centre_places : (u : Universe) (h : Halfspace) (v w : List ℕ) → ((i : ℕ) → i < u.axes → place_along v i ≡ place_along w i) →
    centre_value u h v ≡ centre_value u h w
unfolding centre_value
centre_places u h v w same =
    ap (λ z. pos 2 *ℤ h.offset +ℤ z) (total_cong u.axes _ _ (λ i l. ap (λ x. h.coefficient i *ℤ pos (2 * x + 1)) (same i l)))

pub least_is : (h : Halfspace) (b : Block) →
    Is (least h b) (up h.offset + rise h (axes_of b) (low_along b)) (dn h.offset + fall h (axes_of b) (end_along b))
unfolding least rise fall
least_is h b = is_add (is_self h.offset) (total_is (axes_of b) _ _ _ (λ i m. (ends_are (h.coefficient i) (low_along b i) (end_along b i) (omega arith)).0))

pub greatest_is : (h : Halfspace) (b : Block) →
    Is (greatest h b) (up h.offset + rise h (axes_of b) (end_along b)) (dn h.offset + fall h (axes_of b) (low_along b))
unfolding greatest rise fall
greatest_is h b = is_add (is_self h.offset) (total_is (axes_of b) _ _ _ (λ i m. (ends_are (h.coefficient i) (low_along b i) (end_along b i) (omega arith)).1))

-- ---- rule 2.4: least and greatest are among the values at a block's corners
corner_within : (b : Block) (choice : ℕ → Bool) (i : ℕ) → (low_along b i ≤ corner b choice i) × (corner b choice i ≤ end_along b i)
corner_within b choice i = by (choice i)
  where
    by : (t : Bool) → (low_along b i ≤ cond t (end_along b i) (low_along b i)) × (cond t (end_along b i) (low_along b i) ≤ end_along b i)
    by true = (omega arith, omega arith)
    by false = (omega arith, omega arith)

module _ (h : Halfspace) (b : Block) where
  -- at a point between a block's ends the value is between least and greatest
  module _ (x : ℕ → ℕ) (above : (i : ℕ) → i < axes_of b → low_along b i ≤ x i) (below : (i : ℕ) → i < axes_of b → x i ≤ end_along b i) where
    pub least_below : least h b ≤ℤ value_at b.universe h x
    unfolding rise fall
    least_below =
        is_le (least_is h b) (value_is b.universe h x)
        (omega (arith, weighted_le (axes_of b) (added h) (low_along b) x above, weighted_le (axes_of b) (taken h) x (end_along b) below))

    pub greatest_above : value_at b.universe h x ≤ℤ greatest h b
    unfolding rise fall
    greatest_above =
        is_le (value_is b.universe h x) (greatest_is h b)
        (omega (arith, weighted_le (axes_of b) (added h) x (end_along b) below, weighted_le (axes_of b) (taken h) (low_along b) x above))

  pub least_below_corners : (choice : ℕ → Bool) → least h b ≤ℤ value_at b.universe h (corner b choice)
  least_below_corners choice = least_below (corner b choice) (λ i m. (corner_within b choice i).0) (λ i m. (corner_within b choice i).1)

  pub greatest_above_corners : (choice : ℕ → Bool) → value_at b.universe h (corner b choice) ≤ℤ greatest h b
  greatest_above_corners choice = greatest_above (corner b choice) (λ i m. (corner_within b choice i).0) (λ i m. (corner_within b choice i).1)

  -- whether along axis i the high end gives less than the low one
  falls : ℕ → Bool
  falls i = not (le_z (at_low h b i) (at_high h b i))

  pub least_at_corner : (choice : ℕ → Bool) × (value_at b.universe h (corner b choice) ≡ least h b)
  unfolding value_at least falls
  least_at_corner = (falls, ap (λ (t : ℤ). h.offset +ℤ t) (total_cong (axes_of b) _ _ (λ i m. by i (le_z (at_low h b i) (at_high h b i)))))
    where
      by : (i : ℕ) (t : Bool) → h.coefficient i *ℤ pos (cond (not t) (end_along b i) (low_along b i)) ≡ cond t (at_low h b i) (at_high h b i)
      by i true = refl
      by i false = refl

  pub greatest_at_corner : (choice : ℕ → Bool) × (value_at b.universe h (corner b choice) ≡ greatest h b)
  unfolding value_at greatest falls
  greatest_at_corner =
      ((λ i. not (falls i)), ap (λ (t : ℤ). h.offset +ℤ t) (total_cong (axes_of b) _ _ (λ i m. by i (le_z (at_low h b i) (at_high h b i)))))
    where
      by : (i : ℕ) (t : Bool) → h.coefficient i *ℤ pos (cond (not (not t)) (end_along b i) (low_along b i)) ≡ cond t (at_high h b i) (at_low h b i)
      by i true = refl
      by i false = refl

-- ---- the slope: all coefficients' sizes together. Where it is 0 the value is the same everywhere, else it differs between ends
unfoldable pub slope : Halfspace → ℕ → ℕ
slope h d = sum d (added h) + sum d (taken h)

flat : (h : Halfspace) (d : ℕ) → slope h d ≡ 0 → (x : ℕ → ℕ) → (rise h d x ≡ 0) × (fall h d x ≡ 0)
unfolding slope rise fall
flat h d e x = (weightless d (added h) x (omega arith), weightless d (taken h) x (omega arith))

-- which of the two it is
pub by_slope : (h : Halfspace) (d : ℕ) (G : Type 0) → (((x : ℕ → ℕ) → (rise h d x ≡ 0) × (fall h d x ≡ 0)) → G) → (0 < slope h d → G) → G
by_slope h d G f g = by (slope h d) refl
  where
    by : (n : ℕ) → slope h d ≡ n → G
    by zero e = f (flat h d e)
    by (suc n) e = g (omega arith)

-- a slope other than 0 parts the least value from the greatest
pub parted : (h : Halfspace) (b : Block) → ((i : ℕ) → i < axes_of b → low_along b i < end_along b i) → 0 < slope h (axes_of b) → least h b <ℤ greatest h b
unfolding slope rise fall
parted h b long s = is_lt (least_is h b) (greatest_is h b)
    (omega (arith, weighted_lt (axes_of b) (added h) (low_along b) (end_along b) long, weighted_lt (axes_of b) (taken h) (low_along b) (end_along b) long))

-- ---- the centres of the voxels in a block
module _ (h : Halfspace) (b : Block) (v : List ℕ) (in_block : Within b v) where
  -- twice the value at a centre is by the slope above twice the least value, and as far below twice the greatest
  centre_least : 2 * rise h (axes_of b) (low_along b) + slope h (axes_of b) + fall h (axes_of b) (middle v)
      ≤ rise h (axes_of b) (middle v) + 2 * fall h (axes_of b) (end_along b)
  unfolding slope rise fall
  centre_least =
      omega (
        arith,
        centre_above (axes_of b) (added h) (low_along b) (place_along v) in_block.above,
        centre_below (axes_of b) (taken h) (place_along v) (end_along b) in_block.below,
      )

  centre_greatest : rise h (axes_of b) (middle v) + slope h (axes_of b) + 2 * fall h (axes_of b) (low_along b)
      ≤ 2 * rise h (axes_of b) (end_along b) + fall h (axes_of b) (middle v)
  unfolding slope rise fall
  centre_greatest =
      omega (
        arith,
        centre_below (axes_of b) (added h) (place_along v) (end_along b) in_block.below,
        centre_above (axes_of b) (taken h) (low_along b) (place_along v) in_block.above,
      )

  pub inside_sound : pos 0 ≤ℤ least h b → pos 0 ≤ℤ centre_value b.universe h v
  inside_sound m = is_le (is_nat 0) (centre_is b.universe h v) (omega (arith, le_is (is_nat 0) (least_is h b) m, centre_least))

  pub outside_sound : greatest h b ≤ℤ pos 0 → least h b <ℤ pos 0 → centre_value b.universe h v <ℤ pos 0
  outside_sound m k =
      by_slope h (axes_of b) (centre_value b.universe h v <ℤ pos 0)
      (λ level. is_lt (centre_is b.universe h v) (is_nat 0)
      (omega (arith, lt_is (least_is h b) (is_nat 0) k, level (low_along b), level (end_along b), level (middle v))))
      (λ s. is_lt (centre_is b.universe h v) (is_nat 0) (omega (arith, le_is (greatest_is h b) (is_nat 0) m, centre_greatest)))

-- ---- what a mark says of least and greatest, and the other way round
data Marked (h : Halfspace) (b : Block) : Mark → Type 0 where
  inside : pos 0 ≤ℤ least h b → Marked h b (decided Black)
  outside : least h b <ℤ pos 0 → greatest h b ≤ℤ pos 0 → Marked h b (decided White)
  across : least h b <ℤ pos 0 → pos 0 <ℤ greatest h b → Marked h b undecided

module _ (h : Halfspace) (b : Block) where
  pub mark_black : pos 0 ≤ℤ least h b → mark_over h b ≡ decided Black
  unfolding mark_over
  mark_black m = rw (le_le_z m)

  pub mark_white : least h b <ℤ pos 0 → greatest h b ≤ℤ pos 0 → mark_over h b ≡ decided White
  unfolding mark_over
  mark_white k m = rw (lt_le_z k, le_le_z m)

  pub mark_active : least h b <ℤ pos 0 → pos 0 <ℤ greatest h b → mark_over h b ≡ undecided
  unfolding mark_over
  mark_active k m = rw (lt_le_z k, lt_le_z m)

  marked : Marked h b (mark_over h b)
  unfolding mark_over
  marked = by (le_z (pos 0) (least h b)) refl (le_z (greatest h b) (pos 0)) refl
    where
      by : (s : Bool) → le_z (pos 0) (least h b) ≡ s → (t : Bool) → le_z (greatest h b) (pos 0) ≡ t →
          Marked h b (cond s (decided Black) (cond t (decided White) undecided))
      by true s t u = inside (le_z_true _ _ s)
      by false s true u = outside (le_z_false _ _ s) (le_z_true _ _ u)
      by false s false u = across (le_z_false _ _ s) (le_z_false _ _ u)

  pub black_means : mark_over h b ≡ decided Black → pos 0 ≤ℤ least h b
  black_means e = by (rw e at marked)
    where
      by : Marked h b (decided Black) → pos 0 ≤ℤ least h b
      by (inside m) = m

  pub white_means : mark_over h b ≡ decided White → (least h b <ℤ pos 0) × (greatest h b ≤ℤ pos 0)
  white_means e = by (rw e at marked)
    where
      by : Marked h b (decided White) → (least h b <ℤ pos 0) × (greatest h b ≤ℤ pos 0)
      by (outside k m) = (k, m)

  -- an active leaf crosses
  pub active_crosses : mark_over h b ≡ undecided → (least h b <ℤ pos 0) × (pos 0 <ℤ greatest h b)
  active_crosses e = by (rw e at marked)
    where
      by : Marked h b undecided → (least h b <ℤ pos 0) × (pos 0 <ℤ greatest h b)
      by (across k m) = (k, m)

  -- a decided leaf has its colour at every centre in the block
  pub mark_sound : (c : Colour) (v : List ℕ) → mark_over h b ≡ decided c → Within b v → colour_at_centre b.universe h v ≡ c
  unfolding colour_at_centre
  mark_sound Black v e w = rw (le_le_z (inside_sound h b v w (black_means e)))
  mark_sound White v e w = rw (lt_le_z (outside_sound h b v w (white_means e).1 (white_means e).0))

-- ---- over a voxel's block least and greatest together are twice the value at its centre
pub voxel_sum : (h : Halfspace) (b : Block) → ((i : ℕ) → i < axes_of b → length_along b i ≡ 1) →
    least h b +ℤ greatest h b ≡ centre_value b.universe h b.low
unfolding rise fall
voxel_sum h b one =
    is_eq (is_add (least_is h b) (greatest_is h b)) (centre_is b.universe h b.low)
    (omega (
      arith,
      centre_between (axes_of b) (added h) (low_along b) (end_along b) next,
      centre_between (axes_of b) (taken h) (low_along b) (end_along b) next,
    ))
  where
    next : (i : ℕ) → i < axes_of b → end_along b i ≡ low_along b i + 1
    next i m = ap (λ (t : ℕ). low_along b i + t) (one i m)

-- ---- the all-zero halfspace is BLACK over every block
module _ (h : Halfspace) (b : Block) (no-offset : h.offset ≡ pos 0) (no-slope : (i : ℕ) → i < axes_of b → h.coefficient i ≡ pos 0) where
  zero_slope : slope h (axes_of b) ≡ 0
  unfolding slope up dn
  zero_slope = omega (arith, sum_zero (axes_of b) (added h) (λ i m. ap up (no-slope i m)), sum_zero (axes_of b) (taken h) (λ i m. ap dn (no-slope i m)))

  zero_least : pos 0 ≤ℤ least h b
  unfolding up dn
  zero_least =
      let level = flat h (axes_of b) zero_slope in
      is_le (is_nat 0) (least_is h b) (omega (arith, ap dn no-offset, level (low_along b), level (end_along b)))

  pub zero_black : mark_over h b ≡ decided Black
  zero_black = mark_black h b zero_least
