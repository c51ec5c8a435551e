-- The universe: what acceptance gives, how many bits an axis has, the order of its axes, how often each axis is halved, and how long and how many blocks
-- are along it. Only the laws of bits tell the frame axis from the others. The order is that of Orders at these bits; halvings, a recursion over levels,
-- are the occurrences in the order so far; every other law follows from these, one halving at a time.
use mathlib.Core.Path.{◌≡◌, refl, sym, ap, ap₂, ◌∙◌}
use mathlib.Core.Bool.{Bool, true, cond, ◌&&◌}
use mathlib.Core.List.{reverse}
use Prim.Native.Nat.{ℕ, zero, suc, ◌+◌, ◌-◌, ◌*◌, ◌^◌, ◌≤◌, ◌<◌, max}
use native.Mathlib.Omega.{arith}
use native.Mathlib.Nat.{pow-succ', sub_self, sub-zero, le_refl, mul-le-mul}
use native.Mathlib.Decide.{ℕ_discrete, dec_lt}
use lib.Dec.{leb, eqb}
use lib.ListN.{length, get_or, take, get_or-eq_default}
use lib.Seq.{take_all}
use lib.Pow.{pow_pos, pow_mono, pow-add}
use borrow.Author.Tests.{leb-true, le-leb, eq-eqb, ne_eqb}
use Rattle.lemmas.specs.Sums.{sum, product}
use Rattle.lemmas.specs.Lists.{occurrences, Below}
use Rattle.lemmas.proofs.Sums.{and_left, and_right, and_both, sum_cong, sum_same, sum_part, product_scaled, product_one}
use Rattle.lemmas.proofs.Lists.{occurrences_next, below_at, reverse_at}
use Rattle.universe.proofs.Refusing.{unless_holds, holds_unless}
use Rattle.universe.proofs.Orders.{rounds_below, order_often, order_long, order_sum}
use Rattle.universe.specs.declared.Universe.{Universe}
use Rattle.universe.specs.Universe.{least_axes, most_axes, most_bits, most_frame_bits, most_bits_of, most_levels, longest_side, universe_refusal}
use Rattle.universe.specs.Universe.{frame_axis, bits_along, side_along, levels, order, axis_at, halvings, blocks_along, block_side}

-- ---- acceptance

pub record Accepted (u : Universe) : Type 0 where
  pub some_axes : 1 ≤ u.axes
  pub few_axes : u.axes ≤ most_axes
  pub few_bits : u.bits ≤ most_bits_of u.axes
  pub few_frame_bits : u.frame_bits ≤ most_frame_bits

pub accepted : (u : Universe) → universe_refusal u ≡ 0 → Accepted u
unfolding universe_refusal
accepted u e =
    let some : Bool = leb least_axes u.axes in
    let few : Bool = leb u.axes most_axes in
    let bits : Bool = leb u.bits (most_bits_of u.axes) in
    let frame_bits_lem : Bool = leb u.frame_bits most_frame_bits in
    let all : some && few && bits && frame_bits_lem ≡ true = unless_holds _ 2 (omega arith) e in
    let three : some && few && bits ≡ true = and_left (some && few && bits) frame_bits_lem all in
    let two : some && few ≡ true = and_left (some && few) bits three in
    record {
      some_axes = leb-true _ _ (and_left some few two);
      few_axes = leb-true _ _ (and_right some few two);
      few_bits = leb-true _ _ (and_right (some && few) bits three);
      few_frame_bits = leb-true _ _ (and_right (some && few && bits) frame_bits_lem all);
    }

pub is_accepted : (u : Universe) → Accepted u → universe_refusal u ≡ 0
unfolding universe_refusal
is_accepted u a =
    let two = and_both (le-leb _ _ a.some_axes) (le-leb _ _ a.few_axes) in
    holds_unless _ 2 (and_both (and_both two (le-leb _ _ a.few_bits)) (le-leb _ _ a.few_frame_bits))

-- ---- the bits of an axis

pub most_bits_lem : (axes : ℕ) → most_bits_of axes ≤ most_bits
most_bits_lem axes = go (ℕ_discrete axes 1)
  where
    go : Dec (axes ≡ 1) → most_bits_of axes ≤ most_bits
    go (yes e) = rw (eq-eqb axes 1 e) (omega arith)
    go (no n) = rw (ne_eqb axes 1 n) (le_refl most_bits)

pub frame_bits_lem : (u : Universe) → bits_along u (frame_axis u) ≡ u.frame_bits
unfolding bits_along
frame_bits_lem u = rw (eq-eqb (frame_axis u) (frame_axis u) refl)

pub space_bits : (u : Universe) (i : ℕ) → i < frame_axis u → bits_along u i ≡ u.bits
unfolding bits_along
space_bits u i h = rw (ne_eqb i (frame_axis u) (λ e. omega arith))

-- so few that machine numbers hold them
pub bits_few : (u : Universe) → Accepted u → (i : ℕ) → bits_along u i ≤ most_frame_bits
unfolding bits_along
bits_few u a i = go (ℕ_discrete i (frame_axis u))
  where
    go : Dec (i ≡ frame_axis u) → cond (eqb i (frame_axis u)) u.frame_bits u.bits ≤ most_frame_bits
    go (yes e) = rw (eq-eqb i (frame_axis u) e) a.few_frame_bits
    go (no n) = rw (ne_eqb i (frame_axis u) n) (omega (arith, a.few_bits, most_bits_lem u.axes))

pub bits_most : (u : Universe) (i : ℕ) → bits_along u i ≤ max u.bits u.frame_bits
unfolding bits_along
bits_most u i = go (ℕ_discrete i (frame_axis u))
  where
    go : Dec (i ≡ frame_axis u) → cond (eqb i (frame_axis u)) u.frame_bits u.bits ≤ max u.bits u.frame_bits
    go (yes e) = rw (eq-eqb i (frame_axis u) e) (omega arith)
    go (no n) = rw (ne_eqb i (frame_axis u) n) (omega arith)

pub shifts_by : (u : Universe) (i : ℕ) {bits : ℕ} → bits ≡ bits_along u i → universe_refusal u ≡ 0 → bits < 64
shifts_by u i e z = omega (arith, e, bits_few u (accepted u z) i)

-- rule 1.2: the bits of the axes but the last, and those of the last
pub levels_sum : (u : Universe) → 0 < u.axes → levels u ≡ frame_axis u * u.bits + u.frame_bits
unfolding levels sum
levels_sum u h =
    ap (λ n. sum n (bits_along u)) (let more : u.axes ≡ suc (frame_axis u) = omega arith in more)
    ∙ ap₂ ◌+◌ (sum_cong (frame_axis u) (bits_along u) (λ i. u.bits) (space_bits u) ∙ sum_same (frame_axis u) u.bits) (frame_bits_lem u)

pub levels_few : (u : Universe) → Accepted u → levels u ≤ most_levels
levels_few u a =
    let few : frame_axis u ≤ most_axes - 1 = omega (arith, a.few_axes) in
    let bits : u.bits ≤ most_bits = omega (arith, a.few_bits, most_bits_lem u.axes) in
    omega (arith, levels_sum u a.some_axes, mul-le-mul few bits, a.few_frame_bits)

-- a sum of fewer is no more
pub sum_longer : (n m : ℕ) (f : ℕ → ℕ) → n ≤ m → sum n f ≤ sum m f
unfolding sum
sum_longer n zero f h = rw (let e : n ≡ 0 = omega arith in e) (le_refl _)
sum_longer n (suc m) f h = go (ℕ_discrete n (suc m)) (sum_longer n m f)
  where
    go : Dec (n ≡ suc m) → (n ≤ m → sum n f ≤ sum m f) → sum n f ≤ sum m f + f m
    go (yes e) ih = rw e (le_refl _)
    go (no k) ih = omega (arith, ih (omega arith))

-- the bits of some of the axes are no more than there may be levels
pub levels_fit : (u : Universe) (i : ℕ) {found bits : ℕ} → found ≡ sum i (bits_along u) → bits ≡ bits_along u i → i < u.axes → universe_refusal u ≡ 0
    → found + bits ≤ most_levels
unfolding levels sum
levels_fit u i e f h z = omega (arith, e, f, sum_longer (suc i) u.axes (bits_along u) (omega arith), levels_few u (accepted u z))

pub side_few : (u : Universe) → Accepted u → (i : ℕ) → side_along u i ≤ longest_side
side_few u a i = pow_mono (bits_few u a i)

-- ---- the order of the axes

-- no axis has more bits than there are levels
pub bits_within : (u : Universe) (i : ℕ) → i < u.axes → bits_along u i ≤ levels u
unfolding levels
bits_within u i h = sum_part u.axes (bits_along u) i h

-- where there is a level there is an axis
pub some_axes : (u : Universe) (l : ℕ) → l < levels u → 0 < u.axes
unfolding levels sum
some_axes u l h = go (dec_lt 0 u.axes)
  where
    go : Dec (0 < u.axes) → 0 < u.axes
    go (yes p) = p
    go (no n) = absurd (omega (arith, ap (λ d. sum d (bits_along u)) (let z : u.axes ≡ 0 = omega arith in z)))

-- it has an entry for each level, and each is an axis
pub order_length : (u : Universe) → length (order u) ≡ levels u
unfolding order levels
order_length u = order_long (bits_along u) u.axes (levels u) (bits_within u)

pub order_below : (u : Universe) → Below u.axes (order u)
unfolding order
order_below u = rounds_below (bits_along u) u.axes (levels u)

-- beyond the levels the axis is 0
axis_past : (u : Universe) (l : ℕ) → levels u ≤ l → axis_at u l ≡ 0
unfolding axis_at
axis_past u l h = get_or-eq_default (order u) 0 {n = l} (omega (arith, order_length u))

pub axis_below : (u : Universe) → 0 < u.axes → (l : ℕ) → axis_at u l < u.axes
unfolding axis_at
axis_below u h l = go (dec_lt l (levels u))
  where
    go : Dec (l < levels u) → axis_at u l < u.axes
    go (yes k) = below_at l (order_below u) (omega (arith, order_length u))
    go (no n) = omega (arith, axis_past u l (omega arith))

-- turned round, the order goes by the levels that are left: at place n stands the axis of a block with n + 1 levels left
pub axis_left_lem : (u : Universe) (n : ℕ) → n < levels u → get_or (reverse (order u)) n 0 ≡ axis_at u (levels u - suc n)
unfolding axis_at
axis_left_lem u n h = reverse_at (order u) n (omega (arith, order_length u)) ∙ ap (λ m. get_or (order u) (m - suc n) 0) (order_length u)

-- ---- halvings

pub halvings_first : (u : Universe) (i : ℕ) → halvings u 0 i ≡ 0
unfolding halvings
halvings_first u i = refl

pub halvings_here : (u : Universe) (l : ℕ) → halvings u (suc l) (axis_at u l) ≡ suc (halvings u l (axis_at u l))
unfolding halvings
halvings_here u l = rw (eq-eqb (axis_at u l) (axis_at u l) refl) (omega arith)

pub halvings_kept : (u : Universe) (l i : ℕ) → (axis_at u l ≡ i → ⊥) → halvings u (suc l) i ≡ halvings u l i
unfolding halvings
halvings_kept u l i n = rw (ne_eqb (axis_at u l) i n) (omega arith)

-- they are the occurrences in the order so far
pub halvings_often : (u : Universe) (l i : ℕ) → l ≤ levels u → halvings u l i ≡ occurrences i (take l (order u))
unfolding halvings occurrences axis_at
halvings_often u zero i h = refl
halvings_often u (suc l) i h =
    omega (arith, halvings_often u l i (omega arith), occurrences_next i (order u) l (omega (arith, order_length u)))

-- the bits before a level add up to the level
pub halvings_sum : (u : Universe) (l : ℕ) → l ≤ levels u → sum u.axes (halvings u l) ≡ l
unfolding order levels
halvings_sum u l h =
    sum_cong u.axes (halvings u l) (λ i. occurrences i (take l (order u))) (λ i k. halvings_often u l i h)
    ∙ order_sum (bits_along u) u.axes (levels u) (bits_within u) l h

-- at the last level each axis has all its halvings
pub halvings_all : (u : Universe) (i : ℕ) → i < u.axes → halvings u (levels u) i ≡ bits_along u i
unfolding order
halvings_all u i h =
    halvings_often u (levels u) i (le_refl (levels u))
    ∙ ap (occurrences i) (take_all (levels u) (order u) (omega (arith, order_length u)))
    ∙ order_often (bits_along u) u.axes (levels u) (bits_within u) i h

pub halvings_mono : (u : Universe) (l m i : ℕ) → l ≤ m → halvings u l i ≤ halvings u m i
unfolding halvings
halvings_mono u l zero i h = rw (let e : l ≡ 0 = omega arith in e) (le_refl 0)
halvings_mono u l (suc m) i h = go (ℕ_discrete l (suc m)) (halvings_mono u l m i)
  where
    go : Dec (l ≡ suc m) → (l ≤ m → halvings u l i ≤ halvings u m i) → halvings u l i ≤ halvings u (suc m) i
    go (yes e) ih = rw e (le_refl _)
    go (no n) ih = omega (arith, ih (omega arith))

pub halvings_most : (u : Universe) (l i : ℕ) → i < u.axes → l ≤ levels u → halvings u l i ≤ bits_along u i
halvings_most u l i h k = omega (arith, halvings_mono u l (levels u) i k, halvings_all u i h)

-- the axis of a level that is not the last has a halving left
pub halvings_next : (u : Universe) → 0 < u.axes → (l : ℕ) → l < levels u → halvings u l (axis_at u l) < bits_along u (axis_at u l)
halvings_next u h l k = omega (arith, halvings_here u l, halvings_most u (suc l) (axis_at u l) (axis_below u h l) k)

-- a level halves an axis once or not at all, so no axis has more halvings left than there are levels left
halvings_grow : (u : Universe) (l m i : ℕ) → l ≤ m → halvings u m i ≤ halvings u l i + (m - l)
unfolding halvings
halvings_grow u l zero i h = omega arith
halvings_grow u l (suc m) i h = go (ℕ_discrete l (suc m)) (ℕ_discrete (axis_at u m) i) (halvings_grow u l m i)
  where
    go : Dec (l ≡ suc m) → Dec (axis_at u m ≡ i) → (l ≤ m → halvings u m i ≤ halvings u l i + (m - l)) → halvings u (suc m) i ≤ halvings u l i + (suc m - l)
    go (yes e) a ih = rw e (omega arith)
    go (no n) (yes a) ih = rw (eq-eqb (axis_at u m) i a) (omega (arith, ih (omega arith)))
    go (no n) (no a) ih = rw (ne_eqb (axis_at u m) i a) (omega (arith, ih (omega arith)))

pub bits_left : (u : Universe) (l i : ℕ) → i < u.axes → l ≤ levels u → bits_along u i - halvings u l i ≤ levels u - l
bits_left u l i h k = omega (arith, halvings_grow u l (levels u) i k, halvings_all u i h)

-- ---- the lengths of blocks

pub side_positive : (u : Universe) (l i : ℕ) → 0 < block_side u l i
unfolding block_side
side_positive u l i = pow_pos (bits_along u i - halvings u l i)

pub side_first : (u : Universe) (i : ℕ) → block_side u 0 i ≡ side_along u i
unfolding block_side
side_first u i = rw (halvings_first u i, sub-zero (bits_along u i))

pub side_last : (u : Universe) (i : ℕ) → i < u.axes → block_side u (levels u) i ≡ 1
unfolding block_side
side_last u i h = rw (halvings_all u i h, sub_self (bits_along u i))

pub side_halved : (u : Universe) → 0 < u.axes → (l : ℕ) → l < levels u → block_side u l (axis_at u l) ≡ 2 * block_side u (suc l) (axis_at u l)
unfolding block_side
side_halved u h l k =
    let i = axis_at u l in
    let e : bits_along u i - halvings u l i ≡ suc (bits_along u i - halvings u (suc l) i) = omega (arith, halvings_here u l, halvings_next u h l k) in
    ap (λ (n : ℕ). 2 ^ n) e ∙ pow-succ' 2 (bits_along u i - halvings u (suc l) i)

pub side_kept : (u : Universe) (l i : ℕ) → (axis_at u l ≡ i → ⊥) → block_side u (suc l) i ≡ block_side u l i
unfolding block_side
side_kept u l i n = rw (halvings_kept u l i n)

pub ruleset side_laws = (side_positive, side_first)

-- ---- how many blocks there are along an axis

pub blocks_positive : (u : Universe) (l i : ℕ) → 0 < blocks_along u l i
unfolding blocks_along
blocks_positive u l i = pow_pos (halvings u l i)

pub blocks_first : (u : Universe) (i : ℕ) → blocks_along u 0 i ≡ 1
unfolding blocks_along
blocks_first u i = rw (halvings_first u i)

pub blocks_doubled : (u : Universe) (l : ℕ) → blocks_along u (suc l) (axis_at u l) ≡ 2 * blocks_along u l (axis_at u l)
unfolding blocks_along
blocks_doubled u l = rw (halvings_here u l) (pow-succ' 2 (halvings u l (axis_at u l)))

pub blocks_kept : (u : Universe) (l i : ℕ) → (axis_at u l ≡ i → ⊥) → blocks_along u (suc l) i ≡ blocks_along u l i
unfolding blocks_along
blocks_kept u l i n = rw (halvings_kept u l i n)

-- together they are as long as the universe
pub blocks_sides : (u : Universe) (l i : ℕ) → i < u.axes → l ≤ levels u → blocks_along u l i * block_side u l i ≡ side_along u i
unfolding blocks_along block_side
blocks_sides u l i h k =
    let m = halvings_most u l i h k in
    let e : halvings u l i + (bits_along u i - halvings u l i) ≡ bits_along u i = omega arith in
    sym (pow-add 2 (halvings u l i) (bits_along u i - halvings u l i)) ∙ ap (λ (n : ℕ). 2 ^ n) e

-- ---- how many voxels a block has

pub voxels_halved : (u : Universe) → 0 < u.axes → (l : ℕ) → l < levels u → product u.axes (block_side u l) ≡ 2 * product u.axes (block_side u (suc l))
voxels_halved u h l k =
    product_scaled u.axes (block_side u (suc l)) (block_side u l) 2 (axis_at u l) (axis_below u h l) (λ i j n. sym (side_kept u l i n)) (side_halved u h l k)

pub voxels_last : (u : Universe) → product u.axes (block_side u (levels u)) ≡ 1
voxels_last u = product_one u.axes (block_side u (levels u)) (side_last u)

-- 2 for each level that is left
pub voxels_left_lem : (u : Universe) → 0 < u.axes → (n l : ℕ) → l + n ≡ levels u → product u.axes (block_side u l) ≡ 2 ^ n
voxels_left_lem u h zero l e = rw (let z : l ≡ levels u = omega arith in z) (voxels_last u)
voxels_left_lem u h (suc n) l e = voxels_halved u h l (omega arith) ∙ ap (λ (x : ℕ). 2 * x) (voxels_left_lem u h n (suc l) (omega arith)) ∙ sym (pow-succ' 2 n)
