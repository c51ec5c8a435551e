-- Room as the code finds it, level by level. The blocks along each axis are carried from level to level, those along the level's axis doubled. The
-- products over the axes fit because no axis has more blocks than the longest side has units, that with the leaves because it is formed only where it is
-- at most all blocks, and the sum because it is below room.
use mathlib.Core.Path.{◌≡◌, refl, sym, ap, ap₂, ◌∙◌}
use mathlib.Core.List.{List}
use Prim.Native.Nat.{ℕ, zero, suc, ◌+◌, ◌*◌, ◌-◌, ◌/◌, ◌^◌, ◌≤◌, ◌<◌, min}
use native.Mathlib.Omega.{arith}
use native.Mathlib.Numerals.{add-one}
use native.Mathlib.Nat.{min-eq_left, div-lt_iff_lt-mul, mul-le-mul, not-suc-le-zero, le_refl, pow-le-pow_right}
use native.Mathlib.Decide.{ℕ_discrete}
use lib.ListN.{length, get_or, set, replicate, get_or-replicate, length-set}
use lib.Seq.{get_or-set_same, get_or-set_other}
use lib.Pow.{pow_mono}
use borrow.Author.Rules.{rules}
use mir.Syntax.{w64}
use mir.Val.{Fits}
use Rattle.lemmas.specs.Sums.{sum, product}
use Rattle.lemmas.proofs.Sums.{top, product_cong, product_mono, product_positive, product_power}
use Rattle.universe.specs.declared.Universe.{Universe}
use Rattle.universe.specs.Universe.{most_axes, most_frame_bits, most_levels, longest_side, universe_refusal, levels, axis_at, halvings, blocks_along}
use Rattle.universe.specs.Questions.{axes_left}
use Rattle.universe.specs.Room.{blocks_at, inner_blocks_at, count_of, level_count, room, FewBlocks}
use Rattle.universe.proofs.Universes.{accepted, levels_few, bits_few, axis_below, halvings_most, sum_longer}
use Rattle.universe.proofs.Universes.{blocks_positive, blocks_first, blocks_doubled, blocks_kept}
use Rattle.universe.proofs.Questions.{axes_left_at}
use Rattle.universe.proofs.Rooms.{room_small}

-- ---- products

-- no factor more than m
pub product_most : (n : ℕ) (f : ℕ → ℕ) (m : ℕ) → ((i : ℕ) → i < n → f i ≤ m) → product n f ≤ m ^ n
product_most n f m h = omega (arith, product_mono n f (λ i. m) h, product_power n (λ i. m) m (λ i k. refl))

-- one factor more
pub product_next : (n : ℕ) (f : ℕ → ℕ) (found : ℕ) → found ≡ product n f → found * f n ≡ product (n + 1) f
unfolding product
product_next n f found e = rw (add-one n, e)

-- each of one factor or more made less
pub product_less : (n : ℕ) (f g : ℕ → ℕ) → 0 < n → ((i : ℕ) → i < n → g i < f i) → product n g < product n f
unfolding product
product_less zero f g p h = absurd (not-suc-le-zero p)
product_less (suc n) f g p h =
    let fewer : product n g ≤ product n f = product_mono n g f (λ i k. omega (arith, h i (omega arith))) in
    let some : 0 < product n f = product_positive n f (λ i k. omega (arith, h i (omega arith))) in
    omega (arith, mul-le-mul fewer (le_refl (g n)), mul-le-mul (le_refl (product n f)) (top h))

-- ---- the count of a level

-- more leaves than go into all blocks: the level counts all
pub count_all : (leaves all outer : ℕ) → 0 < outer → all / outer < leaves → all ≡ min all (leaves * outer)
count_all leaves all outer p h = sym (min-eq_left (omega (arith, (div-lt_iff_lt-mul p).0 h)))

-- ---- the products of a level

-- with one factor more the product fits
pub product_fits : (axes : ℕ) (blocks : List ℕ) (less axis found : ℕ) → FewBlocks axes blocks → axis < axes → found ≡ product axis (λ i. get_or blocks i 0 - less)
    → Fits w64 (found * (get_or blocks axis 0 - less))
product_fits axes blocks less axis found f h e =
    let power : longest_side ^ (axis + 1) ≤ longest_side ^ most_axes = pow-le-pow_right (omega arith) {i = axis + 1} {j = most_axes} (omega (arith, f.few)) in
    let most : product (axis + 1) (λ i. get_or blocks i 0 - less) ≤ longest_side ^ (axis + 1) =
    product_most (axis + 1) _ longest_side (λ i j. omega (arith, f.most i (omega arith))) in
    omega (arith, product_next axis (λ i. get_or blocks i 0 - less) found e)

-- ---- level by level

-- with so many levels left: the blocks along each axis, and what the levels above count
pub record Counted (u : Universe) (leaves balls : ℕ) (axes blocks : List ℕ) (found left : ℕ) : Type 0 where
  pub good : universe_refusal u ≡ 0
  pub within : left ≤ levels u
  pub order : axes ≡ axes_left u
  pub long : length blocks ≡ most_axes
  pub along : (i : ℕ) → i < u.axes → get_or blocks i 0 ≡ blocks_along u (levels u - left) i
  pub so_far : found ≡ sum (levels u - left) (level_count u leaves balls)

pub counted_first : (u : Universe) (leaves balls : ℕ) {axes : List ℕ} {left : ℕ} → universe_refusal u ≡ 0 → axes ≡ axes_left u → left ≡ levels u
    → Counted u leaves balls axes (replicate most_axes 1) 0 left
unfolding sum
counted_first u leaves balls {axes} {left} e f all =
    let none : levels u - left ≡ 0 = omega arith in
    record {
      good = e;
      within = omega arith;
      order = f;
      long = refl;
      along = λ i h. get_or-replicate most_axes i 1 0 (omega (arith, (accepted u e).few_axes)) ∙ rw none (sym (blocks_first u i));
      so_far = rw none;
    }

-- what is found is below room
found_few : {u : Universe} {leaves balls : ℕ} {axes blocks : List ℕ} {found left : ℕ} → Counted u leaves balls axes blocks found left →
    1 + 2 * found < 2 ^ suc most_levels
unfolding room
found_few {u} {leaves} {balls} {axes} {blocks} {found} {left} s =
    omega (arith, s.so_far, sum_longer (levels u - left) (levels u) (level_count u leaves balls) (omega arith), room_small u s.good leaves balls)

module _ {u : Universe} {leaves balls : ℕ} {axes blocks : List ℕ} {found left : ℕ} (s : Counted u leaves balls axes blocks found left) where
  abbrev level : ℕ
  level = levels u - left

  -- what the code asks before a level
  pub axes_some : 0 < u.axes
  axes_some = (accepted u s.good).some_axes

  along_most : (i : ℕ) → i < u.axes → blocks_along u level i ≤ longest_side
  unfolding blocks_along
  along_most i h =
      let halved : halvings u level i ≤ most_frame_bits = omega (arith, halvings_most u level i h (omega arith), bits_few u (accepted u s.good) i) in
      pow_mono halved

  pub blocks_few : FewBlocks u.axes blocks
  blocks_few = record {
    few = (accepted u s.good).few_axes;
    some = λ i h. rw (s.along i h) (blocks_positive u level i);
    most = λ i h. rw (s.along i h) (along_most i h);
  }

  -- the sum doubled, and one more
  pub twice_fits : Fits w64 (2 * found)
  twice_fits = omega (arith, found_few s)

  pub room_fits : Fits w64 (1 + 2 * found)
  room_fits = omega (arith, found_few s)

  -- after the last level it is room
  pub found_all : left ≤ 0 → 1 + 2 * found ≡ room u leaves balls
  unfolding room
  found_all h = let last : levels u - left ≡ levels u = omega arith in omega (arith, rw last at s.so_far)

  module _ (h : 0 < left) where
    -- the axis of the level, and its blocks doubled
    abbrev axis : ℕ
    axis = get_or axes (left - 1) 0

    pub place_few : left - 1 < most_levels
    place_few = omega (arith, s.within, levels_few u (accepted u s.good))

    pub place_fits : Fits w64 ((left - 1) * 8)
    place_fits = omega (arith, place_few)

    axis_is : axis ≡ axis_at u level
    axis_is =
        let back : levels u - suc (left - 1) ≡ level = omega arith in
        rw s.order (axes_left_at u s.good (left - 1) (omega (arith, s.within))) ∙ ap (axis_at u) back

    axis_below_axes : axis < u.axes
    axis_below_axes = rw axis_is (axis_below u axes_some level)

    pub axis_few : axis < most_axes
    axis_few = omega (arith, axis_below_axes, blocks_few.few)

    pub axis_fits : Fits w64 (axis * 8)
    axis_fits = omega (arith, axis_few)

    pub doubled_fits : Fits w64 (get_or blocks axis 0 * 2)
    doubled_fits = omega (arith, blocks_few.most axis axis_below_axes)

    next_level : levels u - (left - 1) ≡ suc level
    next_level = omega (arith, s.within)

    along_next : (i : ℕ) → i < u.axes → get_or (set blocks axis (get_or blocks axis 0 * 2)) i 0 ≡ blocks_along u (levels u - (left - 1)) i
    along_next i k = rw next_level (go (ℕ_discrete axis i))
      where
        go : Dec (axis ≡ i) → get_or (set blocks axis (get_or blocks axis 0 * 2)) i 0 ≡ blocks_along u (suc level) i
        go (yes q) =
            rw (← q)
            (get_or-set_same blocks axis _ 0 (omega (arith, axis_few, s.long))
            ∙ ap (λ (x : ℕ). x * 2) (s.along axis axis_below_axes)
            ∙ rw axis_is (omega (arith, blocks_doubled u level)))
        go (no n) = get_or-set_other blocks axis i _ 0 (λ q. n (sym q)) ∙ s.along i k ∙ sym (blocks_kept u level i (λ q. n (axis_is ∙ q)))

  module _ {all inner : ℕ} (a : all ≡ product u.axes (λ i. get_or blocks i 0 - 0)) (b : inner ≡ product u.axes (λ i. get_or blocks i 0 - 1)) where
    -- with the products of the level: it counts what it should, and the next level stands
    pub inner_less : inner < all
    inner_less =
        rw (a, b) (product_less u.axes (λ i. get_or blocks i 0 - 0) (λ i. get_or blocks i 0 - 1) axes_some (λ i h. omega (arith, blocks_few.some i h)))

    count_is : {count : ℕ} → count ≡ count_of leaves balls all inner → count ≡ level_count u leaves balls level
    unfolding level_count blocks_at inner_blocks_at
    count_is c =
        let every : all ≡ blocks_at u level = a ∙ product_cong u.axes _ _ (λ i h. omega (arith, s.along i h)) in
        let some : inner ≡ inner_blocks_at u level = b ∙ product_cong u.axes _ _ (λ i h. omega (arith, s.along i h)) in
        c ∙ ap₂ (count_of leaves balls) every some

    pub counted_next : {count : ℕ} → count ≡ count_of leaves balls all inner → (h : 0 < left)
        → Counted u leaves balls axes (set blocks (get_or axes (left - 1) 0) (get_or blocks (get_or axes (left - 1) 0) 0 * 2)) (found + count) (left - 1)
    unfolding sum
    counted_next {count} c h = record {
      good = s.good;
      within = omega (arith, s.within);
      order = s.order;
      long = simp length-set s.long;
      along = along_next h;
      so_far = rw (next_level h) (omega (arith, s.so_far, count_is c));
    }

    pub more_fits : {count : ℕ} → count ≡ count_of leaves balls all inner → 0 < left → Fits w64 (found + count)
    more_fits c h = omega (arith, found_few (counted_next c h))

-- all that `Accepted::room` asks
pub ruleset counting = (
  rules,
  counted_first,
  counted_next,
  axes_some,
  blocks_few,
  place_few,
  place_fits,
  axis_few,
  axis_fits,
  doubled_fits,
  twice_fits,
  room_fits,
  found_all,
  inner_less,
  more_fits,
)
