-- Blocks: the test `is_given` holds exactly of the blocks that halving the first block gives. A given block's halves pass the test; a block that
-- passes it above level 0 is a half of one that does, which begins along the axis at the place rounded down to a multiple of the doubled length.
use mathlib.Core.Path.{◌≡◌, refl, sym, ap, ap₂, subst, ◌∙◌}
use mathlib.Core.Bool.{Bool, true, false, ◌&&◌}
use mathlib.Core.Logic.{◌⊎◌, inl, inr}
use mathlib.Core.List.{List}
use Prim.Native.Nat.{ℕ, zero, suc, ◌+◌, ◌-◌, ◌*◌, ◌%◌, ◌≤◌, ◌<◌}
use native.Mathlib.Omega.{arith}
use native.Mathlib.Numerals.{add-one}
use native.Mathlib.Nat.{mod-eq_of_lt, zero-mod}
use native.Mathlib.Decide.{ℕ_discrete, dec_lt}
use lib.Dec.{ltb, leb, eqb}
use lib.ListN.{length, get_or, set, replicate, length-set}
use lib.Seq.{get_or-set_same, get_or-set_other, set-set, set-get_or, ext_get_or}
use borrow.Author.Rules.{rules}
use mir.Syntax.{w64}
use mir.Val.{Fits}
use borrow.Author.Tests.{ltb-true, leb-true, eqb-true, lt-ltb, le-ltb, le-leb, lt-leb, eq-eqb, ne_eqb}
use Rattle.lemmas.specs.Sums.{every}
use Rattle.lemmas.proofs.Sums.{and_left, and_right, and_both, and_false, every_all, all_every}
use Rattle.universe.specs.declared.Universe.{Universe}
use Rattle.universe.specs.declared.Block.{Block}
use Rattle.universe.specs.Universe.{universe_refusal, most_axes, most_levels, levels, axis_at, side_along, blocks_along, block_side}
use Rattle.universe.specs.Questions.{levels_answer}
use Rattle.universe.specs.Block.{low_along, length_along, whole_block, axis_of, low, high, Given, first, lower, upper}
use Rattle.universe.specs.Block.{placed_along, is_given, low_half, high_half}
use Rattle.universe.proofs.Universes.{Accepted, accepted, is_accepted, levels_few, side_few, axis_below, side_first, side_halved, side_kept, side_positive, blocks_sides}
use Rattle.universe.proofs.Checked.{err_accepts, err_refuses}
use Rattle.universe.proofs.Questions.{levels_told}
use Rattle.universe.proofs.Multiples.{low_multiple, high_multiple, middle_inside, low_or_middle}

-- ---- what the test says

pub record Placed (b : Block) : Type 0 where
  pub taken : Accepted b.universe
  pub level_most : b.level ≤ levels b.universe
  pub multiple : (i : ℕ) → i < b.universe.axes → low_along b i % length_along b i ≡ 0
  pub inside : (i : ℕ) → i < b.universe.axes → low_along b i < side_along b.universe i
  pub above : (i : ℕ) → b.universe.axes ≤ i → i < most_axes → low_along b i ≡ 0

module _ (b : Block) (i : ℕ) where
  along : placed_along b i ≡ true → i < b.universe.axes → (low_along b i % length_along b i ≡ 0) × (low_along b i < side_along b.universe i)
  along h l =
      let m : Bool = eqb (low_along b i % length_along b i) 0 in
      let k : Bool = ltb (low_along b i) (side_along b.universe i) in
      let z : m && k ≡ true = rw (lt-ltb i b.universe.axes l) at h in
      (eqb-true _ _ (and_left m k z), ltb-true _ _ (and_right m k z))

  beyond : placed_along b i ≡ true → b.universe.axes ≤ i → low_along b i ≡ 0
  beyond h l = eqb-true _ _ (rw (le-ltb i b.universe.axes l) at h)

  pub placed_along_lem : i < b.universe.axes → low_along b i % length_along b i ≡ 0 → low_along b i < side_along b.universe i → placed_along b i ≡ true
  placed_along_lem l m k = rw (lt-ltb i b.universe.axes l) (and_both (eq-eqb _ _ m) (lt-ltb _ _ k))

  pub placed_beyond : b.universe.axes ≤ i → low_along b i ≡ 0 → placed_along b i ≡ true
  placed_beyond l e = rw (le-ltb i b.universe.axes l) (eq-eqb _ _ e)

pub test_placed : (b : Block) → is_given b ≡ true → Placed b
unfolding is_given
test_placed b h =
    let u = b.universe in
    let x : Bool = eqb (universe_refusal u) 0 && leb b.level (levels u) in
    let front : x ≡ true = and_left x (every most_axes (placed_along b)) h in
    let all : (i : ℕ) → i < most_axes → placed_along b i ≡ true = every_all most_axes (placed_along b) (and_right x (every most_axes (placed_along b)) h) in
    let a : Accepted u = accepted u (eqb-true _ _ (and_left (eqb (universe_refusal u) 0) (leb b.level (levels u)) front)) in
    record {
      taken = a;
      level_most = leb-true _ _ (and_right (eqb (universe_refusal u) 0) (leb b.level (levels u)) front);
      multiple = λ i l. (along b i (all i (omega (arith, a.few_axes))) l).0;
      inside = λ i l. (along b i (all i (omega (arith, a.few_axes))) l).1;
      above = λ i l k. beyond b i (all i k) l;
    }

pub placed_test : (b : Block) → Placed b → is_given b ≡ true
unfolding is_given
placed_test b p =
    and_both (and_both (eq-eqb _ _ (is_accepted b.universe p.taken)) (le-leb _ _ p.level_most)) (all_every most_axes (placed_along b) each)
  where
    each : (i : ℕ) → i < most_axes → placed_along b i ≡ true
    each i l = go (dec_lt i b.universe.axes)
      where
        go : Dec (i < b.universe.axes) → placed_along b i ≡ true
        go (yes k) = placed_along_lem b i k (p.multiple i k) (p.inside i k)
        go (no k) = placed_beyond b i (omega arith) (p.above i (omega arith) l)

-- ---- given blocks pass the test

-- the place of a half along an axis that is kept
kept_low : (u : Universe) (l : ℕ) (w : List ℕ) (x i : ℕ) → (axis_at u l ≡ i → ⊥) → get_or (set w (axis_at u l) x) i 0 ≡ get_or w i 0
kept_low u l w x i n = get_or-set_other w (axis_at u l) i x 0 (λ e. n (sym e))

pub given_length : {b : Block} → Given b → length b.low ≡ most_axes
given_length (first u e) = refl
given_length (lower b g l) = given_length g
given_length (upper b g l) = simp length-set (given_length g)

-- the whole block begins at 0
pub zero_low : (n i : ℕ) → ◌≡◌ {A = ℕ} (get_or (replicate n 0) i 0) 0
zero_low zero i = refl
zero_low (suc n) zero = refl
zero_low (suc n) (suc i) = zero_low n i

first_placed : (u : Universe) → Accepted u → Placed (whole_block u)
first_placed u a = record {
  taken = a;
  level_most = omega arith;
  multiple = λ i l. rw (zero_low most_axes i) (zero-mod (block_side u 0 i));
  inside = λ i l. rw (zero_low most_axes i, ← side_first u i) (side_positive u 0 i);
  above = λ i l k. zero_low most_axes i;
}

-- the length of a block's halves along the axis of the halving
abbrev pub half_length : Block → ℕ
half_length b = block_side b.universe (suc b.level) (axis_of b)

-- where the high half begins, along the axis and along another
pub high_here : (b : Block) → axis_of b < length b.low → low_along (high b) (axis_of b) ≡ low_along b (axis_of b) + half_length b
high_here b h = get_or-set_same b.low (axis_of b) (low_along b (axis_of b) + half_length b) 0 h

pub high_kept : (b : Block) (i : ℕ) → (axis_of b ≡ i → ⊥) → low_along (high b) i ≡ low_along b i
high_kept b i n = kept_low b.universe b.level b.low (low_along b (axis_of b) + half_length b) i n

module _ (b : Block) (p : Placed b) (h : b.level < levels b.universe) where
  pub axis_few : axis_of b < b.universe.axes
  axis_few = axis_below b.universe p.taken.some_axes b.level

  pub length_halved : length_along b (axis_of b) ≡ 2 * half_length b
  length_halved = side_halved b.universe p.taken.some_axes b.level h

  pub low_even : low_along b (axis_of b) % (2 * half_length b) ≡ 0
  low_even = rw length_halved at (p.multiple (axis_of b) axis_few)

  -- the middle is inside the universe
  pub middle : low_along b (axis_of b) + half_length b < side_along b.universe (axis_of b)
  middle =
      let u = b.universe in
      let x = low_along b (axis_of b) in
      let n = blocks_along u b.level (axis_of b) in
      let e : n * (2 * half_length b) ≡ side_along u (axis_of b) =
      ap (λ (t : ℕ). n * t) (sym length_halved) ∙ blocks_sides u b.level (axis_of b) axis_few p.level_most in
      let inside : x < n * (2 * half_length b) = rw e (p.inside (axis_of b) axis_few) in
      rw e at (middle_inside n x (half_length b) (side_positive u (suc b.level) (axis_of b)) low_even inside)

  pub low_placed : Placed (low b)
  low_placed = record { taken = p.taken; level_most = h; multiple = λ i l. go i l (ℕ_discrete (axis_of b) i); inside = p.inside; above = p.above }
    where
      go : (i : ℕ) → i < b.universe.axes → Dec (axis_of b ≡ i) → low_along b i % block_side b.universe (suc b.level) i ≡ 0
      go i l (yes e) = rw (← e) (low_multiple _ _ low_even)
      go i l (no n) = rw (side_kept b.universe b.level i n) (p.multiple i l)

  pub high_placed : length b.low ≡ most_axes → Placed (high b)
  high_placed len = record {
    taken = p.taken;
    level_most = h;
    multiple = λ i l. multiple_high i l (ℕ_discrete (axis_of b) i);
    inside = λ i l. inside_high i l (ℕ_discrete (axis_of b) i);
    above = λ i l k. high_kept b i (λ e. omega (arith, axis_few)) ∙ p.above i l k;
  }
    where
      here : low_along (high b) (axis_of b) ≡ low_along b (axis_of b) + half_length b
      here = high_here b (omega (arith, axis_few, p.taken.few_axes))

      multiple_high : (i : ℕ) → i < b.universe.axes → Dec (axis_of b ≡ i) → low_along (high b) i % block_side b.universe (suc b.level) i ≡ 0
      multiple_high i l (yes e) = rw (← e, here) (high_multiple _ _ low_even)
      multiple_high i l (no n) = rw (side_kept b.universe b.level i n, high_kept b i n) (p.multiple i l)

      inside_high : (i : ℕ) → i < b.universe.axes → Dec (axis_of b ≡ i) → low_along (high b) i < side_along b.universe i
      inside_high i l (yes e) = rw (← e, here) middle
      inside_high i l (no n) = rw (high_kept b i n) (p.inside i l)

pub given_placed : {b : Block} → Given b → Placed b
given_placed (first u e) = first_placed u (accepted u e)
given_placed (lower b g l) = low_placed b (given_placed g) l
given_placed (upper b g l) = high_placed b (given_placed g) l (given_length g)

pub is_given_lem : (b : Block) → Given b → is_given b ≡ true
is_given_lem b g = placed_test b (given_placed g)

-- ---- a block that passes the test is given

abbrev block : Universe → ℕ → List ℕ → Block
block u l w = record { universe = u; level = l; low = w }

-- at level 0 it is the whole block
start : (u : Universe) (w : List ℕ) → length w ≡ most_axes → Placed (block u 0 w) → w ≡ replicate most_axes 0
start u w len p = ext_get_or 0 w (replicate most_axes 0) len (λ i l. go i (omega arith) (dec_lt i u.axes) ∙ sym (zero_low most_axes i))
  where
    go : (i : ℕ) → i < most_axes → Dec (i < u.axes) → get_or w i 0 ≡ 0
    go i l (yes k) =
        let m : get_or w i 0 % side_along u i ≡ 0 = rw (side_first u i) at (p.multiple i k) in
        sym (mod-eq_of_lt (p.inside i k)) ∙ m
    go i l (no k) = p.above i (omega arith) l

-- above it is a half of a block that passes the test too
module _ (u : Universe) (l : ℕ) (w : List ℕ) (len : length w ≡ most_axes) (p : Placed (block u (suc l) w)) where
  here : axis_at u l < u.axes
  here = axis_below u p.taken.some_axes l

  parent : (v : List ℕ) → ((i : ℕ) → (axis_at u l ≡ i → ⊥) → get_or v i 0 ≡ get_or w i 0) → get_or v (axis_at u l) 0 ≤ get_or w (axis_at u l) 0
      → get_or v (axis_at u l) 0 % (2 * block_side u (suc l) (axis_at u l)) ≡ 0 → Placed (block u l v)
  parent v kept less even = record {
    taken = p.taken;
    level_most = omega (arith, p.level_most);
    multiple = λ i k. multiple_at i k (ℕ_discrete (axis_at u l) i);
    inside = λ i k. inside_at i k (ℕ_discrete (axis_at u l) i);
    above = λ i k f. kept i (λ e. omega (arith, here)) ∙ p.above i k f;
  }
    where
      multiple_at : (i : ℕ) → i < u.axes → Dec (axis_at u l ≡ i) → get_or v i 0 % block_side u l i ≡ 0
      multiple_at i k (yes e) = rw (← e, side_halved u p.taken.some_axes l p.level_most) even
      multiple_at i k (no n) = rw (← side_kept u l i n, kept i n) (p.multiple i k)

      inside_at : (i : ℕ) → i < u.axes → Dec (axis_at u l ≡ i) → get_or v i 0 < side_along u i
      inside_at i k (yes e) = rw (← e) (omega (arith, p.inside (axis_at u l) here))
      inside_at i k (no n) = rw (kept i n) (p.inside i k)

  -- from the block below the high half: its place, and the way back
  back : List ℕ
  back = set w (axis_at u l) (get_or w (axis_at u l) 0 - block_side u (suc l) (axis_at u l))

  back_at : get_or back (axis_at u l) 0 ≡ get_or w (axis_at u l) 0 - block_side u (suc l) (axis_at u l)
  unfolding back
  back_at = get_or-set_same w (axis_at u l) _ 0 (omega (arith, here, p.taken.few_axes))

  back_length : length back ≡ most_axes
  unfolding back
  back_length = length-set w (axis_at u l) _ ∙ len

  forth : block_side u (suc l) (axis_at u l) ≤ get_or w (axis_at u l) 0 → (high (block u l back)).low ≡ w
  unfolding back
  forth k =
      let s = block_side u (suc l) (axis_at u l) in
      let e : get_or back (axis_at u l) 0 + s ≡ get_or w (axis_at u l) 0 = omega (arith, back_at) in
      ap (set back (axis_at u l)) e ∙ set-set w (axis_at u l) _ _ ∙ set-get_or w (axis_at u l) 0

  half_of : ((v : List ℕ) → length v ≡ most_axes → Placed (block u l v) → Given (block u l v)) → Given (block u (suc l) w)
  unfolding back
  half_of ih = go (low_or_middle (get_or w (axis_at u l) 0) (block_side u (suc l) (axis_at u l)) (p.multiple (axis_at u l) here))
    where
      s : ℕ
      s = block_side u (suc l) (axis_at u l)

      go : (get_or w (axis_at u l) 0 % (2 * s) ≡ 0) ⊎ ((s ≤ get_or w (axis_at u l) 0) × ((get_or w (axis_at u l) 0 - s) % (2 * s) ≡ 0)) → Given (block u (suc l) w)
      go (inl m) = lower (block u l w) (ih w len (parent w (λ i n. refl) (omega arith) m)) p.level_most
      go (inr m) =
          let q : Placed (block u l back) = parent back (λ i n. kept_low u l w _ i n) (omega (arith, back_at)) (rw back_at m.1) in
          subst (λ (v : List ℕ). Given (block u (suc l) v)) (forth m.0) (upper (block u l back) (ih back back_length q) p.level_most)

placed_given : (l : ℕ) (u : Universe) (w : List ℕ) → length w ≡ most_axes → Placed (block u l w) → Given (block u l w)
placed_given zero u w len p = subst (λ (v : List ℕ). Given (block u 0 v)) (sym (start u w len p)) (first u (is_accepted u p.taken))
placed_given (suc l) u w len p = half_of u l w len p (placed_given l u)

pub given_is : (b : Block) → length b.low ≡ most_axes → is_given b ≡ true → Given b
given_is b len h = placed_given b.level b.universe b.low len (test_placed b h)

-- ---- the halves: of a given block above the last level, and of any other

-- where the test of `low_half` and `high_half` holds, and where it does not
pub halved_is : (b : Block) → is_given b && ltb b.level (levels b.universe) ≡ true → (low_half b ≡ low b) × (high_half b ≡ high b)
unfolding low_half high_half
halved_is b e = (rw e, rw e)

pub halved_placed : (b : Block) → is_given b && ltb b.level (levels b.universe) ≡ true → Placed b
halved_placed b e = test_placed b (and_left (is_given b) (ltb b.level (levels b.universe)) e)

pub halved_above : (b : Block) → is_given b && ltb b.level (levels b.universe) ≡ true → b.level < levels b.universe
halved_above b e = ltb-true _ _ (and_right (is_given b) (ltb b.level (levels b.universe)) e)

pub stays_is : (b : Block) → is_given b && ltb b.level (levels b.universe) ≡ false → (low_half b ≡ b) × (high_half b ≡ b)
unfolding low_half high_half
stays_is b e = (rw e, rw e)

module _ {b : Block} (g : Given b) (h : b.level < levels b.universe) where
  halved_test : is_given b && ltb b.level (levels b.universe) ≡ true
  halved_test = and_both (is_given_lem b g) (lt-ltb _ _ h)

  pub low_half_is : low_half b ≡ low b
  low_half_is = (halved_is b halved_test).0

  pub high_half_is : high_half b ≡ high b
  high_half_is = (halved_is b halved_test).1

-- a block at level L stays itself
pub stays_itself_last : (b : Block) → levels b.universe ≤ b.level → (low_half b ≡ b) × (high_half b ≡ b)
stays_itself_last b h = stays_is b (rw (le-ltb b.level (levels b.universe) h) (and_false (is_given b)))

-- and so does one that is not given
pub stays_itself_other : (b : Block) → length b.low ≡ most_axes → (Given b → ⊥) → (low_half b ≡ b) × (high_half b ≡ b)
stays_itself_other b len n = go (is_given b) refl
  where
    go : (x : Bool) → is_given b ≡ x → (low_half b ≡ b) × (high_half b ≡ b)
    go true e = absurd (n (given_is b len e))
    go false e = stays_is b (rw e)

-- what the code of `is_given` asks
pub given_refused : (b : Block) → (universe_refusal b.universe ≡ 0 → ⊥) → false ≡ is_given b
unfolding is_given
given_refused b n = rw (ne_eqb _ 0 n)

pub given_past : (b : Block) {n : ℕ} → n ≡ levels_answer b.universe → n < b.level → universe_refusal b.universe ≡ 0 → false ≡ is_given b
unfolding is_given
given_past b e h z = rw (z, lt-leb b.level (levels b.universe) (omega (arith, levels_told b.universe refl z e)))

pub ruleset given_laws = (err_accepts, err_refuses, given_refused, given_past)

-- what the code of `is_halved` asks of a block that is given
pub level_test : (b : Block) {given : Bool} {n : ℕ} → given ≡ is_given b → given ≡ true → n ≡ levels_answer b.universe
    → ltb b.level n ≡ (is_given b && ltb b.level (levels b.universe))
level_test b e t f = rw (← e, t, levels_told b.universe refl (is_accepted b.universe (test_placed b (sym e ∙ t)).taken) f)

-- ---- what the code of the halves has seen: `told` is the test, x the axis, s the half's length

module _ (b : Block) {told : Bool} (e : told ≡ (is_given b && ltb b.level (levels b.universe))) where
  module _ (t : told ≡ false) where
    pub stays_low : b ≡ low_half b
    stays_low = sym (stays_is b (sym e ∙ t)).0

    pub stays_high : b ≡ high_half b
    stays_high = sym (stays_is b (sym e ∙ t)).1

  module _ (t : told ≡ true) where
    pub halved_taken : universe_refusal b.universe ≡ 0
    halved_taken = is_accepted b.universe (halved_placed b (sym e ∙ t)).taken

    pub level_above : b.level < levels b.universe
    level_above = halved_above b (sym e ∙ t)

    pub level_few : b.level < most_levels
    level_few = omega (arith, levels_few b.universe (halved_placed b (sym e ∙ t)).taken, level_above)

    pub half_low : ◌≡◌ {A = Block} (record { universe = b.universe; level = b.level + 1; low = b.low }) (low_half b)
    half_low =
        (λ i. record { universe = b.universe; level = add-one b.level i; low = b.low }) ∙ sym (halved_is b (sym e ∙ t)).0

    module _ {x : ℕ} (f : x ≡ axis_of b) where
      pub axis_inside : x < b.universe.axes
      axis_inside = omega (arith, f, axis_few b (halved_placed b (sym e ∙ t)) level_above)

      pub axis_in_array : x < most_axes
      axis_in_array = omega (arith, axis_inside, (halved_placed b (sym e ∙ t)).taken.few_axes)

      module _ {s : ℕ} (g : s ≡ block_side b.universe (b.level + 1) x) where
        half_place : get_or b.low x 0 + s ≡ low_along b (axis_of b) + block_side b.universe (suc b.level) (axis_of b)
        half_place = ap₂ ◌+◌ (ap (low_along b) f) (g ∙ ap₂ (block_side b.universe) (add-one b.level) f)

        pub half_fits : Fits w64 (get_or b.low x 0 + s)
        half_fits =
            let p = halved_placed b (sym e ∙ t) in
            record { fits = omega (arith, half_place, middle b p level_above, side_few b.universe p.taken (axis_of b)) }

        pub half_high :
            ◌≡◌ {A = Block} (record { universe = b.universe; level = b.level + 1; low = set b.low x (get_or b.low x 0 + s) }) (high_half b)
        half_high =
            (λ i. record { universe = b.universe; level = add-one b.level i; low = set b.low (f i) (half_place i) }) ∙ sym (halved_is b (sym e ∙ t)).1

pub ruleset half_laws = (rules, stays_low, stays_high, halved_taken, level_above, level_few, half_low, axis_inside, axis_in_array, half_fits, half_high)
