-- The word of a ball over a block is made of those of its halves. Across a place axis the high half's first voxel is twice the half's length further off along
-- it, and the sum of the squares more by 4·s·(o + s); across the frame axis both halves have the same word.
use mathlib.Core.Path.{◌≡◌, refl, sym, ap, ap₂, ◌∙◌, subst}
use mathlib.Core.Bool.{Bool, true, cond, ◌&&◌}
use mathlib.Core.List.{List}
use Prim.Native.Nat.{ℕ, zero, suc, ◌+◌, ◌-◌, ◌*◌, ◌%◌, ◌^◌, ◌≤◌, ◌<◌}
use native.Mathlib.Omega.{arith}
use native.Mathlib.Decide.{ℕ_discrete}
use lib.Dec.{eqb, leb, ltb}
use lib.ListN.{length, get_or, set, length-set}
use lib.Seq.{get_or-set_same, get_or-set_other}
use lib.IntN.{ℤ, pos, ◌+ℤ◌, ◌*ℤ◌}
use lib.Signed.{le_z}
use mir.Syntax.{w64}
use mir.Val.{SFits, to_z}
use mir.ValLaws.{to_z-of_z}
use Rattle.lemmas.specs.Sums.{total, every}
use Rattle.lemmas.specs.Grid.{count}
use Rattle.lemmas.proofs.Sums.{and_right, every_all, total_cong}
use Rattle.lemmas.proofs.Machine.{Near, near_lit, near_nat, near_cast, near_add, near_mul, near_back, near_call, near_fits}
use Rattle.lemmas.proofs.Whole.{ι, ν, ◌⊕◌, ◌⊖◌, ◌⊗◌, eq_by}
use Rattle.universe.specs.declared.Universe.{Universe}
use Rattle.universe.specs.declared.Block.{Block}
use Rattle.universe.specs.Refusals.{bad_rows}
use Rattle.universe.specs.Universe.{longest_side}
use Rattle.universe.specs.Block.{low_along, axis_of, low, high}
use Rattle.universe.specs.Voxel.{voxel_refusal}
use Rattle.universe.proofs.Refusing.{unless_holds}
use Rattle.universe.proofs.Universes.{Accepted}
use Rattle.universe.proofs.Blocks.{given_placed, half_length, high_here, high_kept}
use Rattle.universe.proofs.Voxel.{taken_voxel}
use Rattle.csg.specs.Ball.{Ball, place_axes, most_places, most_balls, ball_length, ball_at, ball_count, ball_within, balls_refusal, radius_squared, off}
use Rattle.csg.specs.Ball.{distance_at, ball_colour}
use Rattle.csg.specs.Surfaces.{Surfaces, ball}
use Rattle.csg.specs.Marks.{surface_colour}
use Rattle.demands.specs.Voxels.{Colouring}
use Rattle.convert.proofs.Judging.{small_balls}
use Rattle.pruned.proofs.Moving.{held}
use Rattle.masks.specs.Block.{block_mask}
use Rattle.masks.specs.Steps.{steps_along}
use Rattle.masks.specs.Leaves.{off_limit, distance_limit, off_first, first_distance, ball_mask}
use Rattle.masks.proofs.Mask.{mask_cong}
use Rattle.masks.proofs.Block.{Left, left_low, left_high, mask_halves, mask_fits}
use Rattle.masks.proofs.Steps.{axis_is, side_is, axis_tabled, axis_long}
use Rattle.masks.proofs.Leaves.{ball_mask_lem, ball_voxel, distance_high}
use Rattle.masks.proofs.Limits.{off_few, distance_few}
use Rattle.at_once.specs.Words.{word_levels, WordBlock, word_block, step_at, BallNamed, OffsOf, squares_of, BallOver}
use Rattle.at_once.proofs.WordBlocks.{taken, levels_left, first_voxel}
use Rattle.at_once.proofs.BallValues.{most_held_lem}

-- masks of a ball that differ in the frame axis alone
same_places : (o : Ball) (n : ℕ) (b c : Block) → b.universe ≡ c.universe →
    ((a : ℕ) → a < place_axes b.universe → low_along b a ≡ low_along c a) → ball_mask o n b ≡ ball_mask o n c
unfolding ball_mask
same_places o n b c e h =
    mask_cong (2 ^ n) _ _
    (λ i l. ap (λ (z : ℤ). le_z z (pos (4 * radius_squared o)))
    (total_cong (place_axes b.universe) _ (λ a. square_at b.universe a (low_along c a) i) (λ a m. ap (λ (x : ℕ). square_at b.universe a x i) (h a m))
    ∙ ap (λ (u : Universe). total (place_axes u) (λ a. square_at u a (low_along c a) i)) e))
  where
    square_at : Universe → ℕ → ℕ → ℕ → ℤ
    square_at u a x i = off 2 (2 * (x + steps_along u a n i) + 1) (o.centre a) *ℤ off 2 (2 * (x + steps_along u a n i) + 1) (o.centre a)

-- one voxel
pub gives_digit : {places : ℕ} {table lengths : List ℕ} {offs : List ℤ} {distance most : ℤ} (over : BallOver places table lengths 0 offs distance most) →
    {r : ℕ} → r ≡ count (le_z distance most) → r ≡ block_mask (ball_colour over.block.universe over.ball) 0 over.block
gives_digit over e =
    e ∙ ap₂ (λ (x y : ℤ). count (le_z x y)) over.distance_is over.most_is ∙ sym (ball_voxel over.ball over.block)

module _ {places : ℕ} {table lengths : List ℕ} {left : ℕ} {offs : List ℤ} {distance most : ℤ}
    (over : BallOver places table lengths left offs distance most) where
  abbrev b : Block
  b = over.block

  abbrev u : Universe
  u = b.universe

  abbrev colours : Colouring
  colours = ball_colour u over.ball

  accept : Accepted u
  accept = (given_placed over.given).taken

  corner : voxel_refusal u b.low ≡ 0
  corner = taken_voxel u b.low (record { inside = (given_placed over.given).inside; above = (given_placed over.given).above })

  distance_near : Near (held distance) (first_distance over.ball b) distance_limit
  distance_near =
      near_call {x = first_distance over.ball b} over.distance_is
      (record { same = refl; size = distance_few u accept over.ball over.within b.low corner }) tt

  module _ (f : SFits w64 most) where
    most_same : held most ≡ pos (4 * radius_squared over.ball)
    most_same = to_z-of_z w64 most f ∙ over.most_is

    -- the same ball over the same block, with as many levels left as are said
    unfoldable held_block : BallOver places table lengths left offs (held distance) (held most)
    held_block = record {
      ball = over.ball;
      block = b;
      within = over.within;
      given = over.given;
      levels_left = over.levels_left;
      few = over.few;
      tabled = over.tabled;
      places_are = over.places_are;
      long = over.long;
      offs_are = over.offs_are;
      distance_is = distance_near.same;
      most_is = most_same;
    }

    pub held_over : {n : ℕ} → left ≡ n → BallOver places table lengths n offs (held distance) (held most)
    held_over e = subst (λ (n : ℕ). BallOver places table lengths n offs (held distance) (held most)) e held_block

    pub as_held : {n r : ℕ} → left ≡ n →
        ((o : BallOver places table lengths n offs (held distance) (held most)) → r ≡ block_mask (ball_colour o.block.universe o.ball) n o.block) →
        r ≡ block_mask colours left b
    unfolding held_block
    as_held {r = r} e g =
        subst
        (λ (n : ℕ). (o : BallOver places table lengths n offs (held distance) (held most)) → r ≡ block_mask (ball_colour o.block.universe o.ball) n o.block)
        (sym e) g held_block

    module _ (k : left ≡ 0 → ⊥) where
      abbrev axis : ℕ
      axis = get_or table (left - 1) 0

      abbrev long : ℕ
      long = get_or lengths (left - 1) 0

      lefts : Left (suc (left - 1)) b
      lefts = record { given = over.given; left = omega (arith, over.levels_left) }

      pub half_place : left - 1 < word_levels
      half_place = omega (arith, over.few)

      axis_here : axis ≡ axis_of b
      axis_here = ap (λ (t : List ℕ). get_or t (left - 1) 0) over.tabled.axis_at_lem ∙ axis_tabled lefts ∙ axis_is lefts

      length_here : long ≡ half_length b
      length_here = over.tabled.length_at (left - 1) half_place (omega (arith, over.levels_left)) ∙ side_is lefts

      high_here' : low_along (high b) axis ≡ low_along b axis + long
      high_here' =
          ap (low_along (high b)) axis_here
          ∙ high_here b (axis_long lefts)
          ∙ ap₂ (λ (a s : ℕ). low_along b a + s) (sym axis_here) (sym length_here)

      high_else : (i : ℕ) → (axis ≡ i → ⊥) → low_along (high b) i ≡ low_along b i
      high_else i n = high_kept b i (λ e. n (axis_here ∙ e))

      halves : block_mask colours left b ≡ block_mask colours (left - 1) (high b) * 2 ^ 2 ^ (left - 1) + block_mask colours (left - 1) (low b)
      halves = let e : left ≡ suc (left - 1) = omega arith in ap (λ (n : ℕ). block_mask colours n b) e ∙ mask_halves colours (left - 1) b

      -- the low half
      pub low_over : BallOver places table lengths (left - 1) offs (held distance) (held most)
      low_over = record {
        ball = over.ball;
        block = low b;
        within = over.within;
        given = (left_low lefts).given;
        levels_left = (left_low lefts).left;
        few = omega (arith, over.few);
        tabled = over.tabled;
        places_are = over.places_are;
        long = over.long;
        offs_are = over.offs_are;
        distance_is = distance_near.same;
        most_is = most_same;
      }

      pub low_is_of : (low_over.block ≡ low b) × (low_over.ball ≡ over.ball)
      unfolding low_over
      low_is_of = (refl, refl)

      module _ {w : ℕ} (e : w ≡ block_mask (ball_colour low_over.block.universe low_over.ball) (left - 1) low_over.block) where
        low_is : w ≡ block_mask colours (left - 1) (low b)
        unfolding low_over
        low_is = e

        pub low_fits : w < 2 ^ 2 ^ (left - 1)
        low_fits = rw low_is (mask_fits colours (left - 1) (low b))

        -- the frame axis
        pub gives_alike : places ≤ axis → {r : ℕ} → r ≡ w * 2 ^ 2 ^ (left - 1) + w → r ≡ block_mask colours left b
        gives_alike l p =
            let same : block_mask colours (left - 1) (low b) ≡ block_mask colours (left - 1) (high b) =
            ball_mask_lem over.ball (left - 1) (low b) (left_low lefts)
            ∙ same_places over.ball (left - 1) (low b) (high b) refl (λ a m. sym (high_else a (λ q. omega (arith, over.places_are))))
            ∙ sym (ball_mask_lem over.ball (left - 1) (high b) (left_high lefts)) in
            p ∙ ap₂ (λ (x y : ℕ). x * 2 ^ 2 ^ (left - 1) + y) (low_is ∙ same) low_is ∙ sym halves

      -- a place axis
      module _ (l : axis < places) where
        pub axis_place : axis < most_places
        axis_place = omega (arith, over.places_are, accept.few_axes)

        abbrev o : ℤ
        o = off_first over.ball b axis

        off_near : Near (held (step_at offs axis)) o off_limit
        off_near =
            let m : axis < place_axes u = omega (arith, over.places_are) in
            near_call {x = o} (over.offs_are axis l) (record { same = refl; size = off_few u accept over.ball over.within b.low corner axis m }) tt

        length_near : Near (to_z w64 long) (pos long) longest_side
        length_near = near_cast long longest_side (over.tabled.short (left - 1)).most tt

        pub length_cast : SFits w64 (pos long)
        length_cast = near_fits (near_nat long longest_side (over.tabled.short (left - 1)).most) tt

        two_near : Near (pos 2 *ℤ to_z w64 long) (pos 2 *ℤ pos long) (2 * longest_side)
        two_near = near_mul {x = pos 2} {y = pos long} (near_lit (pos 2)) length_near

        further_near : Near (held (step_at offs axis) +ℤ held (pos 2 *ℤ to_z w64 long)) (o +ℤ pos 2 *ℤ pos long) (off_limit + 2 * longest_side)
        further_near = near_add {x = o} {y = pos 2 *ℤ pos long} off_near (near_back {x = pos 2 *ℤ pos long} two_near tt)

        four_near : Near (pos 4 *ℤ to_z w64 long) (pos 4 *ℤ pos long) (4 * longest_side)
        four_near = near_mul {x = pos 4} {y = pos long} (near_lit (pos 4)) length_near

        sum_near : Near (held (step_at offs axis) +ℤ to_z w64 long) (o +ℤ pos long) (off_limit + longest_side)
        sum_near = near_add {x = o} {y = pos long} off_near length_near

        more_near : Near (held (pos 4 *ℤ to_z w64 long) *ℤ held (held (step_at offs axis) +ℤ to_z w64 long)) (pos 4 *ℤ pos long *ℤ (o +ℤ pos long))
            (4 * longest_side * (off_limit + longest_side))
        more_near =
            near_mul {x = pos 4 *ℤ pos long} {y = o +ℤ pos long} (near_back {x = pos 4 *ℤ pos long} four_near tt)
            (near_back {x = o +ℤ pos long} sum_near tt)

        abbrev more : ℤ
        more = held (pos 4 *ℤ to_z w64 long) *ℤ held (held (step_at offs axis) +ℤ to_z w64 long)

        far_near : Near (held distance +ℤ held more) (first_distance over.ball b +ℤ pos 4 *ℤ pos long *ℤ (o +ℤ pos long))
            (distance_limit + 4 * longest_side * (off_limit + longest_side))
        far_near =
            near_add {x = first_distance over.ball b} {y = pos 4 *ℤ pos long *ℤ (o +ℤ pos long)} distance_near
            (near_back {x = pos 4 *ℤ pos long *ℤ (o +ℤ pos long)} more_near tt)

        pub two_fits : SFits w64 (pos 2 *ℤ to_z w64 long)
        two_fits = near_fits {x = pos 2 *ℤ pos long} two_near tt

        pub further_fits : SFits w64 (held (step_at offs axis) +ℤ held (pos 2 *ℤ to_z w64 long))
        further_fits = near_fits {x = o +ℤ pos 2 *ℤ pos long} further_near tt

        pub four_fits : SFits w64 (pos 4 *ℤ to_z w64 long)
        four_fits = near_fits {x = pos 4 *ℤ pos long} four_near tt

        pub sum_fits : SFits w64 (held (step_at offs axis) +ℤ to_z w64 long)
        sum_fits = near_fits {x = o +ℤ pos long} sum_near tt

        pub more_fits : SFits w64 more
        more_fits = near_fits {x = pos 4 *ℤ pos long *ℤ (o +ℤ pos long)} more_near tt

        pub far_fits : SFits w64 (held distance +ℤ held more)
        far_fits = near_fits {x = first_distance over.ball b +ℤ pos 4 *ℤ pos long *ℤ (o +ℤ pos long)} far_near tt

        abbrev new : ℤ
        new = held (held (step_at offs axis) +ℤ held (pos 2 *ℤ to_z w64 long))

        new_here : new ≡ off_first over.ball (high b) axis
        new_here =
            (near_back {x = o +ℤ pos 2 *ℤ pos long} further_near tt).same
            ∙ from (low_along b axis) long (over.ball.centre axis)
            ∙ ap (λ (x : ℕ). off 2 (2 * x + 1) (over.ball.centre axis)) (sym high_here')
          where
            from : (x s : ℕ) (c : ℤ) → off 2 (2 * x + 1) c +ℤ pos 2 *ℤ pos s ≡ off 2 (2 * (x + s) + 1) c
            from x s c = eq_by ((ν (2 * x + 1) ⊖ ν 2 ⊗ ι c) ⊕ ν 2 ⊗ ν s) (ν (2 * (x + s) + 1) ⊖ ν 2 ⊗ ι c) (omega arith)

        new_offs : (i : ℕ) → i < places → step_at (set offs axis new) i ≡ off_first over.ball (high b) i
        new_offs i m = go (ℕ_discrete axis i)
          where
            go : Dec (axis ≡ i) → step_at (set offs axis new) i ≡ off_first over.ball (high b) i
            go (yes e) =
                ap (λ (j : ℕ). step_at (set offs axis new) j) (sym e)
                ∙ get_or-set_same offs axis new (pos 0) (omega (arith, axis_place, over.long))
                ∙ new_here
                ∙ ap (off_first over.ball (high b)) e
            go (no n) =
                get_or-set_other offs axis i new (pos 0) (λ e. n (sym e))
                ∙ over.offs_are i m
                ∙ ap (λ (x : ℕ). off 2 (2 * x + 1) (over.ball.centre i)) (sym (high_else i n))

        new_distance : held (held distance +ℤ held more) ≡ first_distance over.ball (high b)
        new_distance =
            (near_back {x = first_distance over.ball b +ℤ pos 4 *ℤ pos long *ℤ (o +ℤ pos long)} far_near tt).same
            ∙ ap₂ (λ (a s : ℕ). first_distance over.ball b +ℤ pos 4 *ℤ pos s *ℤ (off_first over.ball b a +ℤ pos s)) axis_here length_here
            ∙ from (first_distance over.ball b) (off_first over.ball b (axis_of b)) (half_length b)
            ∙ sym (distance_high over.ball lefts (omega (arith, axis_here, over.places_are)))
          where
            from : (d o : ℤ) (s : ℕ) → d +ℤ pos 4 *ℤ pos s *ℤ (o +ℤ pos s) ≡ d +ℤ pos (4 * s) *ℤ (o +ℤ pos s)
            from d o s = eq_by (ι d ⊕ ν 4 ⊗ ν s ⊗ (ι o ⊕ ν s)) (ι d ⊕ ν (4 * s) ⊗ (ι o ⊕ ν s)) (omega arith)

        pub high_over : BallOver places table lengths (left - 1) (set offs axis new) (held (held distance +ℤ held more)) (held most)
        high_over = record {
          ball = over.ball;
          block = high b;
          within = over.within;
          given = (left_high lefts).given;
          levels_left = (left_high lefts).left;
          few = omega (arith, over.few);
          tabled = over.tabled;
          places_are = over.places_are;
          long = length-set offs axis new ∙ over.long;
          offs_are = new_offs;
          distance_is = new_distance;
          most_is = most_same;
        }

        pub high_is_of : (high_over.block ≡ high b) × (high_over.ball ≡ over.ball)
        unfolding high_over
        high_is_of = (refl, refl)

        module _ {v : ℕ} (q : v ≡ block_mask (ball_colour high_over.block.universe high_over.ball) (left - 1) high_over.block) where
          high_is : v ≡ block_mask colours (left - 1) (high b)
          unfolding high_over
          high_is = q

          pub high_fits : v < 2 ^ 2 ^ (left - 1)
          high_fits = rw high_is (mask_fits colours (left - 1) (high b))

          pub gives_across : {w : ℕ} → w ≡ block_mask (ball_colour low_over.block.universe low_over.ball) (left - 1) low_over.block →
              {r : ℕ} → r ≡ v * 2 ^ 2 ^ (left - 1) + w → r ≡ block_mask colours left b
          gives_across e p = p ∙ ap₂ (λ (x y : ℕ). x * 2 ^ 2 ^ (left - 1) + y) high_is (low_is e) ∙ sym halves

-- ---- a ball over a block of a sound scene
squares_total : (n : ℕ) → n ≤ most_places → (f : ℕ → ℤ) →
    cond (ltb 0 n) (f 0) (pos 0) +ℤ cond (ltb 1 n) (f 1) (pos 0) +ℤ cond (ltb 2 n) (f 2) (pos 0) ≡ total n f
unfolding total
squares_total zero l f = refl
squares_total (suc zero) l f = from (f 0)
  where
    from : (a : ℤ) → a +ℤ pos 0 +ℤ pos 0 ≡ pos 0 +ℤ a
    from a = eq_by (ι a ⊕ ν 0 ⊕ ν 0) (ν 0 ⊕ ι a) (omega arith)
squares_total (suc (suc zero)) l f = from (f 0) (f 1)
  where
    from : (a c : ℤ) → a +ℤ c +ℤ pos 0 ≡ pos 0 +ℤ a +ℤ c
    from a c = eq_by (ι a ⊕ ι c ⊕ ν 0) (ν 0 ⊕ ι a ⊕ ι c) (omega arith)
squares_total (suc (suc (suc zero))) l f = from (f 0) (f 1) (f 2)
  where
    from : (a c d : ℤ) → a +ℤ c +ℤ d ≡ pos 0 +ℤ a +ℤ c +ℤ d
    from a c d = eq_by (ι a ⊕ ι c ⊕ ι d) (ν 0 ⊕ ι a ⊕ ι c ⊕ ι d) (omega arith)
squares_total (suc (suc (suc (suc n)))) l f = absurd (omega arith)

module _ {surfaces : Surfaces} {axes : ℕ} {table lengths lows : List ℕ} {left : ℕ} (w : WordBlock surfaces axes table lengths lows left)
    (i : ℕ) (here : i < ball_count surfaces.balls) where
  abbrev the_ball : Ball
  the_ball = ball_at surfaces.balls i

  pub some_axes : 1 ≤ axes
  some_axes = omega (arith, w.axes_are, (taken w).some_axes)

  pub ball_named : BallNamed surfaces.balls i
  ball_named = record { here = here; small = small_balls w.universe surfaces.balls w.scene.accepted_balls i here }

  within : ball_within w.universe the_ball ≡ true
  unfolding balls_refusal
  within =
      let balls = surfaces.balls in
      let shaped : Bool = eqb (length balls % ball_length) 0 && leb (ball_count balls) most_balls in
      let test : ℕ → Bool = λ k. ball_within w.universe (ball_at balls k) in
      every_all (ball_count balls) test
      (and_right shaped (every (ball_count balls) test)
      (unless_holds (shaped && every (ball_count balls) test) bad_rows (omega arith) w.scene.accepted_balls)) i here

  module _ {offs : List ℤ} (o : OffsOf the_ball lows offs) {d m : ℤ} (p : d ≡ squares_of (axes - 1) offs) (q : m ≡ pos (4 * radius_squared the_ball)) where
    squares_first : squares_of (axes - 1) offs ≡ first_distance the_ball (word_block w)
    unfolding distance_at
    squares_first =
        squares_total (axes - 1) (omega (arith, w.axes_are, (taken w).few_axes)) (λ k. step_at offs k *ℤ step_at offs k)
        ∙ total_cong (axes - 1) _ (λ k. off 2 (2 * get_or lows k 0 + 1) (the_ball.centre k) *ℤ off 2 (2 * get_or lows k 0 + 1) (the_ball.centre k))
        (λ k l. let e = o.off_at k (omega (arith, w.axes_are, (taken w).few_axes)) in ap₂ ◌*ℤ◌ e e)
        ∙ ap (λ (n : ℕ). total (n - 1) (λ k. off 2 (2 * get_or lows k 0 + 1) (the_ball.centre k) *ℤ off 2 (2 * get_or lows k 0 + 1) (the_ball.centre k)))
        w.axes_are

    first_near : Near (held d) (first_distance the_ball (word_block w)) distance_limit
    first_near =
        near_call {x = first_distance the_ball (word_block w)} (p ∙ squares_first)
        (record { same = refl; size = distance_few w.universe (taken w) the_ball within lows (first_voxel w) }) tt

    pub ball_over : BallOver (axes - 1) table lengths left offs (held d) (held m)
    ball_over = record {
      ball = the_ball;
      block = word_block w;
      within = within;
      given = w.given;
      levels_left = (levels_left w).left;
      few = w.few;
      tabled = w.tabled;
      places_are = ap (λ (n : ℕ). n - 1) w.axes_are;
      long = o.long;
      offs_are = λ k l. o.off_at k (omega (arith, w.axes_are, (taken w).few_axes));
      distance_is = first_near.same;
      most_is = most_held_lem ball_named q;
    }

    pub ball_is_of : (ball_over.block ≡ word_block w) × (ball_over.ball ≡ the_ball)
    unfolding ball_over
    ball_is_of = (refl, refl)

    pub gives_ball : {r : ℕ} → r ≡ block_mask (ball_colour ball_over.block.universe ball_over.ball) left ball_over.block →
        r ≡ block_mask (surface_colour surfaces w.universe (ball i)) left (word_block w)
    unfolding ball_over surface_colour
    gives_ball e = e
