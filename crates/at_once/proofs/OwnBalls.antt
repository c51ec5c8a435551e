-- The word of sure and possible contact of a ball over a block is made of those of its halves, as the word of its colours is; over one voxel it is the test of
-- the squares along the axes.
use mathlib.Core.Path.{◌≡◌, refl, sym, ap, ap₂, ◌∙◌}
use mathlib.Core.Bool.{Bool, cond}
use mathlib.Core.List.{List}
use Prim.Native.Nat.{ℕ, zero, suc, ◌+◌, ◌-◌, ◌*◌, ◌^◌, ◌≤◌, ◌<◌}
use native.Mathlib.Omega.{arith}
use lib.Dec.{ltb}
use lib.ListN.{get_or, set}
use lib.IntN.{ℤ, pos, ◌+ℤ◌, ◌*ℤ◌}
use lib.Signed.{le_z}
use mir.Syntax.{w64}
use mir.Val.{SFits, to_z, bool_byte}
use mir.ValLaws.{to_z-of_z, to_z_pos}
use Rattle.lemmas.specs.Sums.{sum}
use Rattle.lemmas.specs.Grid.{count}
use Rattle.lemmas.proofs.Sums.{sum_cong}
use Rattle.lemmas.proofs.Machine.{near_nat, near_fits}
use Rattle.universe.specs.declared.Universe.{Universe}
use Rattle.universe.specs.declared.Block.{Block}
use Rattle.universe.specs.Block.{axis_of, low, high}
use Rattle.universe.specs.Voxel.{place_along, voxel_refusal}
use Rattle.universe.proofs.Blocks.{given_placed}
use Rattle.universe.proofs.Voxel.{taken_voxel}
use Rattle.csg.specs.Ball.{Ball, most_places, square, ball_at, ball_count, radius_squared, off}
use Rattle.csg.specs.Surfaces.{Surfaces, ball}
use Rattle.demands.specs.Voxels.{Colouring}
use Rattle.pruned.proofs.Moving.{held}
use Rattle.masks.specs.Block.{block_mask}
use Rattle.masks.specs.Own.{own_surface, own_ball, spread, spread_sum}
use Rattle.masks.proofs.Block.{Left, mask_halves, mask_fits}
use Rattle.masks.proofs.Steps.{axis_is, axis_tabled}
use Rattle.masks.proofs.Limits.{off_few}
use Rattle.masks.proofs.Own.{own_ball_lem, own_ball_voxel, own_ball_alike}
use Rattle.at_once.specs.Words.{WordBlock, word_block, step_at, OffsOf, squares_of, BallOver}
use Rattle.at_once.specs.Own.{SpreadsReady, spread_squares, OwnBallOver}
use Rattle.at_once.proofs.Windows.{byte_count}
use Rattle.at_once.proofs.OwnValues.{squares_few}
use Rattle.at_once.proofs.BallWords.{low_over, low_is_of, high_over, high_is_of, ball_over, ball_is_of}

-- up to three axes
squares_sum : (n : ℕ) → n ≤ most_places → (f : ℕ → ℕ) → cond (ltb 0 n) (f 0) 0 + cond (ltb 1 n) (f 1) 0 + cond (ltb 2 n) (f 2) 0 ≡ sum n f
unfolding sum
squares_sum zero l f = refl
squares_sum (suc zero) l f = omega arith
squares_sum (suc (suc zero)) l f = omega arith
squares_sum (suc (suc (suc zero))) l f = omega arith
squares_sum (suc (suc (suc (suc n)))) l f = absurd (omega arith)

module _ {places : ℕ} {table lengths : List ℕ} {left : ℕ} {offs : List ℤ} {most : ℤ} (own : OwnBallOver places table lengths left offs most) where
  abbrev over : BallOver places table lengths left offs own.distance most
  over = own.over

  abbrev b : Block
  b = over.block

  abbrev u : Universe
  u = b.universe

  corner : voxel_refusal u b.low ≡ 0
  corner = taken_voxel u b.low (record { inside = (given_placed over.given).inside; above = (given_placed over.given).above })

  -- its numbers along the place axes are small
  pub offs_ready : SpreadsReady places offs
  offs_ready = record {
    along = λ i l m. record {
      most = rw (over.offs_are i l)
          (omega (arith, off_few u (given_placed over.given).taken over.ball over.within b.low corner i (omega (arith, over.places_are))));
    };
  }

  few_places : places ≤ most_places
  few_places = omega (arith, over.places_are, (given_placed over.given).taken.few_axes)

  module _ (possible : Bool) where
    abbrev colours : Colouring
    colours = own_ball possible u over.ball

    squares_first : spread_squares possible places offs ≡ spread_sum possible u over.ball b.low
    unfolding spread_sum
    squares_first =
        squares_sum places few_places (λ k. square (spread possible (step_at offs k)))
        ∙ sum_cong places _ (λ k. square (spread possible (off 2 (2 * place_along b.low k + 1) (over.ball.centre k))))
        (λ k l. ap (λ (x : ℤ). square (spread possible x)) (over.offs_are k l))
        ∙ ap (λ (n : ℕ). sum n (λ k. square (spread possible (off 2 (2 * place_along b.low k + 1) (over.ball.centre k))))) over.places_are

    pub squares_cast : {n : ℕ} → n ≡ spread_squares possible places offs → SFits w64 (pos n)
    squares_cast {n} e = let k : n ≤ 2 ^ 62 = omega (arith, squares_few offs_ready possible) in near_fits (near_nat n (2 ^ 62) k) tt

    module _ (f : SFits w64 most) where
      -- one voxel
      pub own_voxel : left ≡ 0 → {n : ℕ} → n ≡ spread_squares possible places offs →
          bool_byte (le_z (to_z w64 n) (held most)) ≡ block_mask colours left b
      own_voxel e {n} p =
          byte_count (le_z (to_z w64 n) (held most))
          ∙ ap₂ (λ (x y : ℤ). count (le_z x y)) (to_z_pos w64 n (omega (arith, squares_few offs_ready possible)) ∙ ap pos (p ∙ squares_first))
          (to_z-of_z w64 most f ∙ over.most_is)
          ∙ sym (own_ball_voxel possible over.ball b)
          ∙ ap (λ (n : ℕ). block_mask colours n b) (sym e)

      module _ (k : left ≡ 0 → ⊥) where
        abbrev axis : ℕ
        axis = get_or table (left - 1) 0

        lefts : Left (suc (left - 1)) b
        lefts = record { given = over.given; left = omega (arith, over.levels_left) }

        axis_here : axis ≡ axis_of b
        axis_here = ap (λ (t : List ℕ). get_or t (left - 1) 0) over.tabled.axis_at_lem ∙ axis_tabled lefts ∙ axis_is lefts

        halves : block_mask colours left b ≡ block_mask colours (left - 1) (high b) * 2 ^ 2 ^ (left - 1) + block_mask colours (left - 1) (low b)
        halves = let e : left ≡ suc (left - 1) = omega arith in ap (λ (n : ℕ). block_mask colours n b) e ∙ mask_halves colours (left - 1) b

        -- the low half
        pub own_low : OwnBallOver places table lengths (left - 1) offs (held most)
        own_low = record { distance = held own.distance; over = low_over over f k }

        module _ {w : ℕ} (e : w ≡ block_mask (own_ball possible own_low.over.block.universe own_low.over.ball) (left - 1) own_low.over.block) where
          low_is : w ≡ block_mask colours (left - 1) (low b)
          unfolding own_low
          low_is = e ∙ ap₂ (λ (x : Block) (y : Ball). block_mask (own_ball possible x.universe y) (left - 1) x) (low_is_of over f k).0 (low_is_of over f k).1

          pub own_low_fits : w < 2 ^ 2 ^ (left - 1)
          own_low_fits = rw low_is (mask_fits colours (left - 1) (low b))

          -- the frame axis
          pub own_alike : places ≤ axis → {r : ℕ} → r ≡ w * 2 ^ 2 ^ (left - 1) + w → r ≡ block_mask colours left b
          own_alike l p =
              let same : block_mask colours (left - 1) (low b) ≡ block_mask colours (left - 1) (high b) =
              own_ball_alike possible over.ball lefts (omega (arith, axis_here, over.places_are)) in
              p ∙ ap₂ (λ (x y : ℕ). x * 2 ^ 2 ^ (left - 1) + y) (low_is ∙ same) low_is ∙ sym halves

        -- a place axis
        module _ (l : axis < places) where
          abbrev new : ℤ
          new = held (held (step_at offs axis) +ℤ held (pos 2 *ℤ to_z w64 (get_or lengths (left - 1) 0)))

          pub own_high : OwnBallOver places table lengths (left - 1) (set offs axis new) (held most)
          own_high = record { distance = _; over = high_over over f k l }

          module _ {v : ℕ}
              (q : v ≡ block_mask (own_ball possible own_high.over.block.universe own_high.over.ball) (left - 1) own_high.over.block) where
            high_is : v ≡ block_mask colours (left - 1) (high b)
            unfolding own_high
            high_is =
                q ∙ ap₂ (λ (x : Block) (y : Ball). block_mask (own_ball possible x.universe y) (left - 1) x)
                (high_is_of over f k l).0 (high_is_of over f k l).1

            pub own_high_fits : v < 2 ^ 2 ^ (left - 1)
            own_high_fits = rw high_is (mask_fits colours (left - 1) (high b))

            pub own_across : {w : ℕ} →
                w ≡ block_mask (own_ball possible own_low.over.block.universe own_low.over.ball) (left - 1) own_low.over.block →
                {r : ℕ} → r ≡ v * 2 ^ 2 ^ (left - 1) + w → r ≡ block_mask colours left b
            own_across e p = p ∙ ap₂ (λ (x y : ℕ). x * 2 ^ 2 ^ (left - 1) + y) high_is (low_is e) ∙ sym halves

-- ---- a ball over a block of a sound scene
module _ {surfaces : Surfaces} {axes : ℕ} {table lengths lows : List ℕ} {left : ℕ} (w : WordBlock surfaces axes table lengths lows left)
    (i : ℕ) (here : i < ball_count surfaces.balls) {offs : List ℤ} (o : OffsOf (ball_at surfaces.balls i) lows offs) {m : ℤ}
    (q : m ≡ pos (4 * radius_squared (ball_at surfaces.balls i))) where
  pub own_over : OwnBallOver (axes - 1) table lengths left offs (held m)
  own_over = record { distance = held (squares_of (axes - 1) offs); over = ball_over w i here o refl q }

  pub gives_own_ball : (possible : Bool) {r : ℕ} →
      r ≡ block_mask (own_ball possible own_over.over.block.universe own_over.over.ball) left own_over.over.block →
      r ≡ block_mask (own_surface possible surfaces w.universe (ball i)) left (word_block w)
  unfolding own_over
  gives_own_ball possible e =
      let is = ball_is_of w i here o refl q in
      e
      ∙ ap₂ (λ (x : Block) (y : Ball). block_mask (own_ball possible x.universe y) left x) is.0 is.1
      ∙ own_ball_lem possible surfaces i left w.universe (word_block w)
