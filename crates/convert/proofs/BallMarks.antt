-- A ball's code is that of its mark over the block, since the two tests of the sums tell how these stand to the radius squared (`Told`), and at the centre of a
-- voxel that of its colour.
use Prim.Native.Nat.{ℕ, ◌+◌, ◌*◌, ◌≤◌, ◌<◌}
use mathlib.Core.Path.{◌≡◌, ap}
use mathlib.Core.Bool.{Bool, true, false, cond}
use mathlib.Core.List.{List}
use native.Mathlib.Omega.{arith}
use native.Mathlib.Decide.{dec_le}
use borrow.Author.Tests.{le-leb, lt-leb, lt-ltb, le-ltb}
use lib.Dec.{leb, ltb}
use lib.IntN.{ℤ, pos}
use lib.ListN.{get_or}
use lib.Signed.{le_z}
use Rattle.lemmas.specs.Sums.{sum}
use Rattle.lemmas.proofs.Sums.{sum_cong}
use Rattle.universe.specs.declared.Universe.{Universe}
use Rattle.universe.specs.declared.Block.{Block}
use Rattle.universe.specs.Block.{length_along}
use Rattle.bintree.specs.declared.Colour.TheVariants.{White, Black}
use Rattle.csg.specs.Halfspace.{Mark, decided}
use Rattle.csg.specs.Ball.{Ball, place_axes, square, radius_squared, nearest, farthest, near_sum, far_sum, ball_mark, ball_colour}
use Rattle.csg.proofs.Balls.{off_sum, distance_is, Told, is_black_lem, is_white, is_undecided, told}
use Rattle.convert.specs.Codes.{most_code, bits_of, tested_code, near_over, far_over, off_over, ball_code_over, ball_code_at, ball_code}
use Rattle.convert.proofs.Codes.{tested_most}

told_code : {r near far : ℕ} {m : Mark} → Told r near far m → tested_code (leb far r) (ltb r near) ≡ bits_of m
told_code {r} {near} {far} (is_black_lem a) = rw (le-leb far r a)
told_code {r} {near} {far} (is_white a d) = rw (lt-leb far r d, lt-ltb r near a)
told_code {r} {near} {far} (is_undecided a d) = rw (lt-leb far r d, le-ltb r near a)

module _ (ball : Ball) (b : Block) (side : List ℕ) (along : (i : ℕ) → i < b.universe.axes → get_or side i 0 ≡ length_along b i) where
  abbrev n : ℕ
  n = place_axes b.universe

  ends_same : (f : ℕ → ℕ → ℤ → ℕ) → sum n (λ i. square (f (get_or b.low i 0) (get_or b.low i 0 + get_or side i 0) (ball.centre i)))
      ≡ sum n (λ i. square (f (get_or b.low i 0) (get_or b.low i 0 + length_along b i) (ball.centre i)))
  ends_same f = sum_cong n _ _ (λ i h. ap (λ (x : ℕ). square (f (get_or b.low i 0) (get_or b.low i 0 + x) (ball.centre i))) (along i (omega arith)))

  near_same : near_over n ball b.low side ≡ near_sum ball b
  unfolding near_over near_sum
  near_same = ends_same nearest

  far_same : far_over n ball b.low side ≡ far_sum ball b
  unfolding far_over far_sum
  far_same = ends_same farthest

  pub ball_over : ball_code_over n ball b.low side ≡ bits_of (ball_mark ball b)
  ball_over = rw (near_same, far_same) (told_code (told ball b))

pub ball_at_lem : (u : Universe) (ball : Ball) (v : List ℕ) → ball_code_at (place_axes u) ball v ≡ bits_of (decided (ball_colour u ball v))
unfolding ball_colour off_over
ball_at_lem u ball v = rw (distance_is u ball 2 (λ i. 2 * get_or v i 0 + 1)) (by (dec_le o (4 * radius_squared ball)))
  where
    o : ℕ
    o = off_sum u ball 2 (λ i. 2 * get_or v i 0 + 1)

    by : Dec (o ≤ 4 * radius_squared ball) →
        tested_code (leb o (4 * radius_squared ball)) true ≡ bits_of (decided (cond (le_z (pos o) (pos (4 * radius_squared ball))) Black White))
    by (yes h) = rw (le-leb o (4 * radius_squared ball) h)
    by (no n) = rw (lt-leb o (4 * radius_squared ball) (omega arith))

-- no code of a ball is more than the most
pub ball_most : {code : ℕ} (centre : Bool) (n : ℕ) (ball : Ball) (low side : List ℕ) → code ≡ ball_code centre n ball low side → code ≤ most_code
ball_most false n ball low side e =
    omega (arith, e, tested_most (leb (far_over n ball low side) (radius_squared ball)) (ltb (radius_squared ball) (near_over n ball low side)))
ball_most true n ball low side e = omega (
  arith,
  e,
  tested_most (leb (far_over n ball low side) (radius_squared ball)) (ltb (radius_squared ball) (near_over n ball low side)),
  tested_most (leb (off_over n ball low) (4 * radius_squared ball)) true,
)
