-- What the check of balls cites: a ball is within its limits where its radius is and then each number of its centre; so is the k-th of the balls where its
-- chunk is.
use Prim.Native.Nat.{ℕ, ◌+◌, ◌*◌, ◌%◌, ◌≤◌, ◌<◌}
use native.Mathlib.Omega.{arith}
use mathlib.Core.Path.{◌≡◌, refl, ap, ap₂, ◌∙◌}
use mathlib.Core.Bool.{Bool, true, false, ◌&&◌}
use mathlib.Core.List.{List}
use lib.ListN.{length, get_or}
use lib.Dec.{leb, ltb}
use lib.IntN.{ℤ, pos, nat_abs}
use borrow.Author.Tests.{lt-leb, le-ltb}
use Rattle.lemmas.specs.Sums.{every}
use Rattle.lemmas.proofs.Chains.{chunk, every_cong}
use Rattle.universe.specs.declared.Universe.{Universe}
use Rattle.universe.specs.Refusals.{bad_rows}
use Rattle.csg.specs.Ball.{place_axes, most_places, most_balls, ball_length, ball_count, ball_at, centre_limit_along, radius_within, ball_within, balls_refusal}
use Rattle.csg.proofs.Limits.{number_at}

-- the last axis is no place axis: a ball's centre has no number along it
pub no_place : (u : Universe) (axis : ℕ) → u.axes ≤ axis + 1 → ltb axis (place_axes u) ≡ false
no_place u axis h = le-ltb axis (place_axes u) (omega arith)

-- whether an axis's number of the centre is within its limit, of a ball that is there alone
abbrev pub centre_within : Universe → List ℤ → ℕ → Bool
centre_within u ball i = leb (nat_abs (get_or ball i (pos 0))) (centre_limit_along u i)

module _ (u : Universe) (ball : List ℤ) {first : Bool} (e : first ≡ radius_within (get_or ball most_places (pos 0))) where
  pub radius_off : first ≡ false → false ≡ ball_within u (ball_at ball 0)
  unfolding ball_within
  radius_off t = rw (← e, t)

  pub centre_told : first ≡ true → {others : Bool} → others ≡ every most_places (centre_within u ball) → others ≡ ball_within u (ball_at ball 0)
  unfolding ball_within
  centre_told t f =
      rw (← e, t)
      (f
      ∙ every_cong most_places _ _
      (λ i h. let at : i ≡ ball_length * 0 + i = omega arith in ap (λ (n : ℕ). leb (nat_abs (get_or ball n (pos 0))) (centre_limit_along u i)) at))

pub ball_chunk : (u : Universe) (balls : List ℤ) (k : ℕ) → ball_within u (ball_at (chunk ball_length balls k) 0) ≡ ball_within u (ball_at balls k)
unfolding ball_within
ball_chunk u balls k =
    ap₂ ◌&&◌ (ap radius_within (number_at ball_length balls k most_places (omega arith) refl refl))
    (every_cong most_places _ _
    (λ i h. ap (λ z. leb (nat_abs z) (centre_limit_along u i)) (number_at ball_length balls k i (omega arith) (omega arith) refl)))

-- too many balls
pub balls_too_many : (u : Universe) (balls : List ℤ) → length balls % ball_length ≡ 0 → most_balls < ball_count balls → balls_refusal u balls ≡ bad_rows
unfolding balls_refusal
balls_too_many u balls e h = rw (e, lt-leb (ball_count balls) most_balls h)
