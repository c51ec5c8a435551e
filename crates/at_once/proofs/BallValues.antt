-- A ball's numbers at the centre of a block's first voxel, as the machine computes them: how far off it is along each axis, the sum of the squares, and four
-- times the radius squared. None of them overflows.
use mathlib.Core.Path.{◌≡◌, refl, sym, ap, ◌∙◌}
use mathlib.Core.Bool.{Bool, true, false, cond}
use mathlib.Core.List.{List, [], ◌∷◌}
use Prim.Native.Nat.{ℕ, zero, suc, ◌+◌, ◌*◌, ◌≤◌, ◌<◌}
use native.Mathlib.Omega.{arith}
use lib.Dec.{ltb, lit<}
use lib.ListN.{get_or}
use lib.IntN.{ℤ, pos, negsuc, nat_abs, ◌+ℤ◌, ◌-ℤ◌, ◌*ℤ◌}
use mir.Syntax.{w64}
use mir.Val.{SFits, to_z}
use Rattle.lemmas.proofs.Machine.{Near, near, near_lit, near_nat, near_cast, near_add, near_sub, near_mul, near_back, near_call, near_fits, near_size}
use Rattle.lemmas.proofs.Whole.{ν, ◌⊗◌, ⊝, eq_by}
use Rattle.universe.specs.Universe.{longest_side, centre_limit, radius_limit}
use Rattle.csg.specs.Ball.{Ball, most_places, ball_at, radius_squared, off}
use Rattle.convert.specs.Small.{SmallPlace, SmallPlaces, BallCentre}
use Rattle.pruned.proofs.Moving.{held}
use Rattle.masks.specs.Leaves.{off_limit}
use Rattle.at_once.specs.Words.{step_at, BallNamed, OffsOf, SmallOff, SmallOffs, square_along, squares_of}

abbrev off_most : ℕ
off_most = off_limit + 1

abbrev square_most : ℕ
square_most = off_most * off_most

-- ---- along one axis
module _ {place : ℕ} {centre : ℤ} (p : SmallPlace place) (q : BallCentre centre) where
  place_few : 2 * place + 1 ≤ 2 * longest_side + 1
  place_few = omega (arith, p.most)

  pub place_cast : SFits w64 (pos (2 * place + 1))
  place_cast = near_fits (near_nat (2 * place + 1) (2 * longest_side + 1) place_few) tt

  doubled_near : Near (pos 2 *ℤ held centre) (pos 2 *ℤ centre) (2 * centre_limit)
  doubled_near = near_mul {x = pos 2} {y = centre} (near_lit (pos 2)) (near (record { most = q.most }) tt)

  pub doubled_centre : SFits w64 (pos 2 *ℤ held centre)
  doubled_centre = near_fits {x = pos 2 *ℤ centre} doubled_near tt

  off_near : Near (to_z w64 (2 * place + 1) -ℤ held (pos 2 *ℤ held centre)) (off 2 (2 * place + 1) centre) off_most
  off_near =
      near_sub {x = pos (2 * place + 1)} {y = pos 2 *ℤ centre} (near_cast (2 * place + 1) (2 * longest_side + 1) place_few tt)
      (near_back {x = pos 2 *ℤ centre} doubled_near tt)

  pub off_fits : SFits w64 (to_z w64 (2 * place + 1) -ℤ held (pos 2 *ℤ held centre))
  off_fits = near_fits {x = off 2 (2 * place + 1) centre} off_near tt

  pub off_is : held (to_z w64 (2 * place + 1) -ℤ held (pos 2 *ℤ held centre)) ≡ off 2 (2 * place + 1) centre
  off_is = (near_back {x = off 2 (2 * place + 1) centre} off_near tt).same

  pub off_size : nat_abs (off 2 (2 * place + 1) centre) ≤ off_most
  off_size = off_near.size

-- ---- squares
module _ {x : ℤ} (s : SmallOff x) where
  square_near : Near (held x *ℤ held x) (x *ℤ x) square_most
  square_near = near_mul {x = x} {y = x} (near (record { most = s.most }) tt) (near (record { most = s.most }) tt)

  square_size : (axis places : ℕ) → nat_abs (square_along axis places x) ≤ square_most
  square_size axis places = go (ltb axis places)
    where
      go : (t : Bool) → nat_abs (cond t (x *ℤ x) (pos 0)) ≤ square_most
      go true = square_near.size
      go false = omega arith

-- ---- their sum
module _ {offs : List ℤ} (s : SmallOffs offs) where
  off_held : (k : ℕ) → k < most_places → Near (held (step_at offs k)) (step_at offs k) off_most
  off_held k l = near (record { most = (s.along k l).most }) tt

  pub off_asks : (k : ℕ) → k < most_places → SmallOff (held (step_at offs k))
  off_asks k l = record { most = (near_size (off_held k l)).most }

  square_held : (places k : ℕ) → k < most_places → {a : ℤ} → a ≡ square_along k places (held (step_at offs k)) →
      Near (held a) (square_along k places (step_at offs k)) square_most
  square_held places k l e =
      near_call {x = square_along k places (step_at offs k)} (e ∙ ap (square_along k places) (off_held k l).same)
      (record { same = refl; size = square_size (s.along k l) k places }) tt

  module _ (places : ℕ) {a b c : ℤ} (p : a ≡ square_along 0 places (held (step_at offs 0))) (q : b ≡ square_along 1 places (held (step_at offs 1)))
      (r : c ≡ square_along 2 places (held (step_at offs 2))) where
    abbrev first_two : ℤ
    first_two = square_along 0 places (step_at offs 0) +ℤ square_along 1 places (step_at offs 1)

    two_near : Near (held a +ℤ held b) first_two (2 * square_most)
    two_near =
        near_add {x = square_along 0 places (step_at offs 0)} {y = square_along 1 places (step_at offs 1)} (square_held places 0 (lit< tt) p)
        (square_held places 1 (lit< tt) q)

    three_near : Near (held (held a +ℤ held b) +ℤ held c) (squares_of places offs) (3 * square_most)
    three_near =
        near_add {x = first_two} {y = square_along 2 places (step_at offs 2)} (near_back {x = first_two} two_near tt) (square_held places 2 (lit< tt) r)

    pub two_fits : SFits w64 (held a +ℤ held b)
    two_fits = near_fits {x = first_two} two_near tt

    pub three_fits : SFits w64 (held (held a +ℤ held b) +ℤ held c)
    three_fits = near_fits {x = squares_of places offs} three_near tt

    pub squares_are : held (held (held a +ℤ held b) +ℤ held c) ≡ squares_of places offs
    squares_are = (near_back {x = squares_of places offs} three_near tt).same

-- ---- a ball's numbers
squared : (z : ℤ) → pos 4 *ℤ z *ℤ z ≡ pos (4 * (nat_abs z * nat_abs z))
squared (pos n) = eq_by (ν 4 ⊗ ν n ⊗ ν n) (ν (4 * (n * n))) (omega arith)
squared (negsuc n) = eq_by (ν 4 ⊗ ⊝ (ν (suc n)) ⊗ ⊝ (ν (suc n))) (ν (4 * (suc n * suc n))) (omega arith)

module _ {balls : List ℤ} {i : ℕ} (named : BallNamed balls i) where
  abbrev ball : Ball
  ball = ball_at balls i

  centre_near : (k : ℕ) → k < most_places → {at : ℕ} → at ≡ 4 * i + k → Near (held (get_or balls at (pos 0))) (ball.centre k) centre_limit
  centre_near k l e = rw e (near (record { most = named.small.centre k l }) tt)

  pub centre_asks : (k : ℕ) → k < most_places → {at : ℕ} → at ≡ 4 * i + k → BallCentre (held (get_or balls at (pos 0)))
  centre_asks k l e = record { most = (near_size (centre_near k l e)).most }

  module _ {low : List ℕ} (lows : SmallPlaces low) where
    off_back : (k : ℕ) (l : k < most_places) {at : ℕ} → at ≡ 4 * i + k → {a : ℤ} → a ≡ off 2 (2 * get_or low k 0 + 1) (held (get_or balls at (pos 0))) →
        held a ≡ off 2 (2 * get_or low k 0 + 1) (ball.centre k)
    off_back k l {at} e p =
        (near_call {x = off 2 (2 * get_or low k 0 + 1) (ball.centre k)} {b = off_most}
        (p ∙ ap (off 2 (2 * get_or low k 0 + 1)) (centre_near k l e).same)
        (record { same = refl; size = off_size {centre = ball.centre k} (lows.place k) (record { most = named.small.centre k l }) }) tt).same

    pub offs_are : {a b c : ℤ} → a ≡ off 2 (2 * get_or low 0 0 + 1) (held (get_or balls (4 * i) (pos 0))) →
        b ≡ off 2 (2 * get_or low 1 0 + 1) (held (get_or balls (4 * i + 1) (pos 0))) →
        c ≡ off 2 (2 * get_or low 2 0 + 1) (held (get_or balls (4 * i + 2) (pos 0))) → OffsOf ball low (held a ∷ held b ∷ held c ∷ [])
    offs_are {a} {b} {c} p q r = record { long = refl; off_at = each }
      where
        each : (k : ℕ) → k < most_places → step_at (held a ∷ held b ∷ held c ∷ []) k ≡ off 2 (2 * get_or low k 0 + 1) (ball.centre k)
        each zero l = off_back 0 l (omega arith) p
        each (suc zero) l = off_back 1 l refl q
        each (suc (suc zero)) l = off_back 2 l refl r
        each (suc (suc (suc k))) l = absurd (omega arith)

    pub offs_small : {offs : List ℤ} → OffsOf ball low offs → SmallOffs offs
    offs_small o = record {
      along = λ k l. record { most = rw (o.off_at k l) (off_size {centre = ball.centre k} (lows.place k) (record { most = named.small.centre k l })) };
    }

  abbrev radius : ℤ
  radius = ball.radius

  radius_near : Near (held radius) radius radius_limit
  radius_near = near (record { most = named.small.radius }) tt

  four_near : Near (pos 4 *ℤ held radius) (pos 4 *ℤ radius) (4 * radius_limit)
  four_near = near_mul {x = pos 4} {y = radius} (near_lit (pos 4)) radius_near

  most_near : Near (held (pos 4 *ℤ held radius) *ℤ held radius) (pos 4 *ℤ radius *ℤ radius) (4 * radius_limit * radius_limit)
  most_near = near_mul {x = pos 4 *ℤ radius} {y = radius} (near_back {x = pos 4 *ℤ radius} four_near tt) radius_near

  pub four_fits : SFits w64 (pos 4 *ℤ held radius)
  four_fits = near_fits {x = pos 4 *ℤ radius} four_near tt

  pub most_fits : SFits w64 (held (pos 4 *ℤ held radius) *ℤ held radius)
  most_fits = near_fits {x = pos 4 *ℤ radius *ℤ radius} most_near tt

  pub most_is : held (held (pos 4 *ℤ held radius) *ℤ held radius) ≡ pos (4 * radius_squared ball)
  most_is = (near_back {x = pos 4 *ℤ radius *ℤ radius} most_near tt).same ∙ squared radius

  -- a call's result
  pub most_held_lem : {m : ℤ} → m ≡ pos (4 * radius_squared ball) → held m ≡ pos (4 * radius_squared ball)
  most_held_lem e =
      (near_call {x = pos 4 *ℤ radius *ℤ radius} {b = 4 * radius_limit * radius_limit} (e ∙ sym (squared radius))
      (record { same = refl; size = most_near.size }) tt).same
      ∙ squared radius
