-- A ball's code as the machine finds it. Its differences of a place and a centre's number are small, so are their squares, and so are the sums of these over
-- the place axes; what is added up is what the definitions add up.
use Prim.Native.Nat.{ℕ, suc, ◌+◌, ◌*◌, ◌-◌, ◌≤◌, ◌<◌}
use mathlib.Core.Path.{◌≡◌, refl, ap, ap₂, subst, ◌∙◌}
use mathlib.Core.Bool.{Bool, true, false, cond}
use mathlib.Core.List.{List}
use native.Mathlib.Omega.{arith}
use native.Mathlib.Nat.{mul-le-mul}
use borrow.Author.Rules.{rules}
use lib.Dec.{leb, ltb}
use lib.IntN.{ℤ, pos, nat_abs, ◌*ℤ◌}
use lib.ListN.{get_or}
use lib.Signed.{lt_z}
use mir.Syntax.{w64}
use mir.Val.{Fits, SFits, to_z, of_z}
use Rattle.lemmas.specs.Sums.{sum}
use Rattle.lemmas.proofs.Machine.{Near, near, near_back, near_lit, near_nat, near_sub, near_mul, near_fits}
use Rattle.universe.specs.Universe.{most_axes, longest_side, centre_limit, radius_limit}
use Rattle.csg.specs.Ball.{Ball, ball_at, square, radius_squared, gap, nearest, farthest, off}
use Rattle.convert.specs.Codes.{tested_code, near_over, far_over, off_over, ball_code_over, ball_code_at}
use Rattle.convert.specs.Small.{SmallPlaces, SmallBall, BallReady}
use Rattle.pruned.specs.Balls.{BallPlace, DoubledCentre, apart_limit}

-- what the machine reads of a number that it holds
abbrev held : ℤ → ℤ
held z = to_z w64 (of_z w64 z)

-- ---- how far a place and a centre's number are apart
module _ {x : ℕ} {c : ℤ} (p : BallPlace x) (s : DoubledCentre c) where
  centre_near : Near (held c) c (2 * centre_limit)
  centre_near = near (record { most = s.most }) tt

  pub held_asks : DoubledCentre (held c)
  held_asks = rw centre_near.same s

  pub gap_most : gap x c ≤ apart_limit
  gap_most = (near_sub {x = pos x} {y = c} (near_nat x (2 * longest_side + 1) p.most) (record { same = refl; size = s.most })).size

-- ---- the nearest point between two places, and the farther of them
module _ {l h : ℕ} {c : ℤ} (p : BallPlace l) (o : BallPlace h) (s : DoubledCentre c) where
  near_most : nearest l h c ≤ apart_limit
  unfolding nearest
  near_most = by (lt_z c (pos l)) (lt_z (pos h) c)
    where
      by : (s t : Bool) → cond s (gap l c) (cond t (gap h c) 0) ≤ apart_limit
      by true t = gap_most p s
      by false true = gap_most o s
      by false false = omega arith

  far_most : farthest l h c ≤ apart_limit
  unfolding farthest
  far_most = by (leb (gap l c) (gap h c))
    where
      by : (t : Bool) → cond t (gap h c) (gap l c) ≤ apart_limit
      by true = gap_most o s
      by false = gap_most p s

-- ---- the numbers of ball i
abbrev square_limit : ℕ
square_limit = apart_limit * apart_limit

square_few : {d : ℕ} → d ≤ apart_limit → d * d ≤ square_limit
square_few h = mul-le-mul h h

module _ {ball : Ball} (small : SmallBall ball) where
  radius_few : radius_squared ball ≤ radius_limit * radius_limit
  radius_few = mul-le-mul small.radius small.radius

  pub radius_four : {most : ℕ} → most ≡ radius_squared ball → Fits w64 (4 * most)
  radius_four e = record { fits = omega (arith, radius_few) }

-- ---- along one place axis
module _ {places i : ℕ} {balls : List ℤ} {low : List ℕ} (r : BallReady places balls i low) {axis : ℕ} (h : axis < places) where
  abbrev c : ℤ
  c = (ball_at balls i).centre axis

  abbrev begin : ℕ
  begin = get_or low axis 0

  pub axis_few : axis < most_axes
  axis_few = omega (arith, r.few)

  centre_few : nat_abs c ≤ centre_limit
  centre_few = r.small.centre axis (omega (arith, r.few))

  centre_small : DoubledCentre c
  centre_small = record { most = omega (arith, centre_few) }

  begin_small : BallPlace begin
  begin_small = record { most = omega (arith, (r.lows.place axis).most) }

  middle_small : BallPlace (2 * begin + 1)
  middle_small = record { most = omega (arith, (r.lows.place axis).most) }

  pub middle_fits : Fits w64 (2 * begin + 1)
  middle_fits = record { fits = omega (arith, middle_small.most) }

  pub twice_fits : Fits w64 (2 * begin)
  twice_fits = record { fits = omega (arith, middle_small.most) }

  -- what the calls of an axis ask
  pub begin_asks : BallPlace begin
  begin_asks = begin_small

  pub centre_asks : DoubledCentre (held c)
  centre_asks = held_asks begin_small centre_small

  held_same : held c ≡ c
  held_same = (centre_near begin_small centre_small).same

  -- at the centre of a voxel the centre's number is doubled
  doubled_near : Near (pos 2 *ℤ held c) (pos 2 *ℤ c) (2 * centre_limit)
  doubled_near = near_mul {x = pos 2} {y = c} (near_lit (pos 2)) (near (record { most = centre_few }) tt)

  doubled_small : DoubledCentre (pos 2 *ℤ c)
  doubled_small = record { most = doubled_near.size }

  pub doubled_fits : SFits w64 (pos 2 *ℤ held c)
  doubled_fits = near_fits {x = pos 2 *ℤ c} doubled_near tt

  doubled_same : held (pos 2 *ℤ held c) ≡ pos 2 *ℤ c
  doubled_same = (near_back {x = pos 2 *ℤ c} doubled_near tt).same

  pub middle_asks : BallPlace (2 * begin + 1)
  middle_asks = middle_small

  pub doubled_asks : DoubledCentre (held (pos 2 *ℤ held c))
  doubled_asks = rw doubled_same doubled_small

  off_is : {n : ℕ} → n ≡ gap (2 * begin + 1) (held (pos 2 *ℤ held c)) → n ≡ nat_abs (off 2 (2 * begin + 1) c)
  off_is e = e ∙ ap (gap (2 * begin + 1)) doubled_same

  off_few : {n : ℕ} → n ≡ gap (2 * begin + 1) (held (pos 2 *ℤ held c)) → n * n ≤ square_limit
  off_few e = let k = gap_most middle_small doubled_small in square_few (omega (arith, off_is e))

  pub off_squared : {n : ℕ} → n ≡ gap (2 * begin + 1) (held (pos 2 *ℤ held c)) → Fits w64 (n * n)
  off_squared e = record { fits = omega (arith, off_few e) }

  -- the end of a block with such a side, and the two distances over the block
  module _ {side : List ℕ} (q : SmallPlaces side) where
    abbrev end : ℕ
    end = get_or low axis 0 + get_or side axis 0

    end_small : BallPlace end
    end_small = record { most = omega (arith, (r.lows.place axis).most, (q.place axis).most) }

    pub end_fits : Fits w64 end
    end_fits = record { fits = omega (arith, end_small.most) }

    pub end_asks : BallPlace end
    end_asks = end_small

    near_is : {n : ℕ} → n ≡ nearest begin end (held c) → n ≡ nearest begin end c
    near_is e = e ∙ ap (nearest begin end) held_same

    far_is : {n : ℕ} → n ≡ farthest begin end (held c) → n ≡ farthest begin end c
    far_is e = e ∙ ap (farthest begin end) held_same

    near_few : {n : ℕ} → n ≡ nearest begin end (held c) → n * n ≤ square_limit
    near_few e = let k = near_most begin_small end_small centre_small in square_few (omega (arith, near_is e))

    far_few : {n : ℕ} → n ≡ farthest begin end (held c) → n * n ≤ square_limit
    far_few e = let k = far_most begin_small end_small centre_small in square_few (omega (arith, far_is e))

    pub near_squared : {n : ℕ} → n ≡ nearest begin end (held c) → Fits w64 (n * n)
    near_squared e = record { fits = omega (arith, near_few e) }

    pub far_squared : {n : ℕ} → n ≡ farthest begin end (held c) → Fits w64 (n * n)
    far_squared e = record { fits = omega (arith, far_few e) }

-- ---- over a block: what has been added up before an axis
pub record Walked (places i : ℕ) (balls : List ℤ) (low side : List ℕ) (near far axis : ℕ) : Type 0 where
  pub within : axis ≤ places
  pub nears : near ≡ near_over axis (ball_at balls i) low side
  pub fars : far ≡ far_over axis (ball_at balls i) low side
  pub near_most : near ≤ axis * square_limit
  pub far_most : far ≤ axis * square_limit

module _ {places i : ℕ} {balls : List ℤ} {low side : List ℕ} (r : BallReady places balls i low) (q : SmallPlaces side) where
  pub walk_starts : Walked places i balls low side 0 0 0
  unfolding near_over far_over sum
  walk_starts = record { within = omega arith; nears = refl; fars = refl; near_most = omega arith; far_most = omega arith }

  module _ {near far axis : ℕ} (w : Walked places i balls low side near far axis) where
    module _ (h : axis < places) {n : ℕ} (p : n ≡ nearest (begin r h) (end r h q) (held (c r h))) where
      pub near_sum_fits : Fits w64 (near + n * n)
      near_sum_fits = record { fits = omega (arith, w.near_most, near_few r h q p, r.few) }

      module _ {f : ℕ} (o : f ≡ farthest (begin r h) (end r h q) (held (c r h))) where
        pub far_sum_fits : Fits w64 (far + f * f)
        far_sum_fits = record { fits = omega (arith, w.far_most, far_few r h q o, r.few) }

        pub walk_steps : Walked places i balls low side (near + n * n) (far + f * f) (axis + 1)
        unfolding near_over far_over sum
        walk_steps =
            let next : suc axis ≡ axis + 1 = omega arith in
            subst (Walked places i balls low side (near + n * n) (far + f * f)) next (record {
              within = omega arith;
              nears = ap₂ ◌+◌ w.nears (ap square (near_is r h q p));
              fars = ap₂ ◌+◌ w.fars (ap square (far_is r h q o));
              near_most = omega (arith, w.near_most, near_few r h q p);
              far_most = omega (arith, w.far_most, far_few r h q o);
            })

    -- at the end the two tests are the code
    pub walk_ends : places ≤ axis → {most k : ℕ} → most ≡ radius_squared (ball_at balls i) → k ≡ tested_code (leb far most) (ltb most near) →
        k ≡ ball_code_over places (ball_at balls i) low side
    walk_ends e m k =
        let last : axis ≡ places = omega (arith, w.within) in
        k ∙ rw (m, w.nears, w.fars, last)

-- ---- at the centre of a voxel
pub record Summed (places i : ℕ) (balls : List ℤ) (low : List ℕ) (found axis : ℕ) : Type 0 where
  pub within : axis ≤ places
  pub offs : found ≡ off_over axis (ball_at balls i) low
  pub most : found ≤ axis * square_limit

module _ {places i : ℕ} {balls : List ℤ} {low : List ℕ} (r : BallReady places balls i low) where
  pub sum_starts : Summed places i balls low 0 0
  unfolding off_over sum
  sum_starts = record { within = omega arith; offs = refl; most = omega arith }

  module _ {found axis : ℕ} (w : Summed places i balls low found axis) where
    module _ (h : axis < places) {n : ℕ} (p : n ≡ gap (2 * begin r h + 1) (held (pos 2 *ℤ held (c r h)))) where
      pub sum_fits : Fits w64 (found + n * n)
      sum_fits = record { fits = omega (arith, w.most, off_few r h p, r.few) }

      pub sum_steps : Summed places i balls low (found + n * n) (axis + 1)
      unfolding off_over sum
      sum_steps =
          let next : suc axis ≡ axis + 1 = omega arith in
          subst (Summed places i balls low (found + n * n)) next (record {
            within = omega arith;
            offs = ap₂ ◌+◌ w.offs (ap square (off_is r h p));
            most = omega (arith, w.most, off_few r h p);
          })

    pub sum_ends : places ≤ axis → {most k : ℕ} → most ≡ radius_squared (ball_at balls i) → k ≡ tested_code (leb found (4 * most)) true →
        k ≡ ball_code_at places (ball_at balls i) low
    sum_ends e m k =
        let last : axis ≡ places = omega (arith, w.within) in
        k ∙ rw (m, w.offs, last)

pub axes_left_lem : {axis places : ℕ} → axis < places → places - (axis + 1) < places - axis
axes_left_lem h = omega arith

-- all that the two loops ask
pub ruleset ball_laws = (
  rules,
  axis_few,
  end_fits,
  middle_fits,
  twice_fits,
  begin_asks,
  end_asks,
  centre_asks,
  near_squared,
  far_squared,
  doubled_fits,
  middle_asks,
  doubled_asks,
  off_squared,
  radius_four,
  walk_starts,
  near_sum_fits,
  far_sum_fits,
  walk_steps,
  walk_ends,
  sum_starts,
  sum_fits,
  sum_steps,
  sum_ends,
  axes_left_lem,
)
