-- The numbers of sure and possible contact, as the machine computes them: sizes, a row's reach and its value moved by it, and for a ball twice the nearest or
-- the farthest distances along the axes, with their squares. None of them overflows.
use mathlib.Core.Path.{◌≡◌, refl, ap, ◌∙◌}
use mathlib.Core.Bool.{Bool, true, false}
use mathlib.Core.List.{List}
use Prim.Native.Nat.{ℕ, suc, ◌+◌, ◌-◌, ◌*◌, ◌^◌, ◌≤◌, ◌<◌}
use native.Mathlib.Omega.{arith}
use native.Mathlib.Nat.{mul-le-mul}
use native.Mathlib.Decide.{dec_lt}
use lib.Dec.{lit<}
use lib.ListN.{get_or}
use lib.IntN.{ℤ, pos, neg_ℤ, nat_abs, ◌-ℤ◌}
use borrow.Author.Tests.{lt-ltb, le-ltb}
use mir.Syntax.{w64}
use mir.Val.{to_z}
use Rattle.lemmas.specs.Sums.{sum}
use Rattle.lemmas.proofs.Machine.{Near, near, near_lit, near_cast, near_sub, near_back, near_size, size_neg}
use Rattle.lemmas.proofs.Whole.{ν, ◌⊖◌, ⊝, eq_by}
use Rattle.universe.specs.Universe.{most_axes, coefficient_limit}
use Rattle.csg.specs.Halfspace.{Halfspace, row_at}
use Rattle.csg.specs.Ball.{most_places}
use Rattle.pruned.proofs.Moving.{held}
use Rattle.masks.specs.Leaves.{off_limit}
use Rattle.masks.specs.Own.{reach, reached, spread}
use Rattle.at_once.specs.Words.{step_at, RowNamed, SmallOff}
use Rattle.at_once.specs.Own.{SmallReach, SpreadReady, SpreadsReady, spread_square, spread_squares}

-- ---- a row's reach
module _ {rows : List ℤ} {i : ℕ} (row : RowNamed rows i) where
  abbrev h : Halfspace
  h = row_at rows i

  read : (k at : ℕ) → at ≡ 5 * i + 1 + k → get_or rows at (pos 0) ≡ h.coefficient k
  read k at e = let q : at ≡ 5 * i + suc k = omega arith in ap (λ (n : ℕ). get_or rows n (pos 0)) q

  coefficient_near : (k at : ℕ) → k < most_axes → at ≡ 5 * i + 1 + k → Near (held (get_or rows at (pos 0))) (h.coefficient k) coefficient_limit
  coefficient_near k at l e = rw (read k at e) (near (record { most = (row.small.coefficient k l).most }) tt)

  coefficient_size : (k at : ℕ) → k < most_axes → at ≡ 5 * i + 1 + k → {a : ℕ} → a ≡ nat_abs (held (get_or rows at (pos 0))) →
      (a ≡ nat_abs (h.coefficient k)) × (a ≤ coefficient_limit)
  coefficient_size k at l e p =
      let q = p ∙ ap nat_abs (coefficient_near k at l e).same in
      (q, omega (arith, q, (coefficient_near k at l e).size))

  module _ {a b c d : ℕ} (p : a ≡ nat_abs (held (get_or rows (5 * i + 1) (pos 0)))) (q : b ≡ nat_abs (held (get_or rows (5 * i + 1 + 1) (pos 0))))
      (r : c ≡ nat_abs (held (get_or rows (5 * i + 1 + 2) (pos 0)))) (s : d ≡ nat_abs (held (get_or rows (5 * i + 1 + 3) (pos 0)))) where
    pub reach_is : a + b + c + d ≡ reach most_axes h
    unfolding reach sum
    reach_is =
        omega (
          arith,
          (coefficient_size 0 (5 * i + 1) (lit< tt) (omega arith) p).0,
          (coefficient_size 1 (5 * i + 1 + 1) (lit< tt) refl q).0,
          (coefficient_size 2 (5 * i + 1 + 2) (lit< tt) refl r).0,
          (coefficient_size 3 (5 * i + 1 + 3) (lit< tt) refl s).0,
        )

  pub reach_small : {n : ℕ} → n ≡ reach most_axes h → SmallReach n
  unfolding reach sum
  reach_small e = record {
    most = omega (
      arith,
      e,
      (row.small.coefficient 0 (lit< tt)).most,
      (row.small.coefficient 1 (lit< tt)).most,
      (row.small.coefficient 2 (lit< tt)).most,
      (row.small.coefficient 3 (lit< tt)).most,
    );
  }

-- what is added of it
module _ {n : ℕ} (s : SmallReach n) where
  abbrev reach_most : ℕ
  reach_most = most_axes * coefficient_limit

  pub above_reached : {possible : Bool} → possible ≡ true → held (pos (n - 1)) ≡ reached possible n
  above_reached e =
      let few : n - 1 ≤ reach_most = omega (arith, s.most) in
      rw e (near {x = pos (n - 1)} {b = reach_most} (record { most = few }) tt).same

  below_near : Near (pos 0 -ℤ to_z w64 n) (neg_ℤ (pos n)) reach_most
  below_near =
      let m = near_sub {x = pos 0} {y = pos n} (near_lit (pos 0)) (near_cast n reach_most s.most tt) in
      record { same = m.same ∙ eq_by (ν 0 ⊖ ν n) (⊝ (ν n)) (omega arith); size = omega (arith, size_neg (pos n), s.most) }

  pub below_reached : {possible : Bool} → possible ≡ false → held (pos 0 -ℤ to_z w64 n) ≡ reached possible n
  below_reached e = rw e (near_back {x = neg_ℤ (pos n)} below_near tt).same

-- ---- a ball's distances
abbrev off_most : ℕ
off_most = off_limit + 1

abbrev spread_most : ℕ
spread_most = off_most + 1

module _ {x : ℤ} (s : SmallOff x) where
  off_near : Near (held x) x off_most
  off_near = near (record { most = s.most }) tt

  pub off_again : SmallOff (held x)
  off_again = record { most = (near_size off_near).most }

  module _ {n : ℕ} (e : n ≡ nat_abs (held x)) where
    size_is : n ≡ nat_abs x
    size_is = e ∙ ap nat_abs off_near.same

    pub size_few : n + 1 < 2 ^ 64
    size_few = omega (arith, size_is, s.most)

    pub spread_near : {possible : Bool} → possible ≡ true → n - 1 ≡ spread possible x
    spread_near p = rw p (omega (arith, size_is))

    pub spread_far : {possible : Bool} → possible ≡ false → n + 1 ≡ spread possible x
    spread_far p = rw p (omega (arith, size_is))

  spread_few : (possible : Bool) → spread possible x ≤ spread_most
  spread_few true = omega (arith, s.most)
  spread_few false = omega (arith, s.most)

abbrev square_most : ℕ
square_most = spread_most * spread_most

pub square_none : (possible : Bool) {axis places : ℕ} (x : ℤ) → places ≤ axis → 0 ≡ spread_square possible axis places x
square_none possible {axis} {places} x l = rw (le-ltb axis places l)

module _ {axis places : ℕ} {x : ℤ} (s : SpreadReady axis places x) where
  module _ (l : axis < places) where
    pub ready_off : SmallOff (held x)
    ready_off = off_again (s.small l)

    module _ (possible : Bool) {n : ℕ} (e : n ≡ spread possible (held x)) where
      far_is : n ≡ spread possible x
      far_is = e ∙ ap (spread possible) (off_near (s.small l)).same

      pub square_fits : n * n < 2 ^ 64
      square_fits =
          let k : n ≤ spread_most = omega (arith, far_is, spread_few (s.small l) possible) in
          omega (arith, mul-le-mul k k)

      pub square_is : n * n ≡ spread_square possible axis places x
      square_is = rw (lt-ltb axis places l, far_is)

  pub square_few : (possible : Bool) → spread_square possible axis places x ≤ square_most
  square_few possible = go (dec_lt axis places)
    where
      go : Dec (axis < places) → spread_square possible axis places x ≤ square_most
      go (yes l) = rw (lt-ltb axis places l) (mul-le-mul (spread_few (s.small l) possible) (spread_few (s.small l) possible))
      go (no l) = rw (le-ltb axis places (omega arith)) (omega arith)

module _ {places : ℕ} {offs : List ℤ} (s : SpreadsReady places offs) where
  ready_at : (k : ℕ) → k < most_places → SpreadReady k places (step_at offs k)
  ready_at k m = record { small = λ l. s.along k l m }

  pub ready_asks : (k : ℕ) → k < most_places → SpreadReady k places (held (step_at offs k))
  ready_asks k m = record { small = λ l. off_again (s.along k l m) }

  square_same : (possible : Bool) (k : ℕ) → k < most_places → {a : ℕ} → a ≡ spread_square possible k places (held (step_at offs k)) →
      a ≡ spread_square possible k places (step_at offs k)
  square_same possible k m {a} e = e ∙ go (dec_lt k places)
    where
      go : Dec (k < places) → spread_square possible k places (held (step_at offs k)) ≡ spread_square possible k places (step_at offs k)
      go (yes l) = ap (spread_square possible k places) (off_near (s.along k l m)).same
      go (no l) = rw (le-ltb k places (omega arith))

  pub squares_few : (possible : Bool) → spread_squares possible places offs < 2 ^ 62
  squares_few possible =
      omega (
        arith,
        square_few (ready_at 0 (lit< tt)) possible,
        square_few (ready_at 1 (lit< tt)) possible,
        square_few (ready_at 2 (lit< tt)) possible,
      )

  module _ (possible : Bool) {a b c : ℕ} (p : a ≡ spread_square possible 0 places (held (step_at offs 0)))
      (q : b ≡ spread_square possible 1 places (held (step_at offs 1))) (r : c ≡ spread_square possible 2 places (held (step_at offs 2))) where
    pub squares_are : a + b + c ≡ spread_squares possible places offs
    squares_are =
        omega (arith, square_same possible 0 (lit< tt) p, square_same possible 1 (lit< tt) q, square_same possible 2 (lit< tt) r)
