-- What a call that no check before 6 refuses has: an accepted universe of four axes, keys that rise within it, a taken corner for each, a step for each
-- stretch, and static rows that leave room for six more.
use Prim.Native.Nat.{ℕ, ◌+◌, ◌-◌, ◌*◌, ◌≤◌, ◌<◌}
use native.Mathlib.Omega.{arith}
use mathlib.Core.Path.{◌≡◌, sym, ◌∙◌}
use mathlib.Core.Bool.{true, ◌&&◌}
use mathlib.Core.List.{List}
use borrow.Author.Tests.{leb-true, ltb-true, eqb-true, eq-eqb, ne_eqb}
use lib.Dec.{ltb, leb, eqb}
use lib.Ieee.{Float}
use lib.ListN.{length}
use Rattle.lemmas.specs.Sums.{every}
use Rattle.lemmas.proofs.Sums.{and_left, and_right, and_both, every_all}
use Rattle.universe.specs.declared.Universe.{Universe}
use Rattle.universe.specs.Refusals.{bad_universe, bad_proxy, bad_keys, bad_step, bad_rows}
use Rattle.universe.specs.Universe.{universe_refusal, longest_side, frame_axis, frame_count}
use Rattle.universe.proofs.Refusing.{unless_holds}
use Rattle.universe.specs.Accepting.{accepted_answer}
use Rattle.universe.proofs.Acceptance.{accepted_number}
use Rattle.universe.proofs.Universes.{accepted, side_few}
use Rattle.csg.specs.Halfspace.{row_count, rows_refusal}
use Rattle.csg.specs.Surfaces.{Surfaces}
use Rattle.standin.specs.Sixteenths.{is_taken, corner_limit}
use Rattle.standin.specs.Rows.{proxy_axes, takes_triple}
use Rattle.mover.specs.Keys.{Mover, least_keys, most_keys, corner_length, moment_at, number_at, corners_refusal, is_rising, are_within, keys_refusal}
use Rattle.mover.specs.Stretches.{stretches, has_step, steps_refusal}
use Rattle.mover.specs.Answers.{most_static, axes_refusal, static_refusal}
use Rattle.mover.specs.Ready.{HasCorner, HasStretches, HasBox, Ready}

-- ---- the universe
module _ (u : Universe) (e : axes_refusal u ≡ 0) where
  both_tests : eqb (universe_refusal u) 0 && eqb u.axes proxy_axes ≡ true
  unfolding axes_refusal
  both_tests = unless_holds (eqb (universe_refusal u) 0 && eqb u.axes proxy_axes) bad_universe (omega arith) e

  pub fine_universe : universe_refusal u ≡ 0
  fine_universe = eqb-true (universe_refusal u) 0 (and_left (eqb (universe_refusal u) 0) (eqb u.axes proxy_axes) both_tests)

  pub four_axes_lem : u.axes ≡ proxy_axes
  four_axes_lem = eqb-true u.axes proxy_axes (and_right (eqb (universe_refusal u) 0) (eqb u.axes proxy_axes) both_tests)

-- what the code gives, by what the universe told
module _ (u : Universe) {n : ℕ} {v : Universe} (e : record { refusal = n; universe = v } ≡ accepted_answer u) where
  pub axes_taken : n ≡ 0 → u.axes ≡ proxy_axes → 0 ≡ axes_refusal u
  unfolding axes_refusal
  axes_taken z four = rw (eq-eqb (universe_refusal u) 0 (sym (accepted_number u e) ∙ z), eq-eqb u.axes proxy_axes four)

  pub axes_not : (n ≡ 0 → ⊥) → bad_universe ≡ axes_refusal u
  unfolding axes_refusal
  axes_not h = rw (ne_eqb (universe_refusal u) 0 (λ z. h (accepted_number u e ∙ z)))

pub frames_most : (u : Universe) → universe_refusal u ≡ 0 → frame_count u ≤ longest_side
frames_most u ok = side_few u (accepted u ok) (frame_axis u)

-- ---- the keys
pub record GoodKeys (u : Universe) (moments : List ℕ) (corners : List Float) : Type 0 where
  pub some : least_keys ≤ length moments
  pub few : length moments ≤ most_keys
  pub whole : length corners ≡ corner_length * length moments
  pub rising : (i : ℕ) → i + 1 < length moments → moment_at moments i < moment_at moments (i + 1)
  pub within : (i : ℕ) → i < length moments → moment_at moments i ≤ frame_count u

pub good_keys : (u : Universe) (moments : List ℕ) (corners : List Float) → keys_refusal u moments corners ≡ 0 → GoodKeys u moments corners
unfolding keys_refusal is_rising are_within
good_keys u moments corners e =
    let A = leb least_keys (length moments) in let B = leb (length moments) most_keys in
    let C = eqb (length corners) (corner_length * length moments) in let R = is_rising moments in let W = are_within (frame_count u) moments in
    let t = unless_holds (A && B && C && R && W) bad_keys (omega arith) e in
    let r = and_left (A && B && C && R) W t in
    let c = and_left (A && B && C) R r in
    let b = and_left (A && B) C c in
    let up = every_all (length moments - 1) (λ i. ltb (moment_at moments i) (moment_at moments (i + 1))) (and_right (A && B && C) R r) in
    let in-time = every_all (length moments) (λ i. leb (moment_at moments i) (frame_count u)) (and_right (A && B && C && R) W t) in
    record {
      some = leb-true _ _ (and_left A B b);
      few = leb-true _ _ (and_right A B b);
      whole = eqb-true _ _ (and_right (A && B) C c);
      rising = λ i l. ltb-true _ _ (up i (omega arith));
      within = λ i l. leb-true _ _ (in-time i l);
    }

-- ---- the corners
pub all_taken : (corners : List Float) → corners_refusal corners ≡ 0 → (i : ℕ) → i < length corners → is_taken corner_limit (number_at corners i) ≡ true
unfolding corners_refusal
all_taken corners e =
    every_all (length corners) (λ i. is_taken corner_limit (number_at corners i))
    (unless_holds (every (length corners) (λ i. is_taken corner_limit (number_at corners i))) bad_proxy (omega arith) e)

module _ (u : Universe) (moments : List ℕ) (corners : List Float) (ok : universe_refusal u ≡ 0) (taken : corners_refusal corners ≡ 0)
    (keys : keys_refusal u moments corners ≡ 0) where
  has_corner : (i : ℕ) → i < length moments → HasCorner corners i
  unfolding takes_triple
  has_corner i l =
      let w = (good_keys u moments corners keys).whole in
      record {
        whole = omega (arith, w);
        taken =
            and_both
            (and_both
            (all_taken corners taken (corner_length * i) (omega (arith, w)))
            (all_taken corners taken (corner_length * i + 1) (omega (arith, w))))
            (all_taken corners taken (corner_length * i + 2) (omega (arith, w)));
      }

  pub has_stretches : HasStretches moments corners
  has_stretches =
      let g = good_keys u moments corners keys in
      record {
        each = λ i l. record {
          there = l;
          rising = g.rising i l;
          early = omega (arith, g.within (i + 1) l, frames_most u ok);
          from = has_corner i (omega arith);
          to = has_corner (i + 1) l;
        };
      }

-- ---- a stretch of the mover, with its step
module _ {u : Universe} {m : Mover} {surfaces : Surfaces} {words : List ℕ} (r : Ready u m surfaces words) where
  pub ready_universe : universe_refusal u ≡ 0
  ready_universe = fine_universe u r.accepted_axes

  pub ready_axes : u.axes ≡ proxy_axes
  ready_axes = four_axes_lem u r.accepted_axes

  pub ready_keys : GoodKeys u m.moments m.corners
  ready_keys = good_keys u m.moments m.corners r.accepted_keys

  pub ready_box : (i : ℕ) → i + 1 < length m.moments → HasBox m i
  unfolding steps_refusal
  ready_box i l =
      record {
        still = r.accepted_box;
        stretch = (has_stretches u m.moments m.corners ready_universe r.accepted_corners r.accepted_keys).each i l;
        step =
            every_all (stretches m.moments) (has_step m.moments m.corners)
            (unless_holds (every (stretches m.moments) (has_step m.moments m.corners)) bad_step (omega arith) r.accepted_steps) i (omega arith);
      }

  static_tests : eqb (rows_refusal u surfaces.rows) 0 && leb (row_count surfaces.rows) most_static ≡ true
  unfolding static_refusal
  static_tests =
      unless_holds (eqb (rows_refusal u surfaces.rows) 0 && leb (row_count surfaces.rows) most_static) bad_rows (omega arith) r.accepted_rows

  pub ready_rows : rows_refusal u surfaces.rows ≡ 0
  ready_rows =
      eqb-true (rows_refusal u surfaces.rows) 0
      (and_left (eqb (rows_refusal u surfaces.rows) 0) (leb (row_count surfaces.rows) most_static) static_tests)

  pub ready_few : row_count surfaces.rows ≤ most_static
  ready_few =
      leb-true (row_count surfaces.rows) most_static
      (and_right (eqb (rows_refusal u surfaces.rows) 0) (leb (row_count surfaces.rows) most_static) static_tests)
