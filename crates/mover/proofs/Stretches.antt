-- The Box of a stretch as the machine works it out: corners worked back to time 0 are small enough for the rows, so that `rows_between` gives them all.
use Prim.Native.Nat.{ℕ, ◌+◌, ◌*◌, ◌/◌, ◌%◌, ◌≤◌}
use native.Mathlib.Omega.{arith}
use mathlib.Core.Path.{◌≡◌, refl, ◌∙◌}
use mathlib.Core.Bool.{true, ◌&&◌}
use mathlib.Core.List.{List}
use borrow.Author.Tests.{leb-true}
use lib.Dec.{leb, eqb, lit≤}
use lib.IntN.{ℤ, pos, nat_abs, ◌+ℤ◌, ◌-ℤ◌, ◌*ℤ◌}
use mir.Syntax.{w64}
use mir.Val.{to_z}
use Rattle.lemmas.proofs.Sums.{and_left, and_right}
use Rattle.lemmas.proofs.Machine.{Near, near, near_cast, near_add, near_sub, near_mul, near_back, near_call}
use Rattle.universe.specs.Refusals.{bad_proxy}
use Rattle.universe.specs.Universe.{longest_side}
use Rattle.universe.proofs.Refusing.{unless_holds}
use Rattle.standin.specs.declared.Solid.{Solid}
use Rattle.standin.specs.declared.Corners.{Corners}
use Rattle.standin.specs.declared.Plane.{Plane}
use Rattle.standin.specs.declared.Triple.{Triple}
use Rattle.standin.specs.declared.Solid.TheVariants.{Box, Cut}
use Rattle.standin.specs.declared.Proxy.{Proxy}
use Rattle.standin.specs.declared.Numbers.{Numbers}
use Rattle.standin.specs.Sixteenths.{corner_limit, normal_limit}
use Rattle.standin.specs.Rows.{numbers_of, alike, takes_box, rows_between, rows_within}
use Rattle.standin.specs.Held.{Limited}
use Rattle.standin.proofs.Parts.{BoxParts, box_parts}
use Rattle.standin.proofs.Held.{back, wider, triple_small, zeros_limited}
use Rattle.standin.proofs.Theorems.{rows_given}
use Rattle.mover.specs.Keys.{Mover, moment_at, key_corner, is_still, takes_still, less_numbers, size_of, still_refusal}
use Rattle.mover.specs.Stretches.{frames_of, change_of, is_step, are_steps, step_of, steps_of, step_along, worked_back, more_numbers, near_at0, far_at0}
use Rattle.mover.specs.Ready.{change_limit, ChangingAll, Working, WorkingAll, back_limit, HasBox}
use Rattle.mover.proofs.Steps.{numbers_eq, less_small, corner_small, step_size, stretch_asks}

-- ---- `size_of`: the Box that stands still is taken
pub still_box : (c : Corners) (v : Triple) → takes_still (Box c) v ≡ true → BoxParts c v
unfolding takes_still
still_box c v t = box_parts c v (and_left (takes_box c v) (is_still v) t)

pub is_taken_still : (p : Proxy) → still_refusal p ≡ 0 → takes_still p.solid p.displacement ≡ true
unfolding still_refusal
is_taken_still p e = unless_holds (takes_still p.solid p.displacement) bad_proxy (omega arith) e

module _ (p : Proxy) (still : still_refusal p ≡ 0) where
  pub size_small : Limited change_limit (size_of p.solid)
  unfolding size_of
  size_small = go p.solid (is_taken_still p still)
    where
      go : (s : Solid) → takes_still s p.displacement ≡ true → Limited change_limit (size_of s)
      go (Box c) t =
          let b = still_box c p.displacement t in
          less_small (triple_small corner_limit c.far b.far) (triple_small corner_limit c.near b.near)
      go (Cut a) t = zeros_limited

  pub still_parts : {c : Corners} → p.solid ≡ Box c → BoxParts c p.displacement
  still_parts {c} e = still_box c p.displacement (rw e at (is_taken_still p still))

  pub size_told : {c : Corners} {near far r : Numbers} → p.solid ≡ Box c → far ≡ numbers_of c.far → near ≡ numbers_of c.near → r ≡ less_numbers far near →
      r ≡ size_of p.solid
  unfolding size_of
  size_told e f g h = rw (f, g) at h ∙ rw e

  pub size_none : {a : Plane} → p.solid ≡ Cut a → alike (pos 0) ≡ size_of p.solid
  unfolding size_of
  size_none e = rw e

-- ---- `worked_back`: what is worked back is small, and is what the machine works out
module _ {m : ℕ} {a s : ℤ} (w : Working m a s) where
  product : Near (to_z w64 m *ℤ back s) (pos m *ℤ s) (longest_side * normal_limit)
  product = near_mul {x = pos m} {y = s} (near_cast m longest_side w.early tt) (near (record { most = w.step_small }) tt)

  worked : Near (back a -ℤ back (to_z w64 m *ℤ back s)) (a -ℤ pos m *ℤ s) back_limit
  worked = near_sub {x = a} {y = pos m *ℤ s} (near (record { most = w.corner_small }) tt) (near_back {x = pos m *ℤ s} product tt)

module _ {m : ℕ} {a s : Numbers} (w : WorkingAll m a s) where
  module _ (p q : ℤ) (h : nat_abs p ≤ corner_limit) (k : nat_abs q ≤ normal_limit) where
    axis_small : nat_abs (p -ℤ pos m *ℤ q) ≤ back_limit
    axis_small = (worked {a = p} {s = q} (record { early = w.early; corner_small = h; step_small = k })).size

    axis_made : {r : ℤ} → r ≡ back p -ℤ pos m *ℤ back q → back r ≡ p -ℤ pos m *ℤ q
    axis_made x =
        let e : back p ≡ p = (near {b = corner_limit} (record { most = h }) tt).same in
        let f : back q ≡ q = (near {b = normal_limit} (record { most = k }) tt).same in
        (near_call (rw (e, f) at x) (record { same = refl; size = axis_small }) tt).same

  pub worked_all : {p q r : ℤ} → p ≡ back a.x -ℤ pos m *ℤ back s.x → q ≡ back a.y -ℤ pos m *ℤ back s.y →
      r ≡ back a.z -ℤ pos m *ℤ back s.z → ◌≡◌ {A = Numbers} (record { x = back p; y = back q; z = back r }) (worked_back m a s)
  worked_all e f g =
      numbers_eq
      (axis_made a.x s.x w.corner_small.x w.step_small.x e)
      (axis_made a.y s.y w.corner_small.y w.step_small.y f)
      (axis_made a.z s.z w.corner_small.z w.step_small.z g)

  pub worked_small : Limited back_limit (worked_back m a s)
  worked_small =
      record {
        x = axis_small a.x s.x w.corner_small.x w.step_small.x;
        y = axis_small a.y s.y w.corner_small.y w.step_small.y;
        z = axis_small a.z s.z w.corner_small.z w.step_small.z;
      }

-- ---- `more`
module _ {a b : Numbers} (h : Limited back_limit a) (k : Limited change_limit b) where
  more_near : (p q : ℤ) → nat_abs p ≤ back_limit → nat_abs q ≤ change_limit → Near (back p +ℤ back q) (p +ℤ q) (back_limit + change_limit)
  more_near p q m n = near_add {x = p} {y = q} (near (record { most = m }) tt) (near (record { most = n }) tt)

  pub more_is :
      ◌≡◌ {A = Numbers}
      (record { x = back (back a.x +ℤ back b.x); y = back (back a.y +ℤ back b.y); z = back (back a.z +ℤ back b.z) })
      (more_numbers a b)
  more_is =
      numbers_eq
      (near_back (more_near a.x b.x h.x k.x) tt).same
      (near_back (more_near a.y b.y h.y k.y) tt).same
      (near_back (more_near a.z b.z h.z k.z) tt).same

  pub more_small : Limited (back_limit + change_limit) (more_numbers a b)
  more_small =
      record {
        x = (more_near a.x b.x h.x k.x).size;
        y = (more_near a.y b.y h.y k.y).size;
        z = (more_near a.z b.z h.z k.z).size;
      }

-- ---- a step is small
step_small : (n : ℕ) (z : ℤ) → is_step n z ≡ true → nat_abs (step_of n z) ≤ normal_limit
unfolding is_step
step_small n z t = rw (step_size n z) (leb-true (nat_abs z / n) normal_limit (and_right (eqb (nat_abs z % n) 0) (leb (nat_abs z / n) normal_limit) t))

steps_small : (n : ℕ) (d : Numbers) → are_steps n d ≡ true → Limited normal_limit (steps_of n d)
steps_small n d t =
    let X = is_step n d.x in let Y = is_step n d.y in let Z = is_step n d.z in
    let both = and_left (X && Y) Z t in
    record {
      x = step_small n d.x (and_left X Y both);
      y = step_small n d.y (and_right X Y both);
      z = step_small n d.z (and_right (X && Y) Z t);
    }

-- ---- `rows_of`
module _ {m : Mover} {i : ℕ} (b : HasBox m i) where
  pub box_works : WorkingAll (moment_at m.moments i) (key_corner m.corners i) (step_along m i)
  box_works =
      record {
        early = omega (arith, b.stretch.rising, b.stretch.early);
        corner_small = corner_small b.stretch.from refl;
        step_small = steps_small (frames_of m.moments i) (change_of m.corners i) b.step;
      }

  pub near_small : Limited back_limit (near_at0 m i)
  near_small = worked_small box_works

  pub far_small : Limited (back_limit + change_limit) (far_at0 m i)
  far_small = more_small near_small (size_small m.box b.still)

  pub all_rows : rows_within (near_at0 m i) (far_at0 m i) (step_along m i) ≡ rows_between (near_at0 m i) (far_at0 m i) (step_along m i)
  all_rows =
      rows_given (near_at0 m i) (far_at0 m i) (step_along m i)
      (wider (lit≤ tt) near_small)
      (wider (lit≤ tt) far_small)
      (wider (lit≤ tt) box_works.step_small)

  module _ {n : ℕ} {d step corner : Numbers} (en : n ≡ frames_of m.moments i) (ed : d ≡ change_of m.corners i) (es : step ≡ steps_of n d)
      (ec : corner ≡ key_corner m.corners i) where
    step_is : step ≡ step_along m i
    step_is = rw (en, ed) at es

    pub rows_work : WorkingAll (moment_at m.moments i) corner step
    rows_work = rw (ec, step_is) box_works

    module _ {near : Numbers} (e : near ≡ worked_back (moment_at m.moments i) corner step) where
      near_is0 : near ≡ near_at0 m i
      near_is0 = rw (ec, step_is) at e

      module _ {extent : Numbers} (f : extent ≡ size_of m.box.solid) where
        pub rows_more : Limited back_limit near × Limited change_limit extent
        rows_more = (rw near_is0 near_small, rw f (size_small m.box b.still))

        pub rows_are : {far : Numbers} → far ≡ more_numbers near extent → {r : List (List ℤ)} → r ≡ rows_within near far step →
            r ≡ rows_between (near_at0 m i) (far_at0 m i) (step_along m i)
        rows_are {far} g h =
            let far-is0 : far ≡ far_at0 m i = rw (near_is0, f) at g in
            rw (near_is0, far-is0, step_is) at h ∙ all_rows

  pub rows_step : {n : ℕ} {d : Numbers} → n ≡ frames_of m.moments i → d ≡ change_of m.corners i → ChangingAll n d
  rows_step e f = stretch_asks b.stretch e f
