-- WHAT IS PROMISED OF A MOVER that no check refuses: at each key's moment the near corner is the key's; at every time of a stretch the Box is where even motion
-- puts it, in fractions; and a mover of two keys is the same Box as a proxy with a displacement.
use Prim.Native.Nat.{ℕ, ◌+◌, ◌<◌}
use native.Mathlib.Omega.{arith}
use native.Mathlib.Nat.{eq_of_mul-eq-mul_right}
use mathlib.Core.Path.{◌≡◌, refl, sym, ap, ap₂, ◌∙◌}
use mathlib.Core.Logic.Iff
use mathlib.Core.Logic.{◌↔◌}
use mathlib.Core.Bool.{true, ◌&&◌}
use mathlib.Core.List.{List, ◌++◌}
use lib.Dec.{lit<}
use lib.IntN.{ℤ, pos, neg_ℤ, ◌+ℤ◌, ◌-ℤ◌, ◌*ℤ◌}
use lib.ListN.{length}
use Rattle.lemmas.proofs.Sums.{and_left, and_right}
use Rattle.lemmas.proofs.Whole.{up, dn, ι, ν, ⊝, ◌⊕◌ as ◌+ᴱ◌, ◌⊗◌ as ◌*ᴱ◌, eq_by, eq_of, le_of}
use Rattle.universe.specs.declared.Universe.{Universe}
use Rattle.csg.specs.Halfspace.{row_at}
use Rattle.csg.specs.Surfaces.{Surfaces, surfaces_of}
use Rattle.standin.specs.declared.Triple.{Triple}
use Rattle.standin.specs.declared.Corners.{Corners}
use Rattle.standin.specs.declared.Solid.{Solid}
use Rattle.standin.specs.declared.Solid.TheVariants.{Box, Cut}
use Rattle.standin.specs.declared.Numbers.{Numbers}
use Rattle.standin.specs.Sixteenths.{corner_limit, normal_limit}
use Rattle.standin.specs.Rows.{numbers_of, takes_box, rows_between, rows_of_box}
use Rattle.standin.specs.Points.{Fraction, Point, HoldsAt, SixteenthsHold, value, values_of, whole, flat, ◌⊕◌, ◌⊖◌, ◌⊗◌}
use Rattle.standin.proofs.Points.{Worth, Worths, worth_add, worth_times, worth_le}
use Rattle.standin.proofs.Parts.{BoxParts, box_parts}
use Rattle.standin.proofs.Taken.{triple_worth}
use Rattle.standin.proofs.Theorems.{rows_between_hold}
use Rattle.mover.specs.Keys.{Mover, moment_at, corner_at, key_corner, takes_still, size_of, less_numbers}
use Rattle.mover.specs.Stretches.{stretches, frames_of, change_of, is_step, step_along, near_at0, far_at0, stretch_rows, with_box}
use Rattle.mover.specs.Motion.{SameAs, SameThree, key_values, size_values, near_at, InBox, SameBox}
use Rattle.mover.specs.Frames.{joined, stretch_verdict, mover_verdict}
use Rattle.mover.specs.Ready.{Ready}
use Rattle.mover.proofs.Steps.{numbers_eq}
use Rattle.mover.proofs.Stretches.{still_box, is_taken_still}
use Rattle.mover.proofs.Accepted.{ready_keys, ready_box}
use Rattle.mover.proofs.Own.{up_to, up_start, up_next, up_end}
use Rattle.mover.proofs.Motion.{steps_add_up, box_moves, at_first, at_next}

-- ---- the size of a Box that stands still
less_worth : {f g : Fraction} {a b : ℤ} → Worth f 16 a → Worth g 16 b → Worth (f ⊖ g) 16 (a -ℤ b)
less_worth {f} {g} {a} {b} h k =
    let e : a +ℤ neg_ℤ (pos 1) *ℤ b ≡ a -ℤ b = eq_by (ι a +ᴱ ⊝ (ν 1) *ᴱ ι b) (ι a +ᴱ ⊝ (ι b)) (omega arith) in
    rw e at (worth_add {f = f} {g = whole (neg_ℤ (pos 1)) ⊗ g} h (worth_times (neg_ℤ (pos 1)) {f = g} k))

box_worth : {c : Corners} {v : Triple} → BoxParts c v → Worths (size_values (Box c)) (less_numbers (numbers_of c.far) (numbers_of c.near))
box_worth {c} p =
    let far = triple_worth corner_limit c.far p.far in
    let near = triple_worth corner_limit c.near p.near in
    record {
      x = less_worth {f = value c.far.x} {g = value c.near.x} far.x near.x;
      y = less_worth {f = value c.far.y} {g = value c.near.y} far.y near.y;
      z = less_worth {f = value c.far.z} {g = value c.near.z} far.z near.z;
    }

size_worth : (s : Solid) (v : Triple) → takes_still s v ≡ true → Worths (size_values s) (size_of s)
unfolding size_of
size_worth (Box c) v t = box_worth (still_box c v t)
size_worth (Cut a) v t = record { x = record { is = refl }; y = record { is = refl }; z = record { is = refl } }

-- ---- numbers by their fractions: fractions that are one number have the same sixteenths
worth_once : {f g : Fraction} {a b : ℤ} → Worth f 16 a → Worth g 16 b → SameAs f g → a ≡ b
worth_once {f} {g} {a} {b} h k s =
    eq_by (ι a) (ι b)
    (omega (
      arith,
      le_of (ι a) (ι b) ((worth_le {f = f} {g = g} (lit< tt) h k).0 s.least),
      le_of (ι b) (ι a) ((worth_le {f = g} {g = f} (lit< tt) k h).0 s.most),
    ))

-- so a displacement that leads from key to key is the step, and the corner at time 0 the one worked back
module _ (a b n : ℕ) (some : 0 < n) (later : a + n ≡ b) (near v from to step : ℤ) (e : step *ℤ pos n ≡ to -ℤ from) {f g p q : Fraction}
    (f-is : Worth f 16 near) (g-is : Worth g 16 v) (p-is : Worth p 16 from) (q-is : Worth q 16 to)
    (h : SameAs (f ⊕ whole (pos a) ⊗ g) p) (k : SameAs (f ⊕ whole (pos b) ⊗ g) q) where
  displaced_is : (c : ℕ) → Worth (f ⊕ whole (pos c) ⊗ g) 16 (near +ℤ pos c *ℤ v)
  displaced_is c = worth_add {f = f} {g = whole (pos c) ⊗ g} f-is (worth_times (pos c) {f = g} g-is)

  first : near +ℤ pos a *ℤ v ≡ from
  first = worth_once {f = f ⊕ whole (pos a) ⊗ g} {g = p} (displaced_is a) p-is h

  second : near +ℤ pos (a + n) *ℤ v ≡ to
  second = rw later (worth_once {f = f ⊕ whole (pos b) ⊗ g} {g = q} (displaced_is b) q-is k)

  same_step : v ≡ step
  same_step =
      eq_by (ι v) (ι step)
      (eq_of_mul-eq-mul_right n some (up v + dn step) (up step + dn v)
      (omega (
        arith,
        eq_of (ι step *ᴱ ν n) (ι to +ᴱ ⊝ (ι from)) e,
        eq_of (ι near +ᴱ ν a *ᴱ ι v) (ι from) first,
        eq_of (ι near +ᴱ ν (a + n) *ᴱ ι v) (ι to) second,
      )))

  same_near : near ≡ from -ℤ pos a *ℤ step
  same_near =
      eq_by (ι near) (ι near +ᴱ ν a *ᴱ ι v +ᴱ ⊝ (ν a *ᴱ ι v)) (omega arith)
      ∙ ap₂ (λ (x s : ℤ). x -ℤ pos a *ℤ s) first same_step

  same_motion : (near ≡ from -ℤ pos a *ℤ step) × (v ≡ step)
  same_motion = (same_near, same_step)

same_far : (far near size at0 : ℤ) → far -ℤ near ≡ size → near ≡ at0 → far ≡ at0 +ℤ size
same_far far near size at0 e f =
    eq_by (ι far) (ι near +ᴱ (ι far +ᴱ ⊝ (ι near))) (omega arith) ∙ ap₂ (λ (x y : ℤ). x +ℤ y) f e

module _ {u : Universe} {m : Mover} {surfaces : Surfaces} {words : List ℕ} (r : Ready u m surfaces words) (i : ℕ) (l : i + 1 < length m.moments) where
  abbrev a : ℕ
  a = moment_at m.moments i

  abbrev b : ℕ
  b = moment_at m.moments (i + 1)

  abbrev n : ℕ
  n = frames_of m.moments i

  abbrev from : Numbers
  from = key_corner m.corners i

  abbrev to : Numbers
  to = key_corner m.corners (i + 1)

  abbrev step : Numbers
  step = step_along m i

  -- a stretch has a frame
  pub some : 0 < n
  some = omega (arith, (ready_keys r).rising i l)

  next : a + n ≡ b
  next = omega (arith, (ready_keys r).rising i l)

  steps_x : is_step n (change_of m.corners i).x ≡ true
  steps_x =
      let x = is_step n (change_of m.corners i).x in let y = is_step n (change_of m.corners i).y in
      and_left x y (and_left (x && y) (is_step n (change_of m.corners i).z) (ready_box r i l).step)

  steps_y : is_step n (change_of m.corners i).y ≡ true
  steps_y =
      let x = is_step n (change_of m.corners i).x in let y = is_step n (change_of m.corners i).y in
      and_right x y (and_left (x && y) (is_step n (change_of m.corners i).z) (ready_box r i l).step)

  steps_z : is_step n (change_of m.corners i).z ≡ true
  steps_z =
      and_right (is_step n (change_of m.corners i).x && is_step n (change_of m.corners i).y) (is_step n (change_of m.corners i).z)
      (ready_box r i l).step

  exact_x : step.x *ℤ pos n ≡ to.x -ℤ from.x
  exact_x = steps_add_up n (change_of m.corners i).x steps_x

  exact_y : step.y *ℤ pos n ≡ to.y -ℤ from.y
  exact_y = steps_add_up n (change_of m.corners i).y steps_y

  exact_z : step.z *ℤ pos n ≡ to.z -ℤ from.z
  exact_z = steps_add_up n (change_of m.corners i).z steps_z

  from_worth : Worths (key_values m.corners i) from
  from_worth = triple_worth corner_limit (corner_at m.corners i) (ready_box r i l).stretch.from.taken

  to_worth : Worths (key_values m.corners (i + 1)) to
  to_worth = triple_worth corner_limit (corner_at m.corners (i + 1)) (ready_box r i l).stretch.to.taken

  own_size : Worths (size_values m.box.solid) (size_of m.box.solid)
  own_size = size_worth m.box.solid m.box.displacement (is_taken_still m.box r.accepted_box)

  -- THEOREM: at the moments of both its keys a stretch's near corner is the key's
  pub meets_first : SameThree (near_at m i some (whole (pos a))) (key_values m.corners i)
  meets_first =
      record {
        x = at_first a n some from.x to.x step.x exact_x from_worth.x to_worth.x;
        y = at_first a n some from.y to.y step.y exact_y from_worth.y to_worth.y;
        z = at_first a n some from.z to.z step.z exact_z from_worth.z to_worth.z;
      }

  pub meets_next : SameThree (near_at m i some (whole (pos b))) (key_values m.corners (i + 1))
  meets_next =
      let met : SameThree (near_at m i some (whole (pos (a + n)))) (key_values m.corners (i + 1)) =
      record {
        x = at_next a n some from.x to.x step.x exact_x from_worth.x to_worth.x;
        y = at_next a n some from.y to.y step.y exact_y from_worth.y to_worth.y;
        z = at_next a n some from.z to.z step.z exact_z from_worth.z to_worth.z;
      } in
      rw next at met

  -- THEOREM: a point lies in all six rows of the stretch exactly if it lies in the Box that moves evenly from the one key to the next
  moved : (q : Point) → SixteenthsHold (near_at0 m i) (far_at0 m i) step q ↔ InBox m i some q
  moved q =
      let size = size_of m.box.solid in
      let x = box_moves a n some from.x to.x step.x exact_x from_worth.x to_worth.x q.t size.x own_size.x q.x in
      let y = box_moves a n some from.y to.y step.y exact_y from_worth.y to_worth.y q.t size.y own_size.y q.y in
      let z = box_moves a n some from.z to.z step.z exact_z from_worth.z to_worth.z q.t size.z own_size.z q.z in (
        λ h. record { x = x.0 h.x; y = y.0 h.y; z = z.0 h.z },
        λ h. record { x = x.1 h.x; y = y.1 h.y; z = z.1 h.z },
      )

  pub rows_in_box : (q : Point) → ((j : ℕ) → j < 6 → HoldsAt (row_at (stretch_rows m i) j) q) ↔ InBox m i some q
  unfolding stretch_rows
  rows_in_box q = Iff.trans (rows_between_hold (near_at0 m i) (far_at0 m i) step q) (moved q)

  -- THEOREM: over a stretch the mover's rows are those of the same Box as a proxy
  module _ (c : Corners) (v : Triple) (t : takes_box c v ≡ true) (same : SameBox m i c v) where
    proxy : BoxParts c v
    proxy = box_parts c v t

    near_worth : Worths (values_of c.near) (numbers_of c.near)
    near_worth = triple_worth corner_limit c.near proxy.near

    step_worth : Worths (values_of v) (numbers_of v)
    step_worth = triple_worth normal_limit v proxy.displacement

    at_x : ((numbers_of c.near).x ≡ (near_at0 m i).x) × ((numbers_of v).x ≡ step.x)
    at_x =
        same_motion a b n some next (numbers_of c.near).x (numbers_of v).x from.x to.x step.x exact_x near_worth.x step_worth.x
        from_worth.x to_worth.x same.first.x same.next.x

    at_y : ((numbers_of c.near).y ≡ (near_at0 m i).y) × ((numbers_of v).y ≡ step.y)
    at_y =
        same_motion a b n some next (numbers_of c.near).y (numbers_of v).y from.y to.y step.y exact_y near_worth.y step_worth.y
        from_worth.y to_worth.y same.first.y same.next.y

    at_z : ((numbers_of c.near).z ≡ (near_at0 m i).z) × ((numbers_of v).z ≡ step.z)
    at_z =
        same_motion a b n some next (numbers_of c.near).z (numbers_of v).z from.z to.z step.z exact_z near_worth.z step_worth.z
        from_worth.z to_worth.z same.first.z same.next.z

    near_is : numbers_of c.near ≡ near_at0 m i
    near_is = numbers_eq at_x.0 at_y.0 at_z.0

    step_is : numbers_of v ≡ step
    step_is = numbers_eq at_x.1 at_y.1 at_z.1

    size_is : less_numbers (numbers_of c.far) (numbers_of c.near) ≡ size_of m.box.solid
    size_is =
        let w = box_worth proxy in
        numbers_eq
        (worth_once w.x own_size.x same.size.x)
        (worth_once w.y own_size.y same.size.y)
        (worth_once w.z own_size.z same.size.z)

    far_is : numbers_of c.far ≡ far_at0 m i
    far_is =
        let far = numbers_of c.far in let near = numbers_of c.near in
        let part : (f : Numbers → ℤ) → f (less_numbers far near) ≡ f (size_of m.box.solid) = λ f. ap f size_is in
        let at : (f : Numbers → ℤ) → f near ≡ f (near_at0 m i) = λ f. ap f near_is in
        numbers_eq
        (same_far far.x near.x (size_of m.box.solid).x (near_at0 m i).x (part (λ (w : Numbers). w.x)) (at (λ (w : Numbers). w.x)))
        (same_far far.y near.y (size_of m.box.solid).y (near_at0 m i).y (part (λ (w : Numbers). w.y)) (at (λ (w : Numbers). w.y)))
        (same_far far.z near.z (size_of m.box.solid).z (near_at0 m i).z (part (λ (w : Numbers). w.z)) (at (λ (w : Numbers). w.z)))

    pub same_rows : with_box surfaces m i ≡ surfaces_of (surfaces.rows ++ flat (rows_of_box c v)) surfaces.balls
    unfolding stretch_rows rows_of_box
    same_rows =
        ap (λ (six : List (List ℤ)). surfaces_of (surfaces.rows ++ flat six) surfaces.balls)
        (ap₂ (λ (near far : Numbers). rows_between near far step) (sym near_is) (sym far_is)
        ∙ ap (rows_between (numbers_of c.near) (numbers_of c.far)) (sym step_is))

-- THEOREM: and the verdict of a mover of two keys is that of its one stretch
pub one_stretch : {u : Universe} {m : Mover} {surfaces : Surfaces} {words : List ℕ} (r : Ready u m surfaces words) → length m.moments ≡ 2 →
    mover_verdict u m surfaces words ≡ stretch_verdict u m surfaces words 0
unfolding joined
one_stretch {u} {m} {surfaces} {words} r e =
    let all : stretches m.moments ≡ 0 + 1 = omega arith in
    sym (up_end r)
    ∙ ap (up_to r) all
    ∙ sym (up_next r 0 (omega arith))
    ∙ ap (λ v. joined v (stretch_verdict u m surfaces words 0)) (up_start r)
