-- What the rows say of a point: over one denominator k of the point's numbers, each row's value and each side of the displaced Box or Cut is a whole
-- number, and the two comparisons have the same gap, times 16 or 256. No limit is needed: a Box's numbers are any sixteenths.
use Rattle.std.proofs.Common.{◌≡◌, ℕ, zero, suc, ◌*◌, ◌<◌, true, ◌↔◌, ℤ, pos, negsuc, ◌+ℤ◌, ◌*ℤ◌, neg_ℤ, ◌≤ℤ◌, refl, ◌∙◌, ap₂, mul-pos, arith, lit<}
use mathlib.Core.Logic.Iff
use Rattle.lemmas.proofs.Whole.{E, ι, ν, ◌⊕◌ as ◌+ᴱ◌, ◌⊗◌ as ◌*ᴱ◌, ⊝, val, eq_by}
use Rattle.csg.specs.Halfspace.{row_at}
use Rattle.standin.specs.declared.Triple.{Triple}
use Rattle.standin.specs.declared.Corners.{Corners}
use Rattle.standin.specs.declared.Plane.{Plane}
use Rattle.standin.specs.declared.Numbers.{Numbers}
use Rattle.standin.specs.Sixteenths.{sixteenths, corner_limit, normal_limit}
use Rattle.standin.specs.Rows.{takes_box, takes_cut, along, near_row, far_row, rows_between, rows_of_box, row_of_cut, dot}
use Rattle.standin.specs.Points.{Fraction, Fractions, ◌⊕◌, ◌⊖◌, ◌⊗◌, ◌≼◌, Point, HoldsAt, AllBetween, BoxHolds, SixteenthsHold, CutHolds, flat}
use Rattle.standin.proofs.Points.{Worth, worth_add, worth_mul, worth_times, worth_scale, worth_grow, worth_whole, worth_le, Worths, over16_worth}
use Rattle.standin.proofs.Points.{Common, common, same_gap, same_order, halfspace_at}
use Rattle.standin.proofs.Parts.{box_parts, cut_parts}
use Rattle.standin.proofs.Taken.{taken_worth, triple_worth}

-- one side of a Box by whole numbers: its corner is a / 16, its displacement w / 16, and x = X / k, t = T / k
module _ {f v x t : Fraction} {k : ℕ} {a w X T : ℤ} (p : 0 < k) (f-is : Worth f 16 a) (v_is : Worth v 16 w) (x_is : Worth x k X) (t_is : Worth t k T) where
  low_side : (f ⊕ t ⊗ v ≼ x) ↔ ((pos k *ℤ a +ℤ T *ℤ w) ≤ℤ (X *ℤ pos 16))
  low_side = worth_le (mul-pos p (lit< tt)) (worth_add (worth_scale k f-is) (worth_mul t_is v_is)) (worth_grow 16 x_is)

  high_side : (x ≼ f ⊕ t ⊗ v) ↔ ((X *ℤ pos 16) ≤ℤ (pos k *ℤ a +ℤ T *ℤ w))
  high_side = worth_le (mul-pos p (lit< tt)) (worth_grow 16 x_is) (worth_add (worth_scale k f-is) (worth_mul t_is v_is))

-- in a row for one axis the two others do not count
only_along : (axis : ℕ) (o n d x y z : ℤ)
    → o +ℤ along axis n (pos 0) (pos 0) *ℤ x +ℤ along axis (pos 0) n (pos 0) *ℤ y +ℤ along axis (pos 0) (pos 0) n *ℤ z +ℤ d
    ≡ o +ℤ n *ℤ along axis x y z +ℤ d
only_along zero o n d x y z =
    eq_by (ι o +ᴱ ι n *ᴱ ι x +ᴱ ν 0 *ᴱ ι y +ᴱ ν 0 *ᴱ ι z +ᴱ ι d) (ι o +ᴱ ι n *ᴱ ι x +ᴱ ι d) (omega arith)
only_along (suc zero) o n d x y z =
    eq_by (ι o +ᴱ ν 0 *ᴱ ι x +ᴱ ι n *ᴱ ι y +ᴱ ν 0 *ᴱ ι z +ᴱ ι d) (ι o +ᴱ ι n *ᴱ ι y +ᴱ ι d) (omega arith)
only_along (suc (suc axis)) o n d x y z =
    eq_by (ι o +ᴱ ν 0 *ᴱ ι x +ᴱ ν 0 *ᴱ ι y +ᴱ ι n *ᴱ ι z +ᴱ ι d) (ι o +ᴱ ι n *ᴱ ι z +ᴱ ι d) (omega arith)

-- the point's number along an axis
place_worth : (axis : ℕ) (q : Point) (o : Common q) → Worth (along axis q.x q.y q.z) o.k (along axis o.x o.y o.z)
place_worth zero q o = o.x_is
place_worth (suc zero) q o = o.y_is
place_worth (suc (suc axis)) q o = o.z_is

-- the near and the far row of an axis
module _ (axis : ℕ) (q : Point) {f v : Fraction} {a w : ℤ} (f-is : Worth f 16 a) (v_is : Worth v 16 w) where
  o : Common q
  o = common q

  abbrev X : ℤ
  X = along axis o.x o.y o.z

  -- what a side of the Box is, over 16·k
  abbrev moved : E
  moved = ν o.k *ᴱ ι a +ᴱ ι o.t *ᴱ ι w

  near_holds : HoldsAt (row_at (near_row axis a w) 0) q ↔ (f ⊕ q.t ⊗ v ≼ along axis q.x q.y q.z)
  near_holds =
      Iff.trans (halfspace_at (row_at (near_row axis a w) 0) q o)
      (Iff.trans (same_order refl (only_along axis (neg_ℤ a *ℤ pos o.k) (pos 16) (neg_ℤ w *ℤ o.t) o.x o.y o.z))
      (Iff.trans (same_gap (ν 0 *ᴱ ν o.k) (⊝ (ι a) *ᴱ ν o.k +ᴱ ν 16 *ᴱ ι X +ᴱ ⊝ (ι w) *ᴱ ι o.t) moved (ι X *ᴱ ν 16) (omega arith))
      (Iff.symm (low_side o.proper f-is v_is (place_worth axis q o) o.t_is))))

  far_holds : HoldsAt (row_at (far_row axis a w) 0) q ↔ (along axis q.x q.y q.z ≼ f ⊕ q.t ⊗ v)
  far_holds =
      Iff.trans (halfspace_at (row_at (far_row axis a w) 0) q o)
      (Iff.trans (same_order refl (only_along axis (a *ℤ pos o.k) (negsuc 15) (w *ℤ o.t) o.x o.y o.z))
      (Iff.trans (same_gap (ν 0 *ᴱ ν o.k) (ι a *ᴱ ν o.k +ᴱ ⊝ (ν 16) *ᴱ ι X +ᴱ ι w *ᴱ ι o.t) (ι X *ᴱ ν 16) moved (omega arith))
      (Iff.symm (high_side o.proper f-is v_is (place_worth axis q o) o.t_is))))

-- all six rows, of fractions that are worth these sixteenths
module _ (q : Point) {near far v : Fractions} {a b w : Numbers} (n : Worths near a) (f : Worths far b) (s : Worths v w) where
  abbrev Row : ℕ → Type 0
  Row i = HoldsAt (row_at (flat (rows_between a b w)) i) q

  six_rows : AllBetween near far v q → (i : ℕ) → i < 6 → Row i
  six_rows h zero l = (near_holds 0 q n.x s.x).1 h.x.low
  six_rows h (suc zero) l = (far_holds 0 q f.x s.x).1 h.x.high
  six_rows h (suc (suc zero)) l = (near_holds 1 q n.y s.y).1 h.y.low
  six_rows h (suc (suc (suc zero))) l = (far_holds 1 q f.y s.y).1 h.y.high
  six_rows h (suc (suc (suc (suc zero)))) l = (near_holds 2 q n.z s.z).1 h.z.low
  six_rows h (suc (suc (suc (suc (suc zero))))) l = (far_holds 2 q f.z s.z).1 h.z.high
  six_rows h (suc (suc (suc (suc (suc (suc i)))))) l = absurd (omega arith)

  rows_at : ((i : ℕ) → i < 6 → Row i) ↔ AllBetween near far v q
  rows_at = (
    λ r.
        record {
          x = record { low = (near_holds 0 q n.x s.x).0 (r 0 (lit< tt)); high = (far_holds 0 q f.x s.x).0 (r 1 (lit< tt)) };
          y = record { low = (near_holds 1 q n.y s.y).0 (r 2 (lit< tt)); high = (far_holds 1 q f.y s.y).0 (r 3 (lit< tt)) };
          z = record { low = (near_holds 2 q n.z s.z).0 (r 4 (lit< tt)); high = (far_holds 2 q f.z s.z).0 (r 5 (lit< tt)) };
        },
    six_rows,
  )

-- a Box in sixteenths, with no limit, and one in floats that are taken
pub box_at : (near far v : Numbers) (q : Point)
    → ((i : ℕ) → i < 6 → HoldsAt (row_at (flat (rows_between near far v)) i) q) ↔ SixteenthsHold near far v q
box_at near far v q = rows_at q (over16_worth near) (over16_worth far) (over16_worth v)

pub float_box_at : (c : Corners) (v : Triple) (q : Point) → takes_box c v ≡ true
    → ((i : ℕ) → i < 6 → HoldsAt (row_at (flat (rows_of_box c v)) i) q) ↔ BoxHolds c v q
unfolding rows_of_box
float_box_at c v q h =
    let b = box_parts c v h in
    rows_at q (triple_worth corner_limit c.near b.near) (triple_worth corner_limit c.far b.far) (triple_worth normal_limit v b.displacement)

-- a Cut: n·(x − t·v) on one axis, with n = a / 16, over 16·(k·16)
abbrev across : ℤ → ℤ → ℤ → ℤ → E
across a w x t = ι a *ᴱ (ι x *ᴱ ν 16 +ᴱ ⊝ (ν 1) *ᴱ (ι t *ᴱ ι w))

across_worth : {n v x t : Fraction} {k : ℕ} {a w X T : ℤ} → Worth n 16 a → Worth v 16 w → Worth x k X → Worth t k T
    → Worth (n ⊗ (x ⊖ t ⊗ v)) (16 * (k * 16)) (val (across a w X T))
across_worth n_is v_is x_is t_is = worth_mul n_is (worth_add (worth_grow 16 x_is) (worth_times (neg_ℤ (pos 1)) (worth_mul t_is v_is)))

-- 16·a·x less a·w·t
across_is : (a w x t : ℤ) → val (ι (pos 16 *ℤ a *ℤ x) +ᴱ ⊝ (ι (a *ℤ w)) *ᴱ ι t) ≡ val (across a w x t)
across_is a w x t = eq_by (ν 16 *ᴱ ι a *ᴱ ι x +ᴱ ⊝ (ι a *ᴱ ι w) *ᴱ ι t) (across a w x t) (omega arith)

-- and its sum over the axes, in the order of the row
sum_is : (o a b c p q r t : ℤ)
    → o +ℤ a +ℤ b +ℤ c +ℤ neg_ℤ (p +ℤ q +ℤ r) *ℤ t ≡ val (ι a +ᴱ ⊝ (ι p) *ᴱ ι t) +ℤ val (ι b +ᴱ ⊝ (ι q) *ᴱ ι t) +ℤ val (ι c +ᴱ ⊝ (ι r) *ᴱ ι t) +ℤ o
sum_is o a b c p q r t =
    eq_by (ι o +ᴱ ι a +ᴱ ι b +ᴱ ι c +ᴱ ⊝ (ι p +ᴱ ι q +ᴱ ι r) *ᴱ ι t)
    ((ι a +ᴱ ⊝ (ι p) *ᴱ ι t) +ᴱ (ι b +ᴱ ⊝ (ι q) *ᴱ ι t) +ᴱ (ι c +ᴱ ⊝ (ι r) *ᴱ ι t) +ᴱ ι o) (omega arith)

cut_value : (l m n f g w d : ℤ) (k : ℕ) (x y z t : ℤ)
    → pos 16 *ℤ d *ℤ pos k +ℤ pos 16 *ℤ l *ℤ x +ℤ pos 16 *ℤ m *ℤ y +ℤ pos 16 *ℤ n *ℤ z +ℤ neg_ℤ (l *ℤ f +ℤ m *ℤ g +ℤ n *ℤ w) *ℤ t
    ≡ val (across l f x t) +ℤ val (across m g y t) +ℤ val (across n w z t) +ℤ d *ℤ pos (k * 16)
cut_value l m n f g w d k x y z t =
    sum_is (pos 16 *ℤ d *ℤ pos k) (pos 16 *ℤ l *ℤ x) (pos 16 *ℤ m *ℤ y) (pos 16 *ℤ n *ℤ z) (l *ℤ f) (m *ℤ g) (n *ℤ w) t
    ∙ ap₂ ◌+ℤ◌ (ap₂ ◌+ℤ◌ (ap₂ ◌+ℤ◌ (across_is l f x t) (across_is m g y t)) (across_is n w z t)) (eq_by (ν 16 *ᴱ ι d *ᴱ ν k) (ι d *ᴱ ν (k * 16)) (omega arith))

pub cut_at : (a : Plane) (v : Triple) (q : Point) → takes_cut a v ≡ true → HoldsAt (row_at (row_of_cut a v) 0) q ↔ CutHolds a v q
unfolding row_of_cut dot
cut_at a v q h =
    let o = common q in
    let K = 16 * (o.k * 16) in
    let n = triple_worth normal_limit a.normal (cut_parts a v h).normal in
    let s = triple_worth normal_limit v (cut_parts a v h).displacement in
    Iff.trans (halfspace_at (row_at (row_of_cut a v) 0) q o)
    (Iff.trans
    (same_order (eq_by (ν 0 *ᴱ ν o.k) (ν 0 *ᴱ ν K) (omega arith))
    (cut_value
    (sixteenths a.normal.x) (sixteenths a.normal.y) (sixteenths a.normal.z)
    (sixteenths v.x) (sixteenths v.y) (sixteenths v.z)
    (sixteenths a.offset) o.k o.x o.y o.z o.t))
    (Iff.symm
    (worth_le (mul-pos (lit< tt) (mul-pos o.proper (lit< tt))) (worth_whole (pos 0) K)
    (worth_add
    (worth_add
    (worth_add (across_worth n.x s.x o.x_is o.t_is) (across_worth n.y s.y o.y_is o.t_is))
    (across_worth n.z s.z o.z_is o.t_is))
    (worth_grow (o.k * 16) (taken_worth corner_limit a.offset (cut_parts a v h).offset))))))
