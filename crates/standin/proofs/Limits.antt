-- Rows keep the limits of a halfspace where their numbers do, so number 3 never meets a row that is handed back: of a Box in floats a0 is at most
-- 65,536 in size and a4 at most 1,024; of a Cut a0 is at most 1,048,576, the normal 16,384, and a4 three products of at most 1,048,576.
use Rattle.std.proofs.Common.{◌≡◌, ℕ, zero, suc, ◌*◌, ◌≤◌, Bool, true, false, cond, ◌&&◌, leb, ℤ, pos, negsuc, ◌+ℤ◌, ◌*ℤ◌, neg_ℤ, nat_abs, refl, mul-le-mul, arith, lit≤, le→leb}
use lib.Ieee.Bits.{is_true}
use Rattle.lemmas.specs.Sums.{every}
use Rattle.lemmas.proofs.Machine.{size_neg, size_add, size_mul}
use Rattle.universe.specs.declared.Universe.{Universe}
use Rattle.universe.specs.Universe.{offset_limit, coefficient_limit}
use Rattle.csg.specs.Halfspace.{Halfspace, row_at, within_limits, rows_refusal}
use Rattle.standin.specs.declared.Triple.{Triple}
use Rattle.standin.specs.declared.Numbers.{Numbers}
use Rattle.standin.specs.declared.Solid.{Solid}
use Rattle.standin.specs.declared.Solid.TheVariants.{Box, Cut}
use Rattle.standin.specs.Sixteenths.{sixteenths, corner_limit, normal_limit}
use Rattle.standin.specs.Rows.{proxy_axes, takes_box, takes_cut, numbers_of, zero_row, zero_rows, along, rows_between, row_across, dot}
use Rattle.standin.specs.Rows.{rows_of_box, row_of_cut, is_limited, rows_within, solid_box_rows, solid_cut_row}
use Rattle.standin.specs.Held.{Limited}
use Rattle.standin.specs.Points.{flat}
use Rattle.standin.proofs.Held.{taken_small, triple_small, wider, limited_is, is_limited_lem}
use Rattle.standin.proofs.Parts.{both, box_parts, cut_parts}

-- a row by the sizes of its numbers
record Keeps (a0 a1 a2 a3 a4 : ℤ) : Type 0 where
  offset : nat_abs a0 ≤ offset_limit
  first : nat_abs a1 ≤ coefficient_limit
  second : nat_abs a2 ≤ coefficient_limit
  third : nat_abs a3 ≤ coefficient_limit
  fourth : nat_abs a4 ≤ coefficient_limit

passes : (n limit : ℕ) → n ≤ limit → leb n limit ≡ true
passes n limit h = is_true (leb n limit) (le→leb n limit h)

within : (u : Universe) (h : Halfspace) → u.axes ≡ proxy_axes
    → Keeps h.offset (h.coefficient 0) (h.coefficient 1) (h.coefficient 2) (h.coefficient 3) → within_limits u h ≡ true
unfolding within_limits every
within u h e k =
    rw (e, passes _ _ k.offset, passes _ _ k.first, passes _ _ k.second, passes _ _ k.third, passes _ _ k.fourth)

negated_small : (n : ℤ) (limit : ℕ) → nat_abs n ≤ limit → nat_abs (neg_ℤ n) ≤ limit
negated_small n limit h = omega (arith, size_neg n)

-- a row for one axis: its number on that axis, 0 on the others
along_small : (axis : ℕ) (x y z : ℤ) {limit : ℕ} → nat_abs x ≤ limit → nat_abs y ≤ limit → nat_abs z ≤ limit → nat_abs (along axis x y z) ≤ limit
along_small zero x y z h k l = h
along_small (suc zero) x y z h k l = k
along_small (suc (suc axis)) x y z h k l = l

along_keeps : (axis : ℕ) (a0 n a4 : ℤ) → nat_abs a0 ≤ offset_limit → nat_abs n ≤ coefficient_limit → nat_abs a4 ≤ coefficient_limit
    → Keeps a0 (along axis n (pos 0) (pos 0)) (along axis (pos 0) n (pos 0)) (along axis (pos 0) (pos 0) n) a4
along_keeps axis a0 n a4 h i k =
    record {
      offset = h;
      first = along_small axis n (pos 0) (pos 0) i (lit≤ tt) (lit≤ tt);
      second = along_small axis (pos 0) n (pos 0) (lit≤ tt) i (lit≤ tt);
      third = along_small axis (pos 0) (pos 0) n (lit≤ tt) (lit≤ tt) i;
      fourth = k;
    }

-- the rows of a Box in sixteenths
module _ {near far v : Numbers} (n : Limited offset_limit near) (f : Limited offset_limit far) (s : Limited coefficient_limit v)
    (u : Universe) (e : u.axes ≡ proxy_axes) where
  near_keeps : (axis : ℕ) (a w : ℤ) → nat_abs a ≤ offset_limit → nat_abs w ≤ coefficient_limit
      → Keeps (neg_ℤ a) (along axis (pos 16) (pos 0) (pos 0)) (along axis (pos 0) (pos 16) (pos 0)) (along axis (pos 0) (pos 0) (pos 16)) (neg_ℤ w)
  near_keeps axis a w h k =
      along_keeps axis (neg_ℤ a) (pos 16) (neg_ℤ w) (negated_small a offset_limit h) (lit≤ tt) (negated_small w coefficient_limit k)

  far_keeps : (axis : ℕ) (b w : ℤ) → nat_abs b ≤ offset_limit → nat_abs w ≤ coefficient_limit
      → Keeps b (along axis (negsuc 15) (pos 0) (pos 0)) (along axis (pos 0) (negsuc 15) (pos 0)) (along axis (pos 0) (pos 0) (negsuc 15)) w
  far_keeps axis b w h k = along_keeps axis b (negsuc 15) w h (lit≤ tt) k

  pub rows_keep : rows_refusal u (flat (rows_between near far v)) ≡ 0
  unfolding rows_refusal every
  rows_keep =
      let r = row_at (flat (rows_between near far v)) in
      rw (
        within u (r 0) e (near_keeps 0 near.x v.x n.x s.x),
        within u (r 1) e (far_keeps 0 far.x v.x f.x s.x),
        within u (r 2) e (near_keeps 1 near.y v.y n.y s.y),
        within u (r 3) e (far_keeps 1 far.y v.y f.y s.y),
        within u (r 4) e (near_keeps 2 near.z v.z n.z s.z),
        within u (r 5) e (far_keeps 2 far.z v.z f.z s.z),
      )

-- the row of a Cut in sixteenths
product_small : (a b : ℤ) → nat_abs a ≤ normal_limit → nat_abs b ≤ normal_limit → nat_abs (a *ℤ b) ≤ normal_limit * normal_limit
product_small a b h k = omega (arith, size_mul a b, mul-le-mul h k)

dot_small : (a b : Numbers) → Limited normal_limit a → Limited normal_limit b → nat_abs (neg_ℤ (dot a b)) ≤ coefficient_limit
unfolding dot
dot_small a b h k =
    omega (
      arith,
      size_neg (a.x *ℤ b.x +ℤ a.y *ℤ b.y +ℤ a.z *ℤ b.z),
      size_add (a.x *ℤ b.x +ℤ a.y *ℤ b.y) (a.z *ℤ b.z),
      size_add (a.x *ℤ b.x) (a.y *ℤ b.y),
      product_small a.x b.x h.x k.x,
      product_small a.y b.y h.y k.y,
      product_small a.z b.z h.z k.z,
    )

sixteen_small : (n : ℤ) {limit most : ℕ} → nat_abs n ≤ limit → 16 * limit ≤ most → nat_abs (pos 16 *ℤ n) ≤ most
sixteen_small n h k = omega (arith, size_mul (pos 16) n)

row_keeps : (n v : Numbers) (c : ℤ) → Limited normal_limit n → nat_abs c ≤ corner_limit → Limited normal_limit v
    → (u : Universe) → u.axes ≡ proxy_axes → rows_refusal u (row_across n c v) ≡ 0
unfolding rows_refusal every
row_keeps n v c h i k u e =
    rw (within u (row_at (row_across n c v) 0) e (record {
      offset = sixteen_small c i (lit≤ tt);
      first = sixteen_small n.x h.x (lit≤ tt);
      second = sixteen_small n.y h.y (lit≤ tt);
      third = sixteen_small n.z h.z (lit≤ tt);
      fourth = dot_small n v h k;
    }))

-- zeros
zeros_keep : (u : Universe) → u.axes ≡ proxy_axes → (rows_refusal u (flat zero_rows) ≡ 0) × (rows_refusal u zero_row ≡ 0)
unfolding rows_refusal every within_limits
zeros_keep u e = (rw e, rw e)

by_cases : {B : Type 0} (b : Bool) (A : B → Type 0) (r z : B) → (b ≡ true → A r) → A z → A (cond b r z)
by_cases true A r z f g = f refl
by_cases false A r z f g = g

-- `rows_between` gives the rows where the limits are kept
pub rows_within_are : (near far v : Numbers) → Limited offset_limit near → Limited offset_limit far → Limited coefficient_limit v
    → rows_within near far v ≡ rows_between near far v
unfolding rows_within
rows_within_are near far v n f s = rw (is_limited_lem offset_limit near n, is_limited_lem offset_limit far f, is_limited_lem coefficient_limit v s)

-- whatever is handed back
pub rows_within_keep : (near far v : Numbers) (u : Universe) → u.axes ≡ proxy_axes → rows_refusal u (flat (rows_within near far v)) ≡ 0
unfolding rows_within
rows_within_keep near far v u e =
    let N = is_limited offset_limit near in let F = is_limited offset_limit far in let S = is_limited coefficient_limit v in
    by_cases (N && F && S) (λ r. rows_refusal u (flat r) ≡ 0) (rows_between near far v) zero_rows
    (λ h. let a = both (N && F) S h in let b = both N F a.0 in
    rows_keep (limited_is offset_limit near b.0) (limited_is offset_limit far b.1) (limited_is coefficient_limit v a.1) u e)
    (zeros_keep u e).0

pub box_rows_keep : (s : Solid) (v : Triple) (u : Universe) → u.axes ≡ proxy_axes → rows_refusal u (flat (solid_box_rows s v)) ≡ 0
unfolding rows_of_box
box_rows_keep (Box c) v u e =
    by_cases (takes_box c v) (λ r. rows_refusal u (flat r) ≡ 0) (rows_of_box c v) zero_rows
    (λ h. let b = box_parts c v h in
    rows_keep
    (wider (lit≤ tt) (triple_small corner_limit c.near b.near))
    (wider (lit≤ tt) (triple_small corner_limit c.far b.far))
    (wider (lit≤ tt) (triple_small normal_limit v b.displacement))
    u e)
    (zeros_keep u e).0
box_rows_keep (Cut a) v u e = (zeros_keep u e).0

pub cut_row_keeps : (s : Solid) (v : Triple) (u : Universe) → u.axes ≡ proxy_axes → rows_refusal u (solid_cut_row s v) ≡ 0
unfolding row_of_cut
cut_row_keeps (Box c) v u e = (zeros_keep u e).1
cut_row_keeps (Cut a) v u e =
    by_cases (takes_cut a v) (λ r. rows_refusal u r ≡ 0) (row_of_cut a v) zero_row
    (λ h. let b = cut_parts a v h in
    row_keeps (numbers_of a.normal) (numbers_of v) (sixteenths a.offset)
    (triple_small normal_limit a.normal b.normal)
    (taken_small corner_limit a.offset b.offset)
    (triple_small normal_limit v b.displacement)
    u e)
    (zeros_keep u e).1
