-- Stand-in proxies in the user's words: which numbers are taken, which proxies are refused, what the rows of an accepted one say of every point in
-- space and time, and that no row is ever outside the limits. Stated here; shown in Taken, Moved, Centres and Limits.
use Rattle.std.proofs.Common.{◌≡◌, ℕ, ◌<◌, true, ◌↔◌, List, Some, IsSome}
use mathlib.Core.Logic.Iff
use lib.Ieee.{Float}
use Rattle.universe.specs.declared.Universe.{Universe}
use Rattle.universe.specs.Refusals.{bad_proxy}
use Rattle.universe.specs.Universe.{offset_limit, coefficient_limit}
use Rattle.bintree.specs.declared.Colour.TheVariants.{Black}
use Rattle.csg.specs.Halfspace.{row_at, rows_refusal, colour_at_centre}
use Rattle.standin.specs.declared.Triple.{Triple}
use Rattle.standin.specs.declared.Corners.{Corners}
use Rattle.standin.specs.declared.Plane.{Plane}
use Rattle.standin.specs.declared.Solid.TheVariants.{Box, Cut}
use Rattle.standin.specs.declared.Proxy.{Proxy}
use Rattle.standin.specs.declared.Numbers.{Numbers}
use Rattle.standin.specs.Sixteenths.{is_taken, corner_limit}
use Rattle.standin.specs.Rows.{proxy_axes, takes_box, takes_cut, proxy_refusal, box_rows, cut_row, corner_sixteenths, rows_between, rows_within}
use Rattle.standin.specs.Held.{Limited}
use Rattle.standin.specs.Points.{Multiple, Multiples, GoodBox, GoodCut, Point, HoldsAt, values_of, BoxHolds, SixteenthsHold, CutHolds, centre, flat}
use Rattle.standin.proofs.Points.{Worths}
use Rattle.standin.proofs.Taken.{number_taken, corner_good, corner_worth, box_good, cut_good, accepts, refuses}
use Rattle.standin.proofs.Moved.{box_at, float_box_at, cut_at}
use Rattle.standin.proofs.Centres.{centre_holds}
use Rattle.standin.proofs.Limits.{rows_within_are, rows_within_keep, box_rows_keep, cut_row_keeps}

abbrev pub box_proxy : Corners → Triple → Proxy
box_proxy c v = record { solid = Box c; displacement = v }

abbrev pub cut_proxy : Plane → Triple → Proxy
cut_proxy a v = record { solid = Cut a; displacement = v }

-- a number is taken exactly if it is finite, a whole number of sixteenths, and within its limit
pub taken_exactly : (limit : ℕ) (x : Float) → (is_taken limit x ≡ true) ↔ Multiple limit x
taken_exactly = number_taken

-- a Box is accepted exactly if all its numbers are such and near ≤ far on each axis, and else refused with number 10
pub box_accepted_exactly : (c : Corners) (v : Triple) → (proxy_refusal (box_proxy c v) ≡ 0) ↔ GoodBox c v
box_accepted_exactly c v = Iff.trans (accepts (takes_box c v)) (box_good c v)

pub box_refused_exactly : (c : Corners) (v : Triple) → (proxy_refusal (box_proxy c v) ≡ bad_proxy) ↔ (GoodBox c v → ⊥)
box_refused_exactly c v = refuses (takes_box c v) (GoodBox c v) (box_good c v)

-- the same for a Cut
pub cut_accepted_exactly : (a : Plane) (v : Triple) → (proxy_refusal (cut_proxy a v) ≡ 0) ↔ GoodCut a v
cut_accepted_exactly a v = Iff.trans (accepts (takes_cut a v)) (cut_good a v)

pub cut_refused_exactly : (a : Plane) (v : Triple) → (proxy_refusal (cut_proxy a v) ≡ bad_proxy) ↔ (GoodCut a v → ⊥)
cut_refused_exactly a v = refuses (takes_cut a v) (GoodCut a v) (cut_good a v)

-- a point lies in all six rows of an accepted Box exactly if the Box, displaced by t·v, holds it
pub six_rows_hold : (c : Corners) (v : Triple) (q : Point) → proxy_refusal (box_proxy c v) ≡ 0
    → ((i : ℕ) → i < 6 → HoldsAt (row_at (flat (box_rows (box_proxy c v))) i) q) ↔ BoxHolds c v q
six_rows_hold c v q e = let h : takes_box c v ≡ true = (accepts (takes_box c v)).0 e in rw h (float_box_at c v q h)

-- a corner is taken exactly if its numbers are such, and 16 times its values are then the whole numbers that are given
pub corner_taken_exactly : (p : Triple) → IsSome (corner_sixteenths p) ↔ Multiples corner_limit p
corner_taken_exactly = corner_good

pub corner_is_exact : (p : Triple) (n : Numbers) → corner_sixteenths p ≡ Some n → Worths (values_of p) n
corner_is_exact = corner_worth

-- in sixteenths, of any size: a point lies in all six rows exactly if near/16 + t·v/16 ≤ x ≤ far/16 + t·v/16 on each axis
pub rows_between_hold : (near far v : Numbers) (q : Point)
    → ((i : ℕ) → i < 6 → HoldsAt (row_at (flat (rows_between near far v)) i) q) ↔ SixteenthsHold near far v q
rows_between_hold = box_at

-- a point lies in the row of an accepted Cut exactly if n·(x − t·v) + c ≥ 0
pub row_holds : (a : Plane) (v : Triple) (q : Point) → proxy_refusal (cut_proxy a v) ≡ 0
    → HoldsAt (row_at (cut_row (cut_proxy a v)) 0) q ↔ CutHolds a v q
row_holds a v q e = let h : takes_cut a v ≡ true = (accepts (takes_cut a v)).0 e in rw h (cut_at a v q h)

-- the same for voxels: all six rows are BLACK at the centre of voxel c exactly if the Box, displaced by the time of that centre, holds the centre
pub voxel_in_box : (c : Corners) (v : Triple) (u : Universe) → u.axes ≡ proxy_axes → (voxel : List ℕ) → proxy_refusal (box_proxy c v) ≡ 0
    → ((i : ℕ) → i < 6 → colour_at_centre u (row_at (flat (box_rows (box_proxy c v))) i) voxel ≡ Black) ↔ BoxHolds c v (centre voxel)
voxel_in_box c v u a voxel e =
    let rows = six_rows_hold c v (centre voxel) e in
    let row = row_at (flat (box_rows (box_proxy c v))) in
    let at : (i : ℕ) → (colour_at_centre u (row i) voxel ≡ Black) ↔ HoldsAt (row i) (centre voxel) = λ i. centre_holds u a (row i) voxel in
    (λ b. rows.0 (λ i l. (at i).0 (b i l)), λ h i l. (at i).1 (rows.1 h i l))

pub voxel_in_cut : (a : Plane) (v : Triple) (u : Universe) → u.axes ≡ proxy_axes → (voxel : List ℕ) → proxy_refusal (cut_proxy a v) ≡ 0
    → (colour_at_centre u (row_at (cut_row (cut_proxy a v)) 0) voxel ≡ Black) ↔ CutHolds a v (centre voxel)
voxel_in_cut a v u d voxel e = Iff.trans (centre_holds u d (row_at (cut_row (cut_proxy a v)) 0) voxel) (row_holds a v (centre voxel) e)

-- whatever is asked of whatever proxy, number 3 never meets the rows
pub box_rows_in_limits : (p : Proxy) (u : Universe) → u.axes ≡ proxy_axes → rows_refusal u (flat (box_rows p)) ≡ 0
box_rows_in_limits p u e = box_rows_keep p.solid p.displacement u e

pub cut_row_in_limits : (p : Proxy) (u : Universe) → u.axes ≡ proxy_axes → rows_refusal u (cut_row p) ≡ 0
cut_row_in_limits p u e = cut_row_keeps p.solid p.displacement u e

-- in sixteenths: the rows are given where their numbers keep a halfspace's limits, and number 3 never meets what is given
pub rows_given : (near far v : Numbers) → Limited offset_limit near → Limited offset_limit far → Limited coefficient_limit v
    → rows_within near far v ≡ rows_between near far v
rows_given = rows_within_are

pub rows_given_in_limits : (near far v : Numbers) (u : Universe) → u.axes ≡ proxy_axes → rows_refusal u (flat (rows_within near far v)) ≡ 0
rows_given_in_limits = rows_within_keep
