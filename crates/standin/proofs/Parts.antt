-- The tests of specs/Rows taken apart: what an accepted triple, Box and Cut tell of their numbers.
use Rattle.std.proofs.Common.{◌≡◌, ℕ, Bool, true, false, ◌&&◌, ◌≤ℤ◌, sym, refl, true≢false}
use lib.Signed.{le_z}
use Rattle.lemmas.proofs.Whole.{le_z_true}
use Rattle.standin.specs.declared.Triple.{Triple}
use Rattle.standin.specs.declared.Corners.{Corners}
use Rattle.standin.specs.declared.Plane.{Plane}
use Rattle.standin.specs.declared.Numbers.{Numbers}
use Rattle.standin.specs.Sixteenths.{is_taken, corner_limit, normal_limit}
use Rattle.standin.specs.Rows.{takes_triple, at_most, in_order, takes_box, takes_cut}

-- the parts of a test
pub both : (a b : Bool) → a && b ≡ true → (a ≡ true) × (b ≡ true)
both true b e = (refl, e)
both false b e = absurd (true≢false (sym e))

pub record Parts (limit : ℕ) (p : Triple) : Type 0 where
  pub x : is_taken limit p.x ≡ true
  pub y : is_taken limit p.y ≡ true
  pub z : is_taken limit p.z ≡ true

pub parts : (limit : ℕ) (p : Triple) → takes_triple limit p ≡ true → Parts limit p
unfolding takes_triple
parts limit p t =
    let a = both (is_taken limit p.x && is_taken limit p.y) (is_taken limit p.z) t in
    let b = both (is_taken limit p.x) (is_taken limit p.y) a.0 in
    record { x = b.0; y = b.1; z = a.1 }

-- the parts of an order
pub record Ordered (a b : Numbers) : Type 0 where
  pub x : a.x ≤ℤ b.x
  pub y : a.y ≤ℤ b.y
  pub z : a.z ≤ℤ b.z

pub order_parts : (a b : Numbers) → at_most a b ≡ true → Ordered a b
order_parts a b t =
    let o = both (le_z a.x b.x && le_z a.y b.y) (le_z a.z b.z) t in
    let p = both (le_z a.x b.x) (le_z a.y b.y) o.0 in
    record { x = le_z_true a.x b.x p.0; y = le_z_true a.y b.y p.1; z = le_z_true a.z b.z o.1 }

-- the parts of an accepted Box and Cut
pub record BoxParts (c : Corners) (v : Triple) : Type 0 where
  pub near : takes_triple corner_limit c.near ≡ true
  pub far : takes_triple corner_limit c.far ≡ true
  pub displacement : takes_triple normal_limit v ≡ true
  pub order : in_order c ≡ true

pub box_parts : (c : Corners) (v : Triple) → takes_box c v ≡ true → BoxParts c v
unfolding takes_box
box_parts c v t =
    let o = both (takes_triple corner_limit c.near && takes_triple corner_limit c.far && takes_triple normal_limit v) (in_order c) t in
    let w = both (takes_triple corner_limit c.near && takes_triple corner_limit c.far) (takes_triple normal_limit v) o.0 in
    let n = both (takes_triple corner_limit c.near) (takes_triple corner_limit c.far) w.0 in
    record { near = n.0; far = n.1; displacement = w.1; order = o.1 }

pub record CutParts (a : Plane) (v : Triple) : Type 0 where
  pub normal : takes_triple normal_limit a.normal ≡ true
  pub offset : is_taken corner_limit a.offset ≡ true
  pub displacement : takes_triple normal_limit v ≡ true

pub cut_parts : (a : Plane) (v : Triple) → takes_cut a v ≡ true → CutParts a v
unfolding takes_cut
cut_parts a v t =
    let w = both (takes_triple normal_limit a.normal && is_taken corner_limit a.offset) (takes_triple normal_limit v) t in
    let n = both (takes_triple normal_limit a.normal) (is_taken corner_limit a.offset) w.0 in
    record { normal = n.0; offset = n.1; displacement = w.1 }
