-- What a float, a row, a Box and a Cut say of a point in space and time, in fractions of whole numbers, with no
-- rounding anywhere.
use Rattle.std.specs.Prelude.{◌≡◌, ℕ, ◌+◌, ◌*◌, ◌<◌, ◌≤◌, Bool, true, false, List, [], ◌∷◌, ◌++◌, ℤ, pos, ◌+ℤ◌, ◌*ℤ◌, neg_ℤ, ◌≤ℤ◌, unsigned_abs, Float}
use Rattle.std.proofs.Common.{mul-pos, lit<}
use Rattle.std.specs.Float.{nan, inf, fin}
use Rattle.std.specs.Float.Ieee.{up, down}
use Rattle.std.specs.Float.Ieee.Fits.{down_pos}
use Rattle.universe.specs.Voxel.{place_along}
use Rattle.csg.specs.Halfspace.{Halfspace}
use Rattle.standin.specs.declared.Triple.{Triple}
use Rattle.standin.specs.declared.Corners.{Corners}
use Rattle.standin.specs.declared.Plane.{Plane}
use Rattle.standin.specs.declared.Numbers.{Numbers}
use Rattle.standin.specs.Sixteenths.{with_sign, corner_limit, normal_limit}

-- numerator / denominator
pub record Fraction : Type 0 where
  pub numerator : ℤ
  pub denominator : ℕ
  pub proper : 0 < denominator

abbrev pub whole : ℤ → Fraction
whole n = record { numerator = n; denominator = 1; proper = lit< tt }

-- sum, product, difference and order
infixl 6 ◌⊕◌ ◌⊖◌
infixl 7 ◌⊗◌
infix 4 ◌≼◌
abbrev pub ◌⊕◌ : Fraction → Fraction → Fraction
a ⊕ b =
    record {
      numerator = a.numerator *ℤ pos b.denominator +ℤ b.numerator *ℤ pos a.denominator;
      denominator = a.denominator * b.denominator;
      proper = mul-pos a.proper b.proper;
    }

abbrev pub ◌⊗◌ : Fraction → Fraction → Fraction
a ⊗ b =
    record {
      numerator = a.numerator *ℤ b.numerator;
      denominator = a.denominator * b.denominator;
      proper = mul-pos a.proper b.proper;
    }

abbrev pub ◌⊖◌ : Fraction → Fraction → Fraction
a ⊖ b = a ⊕ whole (neg_ℤ (pos 1)) ⊗ b

pub record ◌≼◌ (a b : Fraction) : Type 0 where
  pub crosswise : (a.numerator *ℤ pos b.denominator) ≤ℤ (b.numerator *ℤ pos a.denominator)

-- whether a float is finite, and its value: m · 2^e with its sign. NaN and the infinities have no value: 0 stands there
abbrev pub is_finite : Float → Bool
is_finite nan = false
is_finite (inf s) = false
is_finite (fin s m e) = true

abbrev pub value : Float → Fraction
value nan = whole (pos 0)
value (inf s) = whole (pos 0)
value (fin s m e) = record { numerator = with_sign s (m * up e); denominator = down e; proper = down_pos e }

-- three fractions: the values of three floats, and three numbers of sixteenths
pub record Fractions : Type 0 where
  pub x : Fraction
  pub y : Fraction
  pub z : Fraction

abbrev pub values_of : Triple → Fractions
values_of p = record { x = value p.x; y = value p.y; z = value p.z }

abbrev pub sixteenth : ℤ → Fraction
sixteenth n = record { numerator = n; denominator = 16; proper = lit< tt }

abbrev pub over16 : Numbers → Fractions
over16 n = record { x = sixteenth n.x; y = sixteenth n.y; z = sixteenth n.z }

-- rule 6.2: x is finite, and there is a whole number n with 16·value = n, at most `limit` in size
pub record Multiple (limit : ℕ) (x : Float) : Type 0 where
  pub finite : is_finite x ≡ true
  pub count : ℤ
  pub exact : (value x).numerator *ℤ pos 16 ≡ count *ℤ pos (value x).denominator
  pub limited : unsigned_abs count ≤ limit

pub record Multiples (limit : ℕ) (p : Triple) : Type 0 where
  pub x : Multiple limit p.x
  pub y : Multiple limit p.y
  pub z : Multiple limit p.z

-- rule 6.2: near is at most far on each axis
pub record InOrder (c : Corners) : Type 0 where
  pub x : value c.near.x ≼ value c.far.x
  pub y : value c.near.y ≼ value c.far.y
  pub z : value c.near.z ≼ value c.far.z

-- rule 6.2: a Box and a Cut that are taken
pub record GoodBox (c : Corners) (v : Triple) : Type 0 where
  pub near : Multiples corner_limit c.near
  pub far : Multiples corner_limit c.far
  pub displacement : Multiples normal_limit v
  pub order : InOrder c

pub record GoodCut (a : Plane) (v : Triple) : Type 0 where
  pub normal : Multiples normal_limit a.normal
  pub offset : Multiple corner_limit a.offset
  pub displacement : Multiples normal_limit v

-- a point in space, and a time
pub record Point : Type 0 where
  pub x : Fraction
  pub y : Fraction
  pub z : Fraction
  pub t : Fraction

-- rule 1.5: the middle of a place, and the centre of a voxel, the last of whose places is time
abbrev pub middle : ℕ → Fraction
middle c = record { numerator = pos (2 * c + 1); denominator = 2; proper = lit< tt }

abbrev pub centre : List ℕ → Point
centre c =
    record {
      x = middle (place_along c 0);
      y = middle (place_along c 1);
      z = middle (place_along c 2);
      t = middle (place_along c 3);
    }

-- rule 2.2: a halfspace holds a point where its value is not negative
abbrev pub HoldsAt : Halfspace → Point → Type 0
HoldsAt h q =
    whole (pos 0)
    ≼ whole h.offset ⊕ whole (h.coefficient 0) ⊗ q.x ⊕ whole (h.coefficient 1) ⊗ q.y
    ⊕ whole (h.coefficient 2) ⊗ q.z ⊕ whole (h.coefficient 3) ⊗ q.t

-- rule 6.1: at time t a Box is from near + t·v to far + t·v
pub record Between (near far v x t : Fraction) : Type 0 where
  pub low : near ⊕ t ⊗ v ≼ x
  pub high : x ≼ far ⊕ t ⊗ v

-- on each axis of space
pub record AllBetween (near far v : Fractions) (q : Point) : Type 0 where
  pub x : Between near.x far.x v.x q.x q.t
  pub y : Between near.y far.y v.y q.y q.t
  pub z : Between near.z far.z v.z q.z q.t

-- the displaced Box holds the point: a Box in floats, and one in sixteenths
abbrev pub BoxHolds : Corners → Triple → Point → Type 0
BoxHolds c v q = AllBetween (values_of c.near) (values_of c.far) (values_of v) q

abbrev pub SixteenthsHold : Numbers → Numbers → Numbers → Point → Type 0
SixteenthsHold near far v q = AllBetween (over16 near) (over16 far) (over16 v) q

-- rule 6.1: at time t a Cut holds where n·(x − t·v) + c is not negative
abbrev pub CutHolds : Plane → Triple → Point → Type 0
CutHolds a v q =
    whole (pos 0)
    ≼ value a.normal.x ⊗ (q.x ⊖ q.t ⊗ value v.x)
    ⊕ value a.normal.y ⊗ (q.y ⊖ q.t ⊗ value v.y)
    ⊕ value a.normal.z ⊗ (q.z ⊖ q.t ⊗ value v.z)
    ⊕ value a.offset

-- rows one after the other, as the halfspaces of a tree are handed over
abbrev pub flat : List (List ℤ) → List ℤ
flat [] = []
flat (r ∷ rs) = r ++ flat rs
