-- Rule 15.4: even motion from key to key, and where the Box then is, in fractions of the floats' values, with no
-- rounding anywhere.
use Rattle.std.specs.Prelude.{ℕ, ◌+◌, ◌<◌, List, pos, Float}
use Rattle.standin.specs.declared.Triple.{Triple}
use Rattle.standin.specs.declared.Corners.{Corners}
use Rattle.standin.specs.declared.Solid.{Solid}
use Rattle.standin.specs.declared.Solid.TheVariants.{Box, Cut}
use Rattle.standin.specs.Points.{Fraction, Fractions, Point, value, values_of, whole, ◌⊕◌, ◌⊖◌, ◌⊗◌, ◌≼◌}
use Rattle.mover.specs.Keys.{Mover, moment_at, corner_at}
use Rattle.mover.specs.Stretches.{frames_of}

-- a number that is `from` at time a and `to` n frames later, at time t: of the change it has the part (t − a) / n
abbrev pub evenly : (a n : ℕ) → 0 < n → Fraction → Fraction → Fraction → Fraction
evenly a n some from to t =
    from ⊕ (t ⊖ whole (pos a)) ⊗ record { numerator = pos 1; denominator = n; proper = some } ⊗ (to ⊖ from)

-- two fractions that are one number
pub record SameAs (a b : Fraction) : Type 0 where
  pub least : a ≼ b
  pub most : b ≼ a

-- so of three of them
pub record SameThree (a b : Fractions) : Type 0 where
  pub x : SameAs a.x b.x
  pub y : SameAs a.y b.y
  pub z : SameAs a.z b.z

-- the corner of key i, and the size of the Box
abbrev pub key_values : List Float → ℕ → Fractions
key_values corners i = values_of (corner_at corners i)

abbrev pub size_values : Solid → Fractions
size_values (Box c) =
    record {
      x = value c.far.x ⊖ value c.near.x;
      y = value c.far.y ⊖ value c.near.y;
      z = value c.far.z ⊖ value c.near.z;
    }
size_values (Cut p) = record { x = whole (pos 0); y = whole (pos 0); z = whole (pos 0) }

-- the near corner over stretch i at time t, moving evenly from the one key's corner to the next one's
abbrev pub near_at : (m : Mover) (i : ℕ) → 0 < frames_of m.moments i → Fraction → Fractions
near_at m i some t =
    let at = evenly (moment_at m.moments i) (frames_of m.moments i) some in
    let from = key_values m.corners i in
    let to = key_values m.corners (i + 1) in
    record { x = at from.x to.x t; y = at from.y to.y t; z = at from.z to.z t }

-- along an axis the Box reaches from its near side as far as its size
pub record Reaches (near size x : Fraction) : Type 0 where
  pub low : near ≼ x
  pub high : x ≼ near ⊕ size

-- at its time, a point lies in the Box that moves so
pub record InBox (m : Mover) (i : ℕ) (some : 0 < frames_of m.moments i) (q : Point) : Type 0 where
  pub x : Reaches (near_at m i some q.t).x (size_values m.box.solid).x q.x
  pub y : Reaches (near_at m i some q.t).y (size_values m.box.solid).y q.y
  pub z : Reaches (near_at m i some q.t).z (size_values m.box.solid).z q.z

-- a corner displaced for a number of frames
abbrev pub displaced : Fractions → ℕ → Fractions → Fractions
displaced near k v =
    record {
      x = near.x ⊕ whole (pos k) ⊗ v.x;
      y = near.y ⊕ whole (pos k) ⊗ v.y;
      z = near.z ⊕ whole (pos k) ⊗ v.z;
    }

-- rule 15.12: the same Box as a proxy with a displacement: of the mover's size, and at the moments of both keys of
-- stretch i its near corner is the key's
pub record SameBox (m : Mover) (i : ℕ) (c : Corners) (v : Triple) : Type 0 where
  pub size : SameThree (size_values (Box c)) (size_values m.box.solid)
  pub first :
      SameThree (displaced (values_of c.near) (moment_at m.moments i) (values_of v)) (key_values m.corners i)
  pub next :
      SameThree
      (displaced (values_of c.near) (moment_at m.moments (i + 1)) (values_of v))
      (key_values m.corners (i + 1))
