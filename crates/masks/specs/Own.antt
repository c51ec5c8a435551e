-- Rules 14.1 and 14.2, of many voxels at once: the mark over each voxel's own block as a colouring, doubt settled one
-- way for sure contact and the other way for possible contact; and what that is by the voxel's centre.
use Rattle.std.specs.Prelude.{ℕ, ◌+◌, ◌-◌, ◌*◌, Bool, cond, List, ℤ, pos, neg_ℤ, nat_abs}
use Rattle.lemmas.specs.Sums.{sum}
use Rattle.universe.specs.declared.Universe.{Universe}
use Rattle.universe.specs.Voxel.{place_along}
use Rattle.bintree.specs.declared.Colour.{Colour}
use Rattle.bintree.specs.declared.Colour.TheVariants.{White, Black}
use Rattle.csg.specs.Halfspace.{Halfspace}
use Rattle.csg.specs.Ball.{Ball, place_axes, square, ball_mark, off}
use Rattle.csg.specs.Surfaces.{Surfaces, Surface}
use Rattle.csg.specs.Tree.{Plain}
use Rattle.csg.specs.Marks.{surface_mark, plain_mark}
use Rattle.demands.specs.Voxels.{Colouring}
use Rattle.contacts.specs.Contacts.{block_of, settled}

-- the colour for doubt: BLACK where all contact that is possible counts, WHITE where contact has to be sure
abbrev pub doubt_of : Bool → Colour
doubt_of possible = cond possible Black White

-- the mark of a surface, of a ball, and of a plain tree, over each voxel's own block, doubt settled
unfoldable pub own_surface : Bool → Surfaces → Universe → Surface → Colouring
own_surface possible surfaces u s v = settled (doubt_of possible) (surface_mark surfaces s (block_of u v))

unfoldable pub own_ball : Bool → Universe → Ball → Colouring
own_ball possible u ball v = settled (doubt_of possible) (ball_mark ball (block_of u v))

unfoldable pub own_colour : Bool → Surfaces → Universe → Plain → Colouring
own_colour possible surfaces u p v = settled (doubt_of possible) (plain_mark surfaces p (block_of u v))

-- how far a row's value lies, over a voxel, below and above that at its centre, doubled: the sizes of its coefficients
unfoldable pub reach : ℕ → Halfspace → ℕ
reach axes h = sum axes (λ i. nat_abs (h.coefficient i))

-- what twice the value at the centre lacks to twice the least; or to twice the greatest less 1, which is 0 or more where
-- the greatest is above 0. Where nothing is reached, least and greatest are one value, and 0 is BLACK
abbrev pub reached : Bool → ℕ → ℤ
reached possible n = cond possible (pos (n - 1)) (neg_ℤ (pos n))

-- twice how far the nearest or the farthest point of a voxel is from a ball's centre along an axis, by how far the
-- voxel's centre is, doubled; and the sum of the squares
abbrev pub spread : Bool → ℤ → ℕ
spread possible x = cond possible (nat_abs x - 1) (nat_abs x + 1)

unfoldable pub spread_sum : Bool → Universe → Ball → List ℕ → ℕ
spread_sum possible u ball v =
    sum (place_axes u) (λ i. square (spread possible (off 2 (2 * place_along v i + 1) (ball.centre i))))
