-- Rule 14.5: points of space and time whose places are fractions over one denominator, p / q, and what lies strictly
-- inside a tree: said by its leaves, just so far as WHITE over a block excludes it.
use Rattle.std.specs.Prelude.{ℕ, ◌+◌, ◌<◌, ◌≤◌, ◌≡◌, List, ℤ, pos, ◌+ℤ◌, ◌*ℤ◌, ◌≤ℤ◌, ◌<ℤ◌}
use Rattle.lemmas.specs.Sums.{total}
use Rattle.universe.specs.declared.Universe.{Universe}
use Rattle.universe.specs.Voxel.{voxel_refusal}
use Rattle.bintree.specs.declared.Colour.TheVariants.{Black}
use Rattle.csg.specs.Halfspace.{Halfspace, row_at}
use Rattle.csg.specs.Ball.{ball_at, ball_value, HasPoint}
use Rattle.csg.specs.Surfaces.{Surfaces, halfspace, ball}
use Rattle.csg.specs.Tree.{Tree, Plain, colour, side, union_of, intersection_of, as_it_is, reversed, plain}
use Rattle.demands.specs.Verdicts.{frame_of}
use Rattle.contacts.specs.Contacts.{block_of}

-- q times a halfspace's value at the point p / q
unfoldable pub plane_value : Universe → Halfspace → ℕ → (ℕ → ℕ) → ℤ
plane_value u h q p = pos q *ℤ h.offset +ℤ total u.axes (λ i. h.coefficient i *ℤ pos (p i))

-- strictly inside: off a halfspace's plane on its side of it; in a ball, its edge too, since the edge is the ball's own
-- and not its reversal's; in a UNION where in a son, in an INTERSECTION where in both
pub data StrictlyInside (surfaces : Surfaces) (u : Universe) (q : ℕ) (p : ℕ → ℕ) : Plain → Type 0 where
  in_black : StrictlyInside surfaces u q p (colour Black)
  above_plane : {i : ℕ} → pos 0 <ℤ plane_value u (row_at surfaces.rows i) q p →
      StrictlyInside surfaces u q p (side as_it_is (halfspace i))
  below_plane : {i : ℕ} → plane_value u (row_at surfaces.rows i) q p <ℤ pos 0 →
      StrictlyInside surfaces u q p (side reversed (halfspace i))
  in_ball : {i : ℕ} → pos 0 ≤ℤ ball_value u (ball_at surfaces.balls i) q p →
      StrictlyInside surfaces u q p (side as_it_is (ball i))
  out_of_ball : {i : ℕ} → ball_value u (ball_at surfaces.balls i) q p <ℤ pos 0 →
      StrictlyInside surfaces u q p (side reversed (ball i))
  in_first : {a b : Plain} → StrictlyInside surfaces u q p a → StrictlyInside surfaces u q p (union_of a b)
  in_second : {a b : Plain} → StrictlyInside surfaces u q p b → StrictlyInside surfaces u q p (union_of a b)
  in_both : {a b : Plain} → StrictlyInside surfaces u q p a → StrictlyInside surfaces u q p b →
      StrictlyInside surfaces u q p (intersection_of a b)

abbrev pub InsideTree : Surfaces → Universe → ℕ → (ℕ → ℕ) → Tree → Type 0
InsideTree surfaces u q p t = StrictlyInside surfaces u q p (plain t)

-- a point of a voxel of the frames first to last
pub record PointIn (u : Universe) (first last q : ℕ) (p : ℕ → ℕ) : Type 0 where
  pub some : 0 < q
  pub voxel : List ℕ
  pub held : voxel_refusal u voxel ≡ 0
  pub from : first ≤ frame_of u voxel
  pub to : frame_of u voxel ≤ last
  pub there : HasPoint (block_of u voxel) q p
