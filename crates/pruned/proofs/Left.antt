-- What is left of a tree over a block stands for the tree in every part of the block: it has the same mark over the part, the same colour at its centres, and
-- leaves the same. All from one law, that what is left of what is left, by finer marks, is what is left by those (`left_left`): one case analysis for each
-- operator, then an induction of three lines.
use Prim.Native.Nat.{ℕ, suc, ◌+◌, ◌≤◌, max}
use native.Mathlib.Omega.{arith}
use mathlib.Core.Path.{◌≡◌, refl, sym, ap, ap₂, ◌∙◌}
use mathlib.Core.Bool.{Bool}
use mathlib.Core.List.{List}
use Rattle.universe.specs.declared.Universe.{Universe}
use Rattle.universe.specs.declared.Block.{Block}
use Rattle.universe.specs.Voxel.{Within}
use Rattle.bintree.specs.declared.Colour.{Colour}
use Rattle.bintree.specs.declared.Colour.TheVariants.{White, Black}
use Rattle.csg.specs.Halfspace.{Mark, decided, undecided}
use Rattle.csg.specs.Surfaces.{Surfaces, Surface}
use Rattle.csg.specs.Tree.{Plain, colour, side, union_of, intersection_of}
use Rattle.csg.specs.Marks.{side_mark, union_mark, intersection_mark, union_colour, intersection_colour, plain_mark, plain_colour}
use Rattle.csg.proofs.Nested.{Nested}
use Rattle.csg.proofs.Marks.{tree_nested, tree_sound}
use Rattle.pruned.specs.Left.{Left, settled, still, as_mark, union_left, intersection_left, side_left, left_by, left, nodes, depth}

-- marks of the sides of surfaces, and finer ones: those over a part of the block
abbrev Marks : Type 0
Marks = Bool → Surface → Mark

abbrev Refined : Marks → Marks → Type 0
Refined marks finer = (turned : Bool) (s : Surface) (c : Colour) → marks turned s ≡ decided c → finer turned s ≡ decided c

-- the colour, the nodes and what is left of what is left
abbrev pub left_of : Marks → Left → Left
left_of marks (settled c) = settled c
left_of marks (still p) = left_by marks p

abbrev pub colour_of : Surfaces → Universe → List ℕ → Left → Colour
colour_of surfaces u v (settled c) = c
colour_of surfaces u v (still p) = plain_colour surfaces u p v

abbrev pub nodes_of : Left → ℕ
nodes_of (settled c) = 0
nodes_of (still p) = nodes p

abbrev pub depth_of : Left → ℕ
depth_of (settled c) = 0
depth_of (still p) = depth p

-- ---- a settled second son settles the parent, or hands it over
union_wins : (x : Left) → (union_left x (settled Black) ≡ settled Black) × (union_left x (settled White) ≡ x)
union_wins (settled White) = (refl, refl)
union_wins (settled Black) = (refl, refl)
union_wins (still p) = (refl, refl)

intersection_wins : (x : Left) → (intersection_left x (settled White) ≡ settled White) × (intersection_left x (settled Black) ≡ x)
intersection_wins (settled White) = (refl, refl)
intersection_wins (settled Black) = (refl, refl)
intersection_wins (still p) = (refl, refl)

-- ---- left of left, by finer marks, is left by the finer marks
union_left_of : (finer : Marks) (x y : Left) → left_of finer (union_left x y) ≡ union_left (left_of finer x) (left_of finer y)
unfolding left_by
union_left_of finer (settled White) y = refl
union_left_of finer (settled Black) y = refl
union_left_of finer (still p) (settled White) = sym (union_wins (left_by finer p)).1
union_left_of finer (still p) (settled Black) = sym (union_wins (left_by finer p)).0
union_left_of finer (still p) (still q) = refl

intersection_left_of : (finer : Marks) (x y : Left) → left_of finer (intersection_left x y) ≡ intersection_left (left_of finer x) (left_of finer y)
unfolding left_by
intersection_left_of finer (settled White) y = refl
intersection_left_of finer (settled Black) y = refl
intersection_left_of finer (still p) (settled White) = sym (intersection_wins (left_by finer p)).0
intersection_left_of finer (still p) (settled Black) = sym (intersection_wins (left_by finer p)).1
intersection_left_of finer (still p) (still q) = refl

pub left_left : (marks finer : Marks) → Refined marks finer → (p : Plain) → left_of finer (left_by marks p) ≡ left_by finer p
unfolding left_by
left_left marks finer r (colour c) = refl
left_left marks finer r (side turned s) = by (marks turned s) refl
  where
    by : (m : Mark) → marks turned s ≡ m → left_of finer (side_left turned s m) ≡ side_left turned s (finer turned s)
    by (decided c) e = rw (r turned s c e)
    by undecided e = refl
left_left marks finer r (union_of p q) =
    union_left_of finer (left_by marks p) (left_by marks q) ∙ ap₂ union_left (left_left marks finer r p) (left_left marks finer r q)
left_left marks finer r (intersection_of p q) =
    intersection_left_of finer (left_by marks p) (left_by marks q) ∙ ap₂ intersection_left (left_left marks finer r p) (left_left marks finer r q)

-- ---- a tree is decided exactly where nothing is left of it
union_as_mark : (x y : Left) → as_mark (union_left x y) ≡ union_mark (as_mark x) (as_mark y)
unfolding union_mark
union_as_mark (settled White) y = refl
union_as_mark (settled Black) y = refl
union_as_mark (still p) (settled White) = refl
union_as_mark (still p) (settled Black) = refl
union_as_mark (still p) (still q) = refl

intersection_as_mark : (x y : Left) → as_mark (intersection_left x y) ≡ intersection_mark (as_mark x) (as_mark y)
unfolding intersection_mark
intersection_as_mark (settled White) y = refl
intersection_as_mark (settled Black) y = refl
intersection_as_mark (still p) (settled White) = refl
intersection_as_mark (still p) (settled Black) = refl
intersection_as_mark (still p) (still q) = refl

side_as_mark : (turned : Bool) (s : Surface) (m : Mark) → as_mark (side_left turned s m) ≡ m
side_as_mark turned s (decided c) = refl
side_as_mark turned s undecided = refl

pub mark_is : (surfaces : Surfaces) (b : Block) (p : Plain) → plain_mark surfaces p b ≡ as_mark (left surfaces p b)
unfolding left_by plain_mark
mark_is surfaces b (colour c) = refl
mark_is surfaces b (side turned s) = sym (side_as_mark turned s (side_mark surfaces turned s b))
mark_is surfaces b (union_of p q) = ap₂ union_mark (mark_is surfaces b p) (mark_is surfaces b q) ∙ sym (union_as_mark (left surfaces p b) (left surfaces q b))
mark_is surfaces b (intersection_of p q) =
    ap₂ intersection_mark (mark_is surfaces b p) (mark_is surfaces b q) ∙ sym (intersection_as_mark (left surfaces p b) (left surfaces q b))

-- ---- in a part of the block
module _ (surfaces : Surfaces) (b part : Block) (nested : Nested part b) where
  finer : Refined (λ turned s. side_mark surfaces turned s b) (λ turned s. side_mark surfaces turned s part)
  unfolding plain_mark
  finer turned s c e = (tree_nested surfaces (side turned s) b part nested).same c e

  pub part_left : (p : Plain) → left_of (λ turned s. side_mark surfaces turned s part) (left surfaces p b) ≡ left surfaces p part
  part_left p = left_left _ _ finer p

  pub part_mark : (p q : Plain) → left surfaces p b ≡ still q → plain_mark surfaces q part ≡ plain_mark surfaces p part
  part_mark p q e =
      mark_is surfaces part q ∙ ap (λ (x : Left). as_mark (left_of (λ turned s. side_mark surfaces turned s part) x)) (sym e) ∙ ap as_mark (part_left p)
      ∙ sym (mark_is surfaces part p)

  pub part_still : (p q : Plain) → left surfaces p b ≡ still q → left surfaces q part ≡ left surfaces p part
  part_still p q e = ap (left_of (λ turned s. side_mark surfaces turned s part)) (sym e) ∙ part_left p

-- ---- at a centre
colours_right : (c : Colour) →
    (union_colour c Black ≡ Black) × (union_colour c White ≡ c) × (intersection_colour c White ≡ White) × (intersection_colour c Black ≡ c)
unfolding union_colour intersection_colour
colours_right White = (refl, refl, refl, refl)
colours_right Black = (refl, refl, refl, refl)

module _ (surfaces : Surfaces) (u : Universe) (v : List ℕ) where
  union_colour_of : (x y : Left) → colour_of surfaces u v (union_left x y) ≡ union_colour (colour_of surfaces u v x) (colour_of surfaces u v y)
  unfolding plain_colour union_colour
  union_colour_of (settled White) y = refl
  union_colour_of (settled Black) y = refl
  union_colour_of (still p) (settled White) = sym (colours_right (plain_colour surfaces u p v)).1
  union_colour_of (still p) (settled Black) = sym (colours_right (plain_colour surfaces u p v)).0
  union_colour_of (still p) (still q) = refl

  intersection_colour_of : (x y : Left) →
      colour_of surfaces u v (intersection_left x y) ≡ intersection_colour (colour_of surfaces u v x) (colour_of surfaces u v y)
  unfolding plain_colour intersection_colour
  intersection_colour_of (settled White) y = refl
  intersection_colour_of (settled Black) y = refl
  intersection_colour_of (still p) (settled White) = sym (colours_right (plain_colour surfaces u p v)).2
  intersection_colour_of (still p) (settled Black) = sym (colours_right (plain_colour surfaces u p v)).3
  intersection_colour_of (still p) (still q) = refl

module _ (surfaces : Surfaces) (b : Block) (v : List ℕ) (w : Within b v) where
  abbrev u : Universe
  u = b.universe

  pub centre_left : (p : Plain) → colour_of surfaces u v (left surfaces p b) ≡ plain_colour surfaces u p v
  unfolding left_by plain_colour plain_mark
  centre_left (colour c) = refl
  centre_left (side turned s) = by (side_mark surfaces turned s b) refl
    where
      by : (m : Mark) → side_mark surfaces turned s b ≡ m → colour_of surfaces u v (side_left turned s m) ≡ plain_colour surfaces u (side turned s) v
      by (decided c) e = sym (tree_sound surfaces (side turned s) b c v e w)
      by undecided e = refl
  centre_left (union_of p q) =
      union_colour_of surfaces u v (left surfaces p b) (left surfaces q b) ∙ ap₂ union_colour (centre_left p) (centre_left q)
  centre_left (intersection_of p q) =
      intersection_colour_of surfaces u v (left surfaces p b) (left surfaces q b) ∙ ap₂ intersection_colour (centre_left p) (centre_left q)

-- ---- it has no more nodes than the tree, no more shapes pending, and no surface that the tree lacks
union_nodes : (x y : Left) → (nodes_of (union_left x y) ≤ suc (nodes_of x + nodes_of y)) × (depth_of (union_left x y) ≤ max (depth_of x) (suc (depth_of y)))
unfolding nodes depth
union_nodes (settled White) y = (omega arith, omega arith)
union_nodes (settled Black) y = (omega arith, omega arith)
union_nodes (still p) (settled White) = (omega arith, omega arith)
union_nodes (still p) (settled Black) = (omega arith, omega arith)
union_nodes (still p) (still q) = (omega arith, omega arith)

intersection_nodes : (x y : Left) →
    (nodes_of (intersection_left x y) ≤ suc (nodes_of x + nodes_of y)) × (depth_of (intersection_left x y) ≤ max (depth_of x) (suc (depth_of y)))
unfolding nodes depth
intersection_nodes (settled White) y = (omega arith, omega arith)
intersection_nodes (settled Black) y = (omega arith, omega arith)
intersection_nodes (still p) (settled White) = (omega arith, omega arith)
intersection_nodes (still p) (settled Black) = (omega arith, omega arith)
intersection_nodes (still p) (still q) = (omega arith, omega arith)

side_nodes : (turned : Bool) (s : Surface) (m : Mark) → (nodes_of (side_left turned s m) ≤ 1) × (depth_of (side_left turned s m) ≤ 1)
unfolding nodes depth
side_nodes turned s (decided c) = (omega arith, omega arith)
side_nodes turned s undecided = (omega arith, omega arith)

pub left_nodes_lem : (marks : Marks) (p : Plain) → nodes_of (left_by marks p) ≤ nodes p
unfolding left_by nodes
left_nodes_lem marks (colour c) = omega arith
left_nodes_lem marks (side turned s) = (side_nodes turned s (marks turned s)).0
left_nodes_lem marks (union_of p q) = omega (arith, (union_nodes (left_by marks p) (left_by marks q)).0, left_nodes_lem marks p, left_nodes_lem marks q)
left_nodes_lem marks (intersection_of p q) = omega (arith, (intersection_nodes (left_by marks p) (left_by marks q)).0, left_nodes_lem marks p, left_nodes_lem marks q)

pub left_depth : (marks : Marks) (p : Plain) → depth_of (left_by marks p) ≤ depth p
unfolding left_by depth
left_depth marks (colour c) = omega arith
left_depth marks (side turned s) = (side_nodes turned s (marks turned s)).1
left_depth marks (union_of p q) = omega (arith, (union_nodes (left_by marks p) (left_by marks q)).1, left_depth marks p, left_depth marks q)
left_depth marks (intersection_of p q) = omega (arith, (intersection_nodes (left_by marks p) (left_by marks q)).1, left_depth marks p, left_depth marks q)
