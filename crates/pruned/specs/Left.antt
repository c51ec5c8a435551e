-- Rule 16.1: what is left of a plain tree over a block. A decided leaf disappears, a decided son settles its parent or
-- hands it over to the other son, and a decided tree leaves no node.
use Rattle.std.specs.Prelude.{ℕ, suc, ◌+◌, max, Bool, List, [], ◌∷◌}
use Rattle.universe.specs.declared.Universe.{Universe}
use Rattle.universe.specs.declared.Block.{Block}
use Rattle.bintree.specs.declared.Colour.{Colour}
use Rattle.bintree.specs.declared.Colour.TheVariants.{White, Black}
use Rattle.csg.specs.Halfspace.{Mark, decided, undecided}
use Rattle.csg.specs.Surfaces.{Surfaces, Surface}
use Rattle.csg.specs.Tree.{Plain, colour, side, union_of, intersection_of}
use Rattle.csg.specs.Marks.{side_mark, intersection_mark, intersection_colour, plain_mark, plain_colour}

-- rule 16.1: a colour, or the tree that is still undecided
pub data Left : Type 0 where
  settled : Colour → Left
  still : Plain → Left

-- decided where nothing is left
abbrev pub as_mark : Left → Mark
as_mark (settled c) = decided c
as_mark (still p) = undecided

-- rule 16.1: an operator stays only where both its sons are undecided
abbrev pub union_left : Left → Left → Left
union_left (settled Black) y = settled Black
union_left (settled White) y = y
union_left (still p) (settled Black) = settled Black
union_left (still p) (settled White) = still p
union_left (still p) (still q) = still (union_of p q)

abbrev pub intersection_left : Left → Left → Left
intersection_left (settled White) y = settled White
intersection_left (settled Black) y = y
intersection_left (still p) (settled White) = settled White
intersection_left (still p) (settled Black) = still p
intersection_left (still p) (still q) = still (intersection_of p q)

abbrev pub side_left : Bool → Surface → Mark → Left
side_left turned s (decided c) = settled c
side_left turned s undecided = still (side turned s)

-- by any marks of the sides of surfaces, and by those over a block
unfoldable pub left_by : (Bool → Surface → Mark) → Plain → Left
left_by marks (colour c) = settled c
left_by marks (side turned s) = side_left turned s (marks turned s)
left_by marks (union_of p q) = union_left (left_by marks p) (left_by marks q)
left_by marks (intersection_of p q) = intersection_left (left_by marks p) (left_by marks q)

abbrev pub left : Surfaces → Plain → Block → Left
left surfaces p b = left_by (λ turned s. side_mark surfaces turned s b) p

-- rule 16.2: the nodes of a plain tree, one for each leaf, constant and operator
unfoldable pub nodes : Plain → ℕ
nodes (colour c) = 1
nodes (side turned s) = 1
nodes (union_of p q) = suc (nodes p + nodes q)
nodes (intersection_of p q) = suc (nodes p + nodes q)

-- the most shapes that are pending while its nodes are read in postfix order
unfoldable pub depth : Plain → ℕ
depth (colour c) = 1
depth (side turned s) = 1
depth (union_of p q) = max (depth p) (suc (depth q))
depth (intersection_of p q) = max (depth p) (suc (depth q))

-- the trees of a run are carried side by side, for their intersection: of one tree no second one is carried. Their mark
-- over a block and their colour at the centre of a voxel
unfoldable pub all_mark : Surfaces → List Plain → Block → Mark
all_mark surfaces [] b = decided Black
all_mark surfaces (p ∷ ps) b = intersection_mark (plain_mark surfaces p b) (all_mark surfaces ps b)

unfoldable pub all_colour : Surfaces → Universe → List Plain → List ℕ → Colour
all_colour surfaces u [] v = Black
all_colour surfaces u (p ∷ ps) v = intersection_colour (plain_colour surfaces u p v) (all_colour surfaces u ps v)

-- rule 16.1: what is left of the trees of a run where they are undecided: a tree that is decided, BLACK then, is
-- carried no more
abbrev pub kept : Left → List Plain → List Plain
kept (settled c) ps = ps
kept (still p) ps = p ∷ ps

unfoldable pub all_left : Surfaces → List Plain → Block → List Plain
all_left surfaces [] b = []
all_left surfaces (p ∷ ps) b = kept (left surfaces p b) (all_left surfaces ps b)

-- their nodes: the joining of two trees is none
unfoldable pub all_nodes : List Plain → ℕ
all_nodes [] = 0
all_nodes (p ∷ ps) = nodes p + all_nodes ps
