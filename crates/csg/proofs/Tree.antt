-- Trees and plain trees. Reversal is turning a plain tree over: each side the other way, each colour the opposite one, UNION and INTERSECTION
-- exchanged. Turning twice gives the tree back, and neither MINUS nor reversal adds or drops a surface.
use Prim.Native.Nat.{ℕ, ◌+◌}
use mathlib.Core.Path.{◌≡◌, refl, sym, ap, ap₂, ◌∙◌}
use mathlib.Core.Bool.{Bool, true, false, not}
use Rattle.bintree.specs.declared.Colour.{Colour}
use Rattle.bintree.specs.declared.Colour.TheVariants.{White, Black}
use Rattle.csg.specs.Surfaces.{Surface}
use Rattle.csg.specs.Tree.{white, black, surface, union, intersection, minus, Tree, leaf, node}
use Rattle.csg.specs.Tree.{Plain, colour, side, union_of, intersection_of, plain, reversal, count_leaves, count_sides}
use Rattle.csg.specs.Marks.{opposite_colour}

-- a plain tree turned over
unfoldable pub turned : Plain → Plain
turned (colour c) = colour (opposite_colour c)
turned (side flag s) = side (not flag) s
turned (union_of a b) = intersection_of (turned a) (turned b)
turned (intersection_of a b) = union_of (turned a) (turned b)

opposite_twice : (c : Colour) → opposite_colour (opposite_colour c) ≡ c
opposite_twice Black = refl
opposite_twice White = refl

not_twice : (b : Bool) → not (not b) ≡ b
not_twice true = refl
not_twice false = refl

pub turned_twice : (p : Plain) → turned (turned p) ≡ p
unfolding turned
turned_twice (colour c) = ap colour (opposite_twice c)
turned_twice (side flag s) = ap (λ (b : Bool). side b s) (not_twice flag)
turned_twice (union_of a b) = ap₂ union_of (turned_twice a) (turned_twice b)
turned_twice (intersection_of a b) = ap₂ intersection_of (turned_twice a) (turned_twice b)

pub reversal_turned : (t : Tree) → reversal t ≡ turned (plain t)
unfolding turned plain reversal
reversal_turned (leaf white) = refl
reversal_turned (leaf black) = refl
reversal_turned (leaf (surface s)) = refl
reversal_turned (node union a b) = ap₂ intersection_of (reversal_turned a) (reversal_turned b)
reversal_turned (node intersection a b) = ap₂ union_of (reversal_turned a) (reversal_turned b)
reversal_turned (node minus a b) = ap₂ union_of (reversal_turned a) (sym (turned_twice (plain b)) ∙ ap turned (sym (reversal_turned b)))

-- the reversal of a reversal is the tree
pub plain_turned : (t : Tree) → plain t ≡ turned (reversal t)
plain_turned t = sym (turned_twice (plain t)) ∙ ap turned (sym (reversal_turned t))

-- rules 3.3 and 3.4, node by node
module _ (a b : Tree) where
  pub plain_union : plain (node union a b) ≡ union_of (plain a) (plain b)
  unfolding plain
  plain_union = refl

  pub plain_intersection : plain (node intersection a b) ≡ intersection_of (plain a) (plain b)
  unfolding plain
  plain_intersection = refl

  pub plain_minus : plain (node minus a b) ≡ intersection_of (plain a) (reversal b)
  unfolding plain
  plain_minus = refl

  pub reversal_union : reversal (node union a b) ≡ intersection_of (reversal a) (reversal b)
  unfolding reversal
  reversal_union = refl

  pub reversal_intersection : reversal (node intersection a b) ≡ union_of (reversal a) (reversal b)
  unfolding reversal
  reversal_intersection = refl

  pub reversal_minus : reversal (node minus a b) ≡ union_of (reversal a) (plain b)
  unfolding reversal
  reversal_minus = refl

-- a side for each surface, whatever it counts
module _ (counts : Surface → ℕ) where
  pub sides_turned : (p : Plain) → count_sides counts (turned p) ≡ count_sides counts p
  unfolding turned count_sides
  sides_turned (colour c) = refl
  sides_turned (side flag s) = refl
  sides_turned (union_of a b) = ap₂ ◌+◌ (sides_turned a) (sides_turned b)
  sides_turned (intersection_of a b) = ap₂ ◌+◌ (sides_turned a) (sides_turned b)

  pub sides_plain : (t : Tree) → count_sides counts (plain t) ≡ count_leaves counts t
  unfolding plain count_sides count_leaves
  sides_plain (leaf white) = refl
  sides_plain (leaf black) = refl
  sides_plain (leaf (surface s)) = refl
  sides_plain (node union a b) = ap₂ ◌+◌ (sides_plain a) (sides_plain b)
  sides_plain (node intersection a b) = ap₂ ◌+◌ (sides_plain a) (sides_plain b)
  sides_plain (node minus a b) = ap₂ ◌+◌ (sides_plain a) (ap (count_sides counts) (reversal_turned b) ∙ sides_turned (plain b) ∙ sides_plain b)

-- the side `flag s` stands in a plain tree
pub data HasSide : Plain → Bool → Surface → Type 0 where
  itself : {flag : Bool} {s : Surface} → HasSide (side flag s) flag s
  union_first : {a b : Plain} {flag : Bool} {s : Surface} → HasSide a flag s → HasSide (union_of a b) flag s
  union_second : {a b : Plain} {flag : Bool} {s : Surface} → HasSide b flag s → HasSide (union_of a b) flag s
  intersection_first : {a b : Plain} {flag : Bool} {s : Surface} → HasSide a flag s → HasSide (intersection_of a b) flag s
  intersection_second : {a b : Plain} {flag : Bool} {s : Surface} → HasSide b flag s → HasSide (intersection_of a b) flag s
