-- Nodes read in postfix order over the shapes pending: each pushes a leaf or joins the two last shapes. The nodes of one tree, or of two one after the other,
-- lead to these trees with at most 33 shapes pending, and what is left of a tree that can be carried can be carried in its turn.
use Prim.Native.Nat.{ℕ, ◌+◌, ◌*◌, ◌≤◌, ◌<◌}
use mathlib.Core.Path.{◌≡◌, refl, ap, ◌∙◌}
use mathlib.Core.Bool.{Bool, true, false}
use mathlib.Core.List.{List, [], ◌∷◌, ◌++◌, append_assoc}
use native.Mathlib.Omega.{arith}
use borrow.Author.Tests.{le-leb, le-ltb}
use lib.ListN.{length, length-append}
use Rattle.bintree.specs.declared.Colour.TheVariants.{White, Black}
use Rattle.csg.specs.Halfspace.{Mark, decided, undecided}
use Rattle.csg.specs.Surfaces.{Surface, halfspace, ball, Named, IsNamed}
use Rattle.csg.specs.Tree.{Plain, colour, side, union_of, intersection_of}
use Rattle.csg.specs.Marks.{intersection_mark}
use Rattle.pruned.specs.Left.{Left, settled, still, as_mark, union_left, intersection_left, side_left, left_by, nodes, depth, kept, all_nodes}
use Rattle.pruned.specs.Nodes.{Node, joining, join_plain, postfix, all_postfix, bit_of, node_code, is_join, is_meet}
use Rattle.pruned.specs.Nodes.{SidesNamed, side_named, union_named, intersection_named, Carriable, OneOrTwo, one, two, LeafOf, colour_leaf}
use Rattle.pruned.specs.Nodes.{side_leaf}
use Rattle.pruned.specs.Nodes.{all_mark_by, all_left_by, most_shapes}
use Rattle.pruned.proofs.Left.{depth_of, nodes_of, left_depth, left_nodes_lem}

pub data Reads (names : Named) : List Node → List Plain → List Plain → Type 0 where
  ended : {ps : List Plain} → Reads names [] ps ps
  pushed : {t : Plain} {n : Node} {ns : List Node} {ps fs : List Plain} → LeafOf names t n → length ps < most_shapes → Reads names ns (t ∷ ps) fs →
      Reads names (n ∷ ns) ps fs
  joined : {meet : Bool} {ns : List Node} {p q : Plain} {ps fs : List Plain} → Reads names ns (join_plain meet p q ∷ ps) fs →
      Reads names (joining meet ∷ ns) (q ∷ p ∷ ps) fs

-- ---- codes tell operators from leaves
pub leaf_code : {names : Named} {t : Plain} {n : Node} → LeafOf names t n → is_join (node_code n) ≡ false
leaf_code (colour_leaf {c = White}) = refl
leaf_code (colour_leaf {c = Black}) = refl
leaf_code (side_leaf {turned = turned} {s = halfspace i} h) = big (2 * (256 + i) + bit_of turned) (omega arith)
  where
    big : (k : ℕ) → 8 ≤ k → is_join k ≡ false
    big k h = simp (le-leb 4 k (omega arith), le-ltb k 8 h)
leaf_code (side_leaf {turned = turned} {s = ball i} h) = big (2 * (512 + i) + bit_of turned) (omega arith)
  where
    big : (k : ℕ) → 8 ≤ k → is_join k ≡ false
    big k h = simp (le-leb 4 k (omega arith), le-ltb k 8 h)

pub join_code_lem : (meet : Bool) → (is_join (node_code (joining meet)) ≡ true) × (is_meet (node_code (joining meet)) ≡ meet) × (node_code (joining meet) < 2048)
join_code_lem true = (refl, refl, omega arith)
join_code_lem false = (refl, refl, omega arith)

-- ---- the nodes of a tree are read as the tree
pub reads_postfix : {names : Named} {rest : List Node} {ps fs : List Plain} (p : Plain) → SidesNamed names p → depth p + length ps ≤ most_shapes →
    Reads names rest (p ∷ ps) fs → Reads names (postfix p ++ rest) ps fs
unfolding postfix depth
reads_postfix {ps = ps} (colour c) n h r = pushed {ps = ps} colour_leaf (omega arith) r
reads_postfix {ps = ps} (side turned s) (side_named n) h r = pushed {ps = ps} (side_leaf n) (omega arith) r
reads_postfix {rest = rest} (union_of p q) (union_named n m) h r =
    rw (append_assoc (postfix p) (postfix q ++ (joining false ∷ [])) rest, append_assoc (postfix q) (joining false ∷ []) rest)
    (reads_postfix p n (omega arith) (reads_postfix q m (omega arith) (joined {meet = false} r)))
reads_postfix {rest = rest} (intersection_of p q) (intersection_named n m) h r =
    rw (append_assoc (postfix p) (postfix q ++ (joining true ∷ [])) rest, append_assoc (postfix q) (joining true ∷ []) rest)
    (reads_postfix p n (omega arith) (reads_postfix q m (omega arith) (joined {meet = true} r)))

-- the last tree first
abbrev pub last_first : List Plain → List Plain
last_first [] = []
last_first (p ∷ []) = p ∷ []
last_first (p ∷ q ∷ ps) = q ∷ p ∷ []

pub reads_all : {names : Named} {ps : List Plain} → OneOrTwo names ps → Reads names (all_postfix ps) [] (last_first ps)
unfolding all_postfix
reads_all (one {p} c) = reads_postfix p c.sides (omega (arith, c.shallow)) ended
reads_all (two {p} {q} c d) =
    reads_postfix p c.sides (omega (arith, c.shallow)) (reads_postfix q d.sides (omega (arith, d.shallow)) ended)

-- ---- as many nodes as the definition counts
pub length_postfix : (p : Plain) → length (postfix p) ≡ nodes p
unfolding postfix nodes
length_postfix (colour c) = refl
length_postfix (side turned s) = refl
length_postfix (union_of p q) = simp (length-append, length_postfix p, length_postfix q) (omega arith)
length_postfix (intersection_of p q) = simp (length-append, length_postfix p, length_postfix q) (omega arith)

pub length_all : (ps : List Plain) → length (all_postfix ps) ≡ all_nodes ps
unfolding all_postfix all_nodes
length_all [] = refl
length_all (p ∷ ps) = length-append (postfix p) (all_postfix ps) ∙ simp (length_postfix p, length_all ps)

-- ---- what is left of a tree that can be carried can be carried
module _ (names : Named) where
  abbrev NamedLeft : Left → Type 0
  NamedLeft (settled c) = Unit {0}
  NamedLeft (still p) = SidesNamed names p

  union_left_lem : (x y : Left) → NamedLeft x → NamedLeft y → NamedLeft (union_left x y)
  union_left_lem (settled White) y n m = m
  union_left_lem (settled Black) y n m = tt
  union_left_lem (still p) (settled White) n m = n
  union_left_lem (still p) (settled Black) n m = tt
  union_left_lem (still p) (still q) n m = union_named n m

  intersection_left_lem : (x y : Left) → NamedLeft x → NamedLeft y → NamedLeft (intersection_left x y)
  intersection_left_lem (settled White) y n m = tt
  intersection_left_lem (settled Black) y n m = m
  intersection_left_lem (still p) (settled White) n m = tt
  intersection_left_lem (still p) (settled Black) n m = n
  intersection_left_lem (still p) (still q) n m = intersection_named n m

  side_left_lem : (turned : Bool) (s : Surface) (m : Mark) → IsNamed names s → NamedLeft (side_left turned s m)
  side_left_lem turned s (decided c) n = tt
  side_left_lem turned s undecided n = side_named n

  named_left : (marks : Bool → Surface → Mark) (p : Plain) → SidesNamed names p → NamedLeft (left_by marks p)
  unfolding left_by
  named_left marks (colour c) n = tt
  named_left marks (side turned s) (side_named n) = side_left_lem turned s (marks turned s) n
  named_left marks (union_of p q) (union_named n m) = union_left_lem (left_by marks p) (left_by marks q) (named_left marks p n) (named_left marks q m)
  named_left marks (intersection_of p q) (intersection_named n m) =
      intersection_left_lem (left_by marks p) (left_by marks q) (named_left marks p n) (named_left marks q m)

  carried_left : (marks : Bool → Surface → Mark) (p q : Plain) → Carriable names p → left_by marks p ≡ still q → Carriable names q
  carried_left marks p q c e =
      record {
        sides = rw e at (named_left marks p c.sides);
        shallow = omega (arith, c.shallow, left_depth marks p, ap depth_of e);
      }

  -- where the trees are undecided, one or two are left
  pub few_left : (marks : Bool → Surface → Mark) {ps : List Plain} → OneOrTwo names ps → all_mark_by marks ps ≡ undecided → OneOrTwo names (all_left_by marks ps)
  unfolding all_mark_by all_left_by intersection_mark
  few_left marks (one {p} c) e = by (left_by marks p) refl e
    where
      by : (x : Left) → left_by marks p ≡ x → intersection_mark (as_mark x) (decided Black) ≡ undecided → OneOrTwo names (kept x [])
      by (settled White) f g = let z : ◌≡◌ {A = ℕ} 0 1 = cc in absurd (omega arith)
      by (settled Black) f g = let z : ◌≡◌ {A = ℕ} 0 1 = cc in absurd (omega arith)
      by (still q) f g = one (carried_left marks p q c f)
  few_left marks (two {p} {q} c d) e = by (left_by marks p) (left_by marks q) refl refl e
    where
      by : (x y : Left) → left_by marks p ≡ x → left_by marks q ≡ y → intersection_mark (as_mark x) (intersection_mark (as_mark y) (decided Black)) ≡ undecided →
          OneOrTwo names (kept x (kept y []))
      by (settled White) y f g k = let z : ◌≡◌ {A = ℕ} 0 1 = cc in absurd (omega arith)
      by (settled Black) (settled White) f g k = let z : ◌≡◌ {A = ℕ} 0 1 = cc in absurd (omega arith)
      by (settled Black) (settled Black) f g k = let z : ◌≡◌ {A = ℕ} 0 1 = cc in absurd (omega arith)
      by (settled Black) (still s) f g k = one (carried_left marks q s d g)
      by (still r) (settled White) f g k = let z : ◌≡◌ {A = ℕ} 0 1 = cc in absurd (omega arith)
      by (still r) (settled Black) f g k = one (carried_left marks p r c f)
      by (still r) (still s) f g k = two (carried_left marks p r c f) (carried_left marks q s d g)

-- no more nodes are left than there were
pub fewer_nodes : (marks : Bool → Surface → Mark) (ps : List Plain) → all_nodes (all_left_by marks ps) ≤ all_nodes ps
unfolding all_left_by all_nodes
fewer_nodes marks [] = omega arith
fewer_nodes marks (p ∷ ps) = by (fewer_nodes marks ps) (left_by marks p) (left_nodes_lem marks p)
  where
    by : all_nodes (all_left_by marks ps) ≤ all_nodes ps → (x : Left) → nodes_of x ≤ nodes p → all_nodes (kept x (all_left_by marks ps)) ≤ nodes p + all_nodes ps
    by rest (settled c) h = omega (arith, rest)
    by rest (still q) h = omega (arith, rest)
