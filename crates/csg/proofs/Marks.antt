-- Marks of trees over blocks. A mark follows another where it is decided with the same colour as soon as the other is. UNION and INTERSECTION
-- keep that, so it holds of a tree because it holds of its leaves: of the marks over a part of the block, and of the colours at its centres.
-- Of surfaces only `surface_sound`, `surface_persistent` and `surface_places` are used. A tree's reversal has the opposite mark and the opposite colour,
-- since a side reversed has them and UNION and INTERSECTION exchange them (De Morgan).
use Prim.Native.Nat.{ℕ, ◌<◌}
use mathlib.Core.Path.{◌≡◌, refl, sym, ap, ap₂, ◌∙◌}
use mathlib.Core.Bool.{Bool, true, false, not, cond}
use mathlib.Core.Logic.{◌⊎◌, inl, inr, ⊎_elim}
use mathlib.Core.List.{List}
use native.Mathlib.Omega.{arith}
use lib.IntN.{pos}
use Rattle.universe.specs.declared.Universe.{Universe}
use Rattle.universe.specs.declared.Block.{Block}
use Rattle.universe.specs.Universe.{levels}
use Rattle.universe.specs.Block.{low, high}
use Rattle.universe.specs.Voxel.{place_along, Within}
use Rattle.bintree.specs.declared.Colour.{Colour}
use Rattle.bintree.specs.declared.Colour.TheVariants.{White, Black}
use Rattle.csg.specs.Halfspace.{Mark, decided, undecided, row_at, colour_at_centre}
use Rattle.csg.specs.Ball.{ball_at}
use Rattle.csg.specs.Surfaces.{Surfaces, Surface, halfspace, ball}
use Rattle.csg.specs.Tree.{Tree, Plain, colour, side, union_of, intersection_of, reversed, plain, reversal}
use Rattle.csg.specs.Marks.{union_mark, intersection_mark, union_colour, intersection_colour}
use Rattle.csg.specs.Marks.{opposite_colour, opposite_mark, surface_mark, surface_colour, side_mark, side_colour, plain_mark, plain_colour}
use Rattle.csg.proofs.Halfspace.{axes_of, mark_sound, centre_places, zero_black}
use Rattle.csg.proofs.Nested.{Nested, low_nested, high_nested, mark_nested}
use Rattle.csg.proofs.Balls.{ball_sound, ball_nested, ball_places}
use Rattle.csg.proofs.Tree.{turned, reversal_turned, HasSide, itself, union_first, union_second, intersection_first, intersection_second}

-- ---- surfaces: a decided one has its colour at every centre in the block, and stays decided in every part of the block; at a centre its colour
-- depends on the voxel's places along the universe's axes
pub surface_sound : (surfaces : Surfaces) (s : Surface) (b : Block) (c : Colour) (v : List ℕ) →
    surface_mark surfaces s b ≡ decided c → Within b v → surface_colour surfaces b.universe s v ≡ c
unfolding surface_mark surface_colour
surface_sound surfaces (halfspace i) b = mark_sound (row_at surfaces.rows i) b
surface_sound surfaces (ball i) b = ball_sound (ball_at surfaces.balls i) b

pub surface_persistent : (surfaces : Surfaces) (s : Surface) (b part : Block) → Nested part b → (c : Colour) →
    surface_mark surfaces s b ≡ decided c → surface_mark surfaces s part ≡ decided c
unfolding surface_mark
surface_persistent surfaces (halfspace i) b part = mark_nested (row_at surfaces.rows i) part b
surface_persistent surfaces (ball i) b part = ball_nested (ball_at surfaces.balls i) part b

pub surface_places : (surfaces : Surfaces) (u : Universe) (s : Surface) (v w : List ℕ) →
    ((i : ℕ) → i < u.axes → place_along v i ≡ place_along w i) → surface_colour surfaces u s v ≡ surface_colour surfaces u s w
unfolding surface_colour colour_at_centre
surface_places surfaces u (halfspace i) v w same = rw (centre_places u (row_at surfaces.rows i) v w same)
surface_places surfaces u (ball i) v w same = ball_places u (ball_at surfaces.balls i) v w same

-- ---- the sides of a surface: reversed, it has the opposite mark and the opposite colour
module _ (surfaces : Surfaces) (turned : Bool) (s : Surface) where
  pub side_mark_lem : (b : Block) → side_mark surfaces turned s b ≡ cond turned (opposite_mark (surface_mark surfaces s b)) (surface_mark surfaces s b)
  unfolding side_mark
  side_mark_lem b = refl

  pub side_colour_lem : (u : Universe) (v : List ℕ) →
      side_colour surfaces u turned s v ≡ cond turned (opposite_colour (surface_colour surfaces u s v)) (surface_colour surfaces u s v)
  unfolding side_colour
  side_colour_lem u v = refl

-- ---- one mark, n, follows another, m
pub record Follows (m n : Mark) : Type 0 where
  pub same : (c : Colour) → m ≡ decided c → n ≡ decided c

-- a decided mark is followed by itself alone
only : {c : Colour} {n : Mark} → n ≡ decided c → Follows (decided c) n
only e = record { same = λ d f. e ∙ f }

-- anything follows a mark that is not decided
any : {n : Mark} → Follows undecided n
any = record { same = λ d f. let z : ◌≡◌ {A = ℕ} 0 1 = cc in absurd (omega arith) }

-- then the opposite mark follows the opposite one, and that of a side that of the side
opposite_follows : (m n : Mark) → Follows m n → Follows (opposite_mark m) (opposite_mark n)
opposite_follows (decided c) n f = only (ap opposite_mark (f.same c refl))
opposite_follows undecided n f = any

side_follows : (turned : Bool) (m n : Mark) → Follows m n → Follows (cond turned (opposite_mark m) m) (cond turned (opposite_mark n) n)
side_follows true m n f = opposite_follows m n f
side_follows false m n f = f

-- a side's colour as a mark; and a side is undecided only where its surface is
side_colours : (turned : Bool) (c : Colour) → cond turned (opposite_mark (decided c)) (decided c) ≡ decided (cond turned (opposite_colour c) c)
side_colours true c = refl
side_colours false c = refl

side_undecided : (turned : Bool) (m : Mark) → cond turned (opposite_mark m) m ≡ undecided → m ≡ undecided
side_undecided true undecided e = refl
side_undecided true (decided c) e = let z : ◌≡◌ {A = ℕ} 0 1 = cc in absurd (omega arith)
side_undecided false m e = e

union_black : (m : Mark) → union_mark m (decided Black) ≡ decided Black
unfolding union_mark
union_black (decided Black) = refl
union_black (decided White) = refl
union_black undecided = refl

intersection_white : (m : Mark) → intersection_mark m (decided White) ≡ decided White
unfolding intersection_mark
intersection_white (decided Black) = refl
intersection_white (decided White) = refl
intersection_white undecided = refl

pub union_follows : (m n m' n' : Mark) → Follows m m' → Follows n n' → Follows (union_mark m n) (union_mark m' n')
unfolding union_mark
union_follows (decided Black) n m' n' f g = only (rw (f.same Black refl))
union_follows (decided White) n m' n' f g = rw (f.same White refl) g
union_follows undecided (decided Black) m' n' f g = only (rw (g.same Black refl) (union_black m'))
union_follows undecided (decided White) m' n' f g = any
union_follows undecided undecided m' n' f g = any

pub intersection_follows : (m n m' n' : Mark) → Follows m m' → Follows n n' → Follows (intersection_mark m n) (intersection_mark m' n')
unfolding intersection_mark
intersection_follows (decided White) n m' n' f g = only (rw (f.same White refl))
intersection_follows (decided Black) n m' n' f g = rw (f.same Black refl) g
intersection_follows undecided (decided White) m' n' f g = only (rw (g.same White refl) (intersection_white m'))
intersection_follows undecided (decided Black) m' n' f g = any
intersection_follows undecided undecided m' n' f g = any

-- colours join as decided marks do
pub union_colours : (x y : Colour) → union_mark (decided x) (decided y) ≡ decided (union_colour x y)
unfolding union_mark union_colour
union_colours Black y = refl
union_colours White y = refl

pub intersection_colours : (x y : Colour) → intersection_mark (decided x) (decided y) ≡ decided (intersection_colour x y)
unfolding intersection_mark intersection_colour
intersection_colours White y = refl
intersection_colours Black y = refl

-- an undecided UNION or INTERSECTION has an undecided son
pub union_undecided : (m n : Mark) → union_mark m n ≡ undecided → (m ≡ undecided) ⊎ (n ≡ undecided)
unfolding union_mark
union_undecided (decided Black) n e = let z : ◌≡◌ {A = ℕ} 0 1 = cc in absurd (omega arith)
union_undecided (decided White) n e = inr e
union_undecided undecided n e = inl refl

pub intersection_undecided : (m n : Mark) → intersection_mark m n ≡ undecided → (m ≡ undecided) ⊎ (n ≡ undecided)
unfolding intersection_mark
intersection_undecided (decided White) n e = let z : ◌≡◌ {A = ℕ} 0 1 = cc in absurd (omega arith)
intersection_undecided (decided Black) n e = inr e
intersection_undecided undecided n e = inl refl

-- a leaf of a plain tree that is active over a block
pub record ActiveLeaf (surfaces : Surfaces) (p : Plain) (b : Block) : Type 0 where
  pub turned : Bool
  pub leaf : Surface
  pub stands : HasSide p turned leaf
  pub active : surface_mark surfaces leaf b ≡ undecided

of_son : {surfaces : Surfaces} {p q : Plain} {b : Block} → ((turned : Bool) (s : Surface) → HasSide p turned s → HasSide q turned s) →
    ActiveLeaf surfaces p b → ActiveLeaf surfaces q b
of_son f o = record { turned = o.turned; leaf = o.leaf; stands = f o.turned o.leaf o.stands; active = o.active }

-- ---- trees
module _ (surfaces : Surfaces) where
  -- the colours at the centres in a block follow a tree's mark over it
  sound : (p : Plain) (b : Block) (v : List ℕ) → Within b v → Follows (plain_mark surfaces p b) (decided (plain_colour surfaces b.universe p v))
  unfolding plain_mark plain_colour
  sound (colour c) b v w = record { same = λ d e. e }
  sound (side turned s) b v w =
      rw (side_mark_lem surfaces turned s b, side_colour_lem surfaces turned s b.universe v, ← (side_colours turned (surface_colour surfaces b.universe s v)))
      (side_follows turned _ _ (record { same = λ d e. ap decided (surface_sound surfaces s b d v e w) }))
  sound (union_of p q) b v w =
      rw (← union_colours (plain_colour surfaces b.universe p v) (plain_colour surfaces b.universe q v))
      (union_follows _ _ _ _ (sound p b v w) (sound q b v w))
  sound (intersection_of p q) b v w =
      rw (← intersection_colours (plain_colour surfaces b.universe p v) (plain_colour surfaces b.universe q v))
      (intersection_follows _ _ _ _ (sound p b v w) (sound q b v w))

  pub tree_sound : (p : Plain) (b : Block) (c : Colour) (v : List ℕ) →
      plain_mark surfaces p b ≡ decided c → Within b v → plain_colour surfaces b.universe p v ≡ c
  tree_sound p b c v e w = let f : decided (plain_colour surfaces b.universe p v) ≡ decided c = (sound p b v w).same c e in cc

  -- a tree's mark over a part of a block follows that over the block
  pub tree_nested : (p : Plain) (b part : Block) → Nested part b → Follows (plain_mark surfaces p b) (plain_mark surfaces p part)
  unfolding plain_mark
  tree_nested (colour c) b part n = record { same = λ d e. e }
  tree_nested (side turned s) b part n =
      rw (side_mark_lem surfaces turned s b, side_mark_lem surfaces turned s part)
      (side_follows turned _ _ (record { same = surface_persistent surfaces s b part n }))
  tree_nested (union_of p q) b part n = union_follows _ _ _ _ (tree_nested p b part n) (tree_nested q b part n)
  tree_nested (intersection_of p q) b part n = intersection_follows _ _ _ _ (tree_nested p b part n) (tree_nested q b part n)

  pub tree_persistent : (p : Plain) (b : Block) → b.level < levels b.universe → (c : Colour) → plain_mark surfaces p b ≡ decided c →
      (plain_mark surfaces p (low b) ≡ decided c) × (plain_mark surfaces p (high b) ≡ decided c)
  tree_persistent p b l c e = ((tree_nested p b (low b) (low_nested b l)).same c e, (tree_nested p b (high b) (high_nested b l)).same c e)

  -- at a centre a tree's colour depends on the voxel's places along the universe's axes
  pub tree_places : (u : Universe) (p : Plain) (v w : List ℕ) → ((i : ℕ) → i < u.axes → place_along v i ≡ place_along w i) →
      plain_colour surfaces u p v ≡ plain_colour surfaces u p w
  unfolding plain_colour
  tree_places u (colour c) v w same = refl
  tree_places u (side turned s) v w same =
      rw (side_colour_lem surfaces turned s u v, side_colour_lem surfaces turned s u w, surface_places surfaces u s v w same)
  tree_places u (union_of p q) v w same = ap₂ union_colour (tree_places u p v w same) (tree_places u q v w same)
  tree_places u (intersection_of p q) v w same = ap₂ intersection_colour (tree_places u p v w same) (tree_places u q v w same)

  -- an undecided tree has an active leaf
  pub open_leaf : (p : Plain) (b : Block) → plain_mark surfaces p b ≡ undecided → ActiveLeaf surfaces p b
  unfolding plain_mark
  open_leaf (colour c) b e = let z : ◌≡◌ {A = ℕ} 0 1 = cc in absurd (omega arith)
  open_leaf (side turned s) b e =
      let f = rw (side_mark_lem surfaces turned s b) at e in
      record { turned = turned; leaf = s; stands = itself; active = side_undecided turned _ f }
  open_leaf (union_of p q) b e =
      ⊎_elim
      (λ f. of_son (λ turned s. union_first) (open_leaf p b f))
      (λ f. of_son (λ turned s. union_second) (open_leaf q b f))
      (union_undecided (plain_mark surfaces p b) (plain_mark surfaces q b) e)
  open_leaf (intersection_of p q) b e =
      ⊎_elim
      (λ f. of_son (λ turned s. intersection_first) (open_leaf p b f))
      (λ f. of_son (λ turned s. intersection_second) (open_leaf q b f))
      (intersection_undecided (plain_mark surfaces p b) (plain_mark surfaces q b) e)

-- ---- the mark of a plain tree by any marks of its surfaces: those over a block, or the colours at a centre
unfoldable pub mark_by : (Surface → Mark) → Plain → Mark
mark_by f (colour c) = decided c
mark_by f (side turned s) = cond turned (opposite_mark (f s)) (f s)
mark_by f (union_of p q) = union_mark (mark_by f p) (mark_by f q)
mark_by f (intersection_of p q) = intersection_mark (mark_by f p) (mark_by f q)

pub mark_over_lem : (surfaces : Surfaces) (b : Block) (p : Plain) → mark_by (λ s. surface_mark surfaces s b) p ≡ plain_mark surfaces p b
unfolding mark_by plain_mark
mark_over_lem surfaces b (colour c) = refl
mark_over_lem surfaces b (side turned s) = sym (side_mark_lem surfaces turned s b)
mark_over_lem surfaces b (union_of p q) = ap₂ union_mark (mark_over_lem surfaces b p) (mark_over_lem surfaces b q)
mark_over_lem surfaces b (intersection_of p q) = ap₂ intersection_mark (mark_over_lem surfaces b p) (mark_over_lem surfaces b q)

pub mark_at : (surfaces : Surfaces) (u : Universe) (v : List ℕ) (p : Plain) →
    mark_by (λ s. decided (surface_colour surfaces u s v)) p ≡ decided (plain_colour surfaces u p v)
unfolding mark_by plain_colour
mark_at surfaces u v (colour c) = refl
mark_at surfaces u v (side turned s) = side_colours turned (surface_colour surfaces u s v) ∙ ap decided (sym (side_colour_lem surfaces turned s u v))
mark_at surfaces u v (union_of p q) =
    ap₂ union_mark (mark_at surfaces u v p) (mark_at surfaces u v q) ∙ union_colours (plain_colour surfaces u p v) (plain_colour surfaces u q v)
mark_at surfaces u v (intersection_of p q) =
    ap₂ intersection_mark (mark_at surfaces u v p) (mark_at surfaces u v q) ∙ intersection_colours (plain_colour surfaces u p v) (plain_colour surfaces u q v)

-- ---- a tree's reversal: decided exactly where the tree is, with the opposite colour
opposite_union : (m n : Mark) → intersection_mark (opposite_mark m) (opposite_mark n) ≡ opposite_mark (union_mark m n)
unfolding union_mark intersection_mark
opposite_union (decided Black) n = refl
opposite_union (decided White) n = refl
opposite_union undecided (decided Black) = refl
opposite_union undecided (decided White) = refl
opposite_union undecided undecided = refl

opposite_intersection : (m n : Mark) → union_mark (opposite_mark m) (opposite_mark n) ≡ opposite_mark (intersection_mark m n)
unfolding union_mark intersection_mark
opposite_intersection (decided Black) n = refl
opposite_intersection (decided White) n = refl
opposite_intersection undecided (decided Black) = refl
opposite_intersection undecided (decided White) = refl
opposite_intersection undecided undecided = refl

-- the other side of a surface
other_side : (flag : Bool) (m : Mark) → cond (not flag) (opposite_mark m) m ≡ opposite_mark (cond flag (opposite_mark m) m)
other_side true (decided Black) = refl
other_side true (decided White) = refl
other_side true undecided = refl
other_side false m = refl

turned_mark : (f : Surface → Mark) (p : Plain) → mark_by f (turned p) ≡ opposite_mark (mark_by f p)
unfolding mark_by turned
turned_mark f (colour c) = refl
turned_mark f (side flag s) = other_side flag (f s)
turned_mark f (union_of p q) = ap₂ intersection_mark (turned_mark f p) (turned_mark f q) ∙ opposite_union (mark_by f p) (mark_by f q)
turned_mark f (intersection_of p q) = ap₂ union_mark (turned_mark f p) (turned_mark f q) ∙ opposite_intersection (mark_by f p) (mark_by f q)

pub reversal_by : (f : Surface → Mark) (t : Tree) → mark_by f (reversal t) ≡ opposite_mark (mark_by f (plain t))
reversal_by f t = ap (mark_by f) (reversal_turned t) ∙ turned_mark f (plain t)

module _ (surfaces : Surfaces) (t : Tree) where
  pub reversal_mark : (b : Block) → plain_mark surfaces (reversal t) b ≡ opposite_mark (plain_mark surfaces (plain t) b)
  reversal_mark b =
      sym (mark_over_lem surfaces b (reversal t)) ∙ reversal_by (λ s. surface_mark surfaces s b) t ∙ ap opposite_mark (mark_over_lem surfaces b (plain t))

  pub reversal_colour : (u : Universe) (v : List ℕ) → plain_colour surfaces u (reversal t) v ≡ opposite_colour (plain_colour surfaces u (plain t) v)
  reversal_colour u v =
      let turns = reversal_by (λ s. decided (surface_colour surfaces u s v)) t in
      let e = sym (mark_at surfaces u v (reversal t)) ∙ turns ∙ ap opposite_mark (mark_at surfaces u v (plain t)) in
      cc

-- the all-zero halfspace reversed is WHITE over every block
pub zero_reversed : (surfaces : Surfaces) (i : ℕ) (b : Block) → (row_at surfaces.rows i).offset ≡ pos 0 →
    ((j : ℕ) → j < axes_of b → (row_at surfaces.rows i).coefficient j ≡ pos 0) → side_mark surfaces reversed (halfspace i) b ≡ decided White
unfolding surface_mark
zero_reversed surfaces i b e z = side_mark_lem surfaces reversed (halfspace i) b ∙ ap opposite_mark (zero_black (row_at surfaces.rows i) b e z)
