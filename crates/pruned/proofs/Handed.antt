-- What is left of the trees over a block is one node: it is that of a leaf, by its code of a halfspace's side or of a ball's, and both halves are laid by that
-- side alone as they are by the trees.
use Prim.Native.Nat.{ℕ, ◌+◌, ◌*◌, ◌-◌, ◌/◌, ◌%◌, ◌≤◌, ◌<◌}
use mathlib.Core.Path.{◌≡◌, refl, sym, ap, ap₂, ◌∙◌}
use mathlib.Core.Bool.{Bool, true, false}
use mathlib.Core.List.{List, [], ◌∷◌}
use native.Mathlib.Omega.{arith}
use lib.Dec.{eqb}
use lib.IntN.{ℤ, nat_abs}
use lib.ListN.{length, get_or}
use Rattle.universe.specs.declared.Block.{Block}
use Rattle.bintree.specs.Shape.{Shape, size}
use Rattle.bintree.specs.Walks.{laid}
use Rattle.csg.specs.Halfspace.{Halfspace, most_rows, row_at, row_count, least, greatest}
use Rattle.csg.specs.Ball.{ball_count}
use Rattle.csg.specs.Surfaces.{Surfaces, Surface, halfspace, ball, surfaces_of, named, halfspace_named, ball_named}
use Rattle.csg.specs.Tree.{Plain, colour, side, union_of, intersection_of}
use Rattle.bintree.specs.declared.Colour.TheVariants.{White, Black}
use Rattle.convert.specs.Blocks.{block_left}
use Rattle.convert.specs.Shapes.{shaped}
use Rattle.pruned.specs.Left.{nodes, all_nodes}
use Rattle.pruned.specs.Nodes.{Node, of_colour, of_side, postfix, all_postfix, node_code, least_of, greatest_of, number_at, NodeAt, Holds, node, SidesNamed}
use Rattle.pruned.specs.Nodes.{first_ball_side, side_named, OneOrTwo, one, two, LeafOf, colour_leaf, side_leaf, CodeAt, SmallExtreme}
use Rattle.pruned.specs.Laying.{packed_shape, lower_part, upper_part, halves_shape, looked_in_halves, HalvesJob, HalvesLaid}
use Rattle.pruned.specs.Single.{side_alone, single_parts, looked_in_parts, SingleHalves, SingleHalvesLaid, first_side, SingleJob, SingleLaid}
use Rattle.pruned.specs.Alone.{Steps, StepsJob, LoneHalves, LoneHalvesLaid, LoneJob, LoneLaid}
use Rattle.pruned.specs.Round.{BallHalves, BallHalvesLaid, BallJob, BallLaid}
use Rattle.pruned.proofs.Moving.{held, extreme_near}
use Rattle.pruned.proofs.Leaves.{row_leaf, ball_leaf}
use Rattle.pruned.proofs.Reading.{length_all}
use Rattle.pruned.proofs.Steps.{ok, rows_few, balls_few, rows_small, standing_small}
use Rattle.pruned.proofs.Laying.{halves_size}

-- ---- one node is that of a leaf
pub record OneLeaf (surfaces : Surfaces) (b : Block) (work : List ℤ) (from : ℕ) (ps : List Plain) : Type 0 where
  pub tree : Plain
  pub leaf : Node
  pub trees_are : ps ≡ tree ∷ []
  pub stands : LeafOf (named surfaces) tree leaf
  pub stored_at : NodeAt surfaces b work from leaf

some_nodes : (p : Plain) → 1 ≤ nodes p
unfolding nodes
some_nodes (colour c) = omega arith
some_nodes (side turned s) = omega arith
some_nodes (union_of p q) = omega arith
some_nodes (intersection_of p q) = omega arith

-- an operator and two trees have more nodes than one
join_many : (p q : Plain) → (2 ≤ all_nodes (union_of p q ∷ [])) × ((2 ≤ all_nodes (intersection_of p q ∷ [])) × (2 ≤ all_nodes (p ∷ q ∷ [])))
unfolding all_nodes nodes
join_many p q = (
  omega (arith, some_nodes p, some_nodes q),
  (omega (arith, some_nodes p, some_nodes q), omega (arith, some_nodes p, some_nodes q)),
)

not_one : (ps : List Plain) → 1 ≡ length (all_postfix ps) → 2 ≤ all_nodes ps → ⊥
not_one ps e h = absurd (omega (arith, length_all ps))

module _ {surfaces : Surfaces} {b : Block} {work : List ℤ} {from : ℕ} where
  one_leaf_of : {ps : List Plain} → OneOrTwo (named surfaces) ps → 1 ≡ length (all_postfix ps) → Holds surfaces b work from (all_postfix ps) →
      OneLeaf surfaces b work from ps
  unfolding all_postfix postfix
  one_leaf_of (one {p = colour c} k) e (node n r) =
      record { tree = colour c; leaf = of_colour c; trees_are = refl; stands = colour_leaf; stored_at = n }
  one_leaf_of (one {p = side turned s} k) e (node n r) = by k.sides
    where
      by : SidesNamed (named surfaces) (side turned s) → OneLeaf surfaces b work from (side turned s ∷ [])
      by (side_named m) = record { tree = side turned s; leaf = of_side turned s; trees_are = refl; stands = side_leaf m; stored_at = n }
  one_leaf_of (one {p = union_of p q} k) e h = absurd (not_one (union_of p q ∷ []) e (join_many p q).0)
  one_leaf_of (one {p = intersection_of p q} k) e h = absurd (not_one (intersection_of p q ∷ []) e (join_many p q).1.0)
  one_leaf_of (two {p} {q} k m) e h = absurd (not_one (p ∷ q ∷ []) e (join_many p q).1.1)

-- ---- both halves are laid by one side alone as by the trees, where it is all of them
module _ {surfaces : Surfaces} {axes : ℕ} {table low side : List ℕ} {left : ℕ} {work : List ℤ} {from count : ℕ} {looked : List ℕ} {at : ℕ}
    (job : HalvesJob surfaces axes table low side left work from count looked at) {turned : Bool} {s : Surface}
    (trees_are : job.trees ≡ side_alone turned s) where
  abbrev P : Block
  P = block_left job.universe left low

  shape_is : halves_shape surfaces job.trees (left - 1) P ≡ single_parts surfaces turned s left P
  shape_is = ap (λ (ps : List Plain). halves_shape surfaces ps (left - 1) P) trees_are

  looked_is : looked_in_halves surfaces job.trees (left - 1) P ≡ looked_in_parts surfaces turned s left P
  looked_is = ap (λ (ps : List Plain). looked_in_halves surfaces ps (left - 1) P) trees_are

  pub single_asked : SingleHalves surfaces turned s left P looked at
  single_asked =
      record {
        some = job.some;
        fits = omega (
          arith,
          job.fits,
          ap size shape_is,
          halves_size (lower_part surfaces job.trees (left - 1) P) (upper_part surfaces job.trees (left - 1) P),
        );
        tallied = job.tallied;
        counts = omega (arith, job.counts, looked_is);
      }

  pub single_back : (m : Bool) (out : List ℕ) {packed : ℕ} {out' looked' low' side' : List ℕ} →
      SingleHalvesLaid surfaces turned s left P looked at m out packed out' looked' → low' ≡ low → side' ≡ side →
      HalvesLaid job m out packed out' looked' low' side' work
  single_back m out d p q =
      record {
        piece = d.piece ∙ ap (λ (k : Shape). packed_shape at (shaped m k)) (sym shape_is);
        room = d.room ∙ ap (λ (k : Shape). laid out at (shaped m k)) (sym shape_is);
        counted = d.counted ∙ ap (λ (k : ℕ). (get_or looked 0 0 + k) ∷ []) (sym looked_is);
        lows = p;
        sides = q;
        below = record { same = λ k h. refl; long = refl };
      }

-- ---- handed over, where the node is a halfspace's side
module _ {rows balls : List ℤ} {axes : ℕ} {table low side : List ℕ} {left : ℕ} {work : List ℤ} {from count : ℕ} {looked : List ℕ} {at : ℕ}
    (job : HalvesJob (surfaces_of rows balls) axes table low side left work from count looked at) (e : count ≡ 1) where
  abbrev S : Surfaces
  S = surfaces_of rows balls

  one_found : OneLeaf S (block_left job.universe left low) work from job.trees
  one_found = one_leaf_of job.few (sym e ∙ job.counted) job.holds

  small_code : {t : Plain} {n : Node} → LeafOf (named S) t n → node_code n < 2048
  small_code (colour_leaf {c = White}) = omega arith
  small_code (colour_leaf {c = Black}) = omega arith
  small_code (side_leaf {turned = true} {s = halfspace k} (halfspace_named m)) =
      omega (arith, m, rows_few job.universe rows job.scene.accepted_rows)
  small_code (side_leaf {turned = false} {s = halfspace k} (halfspace_named m)) =
      omega (arith, m, rows_few job.universe rows job.scene.accepted_rows)
  small_code (side_leaf {turned = true} {s = ball k} (ball_named m)) =
      omega (arith, m, balls_few job.universe balls job.scene.accepted_balls)
  small_code (side_leaf {turned = false} {s = ball k} (ball_named m)) =
      omega (arith, m, balls_few job.universe balls job.scene.accepted_balls)

  room_one : 3 * (from + (left + 1) * 1) ≤ length work
  room_one = let r : 3 * (from + (left + 1) * count) ≤ length work = job.room in rw e at r

  pub lone_code : CodeAt work from
  lone_code =
      record {
        code = node_code one_found.leaf;
        small = small_code one_found.stands;
        inside = omega (arith, room_one);
        is = one_found.stored_at.code;
      }

  one_job : HalvesJob S axes table low side left work from 1 looked at
  one_job =
      record {
        universe = job.universe;
        scene = job.scene;
        axes_are = job.axes_are;
        standing = job.standing;
        some = job.some;
        table_is = job.table_is;
        trees = job.trees;
        few = job.few;
        counted = sym e ∙ job.counted;
        holds = job.holds;
        room = room_one;
        bounded = job.bounded;
        fits = job.fits;
        tallied = job.tallied;
        counts = job.counts;
      }

  one_back : (m : Bool) (out : List ℕ) {packed : ℕ} {out' looked' low' side' : List ℕ} → HalvesLaid one_job m out packed out' looked' low' side' work →
      HalvesLaid job m out packed out' looked' low' side' work
  unfolding one_job
  one_back m out d =
      record {
        piece = d.piece;
        room = d.room;
        counted = d.counted;
        lows = d.lows;
        sides = d.sides;
        below = record { same = λ k h. refl; long = refl };
      }

  module _ (s : first_side ≤ nat_abs (number_at work (3 * from))) where
    pub single_job : SingleJob S axes table low side left work from looked at
    single_job = record { halves = one_job; is_side = s }

    pub single_done : (m : Bool) (out : List ℕ) {packed : ℕ} {out' looked' low' side' : List ℕ} → SingleLaid single_job m out packed out' looked' low' side' →
        HalvesLaid job m out packed out' looked' low' side' work
    unfolding single_job
    single_done m out d = one_back m out d

-- by its code it is that of a halfspace or of a ball
module _ {rows balls : List ℤ} {axes : ℕ} {table low side : List ℕ} {left : ℕ} {work : List ℤ} {from : ℕ} {looked : List ℕ} {at : ℕ}
    (job : SingleJob (surfaces_of rows balls) axes table low side left work from looked at) {code : ℕ} (e : code ≡ nat_abs (number_at work (3 * from))) where
  module _ (h : code < first_ball_side) where
    pub lone_job : LoneJob rows table side left work from looked at
    lone_job = record { balls = balls; axes = axes; low = low; halves = job.halves; is_side = record { from = job.is_side; upto = omega (arith, h, e) } }

    pub lone_back : (m : Bool) (out : List ℕ) {packed : ℕ} {out' looked' : List ℕ} → LoneLaid lone_job m out packed out' looked' →
        SingleLaid job m out packed out' looked' low side
    unfolding lone_job
    lone_back m out d = d

  module _ (h : first_ball_side ≤ code) where
    pub ball_job : BallJob axes balls table low side left work from looked at
    ball_job = record { rows = rows; halves = job.halves; is_ball = omega (arith, h, e) }

    pub ball_back : (m : Bool) (out : List ℕ) {packed : ℕ} {out' looked' low' side' : List ℕ} → BallLaid ball_job m out packed out' looked' low' side' →
        SingleLaid job m out packed out' looked' low' side'
    unfolding ball_job
    ball_back m out d = d

-- ---- which halfspace's side it is, and what its two values ask
module _ {rows : List ℤ} {table side : List ℕ} {left : ℕ} {work : List ℤ} {from : ℕ} {looked : List ℕ} {at : ℕ}
    (job : LoneJob rows table side left work from looked at) where
  abbrev surfaces : Surfaces
  surfaces = surfaces_of rows job.balls

  abbrev b : Block
  b = block_left job.halves.universe left job.low

  few_rows : row_count rows ≤ most_rows
  few_rows = rows_few job.halves.universe rows job.halves.scene.accepted_rows

  found : OneLeaf surfaces b work from job.halves.trees
  found = one_leaf_of job.halves.few job.halves.counted job.halves.holds

  code_is : nat_abs (number_at work (3 * from)) ≡ node_code found.leaf
  code_is = ap nat_abs found.stored_at.code

  told : (turned : Bool) × (i : ℕ) × (i < row_count rows) × (found.tree ≡ Plain.side turned (halfspace i)) × (found.leaf ≡ of_side turned (halfspace i))
      × ((node_code found.leaf - 512) / 2 ≡ i) × (eqb (node_code found.leaf % 2) 1 ≡ turned)
  told = row_leaf few_rows found.stands (rw code_is at job.is_side.from) (rw code_is at job.is_side.upto)

  module _ {code : ℕ} (c : code ≡ nat_abs (number_at work (3 * from))) where
    abbrev row : ℕ
    row = (code - 512) / 2

    row_is : row ≡ told.1
    row_is = ap (λ (k : ℕ). (k - 512) / 2) (c ∙ code_is) ∙ told.5

    row_named : row < row_count rows
    row_named = rw row_is told.2

    pub steps_asked : StepsJob rows row table side left
    steps_asked =
        record {
          universe = job.halves.universe;
          accepted = job.halves.scene.accepted_universe;
          low = job.low;
          standing = job.halves.standing;
          table_is = job.halves.table_is;
          few = few_rows;
          named = row_named;
          small = rows_small job.halves.scene row row_named;
        }

    abbrev h : Halfspace
    h = row_at rows row

    small : SmallExtreme (least h b) × SmallExtreme (greatest h b)
    small = standing_small (ok job.halves.scene).few_axes job.halves.standing h (rows_small job.halves.scene row row_named)

    least_told : held (number_at work (3 * from + 1)) ≡ least h b
    least_told =
        let e : number_at work (3 * from + 1) ≡ least h b =
        found.stored_at.low ∙ ap (least_of surfaces b) told.4 ∙ ap (λ (i : ℕ). least (row_at rows i) b) (sym row_is) in
        ap held e ∙ (extreme_near small.0).same

    greatest_told : held (number_at work (3 * from + 2)) ≡ greatest h b
    greatest_told =
        let e : number_at work (3 * from + 2) ≡ greatest h b =
        found.stored_at.high ∙ ap (greatest_of surfaces b) told.4 ∙ ap (λ (i : ℕ). greatest (row_at rows i) b) (sym row_is) in
        ap held e ∙ (extreme_near small.1).same

    module _ {turned : Bool} (t : turned ≡ eqb (code % 2) 1) {steps : List ℤ} (f : (j : StepsJob rows row table side left) → Steps j.universe h 0 left
        steps) where
      turned_is : turned ≡ told.0
      turned_is = t ∙ ap (λ (k : ℕ). eqb (k % 2) 1) (c ∙ code_is) ∙ told.6

      trees_are : job.halves.trees ≡ side_alone turned (halfspace row)
      trees_are =
          found.trees_are
          ∙ ap (λ (p : Plain). p ∷ []) (told.3 ∙ ap₂ (λ (s : Bool) (i : ℕ). Plain.side s (halfspace i)) (sym turned_is) (sym row_is))

      pub halves_asked : LoneHalves steps turned left (held (number_at work (3 * from + 1))) (held (number_at work (3 * from + 2))) looked at
      unfolding steps_asked
      halves_asked =
          record {
            lone = record {
              universe = job.halves.universe;
              surfaces = surfaces;
              scene = job.halves.scene;
              low = job.low;
              side = side;
              standing = job.halves.standing;
              row = row;
              named = row_named;
              moves = f steps_asked;
              least_is = least_told;
              greatest_is = greatest_told;
            };
            asked = single_asked job.halves trees_are;
          }

      pub lone_laid : (m : Bool) (out : List ℕ) {packed : ℕ} {out' looked' : List ℕ} → LoneHalvesLaid halves_asked m out packed out' looked' →
          LoneLaid job m out packed out' looked'
      unfolding halves_asked steps_asked
      lone_laid m out d = single_back job.halves trees_are m out d refl refl

-- ---- which ball's side it is
module _ {axes : ℕ} {balls : List ℤ} {table low side : List ℕ} {left : ℕ} {work : List ℤ} {from : ℕ} {looked : List ℕ} {at : ℕ}
    (job : BallJob axes balls table low side left work from looked at) where
  abbrev surfaces₁ : Surfaces
  surfaces₁ = surfaces_of job.rows balls

  found₁ : OneLeaf surfaces₁ (block_left job.halves.universe left low) work from job.halves.trees
  found₁ = one_leaf_of job.halves.few job.halves.counted job.halves.holds

  code_is₁ : nat_abs (number_at work (3 * from)) ≡ node_code found₁.leaf
  code_is₁ = ap nat_abs found₁.stored_at.code

  told₁ : (turned : Bool) × (i : ℕ) × (i < ball_count balls) × (found₁.tree ≡ Plain.side turned (ball i)) × (found₁.leaf ≡ of_side turned (ball i))
      × ((node_code found₁.leaf - first_ball_side) / 2 ≡ i) × (eqb (node_code found₁.leaf % 2) 1 ≡ turned)
  told₁ = ball_leaf (rows_few job.halves.universe job.rows job.halves.scene.accepted_rows) found₁.stands (rw code_is₁ at job.is_ball)

  pub some_axes : 1 ≤ axes
  some_axes = rw job.halves.axes_are (ok job.halves.scene).some_axes

  module _ {code : ℕ} (c : code ≡ nat_abs (number_at work (3 * from))) where
    abbrev i : ℕ
    i = (code - first_ball_side) / 2

    index_is : i ≡ told₁.1
    index_is = ap (λ (k : ℕ). (k - first_ball_side) / 2) (c ∙ code_is₁) ∙ told₁.5

    module _ {turned : Bool} (t : turned ≡ eqb (code % 2) 1) where
      turned_is₁ : turned ≡ told₁.0
      turned_is₁ = t ∙ ap (λ (k : ℕ). eqb (k % 2) 1) (c ∙ code_is₁) ∙ told₁.6

      trees_are₁ : job.halves.trees ≡ side_alone turned (ball i)
      trees_are₁ =
          found₁.trees_are
          ∙ ap (λ (p : Plain). p ∷ []) (told₁.3 ∙ ap₂ (λ (s : Bool) (k : ℕ). Plain.side s (ball k)) (sym turned_is₁) (sym index_is))

      pub ball_halves : BallHalves (axes - 1) balls i turned table low side left looked at
      ball_halves =
          record {
            lone = record {
              universe = job.halves.universe;
              rows = job.rows;
              scene = job.halves.scene;
              standing = job.halves.standing;
              named = rw index_is told₁.2;
              table_is = job.halves.table_is;
              places_are = ap (λ (k : ℕ). k - 1) job.halves.axes_are;
            };
            asked = single_asked job.halves trees_are₁;
          }

      pub ball_laid : (m : Bool) (out : List ℕ) {packed : ℕ} {out' looked' low' side' : List ℕ} →
          BallHalvesLaid ball_halves m out packed out' looked' low' side' → BallLaid job m out packed out' looked' low' side'
      unfolding ball_halves
      ball_laid m out d = single_back job.halves trees_are₁ m out d.single d.lows d.sides
