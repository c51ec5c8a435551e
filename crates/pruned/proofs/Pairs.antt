-- Two voxels at once. A halfspace's values over the block, added up, are twice its value at the block's centre; those over a half add up to that less or more
-- the coefficient along the axis, and are twice the value at the voxel's centre. Digits are joined by operators as colours are, so that one pass over the nodes
-- of the trees gives their colours at both centres.
use Prim.Native.Nat.{ℕ, suc, ◌+◌, ◌*◌, ◌-◌, ◌/◌, ◌%◌, ◌≤◌, ◌<◌}
use native.Mathlib.Omega.{arith}
use native.Mathlib.Numerals.{add-one}
use mathlib.Core.Path.{◌≡◌, refl, sym, ap, ap₂, ◌∙◌}
use mathlib.Core.Bool.{Bool, true, false, cond}
use mathlib.Core.List.{List, [], ◌∷◌}
use lib.Dec.{eqb}
use lib.IntN.{ℤ, pos, nat_abs, ◌+ℤ◌, ◌-ℤ◌}
use lib.ListN.{length, get_or, set, length-set}
use lib.Signed.{le_z}
use Rattle.lemmas.proofs.Machine.{Near, near, near_add, near_sub, near_back}
use Rattle.lemmas.proofs.Whole.{is_self, is_add, is_sub, is_eq}
use Rattle.universe.specs.Universe.{most_axes, coefficient_limit}
use Rattle.bintree.specs.declared.Colour.TheVariants.{White, Black}
use Rattle.csg.specs.Surfaces.{Surfaces, Surface, named}
use Rattle.csg.specs.Halfspace.{Mark}
use Rattle.csg.specs.Ball.{ball_at}
use Rattle.csg.specs.Tree.{Plain}
use Rattle.convert.specs.Codes.{bits_of, ball_code_at}
use Rattle.convert.specs.Small.{SmallCoefficient, BallReady}
use Rattle.pruned.specs.Left.{Left, settled, still, left_by}
use Rattle.pruned.specs.Nodes.{Node, join_plain, join_left, all_postfix, node_code, is_join, is_meet, least_of, greatest_of, number_at, Holds, OneOrTwo}
use Rattle.pruned.specs.Nodes.{one, two, first_ball_side, moved_least, moved_greatest, extreme_limit, SmallExtreme, Stepping, marks_of, left_bits, all_mark_by}
use Rattle.pruned.specs.Nodes.{CodeAt, most_shapes}
use Rattle.pruned.specs.Pair.{next_places, pair_of, is_black, turned_pair, joined_pair, whole_pair, PairStep, pair_by, PairLeaf, leaf_pair, PairTrees, trees_pair}
use Rattle.pruned.proofs.Moving.{held, extreme_near, rise_is, fall_is}
use Rattle.pruned.proofs.Leaves.{turned_black, values_small, white_told, black_told, row_in, moved_asks, centre_black, ball_asks, ball_black}
use Rattle.pruned.proofs.Nexts.{LeafNext, leaf_next, JoinNext, join_next, code_next, all_read}
use Rattle.pruned.proofs.Pruning.{bits_join, left_join, one_mark, two_mark}
use Rattle.pruned.proofs.Reading.{Reads, join_code_lem, last_first, reads_all}
use Rattle.pruned.proofs.Stacks.{stack_of, length_stack, stack_push, stack_two, stack_joined}

-- ---- digits
pub digits_turned : (turned a b : Bool) → turned_pair turned (pair_of a b) ≡ pair_of (turned_black turned a) (turned_black turned b)
digits_turned true true true = refl
digits_turned true true false = refl
digits_turned true false true = refl
digits_turned true false false = refl
digits_turned false a b = refl

abbrev joined_black : Bool → Bool → Bool → Bool
joined_black true a b = cond a b false
joined_black false a b = cond a true b

digits_joined : (meet a b c d : Bool) → joined_pair meet (pair_of a b) (pair_of c d) ≡ pair_of (joined_black meet a c) (joined_black meet b d)
digits_joined true true true true true = refl
digits_joined true true true true false = refl
digits_joined true true true false true = refl
digits_joined true true true false false = refl
digits_joined true true false true true = refl
digits_joined true true false true false = refl
digits_joined true true false false true = refl
digits_joined true true false false false = refl
digits_joined true false true true true = refl
digits_joined true false true true false = refl
digits_joined true false true false true = refl
digits_joined true false true false false = refl
digits_joined true false false true true = refl
digits_joined true false false true false = refl
digits_joined true false false false true = refl
digits_joined true false false false false = refl
digits_joined false true true true true = refl
digits_joined false true true true false = refl
digits_joined false true true false true = refl
digits_joined false true true false false = refl
digits_joined false true false true true = refl
digits_joined false true false true false = refl
digits_joined false true false false true = refl
digits_joined false true false false false = refl
digits_joined false false true true true = refl
digits_joined false false true true false = refl
digits_joined false false true false true = refl
digits_joined false false true false false = refl
digits_joined false false false true true = refl
digits_joined false false false true false = refl
digits_joined false false false false true = refl
digits_joined false false false false false = refl

black_joined : (meet : Bool) (x y : Left) → is_black (left_bits (join_left meet x y)) ≡ joined_black meet (is_black (left_bits x)) (is_black (left_bits y))
black_joined true (settled White) (settled White) = refl
black_joined true (settled White) (settled Black) = refl
black_joined true (settled White) (still q) = refl
black_joined true (settled Black) (settled White) = refl
black_joined true (settled Black) (settled Black) = refl
black_joined true (settled Black) (still q) = refl
black_joined true (still p) (settled White) = refl
black_joined true (still p) (settled Black) = refl
black_joined true (still p) (still q) = refl
black_joined false (settled White) (settled White) = refl
black_joined false (settled White) (settled Black) = refl
black_joined false (settled White) (still q) = refl
black_joined false (settled Black) (settled White) = refl
black_joined false (settled Black) (settled Black) = refl
black_joined false (settled Black) (still q) = refl
black_joined false (still p) (settled White) = refl
black_joined false (still p) (settled Black) = refl
black_joined false (still p) (still q) = refl

-- ---- a halfspace by its values
low_sum : (a x y : ℤ) → moved_least false a 1 x +ℤ moved_greatest false a 1 y ≡ (x +ℤ y) -ℤ a
low_sum a x y =
    is_eq (is_add (is_sub (is_self x) (fall_is a 1)) (is_sub (is_self y) (rise_is a 1))) (is_sub (is_add (is_self x) (is_self y)) (is_self a)) (omega arith)

high_sum : (a x y : ℤ) → moved_least true a 1 x +ℤ moved_greatest true a 1 y ≡ (x +ℤ y) +ℤ a
high_sum a x y =
    is_eq (is_add (is_add (is_self x) (rise_is a 1)) (is_add (is_self y) (fall_is a 1))) (is_add (is_add (is_self x) (is_self y)) (is_self a)) (omega arith)

module _ {a x y : ℤ} (sa : SmallCoefficient a) (sx : SmallExtreme x) (sy : SmallExtreme y) where
  coefficient_near : Near (held a) a coefficient_limit
  coefficient_near = near (record { most = sa.most }) tt

  sum_near : Near (held x +ℤ held y) (x +ℤ y) (extreme_limit + extreme_limit)
  sum_near = near_add {x = x} {y = y} (extreme_near sx) (extreme_near sy)

  sum_back : Near (held (held x +ℤ held y)) (x +ℤ y) (extreme_limit + extreme_limit)
  sum_back = near_back {x = x +ℤ y} sum_near tt

  less_near : Near (held (held x +ℤ held y) -ℤ held a) ((x +ℤ y) -ℤ a) (extreme_limit + extreme_limit + coefficient_limit)
  less_near = near_sub {x = x +ℤ y} {y = a} sum_back coefficient_near

  more_near : Near (held (held x +ℤ held y) +ℤ held a) ((x +ℤ y) +ℤ a) (extreme_limit + extreme_limit + coefficient_limit)
  more_near = near_add {x = x +ℤ y} {y = a} sum_back coefficient_near

  pub row_pair : pair_of (le_z (pos 0) (held (held (held x +ℤ held y) -ℤ held a))) (le_z (pos 0) (held (held (held x +ℤ held y) +ℤ held a)))
      ≡ pair_of (le_z (pos 0) ((x +ℤ y) -ℤ a)) (le_z (pos 0) ((x +ℤ y) +ℤ a))
  row_pair = rw ((near_back {x = (x +ℤ y) -ℤ a} less_near tt).same, (near_back {x = (x +ℤ y) +ℤ a} more_near tt).same)

-- ---- a ball: the next places are copied one by one, with one of them moved
module _ {places i : ℕ} {balls : List ℤ} {low : List ℕ} (ready : BallReady places balls i low) (long : length low ≡ most_axes) (axis : ℕ) where
  abbrev copied : List ℕ
  copied = get_or low 0 0 ∷ get_or low 1 0 ∷ get_or low 2 0 ∷ get_or low 3 0 ∷ []

-- ---- a leaf's node
module _ {surfaces : Surfaces} {axes : ℕ} {low : List ℕ} {axis code : ℕ} {x y : ℤ} (job : PairLeaf surfaces axes low axis code x y) where
  abbrev s₁ : Stepping surfaces axes low job.step.side axis 1 false true
  s₁ = job.step.below

  abbrev s₂ : Stepping surfaces axes job.step.places job.step.side axis 1 true true
  s₂ = job.step.above

  x_is : x ≡ least_of surfaces s₂.parent job.leaf
  x_is = rw job.step.one_parent job.least_is

  y_is : y ≡ greatest_of surfaces s₂.parent job.leaf
  y_is = rw job.step.one_parent job.greatest_is

  told_pair : {a b : Bool} → is_black (left_bits (left_by (marks_of s₁) job.tree)) ≡ a → is_black (left_bits (left_by (marks_of s₂) job.tree)) ≡ b →
      pair_of a b ≡ leaf_pair job
  told_pair p q = sym (ap₂ pair_of p q)

  pub white_pair : code ≡ 0 → 0 ≡ leaf_pair job
  white_pair e =
      told_pair {a = false} {b = false}
      (sym (ap is_black (white_told s₁ job.tree job.leaf job.stands job.code_is job.least_is job.greatest_is e).0))
      (sym (ap is_black (white_told s₂ job.tree job.leaf job.stands job.code_is x_is y_is e).0))

  pub black_pair : code < 512 → (code ≡ 0 → ⊥) → 3 ≡ leaf_pair job
  black_pair h z =
      told_pair {a = true} {b = true}
      (sym (ap is_black (black_told s₁ job.tree job.leaf job.stands job.code_is job.least_is job.greatest_is h z).0))
      (sym (ap is_black (black_told s₂ job.tree job.leaf job.stands job.code_is x_is y_is h z).0))

  -- a halfspace
  module _ (from : 512 ≤ code) (upto : code < first_ball_side) where
    abbrev coefficient : ℤ
    coefficient = held (get_or surfaces.rows (5 * ((code - 512) / 2) + 1 + axis) (pos 0))

    pub pair_row_in : 5 * ((code - 512) / 2) + 1 + axis < length surfaces.rows
    pair_row_in = row_in s₁ job.tree job.leaf job.stands job.code_is job.least_is job.greatest_is from upto

    pub pair_row_asks : SmallCoefficient coefficient × (SmallExtreme (held x) × SmallExtreme (held y))
    pair_row_asks =
        let a = moved_asks s₁ job.tree job.leaf job.stands job.code_is job.least_is job.greatest_is from upto in
        (a.0, a.1.1)

    pub row_leaf_pair : {pair r : ℕ} →
        pair ≡ pair_of (le_z (pos 0) ((held x +ℤ held y) -ℤ coefficient)) (le_z (pos 0) ((held x +ℤ held y) +ℤ coefficient)) →
        r ≡ turned_pair (eqb (code % 2) 1) pair → r ≡ leaf_pair job
    row_leaf_pair {pair} {r} e f =
        let t : Bool = eqb (code % 2) 1 in
        let p = centre_black s₁ job.tree job.leaf job.stands job.code_is job.least_is job.greatest_is from upto refl refl refl in
        let q = centre_black s₂ job.tree job.leaf job.stands job.code_is x_is y_is from upto refl refl refl in
        f ∙ ap (turned_pair t) e
        ∙ digits_turned t (le_z (pos 0) ((held x +ℤ held y) -ℤ coefficient)) (le_z (pos 0) ((held x +ℤ held y) +ℤ coefficient))
        ∙ told_pair
        (p ∙ ap (λ (z : ℤ). turned_black t (le_z (pos 0) z)) (low_sum coefficient (held x) (held y)))
        (q ∙ ap (λ (z : ℤ). turned_black t (le_z (pos 0) z)) (high_sum coefficient (held x) (held y)))

  -- a ball
  module _ (from : first_ball_side ≤ code) where
    abbrev index : ℕ
    index = (code - first_ball_side) / 2

    pub pair_ball_asks : BallReady (axes - 1) surfaces.balls index low
        × (BallReady (axes - 1) surfaces.balls index (next_places low axis) × ((length low ≡ most_axes) × (axis < most_axes)))
    pair_ball_asks = (
      (ball_asks s₁ job.tree job.leaf job.stands job.code_is job.least_is job.greatest_is from).1.0,
      (
        rw job.step.next at (ball_asks s₂ job.tree job.leaf job.stands job.code_is x_is y_is from).1.0,
        (s₁.standing.low_places_lem, s₁.within),
      ),
    )

    abbrev ball_pair : ℕ
    ball_pair = pair_of (is_black (ball_code_at (axes - 1) (ball_at surfaces.balls index) low))
        (is_black (ball_code_at (axes - 1) (ball_at surfaces.balls index) (next_places low axis)))

    pub ball_leaf_pair : {pair r : ℕ} →
        pair ≡ ball_pair → r ≡ turned_pair (eqb (code % 2) 1) pair → r ≡ leaf_pair job
    ball_leaf_pair {pair} {r} e f =
        let t : Bool = eqb (code % 2) 1 in
        f ∙ ap (turned_pair t) e
        ∙ digits_turned t (is_black (ball_code_at (axes - 1) (ball_at surfaces.balls index) low))
        (is_black (ball_code_at (axes - 1) (ball_at surfaces.balls index) (next_places low axis)))
        ∙ told_pair
        (ball_black s₁ job.tree job.leaf job.stands job.code_is job.least_is job.greatest_is from refl)
        (ball_black s₂ job.tree job.leaf job.stands job.code_is x_is y_is from refl
        ∙ ap (λ (l : List ℕ). turned_black t (is_black (ball_code_at (axes - 1) (ball_at surfaces.balls index) l))) job.step.next)

-- ---- the trees: the shapes pending as their digits
module _ {surfaces : Surfaces} {axes : ℕ} {low : List ℕ} {axis : ℕ} (step : PairStep surfaces axes low axis) where
  abbrev pairs_of : List Plain → List ℕ
  pairs_of [] = []
  pairs_of (p ∷ ps) = pair_by step p ∷ pairs_of ps

  length_pairs : (ps : List Plain) → length (pairs_of ps) ≡ length ps
  length_pairs [] = refl
  length_pairs (p ∷ ps) = ap suc (length_pairs ps)

  abbrev low_black : Plain → Bool
  low_black p = is_black (left_bits (left_by (marks_of step.below) p))

  abbrev high_black : Plain → Bool
  high_black p = is_black (left_bits (left_by (marks_of step.above) p))

  plain_joined : (meet : Bool) (p q : Plain) → joined_pair meet (pair_by step p) (pair_by step q) ≡ pair_by step (join_plain meet p q)
  plain_joined meet p q =
      digits_joined meet (low_black p) (high_black p) (low_black q) (high_black q)
      ∙ sym (ap₂ pair_of
      (ap (λ (x : Left). is_black (left_bits x)) (left_join (marks_of step.below) meet p q) ∙ black_joined meet _ _)
      (ap (λ (x : Left). is_black (left_bits x)) (left_join (marks_of step.above) meet p q) ∙ black_joined meet _ _))

  one_pair : (p : Plain) → pair_by step p
      ≡ pair_of (is_black (bits_of (all_mark_by (marks_of step.below) (p ∷ [])))) (is_black (bits_of (all_mark_by (marks_of step.above) (p ∷ []))))
  one_pair p = ap₂ pair_of (ap is_black (one_mark (marks_of step.below) p)) (ap is_black (one_mark (marks_of step.above) p))

  two_black : (marks : Bool → Surface → Mark) (p q : Plain) →
      joined_black true (is_black (left_bits (left_by marks p))) (is_black (left_bits (left_by marks q))) ≡ is_black (bits_of (all_mark_by marks (p ∷ q ∷ [])))
  two_black marks p q =
      sym (black_joined true (left_by marks p) (left_by marks q)) ∙ ap is_black (sym (bits_join true (left_by marks p) (left_by marks q)) ∙ two_mark marks p q)

  two_pair : (p q : Plain) → joined_pair true (pair_by step p) (pair_by step q)
      ≡ pair_of (is_black (bits_of (all_mark_by (marks_of step.below) (p ∷ q ∷ [])))) (is_black (bits_of (all_mark_by (marks_of step.above) (p ∷ q ∷ []))))
  two_pair p q = digits_joined true (low_black p) (high_black p) (low_black q) (high_black q)
      ∙ ap₂ pair_of (two_black (marks_of step.below) p q) (two_black (marks_of step.above) p q)

-- ---- the pass over the nodes
module _ {surfaces : Surfaces} {axes : ℕ} {low : List ℕ} {axis : ℕ} {work : List ℤ} {from count : ℕ} where
  pub record Passing (job : PairTrees surfaces axes low axis work from count) (pairs : List ℕ) (pending i : ℕ) : Type 0 where
    pub shapes : List Plain
    pub rest : List Node
    pub reads : Reads (named surfaces) rest shapes (last_first job.trees)
    pub coming : Holds surfaces job.step.below.parent work i rest
    pub onward : i + length rest ≡ from + count
    pub few : pending ≤ most_shapes
    pub long : length pairs ≡ most_shapes
    pub pairs_are : stack_of pairs pending ≡ pairs_of job.step shapes

  module _ (job : PairTrees surfaces axes low axis work from count) where
    pub passing_start : {pairs : List ℕ} → length pairs ≡ most_shapes → Passing job pairs 0 from
    passing_start l =
        record {
          shapes = [];
          rest = all_postfix job.trees;
          reads = reads_all job.few;
          coming = job.holds;
          onward = omega (arith, job.counted);
          few = omega arith;
          long = l;
          pairs_are = refl;
        }

    module _ {pairs : List ℕ} {pending i : ℕ} (g : Passing job pairs pending i) where
      count_is : pending ≡ length g.shapes
      count_is = sym (length_stack pairs pending) ∙ ap length g.pairs_are ∙ length_pairs job.step g.shapes

      module _ (h : i < from + count) where
        pub pair_read_in : 3 * i + 2 < length work
        pair_read_in = omega (arith, job.inside)

        pub pair_code_ready : CodeAt work i
        pair_code_ready = code_next g.reads g.coming g.onward h job.step.below.few_rows job.step.below.few_balls pair_read_in

        module _ {code : ℕ} (read : code ≡ nat_abs (number_at work (3 * i))) where
          -- a leaf
          module _ (o : is_join code ≡ false) where
            abbrev next : LeafNext surfaces job.step.below.parent work i (from + count) g.shapes (last_first job.trees)
            next = leaf_next g.reads g.coming g.onward h read o

            code_is : code ≡ node_code next.leaf
            code_is = read ∙ ap nat_abs next.at.code

            values : SmallExtreme (number_at work (3 * i + 1)) × SmallExtreme (number_at work (3 * i + 2))
            values = values_small job.step.below {code = code} next.tree next.leaf next.stands code_is next.at.low next.at.high

            pub pair_room : pending < most_shapes
            pair_room = omega (arith, count_is, next.room)

            pub pair_leaf : PairLeaf surfaces axes low axis code (held (number_at work (3 * i + 1))) (held (number_at work (3 * i + 2)))
            pair_leaf =
                record {
                  step = job.step;
                  tree = next.tree;
                  leaf = next.leaf;
                  stands = next.stands;
                  code_is = code_is;
                  least_is = (extreme_near values.0).same ∙ next.at.low;
                  greatest_is = (extreme_near values.1).same ∙ next.at.high;
                }

            pub passing_leaf : {pair : ℕ} → pair ≡ leaf_pair pair_leaf → Passing job (set pairs pending pair) (pending + 1) (i + 1)
            unfolding pair_leaf
            passing_leaf {pair} e =
                rw (add-one i) (record {
                  shapes = next.tree ∷ g.shapes;
                  rest = next.later;
                  reads = next.reads;
                  coming = next.coming;
                  onward = next.onward;
                  few = omega (arith, pair_room);
                  long = length-set pairs pending pair ∙ g.long;
                  pairs_are = stack_push pairs pending pair (omega (arith, g.long, pair_room)) ∙ ap₂ ◌∷◌ e g.pairs_are;
                })

          -- an operator
          module _ (o : is_join code ≡ true) where
            abbrev next_join_lem : JoinNext surfaces job.step.below.parent work i (from + count) g.shapes (last_first job.trees)
            next_join_lem = join_next g.reads g.coming g.onward h read o

            meet_is : is_meet code ≡ next_join_lem.meet
            meet_is = ap is_meet read ∙ ap (λ (z : ℤ). is_meet (nat_abs z)) next_join_lem.at.code ∙ (join_code_lem next_join_lem.meet).1

            pub pair_two : 2 ≤ pending
            pair_two = omega (arith, count_is, ap length next_join_lem.shapes_are)

            last_two : get_or pairs (pending - 1) 0 ∷ get_or pairs (pending - 2) 0 ∷ stack_of pairs (pending - 2)
                ≡ pair_by job.step next_join_lem.second ∷ pair_by job.step next_join_lem.first ∷ pairs_of job.step next_join_lem.under
            last_two = sym (stack_two pairs pending pair_two) ∙ g.pairs_are ∙ ap (pairs_of job.step) next_join_lem.shapes_are

            first_is : get_or pairs (pending - 2) 0 ≡ pair_by job.step next_join_lem.first
            first_is = let e = last_two in cc

            second_is : get_or pairs (pending - 1) 0 ≡ pair_by job.step next_join_lem.second
            second_is = let e = last_two in cc

            under_is : stack_of pairs (pending - 2) ≡ pairs_of job.step next_join_lem.under
            under_is = let e = last_two in cc

            pub passing_join : {pair : ℕ} → pair ≡ joined_pair (is_meet code) (get_or pairs (pending - 2) 0) (get_or pairs (pending - 1) 0) →
                Passing job (set pairs (pending - 2) pair) (pending - 1) (i + 1)
            passing_join {pair} e =
                let is : pair ≡ pair_by job.step (join_plain next_join_lem.meet next_join_lem.first next_join_lem.second) =
                e ∙ rw (meet_is, first_is, second_is) (plain_joined job.step next_join_lem.meet next_join_lem.first next_join_lem.second) in
                rw (add-one i) (record {
                  shapes = join_plain next_join_lem.meet next_join_lem.first next_join_lem.second ∷ next_join_lem.under;
                  rest = next_join_lem.later;
                  reads = next_join_lem.reads;
                  coming = next_join_lem.coming;
                  onward = next_join_lem.onward;
                  few = omega (arith, g.few);
                  long = length-set pairs (pending - 2) pair ∙ g.long;
                  pairs_are = stack_joined pairs pending pair pair_two (omega (arith, g.few, g.long)) ∙ ap₂ ◌∷◌ is under_is;
                })

      -- the end
      pub passing_end : from + count ≤ i → {pair : ℕ} → pair ≡ whole_pair pairs pending → pair ≡ trees_pair job
      passing_end h {pair} m = by job.few (all_read g.reads g.onward h)
        where
          by : {ps : List Plain} → OneOrTwo (named surfaces) ps → g.shapes ≡ last_first ps →
              pair ≡ pair_of (is_black (bits_of (all_mark_by (marks_of job.step.below) ps))) (is_black (bits_of (all_mark_by (marks_of job.step.above) ps)))
          by (one {p} c) e =
              let n : pending ≡ 1 = count_is ∙ ap length e in
              let s : stack_of pairs 1 ≡ pair_by job.step p ∷ [] = ap (stack_of pairs) (sym n) ∙ g.pairs_are ∙ ap (pairs_of job.step) e in
              let f : get_or pairs 0 0 ≡ pair_by job.step p = cc in
              m ∙ rw (n, f) (one_pair job.step p)
          by (two {p} {q} c d) e =
              let n : pending ≡ 2 = count_is ∙ ap length e in
              let s : stack_of pairs 2 ≡ pair_by job.step q ∷ pair_by job.step p ∷ [] =
              ap (stack_of pairs) (sym n) ∙ g.pairs_are ∙ ap (pairs_of job.step) e in
              let f : get_or pairs 0 0 ≡ pair_by job.step p = cc in
              let k : get_or pairs 1 0 ≡ pair_by job.step q = cc in
              m ∙ rw (n, f, k) (two_pair job.step p q)
