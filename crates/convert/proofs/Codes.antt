-- Codes and marks. Joining the codes over two blocks is joining the marks over each, which antt computes over all the marks; so a tree's codes are those of its
-- marks, for any marks of the surfaces: those over blocks, or the colours at the centres of voxels.
use mathlib.Core.Path.{◌≡◌, refl, ap, ap₂, ◌∙◌}
use mathlib.Core.Bool.{Bool, true, false, cond, ◌&&◌}
use mathlib.Core.List.{List}
use Prim.Native.Nat.{ℕ, ◌+◌, ◌*◌, ◌^◌, ◌≤◌, ◌<◌}
use native.Mathlib.Omega.{arith}
use lib.Bits.{bit_and, bit_or, and_block, or_block, and_lt, or_lt}
use lib.Dec.{T, lit≤, lit<, eqb, eqb→eq}
use lib.IntN.{pos, ◌+ℤ◌}
use lib.Signed.{le_z}
use Rattle.universe.specs.declared.Universe.{Universe}
use Rattle.universe.specs.declared.Block.{Block}
use Rattle.bintree.specs.declared.Colour.TheVariants.{White, Black}
use Rattle.csg.specs.Halfspace.{Halfspace, Mark, decided, undecided, least, greatest, mark_over, centre_value, colour_at_centre}
use Rattle.csg.specs.Surfaces.{Surface}
use Rattle.csg.specs.Tree.{Leaf, Operator, union, intersection, minus, Tree, leaf, node, plain}
use Rattle.csg.specs.Words.{fold}
use Rattle.csg.specs.Marks.{union_mark, intersection_mark, opposite_mark}
use Rattle.csg.proofs.Marks.{mark_by, reversal_by}
use Rattle.convert.specs.Codes.{white_bit, bits_of, paired, white_mask, centre_unit, voxel_code}
use Rattle.convert.specs.Codes.{tested_code, value_code, mixed, opposite_code, join_code}

-- the mark of two shapes joined
abbrev joined : Operator → Mark → Mark → Mark
joined union a b = union_mark a b
joined intersection a b = intersection_mark a b
joined minus a b = intersection_mark a (opposite_mark b)

-- a test of all marks
abbrev of_marks : (Mark → Bool) → Bool
of_marks f = f (decided Black) && f (decided White) && f undecided

split : (a b : Bool) → T (a && b) → T a × T b
split true b t = (tt, t)
split false b t = absurd t

at_mark : (f : Mark → Bool) → T (of_marks f) → (m : Mark) → T (f m)
at_mark f t (decided Black) = (split (f (decided Black)) (f (decided White)) (split (f (decided Black) && f (decided White)) (f undecided) t).0).0
at_mark f t (decided White) = (split (f (decided Black)) (f (decided White)) (split (f (decided Black) && f (decided White)) (f undecided) t).0).1
at_mark f t undecided = (split (f (decided Black) && f (decided White)) (f undecided) t).1

-- the marks of both shapes over one block, a and b, and over the other, c and d
abbrev test : Operator → Mark → Mark → Mark → Mark → Bool
test o a b c d = eqb (join_code o (paired (bits_of a) (bits_of c)) (paired (bits_of b) (bits_of d))) (paired (bits_of (joined o a b)) (bits_of (joined o c d)))

passed : (o : Operator) → T (of_marks (λ a. of_marks (λ b. of_marks (λ c. of_marks (λ d. test o a b c d)))))
unfolding join_code union_mark intersection_mark
passed union = tt
passed intersection = tt
passed minus = tt

pub code_join : (o : Operator) (a b c d : Mark) →
    join_code o (paired (bits_of a) (bits_of c)) (paired (bits_of b) (bits_of d)) ≡ paired (bits_of (joined o a b)) (bits_of (joined o c d))
code_join o a b c d =
    let p = at_mark (λ x. of_marks (λ y. of_marks (λ z. of_marks (λ w. test o x y z w)))) (passed o) a in
    let q = at_mark (λ y. of_marks (λ z. of_marks (λ w. test o a y z w))) p b in
    eqb→eq _ _ (at_mark (λ w. test o a b c w) (at_mark (λ z. of_marks (λ w. test o a b z w)) q c) d)

-- ---- at level L the colours' codes stand above the marks': joining joins both, since the masks are the same in both
-- codes of four bits, one above the other, are mixed each by itself
mixed_lanes : (m a b c d : ℕ) → m < 2 ^ 4 → b < 2 ^ 4 → d < 2 ^ 4 →
    mixed (m * 2 ^ 4 + m) (a * 2 ^ 4 + b) (c * 2 ^ 4 + d) ≡ mixed m a c * 2 ^ 4 + mixed m b d
mixed_lanes m a b c d hm hb hd =
    ap₂ bit_and
    (ap₂ bit_or {x = a * 2 ^ 4 + b} refl (and_block 4 c m d m hd hm) ∙ or_block 4 a (bit_and c m) b (bit_and d m) hb (and_lt 4 d m hd hm))
    (or_block 4 c m d m hd hm)
    ∙ and_block 4 (bit_or a (bit_and c m)) (bit_or c m) (bit_or b (bit_and d m)) (bit_or d m) (or_lt 4 b (bit_and d m) hb (and_lt 4 d m hd hm)) (or_lt 4 d m hd hm)

-- two marks' codes, and those of two more above them
abbrev pub pair_of : Mark → Mark → ℕ
pair_of m n = paired (bits_of m) (bits_of n)

abbrev pub four_of : Mark → Mark → Mark → Mark → ℕ
four_of m n x y = pair_of x y * 2 ^ 4 + pair_of m n

pair_few : (m n : Mark) → pair_of m n < 2 ^ 4
pair_few (decided Black) (decided Black) = lit< tt
pair_few (decided Black) (decided White) = lit< tt
pair_few (decided Black) undecided = lit< tt
pair_few (decided White) (decided Black) = lit< tt
pair_few (decided White) (decided White) = lit< tt
pair_few (decided White) undecided = lit< tt
pair_few undecided (decided Black) = lit< tt
pair_few undecided (decided White) = lit< tt
pair_few undecided undecided = lit< tt

-- one lane alone
mixed_alone : (m b d : ℕ) → m < 2 ^ 4 → b < 2 ^ 4 → d < 2 ^ 4 → mixed m 0 0 ≡ 0 → mixed (m * 2 ^ 4 + m) b d ≡ mixed m b d
mixed_alone m b d hm hb hd z =
    let e = mixed_lanes m 0 b 0 d hm hb hd in
    let p : 0 * 2 ^ 4 + b ≡ b = omega arith in
    let q : 0 * 2 ^ 4 + d ≡ d = omega arith in
    rw (p, q) at e ∙ omega (arith, z)

-- the opposite of both
opposite_test : Mark → Mark → Mark → Mark → Bool
opposite_test m n x y = eqb (opposite_code (four_of m n x y)) (four_of (opposite_mark m) (opposite_mark n) (opposite_mark x) (opposite_mark y))

opposite_passed : T (of_marks (λ m. of_marks (λ n. of_marks (λ x. of_marks (λ y. opposite_test m n x y)))))
unfolding opposite_test
opposite_passed = tt

opposite_four : (m n x y : Mark) → opposite_code (four_of m n x y) ≡ four_of (opposite_mark m) (opposite_mark n) (opposite_mark x) (opposite_mark y)
unfolding opposite_test
opposite_four m n x y =
    let p = at_mark (λ a. of_marks (λ b. of_marks (λ c. of_marks (λ d. opposite_test a b c d)))) opposite_passed m in
    let q = at_mark (λ b. of_marks (λ c. of_marks (λ d. opposite_test m b c d))) p n in
    eqb→eq _ _ (at_mark (λ d. opposite_test m n x d) (at_mark (λ c. of_marks (λ d. opposite_test m n c d)) q x) y)

module _ (m : ℕ) (few : m < 2 ^ 4) (none : mixed m 0 0 ≡ 0) (a b c d x y z w : Mark) where
  lanes : mixed (m * 2 ^ 4 + m) (four_of a c x z) (four_of b d y w)
      ≡ mixed (m * 2 ^ 4 + m) (pair_of x z) (pair_of y w) * 2 ^ 4 + mixed (m * 2 ^ 4 + m) (pair_of a c) (pair_of b d)
  lanes =
      mixed_lanes m (pair_of x z) (pair_of a c) (pair_of y w) (pair_of b d) few (pair_few a c) (pair_few b d)
      ∙ omega (
        arith,
        mixed_alone m (pair_of x z) (pair_of y w) few (pair_few x z) (pair_few y w) none,
        mixed_alone m (pair_of a c) (pair_of b d) few (pair_few a c) (pair_few b d) none,
      )

four_meet : (a b c d x y z w : Mark) → join_code intersection (four_of a c x z) (four_of b d y w)
    ≡ four_of (joined intersection a b) (joined intersection c d) (joined intersection x y) (joined intersection z w)
unfolding join_code
four_meet a b c d x y z w =
    lanes 10 (lit< tt) refl a b c d x y z w ∙ ap₂ (λ (p q : ℕ). p * 2 ^ 4 + q) (code_join intersection x y z w) (code_join intersection a b c d)

pub four_join : (o : Operator) (a b c d x y z w : Mark) →
    join_code o (four_of a c x z) (four_of b d y w) ≡ four_of (joined o a b) (joined o c d) (joined o x y) (joined o z w)
unfolding join_code
four_join union a b c d x y z w =
    lanes 5 (lit< tt) refl a b c d x y z w ∙ ap₂ (λ (p q : ℕ). p * 2 ^ 4 + q) (code_join union x y z w) (code_join union a b c d)
four_join intersection a b c d x y z w = four_meet a b c d x y z w
four_join minus a b c d x y z w =
    ap (mixed white_mask (four_of a c x z)) (opposite_four b d y w)
    ∙ four_meet a (opposite_mark b) c (opposite_mark d) x (opposite_mark y) z (opposite_mark w)

module _ (of_leaf : Leaf → ℕ) (f g f' g' : Surface → Mark)
    (leaves : (l : Leaf) → of_leaf l
    ≡ four_of (mark_by f (plain (leaf l))) (mark_by g (plain (leaf l))) (mark_by f' (plain (leaf l))) (mark_by g' (plain (leaf l)))) where
  pub code_voxels : (t : Tree) → fold of_leaf join_code t ≡ four_of (mark_by f (plain t)) (mark_by g (plain t)) (mark_by f' (plain t)) (mark_by g' (plain t))
  unfolding fold mark_by plain
  code_voxels (leaf l) = leaves l
  code_voxels (node union s t) = ap₂ (join_code union) (code_voxels s) (code_voxels t) ∙ four_join union _ _ _ _ _ _ _ _
  code_voxels (node intersection s t) = ap₂ (join_code intersection) (code_voxels s) (code_voxels t) ∙ four_join intersection _ _ _ _ _ _ _ _
  code_voxels (node minus s t) =
      rw (reversal_by f t, reversal_by g t, reversal_by f' t, reversal_by g' t)
      (ap₂ (join_code minus) (code_voxels s) (code_voxels t)
      ∙ four_join minus (mark_by f (plain s)) (mark_by f (plain t)) (mark_by g (plain s)) (mark_by g (plain t))
      (mark_by f' (plain s)) (mark_by f' (plain t)) (mark_by g' (plain s)) (mark_by g' (plain t)))

-- where each leaf's codes are those of its marks, the tree's are those of the tree's marks
module _ (of_leaf : Leaf → ℕ) (f g : Surface → Mark)
    (leaves : (l : Leaf) → of_leaf l ≡ paired (bits_of (mark_by f (plain (leaf l)))) (bits_of (mark_by g (plain (leaf l))))) where
  pub code_tree : (t : Tree) → fold of_leaf join_code t ≡ paired (bits_of (mark_by f (plain t))) (bits_of (mark_by g (plain t)))
  unfolding fold mark_by plain
  code_tree (leaf l) = leaves l
  code_tree (node union s t) = ap₂ (join_code union) (code_tree s) (code_tree t) ∙ code_join union _ _ _ _
  code_tree (node intersection s t) = ap₂ (join_code intersection) (code_tree s) (code_tree t) ∙ code_join intersection _ _ _ _
  code_tree (node minus s t) =
      rw (reversal_by f t, reversal_by g t)
      (ap₂ (join_code minus) (code_tree s) (code_tree t)
      ∙ code_join minus (mark_by f (plain s)) (mark_by f (plain t)) (mark_by g (plain s)) (mark_by g (plain t)))

-- ---- a row's code is that of its mark over a block, and at the centre of a voxel, by both values together, that of its colour
pub code_of_marks : (h : Halfspace) (b : Block) → value_code false (least h b) (greatest h b) ≡ bits_of (mark_over h b)
unfolding mark_over
code_of_marks h b = by (le_z (pos 0) (least h b)) (le_z (greatest h b) (pos 0))
  where
    by : (p q : Bool) → tested_code p q ≡ bits_of (cond p (decided Black) (cond q (decided White) undecided))
    by true q = refl
    by false true = refl
    by false false = refl

-- both parts of what is decided at a voxel

pub code_of_colours : (h : Halfspace) (u : Universe) (v : List ℕ) (b : Block) → least h b +ℤ greatest h b ≡ centre_value u h v →
    value_code true (least h b) (greatest h b) ≡ bits_of (mark_over h b) + centre_unit * bits_of (decided (colour_at_centre u h v))
unfolding colour_at_centre
code_of_colours h u v b e =
    ap₂ voxel_code (code_of_marks h b) (rw e (by (le_z (pos 0) (centre_value u h v))))
  where
    by : (p : Bool) → tested_code p true ≡ bits_of (decided (cond p Black White))
    by true = refl
    by false = refl

-- ---- no code is more than WHITE's
pub tested_most : (p q : Bool) → tested_code p q ≤ white_bit
tested_most true q = lit≤ tt
tested_most false true = lit≤ tt
tested_most false false = lit≤ tt
