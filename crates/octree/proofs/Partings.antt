-- Octrees and shapes of each other. A part of a merged shape is the merged part, so the octree of a merged shape is the reduced octree of the shape; and an
-- octree's shape, merged, is that of its reduction. From these: import after export is merging, export after import is reduction.
use mathlib.Core.Path.{◌≡◌, refl, sym, ap, ap₂, ◌∙◌}
use Prim.Native.Nat.{ℕ, zero, suc, ◌*◌, ◌+◌, ◌≤◌, suc-le-suc}
use native.Mathlib.Nat.{max-le}
use native.Mathlib.Omega.{arith}
use Rattle.bintree.specs.declared.Colour.{Colour}
use Rattle.bintree.specs.declared.Colour.TheVariants.{White, Black}
use Rattle.bintree.specs.Shape.{Shape, leaf, halved, depth}
use Rattle.bintree.specs.Merging.{join, merged}
use Rattle.bintree.specs.Parts.{colour_of}
use Rattle.bintree.proofs.Shape.{depth_low, depth_high, halved_deep}
use Rattle.bintree.proofs.Merging.{Joined, one, two, joined, join_leaves, merged_merged, merged_depth}
use Rattle.octree.specs.Octree.{Octree, solid, parted, AtMost, solid_most, parted_most, is_solid, are_solid, join_sons, reduce}
use Rattle.octree.specs.Octree.{Reduced}
use Rattle.octree.proofs.Octrees.{Cube, alike, apart, cube, reduced_self}
use Rattle.octree.specs.Parting.{low_part, high_part, cube_of, octree_of, shape_of}

-- ---- the parts of a shape

-- its two parts make it, merged
pub parts_make : (s : Shape) → merged (halved (low_part s) (high_part s)) ≡ merged s
unfolding merged
parts_make (leaf c) = join_leaves c
parts_make (halved a b) = refl

-- the parts of a merged shape are the merged parts
low_joined : {a b j : Shape} → Joined a b j → low_part j ≡ a
low_joined (one c) = refl
low_joined (two f) = refl

high_joined : {a b j : Shape} → Joined a b j → high_part j ≡ b
high_joined (one c) = refl
high_joined (two f) = refl

pub low_merged : (s : Shape) → low_part (merged s) ≡ merged (low_part s)
unfolding merged
low_merged (leaf c) = refl
low_merged (halved a b) = low_joined (joined (merged a) (merged b))

pub high_merged : (s : Shape) → high_part (merged s) ≡ merged (high_part s)
unfolding merged
high_merged (leaf c) = refl
high_merged (halved a b) = high_joined (joined (merged a) (merged b))

-- and go one level less deep
pub low_depth : (s : Shape) (n : ℕ) → depth s ≤ suc n → depth (low_part s) ≤ n
unfolding depth
low_depth (leaf c) n h = omega arith
low_depth (halved a b) n h = depth_low a b n h

pub high_depth : (s : Shape) (n : ℕ) → depth s ≤ suc n → depth (high_part s) ≤ n
unfolding depth
high_depth (leaf c) n h = omega arith
high_depth (halved a b) n h = depth_high a b n h

-- ---- the octree of a shape

pub octree_leaf : (n : ℕ) (c : Colour) → octree_of n (leaf c) ≡ solid c
unfolding octree_of cube_of
octree_leaf zero c = refl
octree_leaf (suc n) c = refl

-- three levels of a depth
module _ (n : ℕ) (a : Shape) (h : depth a ≤ 3 * n + 2) where
  low : depth (low_part a) ≤ suc (3 * n)
  low = low_depth a (suc (3 * n)) (omega arith)

  high : depth (high_part a) ≤ suc (3 * n)
  high = high_depth a (suc (3 * n)) (omega arith)

  pub quarter_0 : depth (low_part (low_part a)) ≤ 3 * n
  quarter_0 = low_depth (low_part a) (3 * n) low

  pub quarter_1 : depth (high_part (low_part a)) ≤ 3 * n
  quarter_1 = high_depth (low_part a) (3 * n) low

  pub quarter_2 : depth (low_part (high_part a)) ≤ 3 * n
  quarter_2 = low_depth (high_part a) (3 * n) high

  pub quarter_3 : depth (high_part (high_part a)) ≤ 3 * n
  quarter_3 = high_depth (high_part a) (3 * n) high

pub low_two : (a b : Shape) (n : ℕ) → depth (halved a b) ≤ 3 * suc n → depth a ≤ 3 * n + 2
low_two a b n h = depth_low a b (3 * n + 2) (omega arith)

pub high_two : (a b : Shape) (n : ℕ) → depth (halved a b) ≤ 3 * suc n → depth b ≤ 3 * n + 2
high_two a b n h = depth_high a b (3 * n + 2) (omega arith)

no_depth : (s : Shape) → depth s ≤ 0 → s ≡ leaf (colour_of s)
no_depth (leaf c) h = refl
no_depth (halved a b) h = absurd (halved_deep a b h)

-- it has no more than n levels
pub octree_most : (n : ℕ) (s : Shape) → AtMost n (octree_of n s)
unfolding octree_of cube_of
octree_most zero s = solid_most
octree_most (suc n) (leaf c) = solid_most
octree_most (suc n) (halved a b) =
    parted_most (octree_most n (low_part (low_part a))) (octree_most n (high_part (low_part a))) (octree_most n (low_part (high_part a)))
    (octree_most n (high_part (high_part a))) (octree_most n (low_part (low_part b))) (octree_most n (high_part (low_part b)))
    (octree_most n (low_part (high_part b))) (octree_most n (high_part (high_part b)))

halves_merged : (x y a b : Shape) → merged x ≡ merged a → merged y ≡ merged b → merged (halved x y) ≡ merged (halved a b)
unfolding merged
halves_merged x y a b e f = ap₂ join e f

-- four quarters make a half, merged
quarters_make : (a : Shape) (p q r s : Shape) → merged p ≡ merged (low_part (low_part a)) → merged q ≡ merged (high_part (low_part a)) →
    merged r ≡ merged (low_part (high_part a)) → merged s ≡ merged (high_part (high_part a)) → merged (halved (halved p q) (halved r s)) ≡ merged a
unfolding merged
quarters_make a p q r s e f g h =
    ap₂ join (ap₂ join e f ∙ parts_make (low_part a)) (ap₂ join g h ∙ parts_make (high_part a)) ∙ parts_make a

-- THEOREM: the shape of a shape's octree is the shape, merged
pub shape_octree : (n : ℕ) (s : Shape) → depth s ≤ 3 * n → merged (shape_of (octree_of n s)) ≡ merged s
unfolding octree_of cube_of shape_of
shape_octree zero s h = ap merged (sym (no_depth s (omega arith)))
shape_octree (suc n) (leaf c) h = refl
shape_octree (suc n) (halved a b) h =
    let l = low_two a b n h in
    let r = high_two a b n h in
    halves_merged
    (halved (halved (shape_of (octree_of n (low_part (low_part a)))) (shape_of (octree_of n (high_part (low_part a)))))
    (halved (shape_of (octree_of n (low_part (high_part a)))) (shape_of (octree_of n (high_part (high_part a))))))
    (halved (halved (shape_of (octree_of n (low_part (low_part b)))) (shape_of (octree_of n (high_part (low_part b)))))
    (halved (shape_of (octree_of n (low_part (high_part b)))) (shape_of (octree_of n (high_part (high_part b))))))
    a b
    (quarters_make a (shape_of (octree_of n (low_part (low_part a)))) (shape_of (octree_of n (high_part (low_part a)))) (shape_of (octree_of n (low_part (high_part a))))
    (shape_of (octree_of n (high_part (high_part a))))
    (shape_octree n (low_part (low_part a)) (quarter_0 n a l)) (shape_octree n (high_part (low_part a)) (quarter_1 n a l))
    (shape_octree n (low_part (high_part a)) (quarter_2 n a l)) (shape_octree n (high_part (high_part a)) (quarter_3 n a l)))
    (quarters_make b (shape_of (octree_of n (low_part (low_part b)))) (shape_of (octree_of n (high_part (low_part b)))) (shape_of (octree_of n (low_part (high_part b))))
    (shape_of (octree_of n (high_part (high_part b))))
    (shape_octree n (low_part (low_part b)) (quarter_0 n b r)) (shape_octree n (high_part (low_part b)) (quarter_1 n b r))
    (shape_octree n (low_part (high_part b)) (quarter_2 n b r)) (shape_octree n (high_part (high_part b)) (quarter_3 n b r)))

-- THEOREM: the octree of an octree's shape is the octree
pub octree_shape : {n : ℕ} {o : Octree} → AtMost n o → octree_of n (shape_of o) ≡ o
unfolding octree_of cube_of shape_of
octree_shape {n} (solid_most {c = c}) = octree_leaf n c
octree_shape (parted_most ma mb mc md me mf mg mh) =
    rw (octree_shape ma, octree_shape mb, octree_shape mc, octree_shape md, octree_shape me, octree_shape mf, octree_shape mg, octree_shape mh)

-- ---- reduction and merging

-- a cube of a merged shape is joined already
octree_solid : (n : ℕ) (s : Shape) (k : Colour) → depth s ≤ 3 * n → octree_of n s ≡ solid k → s ≡ leaf k
unfolding octree_of cube_of
octree_solid zero (leaf c) k h e = let w : c ≡ k = cc in ap leaf w
octree_solid zero (halved a b) k h e = absurd (halved_deep a b (omega arith))
octree_solid (suc n) (leaf c) k h e = let w : c ≡ k = cc in ap leaf w
octree_solid (suc n) (halved a b) k h e = let z : ◌≡◌ {A = ℕ} 0 1 = cc in absurd (omega arith)

cube_apart : {a b c d e f g h j : Octree} → Cube a b c d e f g h j →
    ((k : Colour) → a ≡ solid k → b ≡ solid k → c ≡ solid k → d ≡ solid k → e ≡ solid k → f ≡ solid k → g ≡ solid k → h ≡ solid k → ⊥) →
    j ≡ parted a b c d e f g h
cube_apart (alike k) n = absurd (n k refl refl refl refl refl refl refl refl)
cube_apart (apart x y) n = refl

one_colour : (a : Shape) (k : Colour) → low_part (low_part a) ≡ leaf k → high_part (low_part a) ≡ leaf k → low_part (high_part a) ≡ leaf k →
    high_part (high_part a) ≡ leaf k → merged a ≡ leaf k
unfolding merged
one_colour a k e f g h =
    sym (quarters_make a (leaf k) (leaf k) (leaf k) (leaf k) (ap merged (sym e)) (ap merged (sym f)) (ap merged (sym g)) (ap merged (sym h)))
    ∙ ap₂ join (join_leaves k) (join_leaves k)
    ∙ join_leaves k

leaf_merged : (k : Colour) → merged (leaf k) ≡ leaf k
unfolding merged
leaf_merged k = refl

leaves_merged : (k : Colour) → merged (halved (leaf k) (leaf k)) ≡ leaf k
unfolding merged
leaves_merged k = join_leaves k

merged_deep : (a b : Shape) → depth (join (merged a) (merged b)) ≤ depth (halved a b)
unfolding merged
merged_deep a b = merged_depth (halved a b)

merged_twice : (a b : Shape) → merged (join (merged a) (merged b)) ≡ join (merged a) (merged b)
unfolding merged
merged_twice a b = merged_merged (halved a b)

solids_join : (k : Colour) → join_sons (solid k) (solid k) (solid k) (solid k) (solid k) (solid k) (solid k) (solid k) ≡ solid k
unfolding join_sons are_solid is_solid
solids_join Black = refl
solids_join White = refl

-- the eight parts of a shape
abbrev sons_of : ℕ → Shape → Shape → Octree
sons_of n a b =
    join_sons (octree_of n (low_part (low_part a))) (octree_of n (high_part (low_part a))) (octree_of n (low_part (high_part a))) (octree_of n (high_part (high_part a)))
    (octree_of n (low_part (low_part b))) (octree_of n (high_part (low_part b))) (octree_of n (low_part (high_part b))) (octree_of n (high_part (high_part b)))

merged_sons : (n : ℕ) (t : Shape) → depth t ≤ 3 * suc n → merged t ≡ t → sons_of n (low_part t) (high_part t) ≡ octree_of (suc n) t
unfolding octree_of cube_of
merged_sons n (leaf c) d m = rw (octree_leaf n c) (solids_join c)
merged_sons n (halved a b) d m =
    let l = low_two a b n d in
    let r = high_two a b n d in
    cube_apart (cube (octree_of n (low_part (low_part a))) (octree_of n (high_part (low_part a))) (octree_of n (low_part (high_part a))) (octree_of n
    (high_part (high_part a)))
    (octree_of n (low_part (low_part b))) (octree_of n (high_part (low_part b))) (octree_of n (low_part (high_part b))) (octree_of n (high_part (high_part b))))
    (λ k e₀ e₁ e₂ e₃ e₄ e₅ e₆ e₇.
    let low = one_colour a k (octree_solid n (low_part (low_part a)) k (quarter_0 n a l) e₀) (octree_solid n (high_part (low_part a)) k (quarter_1 n a l) e₁)
    (octree_solid n (low_part (high_part a)) k (quarter_2 n a l) e₂) (octree_solid n (high_part (high_part a)) k (quarter_3 n a l) e₃) in
    let high = one_colour b k (octree_solid n (low_part (low_part b)) k (quarter_0 n b r) e₄) (octree_solid n (high_part (low_part b)) k (quarter_1 n b r) e₅)
    (octree_solid n (low_part (high_part b)) k (quarter_2 n b r) e₆) (octree_solid n (high_part (high_part b)) k (quarter_3 n b r) e₇) in
    never (sym m ∙ halves_merged a b (leaf k) (leaf k) (low ∙ sym (leaf_merged k)) (high ∙ sym (leaf_merged k)) ∙ leaves_merged k))
  where
    never : {k : Colour} → halved a b ≡ leaf k → ⊥
    never e = let z : ◌≡◌ {A = ℕ} 0 1 = cc in omega arith

-- THEOREM: the octree of a merged shape is the reduced octree of the shape
pub reduce_octree : (n : ℕ) (s : Shape) → depth s ≤ 3 * n → reduce (octree_of n s) ≡ octree_of n (merged s)
unfolding octree_of cube_of reduce merged
reduce_octree zero (leaf c) h = refl
reduce_octree zero (halved a b) h = absurd (halved_deep a b (omega arith))
reduce_octree (suc n) (leaf c) h = refl
reduce_octree (suc n) (halved a b) h =
    let l = low_two a b n h in
    let r = high_two a b n h in
    eight
    (reduce_octree n (low_part (low_part a)) (quarter_0 n a l)) (reduce_octree n (high_part (low_part a)) (quarter_1 n a l))
    (reduce_octree n (low_part (high_part a)) (quarter_2 n a l)) (reduce_octree n (high_part (high_part a)) (quarter_3 n a l))
    (reduce_octree n (low_part (low_part b)) (quarter_0 n b r)) (reduce_octree n (high_part (low_part b)) (quarter_1 n b r))
    (reduce_octree n (low_part (high_part b)) (quarter_2 n b r)) (reduce_octree n (high_part (high_part b)) (quarter_3 n b r))
    ∙ ap₂ (sons_of n) (sym (low_joined (joined (merged a) (merged b)))) (sym (high_joined (joined (merged a) (merged b))))
    ∙ merged_sons n (join (merged a) (merged b)) (omega (arith, merged_deep a b, h)) (merged_twice a b)
  where
    eight : {o₀ o₁ o₂ o₃ o₄ o₅ o₆ o₇ : Octree} → o₀ ≡ octree_of n (merged (low_part (low_part a))) → o₁ ≡ octree_of n (merged (high_part (low_part a))) →
        o₂ ≡ octree_of n (merged (low_part (high_part a))) → o₃ ≡ octree_of n (merged (high_part (high_part a))) → o₄ ≡ octree_of n (merged (low_part (low_part b))) →
        o₅ ≡ octree_of n (merged (high_part (low_part b))) → o₆ ≡ octree_of n (merged (low_part (high_part b))) → o₇ ≡ octree_of n (merged (high_part (high_part b))) →
        join_sons o₀ o₁ o₂ o₃ o₄ o₅ o₆ o₇ ≡ sons_of n (merged a) (merged b)
    eight e₀ e₁ e₂ e₃ e₄ e₅ e₆ e₇ =
        rw (
          e₀,
          e₁,
          e₂,
          e₃,
          e₄,
          e₅,
          e₆,
          e₇,
          low_merged a,
          high_merged a,
          low_merged b,
          high_merged b,
          low_merged (low_part a),
          high_merged (low_part a),
          low_merged (high_part a),
          high_merged (high_part a),
          low_merged (low_part b),
          high_merged (low_part b),
          low_merged (high_part b),
          high_merged (high_part b),
        )

-- THEOREM: reducing an octree leaves its shape, merged
cube_shape : {a b c d e f g h j : Octree} → Cube a b c d e f g h j → merged (shape_of j) ≡ merged (shape_of (parted a b c d e f g h))
unfolding merged shape_of join
cube_shape (alike Black) = refl
cube_shape (alike White) = refl
cube_shape (apart x y) = refl

pub shape_reduce : (o : Octree) → merged (shape_of (reduce o)) ≡ merged (shape_of o)
unfolding merged shape_of reduce
shape_reduce (solid c) = refl
shape_reduce (parted a b c d e f g h) =
    cube_shape (cube (reduce a) (reduce b) (reduce c) (reduce d) (reduce e) (reduce f) (reduce g) (reduce h))
    ∙ rw (shape_reduce a, shape_reduce b, shape_reduce c, shape_reduce d, shape_reduce e, shape_reduce f, shape_reduce g, shape_reduce h)

-- ---- there and back

no_levels : (c : Colour) → depth (leaf c) ≡ 0
unfolding depth
no_levels c = refl

halved_depth : (a b : Shape) (n : ℕ) → depth a ≤ n → depth b ≤ n → depth (halved a b) ≤ suc n
unfolding depth
halved_depth a b n h k = suc-le-suc (max-le h k)

quarters_depth : (a b c d : Shape) (n : ℕ) → depth a ≤ n → depth b ≤ n → depth c ≤ n → depth d ≤ n → depth (halved (halved a b) (halved c d)) ≤ suc (suc n)
quarters_depth a b c d n p q r s = halved_depth (halved a b) (halved c d) (suc n) (halved_depth a b n p q) (halved_depth c d n r s)

pub shape_deep : {n : ℕ} {o : Octree} → AtMost n o → depth (shape_of o) ≤ 3 * n
unfolding shape_of
shape_deep {n} (solid_most {c = c}) = leaf_depth c
  where
    leaf_depth : (c : Colour) → depth (leaf c) ≤ 3 * n
    leaf_depth c = omega (arith, no_levels c)
shape_deep (parted_most {n} {a} {b} {c} {d} {e} {f} {g} {h} ma mb mc md me mf mg mh) =
    let x = halved_depth (halved (halved (shape_of a) (shape_of b)) (halved (shape_of c) (shape_of d)))
    (halved (halved (shape_of e) (shape_of f)) (halved (shape_of g) (shape_of h))) (suc (suc (3 * n)))
    (quarters_depth (shape_of a) (shape_of b) (shape_of c) (shape_of d) (3 * n) (shape_deep ma) (shape_deep mb) (shape_deep mc) (shape_deep md))
    (quarters_depth (shape_of e) (shape_of f) (shape_of g) (shape_of h) (3 * n) (shape_deep me) (shape_deep mf) (shape_deep mg) (shape_deep mh)) in
    omega (arith, x)

-- THEOREM: import after export is merging
pub import_export : (n : ℕ) (s : Shape) → depth s ≤ 3 * n → merged (shape_of (reduce (octree_of n s))) ≡ merged s
import_export n s h = shape_reduce (octree_of n s) ∙ shape_octree n s h

-- THEOREM: export after import is reduction
pub export_import : {n : ℕ} {o : Octree} → AtMost n o → reduce (octree_of n (merged (shape_of o))) ≡ reduce o
export_import {n} {o} m =
    let d = shape_deep m in
    reduce_octree n (merged (shape_of o)) (omega (arith, merged_depth (shape_of o)))
    ∙ ap (octree_of n) (merged_merged (shape_of o))
    ∙ sym (reduce_octree n (shape_of o) d)
    ∙ ap reduce (octree_shape m)

-- a reduced octree is that of its merged shape
pub reduced_octree : {n : ℕ} {o : Octree} → AtMost n o → Reduced o → octree_of n (merged (shape_of o)) ≡ o
reduced_octree {n} {o} m r = sym (reduce_octree n (shape_of o) (shape_deep m)) ∙ ap reduce (octree_shape m) ∙ reduced_self r
