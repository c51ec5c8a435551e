-- THE SONS' ORDER IS THE BINTREE'S: with three axes of equal bits the levels halve x, y and z in turn, so the path to a voxel names, three halves at a time,
-- the sons that hold it. So an octree and its shape have the same colour at every voxel.
use mathlib.Core.Path.{◌≡◌, refl, sym, ap, ap₂, ◌∙◌}
use mathlib.Core.Bool.{Bool, true, false, ◌&&◌}
use mathlib.Core.List.{List, [], ◌∷◌}
use Prim.Native.Nat.{ℕ, zero, suc, ◌+◌, ◌-◌, ◌*◌, ◌^◌, ◌/◌, ◌%◌, ◌≤◌, ◌<◌}
use native.Mathlib.Omega.{arith}
use native.Mathlib.Decide.{ℕ_discrete}
use borrow.Author.Tests.{eq-eqb, ne_eqb}
use lib.Dec.{eqb}
use Rattle.lemmas.proofs.Sums.{and_left, and_right}
use Rattle.universe.specs.declared.Universe.{Universe}
use Rattle.universe.specs.Refusals.{first_refusal, unless}
use Rattle.universe.specs.Universe.{universe_refusal, most_bits, frame_axis, bits_along, levels, axis_at, halvings, block_side}
use Rattle.universe.specs.Voxel.{place_along, half_at, path_from}
use Rattle.universe.proofs.Refusing.{unless_holds, last_check}
use Rattle.universe.proofs.Universes.{accepted, most_bits_lem}
use Rattle.universe.proofs.EqualBits.{equal_levels, equal_axis}
use Rattle.bintree.specs.Shape.{Shape, depth}
use Rattle.bintree.specs.Merging.{merged}
use Rattle.bintree.specs.Parts.{part, colour_of, colour_at}
use Rattle.bintree.proofs.Merging.{merged_colour}
use Rattle.octree.specs.Octree.{Octree, solid, parted, AtMost, solid_most, parted_most}
use Rattle.octree.specs.Octree.{half_of, son_number, son_to, son_of, solid_colour, octree_colour, reduce}
use Rattle.octree.specs.Parting.{octree_of, shape_of}
use Rattle.octree.specs.Answers.{cube_axes, cube_refusal}
use Rattle.octree.proofs.Octrees.{reduce_most}
use Rattle.octree.proofs.Partings.{octree_most, shape_deep, import_export}

-- ---- a universe that has octrees

pub record Cubic (u : Universe) : Type 0 where
  pub fine : universe_refusal u ≡ 0
  pub three : u.axes ≡ cube_axes
  pub equal : u.frame_bits ≡ u.bits
  pub few : u.bits ≤ most_bits

eqb_same : (x y : ℕ) → eqb x y ≡ true → x ≡ y
eqb_same x y e = go (ℕ_discrete x y)
  where
    go : Dec (x ≡ y) → x ≡ y
    go (yes f) = f
    go (no f) = let z : ◌≡◌ {A = Bool} true false = sym e ∙ ne_eqb x y f in absurd (never z)
      where
        never : ◌≡◌ {A = Bool} true false → ⊥
        never z = let y : ◌≡◌ {A = ℕ} 0 1 = cc in omega arith

pub cubic : (u : Universe) → cube_refusal u ≡ 0 → Cubic u
unfolding cube_refusal
cubic u e = go (ℕ_discrete (universe_refusal u) 0)
  where
    test : Bool
    test = eqb u.axes cube_axes && eqb u.frame_bits u.bits

    go : Dec (universe_refusal u ≡ 0) → Cubic u
    go (no n) = absurd (n (rw (ne_eqb (universe_refusal u) 0 n) at e))
    go (yes z) =
        let f : first_refusal (unless test 2 ∷ []) ≡ 0 = rw (eq-eqb (universe_refusal u) 0 z) at e in
        let t : test ≡ true = unless_holds test 2 (omega arith) (sym (last_check (unless test 2)) ∙ f) in
        record {
          fine = z;
          three = eqb_same u.axes cube_axes (and_left (eqb u.axes cube_axes) (eqb u.frame_bits u.bits) t);
          equal = eqb_same u.frame_bits u.bits (and_right (eqb u.axes cube_axes) (eqb u.frame_bits u.bits) t);
          few = omega (arith, (accepted u z).few_bits, most_bits_lem u.axes);
        }

module _ (u : Universe) (c : Cubic u) where
  equal_bits_lem : (i : ℕ) → i < u.axes → bits_along u i ≡ u.bits
  unfolding bits_along
  equal_bits_lem i h = go (ℕ_discrete i (frame_axis u))
    where
      go : Dec (i ≡ frame_axis u) → bits_along u i ≡ u.bits
      go (yes e) = rw (eq-eqb i (frame_axis u) e) c.equal
      go (no n) = rw (ne_eqb i (frame_axis u) n)

  -- three levels for each level of an octree
  pub cube_levels : levels u ≡ 3 * u.bits
  cube_levels = equal_levels u u.bits equal_bits_lem ∙ ap (λ d. d * u.bits) c.three

  -- and they halve x, y and z in turn
  module _ (j : ℕ) (h : j < u.bits) where
    pub first_axis : axis_at u (3 * j) ≡ 0
    first_axis = omega (arith, equal_axis u u.bits equal_bits_lem (3 * j) (omega (arith, cube_levels)), ap (λ d. 3 * j % d) c.three)

    pub second_axis : axis_at u (suc (3 * j)) ≡ 1
    second_axis = omega (arith, equal_axis u u.bits equal_bits_lem (suc (3 * j)) (omega (arith, cube_levels)), ap (λ d. suc (3 * j) % d) c.three)

    pub third_axis : axis_at u (suc (suc (3 * j))) ≡ 2
    third_axis =
        omega (arith, equal_axis u u.bits equal_bits_lem (suc (suc (3 * j))) (omega (arith, cube_levels)), ap (λ d. suc (suc (3 * j)) % d) c.three)

  -- so that each was halved as often as levels of an octree are gone
  halvings_once : (l i x : ℕ) → axis_at u l ≡ x → x ≡ i → halvings u (suc l) i ≡ suc (halvings u l i)
  unfolding halvings
  halvings_once l i x e f = rw (e, eq-eqb x i f) (omega arith)

  halvings_not : (l i x : ℕ) → axis_at u l ≡ x → (x ≡ i → ⊥) → halvings u (suc l) i ≡ halvings u l i
  unfolding halvings
  halvings_not l i x e f = rw (e, ne_eqb x i f) (omega arith)

  no_halvings : (i : ℕ) → halvings u 0 i ≡ 0
  unfolding halvings
  no_halvings i = refl

  three_more : (j : ℕ) → 3 * suc j ≡ suc (suc (suc (3 * j)))
  three_more j = omega arith

  pub cube_halvings : (j i : ℕ) → j ≤ u.bits → i < 3 → halvings u (3 * j) i ≡ j
  cube_halvings zero i h k = no_halvings i
  cube_halvings (suc j) i h k =
      ap (λ l. halvings u l i) (three_more j) ∙ by (cube_halvings j i (omega arith) k) (ℕ_discrete i 0) (ℕ_discrete i 1)
    where
      by : halvings u (3 * j) i ≡ j → Dec (i ≡ 0) → Dec (i ≡ 1) → halvings u (suc (suc (suc (3 * j)))) i ≡ suc j
      by before (yes e) d =
          halvings_not (suc (suc (3 * j))) i 2 (third_axis j h) (λ z. omega arith)
          ∙ halvings_not (suc (3 * j)) i 1 (second_axis j h) (λ z. omega arith)
          ∙ halvings_once (3 * j) i 0 (first_axis j h) (sym e)
          ∙ ap suc before
      by before (no n) (yes e) =
          halvings_not (suc (suc (3 * j))) i 2 (third_axis j h) (λ z. omega arith)
          ∙ halvings_once (suc (3 * j)) i 1 (second_axis j h) (sym e)
          ∙ ap suc (halvings_not (3 * j) i 0 (first_axis j h) (λ z. omega arith) ∙ before)
      by before (no n) (no o) =
          halvings_once (suc (suc (3 * j))) i 2 (third_axis j h) (omega arith)
          ∙ ap suc (halvings_not (suc (3 * j)) i 1 (second_axis j h) (λ z. omega arith)
          ∙ halvings_not (3 * j) i 0 (first_axis j h) (λ z. omega arith) ∙ before)

  -- ---- the path to a voxel

  -- the half at a level of an axis that was halved j times, with n more to come
  half_is : (l i j n x : ℕ) → axis_at u l ≡ i → i < 3 → halvings u l i ≡ j → suc (j + n) ≡ u.bits → half_at u l x ≡ half_of n x
  unfolding block_side
  half_is l i j n x e h f g =
      ap (λ b. x / 2 ^ b % 2)
      (ap (λ a. bits_along u a - halvings u (suc l) a) e
      ∙ ap₂ (λ b a. b - a) (equal_bits_lem i (omega (arith, c.three))) (halvings_once l i i e refl ∙ ap suc f)
      ∙ omega arith)

  module _ (v : List ℕ) (j n : ℕ) (g : suc (j + n) ≡ u.bits) where
    step : (l i m : ℕ) → axis_at u l ≡ i → half_at u l (place_along v i) ≡ half_of n (place_along v i) →
        path_from u v l (suc m) ≡ half_of n (place_along v i) ∷ path_from u v (suc l) m
    unfolding path_from
    step l i m e f = ap (λ x. x ∷ path_from u v (suc l) m) (ap (λ a. half_at u l (place_along v a)) e ∙ f)

    -- THEOREM: three halves lead to the son that holds the voxel
    pub three_halves : path_from u v (3 * j) (3 * suc n) ≡
        half_of n (place_along v 0) ∷ half_of n (place_along v 1) ∷ half_of n (place_along v 2) ∷ path_from u v (3 * suc j) (3 * n)
    three_halves =
        let h : j < u.bits = omega arith in
        let k : j ≤ u.bits = omega arith in
        let one = halvings_not (3 * j) 1 0 (first_axis j h) (λ z. omega arith) ∙ cube_halvings j 1 k (omega arith) in
        let two = halvings_not (suc (3 * j)) 2 1 (second_axis j h) (λ z. omega arith)
        ∙ halvings_not (3 * j) 2 0 (first_axis j h) (λ z. omega arith) ∙ cube_halvings j 2 k (omega arith) in
        ap (path_from u v (3 * j)) (three_more n)
        ∙ step (3 * j) 0 (suc (suc (3 * n))) (first_axis j h) (half_is (3 * j) 0 j n (place_along v 0) (first_axis j h) (omega arith)
        (cube_halvings j 0 k (omega arith)) g)
        ∙ ap (λ l. half_of n (place_along v 0) ∷ l)
        (step (suc (3 * j)) 1 (suc (3 * n)) (second_axis j h) (half_is (suc (3 * j)) 1 j n (place_along v 1) (second_axis j h) (omega arith) one g)
        ∙ ap (λ l. half_of n (place_along v 1) ∷ l)
        (step (suc (suc (3 * j))) 2 (3 * n) (third_axis j h) (half_is (suc (suc (3 * j))) 2 j n (place_along v 2) (third_axis j h) (omega arith) two g)
        ∙ ap (λ l. half_of n (place_along v 2) ∷ path_from u v l (3 * n)) (sym (three_more j))))

-- ---- the part at three halves is the son's

-- THEOREM: the parts of three halvings stand in the order 4x + 2y + z
pub son_part : (o : Octree) (x y z : ℕ) (path : List ℕ) → x < 2 → y < 2 → z < 2 →
    part (shape_of o) (x ∷ y ∷ z ∷ path) ≡ part (shape_of (son_of (son_number x y z) o)) path
unfolding shape_of son_of part
son_part (solid c) x y z path h k l = refl
son_part (parted a b c d e f g i) zero zero zero path h k l = refl
son_part (parted a b c d e f g i) zero zero (suc zero) path h k l = refl
son_part (parted a b c d e f g i) zero zero (suc (suc z)) path h k l = absurd (omega arith)
son_part (parted a b c d e f g i) zero (suc zero) zero path h k l = refl
son_part (parted a b c d e f g i) zero (suc zero) (suc zero) path h k l = refl
son_part (parted a b c d e f g i) zero (suc zero) (suc (suc z)) path h k l = absurd (omega arith)
son_part (parted a b c d e f g i) zero (suc (suc y)) z path h k l = absurd (omega arith)
son_part (parted a b c d e f g i) (suc zero) zero zero path h k l = refl
son_part (parted a b c d e f g i) (suc zero) zero (suc zero) path h k l = refl
son_part (parted a b c d e f g i) (suc zero) zero (suc (suc z)) path h k l = absurd (omega arith)
son_part (parted a b c d e f g i) (suc zero) (suc zero) zero path h k l = refl
son_part (parted a b c d e f g i) (suc zero) (suc zero) (suc zero) path h k l = refl
son_part (parted a b c d e f g i) (suc zero) (suc zero) (suc (suc z)) path h k l = absurd (omega arith)
son_part (parted a b c d e f g i) (suc zero) (suc (suc y)) z path h k l = absurd (omega arith)
son_part (parted a b c d e f g i) (suc (suc x)) y z path h k l = absurd (omega arith)

son_most : {n : ℕ} {o : Octree} (i : ℕ) → AtMost (suc n) o → AtMost n (son_of i o)
unfolding son_of
son_most i solid_most = solid_most
son_most zero (parted_most ma mb mc md me mf mg mh) = ma
son_most (suc zero) (parted_most ma mb mc md me mf mg mh) = mb
son_most (suc (suc zero)) (parted_most ma mb mc md me mf mg mh) = mc
son_most (suc (suc (suc zero))) (parted_most ma mb mc md me mf mg mh) = md
son_most (suc (suc (suc (suc zero)))) (parted_most ma mb mc md me mf mg mh) = me
son_most (suc (suc (suc (suc (suc zero))))) (parted_most ma mb mc md me mf mg mh) = mf
son_most (suc (suc (suc (suc (suc (suc zero)))))) (parted_most ma mb mc md me mf mg mh) = mg
son_most (suc (suc (suc (suc (suc (suc (suc zero))))))) (parted_most ma mb mc md me mf mg mh) = mh
son_most (suc (suc (suc (suc (suc (suc (suc (suc i)))))))) (parted_most ma mb mc md me mf mg mh) = solid_most

-- ---- colours

half_below : (n x : ℕ) → half_of n x < 2
half_below n x = let h = half_of n x in omega arith

voxel_part : {o : Octree} → AtMost 0 o → solid_colour o ≡ colour_of (part (shape_of o) [])
unfolding solid_colour shape_of part
voxel_part solid_most = refl

module _ (u : Universe) (c : Cubic u) (v : List ℕ) where
  no_path : (l : ℕ) → path_from u v l 0 ≡ []
  unfolding path_from
  no_path l = refl

  path_colour : (n j : ℕ) {o : Octree} → AtMost n o → j + n ≡ u.bits → octree_colour n o v ≡ colour_of (part (shape_of o) (path_from u v (3 * j) (3 * n)))
  unfolding octree_colour
  path_colour zero j {o} m g = voxel_part m ∙ ap (λ p. colour_of (part (shape_of o) p)) (sym (no_path (3 * j)))
  path_colour (suc n) j {o} m g =
      path_colour n (suc j) (son_most (son_to n v) m) (omega arith)
      ∙ ap colour_of
      (sym (son_part o (half_of n (place_along v 0)) (half_of n (place_along v 1)) (half_of n (place_along v 2)) (path_from u v (3 * suc j) (3 * n))
      (half_below n (place_along v 0)) (half_below n (place_along v 1)) (half_below n (place_along v 2)))
      ∙ ap (part (shape_of o)) (sym (three_halves u c v j n (omega arith))))

  -- THEOREM: an octree has the colours of its shape
  pub octree_colour_lem : {o : Octree} → AtMost u.bits o → octree_colour u.bits o v ≡ colour_at u (shape_of o) v
  unfolding colour_at
  octree_colour_lem {o} m =
      path_colour u.bits 0 m (omega arith) ∙ ap (λ n. colour_of (part (shape_of o) (path_from u v 0 n))) (sym (cube_levels u c))

  -- THEOREM: and of its merged shape, which import writes
  pub import_colour : {o : Octree} → AtMost u.bits o → colour_at u (merged (shape_of o)) v ≡ octree_colour u.bits o v
  import_colour {o} m = merged_colour u (shape_of o) v (omega (arith, shape_deep m, cube_levels u c)) ∙ sym (octree_colour_lem m)

  -- THEOREM: the reduced octree of a shape, which export writes, has the colours of the shape
  pub export_colour : (s : Shape) → depth s ≤ levels u → octree_colour u.bits (reduce (octree_of u.bits s)) v ≡ colour_at u s v
  export_colour s d =
      let m = reduce_most (octree_most u.bits s) in
      sym (import_colour m)
      ∙ ap (λ t. colour_at u t v) (import_export u.bits s (omega (arith, cube_levels u c)))
      ∙ merged_colour u s v d
