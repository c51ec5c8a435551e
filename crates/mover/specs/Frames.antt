-- Rules 15.6 and 15.7: every frame is judged by its own stretch, voxel by voxel; the verdict over all of them.
use Rattle.std.specs.Prelude.{ℕ, zero, suc, ◌+◌, ◌-◌, cond, List, [], ◌∷◌, ltb, leb}
use Rattle.lemmas.specs.Sums.{sum}
use Rattle.universe.specs.declared.Universe.{Universe}
use Rattle.bintree.specs.declared.Colour.{Colour}
use Rattle.bintree.specs.declared.Verdict.{Verdict}
use Rattle.bintree.specs.declared.Verdict.TheVariants.{Clear, Hit}
use Rattle.bintree.specs.Shape.{symbols}
use Rattle.bintree.specs.Verdicts.{first_frame, last_frame, verdict}
use Rattle.csg.specs.Halfspace.{row_count}
use Rattle.csg.specs.Surfaces.{Surfaces, surfaces_of, named, halfspace}
use Rattle.csg.specs.Tree.{Tree, leaf, surface}
use Rattle.csg.specs.Words.{first_halfspace, tree_of}
use Rattle.csg.specs.Marks.{tree_colour}
use Rattle.csg.specs.Raw.{raw, both}
use Rattle.demands.specs.Voxels.{black_voxels_at}
use Rattle.demands.specs.Verdicts.{frame_of}
use Rattle.mover.specs.declared.judge.StaticTree.{StaticTree}
use Rattle.mover.specs.Keys.{Mover, moment_at}
use Rattle.mover.specs.Stretches.{stretches, with_box}

-- the Box's tree: its six halfspaces intersected, the first of which is halfspace n
abbrev pub box_leaf : ℕ → Tree
box_leaf i = leaf (surface (halfspace i))

unfoldable pub box_tree : ℕ → Tree
box_tree n =
    both (both (both (both (both (box_leaf n) (box_leaf (n + 1))) (box_leaf (n + 2))) (box_leaf (n + 3))) (box_leaf (n + 4)))
    (box_leaf (n + 5))

-- and its words
unfoldable pub box_words : ℕ → List ℕ
box_words n =
    let w = first_halfspace + n in
    w ∷ (w + 1) ∷ 3 ∷ (w + 2) ∷ 3 ∷ (w + 3) ∷ 3 ∷ (w + 4) ∷ 3 ∷ (w + 5) ∷ 3 ∷ []

-- the rows and balls of a static tree that is lent
abbrev pub surfaces_lent : StaticTree → Surfaces
surfaces_lent tree = surfaces_of tree.rows.now tree.balls.now

-- rule 15.5: the static tree, which knows its own rows and balls alone, intersected with the Box
abbrev pub static_tree : Surfaces → List ℕ → Tree
static_tree surfaces words = tree_of (named surfaces) words

abbrev pub clearance_tree : Surfaces → List ℕ → Tree
clearance_tree surfaces words = both (static_tree surfaces words) (box_tree (row_count surfaces.rows))

-- its raw expression over stretch i (rule 4.2)
unfoldable pub stretch_raw : Universe → Mover → Surfaces → List ℕ → ℕ → List ℕ
stretch_raw u m surfaces words i = symbols (raw u (with_box surfaces m i) (clearance_tree surfaces words))

-- rule 15.6: of the first n stretches the one that a frame belongs to, the last that begins at it or before
unfoldable pub stretch_of : List ℕ → ℕ → ℕ → ℕ
stretch_of moments frame zero = 0
stretch_of moments frame (suc n) = cond (leb (moment_at moments n) frame) n (stretch_of moments frame n)

abbrev pub own_stretch : List ℕ → ℕ → ℕ
own_stretch moments frame = stretch_of moments frame (stretches moments)

-- rule 15.6: the colour of a voxel: that of both trees at its centre, over its frame's own stretch
unfoldable pub own_colour : Universe → Mover → Surfaces → List ℕ → List ℕ → Colour
own_colour u m surfaces words v =
    tree_colour (with_box surfaces m (own_stretch m.moments (frame_of u v))) u (clearance_tree surfaces words) v

-- rule 5.2: the verdict of n frames from the first on, where frame c has so many black voxels
unfoldable pub over_frames : (ℕ → ℕ) → ℕ → ℕ → Verdict
over_frames counts first n =
    cond (ltb 0 (sum n (λ c. counts (first + c))))
    (Hit (record {
      first = first_frame (λ c. ltb 0 (counts c)) first n;
      last = last_frame (λ c. ltb 0 (counts c)) first n;
      voxels = sum n (λ c. counts (first + c));
    }))
    Clear

-- rule 15.7: what a stretch's frames come to by themselves, and the verdicts of frames and of later ones joined
unfoldable pub stretch_verdict : Universe → Mover → Surfaces → List ℕ → ℕ → Verdict
stretch_verdict u m surfaces words i =
    verdict u (raw u (with_box surfaces m i) (clearance_tree surfaces words))
    (moment_at m.moments i) (moment_at m.moments (i + 1) - 1)

unfoldable pub joined : Verdict → Verdict → Verdict
joined Clear b = b
joined (Hit a) Clear = Hit a
joined (Hit a) (Hit b) = Hit (record { first = a.first; last = b.last; voxels = a.voxels + b.voxels })

abbrev pub voxels_told : Verdict → ℕ
voxels_told Clear = 0
voxels_told (Hit contact) = contact.voxels

-- rule 15.7: the frames from the first key on and before the last key, each with the voxels that are black in it
unfoldable pub mover_verdict : Universe → Mover → Surfaces → List ℕ → Verdict
mover_verdict u m surfaces words =
    let first = moment_at m.moments 0 in
    let end = moment_at m.moments (stretches m.moments) in
    over_frames (black_voxels_at u (own_colour u m surfaces words)) first (end - first)
