-- The word of a leaf by its code: 0 or all ones for a constant, a surface's word for its side, with the block's digits exchanged for one that is reversed.
use mathlib.Core.Path.{◌≡◌, refl, sym, ap, ap₂, ◌∙◌, subst}
use mathlib.Core.Bool.{Bool, true, false}
use mathlib.Core.List.{List}
use Prim.Native.Nat.{ℕ, ◌+◌, ◌-◌, ◌*◌, ◌/◌, ◌%◌, ◌^◌, ◌≤◌, ◌<◌}
use native.Mathlib.Omega.{arith}
use lib.Dec.{leb, ltb}
use lib.IntN.{ℤ}
use borrow.Author.Tests.{leb-true, ltb-true, le-leb, lt-ltb}
use Rattle.lemmas.proofs.Sums.{and_left, and_right}
use Rattle.universe.specs.declared.Block.{Block}
use Rattle.bintree.specs.declared.Colour.TheVariants.{White, Black}
use Rattle.csg.specs.Halfspace.{row_count}
use Rattle.csg.specs.Ball.{ball_count}
use Rattle.csg.specs.Surfaces.{Surfaces, Surface, halfspace, ball, named, IsNamed, halfspace_named, ball_named}
use Rattle.csg.specs.Tree.{Plain, colour, side}
use Rattle.csg.specs.Marks.{surface_colour, side_colour, plain_colour}
use Rattle.demands.specs.Voxels.{Colouring}
use Rattle.pruned.specs.Nodes.{Node, word_of, bit_of, node_code, LeafOf, colour_leaf, side_leaf, first_ball_side}
use Rattle.pruned.proofs.Steps.{rows_few}
use Rattle.masks.specs.Mask.{all_ones}
use Rattle.masks.specs.Block.{block_mask}
use Rattle.masks.proofs.Block.{mask_fits}
use Rattle.masks.proofs.Trees.{reversal_mask, white_mask_lem, black_mask_lem}
use Rattle.at_once.specs.Words.{word_block, SurfaceWord, LeafWord}
use Rattle.at_once.specs.Values.{is_row_side}
use Rattle.at_once.specs.Moves.{row_of, RowValue, ValueOf}

-- ---- the value of a leaf's row, by the code of either of the row's sides
row_side : (code : ℕ) → 512 ≤ code → code < first_ball_side → is_row_side code ≡ true
row_side code l m = rw (le-leb 512 code l, lt-ltb code first_ball_side m)

pub side_value : {rows : List ℤ} {low : List ℕ} {values : List ℤ} {code : ℕ} → ValueOf rows low values code → ValueOf rows low values (2 * (code / 2))
side_value {rows} {low} {values} {code} v = record { row = by }
  where
    by : is_row_side (2 * (code / 2)) ≡ true → RowValue rows low values (row_of (2 * (code / 2)))
    by e =
        let l : 512 ≤ 2 * (code / 2) = leb-true _ _ (and_left (leb 512 (2 * (code / 2))) (ltb (2 * (code / 2)) first_ball_side) e) in
        let m : 2 * (code / 2) < first_ball_side = ltb-true _ _ (and_right (leb 512 (2 * (code / 2))) (ltb (2 * (code / 2)) first_ball_side) e) in
        let same : row_of code ≡ row_of (2 * (code / 2)) = omega arith in
        subst (RowValue rows low values) same (v.row (row_side code (omega arith) (omega arith)))

pub row_value : {rows : List ℤ} {low : List ℕ} {values : List ℤ} {name : ℕ} → ValueOf rows low values (2 * name) → 256 ≤ name → name < 512 →
    RowValue rows low values (name - 256)
row_value {rows} {low} {values} {name} v l m =
    let same : row_of (2 * name) ≡ name - 256 = omega arith in
    subst (RowValue rows low values) same (v.row (row_side (2 * name) (omega arith) (omega arith)))

-- ---- a surface by its name
module _ {surfaces : Surfaces} {axes : ℕ} {table lengths low : List ℕ} {left name : ℕ} (job : SurfaceWord surfaces axes table lengths low left name) where
  abbrev colours : Surface → Colouring
  colours s = surface_colour surfaces job.block.universe s

  row_here : name < 512 → (256 ≤ name) × (name - 256 < row_count surfaces.rows) × (job.surface ≡ halfspace (name - 256))
  row_here l = by job.surface job.is_named job.name_is refl
    where
      by : (s : Surface) → IsNamed (named surfaces) s → name ≡ word_of s → job.surface ≡ s →
          (256 ≤ name) × (name - 256 < row_count surfaces.rows) × (job.surface ≡ halfspace (name - 256))
      by (halfspace i) (halfspace_named m) e f =
          let n : name - 256 ≡ i = omega arith in
          (omega arith, rw n m, f ∙ ap halfspace (sym n))
      by (ball i) n e f = absurd (omega arith)

  ball_here : 512 ≤ name → (name - 512 < ball_count surfaces.balls) × (job.surface ≡ ball (name - 512))
  ball_here l = by job.surface job.is_named job.name_is refl
    where
      by : (s : Surface) → IsNamed (named surfaces) s → name ≡ word_of s → job.surface ≡ s →
          (name - 512 < ball_count surfaces.balls) × (job.surface ≡ ball (name - 512))
      by (halfspace i) (halfspace_named m) e f =
          absurd (omega (arith, m, rows_few job.block.universe surfaces.rows job.block.scene.accepted_rows))
      by (ball i) (ball_named m) e f =
          let n : name - 512 ≡ i = omega arith in
          (rw n m, f ∙ ap ball (sym n))

  pub row_some : name < 512 → 256 ≤ name
  row_some l = (row_here l).0

  pub row_place : name < 512 → name - 256 < row_count surfaces.rows
  row_place l = (row_here l).1

  pub ball_place : 512 ≤ name → name - 512 < ball_count surfaces.balls
  ball_place l = (ball_here l).0

  pub names_row_lem : name < 512 → job.surface ≡ halfspace (name - 256)
  names_row_lem l = (row_here l).2

  pub names_ball_lem : 512 ≤ name → job.surface ≡ ball (name - 512)
  names_ball_lem l = (ball_here l).1

  pub gives_row : (l : name < 512) → {r : ℕ} → r ≡ block_mask (colours (halfspace (name - 256))) left (word_block job.block) →
      r ≡ block_mask (colours job.surface) left (word_block job.block)
  gives_row l e = e ∙ ap (λ (s : Surface). block_mask (colours s) left (word_block job.block)) (sym (row_here l).2)

  pub gives_ball : (l : 512 ≤ name) → {r : ℕ} → r ≡ block_mask (colours (ball (name - 512))) left (word_block job.block) →
      r ≡ block_mask (colours job.surface) left (word_block job.block)
  gives_ball l e = e ∙ ap (λ (s : Surface). block_mask (colours s) left (word_block job.block)) (sym (ball_here l).1)

-- ---- a leaf by its code
module _ {surfaces : Surfaces} {axes : ℕ} {table lengths low : List ℕ} {left code : ℕ} (job : LeafWord surfaces axes table lengths low left code) where
  abbrev b : Block
  b = word_block job.block

  abbrev tree_word : Plain → ℕ
  tree_word p = block_mask (plain_colour surfaces job.block.universe p) left b

  pub is_white : code ≡ 0 → job.tree ≡ colour White
  is_white z = by job.stands job.code_is
    where
      by : {t : Plain} {n : Node} → LeafOf (named surfaces) t n → code ≡ node_code n → t ≡ colour White
      by (colour_leaf {c = White}) e = refl
      by (colour_leaf {c = Black}) e = absurd (omega arith)
      by (side_leaf {turned = turned} {s = halfspace i} m) e = absurd (omega arith)
      by (side_leaf {turned = turned} {s = ball i} m) e = absurd (omega arith)

  pub is_black_lem : (code ≡ 0 → ⊥) → code < 512 → job.tree ≡ colour Black
  is_black_lem z l = by job.stands job.code_is
    where
      by : {t : Plain} {n : Node} → LeafOf (named surfaces) t n → code ≡ node_code n → t ≡ colour Black
      by (colour_leaf {c = White}) e = absurd (z e)
      by (colour_leaf {c = Black}) e = refl
      by (side_leaf {turned = turned} {s = halfspace i} m) e = absurd (omega arith)
      by (side_leaf {turned = turned} {s = ball i} m) e = absurd (omega arith)

  pub gives_white : code ≡ 0 → 0 ≡ tree_word job.tree
  unfolding plain_colour
  gives_white z = sym (white_mask_lem left b) ∙ ap tree_word (sym (is_white z))

  pub gives_black : (code ≡ 0 → ⊥) → code < 512 → {ones : ℕ} → ones ≡ all_ones (2 ^ left) → ones ≡ tree_word job.tree
  unfolding plain_colour
  gives_black z l f = f ∙ sym (black_mask_lem left b) ∙ ap tree_word (sym (is_black_lem z l))

  -- a side
  module _ (l : 512 ≤ code) where
    pub record Side : Type 0 where
      pub turned : Bool
      pub surface : Surface
      pub is_named : IsNamed (named surfaces) surface
      pub code_is : code ≡ 2 * word_of surface + bit_of turned
      pub tree_is : job.tree ≡ side turned surface

    pub here : Side
    here = by job.stands job.code_is refl
      where
        by : {t : Plain} {n : Node} → LeafOf (named surfaces) t n → code ≡ node_code n → job.tree ≡ t → Side
        by (colour_leaf {c = White}) e f = absurd (omega arith)
        by (colour_leaf {c = Black}) e f = absurd (omega arith)
        by (side_leaf {turned = turned} {s = s} m) e f = record { turned = turned; surface = s; is_named = m; code_is = e; tree_is = f }

    half : (x : Bool) (k : ℕ) → code ≡ 2 * k + bit_of x → code / 2 ≡ k
    half true k e = omega arith
    half false k e = omega arith

    pub side_job : SurfaceWord surfaces axes table lengths low left (code / 2)
    side_job = record {
      block = job.block;
      surface = here.surface;
      is_named = here.is_named;
      name_is = half here.turned (word_of here.surface) here.code_is;
    }

    pub side_is : (side_job.block ≡ job.block) × (side_job.surface ≡ here.surface)
    unfolding side_job
    side_is = (refl, refl)

    abbrev own : ℕ
    own = block_mask (surface_colour surfaces job.block.universe here.surface) left b

    module _ {word : ℕ} (e : word ≡ block_mask (surface_colour surfaces side_job.block.universe side_job.surface) left (word_block side_job.block)) where
      own_is : word ≡ own
      unfolding side_job
      own_is = e

      pub exchange_fits : {ones : ℕ} → ones ≡ all_ones (2 ^ left) → word ≤ ones
      exchange_fits f = omega (arith, own_is, mask_fits (surface_colour surfaces job.block.universe here.surface) left b)

      pub gives_own : (code % 2 ≡ 1 → ⊥) → word ≡ tree_word job.tree
      unfolding plain_colour side_colour
      gives_own k = own_is ∙ by here.turned here.code_is ∙ ap tree_word (sym here.tree_is)
        where
          by : (x : Bool) → code ≡ 2 * word_of here.surface + bit_of x → own ≡ tree_word (side x here.surface)
          by true f = absurd (k (omega arith))
          by false f = refl

      pub gives_reversed : code % 2 ≡ 1 → {ones : ℕ} → ones ≡ all_ones (2 ^ left) → ones - word ≡ tree_word job.tree
      unfolding plain_colour side_colour
      gives_reversed k f = ap₂ (λ (x y : ℕ). x - y) f own_is ∙ by here.turned here.code_is ∙ ap tree_word (sym here.tree_is)
        where
          by : (x : Bool) → code ≡ 2 * word_of here.surface + bit_of x → all_ones (2 ^ left) - own ≡ tree_word (side x here.surface)
          by true f = reversal_mask (surface_colour surfaces job.block.universe here.surface) left b
          by false f = absurd (omega arith)
