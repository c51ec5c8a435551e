-- Counts: the black voxels of a block are those of its halves, whose grids are the block's, halved along one axis; so they are the ones of its mask.
use mathlib.Core.Path.{◌≡◌, refl, sym, ap, ◌∙◌, fun_ext}
use mathlib.Core.Bool.{Bool, true, false}
use Prim.Native.Nat.{ℕ, zero, suc, ◌+◌, ◌*◌, ◌^◌}
use native.Mathlib.Omega.{arith}
use native.Mathlib.Decide.{ℕ_discrete}
use lib.Seq.{ext_get_or}
use lib.Count.{ones, ones_cat}
use Rattle.lemmas.specs.Grid.{count, put, grid, listed}
use Rattle.lemmas.proofs.Grid.{put_same, put_other, listed_at, listed_length, grid_lengths, grid_one}
use Rattle.universe.specs.declared.Universe.{Universe}
use Rattle.universe.specs.declared.Block.{Block}
use Rattle.universe.specs.Universe.{most_axes, side_along, block_side}
use Rattle.universe.specs.Block.{low_along, length_along, whole_block, axis_of, low, high}
use Rattle.universe.proofs.Universes.{side_first, side_last, side_kept}
use Rattle.universe.proofs.Blocks.{given_placed, given_length, zero_low, half_length, high_here, high_kept, length_halved}
use Rattle.demands.specs.Voxels.{Colouring, is_black, count_black, black_voxels}
use Rattle.demands.proofs.Grids.{moved, moved_same, moved_other, grid_double}
use Rattle.masks.specs.Mask.{tally}
use Rattle.masks.specs.Block.{is_black_at, block_mask}
use Rattle.masks.specs.Counts.{black_in}
use Rattle.masks.proofs.Mask.{ones_mask}
use Rattle.masks.proofs.Block.{Left, left_above, left_low, left_high, mask_voxel, mask_halves, mask_fits}
use Rattle.masks.proofs.Steps.{axis_inside, axis_long}

-- ---- the black voxels of a block

module _ (colours : Colouring) where
  -- the whole block has all of them
  pub black_whole : (u : Universe) → black_in (whole_block u) colours ≡ black_voxels u colours
  unfolding black_in black_voxels
  black_whole u =
      grid_lengths u.axes (length_along (whole_block u)) (side_along u) _ (λ i h. side_first u i)
      ∙ ap (grid u.axes (side_along u)) (fun_ext (λ p. ap (count_black colours) (fun_ext (λ i. omega (arith, zero_low most_axes i)))))

  -- a block of one voxel has that voxel's
  pub black_voxel : (b : Block) → Left 0 b → black_in b colours ≡ count (is_black (colours b.low))
  unfolding black_in
  black_voxel b l =
      grid_one b.universe.axes (length_along b) _ (λ i h. ap (λ (m : ℕ). block_side b.universe m i) (omega (arith, l.left)) ∙ side_last b.universe i h)
      ∙ ap (λ v. count (is_black (colours v)))
      (ext_get_or 0 (listed most_axes (λ i. low_along b i + 0)) b.low (listed_length most_axes _ ∙ sym (given_length l.given))
      (λ i h. listed_at most_axes (λ j. low_along b j + 0) i (omega (arith, listed_length most_axes (λ j. low_along b j + 0))) ∙ omega arith))

  -- and any other block those of its halves
  module _ {n : ℕ} {b : Block} (l : Left (suc n) b) where
    doubled : (i : ℕ) → Dec (axis_of b ≡ i) → length_along b i ≡ put (axis_of b) (2 * half_length b) (length_along (low b)) i
    doubled i (yes e) = rw (← e, put_same (axis_of b) (2 * half_length b) (length_along (low b))) (length_halved b (given_placed l.given) (left_above l))
    doubled i (no k) = sym (put_other (axis_of b) i (2 * half_length b) (length_along (low b)) k ∙ side_kept b.universe b.level i k)

    later : (p : ℕ → ℕ) (i : ℕ) → Dec (axis_of b ≡ i) → low_along b i + moved (axis_of b) (half_length b) p i ≡ low_along (high b) i + p i
    later p i (yes e) = rw (← e) (omega (arith, moved_same (axis_of b) (half_length b) p, high_here b (axis_long l)))
    later p i (no k) = omega (arith, moved_other (axis_of b) (half_length b) i p k, high_kept b i k)

    pub black_halves : black_in b colours ≡ black_in (low b) colours + black_in (high b) colours
    unfolding black_in
    black_halves =
        grid_lengths b.universe.axes (length_along b) (put (axis_of b) (2 * half_length b) (length_along (low b))) _
        (λ i h. doubled i (ℕ_discrete (axis_of b) i))
        ∙ grid_double b.universe.axes (axis_of b) (length_along (low b)) (λ p. count_black colours (λ i. low_along b i + p i)) (axis_inside l)
        ∙ ap (λ x. black_in (low b) colours + x)
        (ap (grid b.universe.axes (length_along (low b))) (fun_ext (λ p. ap (count_black colours) (fun_ext (λ i. later p i (ℕ_discrete (axis_of b) i))))))

  -- THEOREM: the ones of a block's mask are its black voxels
  pub ones_black : (n : ℕ) (b : Block) → Left n b → ones (block_mask colours n b) ≡ black_in b colours
  unfolding ones
  ones_black zero b l = ap ones (mask_voxel colours b) ∙ one (is_black (colours b.low)) ∙ sym (black_voxel b l)
    where
      one : (t : Bool) → ones (count t) ≡ count t
      one true = refl
      one false = refl
  ones_black (suc n) b l =
      ap ones (mask_halves colours n b)
      ∙ ones_cat (2 ^ n) (block_mask colours n (high b)) (block_mask colours n (low b)) (mask_fits colours n (low b))
      ∙ omega (arith, ones_black n (low b) (left_low l), ones_black n (high b) (left_high l), black_halves l)

  pub black_tally : (n : ℕ) (b : Block) → Left n b → black_in b colours ≡ tally (2 ^ n) (is_black_at colours n b)
  unfolding block_mask
  black_tally n b l = sym (ones_black n b l) ∙ ones_mask (2 ^ n) (is_black_at colours n b)
