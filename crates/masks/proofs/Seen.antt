-- The voxels of a block that a window has, in any colouring: those of both halves, the ones of its mask within the window, none where the block is WHITE or
-- misses the window, all of the frames that meet it where the block is BLACK; of the whole universe they are those that are counted frame by frame.
use Prim.Native.Nat.{ℕ, suc, ◌+◌, ◌*◌, ◌^◌, ◌≤◌, ◌<◌, min, max}
use mathlib.Core.Path.{◌≡◌, refl, sym, ap, ◌∙◌}
use mathlib.Core.Bool.{Bool, true, false, cond}
use mathlib.Core.List.{List}
use native.Mathlib.Omega.{arith}
use borrow.Author.Tests.{le-leb}
use lib.Bits.{bit_and}
use lib.Count.{ones, ones-le}
use Rattle.lemmas.specs.Sums.{sum}
use Rattle.universe.specs.declared.Universe.{Universe}
use Rattle.universe.specs.declared.Block.{Block}
use Rattle.universe.specs.Universe.{universe_refusal, frame_axis}
use Rattle.universe.specs.Block as blocks
use Rattle.universe.specs.Block.{low_along, whole_block}
use Rattle.universe.specs.Voxel.{Within, window_refusal}
use Rattle.universe.proofs.Universes.{accepted}
use Rattle.bintree.specs.declared.Colour.{Colour}
use Rattle.bintree.specs.declared.Colour.TheVariants.{White, Black}
use Rattle.bintree.specs.declared.Contact.{Contact}
use Rattle.bintree.specs.Counts.{frames, voxels_each}
use Rattle.bintree.specs.Verdicts.{window_length}
use Rattle.bintree.specs.Windows.{with_frames, touched}
use Rattle.demands.specs.Voxels.{Colouring, is_black}
use Rattle.demands.specs.Verdicts.{frame_of}
use Rattle.contacts.specs.Contacts.{window_voxels}
use Rattle.masks.specs.Block.{voxel_at, is_black_at, block_mask}
use Rattle.masks.specs.Windows.{is_between, windowed, window_mask}
use Rattle.masks.specs.Ends.{best_seen}
use Rattle.masks.specs.Contacts.{contact_in}
use Rattle.masks.specs.Seen.{seen_in}
use Rattle.masks.proofs.Block.{Left, mask_agree, mask_fits}
use Rattle.masks.proofs.Trees.{white_mask_lem}
use Rattle.masks.proofs.Counts.{black_halves, ones_black}
use Rattle.masks.proofs.Windows.{window_mask_lem, window_ones, black_window}
use Rattle.masks.proofs.Ends.{seen_between}
use Rattle.masks.proofs.OneColour.{white_contact, black_contact}

-- from no voxel on
abbrev none : Contact
none = record { first = 0; last = 0; voxels = 0 }

module _ (first last : ℕ) (colours : Colouring) where
  from_contact : (n : ℕ) (b : Block) → (contact_in first last colours n b none).voxels ≡ seen_in first last colours b
  unfolding contact_in seen_in
  from_contact n b = omega arith

  -- THEOREM: a block has those of its halves
  pub seen_halves : (n : ℕ) (b : Block) → Left (suc n) b →
      seen_in first last colours b ≡ seen_in first last colours (blocks.low b) + seen_in first last colours (blocks.high b)
  unfolding seen_in
  seen_halves n b l = black_halves (windowed b.universe first last colours) l

  module _ (n : ℕ) (b : Block) (l : Left n b) where
    -- THEOREM: they are the ones of its mask within the window
    pub seen_ones : seen_in first last colours b
        ≡ ones (bit_and (block_mask colours n b) (window_mask first last b.universe n (low_along b (frame_axis b.universe))))
    unfolding seen_in
    seen_ones = sym (window_ones first last colours n b l)

    -- at most all of its voxels
    pub seen_few : seen_in first last colours b ≤ 2 ^ n
    unfolding seen_in
    seen_few =
        let seen = windowed b.universe first last colours in
        omega (arith, ones_black seen n b l, ones-le (2 ^ n) (block_mask seen n b) (mask_fits seen n b))

    -- none where the block is WHITE
    pub seen_white : ((v : List ℕ) → Within b v → colours v ≡ White) → seen_in first last colours b ≡ 0
    seen_white h = sym (from_contact n b) ∙ ap (λ (k : Contact). k.voxels) (white_contact first last colours n b none l h)

    -- in each frame that the window has, all of its voxels where it is BLACK
    pub seen_black : ((v : List ℕ) → Within b v → colours v ≡ Black) → best_seen false first last b ≤ best_seen true first last b →
        seen_in first last colours b
        ≡ window_length (best_seen false first last b) (best_seen true first last b) * voxels_each b.universe b.level
    unfolding touched
    seen_black h o =
        sym (from_contact n b)
        ∙ ap (λ (k : Contact). k.voxels) (black_contact first last colours n b none l h)
        ∙ rw (le-leb _ _ o) (omega arith)

    -- none where no frame is the window's
    pub seen_missed : best_seen true first last b < best_seen false first last b → seen_in first last colours b ≡ 0
    unfolding seen_in ones
    seen_missed missed =
        sym (ones_black seen n b l) ∙ ap ones (mask_agree seen (λ v. White) n b (λ i m. none_seen i) ∙ white_mask_lem n b)
      where
        seen : Colouring
        seen = windowed b.universe first last colours

        none_seen : (i : ℕ) → seen (voxel_at n b i) ≡ White
        none_seen i = go (seen (voxel_at n b i)) refl
          where
            go : (c : Colour) → seen (voxel_at n b i) ≡ c → seen (voxel_at n b i) ≡ White
            go White e = e
            go Black e =
                let h : is_black_at seen n b i ≡ true = ap is_black e in
                let w = seen_between first last colours n b l i h in
                absurd (omega (arith, w.0, w.1))

  -- THEOREM: of the whole universe they are counted frame by frame
  pub seen_whole : (u : Universe) → universe_refusal u ≡ 0 → window_refusal u first last ≡ 0 →
      seen_in first last colours (whole_block u) ≡ window_voxels u colours first last
  unfolding seen_in window_voxels
  seen_whole u e w = black_window u (accepted u e) colours first last w

-- colours that agree on the voxels
pub seen_agree : (first last n : ℕ) (b : Block) → Left n b → (c d : Colouring) → ((i : ℕ) → c (voxel_at n b i) ≡ d (voxel_at n b i)) →
    seen_in first last c b ≡ seen_in first last d b
seen_agree first last n b l c d same =
    seen_ones first last c n b l
    ∙ ap (λ (m : ℕ). ones (bit_and m (window_mask first last b.universe n (low_along b (frame_axis b.universe))))) (mask_agree c d n b (λ i m. same i))
    ∙ sym (seen_ones first last d n b l)
