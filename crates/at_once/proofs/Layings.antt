-- What laying meets at a block: the shape of its voxels, merged, is that of its word, one leaf where the trees are decided over it, and else that of its halves
-- joined. It depends on the voxels' colours alone, and what is left of the trees over the block has them.
use Prim.Native.Nat.{ℕ, zero, suc, ◌+◌, ◌*◌, ◌-◌, ◌/◌, ◌%◌, ◌^◌, ◌≤◌, ◌<◌}
use mathlib.Core.Path.{◌≡◌, refl, sym, ap, ap₂, ◌∙◌, subst}
use mathlib.Core.Bool.{true}
use mathlib.Core.List.{List}
use native.Mathlib.Omega.{arith}
use native.Mathlib.Nat.{pow-suc}
use lib.ListN.{get_or, set}
use lib.Pow.{pow_pos}
use Rattle.lemmas.proofs.Stores.{restored}
use Rattle.universe.specs.declared.Universe.{Universe}
use Rattle.universe.specs.declared.Block.{Block}
use Rattle.universe.specs.Block as blocks
use Rattle.bintree.specs.declared.Colour.{Colour}
use Rattle.bintree.specs.declared.Colour.TheVariants.{White, Black}
use Rattle.bintree.specs.Shape.{Shape, leaf, halved, symbol_of, size}
use Rattle.bintree.specs.Walks.{leaf_symbol, laid}
use Rattle.csg.specs.Halfspace.{Mark, decided, undecided}
use Rattle.csg.specs.Surfaces.{Surfaces}
use Rattle.csg.specs.Tree.{Plain}
use Rattle.demands.specs.Voxels.{Colouring}
use Rattle.convert.specs.Codes.{bits_of}
use Rattle.convert.specs.Blocks.{block_left, high_lows}
use Rattle.convert.specs.Shapes.{shaped, symbol_of_bits, end_limit}
use Rattle.convert.proofs.Shapes.{shaped_size}
use Rattle.masks.specs.Block.{voxel_at, block_mask}
use Rattle.masks.specs.Shapes.{voxel_shape, mask_shape}
use Rattle.masks.proofs.Block.{mask_agree, mask_fits}
use Rattle.masks.proofs.Shapes.{merged_mask, merged_one_lem}
use Rattle.pruned.specs.Left.{all_mark}
use Rattle.pruned.specs.Laying.{joined_packed, joined_out}
use Rattle.pruned.proofs.Laying.{unpacked, joined}
use Rattle.at_once.specs.Words.{word_levels}
use Rattle.at_once.specs.Pruning.{PrunedCodes}
use Rattle.at_once.specs.Counting.{BlockJob, colours_of, PutBack}
use Rattle.at_once.specs.Merged.{shape_over, LaidShape, AtPlace, TextJob}
use Rattle.at_once.proofs.Jobs.{all_sound, leftover, prune_job, mark_is, below_same, left_job, left_colours, left_suc, lower_block, upper_block_lem}
use Rattle.at_once.proofs.Jobs.{lower_job, lower_at, upper_job, upper_at, carrying_same, same_then, same_below}

-- ---- any colours
voxels_size : (colours : Colouring) (n : ℕ) (b : Block) → size (voxel_shape colours n b) + 1 ≡ 2 ^ suc n
unfolding voxel_shape size
voxels_size colours zero b = refl
voxels_size colours (suc n) b = omega (arith, voxels_size colours n (blocks.low b), voxels_size colours n (blocks.high b), pow-suc 2 (suc n))

shape_size : (colours : Colouring) (n : ℕ) (b : Block) → size (shaped true (voxel_shape colours n b)) + 1 ≤ 2 ^ suc n
shape_size colours n b = omega (arith, shaped_size true (voxel_shape colours n b), voxels_size colours n b)

mask_shape_lem : (colours : Colouring) (n : ℕ) (b : Block) → shaped true (voxel_shape colours n b) ≡ mask_shape n (block_mask colours n b)
unfolding shaped
mask_shape_lem colours n b = merged_mask colours n b

pub shape_agree : (c d : Colouring) (n : ℕ) (b : Block) → ((i : ℕ) → c (voxel_at n b i) ≡ d (voxel_at n b i)) →
    shaped true (voxel_shape c n b) ≡ shaped true (voxel_shape d n b)
shape_agree c d n b h = mask_shape_lem c n b ∙ ap (mask_shape n) (mask_agree c d n b (λ i l. h i)) ∙ sym (mask_shape_lem d n b)

-- ---- a mark's bits that are not 0
pub closed_bits : (m : Mark) {mark : ℕ} → mark ≡ bits_of m → (mark ≡ 0 → ⊥) → (c : Colour) × (m ≡ decided c) × (symbol_of_bits mark ≡ symbol_of c)
closed_bits (decided White) e k = (White, refl, rw e)
closed_bits (decided Black) e k = (Black, refl, rw e)
closed_bits undecided e k = absurd (k e)

-- ---- a block
module _ {surfaces : Surfaces} {axes : ℕ} {table lengths low side : List ℕ} {left : ℕ} {codes : List ℕ} {from count times : ℕ}
    (job : BlockJob surfaces axes table lengths low side left codes from count times) {at : ℕ} (place : AtPlace left at) where
  abbrev b : Block
  b = block_left job.at.universe left low

  pub block_fits : at + 1 < end_limit
  block_fits = omega (arith, place.fits, pow-suc 2 left, pow_pos left)

  -- its word
  module _ (few : left ≤ word_levels) {word : ℕ} (w : word ≡ block_mask (colours_of job) left b) where
    pub word_text : TextJob word left at
    word_text = record { few = few; digits = subst (λ (m : ℕ). m < 2 ^ 2 ^ left) (sym w) (mask_fits (colours_of job) left b); place = place }

    pub word_laid : {out out' : List ℕ} {packed : ℕ} → LaidShape (mask_shape left word) out at packed out' → LaidShape (shape_over job) out at packed out'
    word_laid {out} {out'} {packed} l =
        subst (λ (s : Shape). LaidShape s out at packed out') (ap (mask_shape left) w ∙ sym (mask_shape_lem (colours_of job) left b)) l

  -- pruned
  module _ (h : 2 ≤ times) {codes' : List ℕ} {mark nodes : ℕ} (pruned : PrunedCodes (prune_job job h) codes' mark nodes) where
    abbrev trees : List Plain
    trees = job.carrying.trees

    pub decided_laid : (mark ≡ 0 → ⊥) → (out : List ℕ) {symbol : ℕ} → symbol ≡ symbol_of_bits mark →
        LaidShape (shape_over job) out at ((at + 1) * 256 + symbol) out
    unfolding shaped size leaf_symbol laid
    decided_laid k out {symbol} e =
        let d = closed_bits (all_mark surfaces trees b) (mark_is job h pruned) k in
        let s : shape_over job ≡ leaf d.0 =
        merged_one_lem (colours_of job) left b d.0 (leftover job) (λ v w. all_sound surfaces b v w trees d.0 d.1) in
        let l : LaidShape (leaf d.0) out at ((at + 1) * 256 + symbol) out = record { piece = rw (e, d.2); room = refl } in
        subst (λ (x : Shape). LaidShape x out at ((at + 1) * 256 + symbol) out) (sym s) l

    module _ (z : mark ≡ 0) where
      pub not_white : mark ≡ 2 → ⊥
      not_white e = omega arith

      pub not_black : mark ≡ 1 → ⊥
      not_black e = omega arith

      module _ (n : ℕ) (e : times ≡ n + 1) where
        pub open_job : BlockJob surfaces axes table lengths low side left codes' (from + count) nodes n
        open_job = left_job job h pruned not_white not_black n e

        pub open_laid : {out out' : List ℕ} {packed : ℕ} → LaidShape (shape_over open_job) out at packed out' → LaidShape (shape_over job) out at packed out'
        unfolding open_job left_job
        open_laid {out} {out'} {packed} l =
            subst (λ (s : Shape). LaidShape s out at packed out')
            (sym (shape_agree (colours_of job) _ left b (left_colours job h pruned not_white not_black n e))) l

        pub open_back : {low' side' codes'' : List ℕ} → PutBack (from + count + nodes) low side codes' low' side' codes'' →
            PutBack (from + count) low side codes low' side' codes''
        open_back p =
            record { lows = p.lows; sides = p.sides; below = same_then (below_same job h pruned) (same_below (omega arith) p.below) }

-- ---- both halves
module _ {surfaces : Surfaces} {axes : ℕ} {table lengths low side : List ℕ} {left : ℕ} {codes : List ℕ} {from count : ℕ}
    (job : BlockJob surfaces axes table lengths low side left codes from count left) (some : 1 ≤ left) {at : ℕ} (place : AtPlace left at) where
  abbrev v : Universe
  v = job.at.universe

  abbrev P : Block
  P = block_left v left low

  abbrev axis : ℕ
  axis = get_or table (left - 1) 0

  abbrev half : ℕ
  half = get_or side axis 0 / 2

  abbrev colours : Colouring
  colours = colours_of job

  abbrev lowest : Shape
  lowest = voxel_shape colours (left - 1) (block_left v (left - 1) low)

  abbrev highest : Shape
  highest = voxel_shape colours (left - 1) (block_left v (left - 1) (high_lows low side axis))

  parts_are : voxel_shape colours left P ≡ halved lowest highest
  unfolding voxel_shape
  parts_are =
      ap (λ (n : ℕ). voxel_shape colours n P) (left_suc job some)
      ∙ ap₂ (λ (x y : Block). halved (voxel_shape colours (left - 1) x) (voxel_shape colours (left - 1) y))
      (sym (lower_block job some)) (sym (upper_block_lem job some))

  half_few : 2 ^ suc left ≡ 2 ^ suc (left - 1) + 2 ^ suc (left - 1)
  half_few = ap (λ (k : ℕ). 2 ^ suc k) (left_suc job some) ∙ omega (arith, pow-suc 2 (suc (left - 1)))

  pub lower_place : AtPlace (left - 1) (at + 1)
  lower_place = record { fits = omega (arith, place.fits, half_few, pow-suc 2 (left - 1), pow_pos (left - 1)) }

  -- the low half is laid
  module _ {packed₁ : ℕ} {out out₁ low₁ side₁ codes₁ : List ℕ} (l : LaidShape (shape_over (lower_job job some)) out (at + 1) packed₁ out₁)
      (p : PutBack (from + count) low (set side axis half) codes low₁ side₁ codes₁) where
    lower_is : LaidShape (shaped true lowest) out (at + 1) packed₁ out₁
    unfolding lower_job lower_at
    lower_is = l

    middle_is : packed₁ / 256 ≡ at + 1 + size (shaped true lowest)
    middle_is = (unpacked (at + 1) (shaped true lowest) lower_is.piece).0

    pub upper_place : AtPlace (left - 1) (packed₁ / 256)
    upper_place = record { fits = omega (arith, place.fits, middle_is, half_few, shape_size colours (left - 1) (block_left v (left - 1) low)) }

    abbrev UpperJob : List ℕ → List ℕ → Type 0
    UpperJob lows sides = BlockJob surfaces axes table lengths lows sides (left - 1) codes₁ from count (left - 1 + 1)

    low_is : set low₁ axis (get_or low axis 0 + half) ≡ high_lows low side axis
    low_is = ap (λ (l : List ℕ). set l axis (get_or low axis 0 + half)) p.lows

    pub higher_job : UpperJob (set low₁ axis (get_or low axis 0 + half)) side₁
    higher_job = rw (low_is, p.sides) (upper_job job some p.below)

    -- so is the high one
    module _ {packed₂ : ℕ} {out₂ low₂ side₂ codes₂ : List ℕ}
        (f : (j : UpperJob (set low₁ axis (get_or low axis 0 + half)) side₁) → LaidShape (shape_over j) out₁ (packed₁ / 256) packed₂ out₂)
        (r : PutBack (from + count) (set low₁ axis (get_or low axis 0 + half)) side₁ codes₁ low₂ side₂ codes₂) where
      upper_is : LaidShape (shaped true highest) out₁ (packed₁ / 256) packed₂ out₂
      unfolding upper_job upper_at carrying_same
      upper_is =
          let g = subst (λ (l : List ℕ). (j : UpperJob l side₁) → LaidShape (shape_over j) out₁ (packed₁ / 256) packed₂ out₂) low_is f in
          let h = subst (λ (s : List ℕ). (j : UpperJob (high_lows low side axis) s) → LaidShape (shape_over j) out₁ (packed₁ / 256) packed₂ out₂) p.sides g in
          h (upper_job job some p.below)

      pub both_back : PutBack (from + count) low side codes (set low₂ axis (get_or low axis 0)) (set side₂ axis (get_or side axis 0)) codes₂
      both_back =
          record {
            lows = ap (λ (l : List ℕ). set l axis (get_or low axis 0)) (r.lows ∙ low_is) ∙ restored low axis (get_or low axis 0 + half);
            sides = ap (λ (l : List ℕ). set l axis (get_or side axis 0)) (r.sides ∙ p.sides) ∙ restored side axis half;
            below = same_then p.below r.below;
          }

      pub end_few : packed₂ / 256 < end_limit
      end_few =
          omega (
            arith,
            (unpacked (packed₁ / 256) (shaped true highest) upper_is.piece).0,
            upper_place.fits,
            shape_size colours (left - 1) (block_left v (left - 1) (high_lows low side axis)),
          )

      pub both_laid : {packed : ℕ} {out₃ : List ℕ} → packed ≡ joined_packed true at (packed₁ % 256) (packed₂ % 256) (packed₂ / 256) →
          out₃ ≡ joined_out true out₂ at (packed₁ % 256) (packed₁ / 256) (packed₂ % 256) → LaidShape (shape_over job) out at packed out₃
      both_laid e j =
          let q = joined true out at parts_are lower_is.piece lower_is.room upper_is.piece upper_is.room e j in
          record { piece = q.0; room = q.1 }
