-- What writing the raw expression meets at a block: one symbol at level L, of the colour at its centre, and where the trees are decided over it; else `(` and
-- both its halves, one behind the other. What is left of the trees over the block is examined in its halves as they are.
use Prim.Native.Nat.{ℕ, suc, ◌+◌, ◌-◌, ◌/◌, ◌^◌, ◌≤◌, ◌<◌}
use mathlib.Core.Path.{◌≡◌, refl, sym, ap, ap₂, ◌∙◌, subst}
use mathlib.Core.List.{List}
use native.Mathlib.Omega.{arith}
use native.Mathlib.Nat.{pow-suc}
use lib.ListN.{length, get_or, set}
use Rattle.lemmas.specs.Grid.{count}
use Rattle.lemmas.proofs.Stores.{restored, sets_append}
use Rattle.universe.specs.declared.Universe.{Universe}
use Rattle.universe.specs.declared.Block.{Block}
use Rattle.universe.specs.Universe.{levels}
use Rattle.universe.specs.Block as blocks
use Rattle.bintree.specs.declared.Colour.{Colour}
use Rattle.bintree.specs.declared.Colour.TheVariants.{White, Black}
use Rattle.bintree.specs.Shape.{Shape, leaf, halved, open_symbol, symbol_of, symbols, size}
use Rattle.bintree.specs.Walks.{noted}
use Rattle.bintree.proofs.Shape.{length_symbols}
use Rattle.bintree.proofs.Lays.{noted_some}
use Rattle.csg.specs.Halfspace.{undecided}
use Rattle.csg.specs.Surfaces.{Surfaces}
use Rattle.csg.specs.Tree.{Plain}
use Rattle.csg.proofs.Nested.{low_nested, high_nested}
use Rattle.demands.specs.Voxels.{is_black}
use Rattle.convert.specs.Blocks.{block_left, high_lows}
use Rattle.convert.specs.Shapes.{symbol_of_bits}
use Rattle.masks.specs.Block.{block_mask}
use Rattle.masks.proofs.Block.{mask_voxel}
use Rattle.pruned.specs.Left.{all_mark, all_left}
use Rattle.pruned.specs.Looked.{examine_all}
use Rattle.pruned.specs.Laying.{halves_shape}
use Rattle.pruned.proofs.Looked.{all_decided, all_undecided, examine_left, size_few}
use Rattle.at_once.specs.Pruning.{PrunedCodes}
use Rattle.at_once.specs.Counting.{BlockJob, colours_of, PutBack}
use Rattle.at_once.specs.Merged.{AtPlace}
use Rattle.at_once.specs.Raw.{raw_over, raw_halves, WrittenShape}
use Rattle.at_once.proofs.Jobs.{prune_job, mark_is, open_over, left_job, lower_block, upper_block_lem}
use Rattle.at_once.proofs.Jobs.{lower_job, lower_at, upper_job, upper_at, carrying_same, same_then}
use Rattle.at_once.proofs.Layings.{closed_bits}

-- ---- any shapes
leaf_written : (c : Colour) (out : List ℕ) (at : ℕ) {symbol : ℕ} {out' : List ℕ} → symbol ≡ symbol_of c → out' ≡ noted out at symbol →
    WrittenShape (leaf c) out at (at + 1) out'
unfolding size symbols
leaf_written White out at e f = record { ends = refl; room = f ∙ ap (noted out at) e ∙ sym (noted_some out at 87 (λ z. omega arith)) }
leaf_written Black out at e f = record { ends = refl; room = f ∙ ap (noted out at) e ∙ sym (noted_some out at 66 (λ z. omega arith)) }

halves_written : (a c : Shape) (out : List ℕ) (at : ℕ) {out₁ out₂ out₃ : List ℕ} {middle end : ℕ} → out₁ ≡ noted out at open_symbol →
    WrittenShape a out₁ (at + 1) middle out₂ → WrittenShape c out₂ middle end out₃ → WrittenShape (halved a c) out at end out₃
unfolding size symbols
halves_written a c out at {middle = middle} f w x =
    let j : at + 1 ≡ suc at = omega arith in
    let d : middle ≡ suc at + length (symbols a) = omega (arith, w.ends, length_symbols a) in
    let o : noted out at open_symbol ≡ set out at open_symbol = sym (noted_some out at open_symbol (λ z. omega arith)) in
    record {
      ends = x.ends ∙ omega (arith, w.ends);
      room = x.room ∙ rw (w.room, f, o, d, j) (sets_append (symbols a) (symbols c) (set out at open_symbol) (suc at));
    }

-- ---- a digit of a colour
abbrev black_digit : Colour → ℕ
black_digit c = count (is_black c)

digit_symbol : (c : Colour) → symbol_of_bits (black_digit c) ≡ symbol_of c
digit_symbol White = refl
digit_symbol Black = refl

-- ---- a block
module _ {surfaces : Surfaces} {axes : ℕ} {table lengths low side : List ℕ} {left : ℕ} {codes : List ℕ} {from count times : ℕ}
    (job : BlockJob surfaces axes table lengths low side left codes from count times) where
  abbrev b : Block
  b = block_left job.at.universe left low

  abbrev trees : List Plain
  trees = job.carrying.trees

  -- at level L
  module _ (z : left ≡ 0) {word : ℕ} (w : word ≡ block_mask (colours_of job) left b) where
    abbrev own : Colour
    own = colours_of job b.low

    word_is : word ≡ black_digit own
    word_is = w ∙ ap (λ (n : ℕ). block_mask (colours_of job) n b) z ∙ mask_voxel (colours_of job) b

    voxel_shape_lem : raw_over job ≡ leaf own
    unfolding examine_all
    voxel_shape_lem = ap (λ (n : ℕ). examine_all surfaces trees n b) z

    pub voxel_written : (out : List ℕ) {at symbol : ℕ} {out' : List ℕ} → symbol ≡ symbol_of_bits word → out' ≡ noted out at symbol →
        WrittenShape (raw_over job) out at (at + 1) out'
    voxel_written out {at} {symbol} {out'} e f =
        subst (λ (s : Shape). WrittenShape s out at (at + 1) out') (sym voxel_shape_lem)
        (leaf_written own out at (e ∙ ap symbol_of_bits word_is ∙ digit_symbol own) f)

  -- pruned, above level L
  module _ (h : 2 ≤ times) {codes' : List ℕ} {mark nodes : ℕ} (pruned : PrunedCodes (prune_job job h) codes' mark nodes) (some : 1 ≤ left) where
    left_suc : left ≡ suc (left - 1)
    left_suc = omega arith

    pub decided_written : (mark ≡ 0 → ⊥) → (out : List ℕ) {at symbol : ℕ} {out' : List ℕ} → symbol ≡ symbol_of_bits mark → out' ≡ noted out at symbol →
        WrittenShape (raw_over job) out at (at + 1) out'
    decided_written k out {at} {symbol} {out'} e f =
        let d = closed_bits (all_mark surfaces trees b) (mark_is job h pruned) k in
        let s : raw_over job ≡ leaf d.0 =
        ap (λ (n : ℕ). examine_all surfaces trees n b) left_suc ∙ all_decided surfaces trees (left - 1) b d.0 d.1 in
        subst (λ (x : Shape). WrittenShape x out at (at + 1) out') (sym s) (leaf_written d.0 out at (e ∙ d.2) f)

    module _ (z : mark ≡ 0) where
      not_white : mark ≡ 2 → ⊥
      not_white e = omega arith

      not_black : mark ≡ 1 → ⊥
      not_black e = omega arith

      unsettled : all_mark surfaces trees b ≡ undecided
      unsettled = open_over job h pruned not_white not_black

      inner : b.level < levels b.universe
      inner = omega (arith, job.at.standing.above)

      deep : suc b.level + (left - 1) ≤ levels b.universe
      deep = omega (arith, job.at.standing.above)

      abbrev trees' : List Plain
      trees' = all_left surfaces trees b

      open_shape : raw_over job ≡ halves_shape surfaces trees' (left - 1) b
      open_shape =
          ap (λ (n : ℕ). examine_all surfaces trees n b) left_suc
          ∙ all_undecided surfaces trees (left - 1) b unsettled
          ∙ sym (ap₂ halved
          (examine_left surfaces trees b unsettled (left - 1) (blocks.low b) refl (low_nested b inner) deep)
          (examine_left surfaces trees b unsettled (left - 1) (blocks.high b) refl (high_nested b inner) deep))

      module _ (n : ℕ) (e : times ≡ n + 1) where
        pub halves_job : BlockJob surfaces axes table lengths low side left codes' (from + count) nodes n
        halves_job = left_job job h pruned not_white not_black n e

        pub open_written : {out out' : List ℕ} {at end : ℕ} → WrittenShape (raw_halves halves_job) out at end out' → WrittenShape (raw_over job) out at end out'
        unfolding halves_job left_job
        open_written {out} {out'} {at} {end} l = subst (λ (s : Shape). WrittenShape s out at end out') (sym open_shape) l

-- ---- both halves
module _ {surfaces : Surfaces} {axes : ℕ} {table lengths low side : List ℕ} {left : ℕ} {codes : List ℕ} {from count : ℕ}
    (job : BlockJob surfaces axes table lengths low side left codes from count left) (some : 1 ≤ left) {at : ℕ} (place : AtPlace left at) where
  abbrev v : Universe
  v = job.at.universe

  abbrev P : Block
  P = block_left v left low

  abbrev axis : ℕ
  axis = get_or table (left - 1) 0

  abbrev half : ℕ
  half = get_or side axis 0 / 2

  abbrev shape_in : Block → Shape
  shape_in c = examine_all surfaces job.carrying.trees (left - 1) c

  abbrev lowest : Shape
  lowest = shape_in (block_left v (left - 1) low)

  abbrev highest : Shape
  highest = shape_in (block_left v (left - 1) (high_lows low side axis))

  parts_are : raw_halves job ≡ halved lowest highest
  parts_are = ap₂ halved (ap shape_in (sym (lower_block job some))) (ap shape_in (sym (upper_block_lem job some)))

  -- the low half is written
  module _ {middle : ℕ} {out₁ out₂ low₁ side₁ codes₁ : List ℕ}
      (l : WrittenShape (raw_over (lower_job job some)) out₁ (at + 1) middle out₂)
      (p : PutBack (from + count) low (set side axis half) codes low₁ side₁ codes₁) where
    lower_is : WrittenShape lowest out₁ (at + 1) middle out₂
    unfolding lower_job lower_at
    lower_is = l

    half_few : 2 ^ suc left ≡ 2 ^ suc (left - 1) + 2 ^ suc (left - 1)
    half_few = let e : left ≡ suc (left - 1) = omega arith in ap (λ (k : ℕ). 2 ^ suc k) e ∙ omega (arith, pow-suc 2 (suc (left - 1)))

    pub second_place : AtPlace (left - 1) middle
    second_place =
        record { fits = omega (arith, place.fits, lower_is.ends, half_few, size_few surfaces job.carrying.trees (left - 1) (block_left v (left - 1) low)) }

    abbrev UpperJob : List ℕ → List ℕ → Type 0
    UpperJob lows sides = BlockJob surfaces axes table lengths lows sides (left - 1) codes₁ from count (left - 1 + 1)

    low_is : set low₁ axis (get_or low axis 0 + half) ≡ high_lows low side axis
    low_is = ap (λ (l : List ℕ). set l axis (get_or low axis 0 + half)) p.lows

    pub second_job : UpperJob (set low₁ axis (get_or low axis 0 + half)) side₁
    second_job = rw (low_is, p.sides) (upper_job job some p.below)

    -- so is the high one
    module _ {end : ℕ} {out₃ low₂ side₂ codes₂ : List ℕ}
        (f : (j : UpperJob (set low₁ axis (get_or low axis 0 + half)) side₁) → WrittenShape (raw_over j) out₂ middle end out₃)
        (r : PutBack (from + count) (set low₁ axis (get_or low axis 0 + half)) side₁ codes₁ low₂ side₂ codes₂) where
      upper_is : WrittenShape highest out₂ middle end out₃
      unfolding upper_job upper_at carrying_same
      upper_is =
          let g = subst (λ (l : List ℕ). (j : UpperJob l side₁) → WrittenShape (raw_over j) out₂ middle end out₃) low_is f in
          let h = subst (λ (s : List ℕ). (j : UpperJob (high_lows low side axis) s) → WrittenShape (raw_over j) out₂ middle end out₃) p.sides g in
          h (upper_job job some p.below)

      pub halves_restored : PutBack (from + count) low side codes (set low₂ axis (get_or low axis 0)) (set side₂ axis (get_or side axis 0)) codes₂
      halves_restored =
          record {
            lows = ap (λ (l : List ℕ). set l axis (get_or low axis 0)) (r.lows ∙ low_is) ∙ restored low axis (get_or low axis 0 + half);
            sides = ap (λ (l : List ℕ). set l axis (get_or side axis 0)) (r.sides ∙ p.sides) ∙ restored side axis half;
            below = same_then p.below r.below;
          }

      pub both_written : (out : List ℕ) → out₁ ≡ noted out at open_symbol → WrittenShape (raw_halves job) out at end out₃
      both_written out o = subst (λ (s : Shape). WrittenShape s out at end out₃) (sym parts_are) (halves_written lowest highest out at o lower_is upper_is)
