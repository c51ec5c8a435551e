-- The words of both halves of a block at once: a row's value at the high half's first voxel is that at the low half's and what it is more half a side along the
-- halved axis. The texts of both words, laid and joined, are the merged shape of the block.
use mathlib.Core.Path.{◌≡◌, refl, sym, ap, ◌∙◌, subst}
use mathlib.Core.List.{List}
use mathlib.Core.Bool.{true}
use Prim.Native.Nat.{ℕ, ◌+◌, ◌*◌, ◌/◌, ◌%◌, ◌^◌, ◌≤◌, ◌<◌}
use native.Mathlib.Omega.{arith}
use lib.ListN.{length, get_or}
use lib.Seq.{get_or-set_same, get_or-set_other}
use lib.IntN.{ℤ, pos, nat_abs, ◌+ℤ◌, ◌*ℤ◌}
use mir.Syntax.{w64}
use mir.Val.{SFits}
use Rattle.lemmas.specs.Sums.{total}
use Rattle.lemmas.proofs.Machine.{Near, near_lit, near_nat, near_add, near_mul, near_back, near_call, near_fits, near_size, near_as}
use Rattle.lemmas.proofs.Whole.{ι, ν, ◌⊕◌, ◌⊗◌, eq_by}
use Rattle.universe.specs.Universe.{most_axes, longest_side, coefficient_limit}
use Rattle.universe.proofs.Blocks.{given_length}
use Rattle.csg.specs.Halfspace.{Halfspace, row_at, row_count, centre_value}
use Rattle.csg.specs.Surfaces.{Surfaces, halfspace, ball}
use Rattle.csg.specs.Marks.{surface_colour}
use Rattle.convert.specs.Small.{SmallCoefficient, SmallPlace}
use Rattle.pruned.proofs.Moving.{held}
use Rattle.convert.specs.Blocks.{block_left, halved_sides, high_lows}
use Rattle.convert.specs.Shapes.{end_limit}
use Rattle.pruned.specs.Left.{all_colour}
use Rattle.pruned.specs.Laying.{joined_packed, joined_out}
use Rattle.masks.proofs.Leaves.{total_one}
use Rattle.masks.specs.Block.{block_mask}
use Rattle.masks.specs.Shapes.{mask_shape}
use Rattle.masks.specs.Leaves.{value_limit, step_limit, row_mask}
use Rattle.at_once.specs.Words.{word_levels, doublings_of, WordBlock, word_block, step_at, RowReady, term_of, first_value, RowNamed, StepsOf, TreesWord}
use Rattle.at_once.specs.Moves.{PowerPlace}
use Rattle.at_once.specs.Both.{places_along}
use Rattle.at_once.specs.Codes.{SameCodes}
use Rattle.at_once.specs.Counting.{BlockJob, colours_of}
use Rattle.at_once.specs.Merged.{shape_over, LaidShape, AtPlace, TextJob}
use Rattle.at_once.proofs.RowValues.{coefficient_near, first_centre}
use Rattle.at_once.proofs.WordBlocks.{taken, low_small, row_named, within, value_near, row_ready, row_gives}
use Rattle.at_once.proofs.Jobs.{put_same, trees_job, trees_are, axis_within, lower_job, upper_job}
use Rattle.at_once.proofs.Layings.{word_text, word_laid, lower_place, upper_place, end_few, both_laid}

-- ---- a row's value so far along an axis
value_along : (h : Halfspace) (low : List ℕ) (axis half : ℕ) → length low ≡ most_axes → axis < most_axes →
    first_value h (places_along low axis half) ≡ first_value h low +ℤ pos 2 *ℤ h.coefficient axis *ℤ pos half
unfolding first_value
value_along h low axis half e l =
    ap (λ (x : ℤ). pos 2 *ℤ h.offset +ℤ x)
    (total_one most_axes axis (term_of h low) (term_of h (places_along low axis half)) (pos 2 *ℤ h.coefficient axis *ℤ pos half) l
    (λ i m k. ap (λ (x : ℕ). h.coefficient i *ℤ pos (2 * x + 1)) (get_or-set_other low axis i (get_or low axis 0 + half) 0 (λ q. k (sym q))))
    (ap (λ (x : ℕ). h.coefficient axis *ℤ pos (2 * x + 1)) (get_or-set_same low axis (get_or low axis 0 + half) 0 (omega arith))
    ∙ further (h.coefficient axis) (get_or low axis 0)))
    ∙ around (pos 2 *ℤ h.offset) (total most_axes (term_of h low)) (pos 2 *ℤ h.coefficient axis *ℤ pos half)
  where
    further : (c : ℤ) (x : ℕ) → c *ℤ pos (2 * (x + half) + 1) ≡ c *ℤ pos (2 * x + 1) +ℤ pos 2 *ℤ c *ℤ pos half
    further c x = eq_by (ι c ⊗ ν (2 * (x + half) + 1)) (ι c ⊗ ν (2 * x + 1) ⊕ ν 2 ⊗ ι c ⊗ ν half) (omega arith)

    around : (o t k : ℤ) → o +ℤ (t +ℤ k) ≡ o +ℤ t +ℤ k
    around o t k = eq_by (ι o ⊕ (ι t ⊕ ι k)) (ι o ⊕ ι t ⊕ ι k) (omega arith)

-- ---- what it is more: twice the amount of its coefficient and the length
module _ {rows : List ℤ} {i : ℕ} (row : RowNamed rows i) {axis half : ℕ} (l : axis < most_axes) (short : SmallPlace half) where
  abbrev coefficient : ℤ
  coefficient = (row_at rows i).coefficient axis

  more_small : nat_abs (pos 2 *ℤ coefficient *ℤ pos half) ≤ step_limit
  more_small =
      (near_mul {x = pos 2 *ℤ coefficient} {y = pos half}
      (near_mul {x = pos 2} {y = coefficient} (near_lit (pos 2)) (record { same = refl; size = (row.small.coefficient axis l).most }))
      (near_nat half longest_side short.most)).size

-- the amount, as the machine has it by the length's doublings, and twice it
module _ {rows : List ℤ} {i : ℕ} (row : RowNamed rows i) {axis half : ℕ} (l : axis < most_axes) (place : PowerPlace half) {times : ℕ}
    (t : times ≡ doublings_of half) where
  abbrev read : ℤ
  read = held (get_or rows (5 * i + 1 + axis) (pos 0))

  length_is : 2 ^ times ≡ half
  length_is = ap (λ (n : ℕ). 2 ^ n) t ∙ sym place.power

  pub amount_asks : SmallCoefficient read × ((times < 64) × SmallPlace (2 ^ times))
  amount_asks =
      let short : SmallPlace (2 ^ times) = record { most = omega (arith, length_is, place.short.most) } in
      (record { most = (near_size (coefficient_near row axis l)).most }, (omega (arith, t), short))

  module _ {r : ℤ} (e : r ≡ read *ℤ pos (2 ^ times)) where
    abbrev once : ℤ
    once = (row_at rows i).coefficient axis *ℤ pos half

    once_near : Near (held r) once (coefficient_limit * longest_side)
    once_near =
        near_call {x = once} (e ∙ ap (λ (n : ℕ). read *ℤ pos n) length_is)
        (near_mul {x = (row_at rows i).coefficient axis} {y = pos half} (coefficient_near row axis l) (near_nat half longest_side place.short.most)) tt

    twice_near : Near (held r +ℤ held r) (pos 2 *ℤ (row_at rows i).coefficient axis *ℤ pos half) step_limit
    twice_near =
        near_as {x = once +ℤ once} (near_add {x = once} {y = once} once_near once_near) (doubled ((row_at rows i).coefficient axis)) (omega arith)
      where
        doubled : (c : ℤ) → c *ℤ pos half +ℤ c *ℤ pos half ≡ pos 2 *ℤ c *ℤ pos half
        doubled c = eq_by (ι c ⊗ ν half ⊕ ι c ⊗ ν half) (ν 2 ⊗ ι c ⊗ ν half) (omega arith)

    pub twice_fits : SFits w64 (held r +ℤ held r)
    twice_fits = near_fits {x = pos 2 *ℤ (row_at rows i).coefficient axis *ℤ pos half} twice_near tt

    pub twice_is : held (held r +ℤ held r) ≡ pos 2 *ℤ (row_at rows i).coefficient axis *ℤ pos half
    twice_is = (near_back {x = pos 2 *ℤ (row_at rows i).coefficient axis *ℤ pos half} twice_near tt).same

-- ---- both halves
module _ {surfaces : Surfaces} {axes : ℕ} {table lengths low : List ℕ} {axis : ℕ} (half : ℕ)
    (below : WordBlock surfaces axes table lengths low word_levels)
    (above : WordBlock surfaces axes table lengths (places_along low axis half) word_levels) (l : axis < most_axes) where
  pub low_long : length low ≡ most_axes
  low_long = given_length below.given

  along_few : get_or low axis 0 + half ≤ longest_side
  along_few =
      omega (
        arith,
        get_or-set_same low axis (get_or low axis 0 + half) 0 (omega (arith, low_long)),
        ((low_small above).place axis).most,
      )

  pub along_fits : get_or low axis 0 + half < 2 ^ 64
  along_fits = omega (arith, along_few)

  half_small : SmallPlace half
  half_small = record { most = omega (arith, along_few) }

  -- a row's words
  module _ (i : ℕ) (n : i < row_count surfaces.rows) where
    abbrev h : Halfspace
    h = row_at surfaces.rows i

    abbrev more : ℤ
    more = pos 2 *ℤ h.coefficient axis *ℤ pos half

    module _ {v : ℤ} (e : v ≡ first_value h low) {steps : List ℤ} (s : StepsOf h table lengths steps) {m : ℤ} (f : m ≡ more) where
      more_near : Near (held m) more step_limit
      more_near = near_call {x = more} f (record { same = refl; size = more_small (row_named below i n) l half_small }) tt

      sum_near : Near (held v +ℤ held m) (centre_value below.universe h low +ℤ more) (value_limit + step_limit)
      sum_near = near_add {x = centre_value below.universe h low} {y = more} (value_near below i n e s) more_near

      pub sum_fits : SFits w64 (held v +ℤ held m)
      sum_fits = near_fits {x = centre_value below.universe h low +ℤ more} sum_near tt

      sum_is : held v +ℤ held m ≡ first_value h (places_along low axis half)
      sum_is =
          sum_near.same
          ∙ ap (λ (x : ℤ). x +ℤ more) (sym (first_centre below.universe (taken below).few_axes h (within below i n) low))
          ∙ sym (value_along h low axis half low_long l)

      pub above_ready : RowReady word_levels (held (held v +ℤ held m)) steps
      above_ready = row_ready above i n sum_is s

      pub above_gives : (w : WordBlock surfaces axes table lengths (places_along low axis half) word_levels) {r : ℕ} →
          r ≡ row_mask (held (held v +ℤ held m)) (step_at steps) word_levels →
          r ≡ block_mask (surface_colour surfaces w.universe (halfspace i)) word_levels (word_block w)
      above_gives w = row_gives w i n sum_is s

-- a ball's word over a block whose low places are these
pub ball_along : {surfaces : Surfaces} {axes : ℕ} {table lengths low places : List ℕ} (i : ℕ) → low ≡ places → {r : ℕ} →
    ((w : WordBlock surfaces axes table lengths low word_levels) →
    r ≡ block_mask (surface_colour surfaces w.universe (ball i)) word_levels (word_block w)) →
    (w : WordBlock surfaces axes table lengths places word_levels) →
    r ≡ block_mask (surface_colour surfaces w.universe (ball i)) word_levels (word_block w)
ball_along {surfaces} {axes} {table} {lengths} i e {r} f =
    subst (λ (l : List ℕ). (w : WordBlock surfaces axes table lengths l word_levels) →
    r ≡ block_mask (surface_colour surfaces w.universe (ball i)) word_levels (word_block w)) e f

-- ---- a block whose halves have the levels of a word
pub some : 1 ≤ word_levels + 1
some = omega arith

pub six : word_levels ≤ word_levels
six = omega arith

pub words_place_lem : {left at : ℕ} → left ≡ word_levels + 1 → AtPlace left at → AtPlace (word_levels + 1) at
words_place_lem {at = at} e place = subst (λ (n : ℕ). AtPlace n at) e place

module _ {surfaces : Surfaces} {axes : ℕ} {table lengths low side codes : List ℕ} {from count : ℕ} where
  pub words_job : {left : ℕ} → left ≡ word_levels + 1 → BlockJob surfaces axes table lengths low side left codes from count left →
      BlockJob surfaces axes table lengths low side (word_levels + 1) codes from count (word_levels + 1)
  words_job e job = subst (λ (n : ℕ). BlockJob surfaces axes table lengths low side n codes from count n) e job

  pub as_laid : {left at packed : ℕ} {out out' : List ℕ} → left ≡ word_levels + 1 →
      ((job : BlockJob surfaces axes table lengths low side (word_levels + 1) codes from count (word_levels + 1)) →
      LaidShape (shape_over job) out at packed out') →
      (job : BlockJob surfaces axes table lengths low side left codes from count left) → LaidShape (shape_over job) out at packed out'
  as_laid {at = at} {packed} {out} {out'} e f =
      subst (λ (n : ℕ). (job : BlockJob surfaces axes table lengths low side n codes from count n) → LaidShape (shape_over job) out at packed out') (sym e) f

  -- the texts of both words
  module _ (job : BlockJob surfaces axes table lengths low side (word_levels + 1) codes from count (word_levels + 1)) where
    abbrev axis : ℕ
    axis = get_or table word_levels 0

    same : SameCodes (from + count) codes codes
    same = record { same = λ k h. refl; long = refl }

    pub axis_here : axis < most_axes
    axis_here = axis_within job some

    pub low_trees : TreesWord surfaces axes table lengths low word_levels codes from count
    low_trees = trees_job (lower_job job some) six

    pub high_trees : TreesWord surfaces axes table lengths (high_lows low side axis) word_levels codes from count
    high_trees = trees_job (upper_job job some same) six

    abbrev IsWord : ℕ → List ℕ → Type 0
    IsWord word places =
        (j : TreesWord surfaces axes table lengths places word_levels codes from count) →
        word ≡ block_mask (all_colour surfaces j.block.universe j.carried.trees) word_levels (word_block j.block)

    module _ {at : ℕ} (place : AtPlace (word_levels + 1) at) {below above : ℕ} (e : IsWord below low) (f : IsWord above (high_lows low side axis)) where
      low_place : AtPlace word_levels (at + 1)
      low_place = lower_place job some place

      low_is : below ≡ block_mask (colours_of (lower_job job some)) word_levels (block_left (lower_job job some).at.universe word_levels low)
      low_is = trees_are (lower_job job some) six e

      pub low_text : TextJob below word_levels (at + 1)
      low_text = word_text (lower_job job some) low_place six low_is

      module _ {packed₁ : ℕ} {out out₁ : List ℕ} (l : LaidShape (mask_shape word_levels below) out (at + 1) packed₁ out₁) where
        low_laid : LaidShape (shape_over (lower_job job some)) out (at + 1) packed₁ out₁
        low_laid = word_laid (lower_job job some) low_place six low_is l

        high_place : AtPlace word_levels (packed₁ / 256)
        high_place = upper_place job some place low_laid put_same

        pub high_text : TextJob above word_levels (packed₁ / 256)
        high_text = word_text (upper_job job some same) high_place six (trees_are (upper_job job some same) six f)

        module _ {packed₂ : ℕ} {out₂ : List ℕ} (h : LaidShape (mask_shape word_levels above) out₁ (packed₁ / 256) packed₂ out₂) where
          high_laid : (j : BlockJob surfaces axes table lengths (high_lows low side axis) (halved_sides side axis) word_levels codes from count (word_levels + 1)) →
              LaidShape (shape_over j) out₁ (packed₁ / 256) packed₂ out₂
          high_laid j = word_laid j high_place six (trees_are j six f) h

          pub words_end : packed₂ / 256 < end_limit
          words_end = end_few job some place low_laid put_same high_laid put_same

          pub words_laid : {packed : ℕ} {out₃ : List ℕ} → packed ≡ joined_packed true at (packed₁ % 256) (packed₂ % 256) (packed₂ / 256) →
              out₃ ≡ joined_out true out₂ at (packed₁ % 256) (packed₁ / 256) (packed₂ % 256) → LaidShape (shape_over job) out at packed out₃
          words_laid p q = both_laid job some place low_laid put_same high_laid put_same p q
