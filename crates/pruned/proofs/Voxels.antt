-- Two voxels, the halves of a block with one level left: the colours at their centres are the digits of the trees, so that their symbols, joined, are what laying
-- both halves comes to.
use Prim.Native.Nat.{ℕ, suc, ◌+◌, ◌*◌, ◌-◌, ◌/◌, ◌%◌, ◌^◌, ◌<◌}
use mathlib.Core.Path.{◌≡◌, refl, sym, ap, ap₂, ◌∙◌, subst}
use mathlib.Core.Bool.{Bool, true}
use mathlib.Core.List.{List, [], ◌∷◌}
use native.Mathlib.Omega.{arith}
use lib.IntN.{ℤ}
use lib.ListN.{get_or, set}
use Rattle.universe.specs.declared.Block.{Block}
use Rattle.universe.specs.Universe.{levels, block_side}
use Rattle.universe.specs.Block.{low, high}
use Rattle.universe.proofs.Universes.{accepted, axis_below, side_last}
use Rattle.bintree.specs.declared.Colour.{Colour}
use Rattle.bintree.specs.declared.Colour.TheVariants.{White, Black}
use Rattle.bintree.specs.Shape.{Shape, leaf, halved, size, symbol_of}
use Rattle.bintree.specs.Walks.{leaf_symbol, laid}
use Rattle.bintree.proofs.Shape.{size_positive}
use Rattle.bintree.proofs.Lays.{leaf_laid}
use Rattle.csg.specs.Halfspace.{decided}
use Rattle.csg.specs.Surfaces.{Surfaces}
use Rattle.convert.specs.Codes.{bits_of}
use Rattle.convert.specs.Blocks.{block_left, halved_sides, high_lows}
use Rattle.convert.proofs.Blocks.{half_is}
use Rattle.convert.specs.Shapes.{shaped, symbol_of_bits, end_limit}
use Rattle.convert.proofs.Shapes.{shaped_leaf}
use Rattle.pruned.specs.Left.{all_colour}
use Rattle.pruned.specs.Looked.{examine_all, looked_from}
use Rattle.pruned.specs.Nodes.{all_postfix, bit_of, Holds, judged_marks, all_mark_by}
use Rattle.pruned.specs.Pair.{next_places, is_black, PairTrees, below_symbol, above_symbol}
use Rattle.pruned.specs.Laying.{packed_shape, joined_packed, joined_out, lower_part, upper_part, halves_shape, HalvesJob, HalvesLaid}
use Rattle.pruned.proofs.Reading.{length_all}
use Rattle.pruned.proofs.Steps.{stepping, step_low, step_high}
use Rattle.pruned.proofs.Laying.{judged_centre, tally_set, joined, u, P, axis, half, same_block, standing', at_level, lower_block, upper_block_lem}
use Rattle.pruned.proofs.Laying.{inside_same}

-- the halves of a block, where their names are taken
abbrev block_low : Block → Block
block_low b = low b

abbrev block_high : Block → Block
block_high b = high b

-- two leaves, joined
symbol_byte : (c : Colour) → symbol_of c < 256
symbol_byte Black = omega arith
symbol_byte White = omega arith

voxels_joined : (m : Bool) (out : List ℕ) (at : ℕ) {whole lowest highest : Shape} → whole ≡ halved lowest highest → {c d : Colour} →
    shaped m lowest ≡ leaf c → shaped m highest ≡ leaf d → {packed : ℕ} {out₁ : List ℕ} → packed ≡ joined_packed m at (symbol_of c) (symbol_of d) (at + 3) →
    out₁ ≡ joined_out m out at (symbol_of c) (at + 2) (symbol_of d) →
    (packed ≡ packed_shape at (shaped m whole)) × (out₁ ≡ laid out at (shaped m whole))
unfolding leaf_symbol size
voxels_joined m out at parts {c} {d} p q e o =
    let p₁ : ℕ = (at + 2) * 256 + symbol_of c in
    let p₂ : ℕ = (at + 3) * 256 + symbol_of d in
    let d₁ : p₁ / 256 ≡ at + 2 = omega (arith, symbol_byte c) in
    let d₂ : p₂ / 256 ≡ at + 3 = omega (arith, symbol_byte d) in
    let r₁ : p₁ % 256 ≡ symbol_of c = omega (arith, symbol_byte c) in
    let r₂ : p₂ % 256 ≡ symbol_of d = omega (arith, symbol_byte d) in
    joined m out at parts {packed₁ = p₁} {packed₂ = p₂} {out₁ = out} {out₂ = out} (rw p (omega arith)) (sym (leaf_laid out (at + 1) c p))
    (rw (d₁, q) (omega arith)) (sym (leaf_laid out (p₁ / 256) d q)) (rw (r₁, r₂, d₂) e) (rw (r₁, r₂, d₁) o)

module _ {surfaces : Surfaces} {axes : ℕ} {table low side : List ℕ} {left : ℕ} {work : List ℤ} {from count : ℕ}
    {looked : List ℕ} {at : ℕ} (job : HalvesJob surfaces axes table low side left work from count looked at) where
  module _ (last_one : left ≡ 1) where
    abbrev along : ℕ
    along = axis job

    none_left : left - 1 ≡ 0
    none_left = omega arith

    half_one : 1 ≡ half job
    half_one = sym (half_is (u job) job.scene.accepted_universe (left - 1) low side (standing' job) along (at_level job) ∙ unit)
      where
        unit : block_side (u job) (levels (u job) - (left - 1)) along ≡ 1
        unit =
            let z : levels (u job) - (left - 1) ≡ levels (u job) = omega (arith, none_left) in
            rw z (side_last (u job) along
            (rw (at_level job) (axis_below (u job) (accepted (u job) job.scene.accepted_universe).some_axes (levels (u job) - suc (left - 1)))))

    next_is : high_lows low side along ≡ next_places low along
    next_is = ap (λ (k : ℕ). set low along (get_or low along 0 + k)) (sym half_one)

    pub pair_job : PairTrees surfaces axes low along work from count
    unfolding step_low step_high stepping
    pair_job =
        record {
          step = record {
            side = halved_sides side along;
            places = high_lows low side along;
            next = next_is;
            below = step_low job.scene job.axes_are (standing' job) (at_level job) (λ e. none_left) half_one;
            above = step_high job.scene job.axes_are (standing' job) (at_level job) (λ e. none_left) half_one;
            one_parent = refl;
          };
          trees = job.trees;
          few = job.few;
          counted = job.counted;
          holds = subst (λ (x : Block). Holds surfaces x work from (all_postfix job.trees)) (same_block job) job.holds;
          inside = inside_same job;
        }

    each_looked : (b : Block) → looked_from surfaces job.trees (left - 1) b ≡ count
    unfolding looked_from
    each_looked b = rw none_left (sym (length_all job.trees) ∙ sym job.counted)

    pub pair_tally : get_or looked 0 0 + 2 * count < 2 ^ 64
    pair_tally = omega (arith, job.counts, each_looked (block_low (P job)), each_looked (block_high (P job)))

    pub pair_fits : at + 3 < end_limit
    pair_fits =
        omega (
          arith,
          job.fits,
          size_positive (lower_part surfaces job.trees (left - 1) (P job)),
          size_positive (upper_part surfaces job.trees (left - 1) (P job)),
        )

    abbrev colour_over : Block → Colour
    colour_over b = all_colour surfaces b.universe job.trees b.low

    voxel_leaf : (m : Bool) (b : Block) → shaped m (examine_all surfaces job.trees (left - 1) b) ≡ leaf (colour_over b)
    unfolding examine_all
    voxel_leaf m b = rw none_left (shaped_leaf m (colour_over b))

    voxel_symbol : (b : Block) → symbol_of_bits (bit_of (is_black (bits_of (all_mark_by (judged_marks true surfaces b) job.trees)))) ≡ symbol_of (colour_over b)
    voxel_symbol b = rw (judged_centre surfaces b job.trees) (by (colour_over b))
      where
        by : (c : Colour) → symbol_of_bits (bit_of (is_black (bits_of (decided c)))) ≡ symbol_of c
        by Black = refl
        by White = refl

    abbrev lowest₀ : Block
    lowest₀ = block_left (u job) (left - 1) low

    abbrev highest₀ : Block
    highest₀ = block_left (u job) (left - 1) (high_lows low side along)

    below_symbol_lem : below_symbol pair_job ≡ symbol_of (colour_over lowest₀)
    unfolding pair_job step_low step_high stepping
    below_symbol_lem = voxel_symbol lowest₀

    above_symbol_lem : above_symbol pair_job ≡ symbol_of (colour_over highest₀)
    unfolding pair_job step_low step_high stepping
    above_symbol_lem = voxel_symbol highest₀

    module _ (m : Bool) (out : List ℕ) {packed : ℕ} {out₁ looked₁ : List ℕ}
        (e : packed ≡ joined_packed m at (below_symbol pair_job) (above_symbol pair_job) (at + 3))
        (o : out₁ ≡ joined_out m out at (below_symbol pair_job) (at + 2) (above_symbol pair_job))
        (t : looked₁ ≡ set looked 0 (get_or looked 0 0 + 2 * count)) where
      halves_are_two : halves_shape surfaces job.trees (left - 1) (P job)
          ≡ halved (examine_all surfaces job.trees (left - 1) lowest₀) (examine_all surfaces job.trees (left - 1) highest₀)
      halves_are_two = ap₂ halved
          (ap (examine_all surfaces job.trees (left - 1)) (sym (lower_block job)))
          (ap (examine_all surfaces job.trees (left - 1)) (sym (upper_block_lem job)))

      two_joined : (packed ≡ packed_shape at (shaped m (halves_shape surfaces job.trees (left - 1) (P job))))
          × (out₁ ≡ laid out at (shaped m (halves_shape surfaces job.trees (left - 1) (P job))))
      two_joined =
          voxels_joined m out at halves_are_two (voxel_leaf m lowest₀) (voxel_leaf m highest₀) (rw (below_symbol_lem, above_symbol_lem) at e)
          (rw (below_symbol_lem, above_symbol_lem) at o)

      pub pair_done : HalvesLaid job m out packed out₁ looked₁ low side work
      pair_done =
          record {
            piece = two_joined.0;
            room = two_joined.1;
            counted = t ∙ tally_set looked (get_or looked 0 0 + 2 * count) job.tallied
                ∙ ap (λ (x : ℕ). x ∷ []) (omega (arith, each_looked (block_low (P job)), each_looked (block_high (P job))));
            lows = refl;
            sides = refl;
            below = record { same = λ k h. refl; long = refl };
          }
