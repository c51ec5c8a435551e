-- One side of a surface left alone over a block: judged BLACK or WHITE the block is one leaf, undecided it is halved, and the same side is left over both
-- halves, which are laid one behind the other and joined.
use Prim.Native.Nat.{ℕ, suc, ◌+◌, ◌*◌, ◌-◌, ◌/◌, ◌%◌, ◌^◌, ◌≤◌, ◌<◌}
use mathlib.Core.Path.{◌≡◌, refl, sym, ap, ap₂, ◌∙◌, subst}
use mathlib.Core.Bool.{Bool, true, false}
use mathlib.Core.List.{List, [], ◌∷◌}
use native.Mathlib.Omega.{arith}
use lib.Dec.{eqb}
use lib.ListN.{length, get_or, set}
use Rattle.universe.specs.declared.Universe.{Universe}
use Rattle.universe.specs.declared.Block.{Block}
use Rattle.universe.specs.Universe.{most_axes, most_levels, levels, axis_at}
use Rattle.universe.proofs.Universes.{accepted, levels_few}
use Rattle.universe.specs.Block.{low, high}
use Rattle.bintree.specs.declared.Colour.TheVariants.{White, Black}
use Rattle.bintree.specs.Shape.{Shape, leaf, halved, size}
use Rattle.bintree.specs.Walks.{leaf_symbol, laid}
use Rattle.bintree.proofs.Shape.{size_positive}
use Rattle.csg.specs.Halfspace.{Mark, decided, undecided}
use Rattle.csg.specs.Surfaces.{Surfaces, Surface}
use Rattle.csg.specs.Tree.{Plain}
use Rattle.csg.specs.Marks.{side_mark, intersection_mark}
use Rattle.convert.specs.Codes.{bits_of, tested_code}
use Rattle.convert.specs.Blocks.{Standing, block_left, halved_sides, high_lows}
use Rattle.convert.proofs.Blocks.{axis_few, lower_standing, upper_standing, lower_is, upper_is}
use Rattle.convert.specs.Shapes.{shaped, symbol_of_bits, end_limit}
use Rattle.convert.proofs.Shapes.{shaped_leaf, shaped_size}
use Rattle.pruned.specs.Left.{as_mark, side_left, left_by, all_mark, all_left, all_nodes, nodes}
use Rattle.pruned.specs.Looked.{examine_all, looked_from}
use Rattle.pruned.specs.Nodes.{judged_marks, all_mark_by, turned_code}
use Rattle.pruned.specs.Laying.{packed_shape, joined_packed, joined_out, halves_shape, looked_in_halves, SoundScene}
use Rattle.pruned.specs.Single.{side_alone, single_shape, single_parts, looked_in_parts, SingleBlock, SingleBlockLaid, SingleHalves}
use Rattle.pruned.specs.Single.{SingleHalvesLaid}
use Rattle.pruned.proofs.Looked.{looked_least, all_undecided, looked_undecided}
use Rattle.pruned.proofs.Leaves.{own_mark, own_turned}
use Rattle.pruned.proofs.Laying.{Judgement, one_leaf, unsettled, judgement, judged_over, tally_set, unpacked, halves_size, joined}

pub not_so : ◌≡◌ {A = Bool} false true → ⊥
not_so e = let z : ◌≡◌ {A = ℕ} 0 1 = cc in absurd (omega arith)

-- ---- the code of a side
turned_open : (turned : Bool) (bits : ℕ) → turned_code turned bits ≡ 0 → bits ≡ 0
turned_open true bits z = omega arith
turned_open false bits z = z

open_turned : (turned : Bool) → turned_code turned 0 ≡ 0
open_turned true = refl
open_turned false = refl

-- at the centre of a voxel it is decided
pub tested_decided : (t : Bool) → tested_code t true ≡ 0 → ⊥
tested_decided true z = absurd (omega arith)
tested_decided false z = absurd (omega arith)

-- ---- the mark of one side alone
side_alone_lem : (turned : Bool) (s : Surface) (m : Mark) → intersection_mark (as_mark (side_left turned s m)) (decided Black) ≡ m
unfolding intersection_mark
side_alone_lem turned s (decided White) = refl
side_alone_lem turned s (decided Black) = refl
side_alone_lem turned s undecided = refl

alone_mark : (marks : Bool → Surface → Mark) (turned : Bool) (s : Surface) → all_mark_by marks (side_alone turned s) ≡ marks turned s
unfolding all_mark_by left_by
alone_mark marks turned s = side_alone_lem turned s (marks turned s)

-- undecided, it is left as it is
alone_left : (surfaces : Surfaces) (b : Block) (turned : Bool) (s : Surface) → all_mark surfaces (side_alone turned s) b ≡ undecided →
    all_left surfaces (side_alone turned s) b ≡ side_alone turned s
unfolding all_left left_by
alone_left surfaces b turned s e =
    let f : side_mark surfaces turned s b ≡ undecided =
    sym (alone_mark (judged_marks false surfaces b) turned s) ∙ judged_over surfaces b (side_alone turned s) ∙ e in rw f

alone_nodes : (turned : Bool) (s : Surface) → ◌≡◌ {A = ℕ} (all_nodes (side_alone turned s)) 1
unfolding all_nodes nodes
alone_nodes turned s = refl

front : (l : List ℕ) → length l ≡ 1 → l ≡ get_or l 0 0 ∷ []
front [] f = absurd (omega arith)
front (x ∷ []) f = refl
front (x ∷ y ∷ l) f = absurd (omega arith)

-- ---- a block
module _ {surfaces : Surfaces} {turned : Bool} {s : Surface} {left : ℕ} {b : Block} {looked : List ℕ} {at : ℕ}
    (asked : SingleBlock surfaces turned s left b looked at) where
  abbrev ps : List Plain
  ps = side_alone turned s

  pub place_fits : at + 1 < end_limit
  place_fits = omega (arith, asked.fits, size_positive (single_shape surfaces turned s left b))

  abbrev Laid : Bool → List ℕ → ℕ → List ℕ → List ℕ → Type 0
  Laid = SingleBlockLaid surfaces turned s left b looked at

  -- the code of the surface itself, turned, is that of the tree
  module _ {bits : ℕ} (e : bits ≡ bits_of (own_mark (eqb left 0) surfaces b s)) where
    abbrev mark : ℕ
    mark = turned_code turned bits

    how : Judgement surfaces ps b left mark
    how =
        judgement surfaces ps b left mark
        (ap (turned_code turned) e ∙ own_turned (eqb left 0) surfaces b turned s ∙ ap bits_of (sym (alone_mark (judged_marks (eqb left 0) surfaces b) turned s)))

    -- decided, it is one leaf, held back
    pub single_closed : (bits ≡ 0 → ⊥) → {packed : ℕ} → packed ≡ (at + 1) * 256 + symbol_of_bits mark → (m : Bool) (out : List ℕ) → Laid m out packed out looked
    unfolding leaf_symbol size laid
    single_closed n {packed} q m out = by how
      where
        by : Judgement surfaces ps b left mark → Laid m out packed out looked
        by (unsettled k z p u v) = absurd (n (turned_open turned bits z))
        by (one_leaf c k p shape_is g) =
            let shape : shaped m (single_shape surfaces turned s left b) ≡ leaf c = ap (shaped m) shape_is ∙ shaped_leaf m c in
            record {
              piece = rw (shape, q, p) refl;
              room = rw shape refl;
              counted = front looked asked.tallied
                  ∙ ap (λ (k : ℕ). k ∷ []) (omega (arith, g, alone_nodes turned s));
            }

    -- undecided, it is halved
    module _ (z : bits ≡ 0) where
      pub record Opened : Type 0 where
        pub some : 1 ≤ left
        pub shape_is : single_shape surfaces turned s left b ≡ single_parts surfaces turned s left b
        pub looked_is : looked_from surfaces ps left b ≡ 1 + looked_in_parts surfaces turned s left b

      opened : Opened
      opened = by how
        where
          by : Judgement surfaces ps b left mark → Opened
          by (one_leaf c k p q g) = absurd (k (ap (turned_code turned) z ∙ open_turned turned))
          by (unsettled n y p u v) =
              let n_is : left - 1 ≡ n = omega arith in
              record {
                some = omega arith;
                shape_is = ap (λ (k : ℕ). examine_all surfaces ps k b) p ∙ all_undecided surfaces ps n b u
                    ∙ ap (λ (k : ℕ). halves_shape surfaces ps k b) (sym n_is);
                looked_is = ap (λ (k : ℕ). looked_from surfaces ps k b) p ∙ looked_undecided surfaces ps n b u
                    ∙ ap₂ ◌+◌ (alone_nodes turned s)
                    (ap (λ (qs : List Plain). looked_in_halves surfaces qs n b) (alone_left surfaces b turned s u)
                    ∙ ap (λ (k : ℕ). looked_in_halves surfaces ps k b) (sym n_is));
              }

      pub single_halves : SingleHalves surfaces turned s left b looked at
      single_halves =
          record {
            some = opened.some;
            fits = rw (← opened.shape_is) asked.fits;
            tallied = asked.tallied;
            counts = omega (arith, asked.counts, opened.looked_is);
          }

      pub single_opened : (m : Bool) (out : List ℕ) {packed : ℕ} {out' looked' : List ℕ} →
          SingleHalvesLaid surfaces turned s left b looked at m out packed out' looked' → Laid m out packed out' looked'
      single_opened m out d =
          record {
            piece = d.piece ∙ ap (λ (k : Shape). packed_shape at (shaped m k)) (sym opened.shape_is);
            room = d.room ∙ ap (λ (k : Shape). laid out at (shaped m k)) (sym opened.shape_is);
            counted = d.counted ∙ ap (λ (k : ℕ). k ∷ []) (omega (arith, opened.looked_is));
          }

-- ---- both halves, across the axis of the block's level
module _ {u : Universe} {surfaces : Surfaces} {turned : Bool} {s : Surface} {left : ℕ} {lows side looked : List ℕ} {at axis : ℕ} (scene : SoundScene u surfaces)
    (standing : Standing u left lows side) (at_level : axis ≡ axis_at u (levels u - suc (left - 1)))
    (asked : SingleHalves surfaces turned s left (block_left u left lows) looked at) where
  abbrev n : ℕ
  n = left - 1

  abbrev P : Block
  P = block_left u left lows

  abbrev trees : List Plain
  trees = side_alone turned s

  left_suc : left ≡ suc n
  left_suc = omega (arith, asked.some)

  pub standing_suc : Standing u (suc n) lows side
  standing_suc = subst (λ (k : ℕ). Standing u k lows side) left_suc standing

  pub block_suc : P ≡ block_left u (suc n) lows
  block_suc = ap (λ (k : ℕ). block_left u k lows) left_suc

  pub level_in : n < most_levels
  level_in = omega (arith, standing.above, asked.some, levels_few u (accepted u scene.accepted_universe))

  pub axis_in : axis < most_axes
  axis_in = axis_few u scene.accepted_universe n lows side standing_suc axis at_level

  pub lower_stands : Standing u n lows (halved_sides side axis)
  lower_stands = lower_standing u scene.accepted_universe n lows side standing_suc axis at_level

  pub upper_stands : Standing u n (high_lows lows side axis) (halved_sides side axis)
  upper_stands = upper_standing u scene.accepted_universe n lows side standing_suc axis at_level

  -- the halves are those of the block
  abbrev lower_block : Block
  lower_block = block_left u n lows

  abbrev upper_block : Block
  upper_block = block_left u n (high_lows lows side axis)

  abbrev lowest : Shape
  lowest = single_shape surfaces turned s n lower_block

  abbrev highest : Shape
  highest = single_shape surfaces turned s n upper_block

  lower_block_lem : lower_block ≡ low P
  lower_block_lem = sym (lower_is u scene.accepted_universe n lows side standing_suc axis at_level) ∙ ap low (sym block_suc)

  upper_block_lem : upper_block ≡ high P
  upper_block_lem = sym (upper_is u scene.accepted_universe n lows side standing_suc axis at_level) ∙ ap high (sym block_suc)

  parts_are : single_parts surfaces turned s left P ≡ halved lowest highest
  parts_are = ap₂ halved (ap (examine_all surfaces trees n) (sym lower_block_lem)) (ap (examine_all surfaces trees n) (sym upper_block_lem))

  abbrev lower_looked : ℕ
  lower_looked = looked_from surfaces trees n lower_block

  abbrev upper_looked : ℕ
  upper_looked = looked_from surfaces trees n upper_block

  looked_are : looked_in_parts surfaces turned s left P ≡ lower_looked + upper_looked
  looked_are = ap₂ ◌+◌ (ap (looked_from surfaces trees n) (sym lower_block_lem)) (ap (looked_from surfaces trees n) (sym upper_block_lem))

  lower_some : 1 ≤ lower_looked
  lower_some = omega (arith, looked_least surfaces trees n lower_block, alone_nodes turned s)

  upper_some : 1 ≤ upper_looked
  upper_some = omega (arith, looked_least surfaces trees n upper_block, alone_nodes turned s)

  pub two_fit : get_or looked 0 0 + 2 < 2 ^ 64
  two_fit = omega (arith, asked.counts, looked_are, lower_some, upper_some)

  sizes : size (single_parts surfaces turned s left P) ≡ suc (size lowest + size highest)
  sizes = ap size parts_are ∙ halves_size lowest highest

  abbrev looked₁ : List ℕ
  looked₁ = set looked 0 (get_or looked 0 0 + 2)

  tally : looked₁ ≡ (get_or looked 0 0 + 2) ∷ []
  tally = tally_set looked (get_or looked 0 0 + 2) asked.tallied

  pub lower_asked : SingleBlock surfaces turned s n lower_block looked₁ (at + 1)
  lower_asked =
      record {
        fits = omega (arith, asked.fits, sizes);
        tallied = ap length tally;
        counts = omega (arith, asked.counts, looked_are, lower_some, upper_some, ap (λ (k : List ℕ). get_or k 0 0) tally);
      }

  -- the low half is laid
  module _ (m : Bool) (out : List ℕ) {packed₁ : ℕ} {out₁ looked₂ : List ℕ}
      (laid₁ : SingleBlockLaid surfaces turned s n lower_block looked₁ (at + 1) m out packed₁ out₁ looked₂) where
    counted₁ : looked₂ ≡ (get_or looked 0 0 + 1 + lower_looked) ∷ []
    counted₁ = laid₁.counted ∙ ap (λ (k : ℕ). k ∷ []) (omega (arith, lower_some, ap (λ (k : List ℕ). get_or k 0 0) tally))

    middle_is : packed₁ / 256 ≡ at + 1 + size (shaped m lowest)
    middle_is = (unpacked (at + 1) (shaped m lowest) laid₁.piece).0

    pub upper_asked : SingleBlock surfaces turned s n upper_block looked₂ (packed₁ / 256)
    upper_asked =
        record {
          fits = omega (arith, asked.fits, sizes, middle_is, shaped_size m lowest);
          tallied = ap length counted₁;
          counts = omega (arith, asked.counts, looked_are, upper_some, ap (λ (k : List ℕ). get_or k 0 0) counted₁);
        }

    -- the high half is laid too
    module _ {packed₂ : ℕ} {out₂ looked₃ : List ℕ}
        (laid₂ : SingleBlockLaid surfaces turned s n upper_block looked₂ (packed₁ / 256) m out₁ packed₂ out₂ looked₃) where
      counted₂ : looked₃ ≡ (get_or looked 0 0 + looked_in_parts surfaces turned s left P) ∷ []
      counted₂ =
          laid₂.counted
          ∙ ap (λ (k : ℕ). k ∷ []) (omega (arith, upper_some, looked_are, ap (λ (k : List ℕ). get_or k 0 0) counted₁))

      pub both_asked : (at + 1 < end_limit) × (packed₂ / 256 < end_limit)
      both_asked = (
        omega (arith, asked.fits, sizes),
        omega (
          arith,
          asked.fits,
          sizes,
          middle_is,
          (unpacked (packed₁ / 256) (shaped m highest) laid₂.piece).0,
          shaped_size m lowest,
          shaped_size m highest,
        ),
      )

      pub both_done : {packed : ℕ} {out₃ : List ℕ} → packed ≡ joined_packed m at (packed₁ % 256) (packed₂ % 256) (packed₂ / 256) →
          out₃ ≡ joined_out m out₂ at (packed₁ % 256) (packed₁ / 256) (packed₂ % 256) →
          SingleHalvesLaid surfaces turned s left P looked at m out packed out₃ looked₃
      both_done p q =
          let j = joined m out at parts_are laid₁.piece laid₁.room laid₂.piece laid₂.room p q in
          record { piece = j.0; room = j.1; counted = counted₂ }
