-- What the recursion meets at a block: the nodes that are carried into it can be pruned; judged BLACK or WHITE it is one leaf; undecided it is halved, and what
-- is left of the trees is carried into both halves, where it is examined as they are.
use Prim.Native.Nat.{ℕ, zero, suc, ◌+◌, ◌*◌, ◌-◌, ◌/◌, ◌%◌, ◌^◌, ◌≤◌, ◌<◌}
use mathlib.Core.Path.{◌≡◌, refl, sym, ap, ap₂, ◌∙◌, subst}
use mathlib.Core.Bool.{Bool, true, false, cond}
use mathlib.Core.Logic.{inr}
use mathlib.Core.List.{List, [], ◌∷◌}
use native.Mathlib.Omega.{arith}
use native.Mathlib.Nat.{mul-le-mul_left}
use borrow.Author.Tests.{eq-eqb, eqb-true}
use lib.Count.{count_trailing_zeros}
use lib.Dec.{eqb, eqb-suc-zero}
use lib.IntN.{ℤ}
use lib.ListN.{length, get_or, set}
use Rattle.universe.specs.declared.Universe.{Universe}
use Rattle.universe.specs.declared.Block.{Block}
use Rattle.universe.specs.Universe.{levels, most_axes, most_levels, axis_at}
use Rattle.universe.proofs.Universes.{accepted, levels_few}
use Rattle.universe.specs.Block.{low, high}
use Rattle.bintree.specs.declared.Colour.{Colour}
use Rattle.bintree.specs.declared.Colour.TheVariants.{White, Black}
use Rattle.bintree.specs.Shape.{Shape, leaf, halved, size, symbol_of}
use Rattle.bintree.specs.Walks.{leaf_symbol, joined_halves, laid}
use Rattle.csg.specs.Halfspace.{Mark, decided, undecided}
use Rattle.csg.specs.Surfaces.{Surfaces, named}
use Rattle.csg.specs.Tree.{Plain, colour, side, union_of, intersection_of}
use Rattle.csg.specs.Marks.{union_colour, intersection_mark, intersection_colour, plain_colour}
use Rattle.csg.proofs.Marks.{intersection_colours}
use Rattle.csg.proofs.Nested.{low_nested, high_nested}
use Rattle.convert.specs.Codes.{bits_of}
use Rattle.convert.specs.Blocks.{Standing, block_left, halved_sides, high_lows}
use Rattle.convert.proofs.Blocks.{axis_is, axis_few, half_is, lower_is, upper_is}
use Rattle.convert.specs.Shapes.{shaped, symbol_of_bits, is_one, end_limit}
use Rattle.convert.proofs.Shapes.{shaped_leaf, shaped_size, shaped_one, shaped_apart}
use Rattle.bintree.proofs.Shape.{size_positive}
use Rattle.bintree.proofs.Lays.{leaf_laid, apart_laid}
use Rattle.lemmas.proofs.Stores.{restored}
use Rattle.pruned.specs.Left.{settled, as_mark, union_left, intersection_left, left_by, left, all_mark, all_colour, kept, all_left, all_nodes}
use Rattle.pruned.specs.Looked.{examine_all, looked_from}
use Rattle.pruned.specs.Nodes.{all_postfix, Holds, OneOrTwo, doubled, Stepping, judged_marks, block_of, all_mark_by, all_left_by, Pruning}
use Rattle.pruned.specs.Nodes.{Pruned}
use Rattle.pruned.specs.Laying.{packed_shape, joined_packed, joined_out, lower_part, upper_part, halves_shape, looked_in_halves, BlockJob, BlockLaid, HalvesJob}
use Rattle.pruned.specs.Laying.{HalvesLaid}
use Rattle.pruned.proofs.Left.{mark_is}
use Rattle.pruned.proofs.Looked.{all_nodes_fewer, looked_least, all_decided, all_undecided, looked_decided, looked_undecided, examine_left}
use Rattle.pruned.proofs.Memory.{holds_same}
use Rattle.pruned.proofs.Doublings.{doubled_is}
use Rattle.pruned.proofs.Steps.{stepping, step_low, step_high}
use Rattle.pruned.proofs.Reading.{length_all, few_left}

-- the halves of a block, where their names are taken
abbrev Block·low : Block → Block
Block·low b = low b

abbrev Block·high : Block → Block
Block·high b = high b

-- ---- the marks by which a block is judged: those over it, or at level L the colours at its centre
settled_union : (x y : Colour) → union_left (settled x) (settled y) ≡ settled (union_colour x y)
unfolding union_colour
settled_union Black y = refl
settled_union White y = refl

settled_intersection : (x y : Colour) → intersection_left (settled x) (settled y) ≡ settled (intersection_colour x y)
unfolding intersection_colour
settled_intersection White y = refl
settled_intersection Black y = refl

module _ (surfaces : Surfaces) (b : Block) where
  centre_settled : (p : Plain) → left_by (judged_marks true surfaces b) p ≡ settled (plain_colour surfaces b.universe p b.low)
  unfolding left_by plain_colour
  centre_settled (colour c) = refl
  centre_settled (side turned s) = refl
  centre_settled (union_of p q) = ap₂ union_left (centre_settled p) (centre_settled q) ∙ settled_union _ _
  centre_settled (intersection_of p q) = ap₂ intersection_left (centre_settled p) (centre_settled q) ∙ settled_intersection _ _

  pub judged_centre : (ps : List Plain) → all_mark_by (judged_marks true surfaces b) ps ≡ decided (all_colour surfaces b.universe ps b.low)
  unfolding all_mark_by all_colour
  judged_centre [] = refl
  judged_centre (p ∷ ps) = ap₂ intersection_mark (ap as_mark (centre_settled p)) (judged_centre ps) ∙ intersection_colours _ _

  pub judged_over : (ps : List Plain) → all_mark_by (judged_marks false surfaces b) ps ≡ all_mark surfaces ps b
  unfolding all_mark_by all_mark
  judged_over [] = refl
  judged_over (p ∷ ps) = ap₂ intersection_mark (sym (mark_is surfaces b p)) (judged_over ps)

  pub left_over : (ps : List Plain) → all_left_by (judged_marks false surfaces b) ps ≡ all_left surfaces ps b
  unfolding all_left_by all_left
  left_over [] = refl
  left_over (p ∷ ps) = ap (kept (left surfaces p b)) (left_over ps)

-- ---- a block by how it is judged, with so many levels left: one leaf, or undecided above level L
pub data Judgement (surfaces : Surfaces) (ps : List Plain) (b : Block) (n : ℕ) (mark : ℕ) : Type 0 where
  one_leaf : (c : Colour) → (mark ≡ 0 → ⊥) → symbol_of_bits mark ≡ symbol_of c → examine_all surfaces ps n b ≡ leaf c → looked_from surfaces ps n b ≡ all_nodes ps →
      Judgement surfaces ps b n mark
  unsettled : (m : ℕ) → mark ≡ 0 → n ≡ suc m → all_mark surfaces ps b ≡ undecided → eqb n 0 ≡ false → Judgement surfaces ps b n mark

module _ (surfaces : Surfaces) (ps : List Plain) (b : Block) where
  leaf_by : (n mark : ℕ) (c : Colour) → mark ≡ bits_of (decided c) → examine_all surfaces ps n b ≡ leaf c → looked_from surfaces ps n b ≡ all_nodes ps →
      Judgement surfaces ps b n mark
  leaf_by n mark Black e f g = one_leaf Black (λ z. omega arith) (rw e) f g
  leaf_by n mark White e f g = one_leaf White (λ z. omega arith) (rw e) f g

  pub judgement : (n mark : ℕ) → mark ≡ bits_of (all_mark_by (judged_marks (eqb n 0) surfaces b) ps) → Judgement surfaces ps b n mark
  unfolding examine_all looked_from
  judgement zero mark e =
      let z : eqb 0 0 ≡ true = eq-eqb 0 0 refl in
      let f : mark ≡ bits_of (decided (all_colour surfaces b.universe ps b.low)) = (rw z at e) ∙ ap bits_of (judged_centre surfaces b ps) in
      leaf_by 0 mark (all_colour surfaces b.universe ps b.low) f refl refl
  judgement (suc n) mark e =
      let z : eqb (suc n) 0 ≡ false = eqb-suc-zero n in
      let f : mark ≡ bits_of (all_mark surfaces ps b) = (rw z at e) ∙ ap bits_of (judged_over surfaces b ps) in
      by (all_mark surfaces ps b) refl f
    where
      by : (m : Mark) → all_mark surfaces ps b ≡ m → mark ≡ bits_of m → Judgement surfaces ps b (suc n) mark
      by (decided c) k f = leaf_by (suc n) mark c f (all_decided surfaces ps n b c k) (looked_decided surfaces ps n b c k)
      by undecided k f = unsettled n f refl k (eqb-suc-zero n)

-- what is left over an undecided block, in its halves
module _ (surfaces : Surfaces) (ps : List Plain) (b : Block) (u : all_mark surfaces ps b ≡ undecided) (n : ℕ) (inner : b.level < levels b.universe)
    (deep : suc b.level + n ≤ levels b.universe) where
  lower_left : lower_part surfaces (all_left surfaces ps b) n b ≡ lower_part surfaces ps n b
  lower_left = examine_left surfaces ps b u n (low b) refl (low_nested b inner) deep

  upper_left : upper_part surfaces (all_left surfaces ps b) n b ≡ upper_part surfaces ps n b
  upper_left = examine_left surfaces ps b u n (high b) refl (high_nested b inner) deep

pub halves_size : (a c : Shape) → size (halved a c) ≡ suc (size a + size c)
unfolding size
halves_size a c = refl

-- a symbol is a byte
pub symbol_few : (mark : ℕ) → symbol_of_bits mark ≤ 255
symbol_few mark = by (eqb mark 1)
  where
    by : (t : Bool) → cond t 66 87 ≤ 255
    by true = omega arith
    by false = omega arith

-- the one count, set
pub tally_set : (l : List ℕ) (t : ℕ) → length l ≡ 1 → set l 0 t ≡ t ∷ []
tally_set [] t f = absurd (omega arith)
tally_set (x ∷ []) t f = refl
tally_set (x ∷ y ∷ l) t f = absurd (omega arith)

-- ---- a block
module _ {surfaces : Surfaces} {axes : ℕ} {table low side : List ℕ} {axis half : ℕ} {high : Bool} {left : ℕ} {work : List ℤ} {from count to : ℕ}
    {looked : List ℕ} {at : ℕ} (job : BlockJob surfaces axes table low side axis half high left work from count to looked at) where
  abbrev b : Block
  b = block_left job.step.universe left low

  block_is : block_of job.step ≡ b
  block_is = ap (λ (k : ℕ). block_left job.step.universe k low) job.left_is

  pub block_pruning : Pruning surfaces axes low side axis half high (eqb left 0) work from count to
  block_pruning =
      record {
        step = job.step;
        trees = job.trees;
        few = job.few;
        counted = job.counted;
        holds = job.holds;
        apart = job.apart;
        inside = job.inside;
        room = omega (arith, job.room);
        rests = λ e. job.rests (eqb-true left 0 e);
      }

  nodes_are : all_nodes job.trees ≡ count
  nodes_are = sym (length_all job.trees) ∙ sym job.counted

  pub tally_fits : get_or looked 0 0 + count < 2 ^ 64
  tally_fits = omega (arith, job.counts, nodes_are, looked_least surfaces job.trees left b)

  pub at_fits : at + 1 < end_limit
  at_fits = omega (arith, job.fits, size_positive (examine_all surfaces job.trees left b))

  module _ {work₁ : List ℤ} {mark nodes : ℕ} (pruned : Pruned block_pruning work₁ mark nodes) where
    pub how : Judgement surfaces job.trees b left mark
    unfolding block_pruning
    how = judgement surfaces job.trees b left mark (rw block_is at pruned.judged)

    -- judged BLACK or WHITE, it is one leaf, held back
    pub block_closed : (m : Bool) (out : List ℕ) {symbol : ℕ} → (mark ≡ 0 → ⊥) → symbol ≡ symbol_of_bits mark →
        BlockLaid job m out ((at + 1) * 256 + symbol) out (set looked 0 (get_or looked 0 0 + count)) low side work₁
    unfolding block_pruning leaf_symbol size laid
    block_closed m out {symbol} n e = by how
      where
        by : Judgement surfaces job.trees b left mark
            → BlockLaid job m out ((at + 1) * 256 + symbol) out (set looked 0 (get_or looked 0 0 + count)) low side work₁
        by (unsettled k z s u v) = absurd (n z)
        by (one_leaf c k s f g) =
            let shape : shaped m (examine_all surfaces job.trees left b) ≡ leaf c = ap (shaped m) f ∙ shaped_leaf m c in
            record {
              piece = rw (shape, e, s) refl;
              room = rw shape refl;
              counted = tally_set looked (get_or looked 0 0 + count) job.tallied ∙ ap (λ (x : ℕ). (get_or looked 0 0 + x) ∷ []) (sym (g ∙ nodes_are));
              lows = refl;
              sides = refl;
              below = pruned.below;
            }

    -- undecided, it is halved
    module _ (z : mark ≡ 0) where
      abbrev trees' : List Plain
      trees' = all_left surfaces job.trees b

      -- the levels left, and what is left of the trees
      pub record Opened : Type 0 where
        pub n : ℕ
        pub left_suc : left ≡ suc n
        pub undecided_over : all_mark surfaces job.trees b ≡ undecided
        pub again : OneOrTwo (named surfaces) trees'
        pub stays : (nodes ≡ length (all_postfix trees')) × Holds surfaces b work₁ to (all_postfix trees')

      opened : Opened
      unfolding block_pruning
      opened = by how
        where
          by : Judgement surfaces job.trees b left mark → Opened
          by (one_leaf c k s f g) = absurd (k z)
          by (unsettled n y s u v) =
              let over : all_left_by (judged_marks (eqb left 0) surfaces b) job.trees ≡ trees' = rw v (left_over surfaces b job.trees) in
              let marks : all_mark_by (judged_marks (eqb left 0) surfaces b) job.trees ≡ undecided = rw v (judged_over surfaces b job.trees ∙ u) in
              let counted : nodes ≡ length (all_postfix (all_left_by (judged_marks (eqb left 0) surfaces b) job.trees)) = rw block_is at pruned.counted in
              let holds : Holds surfaces b work₁ to (all_postfix (all_left_by (judged_marks (eqb left 0) surfaces b) job.trees)) =
              rw block_is at pruned.holds in
              record {
                n = n;
                left_suc = s;
                undecided_over = u;
                again = rw over at (few_left (named surfaces) (judged_marks (eqb left 0) surfaces b) job.few marks);
                stays = (rw over at counted, rw over at holds);
              }

      abbrev o : Opened
      o = opened

      above : suc o.n ≤ levels job.step.universe
      above = omega (arith, job.step.standing.above, job.left_is, o.left_suc)

      level_is : b.level ≡ levels job.step.universe - suc o.n
      level_is = omega (arith, o.left_suc)

      inner : b.level < levels b.universe
      inner = omega (arith, level_is, above)

      -- both halves are examined as they are by the trees themselves
      lower_same : lower_part surfaces trees' o.n b ≡ lower_part surfaces job.trees o.n b
      lower_same = (lower_left surfaces job.trees b o.undecided_over o.n inner (omega (arith, level_is, above)))

      upper_same : upper_part surfaces trees' o.n b ≡ upper_part surfaces job.trees o.n b
      upper_same = (upper_left surfaces job.trees b o.undecided_over o.n inner (omega (arith, level_is, above)))

      n_is : left - 1 ≡ o.n
      n_is = omega (arith, o.left_suc)

      whole_shape_lem : examine_all surfaces job.trees left b ≡ halves_shape surfaces trees' (left - 1) b
      whole_shape_lem =
          ap (λ (k : ℕ). examine_all surfaces job.trees k b) o.left_suc
          ∙ all_undecided surfaces job.trees o.n b o.undecided_over
          ∙ sym (ap₂ halved lower_same upper_same)
          ∙ ap (λ (k : ℕ). halves_shape surfaces trees' k b) (sym n_is)

      whole_looked : looked_from surfaces job.trees left b ≡ count + looked_in_halves surfaces trees' (left - 1) b
      whole_looked =
          ap (λ (k : ℕ). looked_from surfaces job.trees k b) o.left_suc
          ∙ looked_undecided surfaces job.trees o.n b o.undecided_over
          ∙ ap₂ ◌+◌ nodes_are (ap (λ (k : ℕ). looked_in_halves surfaces trees' k b) (sym n_is))

      fewer : nodes ≤ count
      unfolding block_pruning
      fewer = omega (arith, o.stays.0, length_all trees', all_nodes_fewer surfaces b job.trees, nodes_are)

      abbrev looked₁ : List ℕ
      looked₁ = set looked 0 (get_or looked 0 0 + count)

      tally : looked₁ ≡ (get_or looked 0 0 + count) ∷ []
      tally = tally_set looked (get_or looked 0 0 + count) job.tallied

      tally_front : get_or looked₁ 0 0 ≡ get_or looked 0 0 + count
      tally_front = ap (λ (l : List ℕ). get_or l 0 0) tally

      room_is : 3 * (to + (left + 1) * nodes) ≤ length work₁
      unfolding block_pruning
      room_is = omega (arith, job.room, pruned.below.long, mul-le-mul_left (left + 1) fewer)

      pub block_halves : HalvesJob surfaces axes table low side left work₁ to nodes looked₁ at
      unfolding block_pruning
      block_halves =
          record {
            universe = job.step.universe;
            scene = job.scene;
            axes_are = job.step.axes_are;
            standing = rw job.left_is at job.step.standing;
            some = omega (arith, o.left_suc);
            table_is = job.table_is;
            trees = trees';
            few = o.again;
            counted = o.stays.0;
            holds = o.stays.1;
            room = room_is;
            bounded = rw pruned.below.long job.bounded;
            fits = omega (arith, job.fits, ap size whole_shape_lem, halves_size (lower_part surfaces trees' (left - 1) b) (upper_part surfaces trees' (left - 1) b));
            tallied = ap length tally;
            counts = omega (arith, tally_front, whole_looked, job.counts);
          }

      pub halves_are : let here = block_left block_halves.universe left low in
          (examine_all surfaces job.trees left b ≡ halves_shape surfaces block_halves.trees (left - 1) here)
          × (looked_from surfaces job.trees left b ≡ count + looked_in_halves surfaces block_halves.trees (left - 1) here)
      unfolding block_halves
      halves_are = (whole_shape_lem, whole_looked)

      pub block_done : (m : Bool) (out : List ℕ) {packed : ℕ} {out' looked' low' side' : List ℕ} {work' : List ℤ} →
          HalvesLaid block_halves m out packed out' looked' low' side' work' → BlockLaid job m out packed out' looked' low' side' work'
      unfolding block_halves block_pruning
      block_done m out l =
          record {
            piece = l.piece ∙ ap (λ (x : Shape). packed_shape at (shaped m x)) (sym whole_shape_lem);
            room = l.room ∙ ap (λ (x : Shape). laid out at (shaped m x)) (sym whole_shape_lem);
            counted = l.counted ∙ ap (λ (x : ℕ). x ∷ []) (omega (arith, tally_front, whole_looked));
            lows = l.lows;
            sides = l.sides;
            below = record {
              same = λ k h. l.below.same k (omega arith) ∙ pruned.below.same k h;
              long = l.below.long ∙ pruned.below.long;
            };
          }

-- ---- both halves of an undecided block
byte_of : (s : Shape) → leaf_symbol s < 256
unfolding leaf_symbol
byte_of (leaf Black) = omega arith
byte_of (leaf White) = omega arith
byte_of (halved a b) = omega arith

pub unpacked : {packed : ℕ} (at : ℕ) (s : Shape) → packed ≡ packed_shape at s → (packed / 256 ≡ at + size s) × (packed % 256 ≡ leaf_symbol s)
unpacked at s e = (omega (arith, e, byte_of s), omega (arith, e, byte_of s))

-- two halves that are laid one behind the other, joined: the whole
module _ (m : Bool) (out : List ℕ) (at : ℕ) {whole lowest highest : Shape} (parts_are : whole ≡ halved lowest highest) {packed₁ packed₂ : ℕ}
    {out₁ out₂ : List ℕ} (piece₁ : packed₁ ≡ packed_shape (at + 1) (shaped m lowest)) (room₁ : out₁ ≡ laid out (at + 1) (shaped m lowest))
    (piece₂ : packed₂ ≡ packed_shape (packed₁ / 256) (shaped m highest)) (room₂ : out₂ ≡ laid out₁ (packed₁ / 256) (shaped m highest))
    {packed : ℕ} {out₃ : List ℕ} (e : packed ≡ joined_packed m at (packed₁ % 256) (packed₂ % 256) (packed₂ / 256))
    (j : out₃ ≡ joined_out m out₂ at (packed₁ % 256) (packed₁ / 256) (packed₂ % 256)) where
  abbrev One : Bool → Type 0
  One t = is_one m (packed₁ % 256) (packed₂ % 256) ≡ t

  middle_at : packed₁ / 256 ≡ at + 1 + size (shaped m lowest)
  middle_at = (unpacked (at + 1) (shaped m lowest) piece₁).0

  end_at : packed₂ / 256 ≡ packed₁ / 256 + size (shaped m highest)
  end_at = (unpacked (packed₁ / 256) (shaped m highest) piece₂).0

  held₁ : packed₁ % 256 ≡ leaf_symbol (shaped m lowest)
  held₁ = (unpacked (at + 1) (shaped m lowest) piece₁).1

  held₂ : packed₂ % 256 ≡ leaf_symbol (shaped m highest)
  held₂ = (unpacked (packed₁ / 256) (shaped m highest) piece₂).1

  test_is : {t : Bool} → One t → is_one m (leaf_symbol (shaped m lowest)) (leaf_symbol (shaped m highest)) ≡ t
  test_is o = rw (held₁, held₂) at o

  pub joined : (packed ≡ packed_shape at (shaped m whole)) × (out₃ ≡ laid out at (shaped m whole))
  unfolding is_one leaf_symbol size
  joined = by (is_one m (packed₁ % 256) (packed₂ % 256)) refl
    where
      by : (t : Bool) → One t → (packed ≡ packed_shape at (shaped m whole)) × (out₃ ≡ laid out at (shaped m whole))
      by true o =
          let w = shaped_one m lowest highest (test_is o) in
          let s : shaped m whole ≡ leaf w.0 = ap (shaped m) parts_are ∙ w.3 in
          let p : packed ≡ (at + 1) * 256 + packed₁ % 256 = rw o at e in
          let q : out₃ ≡ out₂ = rw o at j in (
            p ∙ ap (λ (x : ℕ). (at + 1) * 256 + x) (held₁ ∙ ap leaf_symbol w.1) ∙ sym (ap (packed_shape at) s),
            q ∙ room₂ ∙ leaf_laid out₁ (packed₁ / 256) w.0 w.2 ∙ room₁ ∙ leaf_laid out (at + 1) w.0 w.1 ∙ sym (leaf_laid out at w.0 s),
          )
      by false o =
          let a : Shape = shaped m lowest in
          let c : Shape = shaped m highest in
          let s : shaped m whole ≡ halved a c = ap (shaped m) parts_are ∙ shaped_apart m lowest highest (test_is o) in
          let p : packed ≡ packed₂ / 256 * 256 = rw o at e in
          let q : out₃ ≡ joined_halves out₂ at (packed₁ % 256) (packed₁ / 256) (packed₂ % 256) = rw o at j in
          let k : packed_shape at (halved a c) ≡ packed₂ / 256 * 256 = omega (arith, end_at, middle_at) in (
            p ∙ sym k ∙ sym (ap (packed_shape at) s),
            apart_laid out out₁ out₂ out₃ at (packed₁ / 256) (packed₁ % 256) (packed₂ % 256) a c room₁ room₂ middle_at held₁ held₂ q
                ∙ sym (ap (laid out at) s),
          )

module _ {surfaces : Surfaces} {axes : ℕ} {table low side : List ℕ} {left : ℕ} {work : List ℤ} {from count : ℕ}
    {looked : List ℕ} {at : ℕ} (job : HalvesJob surfaces axes table low side left work from count looked at) where
  abbrev pub u : Universe
  u = job.universe

  abbrev pub P : Block
  P = block_left u left low

  abbrev pub axis : ℕ
  axis = get_or table (left - 1) 0

  abbrev pub half : ℕ
  half = get_or side axis 0 / 2

  left_suc : left ≡ suc (left - 1)
  left_suc = omega (arith, job.some)

  abbrev Q : Block
  Q = block_left u (suc (left - 1)) low

  pub same_block : P ≡ Q
  same_block = ap (λ (k : ℕ). block_left u k low) left_suc

  pub standing' : Standing u (suc (left - 1)) low side
  standing' = subst (λ (k : ℕ). Standing u k low side) left_suc job.standing

  pub at_level : axis ≡ axis_at u (levels u - suc (left - 1))
  at_level = axis_is u job.scene.accepted_universe job.table_is (left - 1) (omega (arith, job.standing.above, job.some))

  last : eqb (left - 1) 0 ≡ true → left - 1 ≡ 0
  last e = eqb-true (left - 1) 0 e

  -- the half's length is a power of two
  length_is : {times : ℕ} → times ≡ count_trailing_zeros 64 half → doubled times ≡ half
  length_is told =
      doubled_is u (levels u - (left - 1)) axis (half_is u job.scene.accepted_universe (left - 1) low side standing' axis at_level)
      (omega (arith, (job.standing.inside axis).most)) told

  step₁ : {times : ℕ} → times ≡ count_trailing_zeros 64 half → Stepping surfaces axes low (halved_sides side axis) axis (doubled times) false (eqb (left - 1) 0)
  step₁ told = step_low job.scene job.axes_are standing' at_level last (length_is told)

  step₂ : {times : ℕ} → times ≡ count_trailing_zeros 64 half →
      Stepping surfaces axes (high_lows low side axis) (halved_sides side axis) axis (doubled times) true (eqb (left - 1) 0)
  step₂ told = step_high job.scene job.axes_are standing' at_level last (length_is told)

  pub lower_block : block_left u (left - 1) low ≡ Block·low P
  lower_block = sym (lower_is u job.scene.accepted_universe (left - 1) low side standing' axis at_level) ∙ ap Block·low (sym same_block)

  pub upper_block_lem : block_left u (left - 1) (high_lows low side axis) ≡ Block·high P
  upper_block_lem = sym (upper_is u job.scene.accepted_universe (left - 1) low side standing' axis at_level) ∙ ap Block·high (sym same_block)

  pub axis_within : axis < most_axes
  axis_within = axis_few u job.scene.accepted_universe (left - 1) low side standing' axis at_level

  pub place_in : left - 1 < most_levels
  place_in = omega (arith, job.standing.above, job.some, levels_few u (accepted u job.scene.accepted_universe))

  pub near_fits : get_or low axis 0 + half < 2 ^ 64
  near_fits = omega (arith, (job.standing.inside axis).most)

  room_same : 3 * (from + count + (left - 1 + 1) * count) ≤ length work
  room_same = let e : left - 1 + 1 ≡ left = omega (arith, job.some) in rw e (omega (arith, job.room))

  pub inside_same : 3 * (from + count) ≤ length work
  inside_same = omega (arith, room_same)

  pub lower_job : {times : ℕ} → times ≡ count_trailing_zeros 64 half → (left ≡ 1 → ⊥) →
      BlockJob surfaces axes table low (set side axis half) axis (doubled times) false (left - 1) work from count (from + count) looked (at + 1)
  unfolding step₁ step_low stepping
  lower_job told more =
      record {
        step = step₁ told;
        scene = job.scene;
        left_is = refl;
        table_is = job.table_is;
        trees = job.trees;
        few = job.few;
        counted = job.counted;
        holds = subst (λ (x : Block). Holds surfaces x work from (all_postfix job.trees)) same_block job.holds;
        apart = inr (omega arith);
        inside = inside_same;
        room = room_same;
        bounded = job.bounded;
        fits = omega (arith, job.fits, ap (λ (x : Block). size (examine_all surfaces job.trees (left - 1) x)) lower_block);
        tallied = job.tallied;
        counts = omega (arith, job.counts, ap (looked_from surfaces job.trees (left - 1)) lower_block);
        rests = λ e. absurd (more (omega (arith, job.some)));
      }

  -- the low half is laid
  module _ (m : Bool) (out : List ℕ) {times : ℕ} (told : times ≡ count_trailing_zeros 64 half) (more : left ≡ 1 → ⊥)
      {packed₁ : ℕ} {out₁ looked₁ low₁ side₁ : List ℕ} {work₁ : List ℤ}
      (laid₁ : BlockLaid (lower_job told more) m out packed₁ out₁ looked₁ low₁ side₁ work₁) where
    abbrev lowest : Shape
    lowest = examine_all surfaces job.trees (left - 1) (block_left u (left - 1) low)

    abbrev highest : Shape
    highest = examine_all surfaces job.trees (left - 1) (block_left u (left - 1) (high_lows low side axis))

    piece₁ : packed₁ ≡ packed_shape (at + 1) (shaped m lowest)
    unfolding lower_job step₁ step_low stepping
    piece₁ = laid₁.piece

    counted₁ : looked₁ ≡ (get_or looked 0 0 + looked_from surfaces job.trees (left - 1) (block_left u (left - 1) low)) ∷ []
    unfolding lower_job step₁ step_low stepping
    counted₁ = laid₁.counted

    room₁ : out₁ ≡ laid out (at + 1) (shaped m lowest)
    unfolding lower_job step₁ step_low stepping
    room₁ = laid₁.room

    middle_is : packed₁ / 256 ≡ at + 1 + size (shaped m lowest)
    middle_is = (unpacked (at + 1) (shaped m lowest) piece₁).0

    lowest_size : size lowest ≡ size (lower_part surfaces job.trees (left - 1) P)
    lowest_size = ap (λ (x : Block). size (examine_all surfaces job.trees (left - 1) x)) lower_block

    highest_size : size highest ≡ size (upper_part surfaces job.trees (left - 1) P)
    highest_size = ap (λ (x : Block). size (examine_all surfaces job.trees (left - 1) x)) upper_block_lem

    lowest_looked : looked_from surfaces job.trees (left - 1) (block_left u (left - 1) low) ≡ looked_from surfaces job.trees (left - 1) (Block·low P)
    lowest_looked = ap (looked_from surfaces job.trees (left - 1)) lower_block

    highest_looked : looked_from surfaces job.trees (left - 1) (block_left u (left - 1) (high_lows low side axis))
        ≡ looked_from surfaces job.trees (left - 1) (Block·high P)
    highest_looked = ap (looked_from surfaces job.trees (left - 1)) upper_block_lem

    abbrev low₂ : List ℕ
    low₂ = set low₁ axis (get_or low axis 0 + half)

    low_is : low₂ ≡ high_lows low side axis
    low_is = ap (λ (l : List ℕ). set l axis (get_or low axis 0 + half)) laid₁.lows

    abbrev UpperJob : List ℕ → List ℕ → Type 0
    UpperJob lows sides =
        BlockJob surfaces axes table lows sides axis (doubled times) true (left - 1) work₁ from count (from + count) looked₁ (packed₁ / 256)

    upper_exact : UpperJob (high_lows low side axis) (halved_sides side axis)
    unfolding step₂ step_high stepping
    upper_exact =
        record {
          step = step₂ told;
          scene = job.scene;
          left_is = refl;
          table_is = job.table_is;
          trees = job.trees;
          few = job.few;
          counted = job.counted;
          holds = holds_same (λ k p q. laid₁.below.same k (omega (arith, job.counted)))
              (subst (λ (x : Block). Holds surfaces x work from (all_postfix job.trees)) same_block job.holds);
          apart = inr (omega arith);
          inside = rw laid₁.below.long inside_same;
          room = rw laid₁.below.long room_same;
          bounded = rw laid₁.below.long job.bounded;
          fits = omega (arith, job.fits, lowest_size, highest_size, middle_is, shaped_size m lowest);
          tallied = ap length counted₁;
          counts = omega (arith, job.counts, lowest_looked, highest_looked, ap (λ (l : List ℕ). get_or l 0 0) counted₁);
          rests = λ e. absurd (more (omega (arith, job.some)));
        }

    pub upper_job : UpperJob low₂ side₁
    upper_job = rw (low_is, laid₁.sides) upper_exact

    -- the high half is laid too: joined, the two are the whole
    module _ {packed₂ : ℕ} {out₂ looked₂ low₃ side₂ : List ℕ} {work₂ : List ℤ}
        (f : (j : UpperJob low₂ side₁) → BlockLaid j m out₁ packed₂ out₂ looked₂ low₃ side₂ work₂) where
      laid₂ : BlockLaid upper_exact m out₁ packed₂ out₂ looked₂ low₃ side₂ work₂
      laid₂ = let g : (j : UpperJob (high_lows low side axis) (halved_sides side axis)) → BlockLaid j m out₁ packed₂ out₂ looked₂ low₃ side₂ work₂ =
          rw (low_is, laid₁.sides) at f in g upper_exact

      piece₂ : packed₂ ≡ packed_shape (packed₁ / 256) (shaped m highest)
      unfolding upper_exact step₂ step_high stepping
      piece₂ = laid₂.piece

      room₂ : out₂ ≡ laid out₁ (packed₁ / 256) (shaped m highest)
      unfolding upper_exact step₂ step_high stepping
      room₂ = laid₂.room

      counted₂ : looked₂ ≡ (get_or looked₁ 0 0 + looked_from surfaces job.trees (left - 1) (block_left u (left - 1) (high_lows low side axis))) ∷ []
      unfolding upper_exact step₂ step_high stepping
      counted₂ = laid₂.counted

      end_is : packed₂ / 256 ≡ packed₁ / 256 + size (shaped m highest)
      end_is = (unpacked (packed₁ / 256) (shaped m highest) piece₂).0

      pub join_asks : (at + 1 < end_limit) × (packed₂ / 256 < end_limit)
      join_asks = (
        omega (arith, job.fits),
        omega (arith, job.fits, end_is, middle_is, lowest_size, highest_size, shaped_size m lowest, shaped_size m highest),
      )

      abbrev whole : Shape
      whole = halves_shape surfaces job.trees (left - 1) P

      parts_are : whole ≡ halved lowest highest
      parts_are = ap₂ halved
          (ap (examine_all surfaces job.trees (left - 1)) (sym lower_block))
          (ap (examine_all surfaces job.trees (left - 1)) (sym upper_block_lem))

      module _ {packed : ℕ} {out₃ : List ℕ} (e : packed ≡ joined_packed m at (packed₁ % 256) (packed₂ % 256) (packed₂ / 256))
          (j : out₃ ≡ joined_out m out₂ at (packed₁ % 256) (packed₁ / 256) (packed₂ % 256)) where
        both : (packed ≡ packed_shape at (shaped m whole)) × (out₃ ≡ laid out at (shaped m whole))
        both = joined m out at parts_are piece₁ room₁ piece₂ room₂ e j

        pub halves_done : HalvesLaid job m out packed out₃ looked₂ (set low₃ axis (get_or low axis 0)) (set side₂ axis (get_or side axis 0)) work₂
        halves_done =
            record {
              piece = both.0;
              room = both.1;
              counted = counted₂ ∙ ap (λ (x : ℕ). x ∷ []) (omega (arith, ap (λ (l : List ℕ). get_or l 0 0) counted₁, lowest_looked, highest_looked));
              lows = ap (λ (l : List ℕ). set l axis (get_or low axis 0)) laid₂.lows ∙ restored low axis (get_or low axis 0 + half);
              sides = ap (λ (l : List ℕ). set l axis (get_or side axis 0)) laid₂.sides ∙ restored side axis half;
              below = record {
                same = λ k h. laid₂.below.same k h ∙ laid₁.below.same k h;
                long = laid₂.below.long ∙ laid₁.below.long;
              };
            }
