-- A block that stands in the arrays and the trees that are carried into it: what its frames are; what is left of the trees over it can be carried on and has
-- their colours in it; and both its halves stand in the arrays where the side is halved along its axis, the high one half a side further.
use Prim.Native.Nat.{ℕ, suc, ◌+◌, ◌*◌, ◌-◌, ◌/◌, ◌^◌, ◌≤◌, ◌<◌, min, max}
use mathlib.Core.Path.{◌≡◌, refl, sym, ap, ap₂, ◌∙◌, subst}
use mathlib.Core.Bool.{Bool, true, false}
use mathlib.Core.List.{List, [], ◌∷◌}
use native.Mathlib.Omega.{arith}
use native.Mathlib.Nat.{mul-le-mul_left, mul-le-mul_right, div-eq_of_lt-le}
use lib.ListN.{length, get_or}
use Rattle.universe.specs.declared.Universe.{Universe}
use Rattle.universe.specs.declared.Block.{Block}
use Rattle.universe.specs.Universe.{most_axes, most_levels, longest_side, levels, axis_at, frame_axis}
use Rattle.universe.specs.Block.{Given, lower, upper, low, high, low_along, length_along}
use Rattle.universe.specs.Voxel.{Within}
use Rattle.universe.proofs.Universes.{Accepted, accepted, levels_few, side_positive, voxels_left_lem}
use Rattle.bintree.specs.declared.Colour.{Colour}
use Rattle.bintree.specs.declared.Colour.TheVariants.{White, Black}
use Rattle.bintree.specs.Counts.{frames, voxels_each}
use Rattle.bintree.proofs.Counts.{block_voxels}
use Rattle.csg.specs.Halfspace.{Mark, decided, undecided}
use Rattle.csg.specs.Surfaces.{Surfaces, named}
use Rattle.csg.specs.Tree.{Plain}
use Rattle.csg.specs.Marks.{plain_mark, plain_colour}
use Rattle.csg.proofs.Marks.{Follows, tree_sound, intersection_follows, intersection_colours}
use Rattle.convert.specs.Codes.{bits_of}
use Rattle.convert.specs.Blocks.{Standing, block_left, halved_sides, high_lows}
use Rattle.convert.proofs.Blocks.{axis_is, axis_few, lower_standing, upper_standing, lower_is, upper_is}
use Rattle.masks.specs.Block.{voxel_at, block_mask}
use Rattle.masks.specs.Windows.{window_mask}
use Rattle.masks.specs.MaskEnds.{mask_end}
use Rattle.masks.specs.Ends.{best_seen}
use Rattle.masks.proofs.Block.{Left, voxel_within}
use Rattle.pruned.specs.Left.{all_mark, all_colour, all_left}
use Rattle.pruned.specs.Nodes.{Node, all_postfix, OneOrTwo, judged_marks}
use Rattle.pruned.proofs.Looked.{open_not_white, part_all_colour, all_nodes_fewer}
use Rattle.pruned.proofs.Reading.{length_all, few_left}
use Rattle.pruned.proofs.Laying.{judged_over, left_over}
use Rattle.at_once.specs.Codes.{HoldsCodes, no_code, code, SameCodes, AtBlock, Carrying}
use Rattle.at_once.specs.Words.{word_levels, Halvings, Framed, WordBlock, word_block, TreesWord}
use Rattle.at_once.specs.Pruning.{PruneJob, PrunedCodes}
use Rattle.at_once.specs.Counting.{BlockJob, colours_of, PutBack, BlackFrames}

-- the halves of a block, where their names are taken
abbrev Block·low : Block → Block
Block·low b = low b

abbrev Block·high : Block → Block
Block·high b = high b

-- ---- marks
pub bits_white : (m : Mark) → bits_of m ≡ 2 → m ≡ decided White
bits_white (decided White) e = refl
bits_white (decided Black) e = absurd (omega arith)
bits_white undecided e = absurd (omega arith)

pub bits_black : (m : Mark) → bits_of m ≡ 1 → m ≡ decided Black
bits_black (decided Black) e = refl
bits_black (decided White) e = absurd (omega arith)
bits_black undecided e = absurd (omega arith)

pub bits_open : (m : Mark) → (bits_of m ≡ 2 → ⊥) → (bits_of m ≡ 1 → ⊥) → m ≡ undecided
bits_open (decided White) e f = absurd (e refl)
bits_open (decided Black) e f = absurd (f refl)
bits_open undecided e f = refl

-- where several trees are decided over a block, that is their colour in it
module _ (surfaces : Surfaces) (b : Block) (v : List ℕ) (w : Within b v) where
  all_follows : (ps : List Plain) → Follows (all_mark surfaces ps b) (decided (all_colour surfaces b.universe ps v))
  unfolding all_mark all_colour
  all_follows [] = record { same = λ c e. e }
  all_follows (p ∷ ps) =
      subst (Follows (all_mark surfaces (p ∷ ps) b)) (intersection_colours (plain_colour surfaces b.universe p v) (all_colour surfaces b.universe ps v))
      (intersection_follows (plain_mark surfaces p b) (all_mark surfaces ps b) (decided (plain_colour surfaces b.universe p v))
      (decided (all_colour surfaces b.universe ps v)) (record { same = λ c e. ap decided (tree_sound surfaces p b c v e w) }) (all_follows ps))

  pub all_sound : (ps : List Plain) (c : Colour) → all_mark surfaces ps b ≡ decided c → all_colour surfaces b.universe ps v ≡ c
  all_sound ps c e = let f : decided (all_colour surfaces b.universe ps v) ≡ decided c = (all_follows ps).same c e in cc

-- ---- codes that stay
pub codes_same : {room room' : List ℕ} {at : ℕ} {ns : List Node} → ((k : ℕ) → at ≤ k → k < at + length ns → get_or room' k 0 ≡ get_or room k 0) →
    HoldsCodes room at ns → HoldsCodes room' at ns
codes_same h no_code = no_code
codes_same {at = at} h (code {ns = ns} e r) = code (h at (omega arith) (omega arith) ∙ e) (codes_same (λ k p q. h k (omega arith) (omega arith)) r)

unfoldable pub carrying_same : {surfaces : Surfaces} {codes codes' : List ℕ} {from count : ℕ} → SameCodes (from + count) codes codes' →
    Carrying surfaces codes from count → Carrying surfaces codes' from count
carrying_same {from = from} {count} s c =
    record {
      trees = c.trees;
      few = c.few;
      counted = c.counted;
      holds = codes_same (λ k p q. s.same k (omega (arith, c.counted))) c.holds;
      inside = omega (arith, s.long, c.inside);
    }

pub same_then : {place : ℕ} {a b c : List ℕ} → SameCodes place a b → SameCodes place b c → SameCodes place a c
same_then s t = record { same = λ k h. t.same k h ∙ s.same k h; long = t.long ∙ s.long }

pub same_below : {place within : ℕ} {a b : List ℕ} → within ≤ place → SameCodes place a b → SameCodes within a b
same_below h s = record { same = λ k l. s.same k (omega arith); long = s.long }

-- nothing is changed
pub put_same : {place : ℕ} {low side codes : List ℕ} → PutBack place low side codes low side codes
put_same = record { lows = refl; sides = refl; below = record { same = λ k h. refl; long = refl } }

-- ---- a block
module _ {surfaces : Surfaces} {axes : ℕ} {table lengths low side : List ℕ} {left : ℕ} {codes : List ℕ} {from count times : ℕ}
    (job : BlockJob surfaces axes table lengths low side left codes from count times) where
  abbrev u : Universe
  u = job.at.universe

  abbrev b : Block
  b = block_left u left low

  abbrev level : ℕ
  level = levels u - left

  a : Accepted u
  a = accepted u job.at.scene.accepted_universe

  pub some_axis : 1 ≤ axes
  some_axis = omega (arith, job.at.axes_are, a.some_axes)

  pub last_axis : axes - 1 < most_axes
  last_axis = omega (arith, job.at.axes_are, a.some_axes, a.few_axes)

  pub frame_axis_lem : axes - 1 ≡ frame_axis u
  frame_axis_lem = omega (arith, job.at.axes_are)

  pub frame_is : get_or low (axes - 1) 0 ≡ low_along b (frame_axis u)
  frame_is = ap (λ (i : ℕ). get_or low i 0) frame_axis_lem

  pub wide_is : get_or side (axes - 1) 0 ≡ length_along b (frame_axis u)
  wide_is = ap (λ (i : ℕ). get_or side i 0) frame_axis_lem ∙ job.at.standing.along (frame_axis u) (omega (arith, a.some_axes))

  pub frames_end : get_or low (axes - 1) 0 + get_or side (axes - 1) 0 ≤ longest_side
  frames_end = (job.at.standing.inside (axes - 1)).most

  pub wide_some : 1 ≤ get_or side (axes - 1) 0
  wide_some = rw wide_is (side_positive u level (frame_axis u))

  pub few_levels : left ≤ most_levels
  few_levels = omega (arith, job.at.standing.above, levels_few u a)

  pub leftover : Left left b
  leftover = record { given = job.at.given; left = omega (arith, job.at.standing.above) }

  -- the frames of the block in a window
  pub begin_is : (first last : ℕ) {begin : ℕ} → begin ≡ max (get_or low (axes - 1) 0) first → begin ≡ best_seen false first last b
  begin_is first last e = e ∙ ap (λ (f : ℕ). max f first) frame_is

  pub end_is : (first last : ℕ) {end : ℕ} → end ≡ min (get_or low (axes - 1) 0 + (get_or side (axes - 1) 0 - 1)) last → end ≡ best_seen true first last b
  end_is first last e = e ∙ ap₂ (λ (f w : ℕ). min (f + (w - 1)) last) frame_is wide_is

  -- the voxels of a frame
  pub each_is : voxels_each u level ≡ 2 ^ left / get_or side (axes - 1) 0
  each_is =
      let p : frames u level * voxels_each u level ≡ 2 ^ left =
      block_voxels u a.some_axes level ∙ voxels_left_lem u a.some_axes left level (omega (arith, job.at.standing.above)) in
      sym (rw wide_is (div-eq_of_lt-le (frames u level) (omega arith) (omega (arith, side_positive u level (frame_axis u)))))

  pub black_frames : (first last : ℕ) {begin end : ℕ} → begin ≡ max (get_or low (axes - 1) 0) first →
      end ≡ min (get_or low (axes - 1) 0 + (get_or side (axes - 1) 0 - 1)) last → begin ≤ end → BlackFrames left (get_or side (axes - 1) 0) begin end
  black_frames first last e f h =
      record { few = few_levels; order = omega arith; within = omega (arith, wide_some); short = omega (arith, frames_end) }

  -- ---- what is asked of words
  unfoldable pub trees_block : left ≤ word_levels → WordBlock surfaces axes table lengths low left
  trees_block h =
      record {
        universe = u;
        scene = job.at.scene;
        axes_are = job.at.axes_are;
        given = job.at.given;
        above = job.at.standing.above;
        tabled = job.tabled;
        few = h;
      }

  pub trees_job : left ≤ word_levels → TreesWord surfaces axes table lengths low left codes from count
  trees_job h = record { block = trees_block h; carried = job.carrying }

  pub trees_of_lem : (h : left ≤ word_levels) → ((trees_job h).block ≡ trees_block h) × ((trees_job h).carried.trees ≡ job.carrying.trees)
  unfolding trees_job
  trees_of_lem h = (refl, refl)

  pub halvings : left ≤ word_levels → Halvings (axes - 1) table lengths left
  halvings h =
      record {
        universe = u;
        accepted = job.at.scene.accepted_universe;
        frame_is = frame_axis_lem;
        tabled = job.tabled;
        few = h;
        above = job.at.standing.above;
      }

  pub framed : left ≤ word_levels → Framed (axes - 1) table lengths left (get_or low (axes - 1) 0) (get_or side (axes - 1) 0)
  unfolding halvings
  framed h = record { halvings = halvings h; wide_is = wide_is; inside = frames_end }

  -- and what they answer
  pub trees_are : (h : left ≤ word_levels) {r : ℕ} →
      ((j : TreesWord surfaces axes table lengths low left codes from count) →
      r ≡ block_mask (all_colour surfaces j.block.universe j.carried.trees) left (word_block j.block)) →
      r ≡ block_mask (colours_of job) left b
  unfolding trees_job trees_block
  trees_are h f = f (trees_job h)

  pub frames_are : (h : left ≤ word_levels) (first last : ℕ) {r : ℕ} →
      ((j : Framed (axes - 1) table lengths left (get_or low (axes - 1) 0) (get_or side (axes - 1) 0)) →
      r ≡ window_mask first last j.halvings.universe left (get_or low (axes - 1) 0)) →
      r ≡ window_mask first last u left (get_or low (axes - 1) 0)
  unfolding halvings framed
  frames_are h first last f = f (framed h)

  pub end_are : (h : left ≤ word_levels) (backward : Bool) (word : ℕ) {r : ℕ} →
      ((j : Halvings (axes - 1) table lengths left) → r ≡ mask_end backward j.universe left word) → r ≡ mask_end backward u left word
  unfolding halvings
  end_are h backward word f = f (halvings h)

  -- ---- what is left of the trees, over the block and behind them
  unfoldable pub prune_job : 2 ≤ times → PruneJob surfaces axes low side codes from count
  prune_job h =
      let k : 2 * count ≤ times * count = mul-le-mul_right count h in
      record {
        left = left;
        at = job.at;
        carried = job.carrying;
        room = omega (arith, job.room);
      }

  module _ (h : 2 ≤ times) {codes' : List ℕ} {mark nodes : ℕ} (pruned : PrunedCodes (prune_job h) codes' mark nodes) where
    abbrev trees : List Plain
    trees = job.carrying.trees

    pub mark_is : mark ≡ bits_of (all_mark surfaces trees b)
    unfolding prune_job
    mark_is = pruned.judged

    pub below_same : SameCodes (from + count) codes codes'
    unfolding prune_job
    below_same = pruned.below

    pub pruned_back : PutBack (from + count) low side codes low side codes'
    pruned_back = record { lows = refl; sides = refl; below = below_same }

    pub decided_white : mark ≡ 2 → (v : List ℕ) → Within b v → colours_of job v ≡ White
    decided_white e v w = all_sound surfaces b v w trees White (bits_white (all_mark surfaces trees b) (sym mark_is ∙ e))

    pub decided_black : mark ≡ 1 → (v : List ℕ) → Within b v → colours_of job v ≡ Black
    decided_black e v w = all_sound surfaces b v w trees Black (bits_black (all_mark surfaces trees b) (sym mark_is ∙ e))

    module _ (not_white : mark ≡ 2 → ⊥) (not_black : mark ≡ 1 → ⊥) where
      pub open_over : all_mark surfaces trees b ≡ undecided
      open_over = bits_open (all_mark surfaces trees b) (λ e. not_white (mark_is ∙ e)) (λ e. not_black (mark_is ∙ e))

      abbrev trees' : List Plain
      trees' = all_left surfaces trees b

      pub nodes_are : nodes ≡ length (all_postfix trees')
      unfolding prune_job
      nodes_are = pruned.counted

      pub fewer : nodes ≤ count
      fewer = omega (arith, nodes_are, length_all trees', all_nodes_fewer surfaces b trees, length_all trees, job.carrying.counted)

      pub few_are : OneOrTwo (named surfaces) trees'
      few_are =
          subst (OneOrTwo (named surfaces)) (left_over surfaces b trees)
          (few_left (named surfaces) (judged_marks false surfaces b) job.carrying.few (judged_over surfaces b trees ∙ open_over))

      unfoldable pub left_job : (n : ℕ) → times ≡ n + 1 → BlockJob surfaces axes table lengths low side left codes' (from + count) nodes n
      unfolding prune_job
      left_job n e =
          let k : from + (n + 1) * count ≤ length codes = rw e at job.room in
          let m : 1 * count ≤ n * count = mul-le-mul_right count (omega arith) in
          record {
            at = job.at;
            tabled = job.tabled;
            carrying = record {
              trees = trees';
              few = few_are;
              counted = nodes_are;
              holds = pruned.holds;
              inside = omega (arith, pruned.below.long, fewer);
            };
            room = omega (arith, pruned.below.long, mul-le-mul_left n fewer);
            bounded = omega (arith, pruned.below.long, job.bounded);
          }

      -- it has the trees' colours in the block
      pub left_colours : (n : ℕ) (e : times ≡ n + 1) (i : ℕ) → colours_of job (voxel_at left b i) ≡ colours_of (left_job n e) (voxel_at left b i)
      unfolding left_job
      left_colours n e i = sym (part_all_colour surfaces b (voxel_at left b i) (voxel_within left b i leftover) trees (open_not_white open_over))

      pub left_at : (n : ℕ) (e : times ≡ n + 1) → (left_job n e).at ≡ job.at
      unfolding left_job
      left_at n e = refl

-- ---- both halves
module _ {surfaces : Surfaces} {axes : ℕ} {table lengths low side : List ℕ} {left : ℕ} {codes : List ℕ} {from count : ℕ}
    (job : BlockJob surfaces axes table lengths low side left codes from count left) (some : 1 ≤ left) where
  abbrev v : Universe
  v = job.at.universe

  abbrev P : Block
  P = block_left v left low

  abbrev axis : ℕ
  axis = get_or table (left - 1) 0

  abbrev half : ℕ
  half = get_or side axis 0 / 2

  pub left_suc : left ≡ suc (left - 1)
  left_suc = omega arith

  pub same_block : P ≡ block_left v (suc (left - 1)) low
  same_block = ap (λ (k : ℕ). block_left v k low) left_suc

  pub standing' : Standing v (suc (left - 1)) low side
  standing' = subst (λ (k : ℕ). Standing v k low side) left_suc job.at.standing

  pub at_level : axis ≡ axis_at v (levels v - suc (left - 1))
  at_level = axis_is v job.at.scene.accepted_universe job.tabled.axis_at_lem (left - 1) (omega (arith, job.at.standing.above))

  pub lower_block : block_left v (left - 1) low ≡ Block·low P
  lower_block = sym (lower_is v job.at.scene.accepted_universe (left - 1) low side standing' axis at_level) ∙ ap Block·low (sym same_block)

  pub upper_block_lem : block_left v (left - 1) (high_lows low side axis) ≡ Block·high P
  upper_block_lem = sym (upper_is v job.at.scene.accepted_universe (left - 1) low side standing' axis at_level) ∙ ap Block·high (sym same_block)

  pub axis_within : axis < most_axes
  axis_within = axis_few v job.at.scene.accepted_universe (left - 1) low side standing' axis at_level

  pub place_in : left - 1 < most_levels
  place_in = omega (arith, few_levels job)

  pub near_fits : get_or low axis 0 + half < 2 ^ 64
  near_fits = omega (arith, (job.at.standing.inside axis).most)

  pub inner : P.level < levels v
  inner = omega (arith, job.at.standing.above)

  unfoldable pub lower_at : AtBlock surfaces axes low (halved_sides side axis) (left - 1)
  lower_at =
      record {
        universe = v;
        scene = job.at.scene;
        axes_are = job.at.axes_are;
        standing = lower_standing v job.at.scene.accepted_universe (left - 1) low side standing' axis at_level;
        given = subst Given (sym lower_block) (lower P job.at.given inner);
      }

  unfoldable pub upper_at : AtBlock surfaces axes (high_lows low side axis) (halved_sides side axis) (left - 1)
  upper_at =
      record {
        universe = v;
        scene = job.at.scene;
        axes_are = job.at.axes_are;
        standing = upper_standing v job.at.scene.accepted_universe (left - 1) low side standing' axis at_level;
        given = subst Given (sym upper_block_lem) (upper P job.at.given inner);
      }

  pub room_same : from + (left - 1 + 1) * count ≤ length codes
  room_same = let e : left - 1 + 1 ≡ left = omega arith in rw e job.room

  -- the low half, and the high one, with codes that are the same so far
  unfoldable pub lower_job : BlockJob surfaces axes table lengths low (halved_sides side axis) (left - 1) codes from count (left - 1 + 1)
  unfolding lower_at
  lower_job = record { at = lower_at; tabled = job.tabled; carrying = job.carrying; room = room_same; bounded = job.bounded }

  unfoldable pub upper_job : {codes' : List ℕ} → SameCodes (from + count) codes codes' →
      BlockJob surfaces axes table lengths (high_lows low side axis) (halved_sides side axis) (left - 1) codes' from count (left - 1 + 1)
  unfolding upper_at
  upper_job s =
      record {
        at = upper_at;
        tabled = job.tabled;
        carrying = carrying_same s job.carrying;
        room = omega (arith, room_same, s.long);
        bounded = omega (arith, s.long, job.bounded);
      }

  pub lower_are : (lower_job.at.universe ≡ v) × (colours_of lower_job ≡ colours_of job)
  unfolding lower_job lower_at
  lower_are = (refl, refl)
