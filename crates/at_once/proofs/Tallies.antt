-- What counting sure and possible contact meets at a block, count by count: nothing where none of its frames are the window's, or the trees are WHITE over it;
-- all voxels of its frames in the window where they are BLACK; the ones of its words; and else what both halves come to, by what is left of the trees, which
-- has their marks in every part of the block.
use Prim.Native.Nat.{ℕ, suc, ◌+◌, ◌-◌, ◌/◌, ◌^◌, ◌≤◌, ◌<◌, min, max}
use mathlib.Core.Path.{◌≡◌, refl, sym, ap, ap₂, ◌∙◌, subst}
use mathlib.Core.Bool.{Bool, true, false, cond, false≢true}
use mathlib.Core.List.{List, [], ◌∷◌}
use native.Mathlib.Omega.{arith}
use native.Mathlib.Nat.{le_trans}
use lib.Bits.{bit_and, and_zero_l}
use lib.Count.{ones}
use lib.ListN.{get_or, set}
use lib.Pow.{pow_mono}
use Rattle.lemmas.proofs.Stores.{restored}
use Rattle.universe.specs.declared.Universe.{Universe}
use Rattle.universe.specs.declared.Block.{Block}
use Rattle.universe.specs.Universe.{most_levels}
use Rattle.universe.specs.Voxel.{Within}
use Rattle.bintree.specs.declared.Colour.{Colour}
use Rattle.bintree.specs.declared.Colour.TheVariants.{White, Black}
use Rattle.csg.specs.Halfspace.{Mark, decided, undecided}
use Rattle.csg.specs.Surfaces.{Surfaces}
use Rattle.csg.specs.Tree.{Plain}
use Rattle.csg.specs.Marks.{plain_mark}
use Rattle.csg.proofs.Marks.{Follows, tree_nested, intersection_follows}
use Rattle.demands.specs.Voxels.{Colouring, is_black}
use Rattle.demands.specs.Verdicts.{frame_of}
use Rattle.contacts.specs.Contacts.{block_of, settled}
use Rattle.contacts.proofs.Own.{own_within, own_nested}
use Rattle.convert.specs.Blocks.{block_left, high_lows}
use Rattle.pruned.specs.Left.{all_mark, all_colour, all_left}
use Rattle.pruned.proofs.Looked.{part_all_mark, open_not_white}
use Rattle.masks.specs.Mask.{has_digit}
use Rattle.masks.specs.Block.{voxel_at, block_mask}
use Rattle.masks.specs.Windows.{is_between, windowed, window_mask}
use Rattle.masks.specs.Ends.{best_seen}
use Rattle.masks.specs.Own.{doubt_of}
use Rattle.masks.specs.Seen.{seen_in}
use Rattle.masks.proofs.Block.{Left, mask_agree, mask_digit, voxel_within}
use Rattle.masks.proofs.Trees.{white_mask_lem}
use Rattle.masks.proofs.Windows.{window_mask_lem}
use Rattle.masks.proofs.Seen.{seen_halves, seen_ones, seen_few, seen_white, seen_black, seen_missed, seen_agree}
use Rattle.at_once.specs.declared.answer.Contacts.{Contacts}
use Rattle.at_once.specs.Words.{word_levels, WordBlock, word_block, TreesWord}
use Rattle.at_once.specs.declared.three.Three.{Three}
use Rattle.at_once.specs.Own.{all_own, AllThree}
use Rattle.at_once.specs.Pruning.{PrunedCodes}
use Rattle.at_once.specs.Counting.{BlockJob, colours_of, PutBack, black_voxels}
use Rattle.at_once.specs.Tallies.{tally_from, tally_over, tally_of, tallied, SmallTally}
use Rattle.at_once.proofs.Jobs.{bits_white, bits_black, all_sound, frame_is, few_levels, leftover, each_is, begin_is, end_is, trees_block, trees_job}
use Rattle.at_once.proofs.Jobs.{trees_of_lem}
use Rattle.at_once.proofs.Jobs.{prune_job, mark_is, open_over, decided_white, decided_black, left_job, left_colours}
use Rattle.at_once.proofs.Jobs.{left_suc, lower_block, upper_block_lem, lower_job, lower_at, upper_job, upper_at, carrying_same, same_then}

pub tally_eq : (x y : Contacts) → x.sure ≡ y.sure → x.centre ≡ y.centre → x.possible ≡ y.possible → x ≡ y
tally_eq x y e f g = λ i. record { sure = e i; centre = f i; possible = g i }

-- ---- a voxel's three colours: one, or doubt
data Between : Colour → Colour → Colour → Type 0 where
  same : {c : Colour} → Between c c c
  doubt : {c : Colour} → Between White c Black

seen_between : (t : Bool) {s c p : Colour} → Between s c p → Between (cond t s White) (cond t c White) (cond t p White)
seen_between true k = k
seen_between false k = same

none_between : {s c p : Colour} → Between s c p → is_black p ≡ false → (s ≡ White) × (c ≡ White)
none_between (same {c = White}) e = (refl, refl)
none_between (same {c = Black}) e = absurd (false≢true (sym e))
none_between doubt e = absurd (false≢true (sym e))

module _ (surfaces : Surfaces) (u : Universe) (ps : List Plain) where
  between_at : (v : List ℕ) → Between (all_own false surfaces u ps v) (all_colour surfaces u ps v) (all_own true surfaces u ps v)
  unfolding all_own
  between_at v = by (all_mark surfaces ps (block_of u v)) refl
    where
      by : (m : Mark) → all_mark surfaces ps (block_of u v) ≡ m →
          Between (settled (doubt_of false) m) (all_colour surfaces u ps v) (settled (doubt_of true) m)
      by (decided c) e = rw (all_sound surfaces (block_of u v) v (own_within u v) ps c e) same
      by undecided e = doubt

-- ---- marks over a voxel's own block
module _ (surfaces : Surfaces) (b : Block) (v : List ℕ) (w : Within b v) where
  all_nested : (ps : List Plain) → Follows (all_mark surfaces ps b) (all_mark surfaces ps (block_of b.universe v))
  unfolding all_mark
  all_nested [] = record { same = λ c e. e }
  all_nested (p ∷ ps) =
      intersection_follows (plain_mark surfaces p b) (all_mark surfaces ps b) (plain_mark surfaces p (block_of b.universe v))
      (all_mark surfaces ps (block_of b.universe v)) (tree_nested surfaces p b (block_of b.universe v) (own_nested b v w)) (all_nested ps)

  own_decided : (possible : Bool) (ps : List Plain) (c : Colour) → all_mark surfaces ps b ≡ decided c → all_own possible surfaces b.universe ps v ≡ c
  unfolding all_own
  own_decided possible ps c e = rw ((all_nested ps).same c e)

  own_left : (possible : Bool) (ps : List Plain) → all_mark surfaces ps b ≡ undecided →
      all_own possible surfaces b.universe ps v ≡ all_own possible surfaces b.universe (all_left surfaces ps b) v
  unfolding all_own
  own_left possible ps e =
      ap (settled (doubt_of possible)) (sym (part_all_mark surfaces b (block_of b.universe v) (own_nested b v w) ps (open_not_white e)))

-- ---- a block
module _ {surfaces : Surfaces} {axes : ℕ} {table lengths low side : List ℕ} {left : ℕ} {codes : List ℕ} {from count times : ℕ}
    (job : BlockJob surfaces axes table lengths low side left codes from count times) (first last : ℕ) where
  abbrev u : Universe
  u = job.at.universe

  abbrev b : Block
  b = block_left u left low

  abbrev trees : List Plain
  trees = job.carrying.trees

  abbrev frame : ℕ
  frame = get_or low (axes - 1) 0

  abbrev wide : ℕ
  wide = get_or side (axes - 1) 0

  pub tally_small : {t : Contacts} → t ≡ tally_over first last job → SmallTally t
  tally_small e =
      let p : 2 ^ left ≤ 2 ^ most_levels = pow_mono {i = left} {j = most_levels} (few_levels job) in
      rw e (record {
        sure = le_trans (seen_few first last (all_own false surfaces u trees) left b (leftover job)) p;
        centre = le_trans (seen_few first last (all_colour surfaces u trees) left b (leftover job)) p;
        possible = le_trans (seen_few first last (all_own true surfaces u trees) left b (leftover job)) p;
      })

  pub tally_missed : {begin end : ℕ} → begin ≡ max frame first → end ≡ min (frame + (wide - 1)) last → end < begin → {r : Contacts} → r ≡ tally_of 0 →
      r ≡ tally_over first last job
  tally_missed e f h q =
      let m : best_seen true first last b < best_seen false first last b = omega (arith, begin_is job first last e, end_is job first last f) in
      q
      ∙ tally_eq _ _
      (sym (seen_missed first last (all_own false surfaces u trees) left b (leftover job) m))
      (sym (seen_missed first last (all_colour surfaces u trees) left b (leftover job) m))
      (sym (seen_missed first last (all_own true surfaces u trees) left b (leftover job) m))

  -- ---- its words
  module _ {window : ℕ} (w : window ≡ window_mask first last u left frame) where
    seen_word : (colours : Colouring) {word : ℕ} → word ≡ block_mask colours left b → block_mask (windowed u first last colours) left b ≡ bit_and word window
    seen_word colours t =
        sym (window_mask_lem first last colours left b (leftover job)) ∙ sym (ap₂ bit_and t (w ∙ ap (window_mask first last u left) (frame_is job)))

    word_ones : (colours : Colouring) {word n : ℕ} → word ≡ block_mask colours left b → n ≡ ones (bit_and word window) → n ≡ seen_in first last colours b
    word_ones colours t q =
        q
        ∙ ap ones (ap₂ bit_and t (w ∙ ap (window_mask first last u left) (frame_is job)))
        ∙ sym (seen_ones first last colours left b (leftover job))

    abbrev seen : Colouring → ℕ → Colour
    seen colours i = windowed u first last colours (voxel_at left b i)

    between_seen : (i : ℕ) → Between (seen (all_own false surfaces u trees) i) (seen (all_colour surfaces u trees) i) (seen (all_own true surfaces u trees) i)
    between_seen i =
        seen_between (is_between first last (frame_of u (voxel_at left b i))) (between_at surfaces u trees (voxel_at left b i))

    module _ {words : Three} (three : AllThree surfaces u trees left b words) where
      -- no voxel is possible
      pub tally_none : words.possible ≡ 0 → {r : Contacts} → r ≡ tally_of 0 → r ≡ tally_over first last job
      unfolding ones
      tally_none z q =
          q
          ∙ tally_eq _ _ (sym (zero (all_own false surfaces u trees) (λ i l. (none i l).0))) (sym (zero (all_colour surfaces u trees) (λ i l. (none i l).1)))
          (word_ones (all_own true surfaces u trees) three.possible (sym (ap ones none_seen ∙ no_ones)))
        where
          no_ones : ones 0 ≡ 0
          no_ones = refl

          none_seen : bit_and words.possible window ≡ 0
          none_seen = ap (λ (x : ℕ). bit_and x window) z ∙ and_zero_l window

          empty : block_mask (windowed u first last (all_own true surfaces u trees)) left b ≡ 0
          empty = seen_word (all_own true surfaces u trees) three.possible ∙ none_seen

          none : (i : ℕ) → i < 2 ^ left → (seen (all_own false surfaces u trees) i ≡ White) × (seen (all_colour surfaces u trees) i ≡ White)
          none i l =
              none_between (between_seen i)
              (sym (mask_digit (windowed u first last (all_own true surfaces u trees)) left b i l)
              ∙ ap (λ (m : ℕ). has_digit m i) (empty ∙ sym (white_mask_lem left b))
              ∙ mask_digit (λ v. White) left b i l)

          zero : (colours : Colouring) → ((i : ℕ) → i < 2 ^ left → seen colours i ≡ White) → seen_in first last colours b ≡ 0
          zero colours h =
              seen_ones first last colours left b (leftover job)
              ∙ ap ones (window_mask_lem first last colours left b (leftover job)
              ∙ mask_agree (windowed u first last colours) (λ v. White) left b h ∙ white_mask_lem left b)
              ∙ no_ones

      pub tally_words : {x y z : ℕ} → x ≡ ones (bit_and words.sure window) → y ≡ ones (bit_and words.centre window) →
          z ≡ ones (bit_and words.possible window) → record { sure = x; centre = y; possible = z } ≡ tally_over first last job
      tally_words e f g =
          tally_eq _ _ (word_ones (all_own false surfaces u trees) three.sure e) (word_ones (all_colour surfaces u trees) three.centre f)
          (word_ones (all_own true surfaces u trees) three.possible g)

  -- what the three words answer
  pub three_are : (h : left ≤ word_levels) {words : Three} → ((j : TreesWord surfaces axes table lengths low left codes from count) →
      AllThree surfaces j.block.universe j.carried.trees left (word_block j.block) words) → AllThree surfaces u trees left b words
  unfolding trees_block
  three_are h {words} f =
      subst (λ (ps : List Plain). AllThree surfaces u ps left b words) (trees_of_lem job h).1
      (subst (λ (x : WordBlock surfaces axes table lengths low left).
      AllThree surfaces x.universe (trees_job job h).carried.trees left (word_block x) words) (trees_of_lem job h).0 (f (trees_job job h)))

  -- ---- pruned
  module _ (h : 2 ≤ times) {codes' : List ℕ} {mark nodes : ℕ} (pruned : PrunedCodes (prune_job job h) codes' mark nodes) where
    all_colour_lem : (c : Colour) → all_mark surfaces trees b ≡ decided c → (possible : Bool) (v : List ℕ) → Within b v → all_own possible surfaces u trees v ≡ c
    all_colour_lem c e possible v w = own_decided surfaces b v w possible trees c e

    pub tally_white : mark ≡ 2 → {r : Contacts} → r ≡ tally_of 0 → r ≡ tally_over first last job
    tally_white e q =
        let m = bits_white (all_mark surfaces trees b) (sym (mark_is job h pruned) ∙ e) in
        q
        ∙ tally_eq _ _
        (sym (seen_white first last (all_own false surfaces u trees) left b (leftover job) (all_colour_lem White m false)))
        (sym (seen_white first last (all_colour surfaces u trees) left b (leftover job) (decided_white job h pruned e)))
        (sym (seen_white first last (all_own true surfaces u trees) left b (leftover job) (all_colour_lem White m true)))

    pub tally_black : {begin end : ℕ} → begin ≡ max frame first → end ≡ min (frame + (wide - 1)) last → begin ≤ end → mark ≡ 1 →
        {n : ℕ} → n ≡ black_voxels left wide begin end → {r : Contacts} → r ≡ tally_of n → r ≡ tally_over first last job
    tally_black {begin} {end} e f k black {n} a q =
        q
        ∙ tally_eq _ _
        (here (all_own false surfaces u trees) (all_colour_lem Black m false))
        (here (all_colour surfaces u trees) (decided_black job h pruned black))
        (here (all_own true surfaces u trees) (all_colour_lem Black m true))
      where
        m : all_mark surfaces trees b ≡ decided Black
        m = bits_black (all_mark surfaces trees b) (sym (mark_is job h pruned) ∙ black)

        x : begin ≡ best_seen false first last b
        x = begin_is job first last e

        y : end ≡ best_seen true first last b
        y = end_is job first last f

        here : (colours : Colouring) → ((v : List ℕ) → Within b v → colours v ≡ Black) → n ≡ seen_in first last colours b
        here colours c =
            a
            ∙ sym (seen_black first last colours left b (leftover job) c (omega (arith, x, y)) ∙ rw (← x, ← y, each_is job))

    module _ (not_white : mark ≡ 2 → ⊥) (not_black : mark ≡ 1 → ⊥) (n : ℕ) (e : times ≡ n + 1) where
      own_leftover : (possible : Bool) (i : ℕ) → all_own possible surfaces u trees (voxel_at left b i)
          ≡ all_own possible surfaces u (all_left surfaces trees b) (voxel_at left b i)
      own_leftover possible i =
          own_left surfaces b (voxel_at left b i) (voxel_within left b i (leftover job)) possible trees (open_over job h pruned not_white not_black)

      pub tally_opened : {r : Contacts} → r ≡ tally_over first last (left_job job h pruned not_white not_black n e) → r ≡ tally_over first last job
      unfolding left_job
      tally_opened q =
          q
          ∙ tally_eq _ _
          (sym (seen_agree first last left b (leftover job) (all_own false surfaces u trees) _ (own_leftover false)))
          (sym (seen_agree first last left b (leftover job) (colours_of job) _ (left_colours job h pruned not_white not_black n e)))
          (sym (seen_agree first last left b (leftover job) (all_own true surfaces u trees) _ (own_leftover true)))

-- ---- both halves
module _ {surfaces : Surfaces} {axes : ℕ} {table lengths low side : List ℕ} {left : ℕ} {codes : List ℕ} {from count : ℕ}
    (job : BlockJob surfaces axes table lengths low side left codes from count left) (some : 1 ≤ left) (first last : ℕ) where
  abbrev v : Universe
  v = job.at.universe

  abbrev P : Block
  P = block_left v left low

  abbrev axis : ℕ
  axis = get_or table (left - 1) 0

  abbrev half : ℕ
  half = get_or side axis 0 / 2

  abbrev carried : List Plain
  carried = job.carrying.trees

  lefts : Left (suc (left - 1)) P
  lefts = subst (λ (n : ℕ). Left n P) (left_suc job some) (leftover job)

  seen_both : (colours : Colouring) → seen_in first last colours (block_left v (left - 1) low)
      + seen_in first last colours (block_left v (left - 1) (high_lows low side axis)) ≡ seen_in first last colours P
  seen_both colours =
      ap₂ (λ (x y : Block). seen_in first last colours x + seen_in first last colours y) (lower_block job some) (upper_block_lem job some)
      ∙ sym (seen_halves first last colours (left - 1) P lefts)

  halves_tally : tallied (tally_from first last surfaces v carried (block_left v (left - 1) low))
      (tally_from first last surfaces v carried (block_left v (left - 1) (high_lows low side axis))) ≡ tally_over first last job
  halves_tally =
      tally_eq _ _ (seen_both (all_own false surfaces v carried)) (seen_both (all_colour surfaces v carried)) (seen_both (all_own true surfaces v carried))

  module _ {below : Contacts} {low₁ side₁ codes₁ : List ℕ} (q : below ≡ tally_over first last (lower_job job some))
      (p : PutBack (from + count) low (set side axis half) codes low₁ side₁ codes₁) where
    below_is : below ≡ tally_from first last surfaces v carried (block_left v (left - 1) low)
    unfolding lower_job lower_at
    below_is = q

    abbrev UpperJob : List ℕ → List ℕ → Type 0
    UpperJob lows sides = BlockJob surfaces axes table lengths lows sides (left - 1) codes₁ from count (left - 1 + 1)

    low_is : set low₁ axis (get_or low axis 0 + half) ≡ high_lows low side axis
    low_is = ap (λ (l : List ℕ). set l axis (get_or low axis 0 + half)) p.lows

    pub tally_upper : UpperJob (set low₁ axis (get_or low axis 0 + half)) side₁
    tally_upper = rw (low_is, p.sides) (upper_job job some p.below)

    module _ {above : Contacts} {low₂ side₂ codes₂ : List ℕ}
        (f : (j : UpperJob (set low₁ axis (get_or low axis 0 + half)) side₁) → above ≡ tally_over first last j)
        (r : PutBack (from + count) (set low₁ axis (get_or low axis 0 + half)) side₁ codes₁ low₂ side₂ codes₂) where
      above_job : above ≡ tally_over first last (upper_job job some p.below)
      above_job =
          let g = subst (λ (l : List ℕ). (j : UpperJob l side₁) → above ≡ tally_over first last j) low_is f in
          let h = subst (λ (s : List ℕ). (j : UpperJob (high_lows low side axis) s) → above ≡ tally_over first last j) p.sides g in
          h (upper_job job some p.below)

      above_is : above ≡ tally_from first last surfaces v carried (block_left v (left - 1) (high_lows low side axis))
      unfolding upper_job upper_at carrying_same
      above_is = above_job

      pub small_below : SmallTally below
      small_below = tally_small (lower_job job some) first last q

      pub small_above : SmallTally above
      small_above = tally_small (upper_job job some p.below) first last above_job

      pub tally_both : {t : Contacts} → t ≡ tallied below above → t ≡ tally_over first last job
      tally_both e = e ∙ ap₂ tallied below_is above_is ∙ halves_tally

      pub both_back : PutBack (from + count) low side codes (set low₂ axis (get_or low axis 0)) (set side₂ axis (get_or side axis 0)) codes₂
      both_back =
          record {
            lows = ap (λ (l : List ℕ). set l axis (get_or low axis 0)) (r.lows ∙ low_is) ∙ restored low axis (get_or low axis 0 + half);
            sides = ap (λ (l : List ℕ). set l axis (get_or side axis 0)) (r.sides ∙ p.sides) ∙ restored side axis half;
            below = same_then p.below r.below;
          }
