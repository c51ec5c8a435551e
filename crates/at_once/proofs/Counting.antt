-- What counting meets at a block: nothing where none of its frames are the window's, or the trees are WHITE over it; its frames in the window where they are
-- BLACK; the ends and the ones of its word; and else what both halves come to, by what is left of the trees.
use Prim.Native.Nat.{ℕ, suc, ◌+◌, ◌-◌, ◌/◌, ◌^◌, ◌≤◌, ◌<◌, min, max}
use mathlib.Core.Path.{◌≡◌, refl, sym, ap, ap₂, ◌∙◌, subst}
use mathlib.Core.Bool.{Bool, true, false, cond}
use mathlib.Core.List.{List}
use native.Mathlib.Omega.{arith}
use borrow.Author.Tests.{le-leb}
use lib.Bits.{bit_and, and_zero_l}
use lib.Count.{ones, ones-le}
use lib.ListN.{get_or, set}
use Rattle.lemmas.proofs.Stores.{restored}
use Rattle.universe.specs.declared.Universe.{Universe}
use Rattle.universe.specs.declared.Block.{Block}
use Rattle.universe.specs.Universe.{frame_axis}
use Rattle.universe.specs.Block.{low_along, length_along}
use Rattle.universe.proofs.Blocks.{given_placed}
use Rattle.bintree.specs.declared.Colour.{Colour}
use Rattle.bintree.specs.declared.Colour.TheVariants.{White, Black}
use Rattle.bintree.specs.declared.Contact.{Contact}
use Rattle.bintree.specs.Windows.{touched}
use Rattle.csg.specs.Surfaces.{Surfaces}
use Rattle.demands.specs.Voxels.{Colouring, is_black}
use Rattle.demands.specs.Verdicts.{frame_of}
use Rattle.convert.specs.Blocks.{block_left, halved_sides, high_lows}
use Rattle.masks.specs.Block.{voxel_at, is_black_at, block_mask}
use Rattle.masks.specs.Windows.{is_between, windowed, window_mask}
use Rattle.masks.specs.Ends.{end_in, best_seen}
use Rattle.masks.specs.MaskEnds.{mask_end}
use Rattle.masks.specs.Contacts.{contact_in}
use Rattle.masks.proofs.Block.{Left, mask_agree, mask_fits, voxel_within}
use Rattle.masks.proofs.Trees.{white_mask_lem}
use Rattle.masks.proofs.Counts.{ones_black}
use Rattle.masks.proofs.Windows.{frame_at_lem, window_mask_lem}
use Rattle.masks.proofs.Ends.{seen_between, end_cong, end_white}
use Rattle.masks.proofs.MaskEnds.{mask_ends}
use Rattle.masks.proofs.Contacts.{contact_eq, contact_halves, contact_none, contact_mask}
use Rattle.masks.proofs.OneColour.{white_contact, black_contact}
use Rattle.at_once.specs.Pruning.{PrunedCodes}
use Rattle.at_once.specs.Codes.{block_at}
use Rattle.at_once.specs.Words.{word_levels}
use Rattle.at_once.specs.Counting.{BlockJob, colours_of, contact_over, CountJob, WordOver, CountWord, PutBack, joined_contact}
use Rattle.at_once.specs.Counting.{black_voxels}
use Rattle.at_once.proofs.Jobs.{frame_is, wide_is, frames_end, leftover, each_is, begin_is, end_is, prune_job, decided_white, decided_black, left_job}
use Rattle.at_once.proofs.Jobs.{left_colours, left_suc, lower_block, upper_block_lem, lower_job, lower_at}
use Rattle.at_once.proofs.Rooms.{same_itself}
use Rattle.at_once.proofs.Jobs.{upper_job, upper_at, carrying_same, same_then, below_same, same_below}

-- ---- any colours
module _ (first last : ℕ) (n : ℕ) (b : Block) (l : Left n b) where
  -- a block none of whose frames are the window's
  module _ (colours : Colouring) (missed : best_seen true first last b < best_seen false first last b) where
    abbrev seen : Colouring
    seen = windowed b.universe first last colours

    none_seen : (i : ℕ) → seen (voxel_at n b i) ≡ White
    none_seen i = go (seen (voxel_at n b i)) refl
      where
        go : (c : Colour) → seen (voxel_at n b i) ≡ c → seen (voxel_at n b i) ≡ White
        go White e = e
        go Black e =
            let h : is_black_at seen n b i ≡ true = ap is_black e in
            let w = seen_between first last colours n b l i h in
            absurd (omega (arith, w.0, w.1))

    pub outside_contact : (k : Contact) → contact_in first last colours n b k ≡ k
    outside_contact k =
        contact_none first last colours n b k l
        (window_mask_lem first last colours n b l ∙ mask_agree seen (λ v. White) n b (λ i m. none_seen i) ∙ white_mask_lem n b)

    pub outside_end : (backward : Bool) (known : ℕ) → end_in backward seen n b known ≡ known
    outside_end backward known = end_white backward seen n b known (λ i m. none_seen i)

  -- colours that agree on the voxels
  module _ (c d : Colouring) (same : (i : ℕ) → c (voxel_at n b i) ≡ d (voxel_at n b i)) where
    seen_agree : (i : ℕ) → windowed b.universe first last c (voxel_at n b i) ≡ windowed b.universe first last d (voxel_at n b i)
    seen_agree i = ap (λ (x : Colour). cond (is_between first last (frame_of b.universe (voxel_at n b i))) x White) (same i)

    pub end_agree : (backward : Bool) (known : ℕ) →
        end_in backward (windowed b.universe first last c) n b known ≡ end_in backward (windowed b.universe first last d) n b known
    unfolding end_in
    end_agree backward known = end_cong backward _ _ _ _ known _ (λ i m. ap is_black (seen_agree i)) (λ i m. refl)

    pub contact_agree : (k : Contact) → contact_in first last c n b k ≡ contact_in first last d n b k
    unfolding contact_in
    contact_agree k =
        contact_eq _ _ (end_agree false k.first) (end_agree true k.last)
        (ap (λ (x : ℕ). k.voxels + x)
        (sym (ones_black (windowed b.universe first last c) n b l)
        ∙ ap ones (mask_agree (windowed b.universe first last c) (windowed b.universe first last d) n b (λ i m. seen_agree i))
        ∙ ones_black (windowed b.universe first last d) n b l))

  -- the end of a mask is a frame of the block
  pub end_inside : (backward : Bool) (colours : Colouring) → (block_mask colours n b ≡ 0 → ⊥) →
      low_along b (frame_axis b.universe) + mask_end backward b.universe n (block_mask colours n b)
      < low_along b (frame_axis b.universe) + length_along b (frame_axis b.universe)
  end_inside backward colours k =
      let some : 0 < b.universe.axes = (given_placed l.given).taken.some_axes in
      let e = mask_ends backward b.universe some n (block_mask colours n b) (mask_fits colours n b) (omega (arith, l.left)) k in
      let i = e.attained.number in
      omega (arith, e.attained.has, frame_at_lem n b i l, (voxel_within n b i l).below (frame_axis b.universe) (omega arith))

-- a contact's voxels only grow
pub voxels_grow : (first last : ℕ) (colours : Colouring) (n : ℕ) (b : Block) (k : Contact) → k.voxels ≤ (contact_in first last colours n b k).voxels
unfolding contact_in
voxels_grow first last colours n b k = omega arith

-- by as many as the block has at the most
pub voxels_few : (first last : ℕ) (colours : Colouring) (n : ℕ) (b : Block) (k : Contact) → Left n b →
    (contact_in first last colours n b k).voxels ≤ k.voxels + 2 ^ n
unfolding contact_in
voxels_few first last colours n b k l =
    let seen = windowed b.universe first last colours in
    omega (arith, ones_black seen n b l, ones-le (2 ^ n) (block_mask seen n b) (mask_fits seen n b))

-- ---- a block
module _ {surfaces : Surfaces} {axes : ℕ} {table lengths low side : List ℕ} {left : ℕ} {codes : List ℕ} {from count times : ℕ}
    (job : BlockJob surfaces axes table lengths low side left codes from count times) (first last : ℕ) where
  abbrev u : Universe
  u = job.at.universe

  abbrev b : Block
  b = block_left u left low

  abbrev frame : ℕ
  frame = get_or low (axes - 1) 0

  abbrev wide : ℕ
  wide = get_or side (axes - 1) 0

  pub count_missed : {begin end : ℕ} → begin ≡ max frame first → end ≡ min (frame + (wide - 1)) last → end < begin → (k : Contact) →
      k ≡ contact_over first last job k
  count_missed e f h k =
      sym (outside_contact first last left b (leftover job) (colours_of job) (omega (arith, begin_is job first last e, end_is job first last f)) k)

  -- its word
  module _ {trees window : ℕ} (t : trees ≡ block_mask (colours_of job) left b) (w : window ≡ window_mask first last u left frame) where
    abbrev word : ℕ
    word = bit_and trees window

    word_is : bit_and (block_mask (colours_of job) left b) (window_mask first last u left (low_along b (frame_axis u))) ≡ word
    word_is = sym (ap₂ bit_and t (w ∙ ap (window_mask first last u left) (frame_is job)))

    pub seen_is : block_mask (windowed u first last (colours_of job)) left b ≡ word
    seen_is = sym (window_mask_lem first last (colours_of job) left b (leftover job)) ∙ word_is

    pub trees_none : trees ≡ 0 → word ≡ 0
    trees_none z = ap (λ (x : ℕ). bit_and x window) z ∙ and_zero_l window

    pub word_none : word ≡ 0 → (k : Contact) → k ≡ contact_over first last job k
    word_none z k = sym (contact_none first last (colours_of job) left b k (leftover job) (word_is ∙ z))

    module _ (some : word ≡ 0 → ⊥) where
      word_inside : (backward : Bool) → low_along b (frame_axis u) + mask_end backward u left word < frame + wide
      word_inside backward =
          let m = end_inside first last left b (leftover job) backward (windowed u first last (colours_of job)) (λ z. some (sym seen_is ∙ z)) in
          let p : low_along b (frame_axis u) + mask_end backward u left word < low_along b (frame_axis u) + length_along b (frame_axis u) = rw seen_is at m in
          omega (arith, frame_is job, wide_is job)

      pub word_end_fits : (backward : Bool) {e : ℕ} → e ≡ mask_end backward u left word → frame + e < 2 ^ 64
      word_end_fits backward {e} q = omega (arith, q, frame_is job, word_inside backward, frames_end job)

      word_contact : (k : Contact) → contact_over first last job k ≡ joined_contact k (low_along b (frame_axis u) + mask_end false u left word)
          (low_along b (frame_axis u) + mask_end true u left word) (ones word)
      word_contact k =
          contact_mask first last (colours_of job) left b k (leftover job) (λ z. some (sym word_is ∙ z))
          ∙ ap (λ (m : ℕ). joined_contact k (low_along b (frame_axis u) + mask_end false u left m) (low_along b (frame_axis u) + mask_end true u left m) (ones m))
          word_is

      pub word_joined : (k : Contact) {x y n : ℕ} → x ≡ mask_end false u left word → y ≡ mask_end true u left word → n ≡ ones word →
          joined_contact k (frame + x) (frame + y) n ≡ contact_over first last job k
      word_joined k e f g = sym (word_contact k ∙ rw (e, f, g, frame_is job))

      -- whose frames better nothing
      pub word_within : (k : Contact) → k.first ≤ frame → frame + (wide - 1) ≤ k.last → {n : ℕ} → n ≡ ones word →
          joined_contact k frame (frame + (wide - 1)) n ≡ contact_over first last job k
      word_within k h l {n} e =
          contact_eq _ _ (omega (arith, frame_is job)) (omega (arith, word_inside true)) (ap (λ (x : ℕ). k.voxels + x) e) ∙ sym (word_contact k)

      pub ones_fit : (k : Contact) {n : ℕ} → n ≡ ones word → (contact_over first last job k).voxels < 2 ^ 64 → k.voxels + n < 2 ^ 64
      ones_fit k e h = omega (arith, ap (λ (x : Contact). x.voxels) (word_contact k))

  -- pruned
  module _ (h : 2 ≤ times) {codes' : List ℕ} {mark nodes : ℕ} (pruned : PrunedCodes (prune_job job h) codes' mark nodes) where
    pub count_white : mark ≡ 2 → (k : Contact) → k ≡ contact_over first last job k
    count_white e k = sym (white_contact first last (colours_of job) left b k (leftover job) (decided_white job h pruned e))

    module _ {begin end : ℕ} (e : begin ≡ max frame first) (f : end ≡ min (frame + (wide - 1)) last) (m : begin ≤ end) (black : mark ≡ 1) where
      black_whole : (k : Contact) → contact_over first last job k ≡ joined_contact k begin end (black_voxels left wide begin end)
      unfolding touched
      black_whole k =
          let x = begin_is job first last e in
          let y = end_is job first last f in
          let o : best_seen false first last b ≤ best_seen true first last b = omega arith in
          black_contact first last (colours_of job) left b k (leftover job) (decided_black job h pruned black)
          ∙ rw (le-leb _ _ o, ← x, ← y, each_is job)

      pub count_black_lem : (k : Contact) {n : ℕ} → n ≡ black_voxels left wide begin end → joined_contact k begin end n ≡ contact_over first last job k
      count_black_lem k q = sym (black_whole k ∙ ap (joined_contact k begin end) (sym q))

      pub black_fits : (k : Contact) {n : ℕ} → n ≡ black_voxels left wide begin end → (contact_over first last job k).voxels < 2 ^ 64 → k.voxels + n < 2 ^ 64
      black_fits k q g = omega (arith, ap (λ (x : Contact). x.voxels) (black_whole k))

    module _ (not_white : mark ≡ 2 → ⊥) (not_black : mark ≡ 1 → ⊥) (n : ℕ) (e : times ≡ n + 1) where
      left_contact : (k : Contact) → contact_over first last job k ≡ contact_over first last (left_job job h pruned not_white not_black n e) k
      unfolding left_job
      left_contact k = contact_agree first last left b (leftover job) (colours_of job) _ (left_colours job h pruned not_white not_black n e) k

      pub count_left : (k : Contact) → (contact_over first last job k).voxels < 2 ^ 64 →
          CountJob surfaces axes table lengths low side left codes' (from + count) nodes n first last k
      count_left k g =
          record { block = left_job job h pruned not_white not_black n e; counts = subst (λ (x : Contact). x.voxels < 2 ^ 64) (left_contact k) g }

      pub count_opened : (k : Contact) (g : (contact_over first last job k).voxels < 2 ^ 64) {r : Contact} →
          r ≡ contact_over first last (count_left k g).block k → r ≡ contact_over first last job k
      unfolding count_left
      count_opened k g q = q ∙ sym (left_contact k)

      pub opened_back : {low' side' codes'' : List ℕ} → PutBack (from + count + nodes) low side codes' low' side' codes'' →
          PutBack (from + count) low side codes low' side' codes''
      opened_back p =
          record { lows = p.lows; sides = p.sides; below = same_then (below_same job h pruned) (same_below (omega arith) p.below) }

-- ---- a block's word
abbrev pub word_over : {surfaces : Surfaces} {axes : ℕ} {table lengths low side : List ℕ} {left : ℕ} {codes : List ℕ} {from count times : ℕ}
    (job : BlockJob surfaces axes table lengths low side left codes from count times) → left ≤ word_levels → {word : ℕ} →
    word ≡ block_mask (colours_of job) left (block_at job.at) → WordOver axes table lengths low side left word
word_over {surfaces} {codes = codes} {from} {count} {times} job h e =
    record { surfaces = surfaces; codes = codes; from = from; count = count; times = times; block = job; few = h; word_is = e }

abbrev pub count_word : {surfaces : Surfaces} {axes : ℕ} {table lengths low side : List ℕ} {left : ℕ} {codes : List ℕ} {from count times first last : ℕ} {k :
    Contact}
    (job : CountJob surfaces axes table lengths low side left codes from count times first last k) → left ≤ word_levels → {word : ℕ} →
    word ≡ block_mask (colours_of job.block) left (block_at job.block.at) → CountWord axes table lengths low side left word first last k
count_word job h e = record { over = word_over job.block h e; counts = job.counts }

-- ---- a block whose halves have the levels of a word
module _ {surfaces : Surfaces} {axes : ℕ} {table lengths low side codes : List ℕ} {from count first last : ℕ} {k : Contact} where
  pub counts_job : {left : ℕ} → left ≡ word_levels + 1 → CountJob surfaces axes table lengths low side left codes from count left first last k →
      CountJob surfaces axes table lengths low side (word_levels + 1) codes from count (word_levels + 1) first last k
  counts_job e job = subst (λ (n : ℕ). CountJob surfaces axes table lengths low side n codes from count n first last k) e job

  pub as_counted : {left : ℕ} {r : Contact} → left ≡ word_levels + 1 →
      ((job : CountJob surfaces axes table lengths low side (word_levels + 1) codes from count (word_levels + 1) first last k) →
      r ≡ contact_over first last job.block k) →
      (job : CountJob surfaces axes table lengths low side left codes from count left first last k) → r ≡ contact_over first last job.block k
  as_counted {r = r} e f =
      subst (λ (n : ℕ). (job : CountJob surfaces axes table lengths low side n codes from count n first last k) → r ≡ contact_over first last job.block k)
      (sym e) f

-- ---- both halves
module _ {surfaces : Surfaces} {axes : ℕ} {table lengths low side : List ℕ} {left : ℕ} {codes : List ℕ} {from count : ℕ} {first last : ℕ} {k : Contact}
    (job : CountJob surfaces axes table lengths low side left codes from count left first last k) (some : 1 ≤ left) where
  abbrev v : Universe
  v = job.block.at.universe

  abbrev P : Block
  P = block_left v left low

  abbrev axis : ℕ
  axis = get_or table (left - 1) 0

  abbrev half : ℕ
  half = get_or side axis 0 / 2

  abbrev colours : Colouring
  colours = colours_of job.block

  abbrev lowest : Contact
  lowest = contact_in first last colours (left - 1) (block_left v (left - 1) low) k

  halves_contact : contact_over first last job.block k ≡ contact_in first last colours (left - 1) (block_left v (left - 1) (high_lows low side axis)) lowest
  halves_contact =
      let e = left_suc job.block some in
      let l : Left (suc (left - 1)) P = subst (λ (n : ℕ). Left n P) e (leftover job.block) in
      ap (λ (n : ℕ). contact_in first last colours n P k) e
      ∙ contact_halves first last colours (left - 1) P k l
      ∙ ap₂ (λ (x y : Block). contact_in first last colours (left - 1) x (contact_in first last colours (left - 1) y k))
      (sym (upper_block_lem job.block some)) (sym (lower_block job.block some))

  pub count_lower : CountJob surfaces axes table lengths low (set side axis half) (left - 1) codes from count (left - 1 + 1) first last k
  unfolding lower_job lower_at
  count_lower =
      record {
        block = lower_job job.block some;
        counts = omega (
          arith,
          job.counts,
          ap (λ (x : Contact). x.voxels) halves_contact,
          voxels_grow first last colours (left - 1) (block_left v (left - 1) (high_lows low side axis)) lowest,
        );
      }

  -- the low half is counted
  module _ {below : Contact} {low₁ side₁ codes₁ : List ℕ} (q : below ≡ contact_over first last count_lower.block k)
      (p : PutBack (from + count) low (set side axis half) codes low₁ side₁ codes₁) where
    below_is : below ≡ lowest
    unfolding count_lower lower_job lower_at
    below_is = q

    abbrev UpperJob : List ℕ → List ℕ → Type 0
    UpperJob lows sides = CountJob surfaces axes table lengths lows sides (left - 1) codes₁ from count (left - 1 + 1) first last below

    upper_contact : contact_over first last (upper_job job.block some p.below) below ≡ contact_over first last job.block k
    unfolding upper_job upper_at carrying_same
    upper_contact =
        ap (contact_in first last colours (left - 1) (block_left v (left - 1) (high_lows low side axis))) below_is ∙ sym halves_contact

    upper_exact : UpperJob (high_lows low side axis) (halved_sides side axis)
    upper_exact =
        record {
          block = upper_job job.block some p.below;
          counts = subst (λ (x : Contact). x.voxels < 2 ^ 64) (sym upper_contact) job.counts;
        }

    low_is : set low₁ axis (get_or low axis 0 + half) ≡ high_lows low side axis
    low_is = ap (λ (l : List ℕ). set l axis (get_or low axis 0 + half)) p.lows

    pub count_upper : UpperJob (set low₁ axis (get_or low axis 0 + half)) side₁
    count_upper = rw (low_is, p.sides) upper_exact

    -- so is the high one
    module _ {above : Contact} {low₂ side₂ codes₂ : List ℕ}
        (f : (j : UpperJob (set low₁ axis (get_or low axis 0 + half)) side₁) → above ≡ contact_over first last j.block below)
        (r : PutBack (from + count) (set low₁ axis (get_or low axis 0 + half)) side₁ codes₁ low₂ side₂ codes₂) where
      pub count_both : above ≡ contact_over first last job.block k
      unfolding upper_exact
      count_both =
          let g = subst (λ (l : List ℕ). (j : UpperJob l side₁) → above ≡ contact_over first last j.block below) low_is f in
          let h = subst (λ (s : List ℕ). (j : UpperJob (high_lows low side axis) s) → above ≡ contact_over first last j.block below) p.sides g in
          h upper_exact ∙ upper_contact

      pub both_back : PutBack (from + count) low side codes (set low₂ axis (get_or low axis 0)) (set side₂ axis (get_or side axis 0)) codes₂
      both_back =
          record {
            lows = ap (λ (l : List ℕ). set l axis (get_or low axis 0)) (r.lows ∙ low_is) ∙ restored low axis (get_or low axis 0 + half);
            sides = ap (λ (l : List ℕ). set l axis (get_or side axis 0)) (r.sides ∙ p.sides) ∙ restored side axis half;
            below = same_then p.below r.below;
          }

-- what is changed for both halves and put back
pub words_back : {low side codes : List ℕ} {place : ℕ} (axis x y : ℕ) →
    PutBack place low side codes (set (set low axis x) axis (get_or low axis 0)) (set (set side axis y) axis (get_or side axis 0)) codes
words_back {low} {side} axis x y = record { lows = restored low axis x; sides = restored side axis y; below = same_itself }
