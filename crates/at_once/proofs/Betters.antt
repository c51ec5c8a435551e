-- What bettering a frame meets at a block: nothing where none of its frames are the window's, where the best of them is no better, or the trees are WHITE over
-- it; that frame where they are BLACK; the end of its word; and else what both halves come to, in either order.
use Prim.Native.Nat.{ℕ, ◌+◌, ◌-◌, ◌/◌, ◌≤◌, ◌<◌, min, max}
use mathlib.Core.Path.{◌≡◌, refl, sym, ap, ap₂, ◌∙◌, subst}
use mathlib.Core.Bool.{Bool, true, false, cond, not}
use mathlib.Core.List.{List}
use native.Mathlib.Omega.{arith}
use lib.Bits.{bit_and}
use lib.ListN.{get_or, set}
use lib.Seq.{set-get_or, set-set}
use Rattle.lemmas.proofs.Stores.{restored}
use Rattle.universe.specs.declared.Universe.{Universe}
use Rattle.universe.specs.declared.Block.{Block}
use Rattle.universe.specs.Block.{Given}
use Rattle.bintree.specs.Windows.{no_contact}
use Rattle.csg.specs.Surfaces.{Surfaces}
use Rattle.demands.specs.Voxels.{Colouring}
use Rattle.convert.specs.Blocks.{Standing, block_left, halved_sides}
use Rattle.convert.proofs.Blocks.{lower_standing, upper_standing}
use Rattle.masks.specs.Block.{half_of, block_mask}
use Rattle.masks.specs.Windows.{windowed, window_mask}
use Rattle.masks.specs.Ends.{better, AsGood, no_later, no_earlier, end_in, best_seen}
use Rattle.masks.specs.MaskEnds.{mask_end}
use Rattle.masks.proofs.Block.{half_given}
use Rattle.masks.proofs.Ends.{end_halves, end_either, end_bound_seen}
use Rattle.masks.proofs.MaskEnds.{end_none, end_mask}
use Rattle.masks.proofs.OneColour.{white_end, black_end}
use Rattle.at_once.specs.Codes.{SameCodes, AtBlock}
use Rattle.at_once.specs.Words.{word_levels}
use Rattle.at_once.specs.Pruning.{PrunedCodes}
use Rattle.at_once.specs.Counting.{BlockJob, colours_of, end_over, PutBack}
use Rattle.at_once.proofs.Jobs.{frame_is, leftover, begin_is, end_is, prune_job, decided_white, decided_black, left_job, left_colours, left_suc}
use Rattle.at_once.proofs.Jobs.{lower_block, upper_block_lem, standing', at_level, inner, room_same, carrying_same, same_then}
use Rattle.at_once.proofs.Counting.{outside_end, end_agree, seen_is}
use Rattle.at_once.proofs.Rooms.{same_itself}

pub better_last : {backward : Bool} {r : ℕ} (x y : ℕ) → backward ≡ true → r ≡ max x y → r ≡ better backward x y
better_last x y e q = rw e q

pub better_first : {backward : Bool} {r : ℕ} (x y : ℕ) → backward ≡ false → r ≡ min x y → r ≡ better backward x y
better_first x y e q = rw e q

-- what stays the better is as good
better_stays : (backward : Bool) (x y : ℕ) → better backward x y ≡ x → AsGood x y backward
better_stays true x y e = no_earlier (omega arith)
better_stays false x y e = no_later (omega arith)

other_place : (t : Bool) (x y : ℕ) → cond t x y ≡ cond (not t) y x
other_place true x y = refl
other_place false x y = refl

-- ---- a block
module _ {surfaces : Surfaces} {axes : ℕ} {table lengths low side : List ℕ} {left : ℕ} {codes : List ℕ} {from count times : ℕ}
    (job : BlockJob surfaces axes table lengths low side left codes from count times) (first last : ℕ) (backward : Bool) (known : ℕ) where
  abbrev u : Universe
  u = job.at.universe

  abbrev b : Block
  b = block_left u left low

  abbrev frame : ℕ
  frame = get_or low (axes - 1) 0

  abbrev wide : ℕ
  wide = get_or side (axes - 1) 0

  abbrev seen_colours : Colouring
  seen_colours = windowed u first last (colours_of job)

  abbrev IsEnd : ℕ → Type 0
  IsEnd r = r ≡ end_over backward first last job known

  -- its frames in the window
  module _ {begin end : ℕ} (e : begin ≡ max frame first) (f : end ≡ min (frame + (wide - 1)) last) where
    pub end_missed : end < begin → IsEnd known
    end_missed h =
        sym (outside_end first last left b (leftover job) (colours_of job) (omega (arith, begin_is job first last e, end_is job first last f)) backward known)

    best_seen_lem : (t : Bool) → cond t end begin ≡ best_seen t first last b
    best_seen_lem true = end_is job first last f
    best_seen_lem false = begin_is job first last e

    module _ {seen best : ℕ} (s : seen ≡ cond backward end begin) (r : best ≡ better backward known seen) where
      best_is : best ≡ better backward known (best_seen backward first last b)
      best_is = r ∙ ap (better backward known) (s ∙ best_seen_lem backward)

      pub end_known : best ≡ known → IsEnd known
      end_known q =
          sym (end_bound_seen first last (colours_of job) left b (leftover job) backward known (better_stays backward known _ (sym best_is ∙ q)))

      pub end_black : begin ≤ end → (h : 2 ≤ times) {codes' : List ℕ} {mark nodes : ℕ} → PrunedCodes (prune_job job h) codes' mark nodes → mark ≡ 1 → IsEnd best
      end_black m h pruned q =
          let x = begin_is job first last e in
          let y = end_is job first last f in
          best_is
          ∙ sym (black_end first last (colours_of job) left b (no_contact 0 0) (leftover job) (decided_black job h pruned q) backward known (omega arith))

  -- its word
  module _ {trees window : ℕ} (t : trees ≡ block_mask (colours_of job) left b) (w : window ≡ window_mask first last u left frame) where
    pub end_word_none : bit_and trees window ≡ 0 → IsEnd known
    end_word_none z = sym (end_none backward seen_colours left b known (leftover job) (seen_is job first last t w ∙ z))

    pub end_word : (bit_and trees window ≡ 0 → ⊥) → {e r : ℕ} → e ≡ mask_end backward u left (bit_and trees window) → r ≡ better backward known (frame + e) →
        IsEnd r
    end_word some {e} q p =
        p
        ∙ ap₂ (λ (x y : ℕ). better backward known (x + y)) (frame_is job) (q ∙ ap (mask_end backward u left) (sym (seen_is job first last t w)))
        ∙ sym (end_mask backward seen_colours left b known (leftover job) (λ z. some (sym (seen_is job first last t w) ∙ z)))

  -- pruned
  module _ (h : 2 ≤ times) {codes' : List ℕ} {mark nodes : ℕ} (pruned : PrunedCodes (prune_job job h) codes' mark nodes) where
    pub end_white : mark ≡ 2 → IsEnd known
    end_white e =
        sym (white_end first last (colours_of job) left b (no_contact 0 0) (leftover job) (decided_white job h pruned e) backward known)

    pub end_opened : (not_white : mark ≡ 2 → ⊥) (not_black : mark ≡ 1 → ⊥) (n : ℕ) (e : times ≡ n + 1) {r : ℕ} →
        r ≡ end_over backward first last (left_job job h pruned not_white not_black n e) known → IsEnd r
    unfolding left_job
    end_opened not_white not_black n e q =
        q ∙ sym (end_agree first last left b (leftover job) (colours_of job) _ (left_colours job h pruned not_white not_black n e) backward known)

-- ---- both halves
module _ {surfaces : Surfaces} {axes : ℕ} {table lengths low side : List ℕ} {left : ℕ} {codes : List ℕ} {from count : ℕ}
    (job : BlockJob surfaces axes table lengths low side left codes from count left) (some : 1 ≤ left) where
  abbrev v : Universe
  v = job.at.universe

  abbrev P : Block
  P = block_left v left low

  abbrev axis : ℕ
  axis = get_or table (left - 1) 0

  abbrev near : ℕ
  near = get_or low axis 0

  abbrev half : ℕ
  half = get_or side axis 0 / 2

  -- the low places of one half or the other
  abbrev half_lows : Bool → List ℕ
  half_lows t = set low axis (cond t (near + half) near)

  half_block : (t : Bool) → block_left v (left - 1) (half_lows t) ≡ half_of t P
  half_block true = upper_block_lem job some
  half_block false = ap (block_left v (left - 1)) (set-get_or low axis 0) ∙ lower_block job some

  half_standing : (t : Bool) → Standing v (left - 1) (half_lows t) (halved_sides side axis)
  half_standing true = upper_standing v job.at.scene.accepted_universe (left - 1) low side (standing' job some) axis (at_level job some)
  half_standing false =
      rw (set-get_or low axis 0) (lower_standing v job.at.scene.accepted_universe (left - 1) low side (standing' job some) axis (at_level job some))

  half_at : (t : Bool) → AtBlock surfaces axes (half_lows t) (halved_sides side axis) (left - 1)
  half_at t =
      record {
        universe = v;
        scene = job.at.scene;
        axes_are = job.at.axes_are;
        standing = half_standing t;
        given = subst Given (sym (half_block t)) (half_given t job.at.given (inner job some));
      }

  half_job : (t : Bool) {codes' : List ℕ} → SameCodes (from + count) codes codes' →
      BlockJob surfaces axes table lengths (half_lows t) (halved_sides side axis) (left - 1) codes' from count (left - 1 + 1)
  unfolding half_at
  half_job t s =
      record {
        at = half_at t;
        tabled = job.tabled;
        carrying = carrying_same s job.carrying;
        room = omega (arith, room_same job some, s.long);
        bounded = omega (arith, s.long, job.bounded);
      }

  abbrev HalfJob : List ℕ → List ℕ → List ℕ → Type 0
  HalfJob lows sides codes' = BlockJob surfaces axes table lengths lows sides (left - 1) codes' from count (left - 1 + 1)

  module _ (first last : ℕ) (backward : Bool) (known : ℕ) where
    abbrev seen_in : Colouring
    seen_in = windowed v first last (colours_of job)

    -- what one half comes to
    half_end : (t : Bool) {lows sides codes' : List ℕ} → lows ≡ half_lows t → sides ≡ halved_sides side axis → SameCodes (from + count) codes codes' →
        (k : ℕ) {r : ℕ} → ((j : HalfJob lows sides codes') → r ≡ end_over backward first last j k) → r ≡ end_in backward seen_in (left - 1) (half_of t P) k
    unfolding half_job half_at carrying_same
    half_end t {lows} {sides} {codes'} e d s k {r} f =
        let g = subst (λ (l : List ℕ). (j : HalfJob l sides codes') → r ≡ end_over backward first last j k) e f in
        let h = subst (λ (l : List ℕ). (j : HalfJob (half_lows t) l codes') → r ≡ end_over backward first last j k) d g in
        h (half_job t s) ∙ ap (λ (x : Block). end_in backward seen_in (left - 1) x k) (half_block t)

    -- the end of both, the low one first
    low_first : end_over backward first last job known
        ≡ end_in backward seen_in (left - 1) (half_of true P) (end_in backward seen_in (left - 1) (half_of false P) known)
    low_first = ap (λ (n : ℕ). end_in backward seen_in n P known) (left_suc job some) ∙ end_halves backward seen_in (left - 1) P known

    pub ends_in_order : {below above : ℕ} → ((j : HalfJob low (set side axis half) codes) → below ≡ end_over backward first last j known) →
        ((j : HalfJob (set low axis (near + half)) (set side axis half) codes) → above ≡ end_over backward first last j below) →
        above ≡ end_over backward first last job known
    ends_in_order {below} f g =
        half_end true refl refl same_itself below g
        ∙ ap (end_in backward seen_in (left - 1) (half_of true P)) (half_end false (sym (set-get_or low axis 0)) refl same_itself known f)
        ∙ sym low_first

    -- and the one first whose frames come first as they are sought
    halves_end : end_over backward first last job known
        ≡ end_in backward seen_in (left - 1) (half_of (not backward) P) (end_in backward seen_in (left - 1) (half_of backward P) known)
    halves_end = low_first ∙ go backward
      where
        go : (t : Bool) → end_in backward seen_in (left - 1) (half_of true P) (end_in backward seen_in (left - 1) (half_of false P) known)
            ≡ end_in backward seen_in (left - 1) (half_of (not t) P) (end_in backward seen_in (left - 1) (half_of t P) known)
        go false = refl
        go true = end_either backward seen_in (left - 1) (left - 1) (half_of true P) (half_of false P) known

    module _ {place : ℕ} (e : place ≡ cond backward (near + half) near) where
      sooner_lows : set low axis place ≡ half_lows backward
      sooner_lows = ap (set low axis) e

      pub sooner_job : HalfJob (set low axis place) (set side axis half) codes
      sooner_job = rw sooner_lows (half_job backward same_itself)

      -- the one half is done
      module _ {sooner : ℕ} {low₁ side₁ codes₁ : List ℕ}
          (f : (j : HalfJob (set low axis place) (set side axis half) codes) → sooner ≡ end_over backward first last j known)
          (p : PutBack (from + count) (set low axis place) (set side axis half) codes low₁ side₁ codes₁)
          {other : ℕ} (d : other ≡ cond backward near (near + half)) where
        later_lows : set low₁ axis other ≡ half_lows (not backward)
        later_lows =
            ap (λ (l : List ℕ). set l axis other) p.lows ∙ set-set low axis place other ∙ ap (set low axis) (d ∙ other_place backward near (near + half))

        pub later_job : HalfJob (set low₁ axis other) side₁ codes₁
        later_job = rw (later_lows, p.sides) (half_job (not backward) p.below)

        -- and the other
        module _ {later : ℕ} {low₂ side₂ codes₂ : List ℕ} (g : (j : HalfJob (set low₁ axis other) side₁ codes₁) → later ≡ end_over backward first last j sooner)
            (r : PutBack (from + count) (set low₁ axis other) side₁ codes₁ low₂ side₂ codes₂) where
          pub ends_both : later ≡ end_over backward first last job known
          ends_both =
              half_end (not backward) later_lows p.sides p.below sooner g
              ∙ ap (end_in backward seen_in (left - 1) (half_of (not backward) P)) (half_end backward sooner_lows refl same_itself known f)
              ∙ sym halves_end

          pub ends_back : PutBack (from + count) low side codes (set low₂ axis near) (set side₂ axis (get_or side axis 0)) codes₂
          ends_back =
              record {
                lows = ap (λ (l : List ℕ). set l axis near) (r.lows ∙ later_lows) ∙ restored low axis (cond (not backward) (near + half) near);
                sides = ap (λ (l : List ℕ). set l axis (get_or side axis 0)) (r.sides ∙ p.sides) ∙ restored side axis half;
                below = same_then p.below r.below;
              }

-- ---- a block whose halves have the levels of a word
pub as_bettered : {surfaces : Surfaces} {axes : ℕ} {table lengths low side codes : List ℕ} {from count left r : ℕ} (first last : ℕ) (backward : Bool)
    (known : ℕ) → left ≡ word_levels + 1 →
    ((job : BlockJob surfaces axes table lengths low side (word_levels + 1) codes from count (word_levels + 1)) → r ≡ end_over backward first last job known) →
    (job : BlockJob surfaces axes table lengths low side left codes from count left) → r ≡ end_over backward first last job known
as_bettered {surfaces} {axes} {table} {lengths} {low} {side} {codes} {from} {count} {r = r} first last backward known e f =
    subst (λ (n : ℕ). (job : BlockJob surfaces axes table lengths low side n codes from count n) → r ≡ end_over backward first last job known) (sym e) f
