-- Contacts block by block: with a block's halves one after the other, with what is read off its mask, with nothing where that is 0; and with the whole block
-- the contact is what a verdict has to be, since its ends are those of black voxels of the window, none of which has a better frame, and it counts them all.
use mathlib.Core.Path.{◌≡◌, refl, sym, ap, subst, ◌∙◌}
use mathlib.Core.Bool.{Bool, true, false}
use mathlib.Core.Logic.{inr}
use Prim.Native.Nat.{ℕ, suc, ◌+◌, ◌^◌, ◌≤◌, ◌<◌, min, max}
use native.Mathlib.Omega.{arith}
use native.Mathlib.Decide.{dec_lt}
use lib.Dec.{leb}
use lib.Bits.{bit_and}
use lib.Count.{ones}
use borrow.Author.Tests.{eq-eqb, ne_eqb, le-leb, leb-true}
use Rattle.lemmas.specs.Sums.{sum}
use Rattle.lemmas.specs.Grid.{count}
use Rattle.lemmas.proofs.Sums.{sum_zero, sum_part, and_left, and_right}
use Rattle.universe.specs.declared.Universe.{Universe}
use Rattle.universe.specs.declared.Block.{Block}
use Rattle.universe.specs.Universe.{universe_refusal, levels, frame_axis}
use Rattle.universe.specs.Block as blocks
use Rattle.universe.specs.Block.{low_along, whole_block}
use Rattle.universe.specs.Voxel.{window_refusal}
use Rattle.universe.proofs.Universes.{Accepted, accepted}
use Rattle.universe.proofs.Voxel.{whole_holds}
use Rattle.bintree.specs.declared.Contact.{Contact}
use Rattle.bintree.specs.declared.Verdict.{Verdict}
use Rattle.bintree.specs.declared.Verdict.TheVariants.{Clear, Hit}
use Rattle.bintree.specs.Verdicts.{window_length, verdict}
use Rattle.bintree.specs.Windows.{no_contact, verdict_of}
use Rattle.csg.specs.Surfaces.{Surfaces}
use Rattle.csg.specs.Tree.{Tree, plain}
use Rattle.csg.specs.Marks.{plain_colour, tree_colour}
use Rattle.csg.specs.Raw.{raw, both}
use Rattle.csg.proofs.Marks.{tree_places}
use Rattle.demands.specs.Voxels.{Colouring, black_voxels_at}
use Rattle.demands.specs.Verdicts.{frame_of, BlackVoxel, Touches, Judges}
use Rattle.demands.proofs.Verdicts.{count_black_lem}
use Rattle.demands.proofs.Theorems.{verdict_of_trees}
use Rattle.masks.specs.Mask.{tally}
use Rattle.masks.specs.Block.{voxel_at, is_black_at, block_mask}
use Rattle.masks.specs.Windows.{is_between, windowed, window_mask}
use Rattle.masks.specs.Ends.{AsGood, no_later, no_earlier, end_in}
use Rattle.masks.specs.MaskEnds.{mask_end}
use Rattle.masks.specs.Contacts.{contact_in, ByPlaces}
use Rattle.masks.proofs.Block.{Left, left_whole, Numbered, voxel_accepted, voxel_numbered}
use Rattle.masks.proofs.Counts.{black_halves, black_tally}
use Rattle.masks.proofs.Windows.{window_mask_lem, window_ones, black_window, in_order, in_frames}
use Rattle.masks.proofs.Ends.{Attains, end_is, end_stays, end_halves, seen_black}
use Rattle.masks.proofs.MaskEnds.{end_none, end_mask}

pub contact_eq : (x y : Contact) → x.first ≡ y.first → x.last ≡ y.last → x.voxels ≡ y.voxels → x ≡ y
contact_eq x y e f g = λ i. record { first = e i; last = f i; voxels = g i }

-- ---- one block

module _ (first last : ℕ) (colours : Colouring) where
  -- THEOREM: the contact with a block is that with its halves
  pub contact_halves : (n : ℕ) (b : Block) (k : Contact) → Left (suc n) b →
      contact_in first last colours (suc n) b k ≡ contact_in first last colours n (blocks.high b) (contact_in first last colours n (blocks.low b) k)
  unfolding contact_in
  contact_halves n b k l =
      let seen = windowed b.universe first last colours in
      contact_eq _ _ (end_halves false seen n b k.first) (end_halves true seen n b k.last) (omega (arith, black_halves seen l))

  module _ (n : ℕ) (b : Block) (k : Contact) (l : Left n b) where
    abbrev seen_mask : ℕ
    seen_mask = bit_and (block_mask colours n b) (window_mask first last b.universe n (low_along b (frame_axis b.universe)))

    abbrev seen_colours : Colouring
    seen_colours = windowed b.universe first last colours

    -- THEOREM: a block whose mask within the window is 0 changes nothing
    pub contact_none : seen_mask ≡ 0 → contact_in first last colours n b k ≡ k
    unfolding contact_in ones
    contact_none z =
        let m : block_mask seen_colours n b ≡ 0 = sym (window_mask_lem first last colours n b l) ∙ z in
        contact_eq _ k (end_none false seen_colours n b k.first l m) (end_none true seen_colours n b k.last l m)
        (omega (arith, window_ones first last colours n b l, ap ones z))

    -- THEOREM: with any other, the ends are read off the mask and its ones are added
    pub contact_mask : (seen_mask ≡ 0 → ⊥) → contact_in first last colours n b k ≡ record {
      first = min k.first (low_along b (frame_axis b.universe) + mask_end false b.universe n seen_mask);
      last = max k.last (low_along b (frame_axis b.universe) + mask_end true b.universe n seen_mask);
      voxels = k.voxels + ones seen_mask;
    }
    unfolding contact_in
    contact_mask some =
        let e = window_mask_lem first last colours n b l in
        let s : block_mask seen_colours n b ≡ 0 → ⊥ = λ z. some (e ∙ z) in
        contact_eq _ _
        (end_mask false seen_colours n b k.first l s
        ∙ ap (λ m. min k.first (low_along b (frame_axis b.universe) + mask_end false b.universe n m)) (sym e))
        (end_mask true seen_colours n b k.last l s
        ∙ ap (λ m. max k.last (low_along b (frame_axis b.universe) + mask_end true b.universe n m)) (sym e))
        (ap (λ x. k.voxels + x) (sym (window_ones first last colours n b l)))

-- ---- the whole block

module _ (u : Universe) (e : universe_refusal u ≡ 0) (colours : Colouring) (places : ByPlaces u colours) (first last : ℕ)
    (window : window_refusal u first last ≡ 0) where
  accept : Accepted u
  accept = accepted u e

  abbrev seen : Colouring
  seen = windowed u first last colours

  whole : Left (levels u) (whole_block u)
  whole = left_whole u e

  -- a number that is black there is a black voxel of the window
  voxel_of : (i : ℕ) → is_black_at seen (levels u) (whole_block u) i ≡ true → BlackVoxel u colours first last
  voxel_of i h =
      let v = voxel_at (levels u) (whole_block u) i in
      let s = seen_black (is_between first last (frame_of u v)) (colours v) h in
      record {
        voxel = v;
        inside = voxel_accepted (levels u) (whole_block u) i whole;
        from = leb-true _ _ (and_left (leb first (frame_of u v)) (leb (frame_of u v) last) s.0);
        to = leb-true _ _ (and_right (leb first (frame_of u v)) (leb (frame_of u v) last) s.0);
        black = s.1;
      }

  abbrev frame_at_number : ℕ → ℕ
  frame_at_number i = frame_of u (voxel_at (levels u) (whole_block u) i)

  -- and a black voxel of the window has such a number
  number_of : (b : BlackVoxel u colours first last) → Attains (is_black_at seen (levels u) (whole_block u)) frame_at_number (2 ^ levels u) (frame_of u b.voxel)
  number_of b =
      let r = voxel_numbered (levels u) (whole_block u) b.voxel whole (whole_holds u b.voxel accept b.inside) in
      let f : frame_of u b.voxel ≡ frame_of u (voxel_at (levels u) (whole_block u) r.number) = r.places (frame_axis u) (omega (arith, accept.some_axes)) in
      record { number = r.number; below = r.below; holds = holds r f; has = f }
    where
      holds : (r : Numbered (levels u) (whole_block u) b.voxel) → frame_of u b.voxel ≡ frame_of u (voxel_at (levels u) (whole_block u) r.number) →
          is_black_at seen (levels u) (whole_block u) r.number ≡ true
      holds r f =
          rw (
            ← f,
            ← (places.same b.voxel (voxel_at (levels u) (whole_block u) r.number) r.places),
            b.black,
            le-leb first (frame_of u b.voxel) b.from,
            le-leb (frame_of u b.voxel) last b.to,
          )

  -- the end of a block is the frame of a black voxel that none betters
  end_fixed : (backward : Bool) (known : ℕ) (b : BlackVoxel u colours first last) → AsGood (frame_of u b.voxel) known backward →
      ((c : BlackVoxel u colours first last) → AsGood (frame_of u b.voxel) (frame_of u c.voxel) backward) →
      end_in backward seen (levels u) (whole_block u) known ≡ frame_of u b.voxel
  unfolding end_in voxel_of
  end_fixed backward known b h k =
      end_is backward (is_black_at seen (levels u) (whole_block u)) frame_at_number known (2 ^ levels u) (frame_of u b.voxel)
      (record { as_known = h; as_others = λ i l t. k (voxel_of i t); is_one = inr (number_of b) })

  abbrev contact : Contact
  contact = contact_in first last colours (levels u) (whole_block u) (no_contact first last)

  -- it counts all of them
  counts : contact.voxels ≡ sum (window_length first last) (λ c. black_voxels_at u colours (first + c))
  unfolding contact_in
  counts = omega (arith, black_window u accept colours first last window)

  counts_some : BlackVoxel u colours first last → contact.voxels ≡ 0 → ⊥
  unfolding contact_in tally
  counts_some b z =
      let n = number_of b in
      omega (
        arith,
        z,
        black_tally seen (levels u) (whole_block u) whole,
        sum_part (2 ^ levels u) (λ i. count (is_black_at seen (levels u) (whole_block u) i)) n.number n.below,
        ap count n.holds,
      )

  counts_none : (BlackVoxel u colours first last → ⊥) → contact.voxels ≡ 0
  counts_none h =
      counts ∙ sum_zero (window_length first last) (λ c. black_voxels_at u colours (first + c)) (λ c l. go c l (dec_lt 0 (black_voxels_at u colours (first + c))))
    where
      go : (c : ℕ) → c < window_length first last → Dec (0 < black_voxels_at u colours (first + c)) → black_voxels_at u colours (first + c) ≡ 0
      go c l (yes k) =
          let inside : first + c ≤ last = omega (arith, in_order u accept colours first last window) in
          let b = count_black_lem u accept colours (first + c) (omega (arith, in_frames u accept colours first last window)) k in
          absurd (h (record { voxel = b.voxel; inside = b.inside; from = omega (arith, b.from); to = omega (arith, b.to); black = b.black }))
      go c l (no k) = omega arith

  touches_contact : (c : Contact) → Touches u colours first last c → c ≡ contact
  unfolding contact_in
  touches_contact c t =
      contact_eq c contact
      (t.first_frame
      ∙ sym (end_fixed false last t.earliest (no_later t.earliest.to) (λ b. no_later (omega (arith, t.first_frame, t.none_before b)))))
      (t.last_frame
      ∙ sym (end_fixed true first t.latest (no_earlier t.latest.from) (λ b. no_earlier (omega (arith, t.last_frame, t.none_after b)))))
      (t.all ∙ sym counts)

  -- THEOREM: a Hit's ends are the whole block's, from any frame on that is no better; and where no voxel of the window is black, nothing is made of any frame
  pub ends_hit : (c : Contact) → Judges u colours first last (Hit c) →
      ((known : ℕ) → c.first ≤ known → end_in false seen (levels u) (whole_block u) known ≡ c.first)
      × ((known : ℕ) → known ≤ c.last → end_in true seen (levels u) (whole_block u) known ≡ c.last)
  ends_hit c j =
      let t = j.hit_touches c refl in (
        (λ known h. end_fixed false known t.earliest (no_later (omega (arith, t.first_frame)))
            (λ b. no_later (omega (arith, t.first_frame, t.none_before b)))
            ∙ sym t.first_frame),
        (λ known h. end_fixed true known t.latest (no_earlier (omega (arith, t.last_frame)))
            (λ b. no_earlier (omega (arith, t.last_frame, t.none_after b)))
            ∙ sym t.last_frame),
      )

  pub ends_clear : Judges u colours first last Clear → (backward : Bool) (known : ℕ) → end_in backward seen (levels u) (whole_block u) known ≡ known
  unfolding end_in voxel_of
  ends_clear j backward known =
      end_stays backward (is_black_at seen (levels u) (whole_block u)) frame_at_number known (2 ^ levels u)
      (λ i l h. absurd (j.clear_none refl (voxel_of i h)))

  -- THEOREM: what a verdict has to be, by the voxels, it is by the blocks
  pub contact_verdict : (x : Verdict) → Judges u colours first last x → x ≡ verdict_of contact
  contact_verdict Clear j = rw (eq-eqb contact.voxels 0 (counts_none (j.clear_none refl)))
  contact_verdict (Hit c) j =
      let t = j.hit_touches c refl in
      rw (ne_eqb contact.voxels 0 (counts_some t.earliest)) (ap Hit (touches_contact c t))

-- THEOREM: the verdict of two trees, block by block
pub trees_verdict : (u : Universe) → universe_refusal u ≡ 0 → (surfaces : Surfaces) (s t : Tree) (first last : ℕ) → window_refusal u first last ≡ 0 →
    verdict u (raw u surfaces (both s t)) first last
    ≡ verdict_of (contact_in first last (tree_colour surfaces u (both s t)) (levels u) (whole_block u) (no_contact first last))
unfolding plain plain_colour
trees_verdict u e surfaces s t first last w =
    contact_verdict u e (tree_colour surfaces u (both s t)) (record { same = tree_places surfaces u (plain (both s t)) })
    first last w (verdict u (raw u surfaces (both s t)) first last) (verdict_of_trees u e surfaces s t first last w)

-- THEOREM: and its ends alone, sought from past the window on, and back from its first frame on
module _ (u : Universe) (e : universe_refusal u ≡ 0) (surfaces : Surfaces) (s t : Tree) (first last : ℕ) (w : window_refusal u first last ≡ 0) where
  places : ByPlaces u (tree_colour surfaces u (both s t))
  places = record { same = tree_places surfaces u (plain (both s t)) }

  judged : Judges u (tree_colour surfaces u (both s t)) first last (verdict u (raw u surfaces (both s t)) first last)
  unfolding plain plain_colour
  judged = verdict_of_trees u e surfaces s t first last w

  pub trees_first : (c : Contact) → verdict u (raw u surfaces (both s t)) first last ≡ Hit c →
      (known : ℕ) → c.first ≤ known → end_in false (windowed u first last (tree_colour surfaces u (both s t))) (levels u) (whole_block u) known ≡ c.first
  trees_first c q = (ends_hit u e (tree_colour surfaces u (both s t)) places first last w c (subst (Judges u _ first last) q judged)).0

  pub trees_last : (c : Contact) → verdict u (raw u surfaces (both s t)) first last ≡ Hit c →
      (known : ℕ) → known ≤ c.last → end_in true (windowed u first last (tree_colour surfaces u (both s t))) (levels u) (whole_block u) known ≡ c.last
  trees_last c q = (ends_hit u e (tree_colour surfaces u (both s t)) places first last w c (subst (Judges u _ first last) q judged)).1

  pub trees_none : verdict u (raw u surfaces (both s t)) first last ≡ Clear →
      (backward : Bool) (known : ℕ) → end_in backward (windowed u first last (tree_colour surfaces u (both s t))) (levels u) (whole_block u) known ≡ known
  trees_none q = ends_clear u e (tree_colour surfaces u (both s t)) places first last w (subst (Judges u _ first last) q judged)
