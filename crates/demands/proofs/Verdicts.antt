-- Verdicts, in terms of voxels: a frame's count is above 0 exactly where the frame has a black voxel, so that what verdicts say of counts
-- (bintree/proofs/Verdicts.antt) they say of voxels; and what is said of them fixes the verdict.
use Prim.Native.Nat.{ℕ, ◌+◌, ◌≤◌, ◌<◌}
use mathlib.Core.Path.{◌≡◌, refl, sym, ap, ◌∙◌}
use mathlib.Core.Bool.{cond}
use mathlib.Core.List.{List}
use native.Mathlib.Omega.{arith}
use native.Mathlib.Decide.{ℕ_discrete, dec_lt}
use lib.Dec.{ltb, leb}
use borrow.Author.Tests.{ltb-true, leb-true, lt-ltb, le-ltb}
use Rattle.lemmas.specs.Grid.{count}
use Rattle.lemmas.proofs.Sums.{sum_cong, and_left, and_right}
use Rattle.universe.specs.declared.Universe.{Universe}
use Rattle.universe.specs.Refusals.{outside}
use Rattle.universe.specs.Universe.{levels, side_along, frame_axis, frame_count}
use Rattle.universe.specs.Voxel.{place_along, voxel_refusal, window_refusal}
use Rattle.universe.proofs.Refusing.{unless_holds}
use Rattle.universe.proofs.Universes.{Accepted}
use Rattle.universe.proofs.Voxel.{voxel_taken}
use Rattle.bintree.specs.declared.Colour.{Colour}
use Rattle.bintree.specs.declared.Colour.TheVariants.{White, Black}
use Rattle.bintree.specs.declared.Contact.{Contact}
use Rattle.bintree.specs.declared.Verdict.{Verdict}
use Rattle.bintree.specs.declared.Verdict.TheVariants.{Clear, Hit}
use Rattle.bintree.specs.Shape.{Shape, depth}
use Rattle.bintree.specs.Parts.{colour_at}
use Rattle.bintree.specs.Counts.{voxels_at}
use Rattle.bintree.specs.Verdicts.{window_length, verdict}
use Rattle.bintree.proofs.Verdicts as verdicts
use Rattle.demands.specs.Voxels.{Colouring, is_black, black_voxels_at}
use Rattle.demands.specs.Verdicts.{frame_of, BlackVoxel, Touches, Judges}
use Rattle.demands.proofs.Grids.{Inside, grid_part, grid_some}
use Rattle.demands.proofs.Voxels.{frame_voxel, place_frame, place_other, frame_voxel_accepted, colour_places, frame_same, frame_counts_lem}

-- an accepted window
pub window_order : (u : Universe) (first last : ℕ) → window_refusal u first last ≡ 0 → first ≤ last
unfolding window_refusal
window_order u first last e = leb-true _ _ (and_left (leb first last) (ltb last (frame_count u)) (unless_holds _ outside (omega arith) e))

pub window_frames : (u : Universe) (first last : ℕ) → window_refusal u first last ≡ 0 → last < frame_count u
unfolding window_refusal
window_frames u first last e = ltb-true _ _ (and_right (leb first last) (ltb last (frame_count u)) (unless_holds _ outside (omega arith) e))

-- a colour that counts is Black
counts_black : (c : Colour) → 0 < count (is_black c) → c ≡ Black
counts_black Black h = refl
counts_black White h = absurd (omega arith)

-- a black voxel of one frame is one of every window that holds the frame, and has that frame
widened : {u : Universe} {colours : Colouring} {first last : ℕ} (c : ℕ) → first ≤ c → c ≤ last → BlackVoxel u colours c c → BlackVoxel u colours first last
widened c h k b = record { voxel = b.voxel; inside = b.inside; from = omega (arith, b.from); to = omega (arith, b.to); black = b.black }

one_frame : {u : Universe} {colours : Colouring} (c : ℕ) (b : BlackVoxel u colours c c) → c ≡ frame_of u b.voxel
one_frame c b = omega (arith, b.from, b.to)

module _ (u : Universe) (accept : Accepted u) where
  -- ---- a frame's count is above 0 where the frame has a black voxel, and only there
  pub count_black_lem : (colours : Colouring) (frame : ℕ) → frame < frame_count u → 0 < black_voxels_at u colours frame → BlackVoxel u colours frame frame
  unfolding black_voxels_at frame_voxel
  count_black_lem colours frame h k =
      let w = grid_some (frame_axis u) (side_along u) (λ p. count (is_black (colours (frame_voxel u frame p)))) k in
      let e = place_frame u accept frame w.0 in
      record {
        voxel = frame_voxel u frame w.0;
        inside = frame_voxel_accepted u accept frame h w.0 w.1;
        from = omega arith;
        to = omega arith;
        black = counts_black (colours (frame_voxel u frame w.0)) w.2;
      }

  -- the point of the other axes at which a voxel lies
  rest : List ℕ → ℕ → ℕ
  rest v i = cond (ltb i (frame_axis u)) (place_along v i) 0

  rest_inside : (v : List ℕ) → voxel_refusal u v ≡ 0 → Inside (frame_axis u) (side_along u) (rest v)
  unfolding rest
  rest_inside v f = record {
    below = λ i l. rw (lt-ltb i (frame_axis u) l) ((voxel_taken u v accept f).inside i (omega arith));
    beyond = λ i l. rw (le-ltb i (frame_axis u) l);
  }

  same_places : (v : List ℕ) (i : ℕ) → i < u.axes → place_along (frame_voxel u (frame_of u v) (rest v)) i ≡ place_along v i
  unfolding rest
  same_places v i l = go (ℕ_discrete (frame_axis u) i)
    where
      go : Dec (frame_axis u ≡ i) → place_along (frame_voxel u (frame_of u v) (rest v)) i ≡ place_along v i
      go (yes e) = rw (← e) (place_frame u accept (frame_of u v) (rest v))
      go (no k) = let h : i < frame_axis u = omega arith in place_other u accept (frame_of u v) (rest v) i h ∙ rw (lt-ltb i (frame_axis u) h)

  pub black_counts : (s : Shape) (v : List ℕ) → voxel_refusal u v ≡ 0 → colour_at u s v ≡ Black → 0 < black_voxels_at u (colour_at u s) (frame_of u v)
  unfolding black_voxels_at frame_voxel
  black_counts s v f b =
      let e : colour_at u s (frame_voxel u (frame_of u v) (rest v)) ≡ Black = colour_places u accept.some_axes s _ v (same_places v) ∙ b in
      omega (
        arith,
        grid_part (frame_axis u) (side_along u) (λ p. count (is_black (colour_at u s (frame_voxel u (frame_of u v) p)))) (rest v) (rest_inside v f),
        ap (λ x. count (is_black x)) e,
      )

-- ---- THEOREM: the verdict of a shape, for any colouring that agrees with the shape on accepted voxels
module _ (u : Universe) (accept : Accepted u) (s : Shape) (fits : depth s ≤ levels u) (colours : Colouring)
    (same : (v : List ℕ) → voxel_refusal u v ≡ 0 → colour_at u s v ≡ colours v) (first last : ℕ) (window : window_refusal u first last ≡ 0) where
  counted : (frame : ℕ) → frame ≤ last → voxels_at u s frame ≡ black_voxels_at u colours frame
  counted frame h =
      frame_counts_lem u accept s fits frame ∙ frame_same u accept (colour_at u s) colours same frame (omega (arith, window_frames u first last window))

  voxel_counted : (b : BlackVoxel u colours first last) → 0 < voxels_at u s (frame_of u b.voxel)
  voxel_counted b =
      omega (
        arith,
        black_counts u accept s b.voxel b.inside (same b.voxel b.inside ∙ b.black),
        frame_counts_lem u accept s fits (frame_of u b.voxel),
      )

  counted_voxel : (frame : ℕ) → frame ≤ last → 0 < voxels_at u s frame → BlackVoxel u colours frame frame
  counted_voxel frame h k =
      count_black_lem u accept colours frame (omega (arith, window_frames u first last window)) (omega (arith, counted frame h))

  touches : (contact : Contact) → verdict u s first last ≡ Hit contact → Touches u colours first last contact
  unfolding widened
  touches contact e = record {
    earliest = widened contact.first w.first_from w.first_to earliest;
    first_frame = one_frame contact.first earliest;
    none_before = λ b. before b (dec_lt (frame_of u b.voxel) contact.first);
    latest = widened contact.last w.last_from w.last_to latest;
    last_frame = one_frame contact.last latest;
    none_after = λ b. after b (dec_lt contact.last (frame_of u b.voxel));
    all = w.count ∙ sum_cong (window_length first last) _ _ (λ c h. counted (first + c) (omega (arith, window_order u first last window)));
  }
    where
      w : verdicts.HitIn u s first last contact
      w = verdicts.hit_is u s first last contact e

      earliest : BlackVoxel u colours contact.first contact.first
      earliest = counted_voxel contact.first w.first_to w.first_black

      latest : BlackVoxel u colours contact.last contact.last
      latest = counted_voxel contact.last w.last_to w.last_black

      before : (b : BlackVoxel u colours first last) → Dec (frame_of u b.voxel < contact.first) → contact.first ≤ frame_of u b.voxel
      before b (yes k) = absurd (omega (arith, voxel_counted b, w.none_before (frame_of u b.voxel) b.from k))
      before b (no k) = omega arith

      after : (b : BlackVoxel u colours first last) → Dec (contact.last < frame_of u b.voxel) → frame_of u b.voxel ≤ contact.last
      after b (yes k) = absurd (omega (arith, voxel_counted b, w.none_after (frame_of u b.voxel) k b.to))
      after b (no k) = omega arith

  no_voxel : (BlackVoxel u colours first last → ⊥) → (c : ℕ) → first ≤ c → c ≤ last → Dec (0 < voxels_at u s c) → voxels_at u s c ≡ 0
  no_voxel h c i j (yes k) = absurd (h (widened c i j (counted_voxel c j k)))
  no_voxel h c i j (no k) = omega arith

  pub judges : Judges u colours first last (verdict u s first last)
  judges = record {
    clear_none = λ e b. omega (arith, voxel_counted b, verdicts.clear_none u s first last e (frame_of u b.voxel) b.from b.to);
    none_clear = λ h. verdicts.none_clear u s first last (λ c i j. no_voxel h c i j (dec_lt 0 (voxels_at u s c)));
    black_hit = λ b. verdicts.some_hit u s first last (frame_of u b.voxel) b.from b.to (voxel_counted b);
    hit_touches = touches;
  }

-- ---- THEOREM: what is said of a verdict fixes it
contact_eq : (x y : Contact) → x.first ≡ y.first → x.last ≡ y.last → x.voxels ≡ y.voxels → x ≡ y
contact_eq x y e f g = λ i. record { first = e i; last = f i; voxels = g i }

module _ {u : Universe} {colours : Colouring} {first last : ℕ} where
  contact_once : (x y : Contact) → Touches u colours first last x → Touches u colours first last y → x ≡ y
  contact_once x y t w =
      contact_eq x y
      (omega (arith, t.first_frame, w.first_frame, t.none_before w.earliest, w.none_before t.earliest))
      (omega (arith, t.last_frame, w.last_frame, t.none_after w.latest, w.none_after t.latest))
      (t.all ∙ sym w.all)

  pub verdict_once : (x y : Verdict) → Judges u colours first last x → Judges u colours first last y → x ≡ y
  verdict_once Clear y j k = sym (k.none_clear (j.clear_none refl))
  verdict_once (Hit x) y j k =
      let h = k.black_hit (j.hit_touches x refl).earliest in
      ap Hit (contact_once x h.0 (j.hit_touches x refl) (k.hit_touches h.0 h.1)) ∙ sym h.1
