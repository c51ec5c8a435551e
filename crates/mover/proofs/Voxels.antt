-- WHAT IS PROMISED OF A MOVER'S VOXELS: over a stretch a voxel has the static tree's own colour, by its own rows and balls, joined with the Box's; it is black
-- exactly where the static tree is and the Box that moves evenly holds its centre; and the verdict judges these voxels, each by its own stretch.
use Prim.Native.Nat.{ℕ, zero, suc, ◌+◌, ◌-◌, ◌*◌, ◌≤◌, ◌<◌}
use native.Mathlib.Omega.{arith}
use native.Mathlib.Decide.{dec_le, dec_lt}
use mathlib.Core.Path.{◌≡◌, refl, sym, ap, ap₂, ◌∙◌}
use mathlib.Core.Logic.Iff
use mathlib.Core.Logic.{◌↔◌}
use mathlib.Core.Bool.{Bool, true, false, cond}
use mathlib.Core.List.{List, ◌++◌}
use borrow.Author.Tests.{ltb-true, ltb-false, lt-ltb, le-ltb}
use lib.Dec.{ltb, lit<}
use lib.IntN.{ℤ, pos, ◌+ℤ◌, ◌*ℤ◌}
use lib.Signed.{le_z}
use lib.ListN.{length}
use Rattle.lemmas.specs.Sums.{sum}
use Rattle.lemmas.proofs.Sums.{sum_part, total_cong}
use Rattle.universe.specs.declared.Universe.{Universe}
use Rattle.universe.specs.Universe.{frame_count}
use Rattle.universe.specs.Voxel.{place_along}
use Rattle.universe.proofs.Universes.{Accepted, accepted}
use Rattle.bintree.specs.declared.Colour.{Colour}
use Rattle.bintree.specs.declared.Colour.TheVariants.{White, Black}
use Rattle.bintree.specs.declared.Contact.{Contact}
use Rattle.bintree.specs.declared.Verdict.TheVariants.{Clear, Hit}
use Rattle.bintree.specs.Verdicts.{window_length, first_frame, last_frame}
use Rattle.bintree.proofs.Verdicts.{IsFirst, IsLast, first_is, last_is}
use Rattle.csg.specs.Halfspace.{Halfspace, row_count, row_at, centre_value, colour_at_centre}
use Rattle.csg.specs.Surfaces.{Surfaces, Surface, Named, named, halfspace, ball, IsNamed, halfspace_named, ball_named}
use Rattle.csg.specs.Tree.{Tree, Operator, node, union, intersection, minus, plain, reversal}
use Rattle.csg.specs.Words.{AllNamed, white_named, black_named, surface_named, node_named}
use Rattle.csg.specs.Marks.{union_colour, intersection_colour, opposite_colour, surface_colour, side_colour, plain_colour, tree_colour}
use Rattle.csg.specs.Raw.{raw}
use Rattle.csg.proofs.Words.{tree_named}
use Rattle.demands.specs.Voxels.{Colouring, black_voxels_at}
use Rattle.demands.specs.Verdicts.{frame_of, BlackVoxel, Touches, Judges}
use Rattle.demands.proofs.Colours.{raw_depth, both_colour}
use Rattle.demands.proofs.Voxels.{frame_counts_lem}
use Rattle.demands.proofs.Verdicts.{count_black_lem, black_counts}
use Rattle.demands.proofs.Theorems.{demand_2}
use Rattle.standin.specs.Rows.{proxy_axes}
use Rattle.standin.specs.Points.{HoldsAt, centre}
use Rattle.standin.proofs.Centres.{centre_holds}
use Rattle.mover.specs.Keys.{Mover, moment_at}
use Rattle.mover.specs.Stretches.{stretches, stretch_rows, with_box}
use Rattle.mover.specs.Motion.{InBox}
use Rattle.mover.specs.Frames.{box_tree, static_tree, clearance_tree, own_colour, over_frames, mover_verdict}
use Rattle.mover.specs.Ready.{Ready}
use Rattle.mover.proofs.Appended.{SameNumbers, GoodRows, good_rows, in_front_lem, behind}
use Rattle.mover.proofs.Accepted.{ready_universe, ready_axes, ready_keys, ready_rows}
use Rattle.mover.proofs.Joins.{some_named}
use Rattle.mover.proofs.Own.{moments_rise, own_is, own_counts}
use Rattle.mover.proofs.Theorems.{some, rows_in_box}

-- ---- halfspaces with the same numbers have the same colours
same_colour : (u : Universe) → u.axes ≡ proxy_axes → {h k : Halfspace} → SameNumbers h k → (v : List ℕ) → colour_at_centre u h v ≡ colour_at_centre u k v
unfolding colour_at_centre centre_value
same_colour u e {h} {k} s v =
    ap (λ (z : ℤ). cond (le_z (pos 0) z) Black White)
    (ap₂ (λ (o t : ℤ). pos 2 *ℤ o +ℤ t) s.offset
    (total_cong u.axes (λ i. h.coefficient i *ℤ pos (2 * place_along v i + 1)) (λ i. k.coefficient i *ℤ pos (2 * place_along v i + 1))
    (λ i l. ap (λ (z : ℤ). z *ℤ pos (2 * place_along v i + 1)) (s.coefficient i (omega (arith, e))))))

-- ---- a tree that names what two runs have alike has the same colours in both
module _ (few many : Surfaces) (names : Named) (u : Universe) (v : List ℕ)
    (alike : (s : Surface) → IsNamed names s → surface_colour few u s v ≡ surface_colour many u s v) where
  side_alike : (turned : Bool) (s : Surface) → IsNamed names s → side_colour few u turned s v ≡ side_colour many u turned s v
  unfolding side_colour
  side_alike turned s a = ap (λ (c : Colour). cond turned (opposite_colour c) c) (alike s a)

  tree_alike : {t : Tree} → AllNamed names t →
      (plain_colour few u (plain t) v ≡ plain_colour many u (plain t) v) × (plain_colour few u (reversal t) v ≡ plain_colour many u (reversal t) v)
  unfolding plain reversal plain_colour
  tree_alike white_named = (refl, refl)
  tree_alike black_named = (refl, refl)
  tree_alike (surface_named {s} a) = (side_alike false s a, side_alike true s a)
  tree_alike (node_named {o} {a} {b} p q) = by o (tree_alike p) (tree_alike q)
    where
      by : (o : Operator) →
          (plain_colour few u (plain a) v ≡ plain_colour many u (plain a) v) × (plain_colour few u (reversal a) v ≡ plain_colour many u (reversal a) v) →
          (plain_colour few u (plain b) v ≡ plain_colour many u (plain b) v) × (plain_colour few u (reversal b) v ≡ plain_colour many u (reversal b) v) →
          (tree_colour few u (node o a b) v ≡ tree_colour many u (node o a b) v)
          × (plain_colour few u (reversal (node o a b)) v ≡ plain_colour many u (reversal (node o a b)) v)
      by union x y = (ap₂ union_colour x.0 y.0, ap₂ intersection_colour x.1 y.1)
      by intersection x y = (ap₂ intersection_colour x.0 y.0, ap₂ union_colour x.1 y.1)
      by minus x y = (ap₂ intersection_colour x.0 y.1, ap₂ union_colour x.1 y.0)

-- ---- both are black
both_black : (a b : Colour) → (intersection_colour a b ≡ Black) ↔ ((a ≡ Black) × (b ≡ Black))
unfolding intersection_colour
both_black Black b = (λ e. (refl, e), λ e. e.1)
both_black White b = (λ e. let z : ◌≡◌ {A = ℕ} 0 1 = cc in absurd (omega arith), λ e. e.0)

-- and all six
pub record AllSix (black : ℕ → Type 0) : Type 0 where
  pub first : black 0
  pub second : black 1
  pub third : black 2
  pub fourth : black 3
  pub fifth : black 4
  pub sixth : black 5

six_each : {black : ℕ → Type 0} → AllSix black → (j : ℕ) → j < 6 → black j
six_each s zero l = s.first
six_each s (suc zero) l = s.second
six_each s (suc (suc zero)) l = s.third
six_each s (suc (suc (suc zero))) l = s.fourth
six_each s (suc (suc (suc (suc zero)))) l = s.fifth
six_each s (suc (suc (suc (suc (suc zero))))) l = s.sixth
six_each s (suc (suc (suc (suc (suc (suc j)))))) l = absurd (omega arith)

six_black : (c : ℕ → Colour) →
    (intersection_colour (intersection_colour (intersection_colour (intersection_colour (intersection_colour (c 0) (c 1)) (c 2)) (c 3)) (c 4)) (c 5) ≡ Black)
    ↔ ((j : ℕ) → j < 6 → c j ≡ Black)
six_black c =
    let two = intersection_colour (c 0) (c 1) in
    let three = intersection_colour two (c 2) in
    let four = intersection_colour three (c 3) in
    let five = intersection_colour four (c 4) in (
      λ e.
          let s = (both_black five (c 5)).0 e in
          let f = (both_black four (c 4)).0 s.0 in
          let d = (both_black three (c 3)).0 f.0 in
          let t = (both_black two (c 2)).0 d.0 in
          let p = (both_black (c 0) (c 1)).0 t.0 in
          let all : AllSix (λ j. c j ≡ Black) =
          record { first = p.0; second = p.1; third = t.1; fourth = d.1; fifth = f.1; sixth = s.1 } in
          six_each all,
      λ h.
          (both_black five (c 5)).1 (
            (both_black four (c 4)).1 (
              (both_black three (c 3)).1 (
                (both_black two (c 2)).1
                    ((both_black (c 0) (c 1)).1 (h 0 (lit< tt), h 1 (lit< tt)), h 2 (lit< tt)),
                h 3 (lit< tt),
              ),
              h 4 (lit< tt),
            ),
            h 5 (lit< tt),
          ),
    )

-- ---- a stretch
module _ {u : Universe} {m : Mover} {surfaces : Surfaces} {words : List ℕ} (r : Ready u m surfaces words) (i : ℕ) (l : i + 1 < length m.moments)
    (v : List ℕ) where
  abbrev count : ℕ
  count = row_count surfaces.rows

  abbrev static : Colour
  static = tree_colour surfaces u (static_tree surfaces words) v

  abbrev box : Colour
  box = tree_colour (with_box surfaces m i) u (box_tree count) v

  whole_rows : GoodRows u surfaces.rows
  whole_rows = good_rows u surfaces.rows (ready_rows r)

  -- THEOREM: the static tree has the colour that it has by its own rows and balls
  pub static_own : tree_colour (with_box surfaces m i) u (static_tree surfaces words) v ≡ static
  unfolding surface_colour
  static_own = sym (tree_alike surfaces (with_box surfaces m i) (named surfaces) u v alike (tree_named (named surfaces) words r.accepted_tree)).0
    where
      alike : (s : Surface) → IsNamed (named surfaces) s → surface_colour surfaces u s v ≡ surface_colour (with_box surfaces m i) u s v
      alike (halfspace j) (halfspace_named k) =
          same_colour u (ready_axes r) (in_front_lem surfaces.rows (stretch_rows m i) whole_rows.whole j k) v
      alike (ball j) (ball_named k) = refl

  -- the Box's tree is black where all its rows are
  abbrev row_black : ℕ → Type 0
  row_black j = colour_at_centre u (row_at (stretch_rows m i) j) v ≡ Black

  abbrev behind_colour : ℕ → Colour
  behind_colour j = colour_at_centre u (row_at (surfaces.rows ++ stretch_rows m i) j) v

  row_black_lem : (j : ℕ) → (behind_colour (count + j) ≡ Black) ↔ row_black j
  row_black_lem j =
      let e = same_colour u (ready_axes r) (behind surfaces.rows (stretch_rows m i) whole_rows.whole j) v in
      (λ b. e ∙ b, λ b. sym e ∙ b)

  box_rows_lem : (box ≡ Black) ↔ ((j : ℕ) → j < 6 → behind_colour (count + j) ≡ Black)
  unfolding box_tree plain plain_colour side_colour surface_colour
  box_rows_lem =
      let e : count + 0 ≡ count = omega arith in
      rw e at (six_black (λ j. behind_colour (count + j)))

  row_held : (j : ℕ) → (behind_colour (count + j) ≡ Black) ↔ HoldsAt (row_at (stretch_rows m i) j) (centre v)
  row_held j = Iff.trans (row_black_lem j) (centre_holds u (ready_axes r) (row_at (stretch_rows m i) j) v)

  -- THEOREM: the Box is black exactly where the Box that moves evenly holds the voxel's centre
  pub box_black : (box ≡ Black) ↔ InBox m i (some r i l) (centre v)
  box_black =
      let held : ((j : ℕ) → j < 6 → behind_colour (count + j) ≡ Black) ↔ ((j : ℕ) → j < 6 → HoldsAt (row_at (stretch_rows m i) j) (centre v)) =
      (λ b j k. (row_held j).0 (b j k), λ h j k. (row_held j).1 (h j k)) in
      Iff.trans box_rows_lem (Iff.trans held (rows_in_box r i l (centre v)))

  module _ (from : moment_at m.moments i ≤ frame_of u v) (to : frame_of u v < moment_at m.moments (i + 1)) where
    -- THEOREM: a voxel of a stretch has the static tree's own colour joined with the Box's
    pub own_colour_lem : own_colour u m surfaces words v ≡ intersection_colour static box
    own_colour_lem =
        own_is r i l v from to
        ∙ both_colour (with_box surfaces m i) u (static_tree surfaces words) (box_tree count) v
        ∙ ap (λ (c : Colour). intersection_colour c box) static_own

    pub own_black : (own_colour u m surfaces words v ≡ Black) ↔ ((static ≡ Black) × InBox m i (some r i l) (centre v))
    own_black =
        let b = both_black static box in (
          λ e. let p = b.0 (sym own_colour_lem ∙ e) in (p.0, box_black.0 p.1),
          λ p. own_colour_lem ∙ b.1 (p.0, box_black.1 p.1),
        )

-- ---- the verdict of frames, in terms of voxels
module _ (u : Universe) (accept : Accepted u) (colours : Colouring) (first last : ℕ) (order : first ≤ last) (within : last < frame_count u)
    (seen : (b : BlackVoxel u colours first last) → 0 < black_voxels_at u colours (frame_of u b.voxel)) where
  abbrev counts : ℕ → ℕ
  counts = black_voxels_at u colours

  abbrev n : ℕ
  n = window_length first last

  abbrev all : ℕ
  all = sum n (λ c. counts (first + c))

  abbrev is_black_lem : ℕ → Bool
  is_black_lem c = ltb 0 (counts c)

  abbrev contact : Contact
  contact = record { first = first_frame is_black_lem first n; last = last_frame is_black_lem first n; voxels = all }

  clear : all ≡ 0 → over_frames counts first n ≡ Clear
  unfolding over_frames
  clear z = rw (le-ltb 0 all (omega arith))

  hit : 0 < all → over_frames counts first n ≡ Hit contact
  unfolding over_frames
  hit h = rw (lt-ltb 0 all h)

  some_all : BlackVoxel u colours first last → 0 < all
  some_all b =
      let c = frame_of u b.voxel in
      let e : first + (c - first) ≡ c = omega (arith, b.from) in
      let part = rw e at (sum_part n (λ d. counts (first + d)) (c - first) (omega (arith, b.from, b.to))) in
      omega (arith, seen b)

  voxel_at_lem : (c : ℕ) → first ≤ c → c ≤ last → is_black_lem c ≡ true → (b : BlackVoxel u colours first last) × (c ≡ frame_of u b.voxel)
  voxel_at_lem c h k t =
      let b = count_black_lem u accept colours c (omega arith) (ltb-true 0 (counts c) t) in (
        record { voxel = b.voxel; inside = b.inside; from = omega (arith, b.from); to = omega (arith, b.to); black = b.black },
        omega (arith, b.from, b.to),
      )

  unseen : (b : BlackVoxel u colours first last) → is_black_lem (frame_of u b.voxel) ≡ false → ⊥
  unseen b e = omega (arith, seen b, ltb-false 0 (counts (frame_of u b.voxel)) e)

  module _ (h : 0 < all) where
    early : IsFirst is_black_lem first n contact.first
    early = first_is is_black_lem first n (some_named counts first n h)

    late : IsLast is_black_lem first n contact.last
    late = last_is is_black_lem first n (some_named counts first n h)

    touches : Touches u colours first last contact
    touches =
        let e = voxel_at_lem contact.first early.from (omega (arith, early.below)) early.names in
        let f = voxel_at_lem contact.last late.from (omega (arith, late.below)) late.names in
        record {
          earliest = e.0;
          first_frame = e.1;
          none_before = λ b. before b (dec_lt (frame_of u b.voxel) contact.first);
          latest = f.0;
          last_frame = f.1;
          none_after = λ b. after b (dec_lt contact.last (frame_of u b.voxel));
          all = refl;
        }
      where
        before : (b : BlackVoxel u colours first last) → Dec (frame_of u b.voxel < contact.first) → contact.first ≤ frame_of u b.voxel
        before b (yes k) = absurd (unseen b (early.none (frame_of u b.voxel) b.from k))
        before b (no k) = omega arith

        after : (b : BlackVoxel u colours first last) → Dec (contact.last < frame_of u b.voxel) → frame_of u b.voxel ≤ contact.last
        after b (yes k) = absurd (unseen b (late.none (frame_of u b.voxel) k (omega (arith, b.to))))
        after b (no k) = omega arith

  pub frames_judge : Judges u colours first last (over_frames counts first n)
  frames_judge =
      record {
        clear_none = λ e b. let f = hit (some_all b) in let z : ◌≡◌ {A = ℕ} 0 1 = cc in omega arith;
        none_clear = λ none. by none (dec_lt 0 all);
        black_hit = λ b. (contact, hit (some_all b));
        hit_touches = λ c e. at c e (dec_lt 0 all);
      }
    where
      by : (BlackVoxel u colours first last → ⊥) → Dec (0 < all) → over_frames counts first n ≡ Clear
      by none (yes h) = absurd (none (touches h).earliest)
      by none (no h) = clear (omega arith)

      at : (c : Contact) → over_frames counts first n ≡ Hit c → Dec (0 < all) → Touches u colours first last c
      at c e (yes h) = let f = hit h in let g : contact ≡ c = cc in rw (← g) (touches h)
      at c e (no h) = let f = clear (omega arith) in let z : ◌≡◌ {A = ℕ} 0 1 = cc in absurd (omega arith)

-- ---- a frame between the first key and the last belongs to a stretch
record Stretched (moments : List ℕ) (frame : ℕ) : Type 0 where
  which : ℕ
  there : which + 1 < length moments
  from : moment_at moments which ≤ frame
  to : frame < moment_at moments (which + 1)

stretched : (moments : List ℕ) (frame n : ℕ) → n < length moments → moment_at moments 0 ≤ frame → frame < moment_at moments n → Stretched moments frame
stretched moments frame zero l h k = absurd (omega arith)
stretched moments frame (suc n) l h k = go (dec_le (moment_at moments n) frame) (stretched moments frame n)
  where
    go : Dec (moment_at moments n ≤ frame) → (n < length moments → moment_at moments 0 ≤ frame → frame < moment_at moments n → Stretched moments frame) →
        Stretched moments frame
    go (yes f) ih = let e : suc n ≡ n + 1 = omega arith in record { which = n; there = omega arith; from = f; to = rw e at k }
    go (no f) ih = ih (omega arith) h (omega arith)

module _ {u : Universe} {m : Mover} {surfaces : Surfaces} {words : List ℕ} (r : Ready u m surfaces words) where
  abbrev begin : ℕ
  begin = moment_at m.moments 0

  abbrev end : ℕ
  end = moment_at m.moments (stretches m.moments)

  acceptable : Accepted u
  acceptable = accepted u (ready_universe r)

  order : begin < end
  order =
      let k = stretches m.moments in
      let two = (ready_keys r).some in
      let e : k - 1 + 1 ≡ k = omega arith in
      let up = (ready_keys r).rising (k - 1) (omega arith) in
      omega (arith, moments_rise m.moments (ready_keys r).rising 0 (k - 1) (omega arith) (omega arith), rw e at up)

  black_seen : (b : BlackVoxel u (own_colour u m surfaces words) begin (end - 1)) →
      0 < black_voxels_at u (own_colour u m surfaces words) (frame_of u b.voxel)
  black_seen b =
      let v = b.voxel in
      let w = stretched m.moments (frame_of u v) (stretches m.moments) (omega (arith, (ready_keys r).some)) b.from (omega (arith, b.to, order)) in
      let i = w.which in
      let t = clearance_tree surfaces words in
      let s = raw u (with_box surfaces m i) t in
      omega (
        arith,
        own_counts r i w.there (frame_of u v) w.from w.to,
        frame_counts_lem u acceptable s (raw_depth u (ready_universe r) (with_box surfaces m i) t) (frame_of u v),
        black_counts u acceptable s v b.inside
            ((demand_2 u (ready_universe r) (with_box surfaces m i) t).raw_shows.colours v b.inside
            ∙ sym (own_is r i w.there v w.from w.to)
            ∙ b.black),
      )

  -- THEOREM: the verdict judges the voxels of the frames from the first key on and before the last, each by its own stretch
  pub own_judged : Judges u (own_colour u m surfaces words) begin (end - 1) (mover_verdict u m surfaces words)
  unfolding mover_verdict
  own_judged =
      let colours = own_colour u m surfaces words in
      let late = (ready_keys r).within (stretches m.moments) (omega (arith, (ready_keys r).some)) in
      let e : window_length begin (end - 1) ≡ end - begin = omega (arith, order) in
      rw e at (frames_judge u acceptable colours begin (end - 1) (omega (arith, order)) (omega (arith, order, late)) black_seen)
