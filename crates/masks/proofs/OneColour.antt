-- Blocks of one colour: a WHITE one changes no contact; a BLACK one joins its frames as far as they lie in the window, each with as many voxels, as a black
-- leaf of an expression does. Every frame of a block is some voxel's, so the ends are met; and the voxels are a grid, of which the frames are one side.
use mathlib.Core.Path.{◌≡◌, refl, sym, ap, ◌∙◌}
use mathlib.Core.Bool.{Bool, true, false, cond}
use mathlib.Core.Logic.{◌⊎◌, inl, inr}
use mathlib.Core.List.{List}
use Prim.Native.Nat.{ℕ, zero, suc, ◌+◌, ◌-◌, ◌*◌, ◌^◌, ◌≤◌, ◌<◌, min, max}
use native.Mathlib.Omega.{arith}
use native.Mathlib.Decide.{ℕ_discrete, dec_le}
use lib.Dec.{leb}
use lib.ListN.{set}
use lib.Seq.{get_or-set_same, get_or-set_other}
use lib.Bits.{bit_and, and_zero_l}
use borrow.Author.Tests.{le-leb, lt-leb}
use Rattle.lemmas.specs.Sums.{sum}
use Rattle.lemmas.specs.Grid.{count, put, grid, listed}
use Rattle.lemmas.proofs.Sums.{sum_cong}
use Rattle.lemmas.proofs.Grid.{put_same, put_other, listed_at, grid_const}
use Rattle.universe.specs.declared.Universe.{Universe}
use Rattle.universe.specs.declared.Block.{Block}
use Rattle.universe.specs.Universe.{most_axes, frame_axis}
use Rattle.universe.specs.Block.{low_along, length_along}
use Rattle.universe.specs.Voxel.{place_along, Within}
use Rattle.universe.proofs.Universes.{Accepted, side_positive}
use Rattle.universe.proofs.Blocks.{given_placed, given_length}
use Rattle.bintree.specs.declared.Colour.{Colour}
use Rattle.bintree.specs.declared.Colour.TheVariants.{White, Black}
use Rattle.bintree.specs.declared.Contact.{Contact}
use Rattle.bintree.specs.Counts.{frames, voxels_each}
use Rattle.bintree.specs.Verdicts.{window_length}
use Rattle.bintree.specs.Windows.{with_frames, touched}
use Rattle.csg.specs.Halfspace.{decided}
use Rattle.csg.specs.Surfaces.{Surfaces}
use Rattle.csg.specs.Tree.{Tree, plain}
use Rattle.csg.specs.Marks.{tree_mark, tree_colour}
use Rattle.csg.proofs.Marks.{tree_sound}
use Rattle.demands.specs.Voxels.{Colouring, is_black, count_black}
use Rattle.demands.specs.Verdicts.{frame_of}
use Rattle.demands.proofs.Grids.{Inside, grid_cong}
use Rattle.masks.specs.Block.{voxel_at, is_black_at}
use Rattle.masks.specs.Counts.{black_in}
use Rattle.masks.specs.Windows.{is_between, windowed, window_mask}
use Rattle.masks.specs.Ends.{better, end_in, best_seen}
use Rattle.masks.specs.Contacts.{contact_in}
use Rattle.masks.proofs.Block.{Left, mask_agree, voxel_within, voxel_numbered}
use Rattle.masks.proofs.Trees.{white_mask_lem}
use Rattle.masks.proofs.Windows.{window_mask_lem}
use Rattle.masks.proofs.Ends.{good_then, better_first, better_second, better_one, Attains, end_is, end_white, seen_between, best_between}
use Rattle.masks.proofs.Contacts.{contact_eq, contact_none}

-- ---- how many of n frames from `frame` on lie in a window

clipped : (frame first last each n : ℕ) →
    sum n (λ c. cond (is_between first last (frame + c)) each 0) ≡ (min (frame + n) (suc last) - max frame first) * each
unfolding sum
clipped frame first last each zero =
    let e : min (frame + 0) (suc last) - max frame first ≡ 0 = omega arith in
    rw e (omega arith)
clipped frame first last each (suc n) = go (dec_le first (frame + n)) (dec_le (frame + n) last) (clipped frame first last each n)
  where
    now : ℕ
    now = min (frame + n) (suc last) - max frame first

    next : ℕ
    next = min (frame + suc n) (suc last) - max frame first

    before : ℕ
    before = sum n (λ c. cond (is_between first last (frame + c)) each 0)

    go : Dec (first ≤ frame + n) → Dec (frame + n ≤ last) → before ≡ now * each → before + cond (is_between first last (frame + n)) each 0 ≡ next * each
    go (yes h) (yes k) ih =
        let e : next ≡ suc now = omega arith in
        rw (e, ih, le-leb first (frame + n) h, le-leb (frame + n) last k) (omega arith)
    go (yes h) (no k) ih =
        let e : next ≡ now = omega arith in
        rw (e, ih, le-leb first (frame + n) h, lt-leb (frame + n) last (omega arith)) (omega arith)
    go (no h) k ih =
        let e : next ≡ now = omega arith in
        rw (e, ih, lt-leb first (frame + n) (omega arith)) (omega arith)

module _ (first last : ℕ) (colours : Colouring) (n : ℕ) (b : Block) (k : Contact) (l : Left n b) where
  abbrev u : Universe
  u = b.universe

  abbrev axis : ℕ
  axis = frame_axis b.universe

  abbrev frame : ℕ
  frame = low_along b (frame_axis b.universe)

  abbrev many : ℕ
  many = frames b.universe b.level

  abbrev seen : Colouring
  seen = windowed b.universe first last colours

  accept : Accepted b.universe
  accept = (given_placed l.given).taken

  axis_inside : axis < u.axes
  axis_inside = omega (arith, accept.some_axes)

  many_some : 0 < many
  many_some = side_positive b.universe b.level axis

  -- THEOREM: a WHITE block changes nothing
  pub white_contact : ((v : List ℕ) → Within b v → colours v ≡ White) → contact_in first last colours n b k ≡ k
  white_contact h =
      contact_none first last colours n b k l
      (ap (λ m. bit_and m (window_mask first last u n frame))
      (mask_agree colours (λ v. White) n b (λ i m. h (voxel_at n b i) (voxel_within n b i l)) ∙ white_mask_lem n b)
      ∙ and_zero_l (window_mask first last u n frame))

  pub white_end : ((v : List ℕ) → Within b v → colours v ≡ White) → (backward : Bool) (known : ℕ) →
      end_in backward (windowed b.universe first last colours) n b known ≡ known
  white_end h backward known =
      end_white backward seen n b known
      (λ i m. go (is_between first last (frame_of u (voxel_at n b i))) (h (voxel_at n b i) (voxel_within n b i l)))
    where
      go : (t : Bool) {c : Colour} → c ≡ White → cond t c White ≡ White
      go true e = e
      go false e = refl

  -- every frame of the block is some voxel's
  frame_taken : (c : ℕ) → frame ≤ c → c < frame + many → (i : ℕ) × (i < 2 ^ n) × (c ≡ frame_of u (voxel_at n b i))
  frame_taken c h m =
      let r = voxel_numbered n b (set b.low axis c) l within in
      (r.number, r.below, sym at_axis ∙ r.places axis axis_inside)
    where
      at_axis : place_along (set b.low axis c) axis ≡ c
      at_axis = get_or-set_same b.low axis c 0 (omega (arith, given_length l.given, accept.few_axes, axis_inside))

      at_other : (i : ℕ) → (axis ≡ i → ⊥) → place_along (set b.low axis c) i ≡ low_along b i
      at_other i q = get_or-set_other b.low axis i c 0 (λ e. q (sym e))

      above : (i : ℕ) → Dec (axis ≡ i) → low_along b i ≤ place_along (set b.low axis c) i
      above i (yes e) = rw (← e, at_axis) h
      above i (no q) = rw (at_other i q) (omega arith)

      below : (i : ℕ) → Dec (axis ≡ i) → place_along (set b.low axis c) i < low_along b i + length_along b i
      below i (yes e) = rw (← e, at_axis) m
      below i (no q) = rw (at_other i q) (omega (arith, side_positive b.universe b.level i))

      within : Within b (set b.low axis c)
      within = record { above = λ i d. above i (ℕ_discrete axis i); below = λ i d. below i (ℕ_discrete axis i) }

  -- ---- a BLACK block
  module _ (black : (v : List ℕ) → Within b v → colours v ≡ Black) where
    abbrev from : ℕ
    from = max frame first

    abbrev to : ℕ
    to = min (frame + (many - 1)) last

    between : (i : ℕ) → is_black_at seen n b i ≡ true → (from ≤ frame_of u (voxel_at n b i)) × (frame_of u (voxel_at n b i) ≤ to)
    between i h = seen_between first last colours n b l i h

    -- a voxel whose frame lies between is seen
    between_seen : (i : ℕ) → from ≤ frame_of u (voxel_at n b i) → frame_of u (voxel_at n b i) ≤ to → is_black_at seen n b i ≡ true
    between_seen i h m =
        let v = voxel_at n b i in
        rw (le-leb first (frame_of u v) (omega arith), le-leb (frame_of u v) last (omega arith), black v (voxel_within n b i l))

    abbrev edge : Bool → ℕ
    edge backward = best_seen backward first last b

    edge_inside : (backward : Bool) → from ≤ to → (from ≤ edge backward) × (edge backward ≤ to)
    edge_inside true h = (h, omega arith)
    edge_inside false h = (omega arith, h)

    -- THEOREM: the ends of a BLACK block are the best frames that it has in the window
    pub black_end : (backward : Bool) (known : ℕ) → best_seen false first last b ≤ best_seen true first last b →
        end_in backward (windowed b.universe first last colours) n b known ≡ better backward known (best_seen backward first last b)
    unfolding end_in
    black_end backward known h =
        end_is backward (is_black_at seen n b) (λ i. frame_of u (voxel_at n b i)) known (2 ^ n) _
        (record {
          as_known = better_first backward known (edge backward);
          as_others = λ i m t. good_then (better_second backward known (edge backward))
              (best_between first last colours n b l backward (frame_of u (voxel_at n b i)) (between i t).0 (between i t).1);
          is_one = one (better_one backward known (edge backward));
        })
      where
        inside : (from ≤ edge backward) × (edge backward ≤ to)
        inside = edge_inside backward h

        taken : (i : ℕ) × (i < 2 ^ n) × (edge backward ≡ frame_of u (voxel_at n b i))
        taken = frame_taken (edge backward) (omega (arith, inside.0)) (omega (arith, inside.1, many_some))

        one : (better backward known (edge backward) ≡ known) ⊎ (better backward known (edge backward) ≡ edge backward) →
            (better backward known (edge backward) ≡ known)
            ⊎ Attains (is_black_at seen n b) (λ i. frame_of u (voxel_at n b i)) (2 ^ n) (better backward known (edge backward))
        one (inl q) = inl q
        one (inr q) = inr (record {
          number = taken.0;
          below = taken.1;
          holds = between_seen taken.0 (omega (arith, inside.0, taken.2)) (omega (arith, inside.1, taken.2));
          has = q ∙ taken.2;
        })

    -- the voxels, frame by frame
    at_frame : (c : ℕ) → c < many → (p : ℕ → ℕ) → Inside axis (length_along b) p →
        count_black seen (λ i. low_along b i + put axis c p i) ≡ cond (is_between first last (frame + c)) 1 0
    at_frame c h p w = rw (at_axis, black v within) (go (is_between first last (frame + c)))
      where
        v : List ℕ
        v = listed most_axes (λ i. low_along b i + put axis c p i)

        at : (i : ℕ) → i < u.axes → place_along v i ≡ low_along b i + put axis c p i
        at i m = listed_at most_axes (λ j. low_along b j + put axis c p j) i (omega (arith, accept.few_axes))

        at_axis : place_along v axis ≡ frame + c
        at_axis = at axis axis_inside ∙ ap (λ x. frame + x) (put_same axis c p)

        below : (i : ℕ) → i < u.axes → Dec (axis ≡ i) → put axis c p i < length_along b i
        below i m (yes e) = rw (← e, put_same axis c p) h
        below i m (no q) = rw (put_other axis i c p q) (w.below i (omega arith))

        within : Within b v
        within = record {
          above = λ i m. omega (arith, at i m);
          below = λ i m. omega (arith, at i m, below i m (ℕ_discrete axis i));
        }

        go : (t : Bool) → count (is_black (cond t Black White)) ≡ cond t 1 0
        go true = refl
        go false = refl

    each_frame : (t : Bool) → grid axis (length_along b) (λ p. cond t 1 0) ≡ cond t (voxels_each u b.level) 0
    each_frame true = grid_const axis (length_along b) 1 ∙ omega arith
    each_frame false = grid_const axis (length_along b) 0 ∙ omega arith

    black_frames : black_in b seen ≡ sum many (λ c. cond (is_between first last (frame + c)) (voxels_each u b.level) 0)
    unfolding black_in grid
    black_frames =
        let e : u.axes ≡ suc axis = omega (arith, accept.some_axes) in
        ap (λ d. grid d (length_along b) (λ p. count_black seen (λ i. low_along b i + p i))) e
        ∙ sum_cong many _ _ (λ c h.
        grid_cong axis (length_along b) _ (λ p. cond (is_between first last (frame + c)) 1 0) (at_frame c h)
        ∙ each_frame (is_between first last (frame + c)))

    black_count : from ≤ to → black_in b seen ≡ window_length from to * voxels_each u b.level
    black_count h =
        let e : min (frame + many) (suc last) - max frame first ≡ window_length from to = omega (arith, many_some) in
        black_frames ∙ clipped frame first last (voxels_each u b.level) many ∙ ap (λ x. x * voxels_each u b.level) e

    -- no voxel is seen where the frames do not meet the window
    none_seen : (from ≤ to → ⊥) → contact_in first last colours n b k ≡ k
    none_seen q =
        contact_none first last colours n b k l
        (window_mask_lem first last colours n b l
        ∙ mask_agree seen (λ v. White) n b (λ i m. go i (is_between first last (frame_of u (voxel_at n b i))) refl)
        ∙ white_mask_lem n b)
      where
        go : (i : ℕ) (t : Bool) → is_between first last (frame_of u (voxel_at n b i)) ≡ t → cond t (colours (voxel_at n b i)) White ≡ White
        go i false e = refl
        go i true e =
            let h : is_black_at seen n b i ≡ true = rw (e, black (voxel_at n b i) (voxel_within n b i l)) in
            absurd (q (omega (arith, (between i h).0, (between i h).1)))

    -- THEOREM: a BLACK block joins a contact as a black leaf of an expression does
    pub black_contact : contact_in first last colours n b k ≡ touched k first last frame many (voxels_each u b.level)
    unfolding touched contact_in
    black_contact = go (dec_le from to)
      where
        go : Dec (from ≤ to) → contact_in first last colours n b k ≡ cond (leb from to) (with_frames k from to (voxels_each u b.level)) k
        go (yes h) =
            rw (le-leb from to h)
            (contact_eq _ (with_frames k from to (voxels_each u b.level)) (black_end false k.first h) (black_end true k.last h)
            (ap (λ x. k.voxels + x) (black_count h)))
        go (no h) = rw (lt-leb from to (omega arith)) (none_seen h)

-- ---- a tree that is decided over a block

-- THEOREM: a tree that is decided over a block makes it one of one colour
module _ (surfaces : Surfaces) (t : Tree) (first last n : ℕ) (b : Block) (k : Contact) (l : Left n b) where
  pub decided_white : tree_mark surfaces t b ≡ decided White → contact_in first last (tree_colour surfaces b.universe t) n b k ≡ k
  decided_white m = white_contact first last (tree_colour surfaces b.universe t) n b k l (λ v w. tree_sound surfaces (plain t) b White v m w)

  pub decided_black : tree_mark surfaces t b ≡ decided Black →
      contact_in first last (tree_colour surfaces b.universe t) n b k
      ≡ touched k first last (low_along b (frame_axis b.universe)) (frames b.universe b.level) (voxels_each b.universe b.level)
  decided_black m = black_contact first last (tree_colour surfaces b.universe t) n b k l (λ v w. tree_sound surfaces (plain t) b Black v m w)
