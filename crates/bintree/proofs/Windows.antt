-- The contact that a walk finds is the verdict's. `Tells first last g k`: the contact k tells of a window in which frame c has g c black voxels; a
-- black block's frames joined to it tell of the block's voxels too, and block by block so do all of the shape.
use mathlib.Core.Path.{◌≡◌, refl, sym, ap, ◌∙◌}
use mathlib.Core.Bool.{Bool, true, false, cond, ◌&&◌}
use Prim.Native.Nat.{ℕ, zero, suc, ◌+◌, ◌-◌, ◌*◌, ◌/◌, ◌%◌, ◌≤◌, ◌<◌, min, max}
use native.Mathlib.Decide.{ℕ_discrete, dec_le, dec_lt}
use native.Mathlib.Omega.{arith}
use borrow.Author.Tests.{eq-eqb, ne_eqb, le-leb, lt-leb, lt-ltb, le-ltb}
use lib.Dec.{leb, ltb, eqb}
use Rattle.lemmas.specs.Sums.{sum, product}
use Rattle.lemmas.proofs.Sums.{sum_cong, sum_add, sum_zero, sum_part, product_positive}
use Rattle.universe.specs.declared.Universe.{Universe}
use Rattle.universe.specs.Universe.{levels, axis_at, frame_axis, frame_count, block_side}
use Rattle.universe.proofs.Universes.{side_first, side_halved, side_kept, side_positive}
use Rattle.bintree.specs.declared.Colour.TheVariants.{White, Black}
use Rattle.bintree.specs.declared.Contact.{Contact}
use Rattle.bintree.specs.declared.Verdict.{Verdict}
use Rattle.bintree.specs.declared.Verdict.TheVariants.{Clear, Hit}
use Rattle.bintree.specs.Shape.{Shape, leaf, halved, depth}
use Rattle.bintree.specs.Counts.{frames, of_halves, voxels_from, voxels_at, inside}
use Rattle.bintree.specs.Verdicts.{window_length, verdict}
use Rattle.bintree.specs.Windows.{no_contact, with_frames, touched, contact_from, verdict_of}
use Rattle.bintree.proofs.Counts.{level_below, low_fits, high_fits, lower_frame, upper_frame}
use Rattle.bintree.proofs.Verdicts.{HitIn, clear_none, hit_is}

-- inside a run of frames, and outside it
module _ (frame n : ℕ) (f : ℕ → ℕ) (c : ℕ) where
  pub inside_at : frame ≤ c → c < frame + n → inside frame n f c ≡ f c
  unfolding inside
  inside_at h k = rw (inside, le-leb frame c h, lt-ltb c (frame + n) k)

  before_at : c < frame → inside frame n f c ≡ 0
  unfolding inside
  before_at h = rw (inside, lt-leb frame c h)

  after_at : frame + n ≤ c → inside frame n f c ≡ 0
  unfolding inside
  after_at h = rw (inside, le-leb frame c (omega arith), le-ltb c (frame + n) h)

  pub outside_at : (frame ≤ c → c < frame + n → ⊥) → inside frame n f c ≡ 0
  outside_at h = go (dec_le frame c)
    where
      go : Dec (frame ≤ c) → inside frame n f c ≡ 0
      go (yes k) = after_at (omega (arith, h k))
      go (no k) = before_at (omega arith)

pub none_inside : (frame n c : ℕ) → inside frame n (λ e. 0) c ≡ 0
unfolding inside
none_inside frame n c = go (leb frame c && ltb c (frame + n))
  where
    go : (b : Bool) → ◌≡◌ {A = ℕ} (cond b 0 0) 0
    go true = refl
    go false = refl

same_inside : (frame n : ℕ) (f g : ℕ → ℕ) (c : ℕ) → f c ≡ g c → inside frame n f c ≡ inside frame n g c
unfolding inside
same_inside frame n f g c e = ap (λ x. cond (leb frame c && ltb c (frame + n)) x 0) e

-- two halves with the same frames, and two whose frames follow each other: of the latter a frame's half is the one that holds it
both_inside : (frame n : ℕ) (low high : ℕ → ℕ) (c : ℕ) → inside frame n low c + inside frame n high c ≡ inside frame n (λ e. low e + high e) c
both_inside frame n low high c = go (dec_le frame c) (dec_lt c (frame + n))
  where
    go : Dec (frame ≤ c) → Dec (c < frame + n) → inside frame n low c + inside frame n high c ≡ inside frame n (λ e. low e + high e) c
    go (yes h) (yes k) = rw (inside_at frame n low c h k, inside_at frame n high c h k, inside_at frame n (λ e. low e + high e) c h k)
    go (yes h) (no k) =
        let l : frame + n ≤ c = omega arith in rw (after_at frame n low c l, after_at frame n high c l, after_at frame n (λ e. low e + high e) c l)
    go (no h) k = let l : c < frame = omega arith in rw (before_at frame n low c l, before_at frame n high c l, before_at frame n (λ e. low e + high e) c l)

halves_inside :
    (n m : ℕ) (low high : ℕ → ℕ) (c : ℕ) →
    inside (m * (2 * n)) n low c + inside (m * (2 * n) + n) n high c ≡ inside (m * (2 * n)) (2 * n) (λ e. of_halves true (eqb (e / n % 2) 0) (low e) (high e)) c
halves_inside n m low high c = go (dec_le frame c) (dec_lt c (frame + n)) (dec_lt c (frame + 2 * n))
  where
    frame : ℕ
    frame = m * (2 * n)

    both : ℕ → ℕ
    both e = of_halves true (eqb (e / n % 2) 0) (low e) (high e)

    go : Dec (frame ≤ c) → Dec (c < frame + n) → Dec (c < frame + 2 * n) → inside frame n low c + inside (frame + n) n high c ≡ inside frame (2 * n) both c
    go (no h) k l = rw (before_at frame n low c (omega arith), before_at (frame + n) n high c (omega arith), before_at frame (2 * n) both c (omega arith))
    go (yes h) (yes k) l =
        rw (inside_at frame n low c h k, before_at (frame + n) n high c k, inside_at frame (2 * n) both c h (omega arith), lower_frame n m c h k) (omega arith)
    go (yes h) (no k) (yes l) =
        rw (
          after_at frame n low c (omega arith),
          inside_at (frame + n) n high c (omega arith) (omega arith),
          inside_at frame (2 * n) both c h l,
          upper_frame n m c (omega arith) l,
        )
        (omega arith)
    go (yes h) (no k) (no l) =
        rw (after_at frame n low c (omega arith), after_at (frame + n) n high c (omega arith), after_at frame (2 * n) both c (omega arith))

-- the same with numbers of their own
follow_inside :
    (n m frame wide next : ℕ) → wide ≡ 2 * n → frame ≡ m * wide → next ≡ frame + (wide - n) → (low high : ℕ → ℕ) (c : ℕ) →
    inside frame n low c + inside next n high c ≡ inside frame wide (λ e. of_halves true (eqb (e / n % 2) 0) (low e) (high e)) c
follow_inside n m frame wide next e f g low high c =
    let p : frame ≡ m * (2 * n) = f ∙ ap (λ (x : ℕ). m * x) e in
    let q : next ≡ m * (2 * n) + n = omega arith in
    rw (p, q, e) (halves_inside n m low high c)

-- frames with as many voxels each, summed over a window
frames_sum : (first each frame n w : ℕ) → sum w (λ c. inside frame n (λ e. each) (first + c)) ≡ (min (frame + n) (first + w) - max frame first) * each
unfolding sum
frames_sum first each frame n zero = let e : min (frame + n) (first + 0) - max frame first ≡ 0 = omega arith in rw e (omega arith)
frames_sum first each frame n (suc w) = go (dec_le frame (first + w)) (dec_lt (first + w) (frame + n)) (frames_sum first each frame n w)
  where
    now : ℕ
    now = min (frame + n) (first + w) - max frame first

    next : ℕ
    next = min (frame + n) (first + suc w) - max frame first

    go :
        Dec (frame ≤ first + w) → Dec (first + w < frame + n) → sum w (λ c. inside frame n (λ e. each) (first + c)) ≡ now * each →
        sum w (λ c. inside frame n (λ e. each) (first + c)) + inside frame n (λ e. each) (first + w) ≡ next * each
    go (yes h) (yes k) ih =
        let e : next ≡ suc now = omega arith in
        rw (e, ih, inside_at frame n (λ e. each) (first + w) h k) (omega arith)
    go (yes h) (no k) ih =
        let e : next ≡ now = omega arith in
        rw (e, ih, after_at frame n (λ e. each) (first + w) (omega arith)) (omega arith)
    go (no h) k ih =
        let e : next ≡ now = omega arith in
        rw (e, ih, before_at frame n (λ e. each) (first + w) (omega arith)) (omega arith)

module _ (first last : ℕ) where
  -- what a contact tells of a window whose frame c has g c black voxels
  pub record Tells (g : ℕ → ℕ) (k : Contact) : Type 0 where
    pub count : k.voxels ≡ sum (window_length first last) (λ c. g (first + c))
    pub first_from : first ≤ k.first
    pub first_to : k.first ≤ last
    pub none_before : (c : ℕ) → first ≤ c → c < k.first → g c ≡ 0
    pub first_black : k.first < last → 0 < g k.first
    pub last_from : first ≤ k.last
    pub last_to : k.last ≤ last
    pub none_after : (c : ℕ) → k.last < c → c ≤ last → g c ≡ 0
    pub last_black : first < k.last → 0 < g k.last

  -- nothing yet
  nothing_tells : first ≤ last → Tells (λ c. 0) (no_contact first last)
  nothing_tells h =
      record {
        count = sym (sum_zero (window_length first last) (λ c. 0) (λ c k. refl));
        first_from = h;
        first_to = omega arith;
        none_before = λ c i j. refl;
        first_black = λ i. absurd (omega arith);
        last_from = omega arith;
        last_to = h;
        none_after = λ c i j. refl;
        last_black = λ i. absurd (omega arith);
      }

  -- the same voxels at each frame of the window
  same_tells : {g h : ℕ → ℕ} {k : Contact} → ((c : ℕ) → first ≤ c → c ≤ last → g c ≡ h c) → Tells g k → Tells h k
  same_tells {g} {h} {k} e t =
      record {
        count = t.count ∙ sum_cong (window_length first last) (λ c. g (first + c)) (λ c. h (first + c)) (λ c i. e (first + c) (omega arith) (omega arith));
        first_from = t.first_from;
        first_to = t.first_to;
        none_before = λ c i j. sym (e c i (omega (arith, t.first_to))) ∙ t.none_before c i j;
        first_black = λ i. rw (← e k.first t.first_from t.first_to) (t.first_black i);
        last_from = t.last_from;
        last_to = t.last_to;
        none_after = λ c i j. sym (e c (omega (arith, t.last_from)) j) ∙ t.none_after c i j;
        last_black = λ i. rw (← e k.last t.last_from t.last_to) (t.last_black i);
      }

  -- frames `from` to `to` of the window joined, where m counts as many voxels in each of them and none elsewhere
  module _ (from to each : ℕ) (begins : first ≤ from) (some : from ≤ to) (ends : to ≤ last) (black : 0 < each) (g m : ℕ → ℕ) where
    joined_tells :
        (k : Contact) → Tells g k → ((c : ℕ) → from ≤ c → c ≤ to → m c ≡ each) → ((c : ℕ) → first ≤ c → c < from → m c ≡ 0) →
        ((c : ℕ) → to < c → c ≤ last → m c ≡ 0) → sum (window_length first last) (λ c. m (first + c)) ≡ window_length from to * each →
        Tells (λ c. g c + m c) (with_frames k from to each)
    joined_tells k t at before after whole =
        record {
          count = omega (arith, t.count, whole, sum_add (window_length first last) (λ c. g (first + c)) (λ c. m (first + c)));
          first_from = omega (arith, t.first_from);
          first_to = omega (arith, t.first_to);
          none_before = λ c i j. omega (arith, t.none_before c i (omega arith), before c i (omega arith));
          first_black = λ i. least (dec_le k.first from) i;
          last_from = omega (arith, t.last_from);
          last_to = omega (arith, t.last_to);
          none_after = λ c i j. omega (arith, t.none_after c (omega arith) j, after c (omega arith) j);
          last_black = λ i. greatest (dec_le to k.last) i;
        }
      where
        least : Dec (k.first ≤ from) → min k.first from < last → 0 < g (min k.first from) + m (min k.first from)
        least (yes d) i = let e : min k.first from ≡ k.first = omega arith in rw e (omega (arith, t.first_black (omega arith)))
        least (no d) i = let e : min k.first from ≡ from = omega arith in rw e (omega (arith, at from (omega arith) some))

        greatest : Dec (to ≤ k.last) → first < max k.last to → 0 < g (max k.last to) + m (max k.last to)
        greatest (yes d) i = let e : max k.last to ≡ k.last = omega arith in rw e (omega (arith, t.last_black (omega arith)))
        greatest (no d) i = let e : max k.last to ≡ to = omega arith in rw e (omega (arith, at to some (omega arith)))

  -- a black block's frames, as far as they lie in the window
  touched_tells :
      (frame n each : ℕ) → first ≤ last → 0 < n → 0 < each → (g : ℕ → ℕ) (k : Contact) → Tells g k →
      Tells (λ c. g c + inside frame n (λ e. each) c) (touched k first last frame n each)
  unfolding touched
  touched_tells frame n each h some black g k t = go (dec_le (max frame first) (min (frame + (n - 1)) last))
    where
      from : ℕ
      from = max frame first

      to : ℕ
      to = min (frame + (n - 1)) last

      m : ℕ → ℕ
      m = inside frame n (λ e. each)

      whole : from ≤ to → sum (window_length first last) (λ c. m (first + c)) ≡ window_length from to * each
      whole i =
          let d : first + window_length first last ≡ suc last = omega arith in
          let e : min (frame + n) (suc last) ≡ suc to = omega arith in
          frames_sum first each frame n (window_length first last) ∙ rw (d, e)

      go : Dec (from ≤ to) → Tells (λ c. g c + m c) (cond (leb from to) (with_frames k from to each) k)
      go (yes i) =
          rw (le-leb from to i)
          (joined_tells from to each (omega arith) i (omega arith) black g m k t
          (λ c a b. inside_at frame n (λ e. each) c (omega arith) (omega arith))
          (λ c a b. outside_at frame n (λ e. each) c (λ x y. omega arith))
          (λ c a b. after_at frame n (λ e. each) c (omega arith))
          (whole i))
      go (no i) =
          rw (lt-leb from to (omega arith))
          (same_tells (λ c a b. omega (arith, outside_at frame n (λ e. each) c (λ x y. omega arith))) t)

-- the two halves of a block, whose frames begin at a multiple of their number: so do those of its halves, and what both have at a frame is what the block has
module _ (u : Universe) (some : 0 < u.axes) (l : ℕ) (h : l < levels u) (m frame : ℕ) (f : frame ≡ m * frames u l) where
  abbrev next : ℕ
  next = frame + (frames u l - frames u (suc l))

  wide : axis_at u l ≡ frame_axis u → frames u l ≡ 2 * frames u (suc l)
  wide e = rw e at (side_halved u some l h)

  same : (axis_at u l ≡ frame_axis u → ⊥) → frames u l ≡ frames u (suc l)
  same n = sym (side_kept u l (frame_axis u) n)

  pub low_begins : (k : ℕ) × (frame ≡ k * frames u (suc l))
  low_begins = go (ℕ_discrete (axis_at u l) (frame_axis u))
    where
      go : Dec (axis_at u l ≡ frame_axis u) → (k : ℕ) × (frame ≡ k * frames u (suc l))
      go (yes e) = (2 * m, f ∙ ap (λ (z : ℕ). m * z) (wide e) ∙ omega arith)
      go (no n) = (m, f ∙ ap (λ (z : ℕ). m * z) (same n))

  pub high_begins : (k : ℕ) × (next ≡ k * frames u (suc l))
  high_begins = go (ℕ_discrete (axis_at u l) (frame_axis u))
    where
      go : Dec (axis_at u l ≡ frame_axis u) → (k : ℕ) × (next ≡ k * frames u (suc l))
      go (yes e) =
          let d : frame ≡ 2 * m * frames u (suc l) = f ∙ ap (λ (z : ℕ). m * z) (wide e) ∙ omega arith in
          let w = wide e in (2 * m + 1, omega arith)
      go (no n) =
          let d : frame ≡ m * frames u (suc l) = f ∙ ap (λ (z : ℕ). m * z) (same n) in
          let s = same n in (m, omega arith)

  module _ (a b : Shape) (c : ℕ) where
    across_at :
        axis_at u l ≡ frame_axis u →
        of_halves true (eqb (c / frames u (suc l) % 2) 0) (voxels_from u (suc l) a c) (voxels_from u (suc l) b c) ≡ voxels_from u l (halved a b) c
    unfolding voxels_from
    across_at e = rw (eq-eqb (axis_at u l) (frame_axis u) e, e)

    along_at : (axis_at u l ≡ frame_axis u → ⊥) → voxels_from u (suc l) a c + voxels_from u (suc l) b c ≡ voxels_from u l (halved a b) c
    unfolding voxels_from
    along_at n = rw (ne_eqb (axis_at u l) (frame_axis u) n)

    pub halves_frames :
        inside frame (frames u (suc l)) (voxels_from u (suc l) a) c + inside next (frames u (suc l)) (voxels_from u (suc l) b) c
        ≡ inside frame (frames u l) (voxels_from u l (halved a b)) c
    halves_frames = go (ℕ_discrete (axis_at u l) (frame_axis u))
      where
        low : ℕ → ℕ
        low = voxels_from u (suc l) a

        high : ℕ → ℕ
        high = voxels_from u (suc l) b

        n : ℕ
        n = frames u (suc l)

        go : Dec (axis_at u l ≡ frame_axis u) → inside frame n low c + inside next n high c ≡ inside frame (frames u l) (voxels_from u l (halved a b)) c
        go (yes e) =
            follow_inside n m frame (frames u l) next (wide e) f refl low high c
            ∙ same_inside frame (frames u l) (λ d. of_halves true (eqb (d / n % 2) 0) (low d) (high d)) (voxels_from u l (halved a b)) c (across_at e)
        go (no k) =
            let w = same k in
            let z : next ≡ frame = omega arith in
            rw (z, w) (both_inside frame n low high c ∙ same_inside frame n (λ d. low d + high d) (voxels_from u l (halved a b)) c (along_at k))

-- a shape joined block by block: what it tells at the frames of its block, which begin at a multiple of their number
module _ (u : Universe) (some : 0 < u.axes) (first last : ℕ) (order : first ≤ last) where
  Joins : ℕ → Shape → Type 0
  Joins l s =
      (m frame : ℕ) → frame ≡ m * frames u l → (g : ℕ → ℕ) (k : Contact) → Tells first last g k → Tells first last
      (λ c. g c + inside frame (frames u l) (voxels_from u l s) c) (contact_from u first last l frame s k)

  halved_joins : (l : ℕ) (a b : Shape) → l < levels u → Joins (suc l) a → Joins (suc l) b → Joins l (halved a b)
  unfolding Joins contact_from
  halved_joins l a b h x y m frame f g k t =
      let p = low_begins u some l h m frame f in
      let q = high_begins u some l h m frame f in
      let low : ℕ → ℕ = inside frame (frames u (suc l)) (voxels_from u (suc l) a) in
      same_tells first last (λ c i j. omega (arith, halves_frames u some l h m frame f a b c))
      (y q.0 (frame + (frames u l - frames u (suc l))) q.1 (λ c. g c + low c) (contact_from u first last (suc l) frame a k) (x p.0 frame p.1 g k t))

  shape_joins : (l : ℕ) (s : Shape) → l + depth s ≤ levels u → Joins l s
  unfolding Joins contact_from voxels_from
  shape_joins l (leaf Black) h =
      λ m frame f g k t. touched_tells first last frame (frames u l) (product (frame_axis u) (block_side u l)) order (side_positive u l (frame_axis u))
      (product_positive (frame_axis u) (block_side u l) (λ i j. side_positive u l i)) g k t
  shape_joins l (leaf White) h = λ m frame f g k t. same_tells first last (λ c i j. omega (arith, none_inside frame (frames u l) c)) t
  shape_joins l (halved a b) h =
      halved_joins l a b (level_below u l a b h) (shape_joins (suc l) a (low_fits u l a b h)) (shape_joins (suc l) b (high_fits u l a b h))

  -- all of the shape, from its whole universe on
  pub contact_tells :
      (s : Shape) → depth s ≤ levels u → last < frame_count u → Tells first last (voxels_at u s) (contact_from u first last 0 0 s (no_contact first last))
  unfolding Joins
  contact_tells s h k =
      same_tells first last
      (λ c i j. omega (arith, inside_at 0 (frames u 0) (voxels_from u 0 s) c (omega arith) (omega (arith, side_first u (frame_axis u)))))
      (shape_joins 0 s (omega arith) 0 0 (omega arith) (λ c. 0) (no_contact first last) (nothing_tells first last order))

-- THEOREM: a contact that tells of a shape's black voxels is the shape's verdict: Clear where it counts none, else Hit with it
module _ (u : Universe) (s : Shape) (first last : ℕ) (order : first ≤ last) (k : Contact) (t : Tells first last (voxels_at u s) k) where
  same_contact : (contact : Contact) → HitIn u s first last contact → contact ≡ k
  same_contact contact w =
      λ i. record {
        first = least (ℕ_discrete contact.first k.first) i;
        last = greatest (ℕ_discrete contact.last k.last) i;
        voxels = (w.count ∙ sym t.count) i;
      }
    where
      least : Dec (contact.first ≡ k.first) → contact.first ≡ k.first
      least (yes e) = e
      least (no n) = go (dec_lt contact.first k.first)
        where
          go : Dec (contact.first < k.first) → contact.first ≡ k.first
          go (yes d) = absurd (omega (arith, t.none_before contact.first w.first_from d, w.first_black))
          go (no d) = absurd (omega (arith, t.first_black (omega (arith, w.first_to)), w.none_before k.first t.first_from (omega arith)))

      greatest : Dec (contact.last ≡ k.last) → contact.last ≡ k.last
      greatest (yes e) = e
      greatest (no n) = go (dec_lt k.last contact.last)
        where
          go : Dec (k.last < contact.last) → contact.last ≡ k.last
          go (yes d) = absurd (omega (arith, t.none_after contact.last d w.last_to, w.last_black))
          go (no d) = absurd (omega (arith, t.last_black (omega (arith, w.last_from)), w.none_after k.last (omega arith) t.last_to))

  pub verdict_is_lem : verdict u s first last ≡ verdict_of k
  verdict_is_lem = go (verdict u s first last) refl
    where
      go : (v : Verdict) → verdict u s first last ≡ v → v ≡ verdict_of k
      go Clear e =
          let none : (c : ℕ) → c < window_length first last → voxels_at u s (first + c) ≡ 0 =
          λ c i. clear_none u s first last e (first + c) (omega arith) (omega arith) in
          let z = sum_zero (window_length first last) (λ c. voxels_at u s (first + c)) none in
          rw (eq-eqb k.voxels 0 (t.count ∙ z))
      go (Hit contact) e =
          let w = hit_is u s first last contact e in
          let q : first + (contact.first - first) ≡ contact.first = omega (arith, w.first_from) in
          let within : contact.first - first < window_length first last = omega (arith, w.first_from, w.first_to) in
          let p = rw q at (sum_part (window_length first last) (λ c. voxels_at u s (first + c)) (contact.first - first) within) in
          rw (ne_eqb k.voxels 0 (λ z. omega (arith, t.count, w.first_black))) (ap Hit (same_contact contact w))
