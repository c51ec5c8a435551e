-- KEYED MOVERS, of the call itself: `Keyed` (specs/Movers.antt) lists what a user is promised. The theorems of crate `mover` give it, by way of what the
-- contract fixes: the call is refused, short of room, or done, and what holds of each end holds of the call.
use Prim.Native.Nat.{ℕ, zero, suc, ◌+◌, ◌-◌, ◌*◌, ◌≤◌, ◌<◌}
use mathlib.Core.Path.{◌≡◌, refl, sym, ap, ap₂, ◌∙◌, subst}
use mathlib.Core.Bool.{Bool, ◌&&◌}
use mathlib.Core.List.{List, [], ◌∷◌, ◌++◌}
use native.Mathlib.Omega.{arith}
use native.Mathlib.Numerals.{add-one}
use native.Mathlib.Decide.{ℕ_discrete, dec_le}
use borrow.Author.Tests.{le-leb, lt-leb, eq-eqb}
use lib.Dec.{leb, eqb}
use lib.IntN.{ℤ}
use lib.ListN.{length, take, drop, length-append, length-drop}
use lib.Seq.{take-append_seam}
use Rattle.lemmas.specs.Sums.{every}
use Rattle.universe.specs.declared.Universe.{Universe}
use Rattle.universe.specs.Refusals.{bad_universe, bad_proxy, bad_keys, bad_step, bad_rows, no_room, outside, unless}
use Rattle.universe.specs.Universe.{universe_refusal, frame_count}
use Rattle.universe.specs.Room.{room, room_answer}
use Rattle.bintree.specs.declared.Verdict.{Verdict}
use Rattle.bintree.specs.Told.{WrittenAnswer}
use Rattle.bintree.specs.Answers.{written_answer, written_buffer}
use Rattle.bintree.proofs.Answers.{written_short, written_all, kept_short, left_all}
use Rattle.csg.specs.Halfspace.{row_count, rows_refusal}
use Rattle.csg.specs.Ball.{balls_refusal}
use Rattle.csg.specs.Surfaces.{Surfaces, named, surfaces_of}
use Rattle.csg.specs.Words.{tree_refusal, halfspace_words, ball_words}
use Rattle.convert.specs.Told.{ClearanceAnswer}
use Rattle.convert.specs.Answers.{refused_clearance, done_clearance, clearance_of, clearance_answer, clearance_buffer}
use Rattle.standin.specs.declared.Triple.{Triple}
use Rattle.standin.specs.declared.Corners.{Corners}
use Rattle.standin.specs.declared.Solid.TheVariants.{Box}
use Rattle.standin.specs.Sixteenths.{is_taken, corner_limit}
use Rattle.standin.specs.Rows.{proxy_axes, takes_box, proxy_refusal, box_rows, rows_of_box}
use Rattle.standin.specs.Points.{flat}
use Rattle.standin.proofs.Taken.{accepts}
use Rattle.mover.specs.Keys.{Mover, least_keys, most_keys, corner_length, moment_at, number_at, takes_still, still_refusal, corners_refusal, is_rising, are_within}
use Rattle.mover.specs.Keys.{keys_refusal}
use Rattle.mover.specs.Stretches.{stretches, has_step, steps_refusal, with_box}
use Rattle.mover.specs.Motion.{SameBox}
use Rattle.mover.specs.Frames.{box_words, stretch_raw, stretch_verdict, joined, mover_verdict}
use Rattle.mover.specs.Answers.{most_static, axes_refusal, static_refusal, mover_checks, mover_refusal, larger, largest}
use Rattle.mover.specs.Answers.{largest_need, mover_answer, after_stretches, mover_buffer}
use Rattle.mover.specs.Ready.{Ready, ReadyAt}
use Rattle.mover.proofs.Accepted.{ready_universe, ready_keys}
use Rattle.mover.proofs.Own.{up_to, up_start, up_next, up_end}
use Rattle.mover.proofs.Trees.{raw_is, verdict_is_lem, stretch_fits}
use Rattle.mover.proofs.Judging.{stretch_accepted, need_most, most_needs}
use Rattle.mover.proofs.Answers.{ends_refused, ends_short, ends_done}
use Rattle.mover.proofs.Theorems.{some, meets_first, meets_next, rows_in_box, same_rows, one_stretch}
use Rattle.mover.proofs.Voxels.{own_colour_lem, own_black, own_judged}
use Rattle.promises.specs.Movers.{last_judged, stretch_answer, stretch_buffer, OneByOne, Largest, Stretching, Keyed}
use Rattle.promises.proofs.Keeping.{first_accepts}
use Rattle.promises.proofs.Never.{no_more, and_then, unless_not, first_not, balls_not, tree_not}

-- ---- the largest of some numbers is one of them
largest_at : (n : ℕ) (f : ℕ → ℕ) → 0 < n → (i : ℕ) × (i < n) × (f i ≡ largest n f)
unfolding largest
largest_at zero f h = absurd (omega arith)
largest_at (suc n) f h = go (dec_le (largest n f) (f n)) (ℕ_discrete n 0) (largest_at n f)
  where
    go : Dec (largest n f ≤ f n) → Dec (n ≡ 0) → (0 < n → (i : ℕ) × (i < n) × (f i ≡ largest n f)) →
        (i : ℕ) × (i < suc n) × (f i ≡ larger (largest n f) (f n))
    go (yes k) z ih = (n, omega arith, rw (le-leb (largest n f) (f n) k))
    go (no k) (yes z) ih = absurd (k (rw z (omega arith)))
    go (no k) (no z) ih = let w = ih (omega arith) in (w.0, omega (arith, w.1), rw (lt-leb (largest n f) (f n) (omega arith)) w.2)

pub largest_is : (n : ℕ) (f : ℕ → ℕ) → 0 < n → Largest n f (largest n f)
largest_is n f h = let w = largest_at n f h in record { each = λ i l. need_most n f i l; which = w.0; there = w.1; is = w.2 }

module _ (u : Universe) (m : Mover) (surfaces : Surfaces) (words out : List ℕ) where
  abbrev before : ℕ
  before = mover_refusal u m surfaces words

  abbrev need : ℕ
  need = largest_need u m surfaces words

  abbrev count : ℕ
  count = stretches m.moments

  abbrev symbols : ℕ → List ℕ
  symbols i = stretch_raw u m surfaces words i

  abbrev after : ℕ → List ℕ
  after i = after_stretches u m surfaces words out i

  abbrev done : ClearanceAnswer
  done = done_clearance (mover_verdict u m surfaces words) (length (symbols (count - 1)))

  -- ---- no check refuses
  ready : before ≡ 0 → Ready u m surfaces words
  unfolding mover_checks
  ready z =
      let tree = tree_refusal (named surfaces) words in
      let balls = balls_refusal u surfaces.balls in
      let static = static_refusal u surfaces.rows in
      let step = steps_refusal m.moments m.corners in
      let keys = keys_refusal u m.moments m.corners in
      let corners = corners_refusal m.corners in
      let still = still_refusal m.box in
      let a = first_accepts (axes_refusal u) (still ∷ corners ∷ keys ∷ step ∷ static ∷ balls ∷ tree ∷ []) z in
      let b = first_accepts still (corners ∷ keys ∷ step ∷ static ∷ balls ∷ tree ∷ []) a.1 in
      let c = first_accepts corners (keys ∷ step ∷ static ∷ balls ∷ tree ∷ []) b.1 in
      let d = first_accepts keys (step ∷ static ∷ balls ∷ tree ∷ []) c.1 in
      let e = first_accepts step (static ∷ balls ∷ tree ∷ []) d.1 in
      let f = first_accepts static (balls ∷ tree ∷ []) e.1 in
      let g = first_accepts balls (tree ∷ []) f.1 in
      record {
        accepted_axes = a.0;
        accepted_box = b.0;
        accepted_corners = c.0;
        accepted_keys = d.0;
        accepted_steps = e.0;
        accepted_rows = f.0;
        accepted_balls = g.0;
        accepted_tree = (first_accepts tree [] g.1).0;
      }

  -- ---- 9 is none of the checks'
  never : before ≡ outside → ⊥
  unfolding mover_checks axes_refusal still_refusal corners_refusal keys_refusal steps_refusal static_refusal
  never =
      first_not outside
      (and_then (other (eqb (universe_refusal u) 0 && eqb u.axes proxy_axes) bad_universe (λ e. omega arith))
      (and_then (other (takes_still m.box.solid m.box.displacement) bad_proxy (λ e. omega arith))
      (and_then (other (every (length m.corners) (λ i. is_taken corner_limit (number_at m.corners i))) bad_proxy (λ e. omega arith))
      (and_then (other good_keys bad_keys (λ e. omega arith))
      (and_then (other (every count (has_step m.moments m.corners)) bad_step (λ e. omega arith))
      (and_then (other (eqb (rows_refusal u surfaces.rows) 0 && leb (row_count surfaces.rows) most_static) bad_rows (λ e. omega arith))
      (and_then (balls_not outside u surfaces.balls (λ e. omega arith) (omega arith))
      (and_then (tree_not outside (named surfaces) (λ e. omega arith) (λ e. omega arith) (omega arith) words) no_more))))))))
      (omega arith)
    where
      other : (good : Bool) (n : ℕ) → (n ≡ outside → ⊥) → unless good n ≡ outside → ⊥
      other good n h = unless_not outside good n h (omega arith)

      good_keys : Bool
      good_keys =
          leb least_keys (length m.moments)
          && leb (length m.moments) most_keys
          && eqb (length m.corners) (corner_length * length m.moments)
          && is_rising m.moments
          && are_within (frame_count u) m.moments

  -- ---- the three ends
  at_end : (Claim : ClearanceAnswer → List ℕ → Type 0) →
      ((before ≡ 0 → ⊥) → Claim (refused_clearance before 0) out) →
      (before ≡ 0 → length out < need → Claim (refused_clearance no_room need) out) →
      (before ≡ 0 → need ≤ length out → Claim done (after count)) →
      Claim (mover_answer u m surfaces words out) (mover_buffer u m surfaces words out)
  at_end Claim refused short finished = go (ℕ_discrete before 0) (dec_le need (length out))
    where
      by : {a : ClearanceAnswer} {l : List ℕ} → (a ≡ mover_answer u m surfaces words out) × (l ≡ mover_buffer u m surfaces words out) → Claim a l →
          Claim (mover_answer u m surfaces words out) (mover_buffer u m surfaces words out)
      by {a} {l} e k = subst (λ (x : ClearanceAnswer). Claim x (mover_buffer u m surfaces words out)) e.0 (subst (λ (x : List ℕ). Claim a x) e.1 k)

      go : Dec (before ≡ 0) → Dec (need ≤ length out) → Claim (mover_answer u m surfaces words out) (mover_buffer u m surfaces words out)
      go (no n) d = by (ends_refused u m surfaces words out refl n refl) (refused n)
      go (yes z) (no f) = let h : length out < need = omega arith in by (ends_short u m surfaces words out refl z refl h refl) (short z h)
      go (yes z) (yes h) = by (ends_done u m surfaces words out refl z h refl refl) (finished z h)

  module _ (z : before ≡ 0) where
    abbrev r : Ready u m surfaces words
    r = ready z

    some_stretch : 0 < count
    some_stretch = omega (arith, (ready_keys r).some)

    raw_most : (i : ℕ) → i < count → length (symbols i) ≤ need
    unfolding largest_need
    raw_most i l = need_most count (λ j. length (symbols j)) i l

    all_most : (n : ℕ) → ((i : ℕ) → i < count → length (symbols i) ≤ n) → need ≤ n
    unfolding largest_need
    all_most n h = most_needs count (λ j. length (symbols j)) n h

    need_largest : Largest count (λ i. length (symbols i)) need
    unfolding largest_need
    need_largest = largest_is count (λ i. length (symbols i)) some_stretch

    room_suffices : (room_answer u (halfspace_words words + 6) (ball_words words)).symbols ≤ length out → need ≤ length out
    unfolding room_answer
    room_suffices h =
        let told : (room_answer u (halfspace_words words + 6) (ball_words words)).symbols ≡ room u (halfspace_words words + 6) (ball_words words) =
        rw (eq-eqb (universe_refusal u) 0 (ready_universe r)) in
        all_most (length out) (λ i l. omega (arith, told, stretch_fits r i (omega arith)))

    -- ---- the verdict's call on a stretch
    module _ (i : ℕ) (l : i + 1 < length m.moments) (lent : List ℕ) where
      accepted_at : clearance_answer u (with_box surfaces m i) words (box_words (row_count surfaces.rows))
          (moment_at m.moments i) (moment_at m.moments (i + 1) - 1) lent
          ≡ clearance_of (written_answer 0 lent (symbols i)) (stretch_verdict u m surfaces words i)
      unfolding clearance_answer stretch_verdict
      accepted_at =
          let q : ReadyAt u m surfaces words i = record { ready = r; there = l } in
          rw (stretch_accepted q, raw_is r i l)
          (ap (clearance_of (written_answer 0 lent (symbols i))) (verdict_is_lem r i l (moment_at m.moments i) (moment_at m.moments (i + 1) - 1)))

      left_at : stretch_buffer u m surfaces words i lent ≡ written_buffer 0 lent (symbols i)
      unfolding clearance_buffer
      left_at = let q : ReadyAt u m surfaces words i = record { ready = r; there = l } in rw (stretch_accepted q, raw_is r i l)

      short_at : length lent < length (symbols i) →
          (stretch_answer u m surfaces words i lent ≡ refused_clearance no_room (length (symbols i))) × (stretch_buffer u m surfaces words i lent ≡ lent)
      short_at h = (
        accepted_at
            ∙ sym (ap (λ (w : WrittenAnswer). clearance_of w (stretch_verdict u m surfaces words i)) (written_short 0 lent (symbols i) refl h)),
        left_at ∙ sym (kept_short 0 lent (symbols i) refl h),
      )

      done_at : length (symbols i) ≤ length lent →
          (stretch_answer u m surfaces words i lent ≡ done_clearance (stretch_verdict u m surfaces words i) (length (symbols i)))
          × (stretch_buffer u m surfaces words i lent ≡ symbols i ++ drop (length (symbols i)) lent)
      done_at h = (
        accepted_at
            ∙ sym (ap (λ (w : WrittenAnswer). clearance_of w (stretch_verdict u m surfaces words i)) (written_all 0 lent (symbols i) refl h)),
        left_at ∙ sym (left_all 0 lent (symbols i) refl h),
      )

    -- ---- one stretch
    stretching : (i : ℕ) → i + 1 < length m.moments → Stretching u m surfaces words i
    stretching i l =
        record {
          some = some r i l;
          meets_first = meets_first r i l;
          meets_next = meets_next r i l;
          moves_evenly = rows_in_box r i l;
          joins = λ v f t. own_colour_lem r i l v f t;
          black = λ v f t. own_black r i l v f t;
        }

    -- ---- one stretch after the other
    module _ (h : need ≤ length out) where
      after_next : (i : ℕ) → after (i + 1) ≡ symbols i ++ drop (length (symbols i)) (after i)
      unfolding after_stretches
      after_next i = rw (add-one i)

      after_long : (i : ℕ) → i ≤ count → length (after i) ≡ length out
      unfolding after_stretches
      after_long zero l = refl
      after_long (suc i) l =
          let s = symbols i in
          omega (
            arith,
            length-append s (drop (length s) (after i)),
            length-drop (length s) (after i),
            after_long i (omega arith),
            raw_most i (omega arith),
          )

      fits : (i : ℕ) → i < count → length (symbols i) ≤ length (after i)
      fits i l = omega (arith, raw_most i l, after_long i (omega arith))

      called : (i : ℕ) → i < count →
          (stretch_answer u m surfaces words i (after i) ≡ done_clearance (stretch_verdict u m surfaces words i) (length (symbols i)))
          × (stretch_buffer u m surfaces words i (after i) ≡ symbols i ++ drop (length (symbols i)) (after i))
      called i l = done_at i (omega arith) (after i) (fits i l)

      one_by_one : OneByOne u m surfaces words out done (after count)
      unfolding after_stretches
      one_by_one =
          record {
            rooms = after;
            verdicts = up_to r;
            room_first = refl;
            verdict_first = up_start r;
            accepted = λ i l. ap (λ (c : ClearanceAnswer). c.refusal) (called i l).0;
            room_next = λ i l. after_next i ∙ sym (called i l).1;
            room_over = λ i l. after_next i;
            verdict_next = λ i l.
                sym (up_next r i (omega arith)) ∙ ap (λ (c : ClearanceAnswer). joined (up_to r i) c.verdict) (sym (called i l).0);
            room_last = refl;
            verdict_last = up_end r;
          }

      in_front_lem : take (length (symbols (count - 1))) (after count) ≡ symbols (count - 1)
      in_front_lem =
          let k = count - 1 in
          let e : k + 1 ≡ count = omega (arith, some_stretch) in
          let s = symbols k in
          ap (λ (i : ℕ). take (length s) (after i)) (sym e)
          ∙ ap (take (length s)) (after_next k)
          ∙ take-append_seam s (drop (length s) (after k))

    -- ---- two keys: the same Box as a proxy
    module _ (two : length m.moments ≡ 2) (c : Corners) (v : Triple) (taken : proxy_refusal (record { solid = Box c; displacement = v }) ≡ 0)
        (same : SameBox m 0 c v) where
      only : count ≡ 1
      only = omega arith

      abbrev scene : Surfaces
      scene = surfaces_of (surfaces.rows ++ flat (box_rows (record { solid = Box c; displacement = v }))) surfaces.balls

      abbrev box : List ℕ
      box = box_words (row_count surfaces.rows)

      scene_is : with_box surfaces m 0 ≡ scene
      scene_is =
          let t = (accepts (takes_box c v)).0 taken in
          let six : rows_of_box c v ≡ box_rows (record { solid = Box c; displacement = v }) = rw t in
          same_rows r 0 (omega arith) c v t same
          ∙ ap (λ (rows : List (List ℤ)). surfaces_of (surfaces.rows ++ flat rows) surfaces.balls) six

      as_proxy : (lent : List ℕ) →
          (stretch_answer u m surfaces words 0 lent ≡ clearance_answer u scene words box (moment_at m.moments 0) (last_judged m) lent)
          × (stretch_buffer u m surfaces words 0 lent ≡ clearance_buffer u scene words box (moment_at m.moments 0) (last_judged m) lent)
      as_proxy lent =
          let e : 0 + 1 ≡ count = omega arith in
          let last : moment_at m.moments (0 + 1) - 1 ≡ last_judged m = ap (λ (k : ℕ). moment_at m.moments k - 1) e in
          let a = moment_at m.moments 0 in (
            ap₂ (λ (x : Surfaces) (k : ℕ). clearance_answer u x words box a k lent) scene_is last,
            ap₂ (λ (x : Surfaces) (k : ℕ). clearance_buffer u x words box a k lent) scene_is last,
          )

      need_one : need ≡ length (symbols 0)
      need_one = let w = need_largest in let e : w.which ≡ 0 = omega (arith, w.there) in sym w.is ∙ ap (λ (i : ℕ). length (symbols i)) e

      proxy_short : length out < need →
          (refused_clearance no_room need ≡ clearance_answer u scene words box (moment_at m.moments 0) (last_judged m) out)
          × (out ≡ clearance_buffer u scene words box (moment_at m.moments 0) (last_judged m) out)
      proxy_short h =
          let w = short_at 0 (omega arith) out (omega (arith, need_one)) in
          (ap (refused_clearance no_room) need_one ∙ sym w.0 ∙ (as_proxy out).0, sym w.1 ∙ (as_proxy out).1)

      proxy_done : need ≤ length out →
          (done ≡ clearance_answer u scene words box (moment_at m.moments 0) (last_judged m) out)
          × (after count ≡ clearance_buffer u scene words box (moment_at m.moments 0) (last_judged m) out)
      unfolding after_stretches
      proxy_done h =
          let w = done_at 0 (omega arith) out (omega (arith, need_one)) in
          let e : count - 1 ≡ 0 = omega arith in (
            ap₂ (λ (x : Verdict) (i : ℕ). done_clearance x (length (symbols i))) (one_stretch r two) e ∙ sym w.0 ∙ (as_proxy out).0,
            ap after only ∙ sym w.1 ∙ (as_proxy out).1,
          )

  -- THEOREM: what a user is promised of the call
  pub keyed : Keyed u m surfaces words out (mover_answer u m surfaces words out) (mover_buffer u m surfaces words out)
  keyed =
      at_end (Keyed u m surfaces words out)
      (λ n. record {
        number = λ f. refl;
        no_length = λ f. refl;
        six = λ z. absurd (n z);
        done = λ z. absurd (n z);
        needs = λ z. absurd (n z);
        suffices = λ z. absurd (n z);
        never_nine = never;
        clear = λ f. refl;
        kept = λ f. refl;
        judged = λ z. absurd (n z);
        stretch = λ z. absurd (n z);
        one_by_one = λ z. absurd (n z);
        front = λ z. absurd (n z);
        proxy = λ z. absurd (n z);
      })
      (λ z h. record {
        number = λ f. absurd (f z);
        no_length = λ f. absurd (f z);
        six = λ f i l k. refl;
        done = λ f all. absurd (omega (arith, all_most z (length out) all));
        needs = λ f g. need_largest z;
        suffices = λ f g. absurd (omega (arith, room_suffices z g));
        never_nine = λ e. omega arith;
        clear = λ f. refl;
        kept = λ f. refl;
        judged = λ e. absurd (omega arith);
        stretch = λ e. absurd (omega arith);
        one_by_one = λ e. absurd (omega arith);
        front = λ e. absurd (omega arith);
        proxy = λ f two c v taken same. proxy_short z two c v taken same h;
      })
      (λ z h. record {
        number = λ f. absurd (f z);
        no_length = λ f. absurd (f z);
        six = λ f i l k. absurd (omega (arith, raw_most z i l));
        done = λ f all. refl;
        needs = λ f g. absurd (g refl);
        suffices = λ f g. refl;
        never_nine = λ e. omega arith;
        clear = λ f. absurd (f refl);
        kept = λ f. absurd (f refl);
        judged = λ e. own_judged (ready z);
        stretch = λ e. stretching z;
        one_by_one = λ e. one_by_one z h;
        front = λ e. in_front_lem z h;
        proxy = λ f two c v taken same. proxy_done z two c v taken same h;
      })
