-- Verdicts over frames that follow each other join: the first frame of the earlier, the last of the later, the voxels of both. And a verdict depends on the
-- counts of its own frames alone.
use Prim.Native.Nat.{ℕ, zero, suc, ◌+◌, ◌-◌, ◌≤◌, ◌<◌}
use native.Mathlib.Omega.{arith}
use native.Mathlib.Decide.{dec_lt}
use mathlib.Core.Path.{◌≡◌, refl, sym, ap}
use mathlib.Core.Bool.{Bool, true, false}
use borrow.Author.Tests.{lt-ltb, le-ltb}
use lib.Dec.{ltb}
use Rattle.lemmas.specs.Sums.{sum}
use Rattle.lemmas.proofs.Sums.{sum_cong, sum_part}
use Rattle.universe.specs.declared.Universe.{Universe}
use Rattle.bintree.specs.declared.Contact.{Contact}
use Rattle.bintree.specs.declared.Verdict.TheVariants.{Clear, Hit}
use Rattle.bintree.specs.Shape.{Shape}
use Rattle.bintree.specs.Counts.{voxels_at}
use Rattle.bintree.specs.Verdicts.{window_length, first_frame, last_frame, voxels_in, verdict}
use Rattle.bintree.proofs.Verdicts.{Names, IsFirst, IsLast, first_is, last_is}
use Rattle.mover.specs.Frames.{over_frames, joined, voxels_told}

-- ---- the verdict of a shape over a window is one of frames
pub shape_frames : (u : Universe) (s : Shape) (first last : ℕ) → verdict u s first last ≡ over_frames (voxels_at u s) first (window_length first last)
unfolding verdict over_frames voxels_in
shape_frames u s first last = refl

-- ---- counts that agree on the frames give one verdict
first_cong : (f g : ℕ → Bool) (frame n : ℕ) → ((c : ℕ) → frame ≤ c → c < frame + n → f c ≡ g c) → first_frame f frame n ≡ first_frame g frame n
unfolding first_frame
first_cong f g frame zero h = refl
first_cong f g frame (suc n) h =
    rw (h frame (omega arith) (omega arith), first_cong f g (suc frame) n (λ c k l. h c (omega arith) (omega arith)))

last_cong : (f g : ℕ → Bool) (frame n : ℕ) → ((c : ℕ) → frame ≤ c → c < frame + n → f c ≡ g c) → last_frame f frame n ≡ last_frame g frame n
unfolding last_frame
last_cong f g frame zero h = refl
last_cong f g frame (suc n) h =
    rw (h (frame + n) (omega arith) (omega arith), last_cong f g frame n (λ c k l. h c k (omega arith)))

pub frames_cong : (f g : ℕ → ℕ) (first n : ℕ) → ((c : ℕ) → first ≤ c → c < first + n → f c ≡ g c) → over_frames f first n ≡ over_frames g first n
unfolding over_frames
frames_cong f g first n h =
    let named : (c : ℕ) → first ≤ c → c < first + n → ltb 0 (f c) ≡ ltb 0 (g c) = λ c k l. ap (ltb 0) (h c k l) in
    rw (
      sum_cong n (λ c. f (first + c)) (λ c. g (first + c)) (λ c l. h (first + c) (omega arith) (omega arith)),
      first_cong (λ c. ltb 0 (f c)) (λ c. ltb 0 (g c)) first n named,
      last_cong (λ c. ltb 0 (f c)) (λ c. ltb 0 (g c)) first n named,
    )

-- ---- frames and later ones
sum_split : (f : ℕ → ℕ) (first a b : ℕ) → sum (a + b) (λ c. f (first + c)) ≡ sum a (λ c. f (first + c)) + sum b (λ c. f (first + a + c))
unfolding sum
sum_split f first a zero = let e : a + 0 ≡ a = omega arith in rw e (omega arith)
sum_split f first a (suc b) =
    let e : a + suc b ≡ suc (a + b) = omega arith in
    let p : first + (a + b) ≡ first + a + b = omega arith in
    rw (e, p) (omega (arith, sum_split f first a b))

-- a sum above 0 has a place above 0
some_place : (n : ℕ) (f : ℕ → ℕ) → 0 < sum n f → (i : ℕ) × (i < n) × (0 < f i)
unfolding sum
some_place zero f h = absurd (omega arith)
some_place (suc n) f h = go (dec_lt 0 (f n)) (some_place n f)
  where
    go : Dec (0 < f n) → (0 < sum n f → (i : ℕ) × (i < n) × (0 < f i)) → (i : ℕ) × (i < suc n) × (0 < f i)
    go (yes k) ih = (n, omega arith, k)
    go (no k) ih = let w = ih (omega arith) in (w.0, omega (arith, w.1), w.2)

module _ (counts : ℕ → ℕ) where
  abbrev named : ℕ → Bool
  named c = ltb 0 (counts c)

  abbrev summed : ℕ → ℕ → ℕ
  summed first n = sum n (λ c. counts (first + c))

  -- no black voxel: no frame is named
  none_named : (first n c : ℕ) → summed first n ≡ 0 → first ≤ c → c < first + n → named c ≡ false
  none_named first n c z k l =
      let e : first + (c - first) ≡ c = omega arith in
      let part = rw e at (sum_part n (λ c. counts (first + c)) (c - first) (omega arith)) in
      le-ltb 0 (counts c) (omega arith)

  off : (e : ℕ) → named e ≡ true → named e ≡ false → ⊥
  off e p q = let z : ◌≡◌ {A = ℕ} 0 1 = cc in omega arith

  -- the first frame that is named is one alone, and so is the last
  unique_first : {f n c g m d : ℕ} → IsFirst named f n c → IsFirst named g m d → g ≤ c → f ≤ d → c ≡ d
  unique_first {f} {n} {c} {g} {m} {d} x y h k = go (dec_lt c d) (dec_lt d c)
    where
      go : Dec (c < d) → Dec (d < c) → c ≡ d
      go (yes l) e = absurd (off c x.names (y.none c h l))
      go (no l) (yes e) = absurd (off d y.names (x.none d k e))
      go (no l) (no e) = omega arith

  unique_last : {f n c g m d : ℕ} → IsLast named f n c → IsLast named g m d → c < g + m → d < f + n → c ≡ d
  unique_last {f} {n} {c} {g} {m} {d} x y h k = go (dec_lt c d) (dec_lt d c)
    where
      go : Dec (c < d) → Dec (d < c) → c ≡ d
      go (yes l) e = absurd (off d y.names (x.none d l k))
      go (no l) (yes e) = absurd (off c x.names (y.none c e h))
      go (no l) (no e) = omega arith

  -- a black voxel: some frame is named
  pub some_named : (first n : ℕ) → 0 < summed first n → Names named first n
  some_named first n h =
      let w = some_place n (λ c. counts (first + c)) h in
      record { which = first + w.0; from = omega arith; below = omega (arith, w.1); names = lt-ltb 0 (counts (first + w.0)) w.2 }

  module _ (first a b : ℕ) where
    abbrev Joint : Type 0
    Joint = joined (over_frames counts first a) (over_frames counts (first + a) b) ≡ over_frames counts first (a + b)

    clear : (f n : ℕ) → summed f n ≡ 0 → over_frames counts f n ≡ Clear
    unfolding over_frames
    clear f n z = rw (le-ltb 0 (summed f n) (omega arith))

    hit : (f n : ℕ) → 0 < summed f n →
        over_frames counts f n ≡ Hit (record { first = first_frame named f n; last = last_frame named f n; voxels = summed f n })
    unfolding over_frames
    hit f n h = rw (lt-ltb 0 (summed f n) h)

    all : summed first (a + b) ≡ summed first a + summed (first + a) b
    all = sum_split counts first a b

    contact_is : {x y z p q r : ℕ} → x ≡ p → y ≡ q → z ≡ r →
        ◌≡◌ {A = Contact} (record { first = x; last = y; voxels = z }) (record { first = p; last = q; voxels = r })
    contact_is e f g = λ i. record { first = e i; last = f i; voxels = g i }

    module _ (h : 0 < summed first (a + b)) where
      whole_first : IsFirst named first (a + b) (first_frame named first (a + b))
      whole_first = first_is named first (a + b) (some_named first (a + b) h)

      whole_last : IsLast named first (a + b) (last_frame named first (a + b))
      whole_last = last_is named first (a + b) (some_named first (a + b) h)

      first_earlier : 0 < summed first a → first_frame named first a ≡ first_frame named first (a + b)
      first_earlier k =
          let v = first_is named first a (some_named first a k) in
          unique_first v whole_first v.from whole_first.from

      last_later : 0 < summed (first + a) b → last_frame named (first + a) b ≡ last_frame named first (a + b)
      last_later k =
          let v = last_is named (first + a) b (some_named (first + a) b k) in
          unique_last v whole_last (omega (arith, v.below)) (omega (arith, whole_last.below))

      first_later : summed first a ≡ 0 → 0 < summed (first + a) b → first_frame named (first + a) b ≡ first_frame named first (a + b)
      first_later z k =
          let v = first_is named (first + a) b (some_named (first + a) b k) in
          let w = whole_first in
          let c = first_frame named first (a + b) in
          unique_first v w (omega (arith, v.from)) (go c w.from w.names (dec_lt c (first + a)))
        where
          go : (c : ℕ) → first ≤ c → named c ≡ true → Dec (c < first + a) → first + a ≤ c
          go c f n (yes l) = absurd (off c n (none_named first a c z f l))
          go c f n (no l) = omega arith

      last_earlier : 0 < summed first a → summed (first + a) b ≡ 0 → last_frame named first a ≡ last_frame named first (a + b)
      last_earlier k z =
          let v = last_is named first a (some_named first a k) in
          let w = whole_last in
          let c = last_frame named first (a + b) in
          unique_last v w (omega (arith, v.below)) (go c w.below w.names (dec_lt c (first + a)))
        where
          go : (c : ℕ) → c < first + (a + b) → named c ≡ true → Dec (c < first + a) → c < first + a
          go c f n (yes l) = l
          go c f n (no l) = absurd (off c n (none_named (first + a) b c z (omega arith) (omega arith)))

    -- THEOREM: the verdicts of frames and of the frames after them, joined, are the verdict of all
    pub frames_join : joined (over_frames counts first a) (over_frames counts (first + a) b) ≡ over_frames counts first (a + b)
    unfolding joined
    frames_join = go (dec_lt 0 (summed first a)) (dec_lt 0 (summed (first + a) b))
      where
        go : Dec (0 < summed first a) → Dec (0 < summed (first + a) b) → Joint
        go (no x) (no y) =
            let p : summed first a ≡ 0 = omega arith in
            let q : summed (first + a) b ≡ 0 = omega arith in
            rw (clear first a p, clear (first + a) b q, clear first (a + b) (omega (arith, all)))
        go (no x) (yes y) =
            let p : summed first a ≡ 0 = omega arith in
            let h : 0 < summed first (a + b) = omega (arith, all) in
            rw (clear first a p, hit (first + a) b y, hit first (a + b) h) (ap Hit (contact_is (first_later h p y) (last_later h y) (omega (arith, all))))
        go (yes x) (no y) =
            let q : summed (first + a) b ≡ 0 = omega arith in
            let h : 0 < summed first (a + b) = omega (arith, all) in
            rw (hit first a x, clear (first + a) b q, hit first (a + b) h) (ap Hit (contact_is (first_earlier h x) (last_earlier h x q) (omega (arith, all))))
        go (yes x) (yes y) =
            let h : 0 < summed first (a + b) = omega (arith, all) in
            rw (hit first a x, hit (first + a) b y, hit first (a + b) h) (ap Hit (contact_is (first_earlier h x) (last_later h y) (sym all)))

-- the voxels that a verdict tells are those of its frames
pub frames_told : (counts : ℕ → ℕ) (first n : ℕ) → voxels_told (over_frames counts first n) ≡ sum n (λ c. counts (first + c))
unfolding over_frames
frames_told counts first n = go (dec_lt 0 (sum n (λ c. counts (first + c))))
  where
    go : Dec (0 < sum n (λ c. counts (first + c))) → voxels_told (over_frames counts first n) ≡ sum n (λ c. counts (first + c))
    go (yes h) = rw (lt-ltb 0 (sum n (λ c. counts (first + c))) h)
    go (no h) = rw (le-ltb 0 (sum n (λ c. counts (first + c))) (omega arith)) (omega arith)

-- no frame at all
pub no_frames : (counts : ℕ → ℕ) (first : ℕ) → over_frames counts first 0 ≡ Clear
unfolding over_frames sum
no_frames counts first = refl
