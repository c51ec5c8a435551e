-- The end of a mask is the frame of one of its digits, and as good as that of every other. Where the halving goes across the frame axis all frames of the low
-- digits come before those of the high digits; elsewhere the high digits have the low digits' frames, so both halves may be laid over each other.
use mathlib.Core.Path.{◌≡◌, refl, sym, ap, ap₂, ◌∙◌, subst}
use mathlib.Core.Bool.{Bool, true, false, cond, not, ◌||◌}
use mathlib.Core.Logic.{◌⊎◌, inl, inr}
use Prim.Native.Nat.{ℕ, zero, suc, ◌+◌, ◌-◌, ◌*◌, ◌/◌, ◌%◌, ◌^◌, ◌≤◌, ◌<◌}
use native.Mathlib.Omega.{arith}
use native.Mathlib.Nat.{zero-add, mod-lt}
use native.Mathlib.Decide.{ℕ_discrete, dec_lt}
use lib.Dec.{eqb}
use lib.Pow.{pow_pos, split, shr_lt}
use lib.Bits.{bit_or, or_lt, or_add_and, and_le_l, and_le_r}
use borrow.Author.Tests.{eq-eqb, ne_eqb, eqb-true, eqb-false}
use Rattle.lemmas.specs.Sums.{sum}
use Rattle.universe.specs.declared.Universe.{Universe}
use Rattle.universe.specs.declared.Block.{Block}
use Rattle.universe.specs.Universe.{levels, frame_axis}
use Rattle.universe.specs.Block.{low_along}
use Rattle.universe.proofs.Blocks.{given_placed}
use Rattle.demands.specs.Voxels.{Colouring}
use Rattle.demands.specs.Verdicts.{frame_of}
use Rattle.masks.specs.Mask.{has_digit}
use Rattle.masks.specs.Block.{voxel_at, is_black_at, block_mask}
use Rattle.masks.specs.Steps.{axis_left, side_left, step_along, steps_along}
use Rattle.masks.specs.Ends.{better, AsGood, no_later, no_earlier, end_in}
use Rattle.masks.specs.MaskEnds.{mask_end}
use Rattle.masks.proofs.Digits.{has_or, has_zero, has_one, has_lowest, has_shifted}
use Rattle.masks.proofs.Block.{Left, two_powers, mask_digit, mask_fits}
use Rattle.masks.proofs.Steps.{steps_low, steps_high, step_across, step_none, steps_few}
use Rattle.masks.proofs.Windows.{frame_at_lem}
use Rattle.masks.proofs.Ends.{good_self, good_then, better_first, better_second, better_one, Attains, Best, end_is, end_stays, not_both}

-- ---- the halves of a mask

module _ (n m : ℕ) (l : m < 2 ^ 2 ^ suc n) where
  abbrev lower : ℕ
  lower = m % 2 ^ 2 ^ n

  abbrev upper : ℕ
  upper = m / 2 ^ 2 ^ n

  lower_fits : lower < 2 ^ 2 ^ n
  lower_fits = mod-lt m (pow_pos (2 ^ n))

  upper_fits : upper < 2 ^ 2 ^ n
  upper_fits = shr_lt (2 ^ n) (2 ^ n) (subst (λ (x : ℕ). m < 2 ^ x) (two_powers n) l)

  not_none : (m ≡ 0 → ⊥) → lower ≡ 0 → upper ≡ 0 → ⊥
  not_none h a b = h (sym (split m (2 ^ n)) ∙ ap₂ (λ (x y : ℕ). x * 2 ^ 2 ^ n + y) b a ∙ omega arith)

  -- a digit of the mask is one of its lower or of its upper half
  data InHalf (i : ℕ) : Type 0 where
    in_lower : i < 2 ^ n → has_digit lower i ≡ true → InHalf i
    in_upper : (j : ℕ) → j < 2 ^ n → i ≡ 2 ^ n + j → has_digit upper j ≡ true → InHalf i

  half_of : (i : ℕ) → i < 2 ^ suc n → has_digit m i ≡ true → InHalf i
  half_of i h e = go (dec_lt i (2 ^ n))
    where
      go : Dec (i < 2 ^ n) → InHalf i
      go (yes k) = in_lower k (has_lowest m (2 ^ n) i k ∙ e)
      go (no k) =
          let q : i ≡ 2 ^ n + (i - 2 ^ n) = omega arith in
          in_upper (i - 2 ^ n) (omega (arith, two_powers n)) q (has_shifted m (2 ^ n) (i - 2 ^ n) ∙ ap (has_digit m) (sym q) ∙ e)

  of_lower : (i : ℕ) → i < 2 ^ n → has_digit lower i ≡ true → has_digit m i ≡ true
  of_lower i k e = sym (has_lowest m (2 ^ n) i k) ∙ e

  of_upper : (i : ℕ) → has_digit upper i ≡ true → has_digit m (2 ^ n + i) ≡ true
  of_upper i e = sym (has_shifted m (2 ^ n) i) ∙ e

-- ---- what the end of a mask is

pub record IsEnd (last : Bool) (u : Universe) (n m e : ℕ) : Type 0 where
  pub attained : Attains (has_digit m) (steps_along u (frame_axis u) n) (2 ^ n) e
  pub as_others : (i : ℕ) → i < 2 ^ n → has_digit m i ≡ true → AsGood e (steps_along u (frame_axis u) n i) last

-- which half the end is looked for in
data Chosen (lo hi : ℕ) : Bool → Bool → Type 0 where
  first_low : (lo ≡ 0 → ⊥) → Chosen lo hi false false
  first_high : lo ≡ 0 → Chosen lo hi false true
  last_low : hi ≡ 0 → Chosen lo hi true false
  last_high : (hi ≡ 0 → ⊥) → Chosen lo hi true true

chosen : (last : Bool) (lo hi : ℕ) → Chosen lo hi last (cond last (not (eqb hi 0)) (eqb lo 0))
chosen true lo hi = go (eqb hi 0) refl
  where
    go : (t : Bool) → eqb hi 0 ≡ t → Chosen lo hi true (not t)
    go true e = last_low (eqb-true hi 0 e)
    go false e = last_high (eqb-false hi 0 e)
chosen false lo hi = go (eqb lo 0) refl
  where
    go : (t : Bool) → eqb lo 0 ≡ t → Chosen lo hi false t
    go true e = first_high (eqb-true lo 0 e)
    go false e = first_low (eqb-false lo 0 e)

no_digit : {m : ℕ} (i : ℕ) → m ≡ 0 → has_digit m i ≡ true → ⊥
no_digit i e h = not_both h (ap (λ (x : ℕ). has_digit x i) e ∙ has_zero i)

good_further : {last : Bool} {x y : ℕ} (k : ℕ) → AsGood x y last → AsGood (k + x) (k + y) last
good_further k (no_later h) = no_later (omega arith)
good_further k (no_earlier h) = no_earlier (omega arith)

or_either : (x y : Bool) → (x || y) ≡ true → (x ≡ true) ⊎ (y ≡ true)
or_either true y e = inl refl
or_either false y e = inr e

or_first : {x : Bool} (y : Bool) → x ≡ true → (x || y) ≡ true
or_first y e = rw e

or_second : (x : Bool) {y : Bool} → y ≡ true → (x || y) ≡ true
or_second true e = refl
or_second false e = e

module _ (u : Universe) (some : 0 < u.axes) (n m : ℕ) (l : m < 2 ^ 2 ^ suc n) (few : suc n ≤ levels u) where
  abbrev lo : ℕ
  lo = m % 2 ^ 2 ^ n

  abbrev hi : ℕ
  hi = m / 2 ^ 2 ^ n

  abbrev steps : ℕ → ℕ → ℕ
  steps = steps_along u (frame_axis u)

  -- another axis: both halves laid over each other
  module _ (k : axis_left u n ≡ frame_axis u → ⊥) where
    same_frames : (i : ℕ) → i < 2 ^ n → steps (suc n) (2 ^ n + i) ≡ steps n i
    same_frames i h = omega (arith, steps_high u (frame_axis u) n i h, step_none u (frame_axis u) n k)

    along : {last : Bool} {e : ℕ} → IsEnd last u n (bit_or lo hi) e → IsEnd last u (suc n) m e
    along {last} {e} x = record {
      attained = names (or_either _ _ (sym (has_or lo hi i) ∙ x.attained.holds));
      as_others = λ j h d. others j (half_of n m l j h d);
    }
      where
        i : ℕ
        i = x.attained.number

        names : (has_digit lo i ≡ true) ⊎ (has_digit hi i ≡ true) → Attains (has_digit m) (steps (suc n)) (2 ^ suc n) e
        names (inl d) = record {
          number = i;
          below = omega (arith, two_powers n, x.attained.below);
          holds = of_lower n m l i x.attained.below d;
          has = x.attained.has ∙ sym (steps_low u (frame_axis u) n i x.attained.below);
        }
        names (inr d) = record {
          number = 2 ^ n + i;
          below = omega (arith, two_powers n, x.attained.below);
          holds = of_upper n m l i d;
          has = x.attained.has ∙ sym (same_frames i x.attained.below);
        }

        others : (j : ℕ) → InHalf n m l j → AsGood e (steps (suc n) j) last
        others j (in_lower h d) =
            subst (λ (f : ℕ). AsGood e f last) (sym (steps_low u (frame_axis u) n j h)) (x.as_others j h (has_or lo hi j ∙ or_first (has_digit hi j) d))
        others j (in_upper p h q d) =
            subst (λ (f : ℕ). AsGood e f last) (sym (ap (steps (suc n)) q ∙ same_frames p h)) (x.as_others p h (has_or lo hi p ∙ or_second (has_digit lo p) d))

  -- the frame axis: the high digits come later
  module _ (a : axis_left u n ≡ frame_axis u) where
    abbrev side : ℕ
    side = step_along u (frame_axis u) n

    short : (i : ℕ) → steps n i < side
    short i = omega (arith, steps_few u (frame_axis u) some n i (omega arith), step_across u (frame_axis u) n a)

    later_frames_lem : (i : ℕ) → i < 2 ^ n → steps (suc n) (2 ^ n + i) ≡ side + steps n i
    later_frames_lem i h = omega (arith, steps_high u (frame_axis u) n i h)

    -- where the high digits are chosen the low ones are none, or have earlier frames; and the other way round
    low_passed : {last : Bool} (e : ℕ) → Chosen lo hi last true → (j : ℕ) → has_digit lo j ≡ true → AsGood (side + e) (steps n j) last
    low_passed e (first_high z) j d = absurd (no_digit j z d)
    low_passed e (last_high k) j d = no_earlier (omega (arith, short j))

    high_passed : {last : Bool} {e : ℕ} → Chosen lo hi last false → e < side → (j : ℕ) → has_digit hi j ≡ true → AsGood e (side + steps n j) last
    high_passed (first_low k) h j d = no_later (omega arith)
    high_passed (last_low z) h j d = absurd (no_digit j z d)

    across_high : {last : Bool} {e : ℕ} → Chosen lo hi last true → IsEnd last u n hi e → IsEnd last u (suc n) m (side + e)
    across_high {last} {e} c x = record {
      attained = record {
        number = 2 ^ n + i;
        below = omega (arith, two_powers n, x.attained.below);
        holds = of_upper n m l i x.attained.holds;
        has = ap (λ (f : ℕ). side + f) x.attained.has ∙ sym (later_frames_lem i x.attained.below);
      };
      as_others = λ j h d. others j (half_of n m l j h d);
    }
      where
        i : ℕ
        i = x.attained.number

        others : (j : ℕ) → InHalf n m l j → AsGood (side + e) (steps (suc n) j) last
        others j (in_lower h d) = subst (λ (f : ℕ). AsGood (side + e) f last) (sym (steps_low u (frame_axis u) n j h)) (low_passed e c j d)
        others j (in_upper p h q d) =
            subst (λ (f : ℕ). AsGood (side + e) f last) (sym (ap (steps (suc n)) q ∙ later_frames_lem p h)) (good_further side (x.as_others p h d))

    across_low : {last : Bool} {e : ℕ} → Chosen lo hi last false → IsEnd last u n lo e → IsEnd last u (suc n) m e
    across_low {last} {e} c x = record {
      attained = record {
        number = i;
        below = omega (arith, two_powers n, x.attained.below);
        holds = of_lower n m l i x.attained.below x.attained.holds;
        has = x.attained.has ∙ sym (steps_low u (frame_axis u) n i x.attained.below);
      };
      as_others = λ j h d. others j (half_of n m l j h d);
    }
      where
        i : ℕ
        i = x.attained.number

        others : (j : ℕ) → InHalf n m l j → AsGood e (steps (suc n) j) last
        others j (in_lower h d) = subst (λ (f : ℕ). AsGood e f last) (sym (steps_low u (frame_axis u) n j h)) (x.as_others j h d)
        others j (in_upper p h q d) =
            subst (λ (f : ℕ). AsGood e f last) (sym (ap (steps (suc n)) q ∙ later_frames_lem p h))
            (high_passed c (omega (arith, short i, x.attained.has)) p d)

    side_is : side ≡ side_left u n
    side_is = rw (eq-eqb (axis_left u n) (frame_axis u) a)

    -- the half that is chosen, which is not 0
    across : {last later : Bool} → (m ≡ 0 → ⊥) → Chosen lo hi last later → (e : ℕ) →
        (((cond later hi lo) ≡ 0 → ⊥) → IsEnd last u n (cond later hi lo) e) → IsEnd last u (suc n) m (cond later (side_left u n) 0 + e)
    across k (first_low c) e x = rw (zero-add e) (across_low (first_low c) (x c))
    across k (last_low c) e x = rw (zero-add e) (across_low (last_low c) (x (λ z. not_none n m l k z c)))
    across k (first_high c) e x = subst (λ (f : ℕ). IsEnd false u (suc n) m (f + e)) side_is (across_high (first_high c) (x (λ z. not_none n m l k c z)))
    across k (last_high c) e x = subst (λ (f : ℕ). IsEnd true u (suc n) m (f + e)) side_is (across_high (last_high c) (x c))

or_none : (a b : ℕ) → bit_or a b ≡ 0 → (a ≡ 0) × (b ≡ 0)
or_none a b e = let h = or_add_and a b in let k = and_le_l a b in let j = and_le_r a b in (omega arith, omega arith)

-- THEOREM: what is read off a mask that is not 0 is its end
pub mask_ends : (last : Bool) (u : Universe) → 0 < u.axes → (n m : ℕ) → m < 2 ^ 2 ^ n → n ≤ levels u → (m ≡ 0 → ⊥) → IsEnd last u n m (mask_end last u n m)
unfolding mask_end steps_along sum
mask_ends last u some zero m l few k =
    let one : m ≡ 1 = omega arith in
    record {
      attained = record { number = 0; below = omega arith; holds = ap (λ (x : ℕ). has_digit x 0) one ∙ has_one; has = refl };
      as_others = λ i h d. good_self last 0;
    }
mask_ends last u some (suc n) m l few k = go (ℕ_discrete (axis_left u n) (frame_axis u)) (λ x h z. mask_ends last u some n x h (omega arith) z)
  where
    lo : ℕ
    lo = m % 2 ^ 2 ^ n

    hi : ℕ
    hi = m / 2 ^ 2 ^ n

    later : Bool
    later = cond last (not (eqb hi 0)) (eqb lo 0)

    fits : (t : Bool) → cond t hi lo < 2 ^ 2 ^ n
    fits true = upper_fits n m l
    fits false = lower_fits n m l

    go : Dec (axis_left u n ≡ frame_axis u) → ((x : ℕ) → x < 2 ^ 2 ^ n → (x ≡ 0 → ⊥) → IsEnd last u n x (mask_end last u n x)) →
        IsEnd last u (suc n) m (mask_end last u (suc n) m)
    go (yes a) ih =
        rw (eq-eqb (axis_left u n) (frame_axis u) a)
        (across u some n m l few a k (chosen last lo hi) (mask_end last u n (cond later hi lo)) (ih (cond later hi lo) (fits later)))
    go (no a) ih =
        rw (ne_eqb (axis_left u n) (frame_axis u) a)
        (along u some n m l few a (ih (bit_or lo hi) (or_lt (2 ^ n) lo hi (fits false) (fits true))
        (λ e. not_none n m l k (or_none lo hi e).0 (or_none lo hi e).1)))

-- ---- the end of a block, read off its mask

module _ (last : Bool) (colours : Colouring) (n : ℕ) (b : Block) (known : ℕ) (l : Left n b) where
  abbrev mask : ℕ
  mask = block_mask colours n b

  abbrev begins : ℕ
  begins = low_along b (frame_axis b.universe)

  digit_of_lem : (i : ℕ) → i < 2 ^ n → is_black_at colours n b i ≡ true → has_digit mask i ≡ true
  digit_of_lem i h e = mask_digit colours n b i h ∙ e

  -- THEOREM: a block whose mask is 0 makes nothing of what is known
  pub end_none : mask ≡ 0 → end_in last colours n b known ≡ known
  unfolding end_in
  end_none z =
      end_stays last (is_black_at colours n b) (λ i. frame_of b.universe (voxel_at n b i)) known (2 ^ n)
      (λ i h e. absurd (no_digit i z (digit_of_lem i h e)))

  -- THEOREM: and another the better of that and of its first frame and the mask's end
  pub end_mask : (mask ≡ 0 → ⊥) → end_in last colours n b known ≡ better last known (begins + mask_end last b.universe n mask)
  unfolding end_in
  end_mask k = end_is last (is_black_at colours n b) (λ i. frame_of b.universe (voxel_at n b i)) known (2 ^ n) _ best
    where
      e : ℕ
      e = mask_end last b.universe n mask

      ends : IsEnd last b.universe n mask e
      ends = mask_ends last b.universe (given_placed l.given).taken.some_axes n mask (mask_fits colours n b) (omega (arith, l.left)) k

      names : Attains (is_black_at colours n b) (λ i. frame_of b.universe (voxel_at n b i)) (2 ^ n) (begins + e)
      names = record {
        number = ends.attained.number;
        below = ends.attained.below;
        holds = sym (mask_digit colours n b ends.attained.number ends.attained.below) ∙ ends.attained.holds;
        has = ap (λ (f : ℕ). begins + f) ends.attained.has ∙ sym (frame_at_lem n b ends.attained.number l);
      }

      one : (better last known (begins + e) ≡ known) ⊎ (better last known (begins + e) ≡ begins + e) →
          (better last known (begins + e) ≡ known)
          ⊎ Attains (is_black_at colours n b) (λ i. frame_of b.universe (voxel_at n b i)) (2 ^ n) (better last known (begins + e))
      one (inl q) = inl q
      one (inr q) = inr (record { number = names.number; below = names.below; holds = names.holds; has = q ∙ names.has })

      best : Best last (is_black_at colours n b) (λ i. frame_of b.universe (voxel_at n b i)) known (2 ^ n) (better last known (begins + e))
      best = record {
        as_known = better_first last known (begins + e);
        as_others = λ i h d. good_then (better_second last known (begins + e))
            (subst (λ (f : ℕ). AsGood (begins + e) f last) (sym (frame_at_lem n b i l)) (good_further begins (ends.as_others i h (digit_of_lem i h d))));
        is_one = one (better_one last known (begins + e));
      }
