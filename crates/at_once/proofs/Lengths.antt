-- The lengths of the halves of blocks, by the levels left: along the axis of a halving they are twice those of the halving before it across that axis. So
-- they are powers of two; those beyond the universe's levels stay 1, which is one too.
use Prim.Native.Nat.{ℕ, zero, suc, ◌+◌, ◌*◌, ◌-◌, ◌^◌, ◌≤◌, ◌<◌, min}
use mathlib.Core.Path.{◌≡◌, refl, sym, ap, ◌∙◌}
use mathlib.Core.List.{List}
use native.Mathlib.Omega.{arith}
use native.Mathlib.Nat.{mod-eq_of_lt}
use native.Mathlib.Decide.{ℕ_discrete}
use lib.Count.{count_trailing_zeros}
use lib.ListN.{length, get_or, set, replicate, length-set}
use lib.Pow.{pow_mono}
use lib.Seq.{get_or-set_same, get_or-set_other}
use Rattle.universe.specs.declared.Universe.{Universe}
use Rattle.universe.specs.Universe.{most_axes, most_levels, longest_side, universe_refusal, levels, bits_along, axis_at, halvings, block_side}
use Rattle.universe.specs.Questions.{axes_left, levels_answer}
use Rattle.universe.proofs.Universes.{Accepted, accepted, levels_few, axis_below, side_few, side_last, side_halved, side_kept}
use Rattle.universe.proofs.Questions.{levels_told, axes_left_at}
use Rattle.convert.specs.Small.{SmallPlace}
use Rattle.pruned.proofs.Doublings.{times_few, power_is}
use Rattle.masks.specs.Steps.{axis_left, side_left}
use Rattle.at_once.specs.Words.{word_levels, doublings_of, Tabled}

side_short : (u : Universe) → Accepted u → (l i : ℕ) → block_side u l i ≤ longest_side
unfolding block_side
side_short u a l i = omega (arith, pow_mono {i = bits_along u i - halvings u l i} {j = bits_along u i} (omega arith), side_few u a i)

-- 1 doubled as often as there are zeros behind its digit
pub side_power : (u : Universe) → Accepted u → (l i : ℕ) {side : ℕ} → side ≡ block_side u l i → side ≡ 2 ^ doublings_of side
side_power u a l i {side} e =
    let short : side ≤ longest_side = rw e (side_short u a l i) in
    let few : doublings_of side ≡ count_trailing_zeros 64 side = mod-eq_of_lt (times_few u l i e short refl) in
    sym (ap (λ (k : ℕ). 2 ^ k) few ∙ power_is u l i e short refl)

-- the lengths so far, and those of a block with so many levels left along every axis
pub record SoFar (u : Universe) (table lengths side : List ℕ) (stop left : ℕ) : Type 0 where
  pub accepted : universe_refusal u ≡ 0
  pub table_is : table ≡ axes_left u
  pub stop_is : stop ≡ min (levels u) word_levels
  pub reached : left ≤ stop
  pub places : length lengths ≡ word_levels
  pub sides : length side ≡ most_axes
  pub done : (j : ℕ) → j < left → get_or lengths j 0 ≡ side_left u j
  pub along : (i : ℕ) → i < u.axes → get_or side i 0 ≡ block_side u (levels u - left) i
  pub short : (j : ℕ) → SmallPlace (get_or lengths j 0)
  pub power : (j : ℕ) → j < word_levels → get_or lengths j 0 ≡ 2 ^ doublings_of (get_or lengths j 0)

ones_everywhere : (n i : ℕ) → i < n → ◌≡◌ {A = ℕ} (get_or (replicate n 1) i 0) 1
ones_everywhere zero i h = absurd (omega arith)
ones_everywhere (suc n) zero h = refl
ones_everywhere (suc n) (suc i) h = ones_everywhere n i (omega arith)

ones_few : (n i : ℕ) → get_or (replicate n 1) i 0 ≤ 1
ones_few zero i = omega arith
ones_few (suc n) zero = omega arith
ones_few (suc n) (suc i) = ones_few n i

one_power : ◌≡◌ {A = ℕ} 1 (2 ^ doublings_of 1)
unfolding count_trailing_zeros
one_power = refl

-- what the code asks of a place on the way
pub record InPlace (table lengths side : List ℕ) (left : ℕ) : Type 0 where
  pub in_table : left < most_levels
  pub in_word : left < word_levels
  pub on_axis : get_or table left 0 < most_axes
  pub doubled : 2 * get_or side (get_or table left 0) 0 < 2 ^ 64
  pub places : length lengths ≡ word_levels
  pub sides : length side ≡ most_axes

pub lengths_begin : (u : Universe) {table : List ℕ} {stop told : ℕ} → universe_refusal u ≡ 0 → table ≡ axes_left u → told ≡ levels_answer u →
    stop ≡ min told word_levels → SoFar u table (replicate word_levels 1) (replicate most_axes 1) stop 0
lengths_begin u e t l s =
    let a = accepted u e in
    record {
      accepted = e;
      table_is = t;
      stop_is = s ∙ ap (λ (n : ℕ). min n word_levels) (levels_told u refl e l);
      reached = omega arith;
      places = refl;
      sides = refl;
      done = λ j h. absurd (omega arith);
      along = λ i h. let z : levels u - 0 ≡ levels u = omega arith in rw z (ones_everywhere most_axes i (omega (arith, a.few_axes)) ∙ sym (side_last u i h));
      short = λ j. record { most = omega (arith, ones_few word_levels j) };
      power = λ j h. rw (ones_everywhere word_levels j h) one_power;
    }

module _ {u : Universe} {table lengths side : List ℕ} {stop left : ℕ} (s : SoFar u table lengths side stop left) where
  abbrev a : Accepted u
  a = accepted u s.accepted

  pub lengths_end : stop ≤ left → Tabled u table lengths
  lengths_end h =
      record {
        axis_at_lem = s.table_is;
        length_at = λ j few here. s.done j (omega (arith, s.stop_is, s.reached));
        short = s.short;
        power = s.power;
      }

  module _ (h : left < stop) where
    abbrev axis : ℕ
    axis = get_or table left 0

    abbrev level : ℕ
    level = levels u - suc left

    inside : suc left ≤ levels u
    inside = omega (arith, s.stop_is)

    level_next : suc level ≡ levels u - left
    level_next = omega (arith, inside)

    axis_is : axis ≡ axis_at u level
    axis_is = ap (λ (t : List ℕ). get_or t left 0) s.table_is ∙ axes_left_at u s.accepted left inside

    axis_in : axis < u.axes
    axis_in = rw axis_is (axis_below u a.some_axes level)

    place_fits : left < most_levels
    place_fits = omega (arith, inside, levels_few u a)

    word_place : left < word_levels
    word_place = omega (arith, s.stop_is)

    axis_fits : axis < most_axes
    axis_fits = omega (arith, axis_in, a.few_axes)

    length_is : get_or side axis 0 ≡ side_left u left
    length_is = s.along axis axis_in ∙ ap (block_side u (levels u - left)) axis_is

    length_fits : 2 * get_or side axis 0 < 2 ^ 64
    length_fits = omega (arith, length_is, side_short u a (levels u - left) (axis_left u left))

    pub in_place : InPlace table lengths side left
    in_place =
        record {
          in_table = place_fits;
          in_word = word_place;
          on_axis = axis_fits;
          doubled = length_fits;
          places = s.places;
          sides = s.sides;
        }

    done_next : (j : ℕ) → j < left + 1 → Dec (j ≡ left) → get_or (set lengths left (get_or side axis 0)) j 0 ≡ side_left u j
    done_next j k (yes e) = rw e (get_or-set_same lengths left (get_or side axis 0) 0 (omega (arith, s.places, word_place)) ∙ length_is)
    done_next j k (no d) = get_or-set_other lengths left j (get_or side axis 0) 0 d ∙ s.done j (omega arith)

    short_next : (j : ℕ) → Dec (j ≡ left) → SmallPlace (get_or (set lengths left (get_or side axis 0)) j 0)
    short_next j (yes e) =
        record {
          most = rw (e, get_or-set_same lengths left (get_or side axis 0) 0 (omega (arith, s.places, word_place)), length_is)
              (side_short u a (levels u - left) (axis_left u left));
        }
    short_next j (no d) = rw (get_or-set_other lengths left j (get_or side axis 0) 0 d) (s.short j)

    power_next : (j : ℕ) → j < word_levels → Dec (j ≡ left) →
        get_or (set lengths left (get_or side axis 0)) j 0 ≡ 2 ^ doublings_of (get_or (set lengths left (get_or side axis 0)) j 0)
    power_next j k (yes e) =
        rw (e, get_or-set_same lengths left (get_or side axis 0) 0 (omega (arith, s.places, word_place)))
        (side_power u a (levels u - left) (axis_left u left) length_is)
    power_next j k (no d) = rw (get_or-set_other lengths left j (get_or side axis 0) 0 d) (s.power j k)

    along_next : (i : ℕ) → i < u.axes → Dec (i ≡ axis) → get_or (set side axis (2 * get_or side axis 0)) i 0 ≡ block_side u level i
    along_next i k (yes e) =
        rw e
        (get_or-set_same side axis (2 * get_or side axis 0) 0 (omega (arith, s.sides, axis_fits))
        ∙ omega (
          arith,
          length_is,
          ap (block_side u level) axis_is,
          side_halved u a.some_axes level (omega (arith, inside)),
          ap (λ (n : ℕ). block_side u n (axis_at u level)) level_next,
        ))
    along_next i k (no d) =
        get_or-set_other side axis i (2 * get_or side axis 0) 0 d
        ∙ s.along i k
        ∙ ap (λ (n : ℕ). block_side u n i) (sym level_next)
        ∙ side_kept u level i (λ e. d (sym (axis_is ∙ e)))

    pub lengths_step : SoFar u table (set lengths left (get_or side axis 0)) (set side axis (2 * get_or side axis 0)) stop (left + 1)
    lengths_step =
        let e : levels u - (left + 1) ≡ level = omega arith in
        record {
          accepted = s.accepted;
          table_is = s.table_is;
          stop_is = s.stop_is;
          reached = omega arith;
          places = length-set lengths left (get_or side axis 0) ∙ s.places;
          sides = length-set side axis (2 * get_or side axis 0) ∙ s.sides;
          done = λ j k. done_next j k (ℕ_discrete j left);
          along = λ i k. rw e (along_next i k (ℕ_discrete i axis));
          short = λ j. short_next j (ℕ_discrete j left);
          power = λ j k. power_next j k (ℕ_discrete j left);
        }
