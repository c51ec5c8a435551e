-- The frames of a block by the levels left to it: how many bits they have, and how much later those of a high half begin than its block's; and the laws of the
-- functions of src/window.rt that make tables of both. Each law takes its premises in the form that code leaves them.
use mathlib.Core.Path.{◌≡◌, sym, ap, ◌∙◌}
use mathlib.Core.Bool.{cond}
use mathlib.Core.List.{List}
use Prim.Native.Nat.{ℕ, zero, suc, ◌+◌, ◌-◌, ◌*◌, ◌%◌, ◌^◌, ◌≤◌, ◌<◌}
use native.Mathlib.Nat.{sub_self, sub-zero}
use native.Mathlib.Decide.{ℕ_discrete}
use native.Mathlib.Omega.{arith}
use borrow.Author.Rules.{rules}
use borrow.Author.Tests.{eq-eqb, ne_eqb}
use lib.Dec.{eqb}
use lib.ListN.{length, get_or, set, length-set}
use lib.Pow.{pow_mono}
use lib.Seq.{get_or-set_same, get_or-set_other}
use Rattle.lemmas.proofs.Machine.{shifted_one}
use Rattle.universe.specs.declared.Universe.{Universe}
use Rattle.universe.specs.Questions.{axes_left}
use Rattle.universe.specs.Universe.{universe_refusal, bits_along, levels, most_levels, axis_at, frame_axis, halvings}
use Rattle.universe.proofs.Universes.{accepted, levels_few}
use Rattle.universe.proofs.Universes.{halvings_first, halvings_here, halvings_kept, halvings_mono, halvings_most, halvings_all}
use Rattle.universe.proofs.Questions.{axes_left_at}
use Rattle.bintree.specs.Windows.{frame_bits, later_frames, FrameTable, LaterTable}
use Rattle.bintree.proofs.Answers.{place_fits, place_room}

-- ---- the bits of a block's frames, by the levels left to it: one more for each halving across the frame axis
module _ (u : Universe) (ok : universe_refusal u ≡ 0) where
  frame_axis_lem : frame_axis u < u.axes
  frame_axis_lem = omega (arith, (accepted u ok).some_axes)

  pub bits_last : frame_bits u 0 ≡ 0
  unfolding frame_bits
  bits_last = let e : levels u - 0 ≡ levels u = omega arith in rw e (omega (arith, halvings_all u (frame_axis u) frame_axis_lem))

  module _ (n : ℕ) (h : n < levels u) where
    level : ℕ
    level = levels u - suc n

    next : levels u - n ≡ suc level
    unfolding level
    next = omega arith

    pub bits_across : axis_at u (levels u - suc n) ≡ frame_axis u → frame_bits u (suc n) ≡ frame_bits u n + 1
    unfolding frame_bits level
    bits_across e =
        let here : halvings u (suc level) (frame_axis u) ≡ suc (halvings u level (frame_axis u)) = rw e at (halvings_here u level) in
        rw next (omega (arith, halvings_most u (suc level) (frame_axis u) frame_axis_lem (omega arith)))

    pub bits_along_lem : (axis_at u (levels u - suc n) ≡ frame_axis u → ⊥) → frame_bits u (suc n) ≡ frame_bits u n
    unfolding frame_bits level
    bits_along_lem e = rw (next, halvings_kept u level (frame_axis u) e)

    pub bits_grow : frame_bits u n ≤ frame_bits u (suc n)
    unfolding frame_bits
    bits_grow = omega (arith, halvings_mono u (levels u - suc n) (levels u - n) (frame_axis u) (omega arith))

    bits_once : frame_bits u (suc n) ≤ suc (frame_bits u n)
    bits_once = go (ℕ_discrete (axis_at u (levels u - suc n)) (frame_axis u))
      where
        go : Dec (axis_at u (levels u - suc n) ≡ frame_axis u) → frame_bits u (suc n) ≤ suc (frame_bits u n)
        go (yes e) = omega (arith, bits_across e)
        go (no e) = omega (arith, bits_along_lem e)

  pub bits_left : (n : ℕ) → n ≤ levels u → frame_bits u n ≤ n
  bits_left zero h = omega (arith, bits_last)
  bits_left (suc n) h = omega (arith, bits_left n (omega arith), bits_once n (omega arith))

  pub bits_first : frame_bits u (levels u) ≡ bits_along u (frame_axis u)
  unfolding frame_bits
  bits_first = rw (sub_self (levels u), halvings_first u (frame_axis u), sub-zero (bits_along u (frame_axis u)))

-- the laws of `frame_halvings`
module _ (u : Universe) (i axis : ℕ) (f : axis ≡ frame_axis u) where
  pub once_across : i ≡ axis → ◌≡◌ {A = ℕ} 1 (cond (eqb i (frame_axis u)) 1 0)
  once_across e = rw (eq-eqb i (frame_axis u) (e ∙ f))

  pub never_along : (i ≡ axis → ⊥) → ◌≡◌ {A = ℕ} 0 (cond (eqb i (frame_axis u)) 1 0)
  never_along n = rw (ne_eqb i (frame_axis u) (λ e. n (e ∙ sym f)))

pub ruleset halving_laws = (rules, once_across, never_along)

-- ---- the laws of `frame_bits`: the table is right up to n levels left
pub record Tabled (u : Universe) (table : List ℕ) (n : ℕ) : Type 0 where
  pub few : n ≤ levels u
  pub long : length table ≡ suc most_levels
  pub holds : (m : ℕ) → m ≤ n → get_or table m 0 ≡ frame_bits u m

module _ (u : Universe) (ok : universe_refusal u ≡ 0) where
  pub tabled_first : (table : List ℕ) → length table ≡ suc most_levels → get_or table 0 0 ≡ 0 → Tabled u table 0
  tabled_first table e f =
      record { few = omega arith; long = e; holds = λ m h. let z : m ≡ 0 = omega arith in rw z (f ∙ sym (bits_last u ok)) }

  module _ (table axes : List ℕ) (n count : ℕ) (a : axes ≡ axes_left u) (c : count ≡ levels u) (w : Tabled u table n) where
    module _ (h : n < count) where
      level_there : n < levels u
      level_there = omega arith

      most : n < most_levels
      most = omega (arith, level_there, levels_few u (accepted u ok))

      pub table_place : n < suc most_levels
      table_place = omega (arith, most)

      pub table_next : n + 1 < suc most_levels
      table_next = omega (arith, most)

      pub table_next_room : (n + 1) * 8 < 2 ^ 64
      table_next_room = omega (arith, most)

      module _ (one : ℕ) (o : one ≡ cond (eqb (get_or axes n 0) (frame_axis u)) 1 0) where
        more : get_or table n 0 + one ≡ frame_bits u (suc n)
        more = go (ℕ_discrete (axis_at u (levels u - suc n)) (frame_axis u))
          where
            axis : get_or axes n 0 ≡ axis_at u (levels u - suc n)
            axis = ap (λ l. get_or l n 0) a ∙ axes_left_at u ok n level_there

            go : Dec (axis_at u (levels u - suc n) ≡ frame_axis u) → get_or table n 0 + one ≡ frame_bits u (suc n)
            go (yes e) =
                rw (o, axis, eq-eqb (axis_at u (levels u - suc n)) (frame_axis u) e, w.holds n (omega arith)) (sym (bits_across u ok n level_there e))
            go (no e) =
                rw (o, axis, ne_eqb (axis_at u (levels u - suc n)) (frame_axis u) e, w.holds n (omega arith)) (omega (arith, bits_along_lem u ok n level_there e))

        pub table_fits : get_or table n 0 + one < 2 ^ 64
        table_fits = omega (arith, more, most, bits_left u ok (suc n) level_there)

        pub tabled_next : Tabled u (set table (n + 1) (get_or table n 0 + one)) (n + 1)
        tabled_next =
            record
            { few = omega (arith, level_there); long = length-set table (n + 1) (get_or table n 0 + one) ∙ w.long; holds = λ m k. at m k (ℕ_discrete m (n + 1)) }
          where
            at : (m : ℕ) → m ≤ n + 1 → Dec (m ≡ n + 1) → get_or (set table (n + 1) (get_or table n 0 + one)) m 0 ≡ frame_bits u m
            at m k (yes e) =
                let s : n + 1 ≡ suc n = omega arith in
                rw e (get_or-set_same table (n + 1) (get_or table n 0 + one) 0 (omega (arith, table_next, w.long)) ∙ rw s more)
            at m k (no e) = get_or-set_other table (n + 1) m (get_or table n 0 + one) 0 e ∙ w.holds m (omega arith)

    pub table_whole : count ≤ n → FrameTable u table
    table_whole h = record { long = w.long; holds = λ m k. w.holds m (omega arith) }

pub ruleset table_laws = (rules, place_fits, place_room, tabled_first, table_place, table_next, table_next_room, table_fits, tabled_next, table_whole)

-- ---- the laws of `later_frames`: the table is right below n of so many levels left
pub record Later (bits table : List ℕ) (count n : ℕ) : Type 0 where
  pub few : n ≤ count
  pub long : length table ≡ most_levels
  pub holds : (m : ℕ) → m < n → get_or table m 0 ≡ 2 ^ get_or bits (m + 1) 0 - 2 ^ get_or bits m 0

pub later_first : (bits table : List ℕ) (count : ℕ) → length table ≡ most_levels → Later bits table count 0
later_first bits table count e = record { few = omega arith; long = e; holds = λ m h. absurd (omega arith) }

module _ (u : Universe) (ok : universe_refusal u ≡ 0) (bits table : List ℕ) (t : FrameTable u bits) (n count : ℕ) (c : count ≡ levels u) where
  module _ (h : n < count) where
    below_all : n < levels u
    below_all = omega arith

    wide_is : get_or bits (n + 1) 0 ≡ frame_bits u (suc n)
    wide_is = let s : n + 1 ≡ suc n = omega arith in rw s (t.holds (suc n) below_all)

    narrow_is : get_or bits n 0 ≡ frame_bits u n
    narrow_is = t.holds n (omega (arith, below_all))

    pub later_place : n < suc most_levels
    later_place = omega (arith, place_fits u ok count c n h)

    pub later_next_place : n + 1 < suc most_levels
    later_next_place = omega (arith, place_fits u ok count c n h)

    pub later_next_room : (n + 1) * 8 < 2 ^ 64
    later_next_room = omega (arith, place_fits u ok count c n h)

    pub wide_shift : get_or bits (n + 1) 0 < 64
    wide_shift = omega (arith, wide_is, bits_left u ok (suc n) below_all, place_fits u ok count c n h)

    pub narrow_shift : get_or bits n 0 < 64
    narrow_shift = omega (arith, narrow_is, bits_left u ok n (omega (arith, below_all)), place_fits u ok count c n h)

    pub later_less : (1 * 2 ^ get_or bits n 0) % 2 ^ 64 ≤ (1 * 2 ^ get_or bits (n + 1) 0) % 2 ^ 64
    later_less =
        rw (shifted_one (get_or bits n 0) narrow_shift, shifted_one (get_or bits (n + 1) 0) wide_shift, wide_is, narrow_is) (pow_mono (bits_grow u ok n below_all))

    pub later_next :
        Later bits table count n → Later bits (set table n ((1 * 2 ^ get_or bits (n + 1) 0) % 2 ^ 64 - (1 * 2 ^ get_or bits n 0) % 2 ^ 64)) count (n + 1)
    later_next w =
        rw (shifted_one (get_or bits n 0) narrow_shift, shifted_one (get_or bits (n + 1) 0) wide_shift)
        (record { few = omega arith; long = length-set table n more ∙ w.long; holds = λ m k. at m k (ℕ_discrete m n) })
      where
        more : ℕ
        more = 2 ^ get_or bits (n + 1) 0 - 2 ^ get_or bits n 0

        at : (m : ℕ) → m < n + 1 → Dec (m ≡ n) → get_or (set table n more) m 0 ≡ 2 ^ get_or bits (m + 1) 0 - 2 ^ get_or bits m 0
        at m k (yes e) = rw e (get_or-set_same table n more 0 (omega (arith, place_fits u ok count c n h, w.long)))
        at m k (no e) = get_or-set_other table n m more 0 e ∙ w.holds m (omega arith)

  pub later_whole : Later bits table count n → count ≤ n → LaterTable u table
  later_whole w h = record { long = w.long; holds = at }
    where
      at : (m : ℕ) → m < levels u → get_or table m 0 ≡ later_frames u m
      at m k =
          let s : m + 1 ≡ suc m = omega arith in
          w.holds m (omega arith) ∙ rw (s, t.holds (suc m) k, t.holds m (omega arith))

pub ruleset later_laws =
    (rules, place_fits, place_room, later_first, later_place, later_next_place, later_next_room, wide_shift, narrow_shift, later_less, later_next, later_whole)
