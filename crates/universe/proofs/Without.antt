-- A universe with axis j left out: its axes have the bits that they had, so its order is that of the whole with j left out. Level l of the whole is then
-- its level l less the halvings of j before l.
use mathlib.Core.Path.{◌≡◌, sym, ap, ◌∙◌}
use mathlib.Core.Bool.{cond}
use Prim.Native.Nat.{ℕ, suc, ◌+◌, ◌-◌, ◌≤◌, ◌<◌}
use native.Mathlib.Omega.{arith}
use native.Mathlib.Nat.{le_refl}
use native.Mathlib.Decide.{ℕ_discrete, dec_lt}
use lib.Dec.{leb}
use lib.ListN.{length, take}
use lib.Seq.{take_all}
use borrow.Author.Tests.{ne_eqb, lt-ltb, le-ltb, le-leb, lt-leb}
use Rattle.lemmas.specs.Lists.{occurrences}
use Rattle.universe.specs.declared.Universe.{Universe}
use Rattle.universe.specs.Rounds.{rounds, without, axis_before, axis_after}
use Rattle.universe.specs.Universe.{most_bits, most_bits_of, universe_refusal, frame_axis, bits_along, levels, order, axis_at, halvings, without_axis}
use Rattle.universe.proofs.Orders.{rounds_cong, rounds_alike}
use Rattle.universe.proofs.Leaving.{rounds_without, without_often, without_length, place_after, place_within, without_take, without_at}
use Rattle.universe.proofs.Universes.{accepted, is_accepted, most_bits_lem, frame_bits_lem, space_bits, bits_few, bits_within}
use Rattle.universe.proofs.Universes.{order_length, halvings_often, halvings_all}

module _ (u : Universe) (j : ℕ) (some : 2 ≤ u.axes) (there : j < u.axes) where
  pub without_accepted : universe_refusal u ≡ 0 → universe_refusal (without_axis u j) ≡ 0
  unfolding without_axis
  without_accepted e =
      let a = accepted u e in
      is_accepted (without_axis u j)
      (record {
        some_axes = omega arith;
        few_axes = omega (arith, a.few_axes);
        few_bits = few (dec_lt 2 u.axes);
        few_frame_bits = bits_few u a (axis_before j (u.axes - 2));
      })
    where
      few : Dec (2 < u.axes) → cond (leb u.axes 2) 0 u.bits ≤ most_bits_of (u.axes - 1)
      few (yes h) =
          let bits : u.bits ≤ most_bits = omega (arith, (accepted u e).few_bits, most_bits_lem u.axes) in
          rw (lt-leb u.axes 2 h, ne_eqb (u.axes - 1) 1 (λ z. omega arith)) bits
      few (no n) = rw (le-leb u.axes 2 (omega arith)) (omega arith)

  -- the axis that is i then is one of the axes, and no frame axis where i is none
  before_below : (i n : ℕ) → i < n → axis_before j i < suc n
  before_below i n h = go (dec_lt i j)
    where
      go : Dec (i < j) → axis_before j i < suc n
      go (yes l) = rw (lt-ltb i j l) (omega arith)
      go (no l) = rw (le-ltb i j (omega arith)) (omega arith)

  -- the bits of the axes that are left
  pub bits_without : (i : ℕ) → i < u.axes - 1 → bits_along (without_axis u j) i ≡ bits_along u (axis_before j i)
  unfolding without_axis
  bits_without i h = go (ℕ_discrete i (u.axes - 2))
    where
      go : Dec (i ≡ u.axes - 2) → bits_along (without_axis u j) i ≡ bits_along u (axis_before j i)
      go (yes e) =
          let last : u.axes - 2 ≡ frame_axis (without_axis u j) = omega arith in
          ap (bits_along (without_axis u j)) (e ∙ last) ∙ frame_bits_lem (without_axis u j) ∙ ap (λ n. bits_along u (axis_before j n)) (sym e)
      go (no n) =
          space_bits (without_axis u j) i (omega arith)
          ∙ rw (lt-leb u.axes 2 (omega arith)) (sym (space_bits u (axis_before j i) (omega (arith, before_below i (u.axes - 2) (omega arith)))))

  few_left : (i : ℕ) → i < u.axes - 1 → bits_along (without_axis u j) i ≤ levels u
  few_left i h = rw (bits_without i h) (bits_within u (axis_before j i) (omega (arith, before_below i (u.axes - 1) h)))

  pub order_without : without j (order u) ≡ order (without_axis u j)
  unfolding order without_axis
  order_without =
      let d : u.axes ≡ suc (u.axes - 1) = omega arith in
      let w = without_axis u j in
      ap (λ n. without j (rounds (bits_along u) n (levels u))) d
      ∙ rounds_without (bits_along u) j (u.axes - 1) (levels u) (omega arith)
      ∙ sym (rounds_cong (bits_along w) (λ i. bits_along u (axis_before j i)) (u.axes - 1) (levels u) bits_without)
      ∙ rounds_alike (bits_along w) (u.axes - 1) (levels u) (levels w) few_left (bits_within w)

  -- ---- by levels

  -- the level that level l of the whole becomes
  abbrev pub level_after : ℕ → ℕ
  level_after l = l - halvings u l j

  in_order : (l : ℕ) → l ≤ levels u → level_after l ≡ place_after j (order u) l
  in_order l h = ap (λ n. l - n) (halvings_often u l j h)

  pub level_within : (l : ℕ) → l ≤ levels u → level_after l ≤ levels (without_axis u j)
  level_within l h =
      let fits = place_within j (order u) l (omega (arith, order_length u)) in
      omega (arith, in_order l h, fits, ap length order_without, order_length (without_axis u j))

  pub axis_without : (l : ℕ) → l < levels u → (axis_at u l ≡ j → ⊥) → axis_at (without_axis u j) (level_after l) ≡ axis_after j (axis_at u l)
  unfolding axis_at
  axis_without l h n = rw (← order_without, in_order l (omega arith)) (without_at j (order u) l (omega (arith, order_length u)) n)

  pub halvings_without : (l i : ℕ) → l ≤ levels u → halvings (without_axis u j) (level_after l) i ≡ halvings u l (axis_before j i)
  halvings_without l i h =
      halvings_often (without_axis u j) (level_after l) i (level_within l h)
      ∙ ap (λ n. occurrences i (take n (order (without_axis u j)))) (in_order l h)
      ∙ ap (λ s. occurrences i (take (place_after j (order u) l) s)) (sym order_without)
      ∙ ap (occurrences i) (without_take j (order u) l (omega (arith, order_length u)))
      ∙ without_often j i (take l (order u))
      ∙ sym (halvings_often u l (axis_before j i) h)

  pub levels_without : levels (without_axis u j) + bits_along u j ≡ levels u
  levels_without =
      let all = ap (occurrences j) (take_all (levels u) (order u) (omega (arith, order_length u))) in
      let left_out = sym (halvings_often u (levels u) j (le_refl (levels u))) ∙ halvings_all u j there in
      let left = ap length order_without ∙ order_length (without_axis u j) in
      omega (arith, without_length j (order u), order_length u, all, left_out, left)
