-- One array of places suffices for every universe and every axis: of all axes, bits and frame bits that are accepted the slots are counted, by computation.
use mathlib.Core.Path.{◌≡◌, refl, sym, ap, ◌∙◌}
use mathlib.Core.Bool.{true}
use mathlib.Core.List.{◌∷◌}
use Prim.Native.Nat.{ℕ, zero, suc, ◌-◌, ◌≤◌, ◌<◌}
use native.Mathlib.Omega.{arith}
use lib.Dec.{leb}
use lib.ListN.{get_or, drop, drop_of_length-le}
use lib.Seq.{drop-cons}
use borrow.Author.Tests.{leb-true}
use Rattle.lemmas.specs.Sums.{every}
use Rattle.lemmas.proofs.Sums.{every_all}
use Rattle.universe.specs.declared.Universe.{Universe}
use Rattle.universe.specs.Rounds.{round, rounds}
use Rattle.universe.specs.Universe.{most_axes, most_bits, most_frame_bits, universe_refusal, bits_along, levels, order, axis_at}
use Rattle.universe.specs.Questions.{axes_left}
use Rattle.universe.proofs.Orders.{rounds_alike}
use Rattle.universe.proofs.Universes.{accepted, most_bits_lem, bits_few, bits_within, order_length}
use Rattle.universe.proofs.Questions.{axes_left_at}
use Rattle.sweep.specs.Places.{most_places, order_left, slots_for}

-- the slots of a universe, its order laid in as many rounds as an axis may have bits
abbrev slots_of : ℕ → ℕ → ℕ → ℕ → ℕ
slots_of d k f j = slots_for (rounds (bits_along (record { axes = d; bits = k; frame_bits = f })) d most_frame_bits) j 1

all_suffice : every (suc most_axes) (λ d. every (suc most_bits) (λ k. every (suc most_frame_bits)
    (λ f. every most_axes (λ j. leb (slots_of d k f j) most_places)))) ≡ true
unfolding every slots_for rounds round bits_along
all_suffice = refl

module _ (u : Universe) (fine : universe_refusal u ≡ 0) where
  enough_rounds : order u ≡ rounds (bits_along u) u.axes most_frame_bits
  unfolding order
  enough_rounds = rounds_alike (bits_along u) u.axes (levels u) most_frame_bits (bits_within u) (λ i h. bits_few u (accepted u fine) i)

  -- THEOREM: the slots that one tree over the whole universe takes
  pub suffices : (j : ℕ) → j < u.axes → slots_for (order u) j 1 ≤ most_places
  suffices j h =
      let a = accepted u fine in
      let axes = every_all (suc most_axes) _ all_suffice u.axes (omega (arith, a.few_axes)) in
      let bits = every_all (suc most_bits) _ axes u.bits (omega (arith, a.few_bits, most_bits_lem u.axes)) in
      let frames = every_all (suc most_frame_bits) _ bits u.frame_bits (omega (arith, a.few_frame_bits)) in
      let slots = leb-true _ _ (every_all most_axes _ frames j (omega (arith, a.few_axes))) in
      rw enough_rounds slots

  -- the table by levels left gives the order
  order_rest : (n : ℕ) → n ≤ levels u → order_left (axes_left u) n ≡ drop (levels u - n) (order u)
  unfolding order_left axis_at
  order_rest zero h = sym (drop_of_length-le (order u) {i = levels u - 0} (omega (arith, order_length u)))
  order_rest (suc n) h =
      let l = levels u - suc n in
      let next : suc l ≡ levels u - n = omega arith in
      ap (λ x. x ∷ order_left (axes_left u) n) (axes_left_at u fine n h)
      ∙ ap (λ o. get_or (order u) l 0 ∷ o) (order_rest n (omega arith) ∙ ap (λ m. drop m (order u)) (sym next))
      ∙ sym (drop-cons (order u) l 0 (omega (arith, order_length u)))

  pub order_left_lem : order_left (axes_left u) (levels u) ≡ order u
  order_left_lem = order_rest (levels u) (omega arith) ∙ ap (λ m. drop m (order u)) (let z : levels u - levels u ≡ 0 = omega arith in z)
