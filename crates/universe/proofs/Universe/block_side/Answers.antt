-- The axis stands among the last n axes as often as it has halvings still to come, and each doubles the length.
use Rattle.std.proofs.Common.{refl, sym, ap, ◌∙◌, rules, arith}
use Rattle.std.proofs.Common.{◌≡◌, ℕ, zero, suc, ◌+◌, ◌-◌, ◌*◌, ◌^◌, ◌%◌, ◌≤◌, ◌<◌, ◌==◌, count_by, List, length, get_or, take}
use native.Mathlib.Decide.{ℕ_discrete}
use native.Mathlib.Nat.{sub-zero}
use native.Mathlib.Numerals.{add-one}
use borrow.Author.Tests.{eq-eqb, ne_eqb}
use lib.ListN.{length-take}
use Rattle.std.proofs.lemmas.List.Sums.{count_by_more_yes, count_by_more_no}
use Rattle.std.proofs.iter.runs.Made.{chains}
use Rattle.lemmas.proofs.Machine.{shifted_one}
use Rattle.universe.specs.declared.Universe.{Universe}
use Rattle.universe.specs.Universe.{universe_refusal, bits_along, levels, axis_at, halvings, block_side}
use Rattle.universe.specs.Questions.{levels_answer, axes_left}
use Rattle.universe.proofs.Universes.{accepted, bits_few, levels_few, halvings_all, halvings_here, halvings_kept}
use Rattle.universe.proofs.Questions.{levels_told, axes_left_at, axes_left_long}
use Rattle.universe.proofs.Universe.block_side.Goals as goal

module _ (u : Universe) (i : ℕ) (taken : universe_refusal u ≡ 0) (here : i < u.axes) where
  often : (n : ℕ) → n ≤ levels u → count_by (λ x. x == i) (take n (axes_left u)) + halvings u (levels u - n) i ≡ bits_along u i
  often zero h = rw sub-zero (omega (arith, halvings_all u i here))
  often (suc n) h =
      let place : n < length (axes_left u) = omega (arith, axes_left_long u, levels_few u (accepted u taken)) in
      let at = axes_left_at u taken n (omega arith) in
      let next : levels u - n ≡ suc (levels u - suc n) = omega arith in
      let before = rw next at (often n (omega arith)) in
      go (ℕ_discrete (axis_at u (levels u - suc n)) i) place at before
    where
      go : Dec (axis_at u (levels u - suc n) ≡ i) → n < length (axes_left u) → get_or (axes_left u) n 0 ≡ axis_at u (levels u - suc n)
          → count_by (λ x. x == i) (take n (axes_left u)) + halvings u (suc (levels u - suc n)) i ≡ bits_along u i
          → count_by (λ x. x == i) (take (suc n) (axes_left u)) + halvings u (levels u - suc n) i ≡ bits_along u i
      go (yes e) h at k =
          let more = count_by_more_yes (λ x. x == i) (axes_left u) n 0 h (eq-eqb _ i (at ∙ e)) in
          omega (arith, k, rw (add-one n) at more, rw e at (halvings_here u (levels u - suc n)))
      go (no e) h at k =
          let more = count_by_more_no (λ x. x == i) (axes_left u) n 0 h (ne_eqb _ i (λ q. e (sym at ∙ q))) in
          omega (arith, k, rw (add-one n) at more, halvings_kept u (levels u - suc n) i e)

  pub halvings_left : {level m n : ℕ} → level ≤ levels u → m ≡ levels_answer u → n ≡ count_by (λ x. x == i) (take (m - level) (axes_left u))
      → 1 * 2 ^ n % 2 ^ 64 ≡ block_side u level i
  unfolding block_side
  halvings_left {level} {m} {n} h e f =
      let all = levels_told u refl taken e in
      let back : levels u - (levels u - level) ≡ level = omega arith in
      let left = rw back at (often (levels u - level) (omega arith)) in
      let last : n ≡ bits_along u i - halvings u level i = omega (arith, f, rw all at f, left) in
      shifted_one n (omega (arith, last, bits_few u (accepted u taken) i)) ∙ ap (λ x. 2 ^ x) last

pub overflow_sub-left : goal.overflow_sub-left
overflow_sub-left c = omega (arith, levels_told _ refl c.requires.self_value c.levels.ensures)

within : (u : Universe) (level : ℕ) → universe_refusal u ≡ 0 → {m : ℕ} → m ≡ levels_answer u → {axes : List ℕ} → axes ≡ axes_left u → m - level ≤ length axes
within u level z e f = omega (arith, levels_told u refl z e, levels_few u (accepted u z), ap length f, axes_left_long u)

pub slice_bounds-axes-end : goal.slice_bounds-axes-end
slice_bounds-axes-end c = within _ _ c.requires.self_value c.levels.ensures c.axes_left-axes.ensures

pub slice_bounds-iter-end : goal.slice_bounds-iter-end
slice_bounds-iter-end c =
    let w = within _ c.args.level c.requires.self_value c.levels.ensures c.axes_left-axes.ensures in
    omega (arith, length-take (c.levels.result - c.args.level) c.axes_left-axes.result)

pub returns : goal.returns
returns c =
    let left : ℕ = c.levels.result - c.args.level in
    let k : c.count-halvings.result ≡ count_by (λ x. x == c.args.axis) (take left c.axes_left-axes.result) = search (rules, chains) in
    halvings_left _ _ c.requires.self_value c.requires.axis_lt_axes c.requires.level_bound c.levels.ensures (rw c.axes_left-axes.ensures at k)
