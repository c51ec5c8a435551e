-- A number that is none of those that checks give is never their first refusal: how it is shown that a call never gives a number.
use Prim.Native.Nat.{ℕ, ◌%◌, ◌<◌}
use mathlib.Core.Path.{◌≡◌}
use mathlib.Core.Bool.{Bool, true, false, cond, ◌&&◌}
use mathlib.Core.List.{List, [], ◌∷◌}
use native.Mathlib.Omega.{arith}
use lib.Dec.{eqb, leb}
use lib.IntN.{ℤ}
use lib.ListN.{length}
use Rattle.lemmas.specs.Sums.{every}
use Rattle.universe.specs.declared.Universe.{Universe}
use Rattle.universe.specs.Refusals.{bad_universe, bad_rows, bad_tree, overfull_tree, unless, first_refusal}
use Rattle.universe.specs.Universe.{least_axes, most_axes, most_bits_of, most_frame_bits, universe_refusal}
use Rattle.csg.specs.Halfspace.{row_length, most_rows, row_count, row_at, within_limits, rows_refusal}
use Rattle.csg.specs.Ball.{ball_length, most_balls, ball_count, ball_at, ball_within, balls_refusal}
use Rattle.csg.specs.Surfaces.{Named}
use Rattle.csg.specs.Words.{Outcome, refused, made, malformed, overfull, outcome_refusal, parse, tree_refusal}

-- none of these is the number
pub data NoneIs (number : ℕ) : List ℕ → Type 0 where
  no_more : NoneIs number []
  and_then : {n : ℕ} {ns : List ℕ} → (n ≡ number → ⊥) → NoneIs number ns → NoneIs number (n ∷ ns)

module _ (number : ℕ) where
  -- a check that gives another number
  pub unless_not : (good : Bool) (n : ℕ) → (n ≡ number → ⊥) → 0 < number → unless good n ≡ number → ⊥
  unless_not true n h some e = omega arith
  unless_not false n h some e = h e

  -- THEOREM: then it is not the first
  pub first_not : {ns : List ℕ} → NoneIs number ns → 0 < number → first_refusal ns ≡ number → ⊥
  first_not no_more some e = omega arith
  first_not (and_then {n = n} {ns = ns} h k) some e = by (eqb n 0) (first_not k some) e
    where
      by : (b : Bool) → (first_refusal ns ≡ number → ⊥) → cond b (first_refusal ns) n ≡ number → ⊥
      by true f e = f e
      by false f e = h e

  -- the checks of the universe, of rows and of balls, and of a tree
  module _ (u : Universe) where
    pub universe_not : (bad_universe ≡ number → ⊥) → 0 < number → universe_refusal u ≡ number → ⊥
    unfolding universe_refusal
    universe_not =
        unless_not
        (leb least_axes u.axes && leb u.axes most_axes && leb u.bits (most_bits_of u.axes) && leb u.frame_bits most_frame_bits)
        bad_universe

    pub rows_not : (rows : List ℤ) → (bad_rows ≡ number → ⊥) → 0 < number → rows_refusal u rows ≡ number → ⊥
    unfolding rows_refusal
    rows_not rows =
        unless_not
        (eqb (length rows % row_length) 0 && leb (row_count rows) most_rows && every (row_count rows) (λ i. within_limits u (row_at rows i)))
        bad_rows

    pub balls_not : (balls : List ℤ) → (bad_rows ≡ number → ⊥) → 0 < number → balls_refusal u balls ≡ number → ⊥
    unfolding balls_refusal
    balls_not balls =
        unless_not
        (eqb (length balls % ball_length) 0 && leb (ball_count balls) most_balls && every (ball_count balls) (λ i. ball_within u (ball_at balls i)))
        bad_rows

  pub tree_not : (names : Named) → (bad_tree ≡ number → ⊥) → (overfull_tree ≡ number → ⊥) → 0 < number → (words : List ℕ) →
      tree_refusal names words ≡ number → ⊥
  unfolding tree_refusal
  tree_not names h k some words = by (parse names words)
    where
      by : {A : Type 0} (o : Outcome A) → outcome_refusal o ≡ number → ⊥
      by (refused malformed) e = h e
      by (refused overfull) e = k e
      by (made a) e = omega arith
