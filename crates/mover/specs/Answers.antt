-- Rules 15.8 to 15.10: what the call answers and what it leaves in lent room. The refusals are in the order 2, 10, 11,
-- 12, 3 for the rows, 3 for the balls, the tree's own, and 6 with the largest need of any stretch.
use Rattle.std.specs.Prelude.{ℕ, zero, suc, ◌-◌, cond, ◌&&◌, List, [], ◌∷◌, ◌++◌, leb, eqb, ℤ, length, drop}
use Rattle.universe.specs.declared.Universe.{Universe}
use Rattle.universe.specs.Refusals.{unless, first_refusal, bad_universe, bad_rows, no_room}
use Rattle.universe.specs.Lent.{room_refusal}
use Rattle.universe.specs.Universe.{universe_refusal}
use Rattle.bintree.specs.Answers.{unless_refused}
use Rattle.csg.specs.Halfspace.{most_rows, row_count, rows_refusal}
use Rattle.csg.specs.Ball.{balls_refusal}
use Rattle.csg.specs.Surfaces.{Surfaces, named}
use Rattle.csg.specs.Words.{tree_refusal}
use Rattle.convert.specs.Told.{ClearanceAnswer}
use Rattle.convert.specs.Answers.{refused_clearance, done_clearance}
use Rattle.standin.specs.Rows.{proxy_axes}
use Rattle.mover.specs.Keys.{Mover, still_refusal, corners_refusal, keys_refusal}
use Rattle.mover.specs.Stretches.{stretches, steps_refusal}
use Rattle.mover.specs.Frames.{stretch_raw, mover_verdict}

-- rule 15.8, number 2: also where there are not the four axes of a proxy
unfoldable pub axes_refusal : Universe → ℕ
axes_refusal u = unless (eqb (universe_refusal u) 0 && eqb u.axes proxy_axes) bad_universe

-- rule 15.8, number 3: also where the Box's six rows find no place behind the static ones
abbrev pub box_rows : ℕ
box_rows = 6

abbrev pub most_static : ℕ
most_static = most_rows - box_rows

unfoldable pub static_refusal : Universe → List ℤ → ℕ
static_refusal u rows = unless (eqb (rows_refusal u rows) 0 && leb (row_count rows) most_static) bad_rows

-- the checks before 6
unfoldable pub mover_checks : Universe → Mover → Surfaces → List ℕ → List ℕ
mover_checks u m surfaces words =
    axes_refusal u
    ∷ still_refusal m.box
    ∷ corners_refusal m.corners
    ∷ keys_refusal u m.moments m.corners
    ∷ steps_refusal m.moments m.corners
    ∷ static_refusal u surfaces.rows
    ∷ balls_refusal u surfaces.balls
    ∷ tree_refusal (named surfaces) words
    ∷ []

abbrev pub mover_refusal : Universe → Mover → Surfaces → List ℕ → ℕ
mover_refusal u m surfaces words = first_refusal (mover_checks u m surfaces words)

-- rule 15.9: the largest of the first n numbers
abbrev pub larger : ℕ → ℕ → ℕ
larger a b = cond (leb a b) b a

unfoldable pub largest : ℕ → (ℕ → ℕ) → ℕ
largest zero f = 0
largest (suc n) f = larger (largest n f) (f n)

unfoldable pub largest_need : Universe → Mover → Surfaces → List ℕ → ℕ
largest_need u m surfaces words = largest (stretches m.moments) (λ i. length (stretch_raw u m surfaces words i))

-- rule 15.9: with 6 comes the largest need; done, the length is the last stretch's, whose symbols stand in front
unfoldable pub mover_answer : Universe → Mover → Surfaces → List ℕ → List ℕ → ClearanceAnswer
mover_answer u m surfaces words out =
    unless_refused (mover_refusal u m surfaces words) (λ number. refused_clearance number 0)
    (unless_refused (room_refusal (length out) (largest_need u m surfaces words))
    (λ six. refused_clearance no_room (largest_need u m surfaces words))
    (done_clearance (mover_verdict u m surfaces words)
    (length (stretch_raw u m surfaces words (stretches m.moments - 1)))))

-- rule 15.10: each stretch's raw expression is written over what the one before it left
unfoldable pub after_stretches : Universe → Mover → Surfaces → List ℕ → List ℕ → ℕ → List ℕ
after_stretches u m surfaces words out zero = out
after_stretches u m surfaces words out (suc n) =
    let symbols = stretch_raw u m surfaces words n in
    symbols ++ drop (length symbols) (after_stretches u m surfaces words out n)

unfoldable pub mover_buffer : Universe → Mover → Surfaces → List ℕ → List ℕ → List ℕ
mover_buffer u m surfaces words out =
    cond (eqb (mover_answer u m surfaces words out).refusal 0)
    (after_stretches u m surfaces words out (stretches m.moments))
    out
