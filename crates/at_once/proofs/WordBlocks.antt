-- A block in a sound scene: its first voxel is one of the universe's, its places and tables are small, its rows are within their limits; so the word of a row
-- from its value there and its steps is the mask of the row's colours over the block.
use mathlib.Core.Path.{◌≡◌, refl, sym, ap, ap₂, ◌∙◌}
use mathlib.Core.Bool.{Bool, true, ◌&&◌}
use mathlib.Core.List.{List}
use Prim.Native.Nat.{ℕ, ◌%◌, ◌≤◌, ◌<◌}
use native.Mathlib.Omega.{arith}
use native.Mathlib.Decide.{dec_lt}
use lib.Dec.{eqb, leb}
use lib.ListN.{length, get_or, get_or-eq_default}
use lib.IntN.{ℤ, pos, nat_abs, ◌*ℤ◌}
use borrow.Author.Tests.{le-ltb}
use Rattle.lemmas.specs.Sums.{every}
use Rattle.lemmas.proofs.Sums.{and_right, every_all}
use Rattle.lemmas.proofs.Grid.{listed_at}
use Rattle.lemmas.proofs.Machine.{Near, near_call, near_size}
use Rattle.universe.specs.declared.Universe.{Universe}
use Rattle.universe.specs.declared.Block.{Block}
use Rattle.universe.specs.Refusals.{bad_rows}
use Rattle.universe.specs.Universe.{most_axes, most_levels, longest_side, levels}
use Rattle.universe.specs.Questions.{axes_left, levels_answer}
use Rattle.universe.specs.Voxel.{voxel_refusal}
use Rattle.universe.proofs.Refusing.{unless_holds}
use Rattle.universe.proofs.Universes.{Accepted, accepted, side_few}
use Rattle.universe.proofs.Questions.{axes_left_at, axes_left_below, levels_are}
use Rattle.universe.proofs.Blocks.{Placed, given_placed, given_length}
use Rattle.universe.proofs.Voxel.{taken_voxel}
use Rattle.csg.specs.Halfspace.{Halfspace, most_rows, row_length, row_at, row_count, within_limits, rows_refusal, centre_value}
use Rattle.csg.specs.Surfaces.{Surfaces, halfspace}
use Rattle.csg.specs.Marks.{surface_colour}
use Rattle.convert.specs.Small.{SmallPlaces}
use Rattle.convert.specs.Blocks.{block_left}
use Rattle.pruned.proofs.Moving.{held}
use Rattle.pruned.proofs.Steps.{rows_small}
use Rattle.masks.specs.Block.{block_mask}
use Rattle.masks.specs.Steps.{axis_left}
use Rattle.masks.specs.Leaves.{value_limit, step_limit, row_step, row_mask}
use Rattle.masks.proofs.Block.{Left}
use Rattle.masks.proofs.Leaves.{row_mask_cong}
use Rattle.masks.proofs.Limits.{value_few}
use Rattle.masks.proofs.Trees.{surface_halfspace}
use Rattle.at_once.specs.Words.{word_levels, WordBlock, step_at, RowReady, first_value, RowNamed, SmallTables, StepsOf}
use Rattle.at_once.specs.Moves.{RowValue, RowPlaced}
use Rattle.at_once.proofs.RowValues.{step_small, first_centre}

module _ {surfaces : Surfaces} {axes : ℕ} {table lengths low : List ℕ} {left : ℕ} (w : WordBlock surfaces axes table lengths low left) where
  abbrev u : Universe
  u = w.universe

  abbrev b : Block
  b = block_left u left low

  placed : Placed b
  placed = given_placed w.given

  pub taken : Accepted u
  taken = accepted u w.scene.accepted_universe

  pub levels_left : Left left b
  levels_left = record { given = w.given; left = omega (arith, w.above) }

  pub first_voxel : voxel_refusal u low ≡ 0
  first_voxel = taken_voxel u low (record { inside = placed.inside; above = placed.above })

  -- ---- its places and tables
  pub low_small : SmallPlaces low
  low_small = record { place = λ i. record { most = go i (dec_lt i u.axes) (dec_lt i most_axes) } }
    where
      go : (i : ℕ) → Dec (i < u.axes) → Dec (i < most_axes) → get_or low i 0 ≤ longest_side
      go i (yes l) m = omega (arith, placed.inside i l, side_few u taken i)
      go i (no l) (yes m) = omega (arith, placed.above i (omega arith) m)
      go i (no l) (no m) =
          let e : length low ≤ i = omega (arith, given_length w.given) in
          omega (arith, get_or-eq_default low 0 e)

  -- a row's value is carried at them
  abbrev pub placed_row : {values : List ℤ} {i : ℕ} → RowValue surfaces.rows low values i → RowPlaced surfaces.rows values i
  placed_row value = record { low = low; small = low_small; value = value }

  module _ (j : ℕ) (l : j < levels u) where
    pub axis_at_lem : get_or table j 0 ≡ axis_left u j
    axis_at_lem = ap (λ (t : List ℕ). get_or t j 0) w.tabled.axis_at_lem ∙ axes_left_at u w.scene.accepted_universe j l

    axis_below : get_or table j 0 < most_axes
    axis_below =
        omega (
          arith,
          ap (λ (t : List ℕ). get_or t j 0) w.tabled.axis_at_lem,
          axes_left_below u w.scene.accepted_universe j l,
          taken.few_axes,
        )

  axis_none : (j : ℕ) → j < word_levels → levels u ≤ j → get_or (axes_left u) j 0 ≡ 0
  unfolding axes_left
  axis_none j m l =
      listed_at most_levels _ j (omega arith) ∙ rw (le-ltb j (levels_answer u) (omega (arith, levels_are u refl w.scene.accepted_universe)))

  pub tables_small : SmallTables table lengths
  tables_small = record { axis = λ j m. go j m (dec_lt j (levels u)); short = w.tabled.short; power = w.tabled.power }
    where
      go : (j : ℕ) → j < word_levels → Dec (j < levels u) → get_or table j 0 < most_axes
      go j m (yes l) = axis_below j l
      go j m (no l) = omega (arith, ap (λ (t : List ℕ). get_or t j 0) w.tabled.axis_at_lem, axis_none j m (omega arith))

  -- ---- its rows
  module _ (i : ℕ) (l : i < row_count surfaces.rows) where
    abbrev h : Halfspace
    h = row_at surfaces.rows i

    pub row_named : RowNamed surfaces.rows i
    row_named = record { here = l; small = rows_small w.scene i l }

    pub within : within_limits u h ≡ true
    unfolding rows_refusal
    within =
        let rows = surfaces.rows in
        let shaped : Bool = eqb (length rows % row_length) 0 && leb (row_count rows) most_rows in
        let test : ℕ → Bool = λ k. within_limits u (row_at rows k) in
        every_all (row_count rows) test
        (and_right shaped (every (row_count rows) test)
        (unless_holds (shaped && every (row_count rows) test) bad_rows (omega arith) w.scene.accepted_rows)) i l

    module _ {v : ℤ} (e : v ≡ first_value h low) {steps : List ℤ} (s : StepsOf h table lengths steps) where
      pub value_near : Near (held v) (centre_value u h low) value_limit
      value_near =
          near_call {x = centre_value u h low} (e ∙ first_centre u taken.few_axes h within low)
          (record { same = refl; size = value_few u taken h within low first_voxel }) tt

      small_step : (j : ℕ) → Dec (j < word_levels) → nat_abs (step_at steps j) ≤ step_limit
      small_step j (yes m) = rw (s.step j m) (step_small row_named tables_small j m)
      small_step j (no m) = rw (s.beyond j (omega arith)) (omega arith)

      pub row_ready : RowReady word_levels (held v) steps
      row_ready = record { value = omega (arith, (near_size value_near).most); step = λ j. small_step j (dec_lt j word_levels) }

      -- the steps are the block's
      pub steps_same : (x : ℤ) → row_mask x (step_at steps) left ≡ row_mask x (row_step u h) left
      steps_same x =
          row_mask_cong x (step_at steps) (row_step u h) left
          (λ j m. s.step j (omega (arith, w.few))
          ∙ ap₂ (λ (a k : ℕ). pos 2 *ℤ h.coefficient a *ℤ pos k)
          (axis_at_lem j (omega (arith, w.above)))
          (w.tabled.length_at j (omega (arith, w.few)) (omega (arith, w.above))))

      pub row_gives : {r : ℕ} → r ≡ row_mask (held v) (step_at steps) left → r ≡ block_mask (surface_colour surfaces u (halfspace i)) left b
      row_gives p =
          p
          ∙ ap (λ (z : ℤ). row_mask z (step_at steps) left) value_near.same
          ∙ steps_same (centre_value u h low)
          ∙ sym (surface_halfspace surfaces i left b levels_left)
