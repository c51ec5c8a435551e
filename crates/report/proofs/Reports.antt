-- The row and the total of a list. The sum over the frames of the sums over the shapes is the sum over the shapes of the sums over the frames; each shape has
-- at most all voxels of the universe. Then the laws of src/answer.rt: the checks in their order, and what they leave of the answer and of the row.
use mathlib.Core.Path.{◌≡◌, refl, sym, ap, ◌∙◌}
use mathlib.Core.List.{List, [], ◌∷◌, ◌++◌}
use Prim.Native.Nat.{ℕ, ◌+◌, ◌*◌, ◌^◌, ◌≤◌, ◌<◌}
use native.Mathlib.Nat.{mul-le-mul, le_refl}
use native.Mathlib.Decide.{ℕ_discrete}
use native.Mathlib.Omega.{arith}
use borrow.Author.Rules.{rules}
use borrow.Author.Tests.{eq-eqb, ne_eqb}
use lib.ListN.{length, get_or, drop, take, get_or-append, length-append}
use lib.Pow.{pow_mono}
use Rattle.std.specs.List.{sum as list-sum}
use Rattle.lemmas.specs.Sums.{sum}
use Rattle.lemmas.proofs.Sums.{sum_cong}
use Rattle.lemmas.proofs.Grid.{listed_length, listed_at}
use Rattle.universe.specs.declared.Universe.{Universe}
use Rattle.universe.specs.Refusals.{first_refusal}
use Rattle.universe.specs.Universe.{universe_refusal, levels, most_levels}
use Rattle.universe.specs.Voxel.{window_refusal}
use Rattle.universe.proofs.Lent.{untouched, written, room_enough, room_short}
use Rattle.universe.proofs.Refusing.{last_check}
use Rattle.universe.proofs.Telling.{number-not_zero}
use Rattle.universe.proofs.Universes.{accepted, levels_few, voxels_left_lem}
use Rattle.bintree.specs.Shape.{Shape, depth}
use Rattle.bintree.specs.Counts.{voxels_at}
use Rattle.bintree.specs.Verdicts.{window_length, voxels_in}
use Rattle.bintree.proofs.Counts.{volume_most, window_most}
use Rattle.bintree.proofs.WindowAnswers.{window_accepted}
use Rattle.report.specs.Told.{ReportAnswer}
use Rattle.report.specs.Lists.{list_of, shapes_of, list_refusal, sum_over}
use Rattle.report.specs.Reports.{frame_voxels, frame_counts, total_voxels, refused_report, short_report, done_report}
use Rattle.report.specs.Reports.{report_refusal, report_answer, report_row}
use Rattle.report.specs.Filling.{most_total, Listed}
use Rattle.report.proofs.Rows.{sum_taken}
use Rattle.report.proofs.Lists.{whole_list, follow_few, follow_fit}
use Rattle.report.proofs.Sums.{sum_over_lem, over_most, over_colours}

module _ (u : Universe) (s : List ℕ) (first last : ℕ) where
  counts_at : (c : ℕ) → c < window_length first last → get_or (frame_counts u s first last) c 0 ≡ frame_voxels u (shapes_of (list_of u s)) (first + c)
  unfolding frame_counts
  counts_at c h = listed_at (window_length first last) (λ i. frame_voxels u (shapes_of (list_of u s)) (first + i)) c h

  pub counts_length : length (frame_counts u s first last) ≡ window_length first last
  unfolding frame_counts
  counts_length = listed_length (window_length first last) (λ c. frame_voxels u (shapes_of (list_of u s)) (first + c))

  -- at the front of a row
  pub front_at :
      (row rest : List ℕ) → row ≡ frame_counts u s first last ++ rest → (c : ℕ) → c < window_length first last →
      get_or row c 0 ≡ frame_voxels u (shapes_of (list_of u s)) (first + c)
  front_at row rest e c h = rw e (get_or-append (frame_counts u s first last) rest 0 c (omega (arith, counts_length)) ∙ counts_at c h)

  -- THEOREM: the row's sum is the total
  pub front_sum :
      (row rest : List ℕ) → row ≡ frame_counts u s first last ++ rest → sum (window_length first last) (λ c. get_or row c 0) ≡ total_voxels u s first last
  unfolding total_voxels
  front_sum row rest e = sum_cong (window_length first last) _ _ (front_at row rest e)

  module _ (ok : universe_refusal u ≡ 0) (list : list_refusal u s ≡ 0) where
    -- THEOREM: the total is the sum of what each shape has in the window
    pub total_shapes : total_voxels u s first last ≡ sum_over (shapes_of (list_of u s)) (λ a. voxels_in u a first last)
    unfolding total_voxels voxels_in
    total_shapes =
        sum_cong (window_length first last) _ _ (λ c h. sym (over_colours u ok (follow_fit (whole_list u s list)) (first + c)))
        ∙ sum_over_lem (window_length first last) (shapes_of (list_of u s)) (λ a c. voxels_at u a (first + c))

    -- THEOREM: it is at most as many voxels as the largest universe has, for each expression that there may be
    module _ (window : window_refusal u first last ≡ 0) where
      shape_most : (a : Shape) → depth a ≤ levels u → voxels_in u a first last ≤ 2 ^ most_levels
      unfolding voxels_in
      shape_most a d =
          let some = (accepted u ok).some_axes in
          let i = window_accepted u first last window in
          omega (
            arith,
            window_most u some a first (window_length first last) d (omega (arith, i.order, i.inside)),
            volume_most u some 0 a (omega arith),
            voxels_left_lem u some (levels u) 0 (omega arith),
            pow_mono (levels_few u (accepted u ok)),
          )

      pub total_most : total_voxels u s first last ≤ most_total
      total_most =
          let w = whole_list u s list in
          let most : length (shapes_of (list_of u s)) * 2 ^ most_levels ≤ most_total = mul-le-mul (follow_few w) (le_refl (2 ^ most_levels)) in
          omega (arith, total_shapes, over_most (levels u) (2 ^ most_levels) (λ a. voxels_in u a first last) shape_most (follow_fit w))

-- ---- the laws of `check`
module _ (u : Universe) (s : List ℕ) (first last two : ℕ) (e : two ≡ universe_refusal u) where
  pub refused_universe : (two ≡ 0 → ⊥) → two ≡ report_refusal u s first last
  refused_universe n = rw (← e, ne_eqb two 0 n)

  module _ (z : two ≡ 0) where
    pub universe_taken : universe_refusal u ≡ 0
    universe_taken = sym e ∙ z

    module _ (seven : ℕ) (f : seven ≡ list_refusal u s) where
      pub refused_list : (seven ≡ 0 → ⊥) → seven ≡ report_refusal u s first last
      refused_list n = rw (← e, eq-eqb two 0 z, ← f, ne_eqb seven 0 n)

      pub refused_window : seven ≡ 0 → (nine : ℕ) → nine ≡ window_refusal u first last → nine ≡ report_refusal u s first last
      refused_window y nine g = rw (← e, eq-eqb two 0 z, ← f, eq-eqb seven 0 y, ← g) (sym (last_check nine))

pub ruleset refusal_laws = (rules, number-not_zero, refused_universe, universe_taken, refused_list, refused_window)

-- what was accepted, read from the number
pub record Taken (u : Universe) (s : List ℕ) (first last : ℕ) : Type 0 where
  pub universe : universe_refusal u ≡ 0
  pub list : list_refusal u s ≡ 0
  pub window : window_refusal u first last ≡ 0

first_zero : (n : ℕ) (more : List ℕ) → first_refusal (n ∷ more) ≡ 0 → (n ≡ 0) × (first_refusal more ≡ 0)
first_zero n more e = go (ℕ_discrete n 0)
  where
    go : Dec (n ≡ 0) → (n ≡ 0) × (first_refusal more ≡ 0)
    go (yes z) = (z, rw (z) at e)
    go (no k) = absurd (k (rw (ne_eqb n 0 k) at e))

pub taken : (u : Universe) (s : List ℕ) (first last : ℕ) → report_refusal u s first last ≡ 0 → Taken u s first last
taken u s first last e =
    let a = first_zero (universe_refusal u) (list_refusal u s ∷ window_refusal u first last ∷ []) e in
    let b = first_zero (list_refusal u s) (window_refusal u first last ∷ []) a.1 in
    record { universe = a.0; list = b.0; window = (first_zero (window_refusal u first last) [] b.1).0 }

-- ---- the answer by what the checks give: `number` is that of those before 6
module _ (u : Universe) (s : List ℕ) (first last : ℕ) (row : List ℕ) (number : ℕ) (e : number ≡ report_refusal u s first last) where
  pub refused_is : (number ≡ 0 → ⊥) → refused_report number ≡ report_answer u s first last row
  unfolding report_answer
  refused_is n = rw (← e, ne_eqb number 0 n)

  module _ (z : number ≡ 0) where
    pub short_is : length row < window_length first last → short_report (window_length first last) ≡ report_answer u s first last row
    unfolding report_answer
    short_is h = rw (← e, eq-eqb number 0 z, room_short (length row) (window_length first last) h)

    pub done_is : window_length first last ≤ length row → done_report (window_length first last) (total_voxels u s first last) ≡ report_answer u s first last row
    unfolding report_answer
    done_is h = rw (← e, eq-eqb number 0 z, room_enough (length row) (window_length first last) h)

  -- and the row by the answer's number
  module _ {answer : ReportAnswer} (f : answer ≡ report_answer u s first last row) where
    pub row_kept : (answer.refusal ≡ 0 → ⊥) → row ≡ report_row u s first last row
    unfolding report_row
    row_kept h = untouched (frame_counts u s first last) row (λ z. h (ap (λ (a : ReportAnswer). a.refusal) f ∙ z))

    pub row_set : answer.refusal ≡ 0 → frame_counts u s first last ++ drop (window_length first last) row ≡ report_row u s first last row
    unfolding report_row
    row_set z = written (frame_counts u s first last) row (sym (ap (λ (a : ReportAnswer). a.refusal) f) ∙ z) (sym (counts_length u s first last))

-- ---- the laws of `report_of`
module _ (u : Universe) (s : List ℕ) (first last : ℕ) (row : List ℕ) (number : ℕ) (e : number ≡ report_refusal u s first last) where
  pub report_refused :
      (answer : ReportAnswer) → (number ≡ 0 → ⊥) → answer ≡ refused_report number →
      (answer ≡ report_answer u s first last row) × (row ≡ report_row u s first last row)
  report_refused answer n f = let x = refused_is u s first last row number e n in (f ∙ x, row_kept u s first last row number e x n)

  module _ (z : number ≡ 0) where
    pub report_takes : Taken u s first last
    report_takes = taken u s first last (sym e ∙ z)

    module _ (frames : ℕ) (g : frames ≡ window_length first last) where
      pub report_short :
          (answer : ReportAnswer) → length row < frames → answer ≡ short_report frames →
          (answer ≡ report_answer u s first last row) × (row ≡ report_row u s first last row)
      report_short answer h f =
          let x = short_is u s first last row number e z (omega arith) in
          (f ∙ rw g x, row_kept u s first last row number e x (λ y. omega arith))

      module _ (h : frames ≤ length row) where
        pub report_listed : {a : universe_refusal u ≡ 0} {b : window_refusal u first last ≡ 0} →
            Listed (record { universe = u; first = first; last = last; accepts = a; within = b }) s row
        report_listed = record { list = report_takes.list; long = omega arith }

        module _ (after : List ℕ) (x : after ≡ frame_counts u s first last ++ drop (window_length first last) row) where
          sum_is : list-sum (take frames after) ≡ total_voxels u s first last
          sum_is =
              sym (sum_taken frames after (omega (
                arith,
                ap length x,
                length-append (frame_counts u s first last) (drop (window_length first last) row),
                counts_length u s first last,
              )))
              ∙ rw g (front_sum u s first last after (drop (window_length first last) row) x)

          pub report_fits : list-sum (take frames after) < 2 ^ 64
          report_fits = omega (arith, sum_is, total_most u s first last report_takes.universe report_takes.list report_takes.window)

          pub report_done :
              (answer : ReportAnswer) (total : ℕ) → total ≡ list-sum (take frames after) → answer ≡ done_report frames total →
              (answer ≡ report_answer u s first last row) × (after ≡ report_row u s first last row)
          report_done answer total t f =
              let y = done_is u s first last row number e z (omega arith) in
              (f ∙ rw (t, sum_is, g) y, x ∙ row_set u s first last row number e y refl)
