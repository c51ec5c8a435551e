-- Rules 5.6 to 5.8: the black voxels of each frame of a window, counted one by one and summed over a list, and their
-- total; and what a report answers and leaves in the row that was lent.
use Rattle.std.specs.Prelude.{ℕ, ◌+◌, List, [], ◌∷◌, length}
use Rattle.lemmas.specs.Sums.{sum}
use Rattle.lemmas.specs.Grid.{listed}
use Rattle.universe.specs.declared.Universe.{Universe}
use Rattle.universe.specs.Refusals.{no_room, first_refusal}
use Rattle.universe.specs.Lent.{overwritten, room_refusal}
use Rattle.universe.specs.Universe.{universe_refusal}
use Rattle.universe.specs.Voxel.{window_refusal}
use Rattle.bintree.specs.Shape.{Shape}
use Rattle.bintree.specs.Answers.{unless_refused}
use Rattle.bintree.specs.Parts.{colour_at}
use Rattle.bintree.specs.Verdicts.{window_length}
use Rattle.demands.specs.Voxels.{black_voxels_at}
use Rattle.report.specs.Told.{ReportAnswer}
use Rattle.report.specs.Lists.{list_of, shapes_of, list_refusal, sum_over}

-- rule 5.6: how many voxels of a frame are black, summed over the shapes of a list
abbrev pub frame_voxels : Universe → List Shape → ℕ → ℕ
frame_voxels u list frame = sum_over list (λ a. black_voxels_at u (colour_at u a) frame)

-- one count for each frame of the window
unfoldable pub frame_counts : Universe → List ℕ → ℕ → ℕ → List ℕ
frame_counts u s first last = listed (window_length first last) (λ c. frame_voxels u (shapes_of (list_of u s)) (first + c))

-- rule 5.7: their sum
unfoldable pub total_voxels : Universe → List ℕ → ℕ → ℕ → ℕ
total_voxels u s first last =
    sum (window_length first last) (λ c. frame_voxels u (shapes_of (list_of u s)) (first + c))

-- a report is refused, has too short a row, or is done; rule 8.3: with 6 comes the length that is needed
abbrev pub refused_report : ℕ → ReportAnswer
refused_report number = record { refusal = number; frames = 0; total = 0 }

abbrev pub short_report : ℕ → ReportAnswer
short_report needed = record { refusal = no_room; frames = needed; total = 0 }

abbrev pub done_report : ℕ → ℕ → ReportAnswer
done_report frames total = record { refusal = 0; frames = frames; total = total }

-- rule 5.8: 2, 7 and 9, and then 6
abbrev pub list_checks : Universe → List ℕ → ℕ → ℕ → List ℕ
list_checks u s first last = universe_refusal u ∷ list_refusal u s ∷ window_refusal u first last ∷ []

abbrev pub report_refusal : Universe → List ℕ → ℕ → ℕ → ℕ
report_refusal u s first last = first_refusal (list_checks u s first last)

unfoldable pub report_answer : Universe → List ℕ → ℕ → ℕ → List ℕ → ReportAnswer
report_answer u s first last row =
    unless_refused (report_refusal u s first last) refused_report
    (unless_refused (room_refusal (length row) (window_length first last)) (λ six. short_report (window_length first last))
    (done_report (window_length first last) (total_voxels u s first last)))

-- and what it leaves of the row (rule 8.4)
unfoldable pub report_row : Universe → List ℕ → ℕ → ℕ → List ℕ → List ℕ
report_row u s first last row = overwritten (report_answer u s first last row).refusal (frame_counts u s first last) row
