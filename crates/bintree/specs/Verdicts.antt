-- Rules 5.1, 5.2 and 5.4: over a window, Clear where no voxel is black, else Hit with the first and the last frame that
-- has a black voxel, and how many there are; and what the question for the numbers of an expression answers.
use Rattle.std.specs.Prelude.{ℕ, zero, suc, ◌+◌, ◌-◌, Bool, cond, List, [], ◌∷◌, ltb}
use Rattle.lemmas.specs.Sums.{sum}
use Rattle.universe.specs.declared.Universe.{Universe}
use Rattle.universe.specs.Refusals.{first_refusal}
use Rattle.universe.specs.Universe.{universe_refusal}
use Rattle.universe.specs.Voxel.{window_refusal}
use Rattle.bintree.specs.declared.Verdict.{Verdict}
use Rattle.bintree.specs.declared.Verdict.TheVariants.{Clear, Hit}
use Rattle.bintree.specs.Told.{NumbersAnswer}
use Rattle.bintree.specs.Shape.{Shape}
use Rattle.bintree.specs.Reading.{expression, expression_refusal}
use Rattle.bintree.specs.Answers.{of_shape, unless_refused}
use Rattle.bintree.specs.Counts.{volume, voxels_at}

-- rule 5.1: how many frames a window holds, both its ends in it
abbrev pub window_length : ℕ → ℕ → ℕ
window_length first last = suc last - first

-- the first of n frames from `frame` on that the test names, and the last; n frames on where it names none
unfoldable pub first_frame : (ℕ → Bool) → ℕ → ℕ → ℕ
first_frame named frame zero = frame
first_frame named frame (suc n) = cond (named frame) frame (first_frame named (suc frame) n)

unfoldable pub last_frame : (ℕ → Bool) → ℕ → ℕ → ℕ
last_frame named frame zero = frame
last_frame named frame (suc n) = cond (named (frame + n)) (frame + n) (last_frame named frame n)

-- the black voxels of a shape in a window
unfoldable pub voxels_in : Universe → Shape → ℕ → ℕ → ℕ
voxels_in u s first last = sum (window_length first last) (λ c. voxels_at u s (first + c))

-- a frame that holds a black voxel
abbrev pub is_hit : Universe → Shape → ℕ → Bool
is_hit u s frame = ltb 0 (voxels_at u s frame)

-- rule 5.2: Hit where the window has a black voxel, else Clear
unfoldable pub verdict : Universe → Shape → ℕ → ℕ → Verdict
verdict u s first last =
    cond (ltb 0 (voxels_in u s first last))
    (Hit (record {
      first = first_frame (is_hit u s) first (window_length first last);
      last = last_frame (is_hit u s) first (window_length first last);
      voxels = voxels_in u s first last;
    }))
    Clear

-- the answer, 9 after 7: a refusal with volume 0 and Clear, or 0 with the volume of the whole expression and its
-- verdict over the window
abbrev pub refused_numbers : ℕ → NumbersAnswer
refused_numbers number = record { refusal = number; volume = 0; verdict = Clear }

abbrev pub done_numbers : ℕ → Verdict → NumbersAnswer
done_numbers voxels v = record { refusal = 0; volume = voxels; verdict = v }

abbrev pub window_checks : Universe → List ℕ → ℕ → ℕ → List ℕ
window_checks u s first last = universe_refusal u ∷ expression_refusal u s ∷ window_refusal u first last ∷ []

unfoldable pub numbers_answer : Universe → List ℕ → ℕ → ℕ → NumbersAnswer
numbers_answer u s first last =
    unless_refused (first_refusal (window_checks u s first last)) refused_numbers
    (of_shape (expression u s) (done_numbers 0 Clear) (λ a. done_numbers (volume u a) (verdict u a first last)))
