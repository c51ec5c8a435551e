-- What a caller is promised of the question for the numbers of an expression over a window (rule 5.4): in terms of what
-- the colour question answers of the same bytes.
use Rattle.std.specs.Prelude.{ℕ, ◌≡◌, List}
use Rattle.universe.specs.declared.Universe.{Universe}
use Rattle.universe.specs.Refusals.{first_refusal}
use Rattle.universe.specs.Voxel.{voxel_refusal}
use Rattle.bintree.specs.Told.{NumbersAnswer}
use Rattle.bintree.specs.declared.Verdict.TheVariants.{Clear}
use Rattle.bintree.specs.Parts.{colour_answer}
use Rattle.bintree.specs.Verdicts.{window_checks}
use Rattle.demands.specs.Voxels.{black_voxels}
use Rattle.demands.specs.Verdicts.{Judges}
use Rattle.promises.specs.Shortest.{colours_of}

-- The question asked of the bytes s over frames first to last answered `answer`.
pub record Numbered (u : Universe) (s : List ℕ) (first last : ℕ) (answer : NumbersAnswer) : Type 0 where
  -- its number is that of the first check that refuses: 2, 7, 9
  pub number : answer.refusal ≡ first_refusal (window_checks u s first last)
  -- refused, it counts nothing and is Clear
  pub volume_refused : (answer.refusal ≡ 0 → ⊥) → answer.volume ≡ 0
  pub verdict_refused : (answer.refusal ≡ 0 → ⊥) → answer.verdict ≡ Clear
  -- else the colour question is refused at no voxel of the universe, the volume is the number of all those at which it
  -- tells BLACK, in the window or not, and the verdict judges those of the window
  pub coloured : answer.refusal ≡ 0 → (v : List ℕ) → voxel_refusal u v ≡ 0 → (colour_answer u s v).refusal ≡ 0
  pub whole : answer.refusal ≡ 0 → answer.volume ≡ black_voxels u (colours_of u s)
  pub judged : answer.refusal ≡ 0 → Judges u (colours_of u s) first last answer.verdict
