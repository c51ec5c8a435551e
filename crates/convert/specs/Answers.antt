-- What the conversions (rules 4.2 and 4.3) and the verdict of two trees (5.2 and 5.3) answer. By rule 8.5 the refusals
-- are in the order 2, 3 for the rows, 3 for the balls, tree 1, tree 2, for a verdict 9, and 6.
use Rattle.std.specs.Prelude.{ℕ, Bool, cond, List, [], ◌∷◌, eqb}
use Rattle.universe.specs.declared.Universe.{Universe}
use Rattle.universe.specs.Refusals.{first_refusal}
use Rattle.universe.specs.Universe.{universe_refusal}
use Rattle.universe.specs.Voxel.{window_refusal}
use Rattle.bintree.specs.declared.Verdict.{Verdict}
use Rattle.bintree.specs.declared.Verdict.TheVariants.{Clear}
use Rattle.bintree.specs.Told.{WrittenAnswer}
use Rattle.bintree.specs.Shape.{symbols}
use Rattle.bintree.specs.Merging.{merged}
use Rattle.bintree.specs.Verdicts.{verdict}
use Rattle.bintree.specs.Answers.{written_answer, written_buffer}
use Rattle.csg.specs.Halfspace.{rows_refusal}
use Rattle.csg.specs.Ball.{balls_refusal}
use Rattle.csg.specs.Surfaces.{Surfaces, named}
use Rattle.csg.specs.Words.{tree_refusal, tree_of}
use Rattle.csg.specs.Raw.{raw}
use Rattle.convert.specs.Told.{ClearanceAnswer}
use Rattle.convert.specs.Blocks.{trees_of}
use Rattle.convert.specs.Shapes.{shaped}

-- rules 8.5 and 8.8: the checks before 6, of one tree and of two
unfoldable pub one_tree_checks : Universe → Surfaces → List ℕ → List ℕ
one_tree_checks u surfaces words =
    universe_refusal u
    ∷ rows_refusal u surfaces.rows
    ∷ balls_refusal u surfaces.balls
    ∷ tree_refusal (named surfaces) words
    ∷ []

unfoldable pub two_trees_checks : Universe → Surfaces → List ℕ → List ℕ → List ℕ
two_trees_checks u surfaces first second =
    universe_refusal u
    ∷ rows_refusal u surfaces.rows
    ∷ balls_refusal u surfaces.balls
    ∷ tree_refusal (named surfaces) first
    ∷ tree_refusal (named surfaces) second
    ∷ []

abbrev pub one_tree_refusal : Universe → Surfaces → List ℕ → ℕ
one_tree_refusal u surfaces words = first_refusal (one_tree_checks u surfaces words)

abbrev pub two_trees_refusal : Universe → Surfaces → List ℕ → List ℕ → ℕ
two_trees_refusal u surfaces first second = first_refusal (two_trees_checks u surfaces first second)

-- rule 4.2: the raw expression of one tree, and of two intersected
unfoldable pub raw_of_one : Universe → Surfaces → List ℕ → List ℕ
raw_of_one u surfaces words = symbols (raw u surfaces (tree_of (named surfaces) words))

unfoldable pub raw_of_two : Universe → Surfaces → List ℕ → List ℕ → List ℕ
raw_of_two u surfaces first second = symbols (raw u surfaces (trees_of surfaces first second))

-- rule 4.3: the merged ones
unfoldable pub merged_of_one : Universe → Surfaces → List ℕ → List ℕ
merged_of_one u surfaces words = symbols (merged (raw u surfaces (tree_of (named surfaces) words)))

unfoldable pub merged_of_two : Universe → Surfaces → List ℕ → List ℕ → List ℕ
merged_of_two u surfaces first second = symbols (merged (raw u surfaces (trees_of surfaces first second)))

-- either of them, of two trees
unfoldable pub written_of_two : Bool → Universe → Surfaces → List ℕ → List ℕ → List ℕ
written_of_two merging u surfaces first second = symbols (shaped merging (raw u surfaces (trees_of surfaces first second)))

-- rules 8.3 and 8.4: what a conversion answers, and what it leaves of the room lent
unfoldable pub raw_of_one_answer : Universe → Surfaces → List ℕ → List ℕ → WrittenAnswer
raw_of_one_answer u surfaces words out = written_answer (one_tree_refusal u surfaces words) out (raw_of_one u surfaces words)

unfoldable pub raw_of_one_buffer : Universe → Surfaces → List ℕ → List ℕ → List ℕ
raw_of_one_buffer u surfaces words out = written_buffer (one_tree_refusal u surfaces words) out (raw_of_one u surfaces words)

unfoldable pub merged_of_one_answer : Universe → Surfaces → List ℕ → List ℕ → WrittenAnswer
merged_of_one_answer u surfaces words out =
    written_answer (one_tree_refusal u surfaces words) out (merged_of_one u surfaces words)

unfoldable pub merged_of_one_buffer : Universe → Surfaces → List ℕ → List ℕ → List ℕ
merged_of_one_buffer u surfaces words out =
    written_buffer (one_tree_refusal u surfaces words) out (merged_of_one u surfaces words)

unfoldable pub raw_of_two_answer : Universe → Surfaces → List ℕ → List ℕ → List ℕ → WrittenAnswer
raw_of_two_answer u surfaces first second out =
    written_answer (two_trees_refusal u surfaces first second) out (raw_of_two u surfaces first second)

unfoldable pub raw_of_two_buffer : Universe → Surfaces → List ℕ → List ℕ → List ℕ → List ℕ
raw_of_two_buffer u surfaces first second out =
    written_buffer (two_trees_refusal u surfaces first second) out (raw_of_two u surfaces first second)

unfoldable pub merged_of_two_answer : Universe → Surfaces → List ℕ → List ℕ → List ℕ → WrittenAnswer
merged_of_two_answer u surfaces first second out =
    written_answer (two_trees_refusal u surfaces first second) out (merged_of_two u surfaces first second)

unfoldable pub merged_of_two_buffer : Universe → Surfaces → List ℕ → List ℕ → List ℕ → List ℕ
merged_of_two_buffer u surfaces first second out =
    written_buffer (two_trees_refusal u surfaces first second) out (merged_of_two u surfaces first second)

-- the checks before 6 of a verdict of two trees: those of their conversion, then 9
unfoldable pub clearance_checks : Universe → Surfaces → List ℕ → List ℕ → ℕ → ℕ → List ℕ
clearance_checks u surfaces first second from to = two_trees_refusal u surfaces first second ∷ window_refusal u from to ∷ []

abbrev pub clearance_refusal : Universe → Surfaces → List ℕ → List ℕ → ℕ → ℕ → ℕ
clearance_refusal u surfaces first second from to = first_refusal (clearance_checks u surfaces first second from to)

-- a verdict is refused, and then Clear (rule 8.3), or done; the length is the raw expression's, needed on 6
abbrev pub refused_clearance : ℕ → ℕ → ClearanceAnswer
refused_clearance number length = record { refusal = number; verdict = Clear; length = length }

abbrev pub done_clearance : Verdict → ℕ → ClearanceAnswer
done_clearance v length = record { refusal = 0; verdict = v; length = length }

-- the verdict on what was written, where it was
abbrev pub clearance_of : WrittenAnswer → Verdict → ClearanceAnswer
clearance_of written v =
    cond (eqb written.refusal 0)
    (done_clearance v written.length)
    (refused_clearance written.refusal written.length)

unfoldable pub clearance_answer : Universe → Surfaces → List ℕ → List ℕ → ℕ → ℕ → List ℕ → ClearanceAnswer
clearance_answer u surfaces first second from to out =
    clearance_of
    (written_answer (clearance_refusal u surfaces first second from to) out (raw_of_two u surfaces first second))
    (verdict u (raw u surfaces (trees_of surfaces first second)) from to)

unfoldable pub clearance_buffer : Universe → Surfaces → List ℕ → List ℕ → ℕ → ℕ → List ℕ → List ℕ
clearance_buffer u surfaces first second from to out =
    written_buffer (clearance_refusal u surfaces first second from to) out (raw_of_two u surfaces first second)
