-- Rules 13.1, 13.6 and 13.7: what export and import answer and what they leave in lent room. Both are refused 2 where
-- the universe is refused, has not three axes or has not equal bits, then 7, and 6 last.
use Rattle.std.specs.Prelude.{ℕ, ◌≡◌, ◌≤◌, ◌&&◌, List, [], ◌∷◌, eqb, length}
use Rattle.std.specs.Borrow.{MutBor}
use Rattle.std.proofs.lemmas.List.Edits.{sets}
use Rattle.universe.specs.declared.Universe.{Universe}
use Rattle.universe.specs.Refusals.{bad_universe, bad_expression, unless, first_refusal}
use Rattle.universe.specs.Universe.{universe_refusal}
use Rattle.bintree.specs.Told.{WrittenAnswer}
use Rattle.bintree.specs.Shape.{Shape, symbols}
use Rattle.bintree.specs.Reading.{read, expression, expression_refusal}
use Rattle.bintree.specs.Merging.{merged}
use Rattle.bintree.specs.Answers.{of_shape, written_answer, written_buffer}
use Rattle.octree.specs.Octree.{Octree, octree_symbols, found, of_found, octree_on, reduce}
use Rattle.octree.specs.Parting.{octree_of, shape_of}

-- rule 13.1: x, y and z
abbrev pub cube_axes : ℕ
cube_axes = 3

-- rule 13.1: 2 where there are no octrees of a universe
unfoldable pub cube_refusal : Universe → ℕ
cube_refusal u =
    first_refusal
    (universe_refusal u ∷ unless (eqb u.axes cube_axes && eqb u.frame_bits u.bits) bad_universe ∷ [])

-- rule 8.1, number 7: bytes that are no octree of at most n levels
unfoldable pub octree_refusal : ℕ → List ℕ → ℕ
octree_refusal n s = of_found (octree_on n s) bad_expression (λ o past. 0)

-- rule 13.6: the checks before 6, in their order
abbrev pub export_checks : Universe → List ℕ → List ℕ
export_checks u s = cube_refusal u ∷ expression_refusal u s ∷ []

abbrev pub export_refusal : Universe → List ℕ → ℕ
export_refusal u s = first_refusal (export_checks u s)

abbrev pub import_checks : Universe → List ℕ → List ℕ
import_checks u s = cube_refusal u ∷ octree_refusal u.bits s ∷ []

abbrev pub import_refusal : Universe → List ℕ → ℕ
import_refusal u s = first_refusal (import_checks u s)

-- rule 13.6: export writes the reduced octree of an expression
abbrev pub export_symbols : Universe → List ℕ → List ℕ
export_symbols u s = of_shape (expression u s) [] (λ a. octree_symbols (reduce (octree_of u.bits a)))

-- rule 13.7: import writes the merged expression of an octree
abbrev pub import_symbols : Universe → List ℕ → List ℕ
import_symbols u s = of_found (octree_on u.bits s) [] (λ o past. symbols (merged (shape_of o)))

unfoldable pub export_answer : Universe → List ℕ → List ℕ → WrittenAnswer
export_answer u s out = written_answer (export_refusal u s) out (export_symbols u s)

unfoldable pub export_buffer : Universe → List ℕ → List ℕ → List ℕ
export_buffer u s out = written_buffer (export_refusal u s) out (export_symbols u s)

unfoldable pub import_answer : Universe → List ℕ → List ℕ → WrittenAnswer
import_answer u s out = written_answer (import_refusal u s) out (import_symbols u s)

unfoldable pub import_buffer : Universe → List ℕ → List ℕ → List ℕ
import_buffer u s out = written_buffer (import_refusal u s) out (import_symbols u s)

-- an expression that can be exported, and an octree that can be imported
pub record Exportable (u : Universe) (s : List ℕ) : Type 0 where
  pub cube : cube_refusal u ≡ 0
  pub shape : Shape
  pub reads : expression u s ≡ read shape

pub record Importable (u : Universe) (s : List ℕ) : Type 0 where
  pub cube : cube_refusal u ≡ 0
  pub octree : Octree
  pub past : ℕ
  pub reads : octree_on u.bits s ≡ found octree past

-- a pass writes these symbols from the front of the room that it is lent, as far as there is room, and tells how many
-- they are, which is no more than `most`
pub record Writes (pass : MutBor (List ℕ) → ℕ → MutBor (List ℕ) → Type 0) (most : ℕ) (symbols : List ℕ) : Type 0 where
  pub few : length symbols ≤ most
  pub written : (room : MutBor (List ℕ)) (count : ℕ) (left : MutBor (List ℕ)) → pass room count left
      → (count ≡ length symbols) × (left.now ≡ sets room.now 0 symbols)
