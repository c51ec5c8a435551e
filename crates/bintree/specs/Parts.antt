-- Rules 4.6 and 4.9: the part for a block, found by a path; the colour at a voxel, that of the part for the voxel's own
-- block; and what the two questions answer.
use Rattle.std.specs.Prelude.{ℕ, suc, ◌+◌, cond, ◌&&◌, List, [], ◌∷◌, eqb, leb, ltb, length, get_or, take, drop}
use Rattle.std.specs.Borrow.{Bor}
use Rattle.lemmas.specs.Sums.{every}
use Rattle.universe.specs.declared.Universe.{Universe}
use Rattle.universe.specs.Refusals.{outside, unless, first_refusal}
use Rattle.universe.specs.Universe.{universe_refusal, levels}
use Rattle.universe.specs.Voxel.{path_to, voxel_refusal}
use Rattle.bintree.specs.declared.Colour.{Colour}
use Rattle.bintree.specs.declared.Colour.TheVariants.{White}
use Rattle.bintree.specs.Told.{ColouredAnswer, PlacedAnswer}
use Rattle.bintree.specs.Shape.{Shape, leaf, halved, size}
use Rattle.bintree.specs.Reading.{expression, expression_refusal}
use Rattle.bintree.specs.Answers.{of_shape, unless_refused}

-- rule 8.1, number 9: a path that is longer than L, or has a byte that is neither 0 nor 1
unfoldable pub path_refusal : Universe → List ℕ → ℕ
path_refusal u path = unless (leb (length path) (levels u) && every (length path) (λ i. ltb (get_or path i 0) 2)) outside

-- rule 4.6: the part for the block at the end of a path; one that goes on below a leaf ends at that leaf
unfoldable pub part : Shape → List ℕ → Shape
part (leaf c) path = leaf c
part (halved a b) [] = halved a b
part (halved a b) (h ∷ path) = cond (eqb h 0) (part a path) (part b path)

-- where the part starts among the shape's symbols: the low half stands behind the `(`, the high half behind the low one
unfoldable pub part_start : Shape → List ℕ → ℕ
part_start (leaf c) path = 0
part_start (halved a b) [] = 0
part_start (halved a b) (h ∷ path) = cond (eqb h 0) (suc (part_start a path)) (suc (size a + part_start b path))

-- where the part for a block stands in an expression, 9 after 7: a refusal and zeros, or 0, where it starts and its
-- length
abbrev pub refused_place : ℕ → PlacedAnswer
refused_place number = record { refusal = number; start = 0; length = 0 }

abbrev pub done_place : ℕ → ℕ → PlacedAnswer
done_place start length = record { refusal = 0; start = start; length = length }

abbrev pub path_checks : Universe → List ℕ → List ℕ → List ℕ
path_checks u s path = universe_refusal u ∷ expression_refusal u s ∷ path_refusal u path ∷ []

abbrev pub part_refusal : Universe → List ℕ → List ℕ → ℕ
part_refusal u s path = first_refusal (path_checks u s path)

unfoldable pub place_answer : Universe → List ℕ → List ℕ → PlacedAnswer
place_answer u s path =
    unless_refused (part_refusal u s path) refused_place
    (of_shape (expression u s) (done_place 0 0) (λ a. done_place (part_start a path) (size (part a path))))

-- rule 4.6: the part is cut there from the bytes that were lent; a refusal has length 0, and so the empty part
abbrev pub cut_at : List ℕ → PlacedAnswer → List ℕ
cut_at s place = take place.length (drop place.start s)

unfoldable pub part_answer : Universe → List ℕ → List ℕ → List ℕ
part_answer u s path = cut_at s (place_answer u s path)

-- and it points to where they stand, as far behind their front as it starts
abbrev pub pointer_at : Bor (List ℕ) → PlacedAnswer → ℕ × ℕ
pointer_at lent place = (lent.ref_ptr.0, place.start + lent.ref_ptr.1)

unfoldable pub part_pointer : Universe → Bor (List ℕ) → List ℕ → ℕ × ℕ
part_pointer u lent path = pointer_at lent (place_answer u lent.now path)

-- rule 4.9: the colour of a part that is one; a voxel's own block is never halved
abbrev pub colour_of : Shape → Colour
colour_of (leaf c) = c
colour_of (halved a b) = White

unfoldable pub colour_at : Universe → Shape → List ℕ → Colour
colour_at u s v = colour_of (part s (path_to u v))

-- the colour at a voxel, 9 after 7: a refusal and White, or 0 and the colour
abbrev pub refused_colour : ℕ → ColouredAnswer
refused_colour number = record { refusal = number; colour = White }

abbrev pub done_colour : Colour → ColouredAnswer
done_colour c = record { refusal = 0; colour = c }

abbrev pub voxel_checks : Universe → List ℕ → List ℕ → List ℕ
voxel_checks u s v = universe_refusal u ∷ expression_refusal u s ∷ voxel_refusal u v ∷ []

unfoldable pub colour_answer : Universe → List ℕ → List ℕ → ColouredAnswer
colour_answer u s v =
    unless_refused (first_refusal (voxel_checks u s v)) refused_colour
    (done_colour (of_shape (expression u s) White (λ a. colour_at u a v)))
