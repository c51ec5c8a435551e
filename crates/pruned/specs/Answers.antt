-- Rules 16.3 to 16.5: what the pruned conversions answer. By 16.4 the refusals are those of the first conversion up to
-- the trees, then 6 for the work room, in nodes, and then 6 for the symbols.
use Rattle.std.specs.Prelude.{ℕ, ◌+◌, ◌*◌, ◌/◌, Bool, true, false, List, [], ◌∷◌, ℤ, length}
use Rattle.universe.specs.declared.Universe.{Universe}
use Rattle.universe.specs.Universe.{levels}
use Rattle.universe.specs.Refusals.{no_room, first_refusal}
use Rattle.universe.specs.Lent.{overwritten, room_refusal}
use Rattle.bintree.specs.Shape.{symbols}
use Rattle.bintree.specs.Answers.{unless_refused}
use Rattle.csg.specs.Surfaces.{Surfaces, named}
use Rattle.csg.specs.Tree.{Plain, plain}
use Rattle.csg.specs.Words.{tree_of}
use Rattle.csg.specs.Raw.{raw}
use Rattle.convert.specs.Shapes.{shaped}
use Rattle.convert.specs.Answers.{one_tree_refusal, two_trees_refusal, raw_of_one, merged_of_one, raw_of_two, merged_of_two}
use Rattle.pruned.specs.Told.{ConversionAnswer}
use Rattle.pruned.specs.Looked.{nodes_looked}
use Rattle.pruned.specs.Nodes.{node_length}

-- the trees of a run: of one no second one is carried
abbrev pub one_tree : Surfaces → List ℕ → List Plain
one_tree surfaces words = plain (tree_of (named surfaces) words) ∷ []

abbrev pub two_trees : Surfaces → List ℕ → List ℕ → List Plain
two_trees surfaces first second = plain (tree_of (named surfaces) first) ∷ plain (tree_of (named surfaces) second) ∷ []

-- rule 16.4: the nodes that so much work room holds, and those that are needed for trees with so many words
abbrev pub nodes_lent : List ℤ → ℕ
nodes_lent work = length work / node_length

abbrev pub nodes_needed : Universe → ℕ → ℕ
nodes_needed u words = (levels u + 1) * words

-- a conversion is refused, lacks work room, lacks room for its symbols, or is done; 16.3: with a refusal come no nodes
abbrev pub refused_conversion : ℕ → ConversionAnswer
refused_conversion number = record { refusal = number; short_of_work = false; length = 0; looked = 0 }

abbrev pub short_of_work : ℕ → ConversionAnswer
short_of_work needed = record { refusal = no_room; short_of_work = true; length = needed; looked = 0 }

abbrev pub short_of_symbols : ℕ → ConversionAnswer
short_of_symbols needed = record { refusal = no_room; short_of_work = false; length = needed; looked = 0 }

abbrev pub done_conversion : ℕ → ℕ → ConversionAnswer
done_conversion written looked = record { refusal = 0; short_of_work = false; length = written; looked = looked }

-- what a conversion that lacks no work room answers, which writes these symbols, and what it leaves of the room lent
unfoldable pub written_conversion : List ℕ → List ℕ → ℕ → ConversionAnswer
written_conversion out symbols looked =
    unless_refused (room_refusal (length out) (length symbols)) (λ six. short_of_symbols (length symbols))
    (done_conversion (length symbols) looked)

unfoldable pub written_room : List ℕ → List ℕ → List ℕ
written_room out symbols = overwritten (room_refusal (length out) (length symbols)) symbols out

-- the checks before that of the symbols: `refusal` is that of the first conversion's checks up to the trees
abbrev pub work_refusal : ℕ → List ℤ → ℕ → ℕ
work_refusal refusal work needed = first_refusal (refusal ∷ room_refusal (nodes_lent work) needed ∷ [])

unfoldable pub conversion_answer : ℕ → List ℤ → ℕ → List ℕ → List ℕ → ℕ → ConversionAnswer
conversion_answer refusal work needed out symbols looked =
    unless_refused refusal refused_conversion
    (unless_refused (room_refusal (nodes_lent work) needed) (λ six. short_of_work needed)
    (written_conversion out symbols looked))

unfoldable pub conversion_room : ℕ → List ℤ → ℕ → List ℕ → List ℕ → List ℕ
conversion_room refusal work needed out symbols =
    unless_refused (work_refusal refusal work needed) (λ number. out) (written_room out symbols)

-- either expression of one tree, raw or merged
unfoldable pub written_of_one : Bool → Universe → Surfaces → List ℕ → List ℕ
written_of_one merging u surfaces words = symbols (shaped merging (raw u surfaces (tree_of (named surfaces) words)))

-- rule 16.3: of one tree, raw and merged
unfoldable pub raw_of_one_answer : Universe → Surfaces → List ℕ → List ℤ → List ℕ → ConversionAnswer
raw_of_one_answer u surfaces words work out =
    conversion_answer (one_tree_refusal u surfaces words) work (nodes_needed u (length words)) out
    (raw_of_one u surfaces words)
    (nodes_looked u surfaces (one_tree surfaces words))

unfoldable pub raw_of_one_buffer : Universe → Surfaces → List ℕ → List ℤ → List ℕ → List ℕ
raw_of_one_buffer u surfaces words work out =
    conversion_room (one_tree_refusal u surfaces words) work (nodes_needed u (length words)) out (raw_of_one u surfaces words)

unfoldable pub merged_of_one_answer : Universe → Surfaces → List ℕ → List ℤ → List ℕ → ConversionAnswer
merged_of_one_answer u surfaces words work out =
    conversion_answer (one_tree_refusal u surfaces words) work (nodes_needed u (length words)) out
    (merged_of_one u surfaces words) (nodes_looked u surfaces (one_tree surfaces words))

unfoldable pub merged_of_one_buffer : Universe → Surfaces → List ℕ → List ℤ → List ℕ → List ℕ
merged_of_one_buffer u surfaces words work out =
    conversion_room (one_tree_refusal u surfaces words) work (nodes_needed u (length words)) out
    (merged_of_one u surfaces words)

-- of two
unfoldable pub raw_of_two_answer : Universe → Surfaces → List ℕ → List ℕ → List ℤ → List ℕ → ConversionAnswer
raw_of_two_answer u surfaces first second work out =
    conversion_answer (two_trees_refusal u surfaces first second) work (nodes_needed u (length first + length second)) out
    (raw_of_two u surfaces first second) (nodes_looked u surfaces (two_trees surfaces first second))

unfoldable pub raw_of_two_buffer : Universe → Surfaces → List ℕ → List ℕ → List ℤ → List ℕ → List ℕ
raw_of_two_buffer u surfaces first second work out =
    conversion_room (two_trees_refusal u surfaces first second) work (nodes_needed u (length first + length second)) out
    (raw_of_two u surfaces first second)

unfoldable pub merged_of_two_answer : Universe → Surfaces → List ℕ → List ℕ → List ℤ → List ℕ → ConversionAnswer
merged_of_two_answer u surfaces first second work out =
    conversion_answer (two_trees_refusal u surfaces first second) work (nodes_needed u (length first + length second)) out
    (merged_of_two u surfaces first second) (nodes_looked u surfaces (two_trees surfaces first second))

unfoldable pub merged_of_two_buffer : Universe → Surfaces → List ℕ → List ℕ → List ℤ → List ℕ → List ℕ
merged_of_two_buffer u surfaces first second work out =
    conversion_room (two_trees_refusal u surfaces first second) work (nodes_needed u (length first + length second)) out
    (merged_of_two u surfaces first second)

-- rule 16.4: the work room is as it was where one of these checks refuses; else what it holds is not told
abbrev pub work_of_one : Universe → Surfaces → List ℕ → List ℤ → ℕ
work_of_one u surfaces words work = work_refusal (one_tree_refusal u surfaces words) work (nodes_needed u (length words))

abbrev pub work_of_two : Universe → Surfaces → List ℕ → List ℕ → List ℤ → ℕ
work_of_two u surfaces first second work =
    work_refusal (two_trees_refusal u surfaces first second) work (nodes_needed u (length first + length second))
