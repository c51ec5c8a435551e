-- Section 13 of the rules: what layout is promised of octrees, in terms of what the two calls answer and leave in the
-- room, and of what the colour question answers of expressions.
use Rattle.std.specs.Prelude.{ℕ, ◌+◌, ◌*◌, ◌≤◌, ◌≡◌, List, [], length, take, drop}
use Rattle.universe.specs.declared.Universe.{Universe}
use Rattle.universe.specs.Voxel.{voxel_refusal}
use Rattle.bintree.specs.declared.Colour.{Colour}
use Rattle.bintree.specs.declared.Colour.TheVariants.{White}
use Rattle.bintree.specs.Told.{WrittenAnswer}
use Rattle.octree.specs.Octree.{Octree, octree_symbols, found, of_found, octree_on, octree_colour, reduce, Reduced}
use Rattle.octree.specs.Answers.{export_refusal, import_refusal}
use Rattle.promises.specs.Shortest.{colours_of, Says}

-- the colours of bytes that are an octree, by the order of the sons
abbrev pub octree_colours : Universe → List ℕ → List ℕ → Colour
octree_colours u y v = of_found (octree_on u.bits y) White (λ o past. octree_colour u.bits o v)

-- the reduced octree of what bytes are
abbrev pub reduced_symbols : Universe → List ℕ → List ℕ
reduced_symbols u y = of_found (octree_on u.bits y) [] (λ o past. octree_symbols (reduce o))

-- bytes that are a reduced octree with these colours
pub record ReducedOctree (u : Universe) (colours : List ℕ → Colour) (y : List ℕ) : Type 0 where
  pub octree : Octree
  pub past : ℕ
  pub reads : octree_on u.bits y ≡ found octree past
  pub reduced : Reduced octree
  pub coloured : (v : List ℕ) → voxel_refusal u v ≡ 0 → octree_colour u.bits octree v ≡ colours v

-- The call exported the bytes s, was lent `out`, answered `answer` and left `left` there.
pub record Exported (u : Universe) (s out : List ℕ) (answer : WrittenAnswer) (left : List ℕ) : Type 0 where
  -- whatever is refused, the room is as it was; and what is behind the symbols is, too
  pub kept : (answer.refusal ≡ 0 → ⊥) → left ≡ out
  pub behind : answer.refusal ≡ 0 → drop answer.length left ≡ drop answer.length out
  -- what is written is a reduced octree with the colours that the question answers of s, and the only one
  pub itself : answer.refusal ≡ 0 → ReducedOctree u (colours_of u s) (take answer.length left)
  pub only : answer.refusal ≡ 0 → (y : List ℕ) → ReducedOctree u (colours_of u s) y → take answer.length left ≡ y
  -- import takes it
  pub taken : answer.refusal ≡ 0 → import_refusal u (take answer.length left) ≡ 0
  -- a call that its checks before 6 accept is not refused where so much room is lent
  pub suffices : export_refusal u s ≡ 0 → 4 * length s ≤ length out + 3 → answer.refusal ≡ 0

-- The call imported the bytes s, was lent `out`, answered `answer` and left `left` there.
pub record Imported (u : Universe) (s out : List ℕ) (answer : WrittenAnswer) (left : List ℕ) : Type 0 where
  pub kept : (answer.refusal ≡ 0 → ⊥) → left ≡ out
  pub behind : answer.refusal ≡ 0 → drop answer.length left ≡ drop answer.length out
  -- of what is written the colour question answers with the octree's colours
  pub itself : answer.refusal ≡ 0 → Says u (octree_colours u s) (take answer.length left)
  -- export takes it
  pub taken : answer.refusal ≡ 0 → export_refusal u (take answer.length left) ≡ 0
  -- a call that its checks before 6 accept is not refused where so much room is lent
  pub suffices : import_refusal u s ≡ 0 → 2 * length s ≤ length out + 1 → answer.refusal ≡ 0
