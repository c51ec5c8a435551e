-- Small shape files of both versions, computed by the definitions: what they say, and which number each change is refused with.
use Prim.Native.Nat.{ℕ}
use mathlib.Core.Path.{◌≡◌, refl}
use mathlib.Core.List.{List, [], ◌∷◌, ◌++◌}
use lib.ListN.{length, set, take, replicate}
use Rattle.lemmas.specs.Sums.{sum, every}
use Rattle.universe.specs.Universe.{universe_refusal, bits_along, levels, equal_bits}
use Rattle.bintree.specs.Shape.{open_symbol, size}
use Rattle.bintree.specs.Reading.{read_leaf, with_high, read_halves, read_at, exactly, expression, expression_refusal}
use Rattle.bintree.specs.Merging.{is_pair, is_merged}
use Rattle.files.specs.Numbers.{u32_bytes, has_header}
use Rattle.files.specs.Shapes.{merged_refusal, symbols_refusal, shape_bytes, is_shape, shape_header, shape_refusal, read_answer}

-- what is said of a file that is refused
refused : ℕ → List ℕ
refused number = number ∷ replicate 4 0

-- shape files of version 1, and what reading one says of refusal, axes, bits, frame bits and symbols
first_shape : ℕ → ℕ → List ℕ → List ℕ
first_shape d k s = 66 ∷ 78 ∷ 84 ∷ 1 ∷ 0 ∷ d ∷ k ∷ u32_bytes (length s) ++ s

shown : List ℕ → List ℕ
shown bytes =
    let r = read_answer bytes (replicate 3 0) in
    r.refusal ∷ r.universe.axes ∷ r.universe.bits ∷ r.universe.frame_bits ∷ r.length ∷ []

-- `(Wb`
halves : List ℕ
halves = open_symbol ∷ 87 ∷ 66 ∷ []

shape : ℕ → ℕ → ℕ → List ℕ → List ℕ
shape d k f s = shape_bytes (record { axes = d; bits = k; frame_bits = f }) s

-- version 1, with its universe; a byte short, with no symbols, one too many, not well-formed, not merged, with each byte at both sides of its limit
first_shapes : List (List ℕ)
first_shapes =
    shown (first_shape 2 2 halves)
    ∷ shown (take 10 (first_shape 2 2 []))
    ∷ shown (first_shape 2 2 [])
    ∷ shown (first_shape 2 2 halves ++ (66 ∷ []))
    ∷ shown (first_shape 2 2 (take 2 halves))
    ∷ shown (first_shape 2 2 (open_symbol ∷ 66 ∷ 66 ∷ []))
    ∷ shown (first_shape 1 10 halves)
    ∷ shown (first_shape 1 11 halves)
    ∷ shown (first_shape 4 10 halves)
    ∷ shown (first_shape 5 10 halves)
    ∷ shown (first_shape 2 11 halves)
    ∷ shown (set (first_shape 2 2 halves) 3 0)
    ∷ shown (set (first_shape 2 2 halves) 3 2)
    ∷ shown (set (first_shape 2 2 halves) 4 1)
    ∷ []

-- version 2, as it is written
later_shapes : List (List ℕ)
later_shapes =
    shown (shape 2 2 2 halves)
    ∷ shown (take 11 (shape 2 2 2 []))
    ∷ shown (shape 2 2 2 [])
    ∷ shown (shape 2 2 2 halves ++ (66 ∷ []))
    ∷ shown (shape 2 2 2 (take 2 halves))
    ∷ shown (shape 2 2 2 (open_symbol ∷ 66 ∷ 66 ∷ []))
    ∷ shown (shape 1 0 12 halves)
    ∷ shown (shape 1 0 13 halves)
    ∷ shown (shape 1 1 12 halves)
    ∷ shown (shape 1 0 0 halves)
    ∷ shown (shape 4 10 12 halves)
    ∷ shown (shape 5 10 12 halves)
    ∷ shown (shape 2 11 2 halves)
    ∷ shown (set (shape 2 2 2 halves) 3 1)
    ∷ shown (set (shape 2 2 2 halves) 3 3)
    ∷ shown (set (shape 2 2 2 halves) 4 1)
    ∷ []

shapes_of_version_1 :
    first_shapes
    ≡ (0 ∷ 2 ∷ 2 ∷ 2 ∷ 3 ∷ [])
    ∷ refused 1
    ∷ refused 7
    ∷ refused 1
    ∷ refused 7
    ∷ refused 8
    ∷ (0 ∷ 1 ∷ 0 ∷ 10 ∷ 3 ∷ [])
    ∷ refused 2
    ∷ (0 ∷ 4 ∷ 10 ∷ 10 ∷ 3 ∷ [])
    ∷ refused 2
    ∷ refused 2
    ∷ refused 1
    ∷ refused 1
    ∷ refused 1
    ∷ []
unfolding every has_header halves shown refused equal_bits shape_bytes is_shape shape_header shape_refusal read_answer symbols_refusal merged_refusal universe_refusal
    bits_along sum levels expression_refusal expression exactly read_at read_halves with_high read_leaf size is_merged is_pair first_shape first_shapes
shapes_of_version_1 = refl

shapes_of_version_2 :
    later_shapes
    ≡ (0 ∷ 2 ∷ 2 ∷ 2 ∷ 3 ∷ [])
    ∷ refused 1
    ∷ refused 7
    ∷ refused 1
    ∷ refused 7
    ∷ refused 8
    ∷ (0 ∷ 1 ∷ 0 ∷ 12 ∷ 3 ∷ [])
    ∷ refused 2
    ∷ refused 2
    ∷ refused 7
    ∷ (0 ∷ 4 ∷ 10 ∷ 12 ∷ 3 ∷ [])
    ∷ refused 2
    ∷ refused 2
    ∷ refused 1
    ∷ refused 1
    ∷ refused 1
    ∷ []
unfolding every has_header halves shown refused equal_bits shape_bytes is_shape shape_header shape_refusal read_answer symbols_refusal merged_refusal universe_refusal
    bits_along sum levels expression_refusal expression exactly read_at read_halves with_high read_leaf size is_merged is_pair shape later_shapes
shapes_of_version_2 = refl

-- version 1 is written as version 2, with its bits as frame bits
first_rewritten :
    shape_bytes (shape_header (first_shape 1 10 halves)).shape.universe halves ≡ 66 ∷ 78 ∷ 84 ∷ 2 ∷ 0 ∷ 1 ∷ 0 ∷ 10 ∷ 3 ∷ 0 ∷ 0 ∷ 0 ∷ halves
unfolding every has_header is_shape shape_header shape_bytes equal_bits first_shape halves
first_rewritten = refl
