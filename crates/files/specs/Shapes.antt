-- Rules 7.3, 7.5 and 8.7: the shape. Behind what every file begins with, `shape_header`, by `is_shape` and
-- `shape_header_of`, and `shape_header_bytes` alone know its versions and its places.
use Rattle.std.specs.Prelude.{ℕ, ◌+◌, ◌-◌, Bool, true, cond, ◌&&◌, ◌||◌, List, [], ◌∷◌, ◌++◌, leb, eqb, length, take, drop}
use Rattle.universe.specs.declared.Universe.{Universe}
use Rattle.universe.specs.Refusals.{first_refusal, unless, no_room, not_merged}
use Rattle.universe.specs.Lent.{overwritten, room_refusal}
use Rattle.bintree.specs.Told.{WrittenAnswer}
use Rattle.bintree.specs.Reading.{expression}
use Rattle.bintree.specs.Merging.{is_merged}
use Rattle.bintree.specs.Answers.{of_shape, unless_refused, expression_checks, refused_writing, short_writing, done_writing}
use Rattle.files.specs.Told.{ShapeAnswer, ShapeHeaderAnswer, refused_shape, short_shape, no_shape_header}
use Rattle.files.specs.Numbers.{u32_at, u16_bytes, u32_bytes, mark_of, version_of, universe_said, has_header}

-- rule 7.3: a shape's mark, `BNT`
abbrev pub shape_mark : List ℕ
shape_mark = mark_of 66 78 84

-- rules 7.3 and 7.5: the version that is written; the length of the header by its version, of which version 1 has no
-- byte for the frame bits; and the most symbols that its count can say
abbrev pub shape_version : ℕ
shape_version = 2

abbrev pub shape_header_length : ℕ → ℕ
shape_header_length version = cond (eqb version 1) 11 12

abbrev pub most_symbols : ℕ
most_symbols = 4_294_967_295

-- rule 8.1, number 8: an expression that is not merged; one that is not well-formed is refused before
unfoldable pub merged_refusal : Universe → List ℕ → ℕ
merged_refusal u s = unless (of_shape (expression u s) true is_merged) not_merged

-- rule 8.5: the checks of an expression that is or goes into a shape file, 2, 7 and 8
abbrev pub symbols_checks : Universe → List ℕ → List ℕ
symbols_checks u s = expression_checks u s ++ (merged_refusal u s ∷ [])

unfoldable pub symbols_refusal : Universe → List ℕ → ℕ
symbols_refusal u s = first_refusal (symbols_checks u s)

-- rule 7.3: mark and version, axes, bits, frame bits, and how many symbols there are
abbrev pub shape_header_bytes : Universe → ℕ → List ℕ
shape_header_bytes u count =
    shape_mark ++ u16_bytes shape_version ++ (u.axes ∷ u.bits ∷ u.frame_bits ∷ u32_bytes count)

-- the shape file of an expression, and its length
unfoldable pub shape_bytes : Universe → List ℕ → List ℕ
shape_bytes u s = shape_header_bytes u (length s) ++ s

abbrev pub shape_length : ℕ → ℕ
shape_length count = shape_header_length shape_version + count

-- rule 8.1, number 6: more bytes than are lent, or more symbols than the header can say
unfoldable pub file_refusal : ℕ → ℕ → ℕ
file_refusal lent count = cond (leb count most_symbols) (room_refusal lent (shape_length count)) no_room

-- rule 8.7: what writing a shape file answers, and what the room holds afterwards
unfoldable pub write_answer : Universe → List ℕ → List ℕ → WrittenAnswer
write_answer u s out =
    unless_refused (symbols_refusal u s) refused_writing
    (unless_refused (file_refusal (length out) (length s)) (λ six. short_writing (shape_length (length s)))
    (done_writing (shape_length (length s))))

abbrev pub write_buffer : Universe → List ℕ → List ℕ → List ℕ
write_buffer u s out = overwritten (write_answer u s out).refusal (shape_bytes u s) out

-- how many symbols the header says that there are: its last four bytes
abbrev pub symbol_count : List ℕ → ℕ
symbol_count bytes = u32_at bytes (shape_header_length (version_of bytes) - 4)

-- rule 7.5: the versions that are read
abbrev pub is_version : ℕ → Bool
is_version version = eqb version 1 || eqb version shape_version

-- whether bytes are a shape by mark, version and length; a count that does not fit the length is number 1
unfoldable pub is_shape : List ℕ → Bool
is_shape bytes =
    has_header bytes (shape_header_length (version_of bytes)) shape_mark
    && is_version (version_of bytes)
    && eqb (length bytes) (shape_header_length (version_of bytes) + symbol_count bytes)

-- what the header says of the shape, and where the symbols begin; number 1 where the file is no shape
abbrev pub shape_header_of : List ℕ → ShapeHeaderAnswer
shape_header_of bytes =
    record {
      shape =
          record {
            refusal = 0;
            universe = universe_said bytes;
            length = symbol_count bytes;
          };
      place = shape_header_length (version_of bytes);
    }

unfoldable pub shape_header : List ℕ → ShapeHeaderAnswer
shape_header bytes = cond (is_shape bytes) (shape_header_of bytes) no_shape_header

-- the symbols
abbrev pub symbols_of : List ℕ → ShapeHeaderAnswer → List ℕ
symbols_of bytes h = take h.shape.length (drop h.place bytes)

-- rule 8.5: 1, 2, 7, 8
abbrev pub shape_checks : List ℕ → ShapeHeaderAnswer → List ℕ
shape_checks bytes h = h.shape.refusal ∷ symbols_refusal h.shape.universe (symbols_of bytes h) ∷ []

unfoldable pub shape_refusal : List ℕ → ℕ
shape_refusal bytes = first_refusal (shape_checks bytes (shape_header bytes))

-- rule 8.7: what reading a shape file answers, which asks for room for its symbols, and what the room holds afterwards
abbrev pub read_header : ℕ → ShapeHeaderAnswer → ShapeAnswer
read_header lent h =
    unless_refused (room_refusal lent h.shape.length) (λ six. short_shape h.shape.length) h.shape

unfoldable pub read_answer : List ℕ → List ℕ → ShapeAnswer
read_answer bytes out = unless_refused (shape_refusal bytes) refused_shape (read_header (length out) (shape_header bytes))

abbrev pub read_buffer : List ℕ → List ℕ → List ℕ
read_buffer bytes out = overwritten (read_answer bytes out).refusal (symbols_of bytes (shape_header bytes)) out
