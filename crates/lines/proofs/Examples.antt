-- Lines in full, as one list: what is computed, and what it must be.
use mathlib.Core.Path.{◌≡◌, refl}
use mathlib.Core.List.{List, [], ◌∷◌, ◌++◌}
use Prim.Native.Nat.{ℕ}
use Rattle.lemmas.specs.Sums.{sum, product}
use Rattle.universe.specs.Rounds.{round, rounds}
use Rattle.universe.specs.Universe.{equal_bits, universe_refusal, bits_along, levels, order, axis_at, halvings, blocks_along}
use Rattle.universe.specs.Room.{blocks_at, inner_blocks_at, level_count, room, room_answer}
use Rattle.bintree.specs.declared.Verdict.TheVariants.{Clear, Hit}
use Rattle.convert.specs.Answers.{done_clearance}
use Rattle.lines.specs.Decimal.{digits, decimal}
use Rattle.lines.specs.Lines.{bits_of, text, refused_line, short_line, universe_line, counts_line, verdict_line}
use Rattle.lines.specs.Program.{clearance_lines}

abbrev computed : List (List ℕ)
computed =
    decimal 0
    ∷ decimal 10
    ∷ decimal 18_446_744_073_709_551_615
    ∷ refused_line 10
    ∷ short_line 32_769
    ∷ (universe_line 1 (equal_bits 2 2) ++ counts_line 4 13 31 ++ verdict_line (Hit (record { first = 1; last = 2; voxels = 2 })))
    ∷ universe_line 1 (equal_bits 1 10)
    ∷ universe_line 1 (equal_bits 4 0)
    ∷ universe_line 2 (record { axes = 4; bits = 6; frame_bits = 11 })
    ∷ universe_line 2 (equal_bits 1 10)
    ∷ universe_line 2 (record { axes = 2; bits = 2; frame_bits = 0 })
    ∷ universe_line 3 (record { axes = 4; bits = 6; frame_bits = 11 })
    ∷ universe_line 3 (equal_bits 2 2)
    ∷ verdict_line Clear
    ∷ []

abbrev expected : List (List ℕ)
expected =
    text "0"
    ∷ text "10"
    ∷ text "18446744073709551615"
    ∷ text "refused 10\n"
    ∷ text "refused 6 needed 32769\n"
    ∷ text "axes 2 bits 2\nleaves 4 raw 13 room 31\nhit first 1 last 2 voxels 2\n"
    ∷ text "axes 1 bits 10\n"
    ∷ text "axes 4 bits 0\n"
    ∷ text "axes 4 bits 6 frame 11\n"
    ∷ text "axes 1 bits 0 frame 10\n"
    ∷ text "axes 2 bits 2 frame 0\n"
    ∷ text "axes 4 bits 6 frame 11\n"
    ∷ text "axes 2 bits 2 frame 2\n"
    ∷ text "clear\n"
    ∷ []

-- a scene of version 3 in 16 voxels: line 2 counts no ball word among the leaves, and its room is that of all blocks where there is one
abbrev with_balls : ℕ → ℕ → List ℕ
with_balls leaves balls = clearance_lines 3 (equal_bits 2 2) leaves balls (done_clearance Clear 3)

pub room_with_balls :
    with_balls 0 1 ++ with_balls 1 2 ++ with_balls 1 0 ++ with_balls 0 0
    ≡ text "axes 2 bits 2 frame 2\nleaves 0 raw 3 room 31\nclear\n"
    ++ text "axes 2 bits 2 frame 2\nleaves 1 raw 3 room 31\nclear\n"
    ++ text "axes 2 bits 2 frame 2\nleaves 1 raw 3 room 23\nclear\n"
    ++ text "axes 2 bits 2 frame 2\nleaves 0 raw 3 room 1\nclear\n"
unfolding sum product decimal digits bits_of equal_bits universe_refusal round rounds bits_along levels order axis_at halvings blocks_along blocks_at inner_blocks_at
    level_count room room_answer clearance_lines
room_with_balls = refl

pub lines_are : computed ≡ expected
unfolding decimal digits bits_of equal_bits
lines_are = refl
