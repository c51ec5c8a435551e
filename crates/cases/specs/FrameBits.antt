-- Rules 1.1 to 1.4 and 5.1 where the frame axis has bits of its own: orders, expressions, room, refusals, windows and
-- numbers, worked out from the rules. A case is one line: what is asked, as numbers, and what must be answered.
use Rattle.std.specs.Prelude.{ℕ, zero, suc, ◌-◌, ◌≡◌, List, [], ◌∷◌, map, ℤ, pos, neg_ℤ, take, replicate, set}
use Prim.Native.String.{String}
use Rattle.universe.specs.declared.Universe.{Universe}
use Rattle.universe.specs.Universe.{universe_refusal, frame_axis, order}
use Rattle.universe.specs.Voxel.{window_refusal}
use Rattle.universe.specs.Room.{room_answer}
use Rattle.bintree.specs.declared.Verdict.{Verdict}
use Rattle.bintree.specs.declared.Verdict.TheVariants.{Clear, Hit}
use Rattle.bintree.specs.Verdicts.{numbers_answer}
use Rattle.csg.specs.Surfaces.{Surfaces, surfaces_of}
use Rattle.convert.specs.Answers.{raw_of_one_answer, raw_of_one_buffer, merged_of_one_answer, merged_of_one_buffer}
use Rattle.cases.specs.Cases.{text}

-- what is asked and what must be answered
pub record Asked : Type 0 where
  pub answered : List ℕ
  pub expected : List ℕ

abbrev pub ◌is◌ : List ℕ → List ℕ → Asked
◌is◌ a b = record { answered = a; expected = b }

infix 4 ◌is◌
-- axes, bits and frame bits
abbrev pub universe_of : ℕ → ℕ → ℕ → Universe
universe_of d k f = record { axes = d; bits = k; frame_bits = f }

-- twice the place along the first axis less the time
abbrev pub slanted : Universe → Surfaces
slanted u = surfaces_of (set (pos 0 ∷ pos 2 ∷ pos 0 ∷ pos 0 ∷ pos 0 ∷ []) (suc (frame_axis u)) (neg_ℤ (pos 1))) []

-- room for it, and what its conversion leaves in that room
abbrev pub room_of : Universe → List ℕ
room_of u = (room_answer u 1 0).symbols ∷ []

abbrev pub lent : Universe → List ℕ
lent u = replicate (room_answer u 1 0).symbols 0

abbrev pub raw_of : Universe → List ℕ
raw_of u =
    take
    (raw_of_one_answer u (slanted u) (256 ∷ []) (lent u)).length
    (raw_of_one_buffer u (slanted u) (256 ∷ []) (lent u))

abbrev pub merged_of : Universe → List ℕ
merged_of u =
    take
    (merged_of_one_answer u (slanted u) (256 ∷ []) (lent u)).length
    (merged_of_one_buffer u (slanted u) (256 ∷ []) (lent u))

-- the volume of an expression, and the first frame, the last frame and the voxels of a hit
abbrev pub told : ℕ → Verdict → List ℕ
told volume Clear = volume ∷ []
told volume (Hit c) = volume ∷ c.first ∷ c.last ∷ c.voxels ∷ []

abbrev pub numbers_of : Universe → String → ℕ → ℕ → List ℕ
numbers_of u s first last =
    let numbers = numbers_answer u (text s) first last in told numbers.volume numbers.verdict

abbrev pub frame_cases : List Asked
frame_cases =
    -- the axes in turn, and one whose bits are used up is passed over
    (order (universe_of 2 1 2) is 0 ∷ 1 ∷ 1 ∷ [])
    ∷ (order (universe_of 2 2 1) is 0 ∷ 1 ∷ 0 ∷ [])
    ∷ (order (universe_of 3 1 2) is 0 ∷ 1 ∷ 2 ∷ 2 ∷ [])
    ∷ (order (universe_of 3 2 1) is 0 ∷ 1 ∷ 2 ∷ 0 ∷ 1 ∷ [])
    ∷ (order (universe_of 4 1 2) is 0 ∷ 1 ∷ 2 ∷ 3 ∷ 3 ∷ [])
    ∷ (order (universe_of 4 2 1) is 0 ∷ 1 ∷ 2 ∷ 3 ∷ 0 ∷ 1 ∷ 2 ∷ [])
    ∷ (order (universe_of 2 0 2) is 1 ∷ 1 ∷ [])
    ∷ (order (universe_of 2 2 0) is 0 ∷ 0 ∷ [])
    ∷ (order (universe_of 1 0 3) is 0 ∷ 0 ∷ 0 ∷ [])
    -- a halfspace aslant in space and time, raw and merged, in the room of its formula
    ∷ (room_of (universe_of 2 1 2) is 13 ∷ [])
    ∷ (raw_of (universe_of 2 1 2) is text "(((BWW(B(BW")
    ∷ (merged_of (universe_of 2 1 2) is text "(((BWW(B(BW")
    ∷ (room_of (universe_of 2 2 1) is 13 ∷ [])
    ∷ (raw_of (universe_of 2 2 1) is text "(((BB(WBB")
    ∷ (merged_of (universe_of 2 2 1) is text "((B(WBB")
    ∷ (room_of (universe_of 3 1 2) is 29 ∷ [])
    ∷ (raw_of (universe_of 3 1 2) is text "((((BWW((BWW((B(BW(B(BW")
    ∷ (merged_of (universe_of 3 1 2) is text "((((BWW((BWW((B(BW(B(BW")
    ∷ (room_of (universe_of 3 2 1) is 55 ∷ [])
    ∷ (raw_of (universe_of 3 2 1) is text "(((((BBB((WWB(((BBB((WWBB")
    ∷ (merged_of (universe_of 3 2 1) is text "(((B(WB(B(WBB")
    ∷ (room_of (universe_of 4 1 2) is 61 ∷ [])
    ∷ (raw_of (universe_of 4 1 2) is text "(((((BWW((BWW(((BWW((BWW(((B(BW(B(BW((B(BW(B(BW")
    ∷ (merged_of (universe_of 4 1 2) is text "(((((BWW((BWW(((BWW((BWW(((B(BW(B(BW((B(BW(B(BW")
    ∷ (room_of (universe_of 4 2 1) is 229 ∷ [])
    ∷ (raw_of (universe_of 4 2 1)
    is text "(((((((BB(BBB(((WW(WWB((((BB(BBB(((WW(WWB(((((BB(BBB(((WW(WWB((((BB(BBB(((WW(WWBB")
    ∷ (merged_of (universe_of 4 2 1) is text "((((B(WB(B(WB((B(WB(B(WBB")
    ∷ (room_of (universe_of 2 0 2) is 7 ∷ [])
    ∷ (raw_of (universe_of 2 0 2) is text "((BWW")
    ∷ (merged_of (universe_of 2 0 2) is text "((BWW")
    ∷ (room_of (universe_of 2 2 0) is 7 ∷ [])
    ∷ (raw_of (universe_of 2 2 0) is text "((BBB")
    ∷ (merged_of (universe_of 2 2 0) is text "B")
    -- each limit at both its sides; one axis has frame bits alone
    ∷ (universe_refusal (universe_of 1 0 12) ∷ [] is 0 ∷ [])
    ∷ (universe_refusal (universe_of 1 0 13) ∷ [] is 2 ∷ [])
    ∷ (universe_refusal (universe_of 1 1 1) ∷ [] is 2 ∷ [])
    ∷ (universe_refusal (universe_of 1 1 0) ∷ [] is 2 ∷ [])
    ∷ (universe_refusal (universe_of 2 10 12) ∷ [] is 0 ∷ [])
    ∷ (universe_refusal (universe_of 2 10 13) ∷ [] is 2 ∷ [])
    ∷ (universe_refusal (universe_of 2 11 12) ∷ [] is 2 ∷ [])
    ∷ (universe_refusal (universe_of 4 10 12) ∷ [] is 0 ∷ [])
    ∷ (universe_refusal (universe_of 5 0 0) ∷ [] is 2 ∷ [])
    -- windows end at the last frame, which the frame bits say alone
    ∷ (window_refusal (universe_of 1 0 12) 0 4095 ∷ [] is 0 ∷ [])
    ∷ (window_refusal (universe_of 1 0 12) 4095 4095 ∷ [] is 0 ∷ [])
    ∷ (window_refusal (universe_of 1 0 12) 0 4096 ∷ [] is 9 ∷ [])
    ∷ (window_refusal (universe_of 4 10 0) 0 0 ∷ [] is 0 ∷ [])
    ∷ (window_refusal (universe_of 4 10 0) 0 1 ∷ [] is 9 ∷ [])
    ∷ (window_refusal (universe_of 2 0 2) 3 3 ∷ [] is 0 ∷ [])
    ∷ (window_refusal (universe_of 2 0 2) 4 4 ∷ [] is 9 ∷ [])
    ∷ (window_refusal (universe_of 2 2 1) 1 1 ∷ [] is 0 ∷ [])
    ∷ (window_refusal (universe_of 2 2 1) 0 2 ∷ [] is 9 ∷ [])
    -- black voxels, in all and in the last frame
    ∷ (numbers_of (universe_of 1 0 12) "B" 4095 4095 is 4096 ∷ 4095 ∷ 4095 ∷ 1 ∷ [])
    ∷ (numbers_of (universe_of 4 10 12) "B" 4095 4095 is 4398046511104 ∷ 4095 ∷ 4095 ∷ 1073741824 ∷ [])
    ∷ (numbers_of (universe_of 2 0 2) "(W(WB" 0 3 is 1 ∷ 3 ∷ 3 ∷ 1 ∷ [])
    ∷ (numbers_of (universe_of 2 1 2) "(W(W(WB" 0 3 is 1 ∷ 3 ∷ 3 ∷ 1 ∷ [])
    ∷ []

-- every one is answered as it must be
abbrev pub FrameCasesHold : Type 0
FrameCasesHold = map (λ c. c.answered) frame_cases ≡ map (λ c. c.expected) frame_cases
