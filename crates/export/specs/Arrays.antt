-- Rule 11.1: what the face for C and Rust hands over as plain numbers: a universe and a proxy made of them, and an
-- answer's fields in the order of its array. An answer's refusal is the number that a function returns; the array holds
-- the rest.
use Rattle.std.specs.Prelude.{ℕ, Bool, true, false, Option, Some, None, List, [], ◌∷◌, Float}
use Rattle.universe.specs.declared.Universe.{Universe}
use Rattle.universe.specs.Told.{RoomAnswer}
use Rattle.bintree.specs.declared.Colour.{Colour}
use Rattle.bintree.specs.declared.Colour.TheVariants.{White, Black}
use Rattle.bintree.specs.declared.Verdict.{Verdict}
use Rattle.bintree.specs.declared.Verdict.TheVariants.{Clear, Hit}
use Rattle.bintree.specs.Told.{WrittenAnswer, MergedAnswer, ColouredAnswer, PlacedAnswer, NumbersAnswer}
use Rattle.convert.specs.Told.{ClearanceAnswer}
use Rattle.pruned.specs.Told.{ConversionAnswer}
use Rattle.at_once.specs.declared.answer.Ends as spans
use Rattle.at_once.specs.Told.{JudgedAnswer, SpannedAnswer, ContactsAnswer}
use Rattle.files.specs.Told.{SceneAnswer, ShapeAnswer}
use Rattle.report.specs.Told.{ReportAnswer}
use Rattle.sweep.specs.Told.{SweptAnswer}
use Rattle.standin.specs.declared.Triple.{Triple}
use Rattle.standin.specs.declared.Solid.TheVariants.{Box, Cut}
use Rattle.standin.specs.declared.Proxy.{Proxy}
use Rattle.export.specs.declared.verdicts.Told.{Told}
use Rattle.export.specs.declared.answers.Ends.{Ends}

-- a universe of its three numbers
abbrev pub universe_of : ℕ → ℕ → ℕ → Universe
universe_of axes bits frame_bits = record { axes = axes; bits = bits; frame_bits = frame_bits }

-- room in symbols
abbrev pub room_array : RoomAnswer → List ℕ
room_array a = a.symbols ∷ []

-- the length written, or needed on 6
abbrev pub length_array : WrittenAnswer → List ℕ
length_array a = a.length ∷ []

-- rule 16.4: whether a pruned conversion lacks work room, the length written, or needed on 6, and the nodes looked at
abbrev pub lack_number : Bool → ℕ
lack_number true = 1
lack_number false = 0

abbrev pub conversion_array : ConversionAnswer → List ℕ
conversion_array a = lack_number a.short_of_work ∷ a.length ∷ a.looked ∷ []

-- the same of merging, and the largest count of symbols that are held back
abbrev pub merged_array : MergedAnswer → List ℕ
merged_array a = a.length ∷ a.held ∷ []

-- rule 11.2: a verdict as hit (0 Clear, 1 Hit), first frame, last frame and voxels
abbrev pub told_of : Verdict → Told
told_of Clear = record { hit = 0; first = 0; last = 0; voxels = 0 }
told_of (Hit contact) = record { hit = 1; first = contact.first; last = contact.last; voxels = contact.voxels }

-- then the raw expression's length, needed on 6
abbrev pub clearance_array : ClearanceAnswer → List ℕ
clearance_array a =
    let told = told_of a.verdict in told.hit ∷ told.first ∷ told.last ∷ told.voxels ∷ a.length ∷ []

-- rule 17.1: a verdict at once, and its ends as hit (0 Clear, 1 Hit), first frame and last frame
abbrev pub judged_array : JudgedAnswer → List ℕ
judged_array a = let told = told_of a.verdict in told.hit ∷ told.first ∷ told.last ∷ told.voxels ∷ []

abbrev pub ends_of : Option spans.Ends → Ends
ends_of None = record { hit = 0; first = 0; last = 0 }
ends_of (Some ends) = record { hit = 1; first = ends.first; last = ends.last }

abbrev pub spanned_array : SpannedAnswer → List ℕ
spanned_array a = let ends = ends_of a.span in ends.hit ∷ ends.first ∷ ends.last ∷ []

-- rule 14.2: the voxels that are sure, those that are black at their centre, and those that are possible
abbrev pub contacts_array : ContactsAnswer → List ℕ
contacts_array a = a.sure ∷ a.centre ∷ a.possible ∷ []

-- the volume, and a verdict behind it
abbrev pub numbers_array : NumbersAnswer → List ℕ
numbers_array a =
    let told = told_of a.verdict in a.volume ∷ told.hit ∷ told.first ∷ told.last ∷ told.voxels ∷ []

-- how many counts of a row are set, needed on 6, and their total
abbrev pub report_array : ReportAnswer → List ℕ
report_array a = a.frames ∷ a.total ∷ []

-- rule 11.2: a colour as a number
abbrev pub colour_number : Colour → ℕ
colour_number White = 0
colour_number Black = 1

abbrev pub colour_array : ColouredAnswer → List ℕ
colour_array a = colour_number a.colour ∷ []

-- where a part starts, and its length
abbrev pub place_array : PlacedAnswer → List ℕ
place_array a = a.start ∷ a.length ∷ []

-- a scene's version, axes, bits, frame bits, rows, balls, words of tree 1 and of tree 2, first frame and last frame
abbrev pub scene_array : SceneAnswer → List ℕ
scene_array a =
    a.version
    ∷ a.universe.axes ∷ a.universe.bits ∷ a.universe.frame_bits
    ∷ a.counts.rows ∷ a.counts.balls ∷ a.counts.first ∷ a.counts.second
    ∷ a.window.first ∷ a.window.last ∷ []

-- a shape's axes, bits, frame bits and length, needed on 6
abbrev pub shape_array : ShapeAnswer → List ℕ
shape_array a = a.universe.axes ∷ a.universe.bits ∷ a.universe.frame_bits ∷ a.length ∷ []

-- rule 12.3: the axes, bits and frame bits of the universe that a sweep is of, and its length, needed on 6
abbrev pub swept_array : SweptAnswer → List ℕ
swept_array a = a.universe.axes ∷ a.universe.bits ∷ a.universe.frame_bits ∷ a.length ∷ []

-- rule 6.1: a corner, a normal or a displacement of its three floats
abbrev pub triple_of : Float → Float → Float → Triple
triple_of x y z = record { x = x; y = y; z = z }

-- a Box of its two corners, a Cut of its normal and its offset, each with its displacement
abbrev pub box_of : Triple → Triple → Triple → Proxy
box_of near far displacement = record { solid = Box (record { near = near; far = far }); displacement = displacement }

abbrev pub cut_of : Triple → Float → Triple → Proxy
cut_of normal offset displacement =
    record { solid = Cut (record { normal = normal; offset = offset }); displacement = displacement }
