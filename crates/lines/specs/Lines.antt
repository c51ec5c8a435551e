-- Rules 9.2 to 9.4: the lines, byte for byte.
use Rattle.std.specs.Prelude.{ℕ, cond, eqb, List, [], ◌∷◌, ◌++◌}
use Prim.Native.String.{String}
use Prim.Native.Char.{code}
use Rattle.universe.specs.declared.Universe.{Universe}
use Rattle.universe.specs.Refusals.{no_room}
use Rattle.bintree.specs.declared.Contact.{Contact}
use Rattle.bintree.specs.declared.Verdict.{Verdict}
use Rattle.bintree.specs.declared.Verdict.TheVariants.{Clear, Hit}
use Rattle.lines.specs.Decimal.{decimal}

-- the bytes of quoted text
abbrev pub text : String → List ℕ
text String.[] = []
text (String.◌∷◌ c s) = code c ∷ text s

-- a word and a number
abbrev pub labelled : String → ℕ → List ℕ
labelled word n = text word ++ decimal n

-- rule 9.3: the one line of a scene that is refused, by its number
abbrev pub refused_line : ℕ → List ℕ
refused_line number = labelled "refused " number ++ text "\n"

-- the one line of a scene that is refused for room: how many symbols it takes
abbrev pub short_line : ℕ → List ℕ
short_line needed = labelled "refused " no_room ++ labelled " needed " needed ++ text "\n"

-- rule 9.2, line 1: the universe of a scene of a version; version 1 says how many bits each axis has (rule 7.5), which
-- are the frame bits, and for one axis those alone
unfoldable pub bits_of : ℕ → Universe → List ℕ
bits_of version u =
    cond (eqb version 1) (labelled " bits " u.frame_bits)
    (labelled " bits " u.bits ++ labelled " frame " u.frame_bits)

abbrev pub universe_line : ℕ → Universe → List ℕ
universe_line version u = labelled "axes " u.axes ++ bits_of version u ++ text "\n"

-- line 2: N (rule 3.6), the raw expression's length, and room (rules 4.7 and 4.14)
abbrev pub counts_line : ℕ → ℕ → ℕ → List ℕ
counts_line leaves raw room = labelled "leaves " leaves ++ labelled " raw " raw ++ labelled " room " room ++ text "\n"

-- line 3 of a hit: its first and its last frame, and its voxels
abbrev pub contact_line : Contact → List ℕ
contact_line c =
    labelled "hit first " c.first ++ labelled " last " c.last ++ labelled " voxels " c.voxels ++ text "\n"

-- line 3
abbrev pub verdict_line : Verdict → List ℕ
verdict_line Clear = text "clear\n"
verdict_line (Hit c) = contact_line c
