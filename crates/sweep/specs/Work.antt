-- Rule 12.7: how many symbols a pass over an expression reads at the most, by what stands over each block of the
-- result. The first symbols of a list are looked at for what they come to; where that is one colour, each tree is read
-- to its end. Else they are looked at for the low halves and on the way back, and at a level of the dropped axis each
-- low half is read to its end, where its high half begins.
use Rattle.std.specs.Prelude.{ℕ, ◌+◌, ◌*◌, Bool, true, false, cond, List, [], ◌∷◌, ◌++◌, eqb, length}
use Rattle.bintree.specs.Shape.{Shape, leaf, halved}
use Rattle.sweep.specs.Places.{unions, lows, highs, total}

abbrev pub is_halved : Shape → Bool
is_halved (leaf c) = false
is_halved (halved a b) = true

unfoldable pub reads : List ℕ → ℕ → List Shape → ℕ
reads [] j ts = length ts + total ts
reads (x ∷ order) j ts =
    let both = total (lows ts) + reads order j (lows ts ++ highs ts) in
    let each = reads order j (lows ts) + reads order j (highs ts) in
    cond (is_halved (unions ts)) (3 * length ts + cond (eqb x j) both each) (length ts + total ts)
