-- Rule 1.3: the order in which axes are halved, axis i as often as it has bits, round after round: the axes take turns,
-- and one that has no bits left is passed over. And such an order with one axis left out.
use Rattle.std.specs.Prelude.{ℕ, zero, suc, ◌-◌, Bool, cond, List, [], ◌∷◌, ◌++◌, eqb, ltb}

-- the axis alone, where the test holds
abbrev pub only_if : Bool → ℕ → List ℕ
only_if test axis = cond test (axis ∷ []) []

-- round r: in turn, the axes below d that have more than r bits
unfoldable pub round : (ℕ → ℕ) → ℕ → ℕ → List ℕ
round bits r zero = []
round bits r (suc i) = round bits r i ++ only_if (ltb r (bits i)) i

-- the first n rounds, joined
unfoldable pub rounds : (ℕ → ℕ) → ℕ → ℕ → List ℕ
rounds bits d zero = []
rounds bits d (suc r) = rounds bits d r ++ round bits r d

-- the number that axis i has once axis j is left out, and the number that the axis which is i then had before
abbrev pub axis_after : ℕ → ℕ → ℕ
axis_after j i = cond (ltb i j) i (i - 1)

abbrev pub axis_before : ℕ → ℕ → ℕ
axis_before j i = cond (ltb i j) i (suc i)

-- axis i under its new number, unless it is axis j
abbrev pub kept : ℕ → ℕ → List ℕ
kept j i = cond (eqb i j) [] (axis_after j i ∷ [])

-- a list of axes with axis j left out, and the later axes renumbered
unfoldable pub without : ℕ → List ℕ → List ℕ
without j [] = []
without j (i ∷ axes) = kept j i ++ without j axes
