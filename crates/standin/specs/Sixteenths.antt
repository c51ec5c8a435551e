-- Rule 6.2: which floats are whole numbers of sixteenths, within a limit. The toolchain's `fin s m e` is the number
-- m · 2^e, negative where s is true, so its size is the fraction m · up e / down e.
use Rattle.std.specs.Prelude.{ℕ, ◌*◌, ◌/◌, ◌%◌, Bool, false, cond, ◌&&◌, ℤ, pos, neg_ℤ, ◌==◌, nat_le, Float}
use Rattle.std.specs.Float.{nan, inf, fin}
use Rattle.std.specs.Float.Ieee.{up, down}

-- rule 6.2: the limits of a corner and an offset, and those of a normal and a displacement, in sixteenths
abbrev pub corner_limit : ℕ
corner_limit = 4_096 * 16

abbrev pub normal_limit : ℕ
normal_limit = 64 * 16

-- a whole number by its sign and its size
abbrev pub with_sign : Bool → ℕ → ℤ
with_sign negative size = cond negative (neg_ℤ (pos size)) (pos size)

-- 16·x of a multiple of 1/16; NaN and the infinities have none
unfoldable pub sixteenths : Float → ℤ
sixteenths nan = pos 0
sixteenths (inf s) = pos 0
sixteenths (fin s m e) = with_sign s (m * up e * 16 / down e)

-- rule 6.2: x is finite, 16 times its fraction is whole, and that is at most the limit
unfoldable pub is_taken : ℕ → Float → Bool
is_taken limit nan = false
is_taken limit (inf s) = false
is_taken limit (fin s m e) = m * up e * 16 % down e == 0 && nat_le (m * up e * 16 / down e) limit
