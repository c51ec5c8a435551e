-- Masks: numbers whose digits, to the base 2, tell at which numbers a test holds.
use Rattle.std.specs.Prelude.{ℕ, ◌-◌, ◌*◌, ◌/◌, ◌%◌, ◌^◌, Bool, eqb}
use Rattle.lemmas.specs.Sums.{sum}
use Rattle.lemmas.specs.Grid.{count}

-- digit i of a number, the lowest first, and whether it is 1
abbrev pub digit_of : ℕ → ℕ → ℕ
digit_of m i = m / 2 ^ i % 2

unfoldable pub has_digit : ℕ → ℕ → Bool
has_digit m i = eqb (digit_of m i) 1

-- the mask of a test: of its digits below n, digit i is 1 exactly where the test holds at i; the others are 0
unfoldable pub mask_of : ℕ → (ℕ → Bool) → ℕ
mask_of n test = sum n (λ i. count (test i) * 2 ^ i)

-- at how many of the numbers below n a test holds
unfoldable pub tally : ℕ → (ℕ → Bool) → ℕ
tally n test = sum n (λ i. count (test i))

-- the mask of n digits that are all 1, and a mask with its lowest n digits exchanged
abbrev pub all_ones : ℕ → ℕ
all_ones n = 2 ^ n - 1

abbrev pub exchanged : ℕ → ℕ → ℕ
exchanged n m = all_ones n - m
