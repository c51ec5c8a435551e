-- Rule 9.4: numbers in decimal, as bytes. `decimal` writes one, `value` reads one, `Numeral` says which are right.
use Rattle.std.specs.Prelude.{ℕ, zero, suc, ◌+◌, ◌*◌, ◌-◌, ◌/◌, ◌%◌, ◌≤◌, true, false, ◌≡◌, List, [], ◌∷◌, ◌++◌, ltb, get_or}

-- the byte of a digit, 48 for `0` to 57 for `9`
abbrev pub digit : ℕ → ℕ
digit d = 48 + d

-- the digits of a number that has no more than so many: one below 10, else those of its tens and then that of its units
unfoldable pub digits : ℕ → ℕ → List ℕ
digits zero n = []
digits (suc most) n = elim (ltb n 10) [ true ↦ digit n ∷ [] | false ↦ digits most (n / 10) ++ (digit (n % 10) ∷ []) ]

-- all digits of a number: n has no more than n + 1
unfoldable pub decimal : ℕ → List ℕ
decimal n = digits (suc n) n

-- the number that bytes of digits say, read from the left, behind what was read before
unfoldable pub value : ℕ → List ℕ → ℕ
value before [] = before
value before (b ∷ bs) = value (10 * before + (b - digit 0)) bs

-- every byte is a digit
pub data AllDigits : List ℕ → Type 0 where
  none : AllDigits []
  more : {b : ℕ} {bs : List ℕ} → digit 0 ≤ b → b ≤ digit 9 → AllDigits bs → AllDigits (b ∷ bs)

-- bytes are the numeral of a number: digits that say it, the first of which is 0 for the number 0 alone
pub record Numeral (n : ℕ) (bytes : List ℕ) : Type 0 where
  pub all : AllDigits bytes
  pub says : value 0 bytes ≡ n
  pub first : get_or bytes 0 (digit 0) ≡ digit 0 → bytes ≡ digit 0 ∷ []
