-- `decimal n` is the numeral of n: its bytes are digits, read back they say n, and the first is 0 for 0 alone. It is worked out by the number's
-- tens and units, as the code does it; a number of 64 bits has at most 20 digits.
use Prim.Native.Nat.{ℕ, zero, suc, ◌+◌, ◌*◌, ◌-◌, ◌/◌, ◌%◌, ◌^◌, ◌≤◌, ◌<◌}
use native.Mathlib.Omega.{arith}
use native.Mathlib.Nat.{pow-suc}
use native.Mathlib.Decide.{dec_lt}
use mathlib.Core.Path.{◌≡◌, refl, sym, ap, ◌∙◌}
use mathlib.Core.List.{List, [], ◌∷◌, ◌++◌}
use lib.ListN.{length, get_or, length-append, get_or-append}
use borrow.Author.Tests.{lt-ltb, le-ltb}
use Rattle.lines.specs.Decimal.{digit, digits, decimal, value, AllDigits, none, more, Numeral}
use Rattle.lines.specs.Appended.{most_digits}

-- ---- the digits one by one
digits_small : (f n : ℕ) → n < 10 → digits (suc f) n ≡ digit n ∷ []
unfolding digits
digits_small f n h = rw (lt-ltb n 10 h, digits)

digits_large : (f n : ℕ) → 10 ≤ n → digits (suc f) n ≡ digits f (n / 10) ++ (digit (n % 10) ∷ [])
unfolding digits
digits_large f n h = rw (le-ltb n 10 h, digits)

-- a number and its digits, the last one last
data Spelled : ℕ → List ℕ → Type 0 where
  units : {n : ℕ} → n < 10 → Spelled n (digit n ∷ [])
  tens : {n : ℕ} {bs : List ℕ} → 10 ≤ n → Spelled (n / 10) bs → Spelled n (bs ++ (digit (n % 10) ∷ []))

spelled : (f n : ℕ) → n < f → Spelled n (digits f n)
spelled zero n h = absurd (omega arith)
spelled (suc f) n h = by (λ l. spelled f (n / 10) (omega (arith, l))) (dec_lt n 10)
  where
    by : (10 ≤ n → Spelled (n / 10) (digits f (n / 10))) → Dec (n < 10) → Spelled n (digits (suc f) n)
    by rest (yes s) = rw (digits_small f n s) (units s)
    by rest (no l) =
        let large : 10 ≤ n = omega (arith, l) in
        rw (digits_large f n large) (tens large (rest large))

-- as many digits as suffice are the same digits
digits_same : (f g n : ℕ) → n < f → n < g → digits f n ≡ digits g n
digits_same zero g n h k = absurd (omega arith)
digits_same (suc f) zero n h k = absurd (omega arith)
digits_same (suc f) (suc g) n h k = by (λ l. digits_same f g (n / 10) (omega (arith, l)) (omega (arith, l))) (dec_lt n 10)
  where
    by : (10 ≤ n → digits f (n / 10) ≡ digits g (n / 10)) → Dec (n < 10) → digits (suc f) n ≡ digits (suc g) n
    by rest (yes s) = digits_small f n s ∙ sym (digits_small g n s)
    by rest (no l) =
        let large : 10 ≤ n = omega (arith, l) in
        digits_large f n large ∙ rw (rest large) (sym (digits_large g n large))

-- ---- by units and tens
pub decimal_units : (n : ℕ) → n < 10 → decimal n ≡ digit n ∷ []
unfolding decimal
decimal_units n h = digits_small n n h

pub decimal_tens : (n : ℕ) → 10 ≤ n → decimal n ≡ decimal (n / 10) ++ (digit (n % 10) ∷ [])
unfolding decimal
decimal_tens n h =
    digits_large n n h ∙ ap (λ (bs : List ℕ). bs ++ (digit (n % 10) ∷ [])) (digits_same n (suc (n / 10)) (n / 10) (omega arith) (omega arith))

-- one digit, and one more than the tens have
pub units_few : (n : ℕ) → n < 10 → length (decimal n) ≡ 1
units_few n h = ap length (decimal_units n h)

pub tens_few : (n : ℕ) → 10 ≤ n → length (decimal n) ≡ length (decimal (n / 10)) + 1
tens_few n h = ap length (decimal_tens n h) ∙ length-append (decimal (n / 10)) (digit (n % 10) ∷ [])

decimal_spelled : (n : ℕ) → Spelled n (decimal n)
unfolding decimal
decimal_spelled n = spelled (suc n) n (omega arith)

-- ---- the numeral
value_last : (bs : List ℕ) (before b : ℕ) → value before (bs ++ (b ∷ [])) ≡ 10 * value before bs + (b - digit 0)
unfolding value
value_last [] before b = refl
value_last (a ∷ bs) before b = value_last bs (10 * before + (a - digit 0)) b

all_last : {bs : List ℕ} {b : ℕ} → AllDigits bs → digit 0 ≤ b → b ≤ digit 9 → AllDigits (bs ++ (b ∷ []))
all_last none h k = more h k none
all_last (more p q r) h k = more p q (all_last r h k)

all_digits : {n : ℕ} {bs : List ℕ} → Spelled n bs → AllDigits bs
all_digits (units {n} h) = more {b = digit n} (omega arith) (omega arith) none
all_digits (tens {n} h s) = all_last {b = digit (n % 10)} (all_digits s) (omega arith) (omega arith)

says_it : {n : ℕ} {bs : List ℕ} → Spelled n bs → value 0 bs ≡ n
unfolding value
says_it (units h) = omega arith
says_it {n} (tens {bs = bs} h s) = omega (arith, value_last bs 0 (digit (n % 10)), says_it s)

some_digits : {n : ℕ} {bs : List ℕ} → Spelled n bs → 0 < length bs
some_digits (units h) = omega arith
some_digits (tens {bs = bs} h s) = simp length-append (omega arith)

-- the first digit is that of the tens
first_zero : {n : ℕ} {bs : List ℕ} → Spelled n bs → get_or bs 0 (digit 0) ≡ digit 0 → n ≡ 0
first_zero (units h) e = omega arith
first_zero {n} (tens {bs = bs} h s) e =
    omega (arith, first_zero s (sym (get_or-append bs (digit (n % 10) ∷ []) (digit 0) 0 (some_digits s)) ∙ e))

pub decimal_numeral : (n : ℕ) → Numeral n (decimal n)
decimal_numeral n =
    let s = decimal_spelled n in
    record { all = all_digits s; says = says_it s; first = λ e. rw (first_zero s e) (decimal_units 0 (omega arith)) }

-- ---- how long
few_digits : (k : ℕ) {n : ℕ} {bs : List ℕ} → n < 10 ^ suc k → Spelled n bs → length bs ≤ suc k
few_digits k h (units u) = omega arith
few_digits zero h (tens t s) = absurd (omega (arith, pow-suc 10 0))
few_digits (suc k) {n} h (tens {bs = bs} t s) =
    let less : n / 10 < 10 ^ suc k = omega (arith, pow-suc 10 (suc k)) in
    simp length-append (omega (arith, few_digits k less s))

pub decimal_few : (n : ℕ) → n < 2 ^ 64 → length (decimal n) ≤ most_digits
decimal_few n h = few_digits 19 (omega arith) (decimal_spelled n)
