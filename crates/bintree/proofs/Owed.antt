-- Levels owed, as one number: a bit for each of a list of strictly rising levels. Every later bit is a multiple of twice the first one, so the
-- trailing zeros of the number are the first level.
use mathlib.Core.Path.{◌≡◌, refl, sym, ap, ◌∙◌}
use mathlib.Core.List.{List, [], ◌∷◌}
use Prim.Native.Nat.{ℕ, zero, suc, ◌+◌, ◌-◌, ◌*◌, ◌%◌, ◌^◌, ◌≤◌, ◌<◌}
use native.Mathlib.Nat.{le_trans, le_of_suc-le-suc, lt_of_not-le, not-le_of_lt, mul-one, mul_assoc, pow-succ'}
use native.Mathlib.Decide.{dec_lt}
use native.Mathlib.Omega.{arith}
use lib.Bits.{shifted_half, shifted_even}
use lib.Count.{count_trailing_zeros}
use lib.Pow.{pow-add, pow-lt, pow_mono, pow_pos}

-- the number with a bit at each level owed
unfoldable pub mask : List ℕ → ℕ
mask [] = 0
mask (l ∷ ls) = 2 ^ l + mask ls

-- levels from n on, each above the one before
pub data Rising : ℕ → List ℕ → Type 0 where
  end : {n : ℕ} → Rising n []
  next : {n l : ℕ} {ls : List ℕ} → n ≤ l → Rising (suc l) ls → Rising n (l ∷ ls)

pub rising_rest : {n l : ℕ} {ls : List ℕ} → Rising n (l ∷ ls) → Rising (suc l) ls
rising_rest (next h r) = r

pub rising_under : {n m : ℕ} {ls : List ℕ} → m ≤ n → Rising n ls → Rising m ls
rising_under h end = end
rising_under h (next k r) = next (le_trans h k) r

pub rising_lower : {n : ℕ} {ls : List ℕ} → (n ≡ 0 → ⊥) → Rising n ls → Rising (n - 1) ((n - 1) ∷ ls)
rising_lower {n} {ls} h r =
    let d : suc (n - 1) ≡ n = omega arith in
    let k : n - 1 ≤ n - 1 = omega arith in
    let w : Rising (suc (n - 1)) ls = rw d r in
    next k w

-- nothing owed, and a first bit before the rest
pub mask_none : mask [] ≡ 0
unfolding mask
mask_none = refl

pub mask_more : (l : ℕ) (ls : List ℕ) → mask (l ∷ ls) ≡ 2 ^ l + mask ls
unfolding mask
mask_more l ls = refl

pub mask_zero : (ls : List ℕ) → mask ls ≡ 0 → ls ≡ []
unfolding mask
mask_zero [] e = refl
mask_zero (l ∷ ls) e = absurd (omega (arith, pow_pos l))

pub mask_first : (l : ℕ) (ls : List ℕ) → 2 ^ l ≤ mask (l ∷ ls)
unfolding mask
mask_first l ls = omega arith

-- a bit that is at most another stands at most as high
pub bit_under : {l k : ℕ} → 2 ^ l ≤ 2 ^ k → l ≤ k
bit_under {l} {k} h = go (dec_lt k l)
  where
    go : Dec (k < l) → l ≤ k
    go (yes g) = absurd (not-le_of_lt (pow-lt g) h)
    go (no g) = omega arith

pub bit_less : {l k : ℕ} → 2 ^ l < 2 ^ k → l < k
bit_less h = lt_of_not-le (λ g. not-le_of_lt h (pow_mono g))

-- levels from n on are a multiple of 2ⁿ, and the first of them makes an odd multiple of its bit
odd_multiple : (l m x : ℕ) → x ≡ m * 2 ^ suc l → 2 ^ l + x ≡ (1 + 2 * m) * 2 ^ l
odd_multiple l m x e = let k : x ≡ m * (2 * 2 ^ l) = e ∙ ap (λ y. m * y) (pow-succ' 2 l) in omega arith

split_level : (n l : ℕ) → n ≤ l → l ≡ l - n + n
split_level n l h = omega arith

rising_multiple : {n : ℕ} {ls : List ℕ} → Rising n ls → (m : ℕ) × (mask ls ≡ m * 2 ^ n)
unfolding mask
rising_multiple end = (0, omega arith)
rising_multiple (next {n = n} {l = l} {ls = ls} h r) =
    let w = rising_multiple r in
    let e : 2 ^ l + mask ls ≡ (1 + 2 * w.0) * 2 ^ l = odd_multiple l w.0 (mask ls) w.1 in
    let d : 2 ^ l ≡ 2 ^ (l - n) * 2 ^ n = ap (λ k. 2 ^ k) (split_level n l h) ∙ pow-add 2 (l - n) n in
    ((1 + 2 * w.0) * 2 ^ (l - n), e ∙ ap (λ x. (1 + 2 * w.0) * x) d ∙ sym (mul_assoc (1 + 2 * w.0) (2 ^ (l - n)) (2 ^ n)))

odd_number : (m : ℕ) → (1 + 2 * m) % 2 ≡ 1
odd_number m = omega arith

-- an odd number with i zeros behind it has i trailing zeros
shifted_zeros : (d m i : ℕ) → m % 2 ≡ 1 → i < d → count_trailing_zeros d (m * 2 ^ i) ≡ i
unfolding count_trailing_zeros
shifted_zeros zero m i o h = absurd (omega arith)
shifted_zeros (suc d) m zero o h = rw (mul-one, o)
shifted_zeros (suc d) m (suc i) o h = rw (shifted_even, shifted_half, shifted_zeros d m i o (le_of_suc-le-suc h))

pub mask_zeros : (d : ℕ) {n l : ℕ} {ls : List ℕ} → Rising n (l ∷ ls) → l < d → count_trailing_zeros d (mask (l ∷ ls)) ≡ l
unfolding mask
mask_zeros d {n} {l} {ls} (next h r) k =
    let w = rising_multiple r in
    rw (odd_multiple l w.0 (mask ls) w.1) (shifted_zeros d (1 + 2 * w.0) l (odd_number w.0) k)

-- what is owed first: its level is the number's trailing zeros, and its bit goes first
pub record Due (owed : ℕ) (levels : List ℕ) : Type 0 where
  pub first : ℕ
  pub rest : List ℕ
  pub are : levels ≡ first ∷ rest
  pub zeros : count_trailing_zeros 64 owed ≡ first
  pub owes : owed ≡ 2 ^ first + mask rest
  pub rising : Rising (suc first) rest

pub due : (owed : ℕ) {n : ℕ} (levels : List ℕ) → owed ≡ mask levels → Rising n levels → owed < 2 ^ 64 → (owed ≡ 0 → ⊥) → Due owed levels
due owed [] e r h n = absurd (n (e ∙ mask_none))
due owed (l ∷ ls) e r h n =
    let few : l < 64 = bit_less (omega (arith, mask_first l ls)) in
    record { first = l; rest = ls; are = refl; zeros = rw e (mask_zeros 64 r few); owes = e ∙ mask_more l ls; rising = rising_rest r }
