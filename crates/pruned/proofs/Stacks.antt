-- An array as a stack: its first n elements, the last of them first, and what a store does to them.
use Prim.Native.Nat.{ℕ, zero, suc, ◌+◌, ◌-◌, ◌≤◌, ◌<◌}
use native.Mathlib.Omega.{arith}
use native.Mathlib.Numerals.{add-one}
use mathlib.Core.Path.{◌≡◌, refl, ap}
use mathlib.Core.List.{List, [], ◌∷◌}
use lib.ListN.{length, get_or, set}
use lib.Seq.{get_or-set_same, get_or-set_other}

abbrev pub stack_of : List ℕ → ℕ → List ℕ
stack_of array zero = []
stack_of array (suc n) = get_or array n 0 ∷ stack_of array n

pub length_stack : (array : List ℕ) (n : ℕ) → length (stack_of array n) ≡ n
length_stack array zero = refl
length_stack array (suc n) = ap suc (length_stack array n)

-- a store above them is not seen
stack_kept : (array : List ℕ) (n k x : ℕ) → n ≤ k → stack_of (set array k x) n ≡ stack_of array n
stack_kept array zero k x h = refl
stack_kept array (suc n) k x h = rw (get_or-set_other array k n x 0 (λ e. omega arith), stack_kept array n k x (omega arith))

pub stack_push : (array : List ℕ) (n x : ℕ) → n < length array → stack_of (set array n x) (n + 1) ≡ x ∷ stack_of array n
stack_push array n x h = rw (add-one, get_or-set_same array n x 0 h, stack_kept array n n x (omega arith))

pub stack_last : (array : List ℕ) (n : ℕ) → 1 ≤ n → stack_of array n ≡ get_or array (n - 1) 0 ∷ stack_of array (n - 1)
stack_last array zero h = absurd (omega arith)
stack_last array (suc n) h = let e : suc n - 1 ≡ n = omega arith in rw e

pub stack_two : (array : List ℕ) (n : ℕ) → 2 ≤ n → stack_of array n ≡ get_or array (n - 1) 0 ∷ get_or array (n - 2) 0 ∷ stack_of array (n - 2)
stack_two array zero h = absurd (omega arith)
stack_two array (suc zero) h = absurd (omega arith)
stack_two array (suc (suc n)) h =
    let e : suc (suc n) - 1 ≡ suc n = omega arith in
    let f : suc (suc n) - 2 ≡ n = omega arith in
    rw (e, f)

pub stack_joined : (array : List ℕ) (n x : ℕ) → 2 ≤ n → n ≤ length array → stack_of (set array (n - 2) x) (n - 1) ≡ x ∷ stack_of array (n - 2)
stack_joined array n x h g = let e : n - 1 ≡ n - 2 + 1 = omega arith in rw e (stack_push array (n - 2) x (omega arith))
