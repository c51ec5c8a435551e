-- Whole numbers that the machine holds. `Near z x b`: what the machine reads, z, is the whole number x, and |x| ≤ b. The bounds are numerals that
-- compute, so that a sum or a product of i64s fits is `near_fits .. tt`.
use mathlib.Core.Path.{◌≡◌, refl, sym, ap, ap₂, ◌∙◌, subst}
use Prim.Native.Nat.{ℕ, ◌+◌, ◌*◌, ◌%◌, ◌^◌, ◌≤◌, ◌<◌}
use native.Mathlib.Omega.{arith}
use native.Mathlib.Nat.{mul-le-mul, le_refl, one-mul}
use lib.Pow.{shl_exact}
use lib.Dec.{T, ltb, ltb→lt}
use lib.IntN.{ℤ, pos, negsuc, neg_ℤ, nat_abs, ◌+ℤ◌, ◌-ℤ◌, ◌*ℤ◌}
use lib.Signed.{mag, non_neg, yes_non_neg, ◌≤ℤ◌}
use mir.Syntax.{w64}
use mir.Val.{Fits, SFits, to_z, of_z}
use mir.ValLaws.{to_z-of_z, to_z_pos}
use Rattle.lemmas.proofs.Whole.{up, dn, add_parts, up_mul, dn_mul, up_neg, dn_neg, one_part, is_self, le_of, ι, ν, ⊝}

pub nat_abs_parts : (z : ℤ) → nat_abs z ≡ up z + dn z
unfolding up dn
nat_abs_parts (pos n) = omega arith
nat_abs_parts (negsuc n) = omega arith

mag_lt : (z : ℤ) (p n : ℕ) → up z + n ≡ p + dn z → p < 2 ^ 63 → n ≤ 2 ^ 63 → mag z < 2 ^ 63
unfolding up dn
mag_lt (pos k) p n e h l = omega arith
mag_lt (negsuc k) p n e h l = omega arith

pub size_neg : (x : ℤ) → nat_abs (neg_ℤ x) ≡ nat_abs x
size_neg x = omega (arith, nat_abs_parts x, nat_abs_parts (neg_ℤ x), up_neg x, dn_neg x)

pub size_mul : (x y : ℤ) → nat_abs (x *ℤ y) ≡ nat_abs x * nat_abs y
size_mul x y = rw (nat_abs_parts x, nat_abs_parts y) (omega (arith, nat_abs_parts (x *ℤ y), up_mul x y, dn_mul x y))

pub size_add : (x y : ℤ) → nat_abs (x +ℤ y) ≤ nat_abs x + nat_abs y
size_add x y = one_part (x +ℤ y) (nat_abs (x +ℤ y) ≤ nat_abs x + nat_abs y)
    (λ e. omega (arith, nat_abs_parts x, nat_abs_parts y, nat_abs_parts (x +ℤ y), add_parts x y))
    (λ e. omega (arith, nat_abs_parts x, nat_abs_parts y, nat_abs_parts (x +ℤ y), add_parts x y))

-- |x| ≤ b, as a record, so that x and b are found from a hypothesis
pub record Size (x : ℤ) (b : ℕ) : Type 0 where
  pub most : nat_abs x ≤ b

pub record Near (z x : ℤ) (b : ℕ) : Type 0 where
  pub same : z ≡ x
  pub size : nat_abs x ≤ b

small : (x : ℤ) (b : ℕ) → nat_abs x ≤ b → b < 2 ^ 63 → SFits w64 x
small x b h l = record { sfits = mag_lt x (up x) (dn x) (is_self x).is (omega (arith, nat_abs_parts x)) (omega (arith, nat_abs_parts x)) }

pub near_fits : {z x : ℤ} {b : ℕ} → Near z x b → T (ltb b (2 ^ 63)) → SFits w64 z
near_fits {z} {x} {b} n t = subst (SFits w64) (sym n.same) (small x b n.size (ltb→lt b (2 ^ 63) t))

-- a parameter, an element, a call's result
pub near : {x : ℤ} {b : ℕ} → Size x b → T (ltb b (2 ^ 63)) → Near (to_z w64 (of_z w64 x)) x b
near {x} {b} h t = record { same = to_z-of_z w64 x (small x b h.most (ltb→lt b (2 ^ 63) t)); size = h.most }

pub near_size : {z x : ℤ} {b : ℕ} → Near z x b → Size z b
near_size {z} {x} {b} n = record { most = subst (λ (y : ℤ). nat_abs y ≤ b) (sym n.same) n.size }

-- what an operation left
pub near_back : {z x : ℤ} {b : ℕ} → Near z x b → T (ltb b (2 ^ 63)) → Near (to_z w64 (of_z w64 z)) x b
near_back {z} {x} {b} n t = record { same = to_z-of_z w64 z (near_fits n t) ∙ n.same; size = n.size }

-- an unsigned number that was cast
pub near_cast : (k b : ℕ) → k ≤ b → T (ltb b (2 ^ 63)) → Near (to_z w64 k) (pos k) b
near_cast k b h t = record { same = to_z_pos w64 k (omega (arith, ltb→lt b (2 ^ 63) t)); size = h }

pub near_lit : (x : ℤ) → Near x x (nat_abs x)
near_lit x = record { same = refl; size = le_refl (nat_abs x) }

pub near_add : {z x t y : ℤ} {b d : ℕ} → Near z x b → Near t y d → Near (z +ℤ t) (x +ℤ y) (b + d)
near_add {z} {x} {t} {y} n m = record { same = ap₂ ◌+ℤ◌ n.same m.same; size = omega (arith, size_add x y, n.size, m.size) }

pub near_neg : {z x : ℤ} {b : ℕ} → Near z x b → Near (neg_ℤ z) (neg_ℤ x) b
near_neg {z} {x} n = record { same = ap neg_ℤ n.same; size = omega (arith, size_neg x, n.size) }

pub near_sub : {z x t y : ℤ} {b d : ℕ} → Near z x b → Near t y d → Near (z -ℤ t) (x -ℤ y) (b + d)
near_sub n m = near_add n (near_neg m)

pub near_mul : {z x t y : ℤ} {b d : ℕ} → Near z x b → Near t y d → Near (z *ℤ t) (x *ℤ y) (b * d)
near_mul {z} {x} {t} {y} n m = record { same = ap₂ ◌*ℤ◌ n.same m.same; size = omega (arith, size_mul x y, mul-le-mul n.size m.size) }

pub near_nat : (k b : ℕ) → k ≤ b → Near (pos k) (pos k) b
near_nat k b h = record { same = refl; size = h }

-- a call's result t, by what the call ensures of it
pub near_call : {t z x : ℤ} {b : ℕ} → t ≡ z → Near z x b → T (ltb b (2 ^ 63)) → Near (to_z w64 (of_z w64 t)) x b
near_call e n t = near_back (record { same = e ∙ n.same; size = n.size }) t

pub near_as : {z x y : ℤ} {b d : ℕ} → Near z x b → x ≡ y → b ≤ d → Near z y d
near_as {z} {x} {y} {b} {d} n e l = record { same = n.same ∙ e; size = subst (λ (u : ℤ). nat_abs u ≤ d) e (omega (arith, n.size)) }

-- a call's result by what the call ensures of it, where its size is not known but its range (`.ok`) is
pub read_call : {t x : ℤ} → mag t < 2 ^ 63 → t ≡ x → to_z w64 (of_z w64 t) ≡ x
read_call {t} l e = to_z-of_z w64 t (record { sfits = l }) ∙ e

-- between −b and b
pub range : (z : ℤ) (b : ℕ) → z ≤ℤ pos b → neg_ℤ (pos b) ≤ℤ z → Size z b
range z b h k = record {
  most = one_part z (nat_abs z ≤ b)
      (λ e. omega (arith, nat_abs_parts z, le_of (ι z) (ν b) h))
      (λ e. omega (arith, nat_abs_parts z, le_of (⊝ (ν b)) (ι z) k));
}

-- `z as u64` of a number that is not negative
nonneg_as : {z x : ℤ} → z ≡ x → pos 0 ≤ℤ x → T (non_neg z)
nonneg_as e h = subst (λ (y : ℤ). T (non_neg y)) (sym e) (yes_non_neg h)

pub near_unsigned : {z x : ℤ} {b : ℕ} → Near z x b → T (ltb b (2 ^ 63)) → pos 0 ≤ℤ x → T (non_neg z) × Fits w64 (nat_abs z)
near_unsigned {z} {x} {b} n t h = (nonneg_as n.same h, record { fits = omega (arith, (near_size n).most, ltb→lt b (2 ^ 63) t) })

-- a shift of 1 by fewer than 64 places loses nothing
pub shifted_one : (n : ℕ) → n < 64 → 1 * 2 ^ n % 18446744073709551616 ≡ 2 ^ n
shifted_one n h = shl_exact 1 n 64 (omega arith) (omega arith) ∙ one-mul (2 ^ n)
