-- Whole numbers for `omega arith`, which reads natural numbers only. A whole number z is the difference of its two parts, `up z` − `dn z`, one
-- of which is 0. An expression over whole numbers (`ι z` a whole number as it stands, `ν k` a natural one, ⊕ ⊖ ⊝ ⊗ the operations) has its two
-- parts computed, so that `eq_by`, `le_by`, `lt_by` prove a fact of whole numbers from one of natural numbers, and `eq_of`, `le_of`, `lt_of` go back.
use mathlib.Core.Path.{◌≡◌, refl, sym, ap, ◌∙◌, subst}
use mathlib.Core.Bool.{Bool, true, false, not, cond}
use Prim.Native.Nat.{ℕ, zero, suc, ◌+◌, ◌*◌, ◌-◌, ◌≤◌, ◌<◌}
use mathlib.Core.Logic.{◌⊎◌, inl, inr, ⊎_elim}
use native.Mathlib.Omega.{arith}
use native.Mathlib.Decide.{dec_le}
use lib.Dec.{T, ltb, ltb→lt, nltb→le, lt→ltb, leb→le, le→leb}
use lib.IntN.{ℤ, pos, negsuc, neg_ℤ, nat_abs, sub_ℕ, ◌+ℤ◌, ◌-ℤ◌, ◌*ℤ◌}
use lib.Signed.{◌≤ℤ◌, ◌<ℤ◌, lt_z, le_z}

-- the two parts
unfoldable pub up : ℤ → ℕ
up (pos n) = n
up (negsuc n) = 0

unfoldable pub dn : ℤ → ℕ
dn (pos n) = 0
dn (negsuc n) = suc n

-- z is p − n
pub record Is (z : ℤ) (p n : ℕ) : Type 0 where
  pub is : up z + n ≡ p + dn z

cond_ind : (c : Bool) (x y : ℤ) (Q : ℤ → Type 0) → (T c → Q x) → (T (not c) → Q y) → Q (cond c x y)
cond_ind true x y Q f g = f tt
cond_ind false x y Q f g = g tt

sub_is : (a b : ℕ) → Is (sub_ℕ a b) a b
unfolding up dn
sub_is a b = cond_ind (ltb a b) (negsuc (b - suc a)) (pos (a - b)) (λ z. Is z a b)
    (λ t. record { is = omega (arith, ltb→lt) })
    (λ t. record { is = omega (arith, nltb→le) })

up_pos : (n : ℕ) → up (pos n) ≡ n
unfolding up
up_pos n = refl

dn_pos : (n : ℕ) → dn (pos n) ≡ 0
unfolding dn
dn_pos n = refl

pub up_neg : (z : ℤ) → up (neg_ℤ z) ≡ dn z
unfolding up dn
up_neg (pos zero) = refl
up_neg (pos (suc n)) = refl
up_neg (negsuc n) = refl

pub dn_neg : (z : ℤ) → dn (neg_ℤ z) ≡ up z
unfolding up dn
dn_neg (pos zero) = refl
dn_neg (pos (suc n)) = refl
dn_neg (negsuc n) = refl

pub add_parts : (a b : ℤ) → up (a +ℤ b) + (dn a + dn b) ≡ (up a + up b) + dn (a +ℤ b)
unfolding up dn
add_parts (pos a) (pos b) = omega arith
add_parts (pos a) (negsuc b) = omega (arith, sub_is a (suc b))
add_parts (negsuc a) (pos b) = omega (arith, sub_is b (suc a))
add_parts (negsuc a) (negsuc b) = omega arith

pub up_mul : (a b : ℤ) → up (a *ℤ b) ≡ up a * up b + dn a * dn b
unfolding up dn
up_mul (pos a) (pos b) = omega arith
up_mul (pos a) (negsuc b) = omega (arith, up_neg (pos (a * suc b)))
up_mul (negsuc a) (pos b) = omega (arith, up_neg (pos (suc a * b)))
up_mul (negsuc a) (negsuc b) = omega arith

pub dn_mul : (a b : ℤ) → dn (a *ℤ b) ≡ up a * dn b + dn a * up b
unfolding up dn
dn_mul (pos a) (pos b) = omega arith
dn_mul (pos a) (negsuc b) = omega (arith, dn_neg (pos (a * suc b)))
dn_mul (negsuc a) (pos b) = omega (arith, dn_neg (pos (suc a * b)))
dn_mul (negsuc a) (negsuc b) = omega arith

-- one of the two is 0
pub one_part : (z : ℤ) (G : Type 0) → (dn z ≡ 0 → G) → (up z ≡ 0 → G) → G
unfolding up dn
one_part (pos n) G f g = f refl
one_part (negsuc n) G f g = g refl

-- order and equality by the parts
le_out' : (a b : ℤ) → T (le_z a b) → up a + dn b ≤ up b + dn a
unfolding up dn
le_out' (pos a) (pos b) t = omega (arith, leb→le)
le_out' (pos a) (negsuc b) t = absurd t
le_out' (negsuc a) (pos b) t = omega arith
le_out' (negsuc a) (negsuc b) t = omega (arith, leb→le)

le_in' : (a b : ℤ) → up a + dn b ≤ up b + dn a → T (le_z a b)
unfolding up dn
le_in' (pos a) (pos b) h = omega (arith, le→leb)
le_in' (pos a) (negsuc b) h = omega arith
le_in' (negsuc a) (pos b) h = tt
le_in' (negsuc a) (negsuc b) h = omega (arith, le→leb)

lt_out' : (a b : ℤ) → T (lt_z a b) → up a + dn b < up b + dn a
unfolding up dn
lt_out' (pos a) (pos b) t = omega (arith, ltb→lt)
lt_out' (pos a) (negsuc b) t = absurd t
lt_out' (negsuc a) (pos b) t = omega arith
lt_out' (negsuc a) (negsuc b) t = omega (arith, ltb→lt)

lt_in' : (a b : ℤ) → up a + dn b < up b + dn a → T (lt_z a b)
unfolding up dn
lt_in' (pos a) (pos b) h = omega (arith, lt→ltb)
lt_in' (pos a) (negsuc b) h = omega arith
lt_in' (negsuc a) (pos b) h = tt
lt_in' (negsuc a) (negsuc b) h = omega (arith, lt→ltb)

pub le_out : {a b : ℤ} → a ≤ℤ b → up a + dn b ≤ up b + dn a
le_out {a} {b} h = le_out' a b h.le

pub le_in : {a b : ℤ} → up a + dn b ≤ up b + dn a → a ≤ℤ b
le_in {a} {b} h = record { le = le_in' a b h }

pub lt_out : {a b : ℤ} → a <ℤ b → up a + dn b < up b + dn a
lt_out {a} {b} h = lt_out' a b h.lt

pub lt_in : {a b : ℤ} → up a + dn b < up b + dn a → a <ℤ b
lt_in {a} {b} h = record { lt = lt_in' a b h }

eq_in' : (a b : ℤ) → up a + dn b ≡ up b + dn a → a ≡ b
unfolding up dn
eq_in' (pos a) (pos b) h = ap pos (omega arith)
eq_in' (pos a) (negsuc b) h = absurd (omega arith)
eq_in' (negsuc a) (pos b) h = absurd (omega arith)
eq_in' (negsuc a) (negsuc b) h = ap negsuc (omega arith)

-- expressions, what they are worth, and their two parts
infixl 6 ◌⊕◌ ◌⊖◌
infixl 7 ◌⊗◌
pub data E : Type 0 where
  ι : ℤ → E
  ν : ℕ → E
  ◌⊕◌ : E → E → E
  ◌⊖◌ : E → E → E
  ⊝ : E → E
  ◌⊗◌ : E → E → E

abbrev pub val : E → ℤ
val (ι z) = z
val (ν k) = pos k
val (a ⊕ b) = val a +ℤ val b
val (a ⊖ b) = val a -ℤ val b
val (⊝ a) = neg_ℤ (val a)
val (a ⊗ b) = val a *ℤ val b

abbrev mutual
  pub p⁺ : E → ℕ
  p⁺ (ι z) = up z
  p⁺ (ν k) = k
  p⁺ (a ⊕ b) = p⁺ a + p⁺ b
  p⁺ (a ⊖ b) = p⁺ a + p⁻ b
  p⁺ (⊝ a) = p⁻ a
  p⁺ (a ⊗ b) = p⁺ a * p⁺ b + p⁻ a * p⁻ b

  pub p⁻ : E → ℕ
  p⁻ (ι z) = dn z
  p⁻ (ν k) = 0
  p⁻ (a ⊕ b) = p⁻ a + p⁻ b
  p⁻ (a ⊖ b) = p⁻ a + p⁺ b
  p⁻ (⊝ a) = p⁺ a
  p⁻ (a ⊗ b) = p⁺ a * p⁻ b + p⁻ a * p⁺ b

mul_is : (a b : ℤ) (p n q m : ℕ) → up a + n ≡ p + dn a → up b + m ≡ q + dn b → up (a *ℤ b) + (p * m + n * q) ≡ (p * q + n * m) + dn (a *ℤ b)
mul_is a b p n q m h k =
    omega (arith, up_mul a b, dn_mul a b, ap (λ (t : ℕ). t * up b) h, ap (λ (t : ℕ). t * dn b) h, ap (λ (t : ℕ). p * t) k, ap (λ (t : ℕ). n * t) k)

pub is_of : (e : E) → Is (val e) (p⁺ e) (p⁻ e)
is_of (ι z) = record { is = refl }
is_of (ν k) = record { is = omega (arith, up_pos k, dn_pos k) }
is_of (a ⊕ b) = record { is = omega (arith, add_parts (val a) (val b), (is_of a).is, (is_of b).is) }
is_of (a ⊖ b) = record { is = omega (arith, add_parts (val a) (neg_ℤ (val b)), up_neg (val b), dn_neg (val b), (is_of a).is, (is_of b).is) }
is_of (⊝ a) = record { is = omega (arith, up_neg (val a), dn_neg (val a), (is_of a).is) }
is_of (a ⊗ b) = record { is = mul_is (val a) (val b) (p⁺ a) (p⁻ a) (p⁺ b) (p⁻ b) (is_of a).is (is_of b).is }

-- a fact of two expressions, from that of their parts, and the other way round
pub le_by : (a b : E) → p⁺ a + p⁻ b ≤ p⁺ b + p⁻ a → val a ≤ℤ val b
le_by a b h = le_in (omega (arith, (is_of a).is, (is_of b).is))

pub lt_by : (a b : E) → p⁺ a + p⁻ b < p⁺ b + p⁻ a → val a <ℤ val b
lt_by a b h = lt_in (omega (arith, (is_of a).is, (is_of b).is))

pub eq_by : (a b : E) → p⁺ a + p⁻ b ≡ p⁺ b + p⁻ a → val a ≡ val b
eq_by a b h = eq_in' (val a) (val b) (omega (arith, (is_of a).is, (is_of b).is))

pub le_of : (a b : E) → val a ≤ℤ val b → p⁺ a + p⁻ b ≤ p⁺ b + p⁻ a
le_of a b h = omega (arith, (is_of a).is, (is_of b).is, le_out h)

pub lt_of : (a b : E) → val a <ℤ val b → p⁺ a + p⁻ b < p⁺ b + p⁻ a
lt_of a b h = omega (arith, (is_of a).is, (is_of b).is, lt_out h)

pub eq_of : (a b : E) → val a ≡ val b → p⁺ a + p⁻ b ≡ p⁺ b + p⁻ a
eq_of a b h = omega (arith, (is_of a).is, (is_of b).is, ap up h, ap dn h)

-- the same for numbers that are known as differences, and what the operations make of differences
pub is_le : {a b : ℤ} {p n q m : ℕ} → Is a p n → Is b q m → p + m ≤ q + n → a ≤ℤ b
is_le i j h = le_in (omega (arith, i.is, j.is))

pub is_lt : {a b : ℤ} {p n q m : ℕ} → Is a p n → Is b q m → p + m < q + n → a <ℤ b
is_lt i j h = lt_in (omega (arith, i.is, j.is))

pub is_eq : {a b : ℤ} {p n q m : ℕ} → Is a p n → Is b q m → p + m ≡ q + n → a ≡ b
is_eq {a} {b} i j h = eq_in' a b (omega (arith, i.is, j.is))

pub le_is : {a b : ℤ} {p n q m : ℕ} → Is a p n → Is b q m → a ≤ℤ b → p + m ≤ q + n
le_is i j h = omega (arith, i.is, j.is, le_out h)

pub lt_is : {a b : ℤ} {p n q m : ℕ} → Is a p n → Is b q m → a <ℤ b → p + m < q + n
lt_is i j h = omega (arith, i.is, j.is, lt_out h)

pub is_nat : (k : ℕ) → Is (pos k) k 0
is_nat k = is_of (ν k)

pub is_self : (z : ℤ) → Is z (up z) (dn z)
is_self z = is_of (ι z)

pub is_add : {a b : ℤ} {p n q m : ℕ} → Is a p n → Is b q m → Is (a +ℤ b) (p + q) (n + m)
is_add {a} {b} i j = record { is = omega (arith, add_parts a b, i.is, j.is) }

pub is_sub : {a b : ℤ} {p n q m : ℕ} → Is a p n → Is b q m → Is (a -ℤ b) (p + m) (n + q)
is_sub {a} {b} i j = record { is = omega (arith, (is_of (ι a ⊖ ι b)).is, i.is, j.is) }

pub is_mul : {a : ℤ} {p n : ℕ} → Is a p n → (k : ℕ) → Is (a *ℤ pos k) (p * k) (n * k)
is_mul {a} {p} {n} i k = record { is = omega (arith, mul_is a (pos k) p n k 0 i.is (is_nat k).is) }

pub is_scale : (k : ℕ) {a : ℤ} {p n : ℕ} → Is a p n → Is (pos k *ℤ a) (k * p) (k * n)
is_scale k {a} {p} {n} i = record { is = omega (arith, mul_is (pos k) a k 0 p n (is_nat k).is i.is) }

-- what a test of two whole numbers tells, and the test from the fact
is_true : (b : Bool) → T b → b ≡ true
is_true true t = refl
is_true false t = absurd t

is_false : (b : Bool) → (T b → ⊥) → b ≡ false
is_false true f = absurd (f tt)
is_false false f = refl

pub le_z_true : (a b : ℤ) → le_z a b ≡ true → a ≤ℤ b
le_z_true a b e = record { le = subst T (sym e) tt }

pub lt_z_true : (a b : ℤ) → lt_z a b ≡ true → a <ℤ b
lt_z_true a b e = record { lt = subst T (sym e) tt }

pub le_or_lt : (a b : ℤ) → (a ≤ℤ b) ⊎ (b <ℤ a)
le_or_lt a b = go (dec_le (up a + dn b) (up b + dn a))
  where
    go : Dec (up a + dn b ≤ up b + dn a) → (a ≤ℤ b) ⊎ (b <ℤ a)
    go (yes p) = inl (le_in p)
    go (no p) = inr (lt_in (omega arith))

pub le_z_false : (a b : ℤ) → le_z a b ≡ false → b <ℤ a
le_z_false a b e = ⊎_elim (λ (h : a ≤ℤ b). absurd (subst T e h.le)) (λ (h : b <ℤ a). h) (le_or_lt a b)

pub lt_z_false : (a b : ℤ) → lt_z a b ≡ false → b ≤ℤ a
lt_z_false a b e = ⊎_elim (λ (h : b ≤ℤ a). h) (λ (h : a <ℤ b). absurd (subst T e h.lt)) (le_or_lt b a)

pub le_le_z : {a b : ℤ} → a ≤ℤ b → le_z a b ≡ true
le_le_z {a} {b} h = is_true (le_z a b) h.le

pub lt_le_z : {a b : ℤ} → b <ℤ a → le_z a b ≡ false
lt_le_z {a} {b} h = is_false (le_z a b) (λ t. let k : a ≤ℤ b = record { le = t } in omega (arith, le_out, lt_out))

pub lt_lt_z : {a b : ℤ} → a <ℤ b → lt_z a b ≡ true
lt_lt_z {a} {b} h = is_true (lt_z a b) h.lt

pub le_lt_z : {a b : ℤ} → b ≤ℤ a → lt_z a b ≡ false
le_lt_z {a} {b} h = is_false (lt_z a b) (λ t. let k : a <ℤ b = record { lt = t } in omega (arith, le_out, lt_out))

-- how far a whole number is from 0, by the test  z < 0
pub negative_size : (z : ℤ) → lt_z z (pos 0) ≡ true → pos 0 -ℤ z ≡ pos (nat_abs z)
negative_size (pos n) e = absurd (omega (arith, lt_is (is_nat n) (is_nat 0) (lt_z_true (pos n) (pos 0) e)))
negative_size (negsuc n) e = ap pos (omega arith)

pub positive_size : (z : ℤ) → lt_z z (pos 0) ≡ false → z ≡ pos (nat_abs z)
positive_size (pos n) e = refl
positive_size (negsuc n) e = let z : ◌≡◌ {A = ℕ} 0 1 = cc in absurd (omega arith)

-- where b − a is twice d − c, one test is the other
pub doubled_test : {a b c d : ℤ} {p n q m s t v w : ℕ} → Is a p n → Is b q m → Is c s t → Is d v w → p + m + 2 * (v + t) ≡ q + n + 2 * (s + w)
    → le_z a b ≡ le_z c d
doubled_test {a} {b} i j k l e =
    ⊎_elim
    (λ (h : a ≤ℤ b). le_le_z h ∙ sym (le_le_z (is_le k l (omega (arith, le_is i j h)))))
    (λ (h : b <ℤ a). lt_le_z h ∙ sym (lt_le_z (is_lt l k (omega (arith, lt_is j i h)))))
    (le_or_lt a b)
