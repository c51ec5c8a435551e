-- Distances along one axis: `nearest` and `farthest` are the true extremes over [l, h], at every point p / q, and both are reached at whole points. Each
-- distance is |a − b| of two natural numbers, (a − b) + (b − a), which `omega` reads; that a part's extremes are reached at points of the whole gives the rest.
use Prim.Native.Nat.{ℕ, ◌+◌, ◌*◌, ◌-◌, ◌≤◌}
use mathlib.Core.Path.{◌≡◌, refl, sym, ap, subst}
use mathlib.Core.Bool.{Bool, true, false, cond}
use mathlib.Core.Logic.{◌⊎◌, inl, inr}
use native.Mathlib.Omega.{arith}
use native.Mathlib.Nat.{mul-le-mul_left}
use native.Mathlib.Decide.{dec_le}
use lib.Dec.{T, leb, leb→le, le→leb}
use lib.IntN.{ℤ, pos, nat_abs, ◌-ℤ◌}
use lib.Signed.{◌≤ℤ◌, ◌<ℤ◌}
use Rattle.lemmas.proofs.Whole.{up, dn, Is, ι, ν, ◌⊖◌, ◌⊗◌, is_of, one_part, lt_of, le_of, le_or_lt, lt_lt_z, le_lt_z}
use Rattle.lemmas.proofs.Machine.{nat_abs_parts}
use Rattle.csg.specs.Ball.{gap, nearest, farthest, off}

-- the size of a − b
size_is : (z : ℤ) (a b : ℕ) → Is z a b → nat_abs z ≡ (a - b) + (b - a)
size_is z a b i = one_part z (nat_abs z ≡ (a - b) + (b - a))
    (λ e. omega (arith, nat_abs_parts z, i.is))
    (λ e. omega (arith, nat_abs_parts z, i.is))

gap_is : (x : ℕ) (c : ℤ) → gap x c ≡ ((x + dn c) - up c) + (up c - (x + dn c))
gap_is x c = size_is (pos x -ℤ c) (x + dn c) (up c) (record { is = omega (arith, (is_of (ν x ⊖ ι c)).is) })

off_is : (q p : ℕ) (c : ℤ) → nat_abs (off q p c) ≡ ((p + q * dn c) - q * up c) + (q * up c - (p + q * dn c))
off_is q p c = size_is (off q p c) (p + q * dn c) (q * up c) (record { is = omega (arith, (is_of (ν p ⊖ ν q ⊗ ι c)).is) })

-- where c lies, and how far it is: below l, above h, or between
data Place (l h : ℕ) (c : ℤ) (m : ℕ) : Type 0 where
  under : l + dn c ≡ up c + m → Place l h c m
  over : up c ≡ h + dn c + m → Place l h c m
  inside : l + dn c ≤ up c → up c ≤ h + dn c → m ≡ 0 → Place l h c m

module _ (l h : ℕ) (c : ℤ) where
  near_under : c <ℤ pos l → nearest l h c ≡ gap l c
  unfolding nearest
  near_under d = simp (lt_lt_z d)

  near_over_lem : pos l ≤ℤ c → pos h <ℤ c → nearest l h c ≡ gap h c
  unfolding nearest
  near_over_lem d e = simp (le_lt_z d, lt_lt_z e)

  near_inside : pos l ≤ℤ c → c ≤ℤ pos h → nearest l h c ≡ 0
  unfolding nearest
  near_inside d e = simp (le_lt_z d, le_lt_z e)

  near_is : Place l h c (nearest l h c)
  near_is = by (le_or_lt (pos l) c) (le_or_lt c (pos h))
    where
      by : (pos l ≤ℤ c) ⊎ (c <ℤ pos l) → (c ≤ℤ pos h) ⊎ (pos h <ℤ c) → Place l h c (nearest l h c)
      by (inr d) e = rw (near_under d) (under (omega (arith, gap_is l c, lt_of (ι c) (ν l) d)))
      by (inl d) (inr e) = rw (near_over_lem d e) (over (omega (arith, gap_is h c, lt_of (ν h) (ι c) e)))
      by (inl d) (inl e) = inside (omega (arith, le_of (ν l) (ι c) d)) (omega (arith, le_of (ι c) (ν h) e)) (near_inside d e)

-- the farther end is one of the two, and no nearer than either
data End (l h : ℕ) (c : ℤ) : ℕ → Type 0 where
  at_low : gap h c ≤ gap l c → End l h c (gap l c)
  at_high : gap l c ≤ gap h c → End l h c (gap h c)

far_is : (l h : ℕ) (c : ℤ) → End l h c (farthest l h c)
unfolding farthest
far_is l h c = by (dec_le (gap l c) (gap h c)) (leb (gap l c) (gap h c)) refl
  where
    by : Dec (gap l c ≤ gap h c) → (t : Bool) → leb (gap l c) (gap h c) ≡ t → End l h c (cond t (gap h c) (gap l c))
    by d true e = at_high (leb→le _ _ (subst T (sym e) tt))
    by (no p) false e = at_low (omega arith)
    by (yes p) false e = at_low (absurd (subst T e (le→leb _ _ p)))

far_covers : (l h : ℕ) (c : ℤ) → (gap l c ≤ farthest l h c) × (gap h c ≤ farthest l h c)
far_covers l h c = by (far_is l h c)
  where
    by : {m : ℕ} → End l h c m → (gap l c ≤ m) × (gap h c ≤ m)
    by (at_low k) = (omega arith, omega arith)
    by (at_high k) = (omega arith, omega arith)

-- ---- at a point p / q between l and h
module _ (l h q p : ℕ) (c : ℤ) (above : q * l ≤ p) (below : p ≤ q * h) where
  pub near_below : q * nearest l h c ≤ nat_abs (off q p c)
  near_below = by (near_is l h c)
    where
      by : {m : ℕ} → Place l h c m → q * m ≤ nat_abs (off q p c)
      by (under e) = omega (arith, off_is q p c, ap (λ (t : ℕ). q * t) e)
      by (over e) = omega (arith, off_is q p c, ap (λ (t : ℕ). q * t) e)
      by (inside d e z) = omega (arith, ap (λ (t : ℕ). q * t) z)

  pub far_above : nat_abs (off q p c) ≤ q * farthest l h c
  far_above =
      let f = farthest l h c in
      let k : up c ≤ l + dn c + f = omega (arith, (far_covers l h c).0, gap_is l c) in
      let m : h + dn c ≤ up c + f = omega (arith, (far_covers l h c).1, gap_is h c) in
      omega (arith, off_is q p c, mul-le-mul_left q k, mul-le-mul_left q m)

-- ---- reached at whole points, the farthest at an end
pub record Reached (l h : ℕ) (c : ℤ) (m : ℕ) : Type 0 where
  pub at : ℕ
  pub above : l ≤ at
  pub below : at ≤ h
  pub there : nat_abs (off 1 at c) ≡ m

pub near_reached : (l h : ℕ) (c : ℤ) → l ≤ h → Reached l h c (nearest l h c)
near_reached l h c o = by (near_is l h c)
  where
    by : {m : ℕ} → Place l h c m → Reached l h c m
    by (under e) = record { at = l; above = omega arith; below = o; there = omega (arith, off_is 1 l c) }
    by (over e) = record { at = h; above = o; below = omega arith; there = omega (arith, off_is 1 h c) }
    by (inside d e z) = record { at = up c - dn c; above = omega arith; below = omega arith; there = omega (arith, off_is 1 (up c - dn c) c) }

pub record AtEnd (l h : ℕ) (c : ℤ) (m : ℕ) : Type 0 where
  pub reached : Reached l h c m
  pub end : (reached.at ≡ l) ⊎ (reached.at ≡ h)

pub far_reached : (l h : ℕ) (c : ℤ) → l ≤ h → AtEnd l h c (farthest l h c)
far_reached l h c o = by (far_is l h c)
  where
    by : {m : ℕ} → End l h c m → AtEnd l h c m
    by (at_low k) = record { reached = record { at = l; above = omega arith; below = o; there = omega (arith, off_is 1 l c, gap_is l c) }; end = inl refl }
    by (at_high k) = record { reached = record { at = h; above = o; below = omega arith; there = omega (arith, off_is 1 h c, gap_is h c) }; end = inr refl }

-- ---- in a part [l', h'] of [l, h] the nearest point is no nearer and the farthest no farther
module _ (l h l' h' : ℕ) (c : ℤ) (o : l' ≤ h') (above : l ≤ l') (below : h' ≤ h) where
  pub near_grows : nearest l h c ≤ nearest l' h' c
  near_grows =
      let r = near_reached l' h' c o in
      omega (arith, r.there, near_below l h 1 r.at c (omega (arith, r.above)) (omega (arith, r.below)))

  pub far_falls : farthest l' h' c ≤ farthest l h c
  far_falls =
      let r = (far_reached l' h' c o).reached in
      omega (arith, r.there, far_above l h 1 r.at c (omega (arith, r.above)) (omega (arith, r.below)))

pub near_far : (l h : ℕ) (c : ℤ) → l ≤ h → nearest l h c ≤ farthest l h c
near_far l h c o = omega (arith, near_below l h 1 l c (omega arith) (omega arith), far_above l h 1 l c (omega arith) (omega arith))
