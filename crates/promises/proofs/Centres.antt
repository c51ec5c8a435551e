-- A voxel is judged at its centre: what is tested is the value at c + 1/2 along each axis, doubled, for every number of axes. That `value_over` is the value
-- at a fraction follows from two laws: it does not depend on how the fraction is written, and at whole points it is the value there.
use Prim.Native.Nat.{ℕ, zero, suc, ◌+◌, ◌*◌}
use mathlib.Core.Path.{◌≡◌, refl, ap, ◌∙◌}
use mathlib.Core.List.{List}
use native.Mathlib.Omega.{arith}
use lib.IntN.{ℤ, pos, ◌+ℤ◌, ◌*ℤ◌}
use Rattle.lemmas.specs.Sums.{total}
use Rattle.lemmas.proofs.Whole.{ι, ν, ◌⊕◌ as ◌+ᴱ◌, ◌⊗◌ as ◌*ᴱ◌, eq_by}
use Rattle.universe.specs.declared.Universe.{Universe}
use Rattle.universe.specs.Voxel.{place_along}
use Rattle.csg.specs.Halfspace.{Halfspace, value_at, centre_value}
use Rattle.promises.specs.Centres.{value_over}

-- every place m times as large
total_finer : (m n : ℕ) (a : ℕ → ℤ) (p : ℕ → ℕ) → total n (λ i. a i *ℤ pos (m * p i)) ≡ pos m *ℤ total n (λ i. a i *ℤ pos (p i))
unfolding total
total_finer m zero a p = eq_by (ν 0) (ν m *ᴱ ν 0) (omega arith)
total_finer m (suc n) a p =
    let t = total n (λ i. a i *ℤ pos (p i)) in
    ap (λ (z : ℤ). z +ℤ a n *ℤ pos (m * p n)) (total_finer m n a p)
    ∙ eq_by (ν m *ᴱ ι t +ᴱ ι (a n) *ᴱ ν (m * p n)) (ν m *ᴱ (ι t +ᴱ ι (a n) *ᴱ ν (p n))) (omega arith)

module _ (u : Universe) (h : Halfspace) where
  -- how the fraction is written does not matter
  pub value_finer : (m k : ℕ) (p : ℕ → ℕ) → value_over u h (m * k) (λ i. m * p i) ≡ pos m *ℤ value_over u h k p
  unfolding value_over
  value_finer m k p =
      let t = total u.axes (λ i. h.coefficient i *ℤ pos (p i)) in
      ap (λ (z : ℤ). pos (m * k) *ℤ h.offset +ℤ z) (total_finer m u.axes h.coefficient p)
      ∙ eq_by (ν (m * k) *ᴱ ι h.offset +ᴱ ν m *ᴱ ι t) (ν m *ᴱ (ν k *ᴱ ι h.offset +ᴱ ι t)) (omega arith)

  -- at a whole point it is the value there
  pub value_whole : (x : ℕ → ℕ) → value_over u h 1 x ≡ value_at u h x
  unfolding value_over value_at
  value_whole x =
      let t = total u.axes (λ i. h.coefficient i *ℤ pos (x i)) in
      eq_by (ν 1 *ᴱ ι h.offset +ᴱ ι t) (ι h.offset +ᴱ ι t) (omega arith)

  -- THEOREM: what is tested of voxel c is twice the value at c + 1/2, which is (2c + 1) / 2
  pub centre_value_lem : (v : List ℕ) → centre_value u h v ≡ value_over u h 2 (λ i. 2 * place_along v i + 1)
  unfolding centre_value value_over
  centre_value_lem v = refl
