-- What the check of rows cites: a row is within the limits where its offset is and then each coefficient; so is the k-th of the rows where its chunk is.
use Prim.Native.Nat.{ℕ, suc, ◌+◌, ◌*◌, ◌%◌, ◌<◌}
use native.Mathlib.Omega.{arith}
use mathlib.Core.Path.{◌≡◌, refl, ap, ap₂, ◌∙◌}
use mathlib.Core.Bool.{Bool, true, false, cond, ◌&&◌}
use mathlib.Core.List.{List}
use lib.ListN.{length, get_or}
use lib.Dec.{ltb, leb}
use lib.IntN.{ℤ, pos, nat_abs}
use borrow.Author.Tests.{lt-leb}
use Rattle.lemmas.specs.Sums.{every}
use Rattle.lemmas.proofs.Chains.{chunk, every_cong}
use Rattle.universe.specs.declared.Universe.{Universe}
use Rattle.universe.specs.Refusals.{bad_rows}
use Rattle.universe.specs.Universe.{most_axes, offset_limit, coefficient_limit}
use Rattle.csg.specs.Halfspace.{row_length, most_rows, row_count, row_at, within_limits, rows_refusal}
use Rattle.csg.proofs.Limits.{number_at}

-- whether an axis's coefficient is within its limit, of a row that is there alone
abbrev pub coefficient_within : Universe → List ℤ → ℕ → Bool
coefficient_within u row i = leb (nat_abs (get_or row (1 + i) (pos 0))) (cond (ltb i u.axes) coefficient_limit 0)

module _ (u : Universe) (row : List ℤ) {first : Bool} (e : first ≡ leb (nat_abs (get_or row 0 (pos 0))) offset_limit) where
  pub offset_off : first ≡ false → false ≡ within_limits u (row_at row 0)
  unfolding within_limits
  offset_off t = rw (← e, t)

  pub coefficients_told : first ≡ true → {others : Bool} → others ≡ every most_axes (coefficient_within u row) → others ≡ within_limits u (row_at row 0)
  unfolding within_limits
  coefficients_told t f =
      rw (← e, t)
      (f
      ∙ every_cong most_axes _ _
      (λ i h.
      let at : 1 + i ≡ row_length * 0 + suc i = omega arith in
      ap (λ (n : ℕ). leb (nat_abs (get_or row n (pos 0))) (cond (ltb i u.axes) coefficient_limit 0)) at))

pub row_chunk : (u : Universe) (rows : List ℤ) (k : ℕ) → within_limits u (row_at (chunk row_length rows k) 0) ≡ within_limits u (row_at rows k)
unfolding within_limits
row_chunk u rows k =
    ap₂ ◌&&◌ (ap (λ z. leb (nat_abs z) offset_limit) (number_at row_length rows k 0 (omega arith) refl (omega arith)))
    (every_cong most_axes _ _
    (λ i h.
    ap (λ z. leb (nat_abs z) (cond (ltb i u.axes) coefficient_limit 0)) (number_at row_length rows k (suc i) (omega arith) (omega arith) refl)))

-- too many rows
pub rows_too_many : (u : Universe) (rows : List ℤ) → length rows % row_length ≡ 0 → most_rows < row_count rows → rows_refusal u rows ≡ bad_rows
unfolding rows_refusal
rows_too_many u rows e h = rw (e, lt-leb (row_count rows) most_rows h)
