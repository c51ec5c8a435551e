-- Rules 1.5 and 2.2: the value of a halfspace at a point between whole ones: its places are fractions over one
-- denominator.
use Rattle.std.specs.Prelude.{ℕ, ℤ, pos, ◌+ℤ◌, ◌*ℤ◌}
use Rattle.lemmas.specs.Sums.{total}
use Rattle.universe.specs.declared.Universe.{Universe}
use Rattle.csg.specs.Halfspace.{Halfspace}

-- k times the value at the point whose place along axis i is p i / k
unfoldable pub value_over : Universe → Halfspace → ℕ → (ℕ → ℕ) → ℤ
value_over u h k p = pos k *ℤ h.offset +ℤ total u.axes (λ i. h.coefficient i *ℤ pos (p i))
