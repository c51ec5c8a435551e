-- The rows of a stretch in one list: the static rows, and behind them the Box's six.
use Prim.Native.Nat.{ℕ, zero, suc, ◌+◌, ◌*◌, ◌≤◌, ◌<◌}
use native.Mathlib.Numerals.{add-one}
use native.Mathlib.Omega.{arith}
use mathlib.Core.Path.{◌≡◌, refl, ap}
use mathlib.Core.List.{List, [], ◌∷◌, ◌++◌}
use lib.IntN.{ℤ}
use lib.ListN.{length, get_or, set, take, drop, length-append}
use Rattle.csg.specs.Halfspace.{row_length}
use Rattle.standin.specs.Rows.{rows_between}
use Rattle.standin.specs.Points.{flat}
use Rattle.mover.specs.Keys.{Mover}
use Rattle.mover.specs.Stretches.{near_at0, far_at0, step_along, stretch_rows}
use Rattle.mover.specs.Answers.{box_rows}

module _ (m : Mover) (i : ℕ) (rows : List ℤ) where
  -- so many numbers they are
  pub numbers_count : length (rows ++ stretch_rows m i) ≡ length rows + box_rows * row_length
  unfolding stretch_rows
  numbers_count = length-append rows (stretch_rows m i)

  -- and after six rows all of them are laid
  pub laid_all : {end k : ℕ} {six : List (List ℤ)} {now : List ℤ} (before : List ℤ) → end ≡ length rows + k * row_length → k ≡ box_rows →
      six ≡ rows_between (near_at0 m i) (far_at0 m i) (step_along m i) → now ≡ (rows ++ flat (take k six)) ++ drop end before →
      now ≡ (rows ++ stretch_rows m i) ++ drop (length (rows ++ stretch_rows m i)) before
  unfolding stretch_rows
  laid_all {end} before e f g h = let n : end ≡ length (rows ++ stretch_rows m i) = omega (arith, numbers_count) in rw (f, g, n) at h

-- the first numbers stand in front of what was there: one more of them
front_grows : {A : Type 0} → (from before : List A) (i : ℕ) (d : A) → i < length from → length from ≤ length before →
    set (take i from ++ drop i before) i (get_or from i d) ≡ take (suc i) from ++ drop (suc i) before
front_grows [] before i d h k = absurd (omega arith)
front_grows (x ∷ from) [] i d h k = absurd (omega arith)
front_grows (x ∷ from) (y ∷ before) zero d h k = refl
front_grows {A} (x ∷ from) (y ∷ before) (suc i) d h k = ap (λ (l : List A). x ∷ l) (front_grows from before i d (omega arith) (omega arith))

pub front_next : {A : Type 0} (from before : List A) {now : List A} (i : ℕ) (d : A) {x : A} → now ≡ take i from ++ drop i before → i < length from →
    length from ≤ length before → x ≡ get_or from i d → set now i x ≡ take (i + 1) from ++ drop (i + 1) before
front_next from before {now} i d {x} e h k v = rw (e, v, add-one i) (front_grows from before i d h k)
