-- Sums over a list of shapes: sums of sums are exchanged, what holds of each shape holds of the sum; so what the shapes have of a frame, block by block, is the
-- number of its black voxels, one by one.
use mathlib.Core.Path.{◌≡◌, refl, ap, ◌∙◌}
use mathlib.Core.List.{List, [], ◌∷◌}
use Prim.Native.Nat.{ℕ, ◌+◌, ◌*◌, ◌≤◌}
use native.Mathlib.Omega.{arith}
use lib.ListN.{length}
use Rattle.lemmas.specs.Sums.{sum}
use Rattle.lemmas.proofs.Sums.{sum_add, sum_zero}
use Rattle.universe.specs.declared.Universe.{Universe}
use Rattle.universe.specs.Universe.{universe_refusal, levels}
use Rattle.universe.proofs.Universes.{accepted}
use Rattle.bintree.specs.Shape.{Shape, depth}
use Rattle.bintree.specs.Parts.{colour_at}
use Rattle.bintree.specs.Counts.{voxels_at}
use Rattle.demands.specs.Voxels.{black_voxels_at}
use Rattle.demands.proofs.Voxels.{frame_counts_lem}
use Rattle.report.specs.Lists.{sum_over}
use Rattle.report.specs.Reports.{frame_voxels}
use Rattle.report.specs.Filling.{voxels_over}
use Rattle.report.proofs.Lists.{Fit, none_fits, one_fits}

-- sums of sums
pub sum_over_lem : {A : Type 0} (n : ℕ) (list : List A) (f : A → ℕ → ℕ) → sum n (λ c. sum_over list (λ a. f a c)) ≡ sum_over list (λ a. sum n (f a))
unfolding sum_over
sum_over_lem n [] f = sum_zero n (λ c. 0) (λ c h. refl)
sum_over_lem n (a ∷ list) f = sum_add n (f a) (λ c. sum_over list (λ b. f b c)) ∙ ap (λ (x : ℕ). sum n (f a) + x) (sum_over_lem n list f)

-- what holds of each shape that is not too deep holds of the sum
pub over_cong : (n : ℕ) (f g : Shape → ℕ) → ((a : Shape) → depth a ≤ n → f a ≡ g a) → {list : List Shape} → Fit n list → sum_over list f ≡ sum_over list g
unfolding sum_over
over_cong n f g h none_fits = refl
over_cong n f g h (one_fits {a = a} d more) = let x = h a d in let y = over_cong n f g h more in omega arith

pub over_most : (n most : ℕ) (f : Shape → ℕ) → ((a : Shape) → depth a ≤ n → f a ≤ most) → {list : List Shape} → Fit n list → sum_over list f ≤ length list * most
unfolding sum_over
over_most n most f h none_fits = omega arith
over_most n most f h (one_fits {a = a} d more) = let x = h a d in let y = over_most n most f h more in omega arith

-- THEOREM: the shapes' voxels of a frame, block by block, are its black voxels
pub over_colours : (u : Universe) → universe_refusal u ≡ 0 → {list : List Shape} → Fit (levels u) list → (c : ℕ) → voxels_over u list c ≡ frame_voxels u list c
over_colours u ok f c =
    over_cong (levels u) (λ a. voxels_at u a c) (λ a. black_voxels_at u (colour_at u a) c) (λ a d. frame_counts_lem u (accepted u ok) a d c) f
