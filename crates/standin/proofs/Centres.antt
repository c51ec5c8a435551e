-- A halfspace is BLACK at the centre of a voxel exactly if it holds there as a point: over the denominator 2 both are the same whole number.
use Rattle.std.proofs.Common.{◌≡◌, ℕ, ◌+◌, ◌*◌, Bool, true, false, cond, ◌↔◌, List, ℤ, pos, ◌+ℤ◌, ◌*ℤ◌, ◌≤ℤ◌, refl, arith, lit<}
use mathlib.Core.Logic.Iff
use lib.Signed.{le_z}
use Rattle.lemmas.specs.Sums.{total}
use Rattle.lemmas.proofs.Whole.{ι, ν, ◌⊕◌ as ◌+ᴱ◌, ◌⊗◌ as ◌*ᴱ◌, le_z_true, le_le_z}
use Rattle.universe.specs.declared.Universe.{Universe}
use Rattle.universe.specs.Voxel.{place_along}
use Rattle.bintree.specs.declared.Colour.TheVariants.{White, Black}
use Rattle.csg.specs.Halfspace.{Halfspace, centre_value, colour_at_centre}
use Rattle.standin.specs.Rows.{proxy_axes}
use Rattle.standin.specs.Points.{HoldsAt, middle, centre}
use Rattle.standin.proofs.Points.{Worth, Common, same_gap, halfspace_at}

middle_worth : (c : ℕ) → Worth (middle c) 2 (pos (2 * c + 1))
middle_worth c = record { is = refl }

centre_common : (c : List ℕ) → Common (centre c)
centre_common c =
    record {
      k = 2;
      proper = lit< tt;
      x = pos (2 * place_along c 0 + 1);
      y = pos (2 * place_along c 1 + 1);
      z = pos (2 * place_along c 2 + 1);
      t = pos (2 * place_along c 3 + 1);
      x_is = middle_worth (place_along c 0);
      y_is = middle_worth (place_along c 1);
      z_is = middle_worth (place_along c 2);
      t_is = middle_worth (place_along c 3);
    }

black : (b : Bool) → (cond b Black White ≡ Black) ↔ (b ≡ true)
black true = (λ e. refl, λ e. refl)
black false = (λ e. let z : ◌≡◌ {A = ℕ} 0 1 = cc in absurd (omega arith), λ e. let z : ◌≡◌ {A = ℕ} 0 1 = cc in absurd (omega arith))

-- the two sums have the same terms
same_sum : (o a b c d : ℤ) → (pos 0 ≤ℤ (pos 2 *ℤ o +ℤ (pos 0 +ℤ a +ℤ b +ℤ c +ℤ d))) ↔ ((pos 0 *ℤ pos 2) ≤ℤ (o *ℤ pos 2 +ℤ a +ℤ b +ℤ c +ℤ d))
same_sum o a b c d =
    same_gap (ν 0) (ν 2 *ᴱ ι o +ᴱ (ν 0 +ᴱ ι a +ᴱ ι b +ᴱ ι c +ᴱ ι d)) (ν 0 *ᴱ ν 2) (ι o *ᴱ ν 2 +ᴱ ι a +ᴱ ι b +ᴱ ι c +ᴱ ι d) (omega arith)

pub centre_holds : (u : Universe) → u.axes ≡ proxy_axes → (h : Halfspace) (c : List ℕ) → (colour_at_centre u h c ≡ Black) ↔ HoldsAt h (centre c)
unfolding colour_at_centre centre_value total centre_common
centre_holds u e h c =
    let term : ℕ → ℤ = λ i. h.coefficient i *ℤ pos (2 * place_along c i + 1) in
    rw e
    (Iff.trans (black (le_z (pos 0) (pos 2 *ℤ h.offset +ℤ total proxy_axes term)))
    (Iff.trans (le_z_true (pos 0) (pos 2 *ℤ h.offset +ℤ total proxy_axes term), le_le_z)
    (Iff.trans (same_sum h.offset (term 0) (term 1) (term 2) (term 3))
    (Iff.symm (halfspace_at h (centre c) (centre_common c))))))
