-- The word of a window by its halves: across the frame axis the high half's frames begin a half's length later, elsewhere both halves are alike. Where all
-- frames of the block are the window's, so are all its voxels.
use mathlib.Core.Path.{◌≡◌, refl, sym, ap, ap₂, ◌∙◌}
use mathlib.Core.Bool.{Bool, true, false}
use Prim.Native.Nat.{ℕ, suc, ◌+◌, ◌-◌, ◌*◌, ◌^◌, ◌≤◌, ◌<◌}
use mathlib.Core.List.{List}
use native.Mathlib.Omega.{arith}
use native.Mathlib.Nat.{mul-le-mul_right}
use lib.ListN.{get_or}
use borrow.Author.Tests.{eq-eqb, ne_eqb, le-leb}
use mir.Val.{bool_byte}
use Rattle.lemmas.specs.Grid.{count}
use Rattle.universe.specs.declared.Universe.{Universe}
use Rattle.universe.specs.Universe.{longest_side, levels, frame_axis}
use Rattle.universe.proofs.Universes.{Accepted, accepted, side_positive}
use Rattle.masks.specs.Mask.{all_ones}
use Rattle.masks.specs.Steps.{axis_left, step_along, steps_along}
use Rattle.masks.specs.Windows.{is_between, window_mask}
use Rattle.masks.proofs.Mask.{mask_below, mask_cong, everywhere_mask}
use Rattle.masks.proofs.Steps.{steps_few}
use Rattle.masks.proofs.Windows.{window_halves, window_voxel}
use Rattle.at_once.specs.Words.{word_levels, Halvings, Framed}
use Rattle.at_once.proofs.Halvings.{axis_tabled, length_tabled}

pub byte_count : (t : Bool) → bool_byte t ≡ count t
byte_count true = refl
byte_count false = refl

pub window_none : (first last : ℕ) (u : Universe) {left : ℕ} (frame : ℕ) → left ≡ 0 → {t : Bool} → t ≡ is_between first last frame →
    bool_byte t ≡ window_mask first last u left frame
window_none first last u {left} frame e {t} f =
    byte_count t ∙ ap count f ∙ sym (window_voxel first last u frame) ∙ ap (λ (n : ℕ). window_mask first last u n frame) (sym e)

pub window_fits : (first last : ℕ) (u : Universe) (n frame : ℕ) {w : ℕ} → w ≡ window_mask first last u n frame → w < 2 ^ 2 ^ n
unfolding window_mask
window_fits first last u n frame e = rw e (mask_below (2 ^ n) _)

module _ {axis : ℕ} {table lengths : List ℕ} {left : ℕ} (h : Halvings axis table lengths left) (k : left ≡ 0 → ⊥) (first last frame : ℕ) {low : ℕ}
    (low_is : low ≡ window_mask first last h.universe (left - 1) frame) where
  abbrev u : Universe
  u = h.universe

  suc_left : left ≡ suc (left - 1)
  suc_left = omega arith

  halves : window_mask first last u left frame
      ≡ window_mask first last u (left - 1) (frame + step_along u (frame_axis u) (left - 1)) * 2 ^ 2 ^ (left - 1) + window_mask first last u (left - 1) frame
  halves = ap (λ (n : ℕ). window_mask first last u n frame) suc_left ∙ window_halves first last u (left - 1) frame

  pub gives_alike : (get_or table (left - 1) 0 ≡ axis → ⊥) → {r : ℕ} → r ≡ low * 2 ^ 2 ^ (left - 1) + low → r ≡ window_mask first last u left frame
  gives_alike d e =
      let none : frame + step_along u (frame_axis u) (left - 1) ≡ frame =
      rw (ne_eqb (axis_left u (left - 1)) (frame_axis u) (λ z. d (axis_tabled h k ∙ z ∙ sym h.frame_is))) (omega arith) in
      e
      ∙ ap (λ (w : ℕ). w * 2 ^ 2 ^ (left - 1) + w) low_is
      ∙ sym (halves ∙ ap (λ (f : ℕ). window_mask first last u (left - 1) f * 2 ^ 2 ^ (left - 1) + window_mask first last u (left - 1) frame) none)

  pub gives_across : get_or table (left - 1) 0 ≡ axis → {high r : ℕ} → high ≡ window_mask first last u (left - 1) (frame + get_or lengths (left - 1) 0) →
      r ≡ high * 2 ^ 2 ^ (left - 1) + low → r ≡ window_mask first last u left frame
  gives_across a p e =
      let step : step_along u (frame_axis u) (left - 1) ≡ get_or lengths (left - 1) 0 =
      rw (eq-eqb (axis_left u (left - 1)) (frame_axis u) (sym (axis_tabled h k) ∙ a ∙ h.frame_is)) (sym (length_tabled h k)) in
      e
      ∙ ap₂ (λ (x y : ℕ). x * 2 ^ 2 ^ (left - 1) + y) p low_is
      ∙ sym (halves ∙ ap (λ (s : ℕ). window_mask first last u (left - 1) (frame + s) * 2 ^ 2 ^ (left - 1) + window_mask first last u (left - 1) frame) step)

-- ---- all frames of a block are the window's
module _ {axis : ℕ} {table lengths : List ℕ} {left frame wide : ℕ} (f : Framed axis table lengths left frame wide) where
  abbrev v : Universe
  v = f.halvings.universe

  taken : Accepted v
  taken = accepted v f.halvings.accepted

  pub wide_some : 1 ≤ wide
  wide_some = omega (arith, f.wide_is, side_positive v (levels v - left) (frame_axis v))

  pub frames_fit : frame + left * longest_side < 2 ^ 64
  frames_fit =
      let k : left * longest_side ≤ word_levels * longest_side = mul-le-mul_right longest_side f.halvings.few in
      omega (arith, f.inside)

  pub all_frames : (first last : ℕ) → first ≤ frame → frame + (wide - 1) ≤ last → {r : ℕ} → r ≡ all_ones (2 ^ left) → r ≡ window_mask first last v left frame
  unfolding window_mask
  all_frames first last h k e =
      e ∙ sym (mask_cong (2 ^ left) _ (λ i. true) (λ i m. between i) ∙ everywhere_mask (2 ^ left))
    where
      between : (i : ℕ) → is_between first last (frame + steps_along v (frame_axis v) left i) ≡ true
      between i =
          let few = steps_few v (frame_axis v) taken.some_axes left i f.halvings.above in
          rw (
            le-leb first (frame + steps_along v (frame_axis v) left i) (omega arith),
            le-leb (frame + steps_along v (frame_axis v) left i) last (omega (arith, f.wide_is)),
          ) refl
