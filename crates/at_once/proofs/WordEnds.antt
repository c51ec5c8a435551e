-- The end of a word by the cases of its definition; it is no further from the block's first frame than the halvings together are long.
use mathlib.Core.Path.{◌≡◌, sym, ap, ap₂, ◌∙◌}
use mathlib.Core.Bool.{Bool, true, false, cond, not}
use Prim.Native.Nat.{ℕ, zero, suc, ◌+◌, ◌-◌, ◌*◌, ◌/◌, ◌%◌, ◌^◌, ◌≤◌, ◌<◌}
use mathlib.Core.List.{List}
use native.Mathlib.Omega.{arith}
use native.Mathlib.Nat.{zero-add}
use lib.Dec.{eqb}
use lib.Bits.{bit_or}
use lib.ListN.{get_or}
use borrow.Author.Tests.{eq-eqb, ne_eqb}
use Rattle.universe.specs.declared.Universe.{Universe}
use Rattle.universe.specs.Universe.{longest_side, frame_axis}
use Rattle.universe.proofs.Universes.{Accepted, accepted}
use Rattle.masks.specs.Steps.{axis_left, side_left}
use Rattle.masks.specs.MaskEnds.{mask_end}
use Rattle.at_once.specs.Words.{Halvings}
use Rattle.at_once.proofs.Halvings.{side_short, axis_tabled, length_tabled}

-- ---- the cases
module _ (last : Bool) (u : Universe) (n m : ℕ) where
  abbrev later : Bool
  later = cond last (not (eqb (m / 2 ^ 2 ^ n) 0)) (eqb (m % 2 ^ 2 ^ n) 0)

  end_along_lem : (axis_left u n ≡ frame_axis u → ⊥) → mask_end last u (suc n) m ≡ mask_end last u n (bit_or (m % 2 ^ 2 ^ n) (m / 2 ^ 2 ^ n))
  unfolding mask_end
  end_along_lem k = rw (ne_eqb (axis_left u n) (frame_axis u) k)

  end_across : axis_left u n ≡ frame_axis u →
      mask_end last u (suc n) m ≡ cond later (side_left u n) 0 + mask_end last u n (cond later (m / 2 ^ 2 ^ n) (m % 2 ^ 2 ^ n))
  unfolding mask_end
  end_across e = rw (eq-eqb (axis_left u n) (frame_axis u) e)

  end_later : axis_left u n ≡ frame_axis u → later ≡ true → mask_end last u (suc n) m ≡ side_left u n + mask_end last u n (m / 2 ^ 2 ^ n)
  end_later e t = end_across e ∙ ap (λ (b : Bool). cond b (side_left u n) 0 + mask_end last u n (cond b (m / 2 ^ 2 ^ n) (m % 2 ^ 2 ^ n))) t

  end_earlier : axis_left u n ≡ frame_axis u → later ≡ false → mask_end last u (suc n) m ≡ mask_end last u n (m % 2 ^ 2 ^ n)
  end_earlier e t =
      end_across e
      ∙ ap (λ (b : Bool). cond b (side_left u n) 0 + mask_end last u n (cond b (m / 2 ^ 2 ^ n) (m % 2 ^ 2 ^ n))) t
      ∙ zero-add (mask_end last u n (m % 2 ^ 2 ^ n))

pub end_none : (last : Bool) (u : Universe) {left : ℕ} (m : ℕ) → left ≡ 0 → 0 ≡ mask_end last u left m
unfolding mask_end
end_none last u m e = rw e

-- no later than all halves together are long
end_few : (last : Bool) (u : Universe) → Accepted u → (n m : ℕ) → mask_end last u n m ≤ n * longest_side
unfolding mask_end
end_few last u accept zero m = omega arith
end_few last u accept (suc n) m = go (eqb (axis_left u n) (frame_axis u)) (later last u n m) (λ x. end_few last u accept n x)
  where
    go : (across t : Bool) → ((x : ℕ) → mask_end last u n x ≤ n * longest_side) →
        cond across (cond t (side_left u n) 0 + mask_end last u n (cond t (m / 2 ^ 2 ^ n) (m % 2 ^ 2 ^ n)))
        (mask_end last u n (bit_or (m % 2 ^ 2 ^ n) (m / 2 ^ 2 ^ n)))
        ≤ suc n * longest_side
    go true true ih = omega (arith, ih (m / 2 ^ 2 ^ n), side_short u accept n)
    go true false ih = omega (arith, ih (m % 2 ^ 2 ^ n))
    go false t ih = omega (arith, ih (bit_or (m % 2 ^ 2 ^ n) (m / 2 ^ 2 ^ n)))

-- ---- as the code has them
module _ {frame : ℕ} {table lengths : List ℕ} {left : ℕ} (h : Halvings frame table lengths left) (k : left ≡ 0 → ⊥) (last : Bool) (m : ℕ) {lo hi : ℕ}
    (lo-is : lo ≡ m % 2 ^ 2 ^ (left - 1)) (hi-is : hi ≡ m / 2 ^ 2 ^ (left - 1)) where
  abbrev u : Universe
  u = h.universe

  suc_left : left ≡ suc (left - 1)
  suc_left = omega arith

  across_is : get_or table (left - 1) 0 ≡ frame → axis_left u (left - 1) ≡ frame_axis u
  across_is e = sym (axis_tabled h k) ∙ e ∙ h.frame_is

  later_is : later last u (left - 1) m ≡ cond last (not (eqb hi 0)) (eqb lo 0)
  later_is = rw (lo-is, hi-is)

  pub gives_along : (get_or table (left - 1) 0 ≡ frame → ⊥) → {r : ℕ} → r ≡ mask_end last u (left - 1) (bit_or lo hi) → r ≡ mask_end last u left m
  gives_along d e =
      e
      ∙ ap₂ (λ (x y : ℕ). mask_end last u (left - 1) (bit_or x y)) lo-is hi-is
      ∙ sym (end_along_lem last u (left - 1) m (λ z. d (axis_tabled h k ∙ z ∙ sym h.frame_is)))
      ∙ ap (λ (n : ℕ). mask_end last u n m) (sym suc_left)

  pub gives_later : get_or table (left - 1) 0 ≡ frame → {t : Bool} → t ≡ cond last (not (eqb hi 0)) (eqb lo 0) → t ≡ true → {r : ℕ} →
      r ≡ mask_end last u (left - 1) hi → get_or lengths (left - 1) 0 + r ≡ mask_end last u left m
  gives_later a e f {r} p =
      ap (λ (x : ℕ). x + r) (length_tabled h k)
      ∙ ap (λ (x : ℕ). side_left u (left - 1) + x) (p ∙ ap (mask_end last u (left - 1)) hi-is)
      ∙ sym (end_later last u (left - 1) m (across_is a) (later_is ∙ sym e ∙ f))
      ∙ ap (λ (n : ℕ). mask_end last u n m) (sym suc_left)

  pub gives_earlier : get_or table (left - 1) 0 ≡ frame → {t : Bool} → t ≡ cond last (not (eqb hi 0)) (eqb lo 0) → t ≡ false → {r : ℕ} →
      r ≡ mask_end last u (left - 1) lo → r ≡ mask_end last u left m
  gives_earlier a e f p =
      p
      ∙ ap (mask_end last u (left - 1)) lo-is
      ∙ sym (end_earlier last u (left - 1) m (across_is a) (later_is ∙ sym e ∙ f))
      ∙ ap (λ (n : ℕ). mask_end last u n m) (sym suc_left)

  -- the sum fits
  pub end_fits : {r : ℕ} → r ≡ mask_end last u (left - 1) hi → get_or lengths (left - 1) 0 + r < 2 ^ 64
  end_fits {r} p =
      omega (
        arith,
        length_tabled h k,
        side_short u (accepted u h.accepted) (left - 1),
        end_few last u (accepted u h.accepted) (left - 1) hi,
        h.few,
      )
