-- A test that holds at every place of a list, as the library's methods say it and as the definitions do.
use Prim.Native.Nat.{ℕ, zero, suc, ◌+◌, ◌-◌, ◌≤◌}
use native.Mathlib.Omega.{arith}
use native.Mathlib.Numerals.{add-one}
use mathlib.Core.Path.{◌≡◌, refl, sym, ap, ◌∙◌}
use mathlib.Core.Bool.{Bool, true, false, ◌&&◌}
use mathlib.Core.List.{List}
use lib.ListN.{length, get_or, take}
use Rattle.std.specs.List.{list_all, IsAllAdjacentAnswer}
use Rattle.std.proofs.lemmas.List.Folds.{list_all_more}
use Rattle.std.proofs.lemmas.List.{take_all}
use Rattle.lemmas.specs.Sums.{every}
use Rattle.lemmas.proofs.Sums.{all_every, one_not_every}

module _ {A : Type 0} (p : A → Bool) (xs : List A) (d : A) where
  so_far : (i : ℕ) → i ≤ length xs → list_all p (take i xs) ≡ every i (λ k. p (get_or xs k d))
  unfolding every
  so_far zero l = refl
  so_far (suc i) l = rw (← add-one) (list_all_more p xs i d (omega arith) ∙ ap (λ (b : Bool). b && p (get_or xs i d)) (so_far i (omega arith)))

  pub list_all-every : list_all p xs ≡ every (length xs) (λ k. p (get_or xs k d))
  list_all-every = ap (list_all p) (sym (take_all (length xs) xs (omega arith))) ∙ so_far (length xs) (omega arith)

-- so of each element and the next
pub adjacent-every : {A : Type 0} (p : A → A → Bool) (xs : List A) (d : A) (r : Bool) → IsAllAdjacentAnswer (λ x y b. b ≡ p x y) xs r →
    r ≡ every (length xs - 1) (λ k. p (get_or xs k d) (get_or xs (k + 1) d))
adjacent-every p xs d true h = sym (all_every (length xs - 1) (λ k. p (get_or xs k d) (get_or xs (k + 1) d)) (λ k l. sym (h k d (omega arith))))
adjacent-every p xs d false h =
    sym (one_not_every (length xs - 1) (λ k. p (get_or xs k d) (get_or xs (k + 1) d)) h.0 (omega (arith, h.1)) (sym (h.2 d)))
