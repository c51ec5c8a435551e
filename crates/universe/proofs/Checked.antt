-- A check's answer, asked by `is_ok` or `is_err`: it accepts exactly where the number that it tells is 0.
use mathlib.Core.Path.{◌≡◌, sym, ◌∙◌}
use mathlib.Core.Bool.{true, false}
use Prim.Native.Nat.{ℕ}
use Rattle.std.specs.Prelude.{Result, Ok, Err, is_ok, is_err}
use Rattle.universe.specs.declared.refusal.Refusal.{Refusal}
use Rattle.universe.specs.Told.{number_told}
use Rattle.universe.proofs.Telling.{number-not_zero}

module _ (a : Result (Unit {0}) Refusal) {n : ℕ} (e : number_told a ≡ n) where
  pub ok_accepts : is_ok a ≡ true → n ≡ 0
  ok_accepts t = go a e t
    where
      go : (r : Result (Unit {0}) Refusal) → number_told r ≡ n → is_ok r ≡ true → n ≡ 0
      go (Ok x) e t = sym e
      go (Err x) e t = cc

  pub ok_refuses : is_ok a ≡ false → n ≡ 0 → ⊥
  ok_refuses t z = go a e t
    where
      go : (r : Result (Unit {0}) Refusal) → number_told r ≡ n → is_ok r ≡ false → ⊥
      go (Ok x) e t = cc
      go (Err x) e t = number-not_zero x (e ∙ z)

  pub err_accepts : is_err a ≡ false → n ≡ 0
  err_accepts t = go a e t
    where
      go : (r : Result (Unit {0}) Refusal) → number_told r ≡ n → is_err r ≡ false → n ≡ 0
      go (Ok x) e t = sym e
      go (Err x) e t = cc

  pub err_refuses : is_err a ≡ true → n ≡ 0 → ⊥
  err_refuses t z = go a e t
    where
      go : (r : Result (Unit {0}) Refusal) → number_told r ≡ n → is_err r ≡ true → ⊥
      go (Ok x) e t = cc
      go (Err x) e t = number-not_zero x (e ∙ z)
