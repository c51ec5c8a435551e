-- Checks one after the other, as code makes them: one that refuses gives the answer, one that accepts leaves the answer to those after it.
use Prim.Native.Nat.{ℕ, zero, suc}
use native.Mathlib.Omega.{arith}
use mathlib.Core.Path.{◌≡◌, refl, sym, ◌∙◌}
use mathlib.Core.List.{List, [], ◌∷◌}
use borrow.Author.Tests.{eq-eqb, ne_eqb}
use Rattle.universe.specs.Refusals.{first_refusal}
use Rattle.universe.proofs.Refusing.{last_check}

-- the answer is up to these checks
pub record Left (answer : ℕ) (checks : List ℕ) : Type 0 where
  pub same : answer ≡ first_refusal checks

accepting : (n : ℕ) (ns : List ℕ) → n ≡ 0 → first_refusal (n ∷ ns) ≡ first_refusal ns
accepting n ns e = rw (eq-eqb n 0 e)

refusing : (n : ℕ) (ns : List ℕ) → (n ≡ 0 → ⊥) → first_refusal (n ∷ ns) ≡ n
refusing n ns f = rw (ne_eqb n 0 f)

module _ {answer n : ℕ} {ns : List ℕ} (left : Left answer (n ∷ ns)) where
  module _ {x : ℕ} (check : x ≡ n) where
    pub left_refused : (x ≡ 0 → ⊥) → x ≡ answer
    left_refused f = check ∙ sym (left.same ∙ refusing n ns (λ e. f (check ∙ e)))

    pub left_next : x ≡ 0 → Left answer ns
    left_next e = record { same = left.same ∙ accepting n ns (sym check ∙ e) }

  -- where the answer is that all accept, each does
  pub left_accepts : answer ≡ 0 → n ≡ 0
  left_accepts e = by n refl
    where
      by : (k : ℕ) → n ≡ k → n ≡ 0
      by zero p = p
      by (suc k) p = absurd (omega (arith, left.same, refusing n ns (λ z. omega arith)))

  pub left_others : answer ≡ 0 → Left answer ns
  left_others e = record { same = left.same ∙ accepting n ns (left_accepts e) }

pub left_last : {answer n x : ℕ} → Left answer (n ∷ []) → x ≡ n → x ≡ answer
left_last {answer} {n} left check = check ∙ sym (left.same ∙ last_check n)
