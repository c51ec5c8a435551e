-- What the theorems share. `ended` is a function's signature and `clauses` its contract, both as the toolchain reads them off the code. The idea is one
-- throughout: each clause of a contract is an equation with a definition, which both answers then equal, refused or not.
use Prim.Native.Nat.{ℕ, zero, suc}
use mathlib.Core.Path.{◌≡◌, ◌∙◌, sym}
use base.Logic.{ent, sep, via, fst∗, snd∗, id⊢}
use contract.Monad.{fact, fact_i, fact_use}
use borrow.Fn.World.{World, Pr}

-- two that equal one definition
pub same : {A : Type 0} {x y definition : A} → x ≡ definition → y ≡ definition → x ≡ y
same p q = p ∙ sym q

module _ (w : World) where
  -- what follows from the facts that two assertions show
  both : {φ ψ χ : Type 0} (P Q : Pr w) → ent w.𝓤 P (fact w.𝓤 φ) → ent w.𝓤 Q (fact w.𝓤 ψ) → (φ → ψ → χ) →
      ent w.𝓤 (sep w.𝓤 P Q) (fact w.𝓤 χ)
  both {φ} {ψ} {χ} P Q p q follows =
      fact_use w.𝓤 φ (via w.𝓤 P (fst∗ w.𝓤 P Q) p) (λ x.
      fact_use w.𝓤 ψ (via w.𝓤 Q (snd∗ w.𝓤 P Q) q) (λ y. fact_i w.𝓤 χ (sep w.𝓤 P Q) (follows x y)))

  -- one more than n clauses that are facts: the facts, what a contract says by them, and what is known by them
  abbrev Facts : ℕ → Type 1
  Facts zero = Type 0
  Facts (suc n) = Type 0 × Facts n

  abbrev Said : (n : ℕ) → Facts n → Pr w
  Said zero φ = fact w.𝓤 φ
  Said (suc n) φs = sep w.𝓤 (fact w.𝓤 φs.0) (Said n φs.1)

  abbrev Known : (n : ℕ) → Facts n → Type 0
  Known zero φ = φ
  Known (suc n) φs = φs.0 × Known n φs.1

  known : (n : ℕ) (φs : Facts n) → ent w.𝓤 (Said n φs) (fact w.𝓤 (Known n φs))
  known zero φ = id⊢ w.𝓤 (fact w.𝓤 φ)
  known (suc n) φs = both (fact w.𝓤 φs.0) (Said n φs.1) (id⊢ w.𝓤 (fact w.𝓤 φs.0)) (known n φs.1) (λ p q. (p, q))

  -- what follows from such clauses of two answers
  abbrev Shown : (n : ℕ) → Facts n → Facts n → Type 0 → Type 1
  Shown n φs ψs χ = ent w.𝓤 (sep w.𝓤 (Said n φs) (Said n ψs)) (fact w.𝓤 χ)

  follows : (n : ℕ) (φs ψs : Facts n) {χ : Type 0} → (Known n φs → Known n ψs → χ) → Shown n φs ψs χ
  follows n φs ψs = both (Said n φs) (Said n ψs) (known n φs) (known n ψs)

  -- a contract of one clause, of two, and so on
  pub one : {a a' χ : Type 0} → (a → a' → χ) → Shown 0 a a' χ
  one {a} {a'} = follows 0 a a'

  pub two : {a b a' b' χ : Type 0} → (a × b → a' × b' → χ) → Shown 1 (a, b) (a', b') χ
  two {a} {b} {a'} {b'} = follows 1 (a, b) (a', b')

  pub three : {a b c a' b' c' χ : Type 0} → (a × b × c → a' × b' × c' → χ) → Shown 2 (a, (b, c)) (a', (b', c')) χ
  three {a} {b} {c} {a'} {b'} {c'} f = follows 2 (a, (b, c)) (a', (b', c')) (λ p q. f (p.0, p.1.0, p.1.1) (q.0, q.1.0, q.1.1))

  pub four : {a b c d a' b' c' d' χ : Type 0} → (a × b × c × d → a' × b' × c' × d' → χ) → Shown 3 (a, (b, (c, d))) (a', (b', (c', d'))) χ
  four {a} {b} {c} {d} {a'} {b'} {c'} {d'} f =
      follows 3 (a, (b, (c, d))) (a', (b', (c', d'))) (λ p q. f (p.0, p.1.0, p.1.1.0, p.1.1.1) (q.0, q.1.0, q.1.1.0, q.1.1.1))

  pub five : {a b c d e a' b' c' d' e' χ : Type 0} → (a × b × c × d × e → a' × b' × c' × d' × e' → χ) →
      Shown 4 (a, (b, (c, (d, e)))) (a', (b', (c', (d', e')))) χ
  five {a} {b} {c} {d} {e} {a'} {b'} {c'} {d'} {e'} f =
      follows 4 (a, (b, (c, (d, e)))) (a', (b', (c', (d', e'))))
      (λ p q. f (p.0, p.1.0, p.1.1.0, p.1.1.1.0, p.1.1.1.1) (q.0, q.1.0, q.1.1.0, q.1.1.1.0, q.1.1.1.1))

  pub six : {a b c d e g a' b' c' d' e' g' χ : Type 0} → (a × b × c × d × e × g → a' × b' × c' × d' × e' × g' → χ) →
      Shown 5 (a, (b, (c, (d, (e, g))))) (a', (b', (c', (d', (e', g'))))) χ
  six {a} {b} {c} {d} {e} {g} {a'} {b'} {c'} {d'} {e'} {g'} f =
      follows 5 (a, (b, (c, (d, (e, g))))) (a', (b', (c', (d', (e', g')))))
      (λ p q.
      f (p.0, p.1.0, p.1.1.0, p.1.1.1.0, p.1.1.1.1.0, p.1.1.1.1.1)
      (q.0, q.1.0, q.1.1.0, q.1.1.1.0, q.1.1.1.1.0, q.1.1.1.1.1))

-- what stands behind so many parameters that are not lent to be written to
abbrev pub Behind : ℕ → Type 0 → Type 0
Behind zero A = A
Behind (suc n) A = Unit {0} × Behind n A

abbrev pub behind : (n : ℕ) {A : Type 0} → A → Behind n A
behind zero x = x
behind (suc n) x = (tt, behind n x)
