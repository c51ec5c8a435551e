-- Axes with equal bits take turns: each round before the bits are used up is 0, 1, .., d − 1, so place n × d + i of the order holds axis i.
use mathlib.Core.Path.{◌≡◌, refl, sym, ap, ◌∙◌}
use mathlib.Core.List.{[], ◌∷◌, ◌++◌}
use Prim.Native.Nat.{ℕ, zero, suc, ◌+◌, ◌-◌, ◌*◌, ◌%◌, ◌≤◌, ◌<◌}
use native.Mathlib.Omega.{arith}
use native.Mathlib.Nat.{not-suc-le-zero, mul-add-mod_self_right, mod-eq_of_lt}
use native.Mathlib.Decide.{ℕ_discrete, dec_lt}
use lib.ListN.{length, get_or, length-append, get_or-append}
use lib.Seq.{get_or-append-add, get_or_at}
use borrow.Author.Tests.{lt-ltb}
use Rattle.lemmas.specs.Sums.{sum}
use Rattle.lemmas.proofs.Sums.{sum_cong, sum_same}
use Rattle.universe.specs.Rounds.{round, rounds}
use Rattle.universe.proofs.Orders.{rounds_alike}

module _ (bits : ℕ → ℕ) (d k : ℕ) (equal : (i : ℕ) → i < d → bits i ≡ k) where
  round_length : (r e : ℕ) → r < k → e ≤ d → length (round bits r e) ≡ e
  unfolding round
  round_length r zero h l = refl
  round_length r (suc e) h l =
      rw (lt-ltb r (bits e) (omega (arith, equal e (omega arith))), length-append) (omega (arith, round_length r e h (omega arith)))

  round_at : (r e i : ℕ) → r < k → e ≤ d → i < e → get_or (round bits r e) i 0 ≡ i
  unfolding round
  round_at r zero i h l j = absurd (not-suc-le-zero j)
  round_at r (suc e) i h l j =
      rw (lt-ltb r (bits e) (omega (arith, equal e (omega arith))))
      (go (ℕ_discrete i e) (round_length r e h (omega arith)) (round_at r e i h (omega arith)))
    where
      go : Dec (i ≡ e) → length (round bits r e) ≡ e → (i < e → get_or (round bits r e) i 0 ≡ i) → get_or (round bits r e ++ (e ∷ [])) i 0 ≡ i
      go (yes q) size ih = get_or_at (round bits r e) e [] 0 i (omega arith) ∙ sym q
      go (no q) size ih = get_or-append (round bits r e) (e ∷ []) 0 i (omega arith) ∙ ih (omega arith)

  rounds_length : (n : ℕ) → n ≤ k → length (rounds bits d n) ≡ n * d
  unfolding rounds
  rounds_length zero h = omega arith
  rounds_length (suc n) h = rw length-append (omega (arith, rounds_length n (omega arith), round_length n d (omega arith) (omega arith)))

  rounds_at : (n l : ℕ) → n ≤ k → l < n * d → get_or (rounds bits d n) l 0 ≡ l % d
  unfolding rounds
  rounds_at zero l h j = absurd (omega arith)
  rounds_at (suc n) l h j = go (dec_lt l (n * d)) (rounds_at n l (omega arith))
    where
      last : (i : ℕ) → i < d → l ≡ n * d + i → get_or (rounds bits d n ++ round bits n d) l 0 ≡ l % d
      last i f e =
          let place : l ≡ length (rounds bits d n) + i = omega (arith, rounds_length n (omega arith)) in
          ap (λ z. get_or (rounds bits d n ++ round bits n d) z 0) place
          ∙ get_or-append-add (rounds bits d n) (round bits n d) i 0
          ∙ round_at n d i (omega arith) (omega arith) f
          ∙ sym (ap (λ z. z % d) e ∙ mul-add-mod_self_right n d i ∙ mod-eq_of_lt f)

      go : Dec (l < n * d) → (l < n * d → get_or (rounds bits d n) l 0 ≡ l % d) → get_or (rounds bits d n ++ round bits n d) l 0 ≡ l % d
      go (yes b) ih = get_or-append (rounds bits d n) (round bits n d) 0 l (omega (arith, rounds_length n (omega arith))) ∙ ih b
      go (no b) ih = last (l - n * d) (omega arith) (omega arith)

  pub equal_sum : sum d bits ≡ d * k
  equal_sum = sum_cong d bits (λ i. k) equal ∙ sum_same d k

  pub equal_turns : (n l : ℕ) → k ≤ n → l < d * k → get_or (rounds bits d n) l 0 ≡ l % d
  equal_turns n l h j =
      rw (rounds_alike bits d n k (λ i b. omega (arith, equal i b)) (λ i b. omega (arith, equal i b)))
      (rounds_at k l (omega arith) (omega arith))
