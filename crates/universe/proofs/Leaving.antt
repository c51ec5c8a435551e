-- A list of axes with axis j left out. Leaving out goes through `++`, so it goes round by round and axis by axis: below j nothing changes, at j the entry
-- goes, above j axis i + 1 is the new axis i. What stands at a place is then found as many places further to the front as j stands before it.
use mathlib.Core.Path.{◌≡◌, refl, sym, ap, ap₂, ◌∙◌}
use mathlib.Core.Bool.{Bool, true, false, cond}
use mathlib.Core.List.{List, [], ◌∷◌, ◌++◌, append-nil, append_assoc}
use Prim.Native.Nat.{ℕ, zero, suc, ◌+◌, ◌-◌, ◌≤◌, ◌<◌}
use native.Mathlib.Omega.{arith}
use native.Mathlib.Decide.{ℕ_discrete, dec_lt}
use lib.Dec.{eqb, ltb}
use lib.ListN.{length, get_or, take, drop, take-append-drop, length-append}
use lib.Seq.{length-take-le, take_at, get_or_at, split_at}
use borrow.Author.Tests.{eq-eqb, ne_eqb, lt-ltb, le-ltb}
use Rattle.lemmas.specs.Grid.{count}
use Rattle.lemmas.specs.Lists.{occurrences}
use Rattle.lemmas.proofs.Lists.{occurrences_append}
use Rattle.universe.specs.Rounds.{only_if, round, rounds, kept, without, axis_before, axis_after}

without_append : (j : ℕ) (xs ys : List ℕ) → without j (xs ++ ys) ≡ without j xs ++ without j ys
unfolding without
without_append j [] ys = refl
without_append j (x ∷ xs) ys = rw (without_append j xs ys) (sym (append_assoc (kept j x) (without j xs) (without j ys)))

-- ---- one entry

entry_low : (j i : ℕ) (t : Bool) → i < j → without j (only_if t i) ≡ only_if t i
unfolding without
entry_low j i true h = rw (ne_eqb i j (λ e. omega arith), lt-ltb i j h)
entry_low j i false h = refl

entry_here : (j : ℕ) (t : Bool) → without j (only_if t j) ≡ []
unfolding without
entry_here j true = rw (eq-eqb j j refl)
entry_here j false = refl

entry_high : (j i : ℕ) (t : Bool) → j ≤ i → without j (only_if t (suc i)) ≡ only_if t i
unfolding without
entry_high j i true h =
    rw (ne_eqb (suc i) j (λ e. omega arith), le-ltb (suc i) j (omega arith))
    (ap (λ x. x ∷ []) (let e : suc i - 1 ≡ i = omega arith in e))
entry_high j i false h = refl

-- ---- a round, and all rounds

module _ (bits : ℕ → ℕ) (j : ℕ) where
  -- the bits of the axes that are left
  abbrev left : ℕ → ℕ
  left i = bits (axis_before j i)

  left_low : (i : ℕ) → i < j → left i ≡ bits i
  left_low i h = rw (lt-ltb i j h)

  left_high : (i : ℕ) → j ≤ i → left i ≡ bits (suc i)
  left_high i h = rw (le-ltb i j h)

  round_low : (r e : ℕ) → e ≤ j → without j (round bits r e) ≡ round left r e
  unfolding round without
  round_low r zero h = refl
  round_low r (suc e) h =
      without_append j (round bits r e) (only_if (ltb r (bits e)) e)
      ∙ ap₂ ◌++◌
      (round_low r e (omega arith))
      (entry_low j e (ltb r (bits e)) (omega arith) ∙ ap (λ b. only_if (ltb r b) e) (sym (left_low e (omega arith))))

  round_here : (r d : ℕ) → j ≡ d → without j (round bits r (suc d)) ≡ round left r d
  unfolding round
  round_here r d e =
      rw (← e)
      (without_append j (round bits r j) (only_if (ltb r (bits j)) j)
      ∙ ap₂ ◌++◌ (round_low r j (omega arith)) (entry_here j (ltb r (bits j)))
      ∙ append-nil (round left r j))

  round_without : (r d : ℕ) → j ≤ d → without j (round bits r (suc d)) ≡ round left r d
  unfolding round
  round_without r zero h = round_here r 0 (omega arith)
  round_without r (suc d) h = go (ℕ_discrete j (suc d)) (round_without r d)
    where
      go : Dec (j ≡ suc d) → (j ≤ d → without j (round bits r (suc d)) ≡ round left r d) → without j (round bits r (suc (suc d))) ≡ round left r (suc d)
      go (yes e) ih = round_here r (suc d) e
      go (no n) ih =
          without_append j (round bits r (suc d)) (only_if (ltb r (bits (suc d))) (suc d))
          ∙ ap₂ ◌++◌
          (ih (omega arith))
          (entry_high j d (ltb r (bits (suc d))) (omega arith) ∙ ap (λ b. only_if (ltb r b) d) (sym (left_high d (omega arith))))

  pub rounds_without : (d n : ℕ) → j ≤ d → without j (rounds bits (suc d) n) ≡ rounds left d n
  unfolding rounds without
  rounds_without d zero h = refl
  rounds_without d (suc n) h =
      without_append j (rounds bits (suc d) n) (round bits n (suc d)) ∙ ap₂ ◌++◌ (rounds_without d n h) (round_without n d h)

-- ---- how often each axis is in what is left

entry_often : (j i x : ℕ) → occurrences i (kept j x) ≡ count (eqb x (axis_before j i))
unfolding occurrences
entry_often j i x = go (ℕ_discrete x j) (dec_lt x j) (dec_lt i j) (ℕ_discrete x (suc i))
  where
    go : Dec (x ≡ j) → Dec (x < j) → Dec (i < j) → Dec (x ≡ suc i) → occurrences i (kept j x) ≡ count (eqb x (axis_before j i))
    go (yes e) a (yes b) q = rw (eq-eqb x j e, lt-ltb i j b, ne_eqb x i (λ z. omega arith))
    go (yes e) a (no b) q = rw (eq-eqb x j e, le-ltb i j (omega arith), ne_eqb x (suc i) (λ z. omega arith))
    go (no e) (yes a) (yes b) q = rw (ne_eqb x j e, lt-ltb x j a, lt-ltb i j b) (omega arith)
    go (no e) (yes a) (no b) q =
        rw (ne_eqb x j e, lt-ltb x j a, le-ltb i j (omega arith), ne_eqb x i (λ z. omega arith), ne_eqb x (suc i) (λ z. omega arith))
    go (no e) (no a) (yes b) q =
        rw (ne_eqb x j e, le-ltb x j (omega arith), lt-ltb i j b, ne_eqb (x - 1) i (λ z. omega arith), ne_eqb x i (λ z. omega arith))
    go (no e) (no a) (no b) (yes q) =
        rw (ne_eqb x j e, le-ltb x j (omega arith), le-ltb i j (omega arith), eq-eqb (x - 1) i (omega arith), eq-eqb x (suc i) q)
    go (no e) (no a) (no b) (no q) =
        rw (ne_eqb x j e, le-ltb x j (omega arith), le-ltb i j (omega arith), ne_eqb (x - 1) i (λ z. q (omega arith)), ne_eqb x (suc i) q)

pub without_often : (j i : ℕ) (xs : List ℕ) → occurrences i (without j xs) ≡ occurrences (axis_before j i) xs
unfolding without occurrences
without_often j i [] = refl
without_often j i (x ∷ xs) = occurrences_append i (kept j x) (without j xs) ∙ ap₂ ◌+◌ (entry_often j i x) (without_often j i xs)

-- what is left and what is left out are the whole
pub without_length : (j : ℕ) (xs : List ℕ) → length (without j xs) + occurrences j xs ≡ length xs
unfolding without occurrences
without_length j [] = omega arith
without_length j (x ∷ xs) = go (ℕ_discrete x j) (without_length j xs)
  where
    go : Dec (x ≡ j) → length (without j xs) + occurrences j xs ≡ length xs
        → length (kept j x ++ without j xs) + (count (eqb x j) + occurrences j xs) ≡ suc (length xs)
    go (yes e) ih = rw (eq-eqb x j e) (omega arith)
    go (no n) ih = rw (ne_eqb x j n) (omega arith)

-- ---- places

-- the new place of place l
abbrev pub place_after : ℕ → List ℕ → ℕ → ℕ
place_after j xs l = l - occurrences j (take l xs)

module _ (j : ℕ) (xs : List ℕ) (l : ℕ) where
  front_length : l ≤ length xs → length (without j (take l xs)) ≡ place_after j xs l
  front_length h = omega (arith, without_length j (take l xs), length-take-le l xs h)

  in_two : without j xs ≡ without j (take l xs) ++ without j (drop l xs)
  in_two = ap (without j) (sym (take-append-drop l xs)) ∙ without_append j (take l xs) (drop l xs)

  pub place_within : l ≤ length xs → place_after j xs l ≤ length (without j xs)
  place_within h = omega (arith, front_length h, ap length in_two, length-append (without j (take l xs)) (without j (drop l xs)))

  pub without_take : l ≤ length xs → take (place_after j xs l) (without j xs) ≡ without j (take l xs)
  without_take h =
      ap (take (place_after j xs l)) in_two ∙ take_at (without j (take l xs)) (without j (drop l xs)) (place_after j xs l) (front_length h)

  pub without_at : l < length xs → (get_or xs l 0 ≡ j → ⊥) → get_or (without j xs) (place_after j xs l) 0 ≡ axis_after j (get_or xs l 0)
  unfolding without
  without_at h n =
      let x = get_or xs l 0 in
      let front = without j (take l xs) in
      let rest = without j (drop (suc l) xs) in
      ap (λ s. get_or s (place_after j xs l) 0)
      (ap (without j) (split_at xs l 0 h)
      ∙ without_append j (take l xs) (x ∷ drop (suc l) xs)
      ∙ ap (λ t. front ++ (cond t [] (axis_after j x ∷ []) ++ rest)) (ne_eqb x j n))
      ∙ get_or_at front (axis_after j x) rest 0 (place_after j xs l) (front_length (omega arith))
