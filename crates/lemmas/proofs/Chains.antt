-- What a chain of iterators answers, as this repository's words say it: a test of all numbers below n, or of all chunks of a list, by `every`.
use mathlib.Core.Path.{◌≡◌, refl, sym, ap, ap₂, subst, ◌∙◌}
use mathlib.Core.Bool.{Bool, true, false, ◌&&◌}
use mathlib.Core.List.{List, [], ◌∷◌, ◌++◌}
use Prim.Native.Nat.{ℕ, zero, suc, ◌+◌, ◌*◌, ◌/◌, ◌<◌}
use native.Mathlib.Nat.{zero-add, mul-zero, add-div_right, div-eq_of_lt}
use native.Mathlib.Numerals.{add-one}
use native.Mathlib.Omega.{arith}
use lib.ListN.{length, get_or, take, drop, length-append}
use Rattle.std.specs.Bool.{MatchBool}
use Rattle.std.specs.List.{AllWithin, HoldsAt, range_with_len}
use Rattle.std.specs.declared.slice.ChunksExact.{ChunksExact}
use Rattle.std.specs.Slice.Iter.{chunks_exact_rest, chunks_exact_size, chunks_exact_steps}
use Rattle.std.proofs.lemmas.Iterator.{YieldsList}
use Rattle.std.proofs.lemmas.Iterator.Splits.{YieldsList-from_shown_while}
use Rattle.std.proofs.lemmas.List.{drop-drop, take_at, drop_at}
use Rattle.std.proofs.lemmas.List.FromFn.{length-range_with_len, get_or-range_with_len}
use Rattle.lemmas.specs.Sums.{every}
use Rattle.lemmas.proofs.Sums.{below, top, all_every, one_not_every}

pub every_cong : (n : ℕ) (p q : ℕ → Bool) → ((i : ℕ) → i < n → p i ≡ q i) → every n p ≡ every n q
unfolding every
every_cong zero p q h = refl
every_cong (suc n) p q h = ap₂ ◌&&◌ (every_cong n p q (below h)) (top h)

pub every_told : (p : ℕ → Bool) (n : ℕ) (answer : Bool)
    → MatchBool answer
    (AllWithin (λ x. p x ≡ true) (range_with_len 0 n) 0 (length (range_with_len 0 n)))
    ((k : ℕ) × (k < length (range_with_len 0 n)) × HoldsAt (λ x. p x ≡ false) (range_with_len 0 n) k)
    → answer ≡ every n p
every_told p n true h =
    sym (all_every n p (λ i l. ap p (sym (get_or-range_with_len 0 n i 0 l ∙ zero-add i)) ∙ h i 0 (omega arith) (omega (arith, length-range_with_len 0 n))))
every_told p n false h =
    let inside : h.0 < n = omega (arith, h.1, length-range_with_len 0 n) in
    sym (one_not_every n p h.0 inside (ap p (sym (get_or-range_with_len 0 n h.0 0 inside ∙ zero-add h.0)) ∙ h.2 0))

-- the chunks of so many elements each, the first n of them; and the k-th
abbrev pub chunk : {A : Type 0} → ℕ → List A → ℕ → List A
chunk width xs k = take width (drop (width * k) xs)

unfoldable pub cut : {A : Type 0} → ℕ → ℕ → List A → List (List A)
cut width zero xs = []
cut width (suc n) xs = take width xs ∷ cut width n (drop width xs)

module _ {A : Type 0} (width : ℕ) where
  pub length-cut : (n : ℕ) (xs : List A) → length (cut width n xs) ≡ n
  unfolding cut
  length-cut zero xs = refl
  length-cut (suc n) xs = ap suc (length-cut n (drop width xs))

  pub cut_at : (n : ℕ) (xs : List A) (k : ℕ) (d : List A) → k < n → get_or (cut width n xs) k d ≡ chunk width xs k
  unfolding cut
  cut_at zero xs k d h = absurd (omega arith)
  cut_at (suc n) xs zero d h = rw mul-zero
  cut_at (suc n) xs (suc k) d h =
      cut_at n (drop width xs) k d (omega arith)
      ∙ ap (take width) (drop-drop (width * k) width xs ∙ ap (λ m. drop m xs) (let e : width + width * k ≡ width * suc k = omega arith in e))

  -- `chunks_exact` gives them
  abbrev left : ChunksExact A → List (List A)
  left s = cut width (length (chunks_exact_rest s) / width) (chunks_exact_rest s)

  one_cut : (r c t : List A) → 0 < width → r ≡ c ++ t → length c ≡ width → cut width (length r / width) r ≡ c ∷ cut width (length t / width) t
  unfolding cut
  one_cut r c t some e f =
      let long : length r ≡ length t + width = omega (arith, ap length e, length-append c t, f) in
      rw (long, add-div_right (length t) some, add-one, e, take_at c t width f, drop_at c t width f)

  pub YieldsList-from_chunks_exact : {s : ChunksExact A} (xs : List A) (n : ℕ) → chunks_exact_rest s ≡ xs → chunks_exact_size s ≡ width → 0 < width
      → length xs / width ≡ n → YieldsList chunks_exact_steps (λ c. c.now) s (cut width n xs)
  YieldsList-from_chunks_exact {s} xs n e f some count =
      subst (YieldsList chunks_exact_steps (λ c. c.now) s) (ap (λ l. cut width (length l / width) l) e ∙ ap (λ m. cut width m xs) count)
      (YieldsList-from_shown_while chunks_exact_steps (λ c. c.now) left (λ t. chunks_exact_size t ≡ width)
      (λ t u k p. length-cut (length (chunks_exact_rest t) / width) (chunks_exact_rest t) ∙ div-eq_of_lt (omega (arith, p.1.0, k)))
      (λ t x u k p. (p.0 ∙ k, one_cut (chunks_exact_rest t) x.now (chunks_exact_rest u) some p.1.0 (p.1.1 ∙ k)))
      s
      f)

  -- a test of each chunk
  pub every_chunk_told : (p : List A → Bool) (n : ℕ) (xs : List A) (answer : Bool)
      → MatchBool answer
      (AllWithin (λ c. p c ≡ true) (cut width n xs) 0 (length (cut width n xs)))
      ((k : ℕ) × (k < length (cut width n xs)) × HoldsAt (λ c. p c ≡ false) (cut width n xs) k)
      → answer ≡ every n (λ k. p (chunk width xs k))
  every_chunk_told p n xs true h =
      sym (all_every n _ (λ i l. ap p (sym (cut_at n xs i [] l)) ∙ h i [] (omega arith) (omega (arith, length-cut n xs))))
  every_chunk_told p n xs false h =
      let inside : h.0 < n = omega (arith, h.1, length-cut n xs) in
      sym (one_not_every n _ h.0 inside (ap p (sym (cut_at n xs h.0 [] inside)) ∙ h.2 []))
