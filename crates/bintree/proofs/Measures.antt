-- What measuring a merged tree tells, and the numbers that it carries. The symbols of two merged parts say what they merge to (Lays), and whether the run of
-- either colour goes on (`run_onward`); the largest count so far grows with those of a halved shape in the order of its symbols (`halved_held`).
use mathlib.Core.Logic.{◌⊎◌}
use mathlib.Core.Path.{◌≡◌, refl, sym, ap, ◌∙◌}
use mathlib.Core.Bool.{Bool, true, false, cond}
use mathlib.Core.List.{List, [], ◌∷◌, ◌++◌}
use Prim.Native.Nat.{ℕ, ◌+◌, ◌-◌, ◌*◌, ◌^◌, ◌≤◌, ◌<◌, max}
use native.Mathlib.Omega.{arith}
use lib.Dec.{eqb}
use lib.ListN.{length, get_or}
use Rattle.universe.specs.Universe.{most_levels}
use Rattle.std.specs.Prelude.{Some, None}
use Rattle.bintree.specs.declared.Colour.{Colour}
use Rattle.bintree.specs.declared.Colour.TheVariants.{White, Black}
use Rattle.bintree.specs.declared.measure.Measured.{Measured}
use Rattle.bintree.specs.Shape.{Shape, leaf, halved, open_symbol, symbol_of, size}
use Rattle.bintree.specs.Reading.{Reading, none, read, read_at}
use Rattle.bintree.specs.Merging.{merged, is_pair, onward, held_in, held_after, largest, most_held}
use Rattle.bintree.specs.Walks.{leaf_symbol, is_alike, run_on, measure_answer}
use Rattle.bintree.proofs.Reading.{either_colour, leaf_at, other_at, end_at, deep_at, low_missing, high_missing, both_read, stands, inside}
use Rattle.bintree.proofs.Merging.{merged_size}
use Rattle.bintree.proofs.Lays.{merged_same, merged_apart}

run_on_le : (colour low run : ℕ) → run_on colour low run ≤ run + 2
unfolding run_on
run_on_le colour low run = go (eqb low colour)
  where
    go : (t : Bool) → cond t (run + 2) 0 ≤ run + 2
    go true = omega arith
    go false = omega arith

-- ---- the numbers that are carried, and the largest count of a halved shape

symbol_leaf : (c : Colour) (m : Shape) → eqb (leaf_symbol m) (symbol_of c) ≡ is_pair (leaf c) m
unfolding leaf_symbol is_pair
symbol_leaf Black (leaf Black) = refl
symbol_leaf White (leaf White) = refl
symbol_leaf Black (leaf White) = refl
symbol_leaf White (leaf Black) = refl
symbol_leaf Black (halved a b) = refl
symbol_leaf White (halved a b) = refl

run_onward : (c : Colour) (a : Shape) (run : ℕ) → run_on (symbol_of c) (leaf_symbol (merged a)) run ≡ onward c run a
unfolding run_on onward
run_onward c a run = ap (λ t. cond t (run + 2) 0) (symbol_leaf c (merged a))

max_assoc : (x y z : ℕ) → max x (max y z) ≡ max (max x y) z
max_assoc x y z = omega arith

pub largest_append : (l m : List ℕ) → largest (l ++ m) ≡ max (largest l) (largest m)
unfolding largest
largest_append [] m = omega arith
largest_append (x ∷ l) m = ap (max x) (largest_append l m) ∙ max_assoc x (largest l) (largest m)

-- the largest so far after `(`, in the low part, after that, in the high part
in_turn : (m o x y z : ℕ) → max (max (max (max m o) x) y) z ≡ max m (max o (max x (max y z)))
in_turn m o x y z = sym (max_assoc (max (max m o) x) y z) ∙ sym (max_assoc (max m o) x (max y z)) ∙ sym (max_assoc m o (max x (max y z)))

halved_held :
    (b w b' w' m o u n v : ℕ) (low high : Shape) → b' ≡ onward Black b low → w' ≡ onward White w low → o ≡ max m (max (b + 1) (w + 1)) →
    u ≡ max o (largest (held_in (b + 1) (w + 1) low)) → n ≡ max u (max b' w') → v ≡ max n (largest (held_in b' w' high)) →
    v ≡ max m (largest (held_in b w (halved low high)))
unfolding held_in largest
halved_held b w b' w' m o u n v low high e f g h i j =
    let x = largest (held_in (b + 1) (w + 1) low) in
    let y = largest (held_in b' w' high) in
    let d = largest_append (held_in (b + 1) (w + 1) low) (max b' w' ∷ held_in b' w' high) in
    let k : v ≡ max (max (max (max m (max (b + 1) (w + 1))) x) (max b' w')) y = j ∙ rw (i, h, g) in
    rw (← e, ← f) (k ∙ in_turn m (max (b + 1) (w + 1)) x (max b' w') y ∙ ap (λ z. max m (max (max (b + 1) (w + 1)) z)) (sym d))

-- the last symbol of an expression holds nothing back
pub held_all : (s : Shape) → max 0 (largest (held_in 0 0 s)) ≡ most_held s
unfolding most_held held_after largest
held_all s = go (largest (held_in 0 0 s)) (largest_append (held_in 0 0 s) (0 ∷ []))
  where
    go : (m : ℕ) → largest (held_in 0 0 s ++ (0 ∷ [])) ≡ max m 0 → max 0 m ≡ largest (held_in 0 0 s ++ (0 ∷ []))
    go m e = omega arith

-- ---- answers and what is read

none_measured : (p b w m : ℕ) {x : Reading} → x ≡ none → None ≡ measure_answer p b w m x
unfolding measure_answer
none_measured p b w m e = rw e

leaf_measured :
    (p b w m : ℕ) (c : Colour) {x : Reading} → x ≡ read (leaf c) →
    Some (record { end = p + 1; symbol = symbol_of c; length = 1; held = m }) ≡ measure_answer p b w m x
unfolding measure_answer size leaf_symbol merged held_in largest
leaf_measured p b w m c e =
    let d : m ≡ max m 0 = omega arith in
    rw e (ap (λ h. Some (record { end = p + 1; symbol = symbol_of c; length = 1; held = h })) d)

pub broken_none : (p b w m : ℕ) (x : Reading) → None ≡ measure_answer p b w m x → x ≡ none
unfolding measure_answer
broken_none p b w m none e = refl
broken_none p b w m (read a) e = let z : ◌≡◌ {A = ℕ} 0 1 = cc in absurd (omega arith)

pub record Measuring (p b w m : ℕ) (t : Measured) (x : Reading) : Type 0 where
  pub shape : Shape
  pub is : x ≡ read shape
  pub after : t.end ≡ p + size shape
  pub symbol : t.symbol ≡ leaf_symbol (merged shape)
  pub long : t.length ≡ size (merged shape)
  pub held : t.held ≡ max m (largest (held_in b w shape))

pub measuring : (p b w m : ℕ) (t : Measured) (x : Reading) → Some t ≡ measure_answer p b w m x → Measuring p b w m t x
unfolding measure_answer
measuring p b w m t none e = let z : ◌≡◌ {A = ℕ} 0 1 = cc in absurd (omega arith)
measuring p b w m t (read a) e =
    let f : t ≡ record {
      end = p + size a;
      symbol = leaf_symbol (merged a);
      length = size (merged a);
      held = max m (largest (held_in b w a));
    } = cc in
    record {
      shape = a;
      is = refl;
      after = ap (λ (z : Measured). z.end) f;
      symbol = ap (λ (z : Measured). z.symbol) f;
      long = ap (λ (z : Measured). z.length) f;
      held = ap (λ (z : Measured). z.held) f;
    }

-- an answer for a halved shape, from its fields
halved_measured :
    (p b w m q i n h : ℕ) (a : Shape) {x : Reading} → x ≡ read a → q ≡ p + size a → i ≡ leaf_symbol (merged a) → n ≡ size (merged a) →
    h ≡ max m (largest (held_in b w a)) → Some (record { end = q; symbol = i; length = n; held = h }) ≡ measure_answer p b w m x
unfolding measure_answer
halved_measured p b w m q i n h a e f g j k = rw (e, f, g, j, k)

-- ---- the laws of `measure`

module _ (s : List ℕ) (n p b w m : ℕ) where
  pub measure_end : length s ≤ p → None ≡ measure_answer p b w m (read_at s n p)
  measure_end h = none_measured p b w m (end_at s n p h)

  pub measure_deep : get_or s p 0 ≡ open_symbol → n ≡ 0 → None ≡ measure_answer p b w m (read_at s n p)
  measure_deep e h = none_measured p b w m (ap (λ l. read_at s l p) h ∙ deep_at s p e)

  pub measure_other :
      (get_or s p 0 ≡ open_symbol → ⊥) → (get_or s p 0 ≡ symbol_of Black → ⊥) → (get_or s p 0 ≡ symbol_of White → ⊥) → None ≡ measure_answer p b w m (read_at s n p)
  measure_other h k l = none_measured p b w m (other_at s n p h k l)

  pub measure_leaf :
      (x : ℕ) → get_or s p 0 ≡ x → (x ≡ symbol_of Black) ⊎ (x ≡ symbol_of White) →
      Some (record { end = p + 1; symbol = x; length = 1; held = m }) ≡ measure_answer p b w m (read_at s n p)
  measure_leaf x e h = let c = either_colour h in rw c.1 (leaf_measured p b w m c.0 (leaf_at s n p c.0 (e ∙ c.1)))

  module _ (e : get_or s p 0 ≡ open_symbol) (z : n ≡ 0 → ⊥) (o : ℕ) where
    pub measure_low : None ≡ measure_answer (p + 1) (b + 1) (w + 1) o (read_at s (n - 1) (p + 1)) → None ≡ measure_answer p b w m (read_at s n p)
    measure_low f = none_measured p b w m (low_missing s n p e z (broken_none (p + 1) (b + 1) (w + 1) o (read_at s (n - 1) (p + 1)) f))

    module _
        (low : Measured) (f : Some low ≡ measure_answer (p + 1) (b + 1) (w + 1) o (read_at s (n - 1) (p + 1))) (b' w' : ℕ)
        (i : b' ≡ run_on (symbol_of Black) low.symbol b) (j : w' ≡ run_on (symbol_of White) low.symbol w) (o' : ℕ) where
      low_measured : Measuring (p + 1) (b + 1) (w + 1) o low (read_at s (n - 1) (p + 1))
      low_measured = measuring (p + 1) (b + 1) (w + 1) o low (read_at s (n - 1) (p + 1)) f

      at_high : read_at s (n - 1) (p + 1 + size low_measured.shape) ≡ read_at s (n - 1) low.end
      at_high = ap (read_at s (n - 1)) (sym low_measured.after)

      pub measure_high : None ≡ measure_answer low.end b' w' o' (read_at s (n - 1) low.end) → None ≡ measure_answer p b w m (read_at s n p)
      measure_high k =
          none_measured p b w m
          (high_missing s n p e z low_measured.shape low_measured.is (at_high ∙ broken_none low.end b' w' o' (read_at s (n - 1) low.end) k))

      module _ (high : Measured) (k : Some high ≡ measure_answer low.end b' w' o' (read_at s (n - 1) low.end)) where
        high_measured : Measuring low.end b' w' o' high (read_at s (n - 1) low.end)
        high_measured = measuring low.end b' w' o' high (read_at s (n - 1) low.end) k

        pub measure_fits : length s < 2 ^ 64 → low.length + high.length + 1 < 2 ^ 64
        measure_fits t =
            omega (
              arith,
              low_measured.after,
              high_measured.after,
              low_measured.long,
              high_measured.long,
              merged_size low_measured.shape,
              merged_size high_measured.shape,
              inside (stands s (n - 1) low.end high_measured.shape high_measured.is),
            )

        module _ (a : o ≡ max m (max (b + 1) (w + 1))) (a' : o' ≡ max low.held (max b' w')) where
          abbrev low_part : Shape
          low_part = low_measured.shape

          abbrev high_part : Shape
          high_part = high_measured.shape

          black_on : b' ≡ onward Black b low_part
          black_on = i ∙ ap (λ t. run_on (symbol_of Black) t b) low_measured.symbol ∙ run_onward Black low_part b

          white_on : w' ≡ onward White w low_part
          white_on = j ∙ ap (λ t. run_on (symbol_of White) t w) low_measured.symbol ∙ run_onward White low_part w

          both : (i n' : ℕ) → i ≡ leaf_symbol (merged (halved low_part high_part)) → n' ≡ size (merged (halved low_part high_part)) →
              Some (record { end = high.end; symbol = i; length = n'; held = high.held }) ≡ measure_answer p b w m (read_at s n p)
          unfolding size
          both i n' e₁ e₂ =
              halved_measured p b w m high.end i n' high.held (halved low_part high_part)
              (both_read s n p e z low_part high_part low_measured.is (at_high ∙ high_measured.is))
              (omega (arith, low_measured.after, high_measured.after)) e₁ e₂
              (halved_held b w b' w' m o low.held o' high.held low_part high_part black_on white_on a low_measured.held a' high_measured.held)

          test : (t : Bool) → is_alike low.symbol high.symbol ≡ t → is_alike (leaf_symbol (merged low_part)) (leaf_symbol (merged high_part)) ≡ t
          test t e₁ = rw (← low_measured.symbol, ← high_measured.symbol) e₁

          pub measure_alike :
              is_alike low.symbol high.symbol ≡ true →
              Some (record { end = high.end; symbol = low.symbol; length = 1; held = high.held }) ≡ measure_answer p b w m (read_at s n p)
          unfolding size
          measure_alike e₁ =
              let l = merged_same low_part high_part (test true e₁) in
              both low.symbol 1 (low_measured.symbol ∙ ap leaf_symbol (l.1 ∙ sym l.3)) (sym (ap size l.3))

          pub measure_apart :
              (long : ℕ) → is_alike low.symbol high.symbol ≡ false → long ≡ low.length + high.length + 1 →
              Some (record { end = high.end; symbol = 0; length = long; held = high.held }) ≡ measure_answer p b w m (read_at s n p)
          unfolding size leaf_symbol
          measure_apart long e₁ e₂ =
              let l = merged_apart low_part high_part (test false e₁) in
              both 0 long (sym (ap leaf_symbol l)) (omega (arith, e₂, low_measured.long, high_measured.long, ap size l))

-- the numbers that are carried stay small
pub run_fits : (b b' colour x n : ℕ) → b' ≡ run_on colour x b → b + 2 * n ≤ 2 * most_levels → (n ≡ 0 → ⊥) → b' + 2 * (n - 1) ≤ 2 * most_levels
run_fits b b' colour x n e h z = omega (arith, run_on_le colour x b)
