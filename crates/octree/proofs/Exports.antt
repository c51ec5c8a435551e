-- The sons that a part of an expression stands for (src/sons.rt): a cube is the run of its eight sons behind a `P`, and a run is that of the low part and then
-- that of the high one. Sons that are all solids of one colour are held back until it is known that they do not join with their brothers, so that nothing is
-- written in vain. Each law takes its premises in the form that code leaves them.
use mathlib.Core.Path.{◌≡◌, refl, sym, ap, ap₂, ◌∙◌}
use mathlib.Core.Bool.{Bool, true, false}
use mathlib.Core.List.{List, [], ◌∷◌, ◌++◌}
use Prim.Native.Nat.{ℕ, zero, suc, ◌+◌, ◌-◌, ◌*◌, ◌^◌, ◌≤◌, ◌<◌}
use native.Mathlib.Nat.{two-pow-succ, le_refl}
use native.Mathlib.Omega.{arith}
use borrow.Author.Rules.{rules}
use borrow.Author.Tests.{eq-eqb, ne_eqb}
use lib.ListN.{length, get_or, set, take, replicate, length-replicate, length-append}
use lib.Pow.{pow_mono}
use Rattle.std.specs.Prelude.{Option, Some, None, is_some}
use Rattle.std.proofs.lemmas.List.{take-replicate}
use lib.Seq.{sets}
use Rattle.lemmas.proofs.Stores.{set_sets, sets_append}
use Rattle.bintree.specs.declared.Colour.{Colour}
use Rattle.bintree.specs.declared.Colour.TheVariants.{White, Black}
use Rattle.bintree.specs.Shape.{Shape, leaf, halved, open_symbol, symbol_of, size}
use Rattle.bintree.specs.Reading.{Reading, read, read_at}
use Rattle.bintree.specs.Merging.{merged}
use Rattle.bintree.specs.Walks.{leaf_symbol, is_alike, noted}
use Rattle.bintree.proofs.Shape.{size_positive, symbol_not_open}
use Rattle.bintree.proofs.Reading.{Stands, leaf_stands, open_stands, stands, stood, inside}
use Rattle.bintree.proofs.Merging.{Joined, one, two, joined}
use Rattle.bintree.proofs.Lays.{merged_same, merged_apart, noted_some}
use Rattle.octree.specs.declared.Piece.{Piece}
use Rattle.octree.specs.Octree.{part_symbol, solid_symbol}
use Rattle.octree.specs.Runs.{solid_of, is_same, son_symbols, held_symbol, most_held, filled, laid_sons, levels_in, Exporting, export_piece, export_room}
use Rattle.octree.proofs.Imports.{piece_eq}

-- ---- `solid_of` and `sons_in`

pub solid_black : (x : ℕ) → x ≡ 66 → 70 ≡ solid_of x
solid_black x e = rw (eq-eqb x 66 e)

pub solid_white : (x : ℕ) → (x ≡ 66 → ⊥) → 69 ≡ solid_of x
solid_white x n = rw (ne_eqb x 66 n)

solid_is : (c : Colour) (x : ℕ) → x ≡ symbol_of c → solid_of x ≡ solid_symbol c
solid_is Black x e = sym (solid_black x e)
solid_is White x e = sym (solid_white x (λ z. omega arith))

-- ---- `write_held`

pub filled_some : (o : List ℕ) (at count x : ℕ) → count ≤ most_held → sets o at (take count (replicate most_held x)) ≡ filled o at count (Some x)
unfolding filled
filled_some o at count x h = ap (sets o at) (take-replicate count most_held x h)

pub filled_none : (o : List ℕ) (at count : ℕ) → o ≡ filled o at count None
unfolding filled
filled_none o at count = refl

pub ruleset held_laws = (rules, filled_some, filled_none)

-- ---- the symbols of sons

sons_leaf : (m n : ℕ) (c : Colour) → son_symbols m n (leaf c) ≡ replicate (2 ^ m) (solid_symbol c)
unfolding son_symbols
sons_leaf m n c = refl

pub sons_halved : (m n : ℕ) (a b : Shape) → son_symbols (suc m) n (halved a b) ≡ son_symbols m n a ++ son_symbols m n b
unfolding son_symbols
sons_halved m n a b = refl

-- a cube is the run of its sons behind a `P`
pub sons_cube : (n : ℕ) (a b : Shape) → son_symbols 0 (suc n) (halved a b) ≡ part_symbol ∷ son_symbols 3 n (halved a b)
unfolding son_symbols
sons_cube n a b = refl

pub twice : (m : ℕ) → 2 ^ suc m ≡ 2 ^ m + 2 ^ m
twice m = omega (arith, two-pow-succ m)

pub leaf_length : (m n : ℕ) (c : Colour) → length (son_symbols m n (leaf c)) ≡ 2 ^ m
leaf_length m n c = ap length (sons_leaf m n c) ∙ length-replicate (2 ^ m) (solid_symbol c)

pub halved_length : (m n : ℕ) (a b : Shape) → length (son_symbols (suc m) n (halved a b)) ≡ length (son_symbols m n a) + length (son_symbols m n b)
halved_length m n a b = ap length (sons_halved m n a b) ∙ length-append (son_symbols m n a) (son_symbols m n b)

pub cube_length : (n : ℕ) (a b : Shape) → length (son_symbols 0 (suc n) (halved a b)) ≡ suc (length (son_symbols 3 n (halved a b)))
cube_length n a b = ap length (sons_cube n a b)

pub flat_length : (a b : Shape) → length (son_symbols 0 0 (halved a b)) ≡ 1
unfolding son_symbols
flat_length a b = refl

-- at least one for each son
pub sons_least : (t : Shape) (m n : ℕ) → 2 ^ m ≤ length (son_symbols m n t)
sons_least (leaf c) m n = omega (arith, leaf_length m n c)
sons_least (halved a b) m n = step m n (λ i. sons_least a i n) (λ i. sons_least b i n)
  where
    step : (m n : ℕ) → ((i : ℕ) → 2 ^ i ≤ length (son_symbols i n a)) → ((i : ℕ) → 2 ^ i ≤ length (son_symbols i n b)) →
        2 ^ m ≤ length (son_symbols m n (halved a b))
    step zero zero f g = omega (arith, flat_length a b)
    step zero (suc n) f g = omega (arith, cube_length n a b)
    step (suc m) n f g = omega (arith, halved_length m n a b, twice m, f m, g m)

-- merged, a part stands for no more symbols
joined_length : {a b j : Shape} (m n : ℕ) → Joined a b j → length (son_symbols m n j) ≤ length (son_symbols m n (halved a b))
joined_length {a} {b} m n (two f) = le_refl (length (son_symbols m n (halved a b)))
joined_length m n (one c) = omega (arith, leaf_length m n c, sons_least (halved (leaf c) (leaf c)) m n)

pub merged_length : (s : Shape) (m n : ℕ) → length (son_symbols m n (merged s)) ≤ length (son_symbols m n s)
unfolding merged
merged_length (leaf c) m n = le_refl (length (son_symbols m n (leaf c)))
merged_length (halved a b) m n =
    omega (arith, joined_length m n (joined (merged a) (merged b)), step m n (λ i j. merged_length a i j) (λ i j. merged_length b i j))
  where
    step : (m n : ℕ) → ((i j : ℕ) → length (son_symbols i j (merged a)) ≤ length (son_symbols i j a)) →
        ((i j : ℕ) → length (son_symbols i j (merged b)) ≤ length (son_symbols i j b)) →
        length (son_symbols m n (halved (merged a) (merged b))) ≤ length (son_symbols m n (halved a b))
    step zero zero f g = omega (arith, flat_length a b, flat_length (merged a) (merged b))
    step zero (suc n) f g =
        omega (arith, cube_length n a b, cube_length n (merged a) (merged b), halved_length 2 n a b, halved_length 2 n (merged a) (merged b), f 2 n, g 2 n)
    step (suc m) n f g = omega (arith, halved_length m n a b, halved_length m n (merged a) (merged b), f m n, g m n)

-- ---- what is held back

held_alike : (a b : Shape) → is_same (held_symbol a) (held_symbol b) ≡ is_alike (leaf_symbol a) (leaf_symbol b)
unfolding held_symbol leaf_symbol is_same is_alike
held_alike (leaf Black) (leaf Black) = refl
held_alike (leaf Black) (leaf White) = refl
held_alike (leaf White) (leaf Black) = refl
held_alike (leaf White) (leaf White) = refl
held_alike (leaf Black) (halved x y) = refl
held_alike (leaf White) (halved x y) = refl
held_alike (halved x y) b = refl

held_some : (a : Shape) → is_some (held_symbol a) ≡ true → (c : Colour) × (a ≡ leaf c)
unfolding held_symbol
held_some (leaf c) n = (c, refl)
held_some (halved a b) n = cc

held_none : (a : Shape) → is_some (held_symbol a) ≡ false → (x : Shape) × (y : Shape) × (a ≡ halved x y)
unfolding held_symbol
held_none (leaf c) e = cc
held_none (halved x y) e = (x, y, refl)

-- ---- runs of stores

sets_sets : (us vs o : List ℕ) (t d : ℕ) → t + length us ≤ d → sets (sets o d vs) t us ≡ sets (sets o t us) d vs
sets_sets [] vs o t d h = refl
sets_sets (u ∷ us) vs o t d h =
    ap (λ l. sets l (suc t) us) (set_sets vs o t d u (omega arith)) ∙ sets_sets us vs (set o t u) (suc t) d (omega arith)

pub laid_filled : (o : List ℕ) (t m n : ℕ) (a : Shape) → filled (laid_sons o t m n a) t (2 ^ m) (held_symbol a) ≡ sets o t (son_symbols m n a)
unfolding filled laid_sons held_symbol
laid_filled o t m n (leaf c) = ap (sets o t) (sym (sons_leaf m n c))
laid_filled o t m n (halved a b) = refl

filled_laid : (o : List ℕ) (t d count : ℕ) (h : Option ℕ) (m n : ℕ) (a : Shape) → t + count ≤ d →
    filled (laid_sons o d m n a) t count h ≡ laid_sons (filled o t count h) d m n a
unfolding filled laid_sons
filled_laid o t d count None m n a f = refl
filled_laid o t d count (Some x) m n (leaf c) f = refl
filled_laid o t d count (Some x) m n (halved a b) f =
    sets_sets (replicate count x) (son_symbols m n (halved a b)) o t d (omega (arith, length-replicate count x))

-- the runs of two parts make that of the whole
parts_laid : (o : List ℕ) (t d m n : ℕ) (a b : Shape) → d ≡ t + length (son_symbols m n a) →
    filled (filled (laid_sons (laid_sons o t m n a) d m n b) t (2 ^ m) (held_symbol a)) d (2 ^ m) (held_symbol b)
    ≡ sets o t (son_symbols (suc m) n (halved a b))
parts_laid o t d m n a b e =
    let h : t + 2 ^ m ≤ d = omega (arith, e, sons_least a m n) in
    ap (λ l. filled l d (2 ^ m) (held_symbol b)) (filled_laid (laid_sons o t m n a) t d (2 ^ m) (held_symbol a) m n b h)
    ∙ ap (λ l. filled (laid_sons l d m n b) d (2 ^ m) (held_symbol b)) (laid_filled o t m n a)
    ∙ laid_filled (sets o t (son_symbols m n a)) d m n b
    ∙ ap (λ k. sets (sets o t (son_symbols m n a)) k (son_symbols m n b)) e
    ∙ sets_append (son_symbols m n a) (son_symbols m n b) o t
    ∙ ap (sets o t) (sym (sons_halved m n a b))

-- ---- `lay_sons`

-- what is told of a part that is read
pub told : (n m p to : ℕ) {r : Piece} {y : Reading} (t : Shape) → y ≡ read t → r ≡ export_piece n m p to y →
    (r.held ≡ held_symbol (merged t)) × (r.next ≡ p + size t) × (r.end ≡ to + length (son_symbols m n (merged t)))
unfolding export_piece
told n m p to {r} {y} t e f =
    let g : r ≡ export_piece n m p to (read t) = f ∙ ap (export_piece n m p to) e in
    (ap (λ (x : Piece). x.held) g, ap (λ (x : Piece). x.next) g, ap (λ (x : Piece). x.end) g)

tells : (n m p to : ℕ) {h : Option ℕ} {q e : ℕ} {y : Reading} (t : Shape) → y ≡ read t → h ≡ held_symbol (merged t) → q ≡ p + size t →
    e ≡ to + length (son_symbols m n (merged t)) → ◌≡◌ {A = Piece} (record { held = h; next = q; end = e }) (export_piece n m p to y)
unfolding export_piece
tells n m p to t e f g h = piece_eq f g h ∙ ap (export_piece n m p to) (sym e)

pub leaves : (out : List ℕ) (n m to : ℕ) {y : Reading} (t : Shape) → y ≡ read t → laid_sons out to m n (merged t) ≡ export_room out n m to y
unfolding export_room
leaves out n m to t e = ap (export_room out n m to) (sym e)

laid_leaf : (o : List ℕ) (t m n : ℕ) (c : Colour) {a : Shape} → a ≡ leaf c → laid_sons o t m n a ≡ o
unfolding laid_sons
laid_leaf o t m n c e = rw e

laid_halved : (o : List ℕ) (t m n : ℕ) (x y : Shape) {a : Shape} → a ≡ halved x y → laid_sons o t m n a ≡ sets o t (son_symbols m n (halved x y))
unfolding laid_sons
laid_halved o t m n x y e = rw e

-- a part that is no `(` is a leaf, and one that is has two parts
leaf_part : {s : List ℕ} {k p : ℕ} {t : Shape} → Stands s k p t → (get_or s p 0 ≡ open_symbol → ⊥) → (c : Colour) × (get_or s p 0 ≡ symbol_of c) × (t ≡ leaf c)
leaf_part (leaf_stands {c = c} e) n = (c, e, refl)
leaf_part (open_stands e l r) n = absurd (n e)

pub record Parts (s : List ℕ) (k p : ℕ) (t : Shape) : Type 0 where
  pub level : ℕ
  pub is : k ≡ suc level
  pub low : Shape
  pub high : Shape
  pub both : t ≡ halved low high
  pub low_there : read_at s level (suc p) ≡ read low
  pub high_there : read_at s level (suc p + size low) ≡ read high

two_parts : {s : List ℕ} {k p : ℕ} {t : Shape} → Stands s k p t → get_or s p 0 ≡ open_symbol → Parts s k p t
two_parts (leaf_stands {c = c} e) o = absurd (symbol_not_open c (sym e ∙ o))
two_parts (open_stands {n = n} {a = a} {b = b} e l r) o =
    record { level = n; is = refl; low = a; high = b; both = refl; low_there = stood l; high_there = stood r }

merged_leaf : (c : Colour) → merged (leaf c) ≡ leaf c
unfolding merged
merged_leaf c = refl

leaf_size : (c : Colour) → size (leaf c) ≡ 1
unfolding size
leaf_size c = refl

halved_size : (a b : Shape) → size (halved a b) ≡ suc (size a + size b)
unfolding size
halved_size a b = refl

held_of : (c : Colour) → held_symbol (leaf c) ≡ Some (solid_symbol c)
unfolding held_symbol
held_of c = refl

module _ {s : List ℕ} {n m p to : ℕ} (g : Exporting s n m p to) where
  there : Stands s (levels_in n m) p g.shape
  there = stands s (levels_in n m) p g.shape g.there

  pub export_inside : p < length s
  export_inside = omega (arith, inside there, size_positive g.shape)

  pub export_next : length s < 2 ^ 64 → p + 1 < 2 ^ 64
  export_next h = omega (arith, export_inside)

  pub export_fits : to + 1 < 2 ^ 64
  export_fits = omega (arith, g.short)

  -- a leaf stands for solids of its colour
  module _ (k : get_or s p 0 ≡ open_symbol → ⊥) where
    one_leaf : (c : Colour) × (get_or s p 0 ≡ symbol_of c) × (g.shape ≡ leaf c)
    one_leaf = leaf_part there k

    read_leaf_lem : read_at s (levels_in n m) p ≡ read (leaf one_leaf.0)
    read_leaf_lem = g.there ∙ ap read one_leaf.2

    module _ {count : ℕ} (e : count ≡ 2 ^ m) where
      pub leaf_fits : to + count < 2 ^ 64
      leaf_fits = omega (arith, g.short, sons_least g.shape m n)

      pub leaf_tells : {h : ℕ} → h ≡ solid_of (get_or s p 0) →
          ◌≡◌ {A = Piece} (record { held = Some h; next = p + 1; end = to + count }) (export_piece n m p to (read_at s (levels_in n m) p))
      leaf_tells f =
          let c = one_leaf.0 in
          tells n m p to (leaf c) read_leaf_lem (ap Some (f ∙ solid_is c (get_or s p 0) one_leaf.1) ∙ sym (held_of c) ∙ ap held_symbol (sym (merged_leaf c)))
          (omega (arith, leaf_size c))
          (omega (arith, e, ap (λ t. length (son_symbols m n t)) (merged_leaf c), leaf_length m n c))

    pub leaf_leaves : (o : List ℕ) → o ≡ export_room o n m to (read_at s (levels_in n m) p)
    leaf_leaves o =
        let c = one_leaf.0 in
        sym (laid_leaf o to m n c (merged_leaf c)) ∙ leaves o n m to (leaf c) read_leaf_lem

  module _ (k : get_or s p 0 ≡ open_symbol) where
    parts : Parts s (levels_in n m) p g.shape
    parts = two_parts there k

    -- a cube is laid as the run of its sons, behind its `P`
    module _ (z : m ≡ 0) where
      pub cube_left : 1 ≤ n
      cube_left = omega (arith, parts.is)

      again : n ≡ suc (n - 1)
      again = omega (arith, cube_left)

      same_levels : levels_in (n - 1) 3 ≡ levels_in n m
      same_levels = omega (arith, cube_left)

      sons_there : read_at s (levels_in (n - 1) 3) p ≡ read g.shape
      sons_there = ap (λ l. read_at s l p) same_levels ∙ g.there

      -- the symbols of a halved cube
      behind : (x y : Shape) → son_symbols m n (halved x y) ≡ part_symbol ∷ son_symbols 3 (n - 1) (halved x y)
      behind x y = ap₂ (λ i j. son_symbols i j (halved x y)) z again ∙ sons_cube (n - 1) x y

      pub cube_asks : Exporting s (n - 1) 3 p (to + 1)
      cube_asks = record {
        shape = g.shape;
        there = sons_there;
        short =
            omega (
              arith,
              g.short,
              ap (λ t. length (son_symbols m n t)) parts.both,
              ap (λ t. length (son_symbols 3 (n - 1) t)) parts.both,
              ap length (behind parts.low parts.high),
            );
      }

      pub cube_falls : (t : ℕ) → 4 * n + m ≡ t → 4 * (n - 1) + 3 < t
      cube_falls t e = omega (arith, cube_left)

      module _ {sons : Piece} (e : sons ≡ export_piece (n - 1) 3 p (to + 1) (read_at s (levels_in (n - 1) 3) p)) where
        sons_told : (sons.held ≡ held_symbol (merged g.shape)) × (sons.next ≡ p + size g.shape)
            × (sons.end ≡ to + 1 + length (son_symbols 3 (n - 1) (merged g.shape)))
        sons_told = told (n - 1) 3 p (to + 1) g.shape sons_there e

        -- they are all solids of one colour
        module _ (f : is_some sons.held ≡ true) where
          solid_cube : (c : Colour) × (merged g.shape ≡ leaf c)
          solid_cube = held_some (merged g.shape) (ap is_some (sym sons_told.0) ∙ f)

          one_symbol : length (son_symbols m n (merged g.shape)) ≡ 1
          one_symbol = ap (λ t. length (son_symbols m n t)) solid_cube.1 ∙ leaf_length m n solid_cube.0 ∙ ap (λ i. 2 ^ i) z

          pub solid_tells :
              ◌≡◌ {A = Piece} (record { held = sons.held; next = sons.next; end = to + 1 }) (export_piece n m p to (read_at s (levels_in n m) p))
          solid_tells = tells n m p to g.shape g.there sons_told.0 sons_told.1 (omega (arith, one_symbol))

          pub solid_leaves : (o : List ℕ) {o' : List ℕ} → o' ≡ export_room o (n - 1) 3 (to + 1) (read_at s (levels_in (n - 1) 3) p) →
              o' ≡ export_room o n m to (read_at s (levels_in n m) p)
          solid_leaves o u =
              u
              ∙ sym (leaves o (n - 1) 3 (to + 1) g.shape sons_there)
              ∙ laid_leaf o (to + 1) 3 (n - 1) solid_cube.0 solid_cube.1
              ∙ sym (laid_leaf o to m n solid_cube.0 solid_cube.1)
              ∙ leaves o n m to g.shape g.there

        module _ (f : is_some sons.held ≡ false) where
          parted_cube : (x : Shape) × (y : Shape) × (merged g.shape ≡ halved x y)
          parted_cube = held_none (merged g.shape) (ap is_some (sym sons_told.0) ∙ f)

          pub parted_tells : sons ≡ export_piece n m p to (read_at s (levels_in n m) p)
          parted_tells =
              tells n m p to g.shape g.there sons_told.0 sons_told.1
              (omega (
                arith,
                sons_told.2,
                ap (λ t. length (son_symbols m n t)) parted_cube.2,
                ap (λ t. length (son_symbols 3 (n - 1) t)) parted_cube.2,
                ap length (behind parted_cube.0 parted_cube.1),
              ))

          pub parted_leaves : (o o₁ : List ℕ) {o₂ : List ℕ} → o₁ ≡ export_room o (n - 1) 3 (to + 1) (read_at s (levels_in (n - 1) 3) p) → o₂ ≡ noted o₁ to 80 →
              o₂ ≡ export_room o n m to (read_at s (levels_in n m) p)
          parted_leaves o o₁ u v =
              let x = parted_cube.0 in
              let y = parted_cube.1 in
              let w : to + 1 ≡ suc to = omega arith in
              v
              ∙ sym (noted_some o₁ to 80 (λ q. omega arith))
              ∙ ap (λ l. set l to 80)
              (u ∙ sym (leaves o (n - 1) 3 (to + 1) g.shape sons_there) ∙ laid_halved o (to + 1) 3 (n - 1) x y parted_cube.2
              ∙ ap (λ q. sets o q (son_symbols 3 (n - 1) (halved x y))) w)
              ∙ set_sets (son_symbols 3 (n - 1) (halved x y)) o to (suc to) 80 (omega arith)
              ∙ ap (sets o to) (sym (behind x y))
              ∙ sym (laid_halved o to m n x y parted_cube.2)
              ∙ leaves o n m to g.shape g.there

    -- a run is that of the low part, and then that of the high one
    module _ (z : m ≡ 0 → ⊥) where
      one_in : m ≡ suc (m - 1)
      one_in = omega arith

      level_in : parts.level ≡ levels_in n (m - 1)
      level_in = omega (arith, parts.is)

      low_there : read_at s (levels_in n (m - 1)) (p + 1) ≡ read parts.low
      low_there = let w : p + 1 ≡ suc p = omega arith in ap₂ (read_at s) (sym level_in) w ∙ parts.low_there

      run_of : (x y : Shape) → son_symbols m n (halved x y) ≡ son_symbols (suc (m - 1)) n (halved x y)
      run_of x y = ap (λ i. son_symbols i n (halved x y)) one_in

      lengths : length (son_symbols m n g.shape) ≡ length (son_symbols (m - 1) n parts.low) + length (son_symbols (m - 1) n parts.high)
      lengths =
          ap (λ t. length (son_symbols m n t)) parts.both
          ∙ ap length (run_of parts.low parts.high)
          ∙ halved_length (m - 1) n parts.low parts.high

      pub low_asks : Exporting s n (m - 1) (p + 1) to
      low_asks = record { shape = parts.low; there = low_there; short = omega (arith, g.short, lengths) }

      module _ {below : Piece} (e : below ≡ export_piece n (m - 1) (p + 1) to (read_at s (levels_in n (m - 1)) (p + 1))) where
        below_told : (below.held ≡ held_symbol (merged parts.low)) × (below.next ≡ p + 1 + size parts.low)
            × (below.end ≡ to + length (son_symbols (m - 1) n (merged parts.low)))
        below_told = told n (m - 1) (p + 1) to parts.low low_there e

        high_there : read_at s (levels_in n (m - 1)) below.next ≡ read parts.high
        high_there =
            let w : below.next ≡ suc p + size parts.low = omega (arith, below_told.1) in
            ap₂ (read_at s) (sym level_in) w ∙ parts.high_there

        pub high_asks : Exporting s n (m - 1) below.next below.end
        high_asks = record {
          shape = parts.high;
          there = high_there;
          short =
              omega (arith, g.short, lengths, below_told.2, merged_length parts.low (m - 1) n);
        }

        module _ {above : Piece} (f : above ≡ export_piece n (m - 1) below.next below.end (read_at s (levels_in n (m - 1)) below.next)) (b : Bool)
            (i : b ≡ is_same below.held above.held) where
          abbrev low : Shape
          low = parts.low

          abbrev high : Shape
          high = parts.high

          above_told : (above.held ≡ held_symbol (merged high)) × (above.next ≡ below.next + size high)
              × (above.end ≡ below.end + length (son_symbols (m - 1) n (merged high)))
          above_told = told n (m - 1) below.next below.end high high_there f

          whole : read_at s (levels_in n m) p ≡ read (halved low high)
          whole = g.there ∙ ap read parts.both

          past : above.next ≡ p + size (halved low high)
          past = omega (arith, above_told.1, below_told.1, halved_size low high)

          test : (c : Bool) → b ≡ c → is_alike (leaf_symbol (merged low)) (leaf_symbol (merged high)) ≡ c
          test c w = sym (held_alike (merged low) (merged high)) ∙ rw (← below_told.0, ← above_told.0) (sym i ∙ w)

          module _ (w : b ≡ true) where
            same : (c : Colour) × (merged low ≡ leaf c) × (merged high ≡ leaf c) × (merged (halved low high) ≡ leaf c)
            same = merged_same low high (test true w)

            pub alike_tells : above ≡ export_piece n m p to (read_at s (levels_in n m) p)
            alike_tells =
                tells n m p to (halved low high) whole (above_told.0 ∙ ap held_symbol (same.2 ∙ sym same.3)) past
                (omega (
                  arith,
                  above_told.2,
                  below_told.2,
                  ap (λ t. length (son_symbols (m - 1) n t)) same.1,
                  ap (λ t. length (son_symbols (m - 1) n t)) same.2,
                  ap (λ t. length (son_symbols m n t)) same.3,
                  leaf_length (m - 1) n same.0,
                  leaf_length m n same.0,
                  twice (m - 1),
                  ap (λ x. 2 ^ x) one_in,
                ))

            pub alike_leaves : (o o₁ : List ℕ) {o₂ : List ℕ} → o₁ ≡ export_room o n (m - 1) to (read_at s (levels_in n (m - 1)) (p + 1)) →
                o₂ ≡ export_room o₁ n (m - 1) below.end (read_at s (levels_in n (m - 1)) below.next) → o₂ ≡ export_room o n m to (read_at s (levels_in n m) p)
            alike_leaves o o₁ u v =
                v
                ∙ sym (leaves o₁ n (m - 1) below.end high high_there)
                ∙ laid_leaf o₁ below.end (m - 1) n same.0 same.2
                ∙ u
                ∙ sym (leaves o n (m - 1) to low low_there)
                ∙ laid_leaf o to (m - 1) n same.0 same.1
                ∙ sym (laid_leaf o to m n same.0 same.3)
                ∙ leaves o n m to (halved low high) whole

          module _ (w : b ≡ false) where
            apart : merged (halved low high) ≡ halved (merged low) (merged high)
            apart = merged_apart low high (test false w)

            pub apart_tells : ◌≡◌ {A = Piece} (record { held = None; next = above.next; end = above.end })
                (export_piece n m p to (read_at s (levels_in n m) p))
            unfolding held_symbol
            apart_tells =
                tells n m p to (halved low high) whole (sym (ap held_symbol apart)) past
                (omega (
                  arith,
                  above_told.2,
                  below_told.2,
                  ap (λ t. length (son_symbols m n t)) apart,
                  ap length (run_of (merged low) (merged high)),
                  halved_length (m - 1) n (merged low) (merged high),
                ))

            pub apart_leaves : (o o₁ o₂ o₃ : List ℕ) {o₄ : List ℕ} {count : ℕ} → count ≡ 2 ^ (m - 1) →
                o₁ ≡ export_room o n (m - 1) to (read_at s (levels_in n (m - 1)) (p + 1)) →
                o₂ ≡ export_room o₁ n (m - 1) below.end (read_at s (levels_in n (m - 1)) below.next) → o₃ ≡ filled o₂ to count below.held →
                o₄ ≡ filled o₃ below.end count above.held → o₄ ≡ export_room o n m to (read_at s (levels_in n m) p)
            apart_leaves o o₁ o₂ o₃ {o₄} {count} c u v x y =
                let u' = u ∙ sym (leaves o n (m - 1) to low low_there) in
                let v' = v ∙ sym (leaves o₁ n (m - 1) below.end high high_there) ∙ ap (λ l. laid_sons l below.end (m - 1) n (merged high)) u' in
                let x' = x ∙ ap₂ (λ l h. filled l to count h) v' below_told.0 in
                y
                ∙ ap₂ (λ l h. filled l below.end count h) x' above_told.0
                ∙ ap (λ q. filled (filled (laid_sons (laid_sons o to (m - 1) n (merged low)) below.end (m - 1) n (merged high)) to q (held_symbol (merged low)))
                below.end q (held_symbol (merged high))) c
                ∙ parts_laid o to below.end (m - 1) n (merged low) (merged high) below_told.2
                ∙ ap (sets o to) (sym (run_of (merged low) (merged high)))
                ∙ sym (laid_halved o to m n (merged low) (merged high) apart)
                ∙ leaves o n m to (halved low high) whole

pub sons_fall : (n m t : ℕ) → 4 * n + m ≡ t → (m ≡ 0 → ⊥) → 4 * n + (m - 1) < t
sons_fall n m t e h = omega arith

pub fewer : (m : ℕ) → m ≤ 3 → m - 1 ≤ 3
fewer m h = omega arith

pub few_held : (m : ℕ) → m ≤ 3 → (m ≡ 0 → ⊥) → 2 ^ (m - 1) ≤ most_held
few_held m h n = let k : m - 1 ≤ 2 = omega arith in pow_mono k

pub ruleset sons_laws = (
  rules,
  export_inside,
  export_next,
  export_fits,
  leaf_fits,
  leaf_tells,
  leaf_leaves,
  cube_left,
  cube_asks,
  cube_falls,
  solid_tells,
  solid_leaves,
  parted_tells,
  parted_leaves,
  low_asks,
  high_asks,
  alike_tells,
  alike_leaves,
  apart_tells,
  apart_leaves,
  sons_fall,
  fewer,
  few_held,
)
