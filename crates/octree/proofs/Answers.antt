-- What the functions of src/lib.rt answer and leave: a universe that has octrees, bytes that are one, what is written of the whole, and the calls. An octree is
-- shorter than four times its expression and an expression shorter than twice its octree, so that so much room suffices. Each law takes its premises in the
-- form that code leaves them.
use mathlib.Core.Path.{◌≡◌, refl, sym, ap, ap₂, ◌∙◌}
use mathlib.Core.List.{List, [], ◌∷◌, ◌++◌, append_assoc}
use Prim.Native.Nat.{ℕ, zero, suc, ◌+◌, ◌-◌, ◌*◌, ◌^◌, ◌≤◌, ◌<◌}
use native.Mathlib.Nat.{two-pow-succ}
use native.Mathlib.Omega.{arith}
use lib.ListN.{length}
use Rattle.std.specs.Prelude.{Option, Some, None, min}
use lib.Seq.{sets}
use lib.Pow.{pow_mono, pow_pos}
use borrow.Author.Rules.{rules}
use Rattle.universe.specs.declared.Universe.{Universe}
use Rattle.universe.specs.Universe.{most_bits, levels}
use Rattle.bintree.specs.Shape.{Shape, leaf, halved, symbols, size, depth}
use Rattle.bintree.specs.Reading.{read, read_at, expression_refusal}
use Rattle.bintree.specs.Merging.{merged}
use Rattle.bintree.specs.Answers.{of_shape, well_formed_refusal}
use Rattle.bintree.proofs.Shape.{length_symbols, depth_low, depth_high, halved_deep}
use Rattle.bintree.proofs.Reading as reading
use Rattle.bintree.proofs.Ends.{expression_told}
use Rattle.bintree.proofs.Merging.{merged_size, merged_depth}
use Rattle.octree.specs.declared.Piece.{Piece}
use Rattle.octree.specs.Octree.{Octree, solid, parted, AtMost, octree_symbols, octree_size}
use Rattle.octree.specs.Octree.{Found, nothing, found, of_found, octree_at, octree_on, reduce}
use Rattle.octree.specs.Parting.{low_part, high_part, cube_of, octree_of, shape_of}
use Rattle.octree.specs.Answers.{cube_refusal, octree_refusal, export_symbols, import_symbols}
use Rattle.octree.specs.Answers.{Exportable, Importable}
use Rattle.octree.specs.Runs.{as_found, run_at, most_place, past_run, Importing, held_leaf, filled, import_piece, import_room}
use Rattle.octree.specs.Runs.{son_symbols, held_symbol, levels_in, Exporting, export_piece, export_room}
use Rattle.octree.proofs.Octrees.{stands, stands_most, stands_past, on_nothing, on_found, on_rest, on_at}
use Rattle.octree.proofs.Partings.{quarter_0, quarter_1, quarter_2, quarter_3, low_two, high_two, shape_deep, reduce_octree}
use Rattle.octree.proofs.Colours.{Cubic, cubic, cube_levels}
use Rattle.octree.proofs.Imports as imports
use Rattle.octree.proofs.Exports as exports

-- ---- `check_octree`

pub refused_as : (n : ℕ) (s : List ℕ) → octree_on n s ≡ nothing → 7 ≡ octree_refusal n s
unfolding octree_refusal
refused_as n s e = rw e

pub fine_as : (n : ℕ) (s : List ℕ) (o : Octree) (q : ℕ) → octree_on n s ≡ found o q → 0 ≡ octree_refusal n s
unfolding octree_refusal
fine_as n s o q e = rw e

module _ (n : ℕ) (s : List ℕ) where
  end_none : octree_at s n 0 ≡ nothing → past_run (run_at s n 0 0) ≡ None
  unfolding past_run run_at as_found
  end_none f = rw f

  end_found : (o : Octree) (q : ℕ) → octree_at s n 0 ≡ found o q → past_run (run_at s n 0 0) ≡ Some q
  unfolding past_run run_at as_found
  end_found o q f = rw f

  by : {A : Type 0} → (octree_at s n 0 ≡ nothing → A) → ((o : Octree) (q : ℕ) → octree_at s n 0 ≡ found o q → A) → A
  by {A} f g = go (octree_at s n 0) refl
    where
      go : (y : Found Octree) → octree_at s n 0 ≡ y → A
      go nothing h = f h
      go (found o q) h = g o q h

  pub octree_other : (past_run (run_at s n 0 0) ≡ Some (length s) → ⊥) → 7 ≡ octree_refusal n s
  octree_other k =
      by (λ f. refused_as n s (on_nothing n s f))
      (λ o q f. refused_as n s (on_rest n s o q f (λ z. k (end_found o q f ∙ ap Some z))))

  pub octree_fine : past_run (run_at s n 0 0) ≡ Some (length s) → 0 ≡ octree_refusal n s
  octree_fine k =
      by (λ f. let z : ◌≡◌ {A = Option ℕ} None (Some (length s)) = sym (end_none f) ∙ k in cc)
      (λ o q f.
      let z : ◌≡◌ {A = Option ℕ} (Some q) (Some (length s)) = sym (end_found o q f) ∙ k in
      let w : q ≡ length s = cc in
      fine_as n s o q (on_found n s o q f w))

-- ---- lengths

size_deep : (t : Shape) (n : ℕ) → depth t ≤ n → size t < 2 ^ suc n
unfolding size
size_deep (leaf c) n h = omega (arith, two-pow-succ n, pow_pos n)
size_deep (halved a b) zero h = absurd (halved_deep a b h)
size_deep (halved a b) (suc n) h =
    omega (arith, size_deep a n (depth_low a b n h), size_deep b n (depth_high a b n h), two-pow-succ (suc n))

few_blocks : (k : ℕ) → k ≤ most_bits → 2 ^ suc (3 * k) ≤ 2 ^ suc (3 * most_bits)
few_blocks k h = let f : suc (3 * k) ≤ suc (3 * most_bits) = omega arith in pow_mono f

-- THEOREM: an expression is shorter than twice its octree
pub import_shorter : (o : Octree) → size (shape_of o) < 2 * octree_size o
unfolding size shape_of octree_size
import_shorter (solid c) = omega arith
import_shorter (parted a b c d e f g h) =
    omega
    (arith, import_shorter a, import_shorter b, import_shorter c, import_shorter d, import_shorter e, import_shorter f, import_shorter g, import_shorter h)

-- THEOREM: an octree is shorter than four times its expression
pub sons_shorter : (t : Shape) (m n : ℕ) → length (son_symbols m n t) + 4 ≤ 4 * size t + 2 ^ m
unfolding size
sons_shorter (leaf c) m n = omega (arith, exports.leaf_length m n c)
sons_shorter (halved a b) m n = step m n (λ i j. sons_shorter a i j) (λ i j. sons_shorter b i j)
  where
    step : (m n : ℕ) → ((i j : ℕ) → length (son_symbols i j a) + 4 ≤ 4 * size a + 2 ^ i) → ((i j : ℕ) → length (son_symbols i j b) + 4 ≤ 4 * size b + 2 ^ i) →
        length (son_symbols m n (halved a b)) + 4 ≤ 4 * suc (size a + size b) + 2 ^ m
    step zero zero f g = omega (arith, exports.flat_length a b)
    step zero (suc n) f g = omega (arith, exports.cube_length n a b, exports.halved_length 2 n a b, f 2 n, g 2 n)
    step (suc m) n f g = omega (arith, exports.halved_length m n a b, exports.twice m, f m n, g m n)

-- ---- the octree of a shape is written as the run of one son

pair_sons : (n : ℕ) (a : Shape) → son_symbols 1 n a ≡ son_symbols 0 n (low_part a) ++ son_symbols 0 n (high_part a)
unfolding son_symbols
pair_sons n (leaf c) = refl
pair_sons n (halved a b) = refl

four_sons : (n : ℕ) (a : Shape) → son_symbols 2 n a ≡ son_symbols 1 n (low_part a) ++ son_symbols 1 n (high_part a)
unfolding son_symbols
four_sons n (leaf c) = refl
four_sons n (halved a b) = refl

quarter_sons : (n : ℕ) (a : Shape) → son_symbols 2 n a
    ≡ son_symbols 0 n (low_part (low_part a))
    ++ (son_symbols 0 n (high_part (low_part a)) ++ (son_symbols 0 n (low_part (high_part a)) ++ son_symbols 0 n (high_part (high_part a))))
quarter_sons n a =
    four_sons n a
    ∙ ap₂ (λ x y. x ++ y) (pair_sons n (low_part a)) (pair_sons n (high_part a))
    ∙ append_assoc (son_symbols 0 n (low_part (low_part a))) (son_symbols 0 n (high_part (low_part a)))
    (son_symbols 0 n (low_part (high_part a)) ++ son_symbols 0 n (high_part (high_part a)))

eight_sons : (n : ℕ) (a b : Shape) → son_symbols 2 n a ++ son_symbols 2 n b
    ≡ son_symbols 0 n (low_part (low_part a))
    ++ (son_symbols 0 n (high_part (low_part a)) ++ (son_symbols 0 n (low_part (high_part a)) ++ (son_symbols 0 n (high_part (high_part a))
    ++ (son_symbols 0 n (low_part (low_part b))
    ++ (son_symbols 0 n (high_part (low_part b)) ++ (son_symbols 0 n (low_part (high_part b)) ++ son_symbols 0 n (high_part (high_part b))))))))
eight_sons n a b =
    ap₂ (λ x y. x ++ y) (quarter_sons n a) (quarter_sons n b)
    ∙ four (son_symbols 0 n (low_part (low_part a))) (son_symbols 0 n (high_part (low_part a))) (son_symbols 0 n (low_part (high_part a)))
    (son_symbols 0 n (high_part (high_part a)))
    (son_symbols 0 n (low_part (low_part b))
    ++ (son_symbols 0 n (high_part (low_part b)) ++ (son_symbols 0 n (low_part (high_part b)) ++ son_symbols 0 n (high_part (high_part b)))))
  where
    four : (p q r s rest : List ℕ) → (p ++ (q ++ (r ++ s))) ++ rest ≡ p ++ (q ++ (r ++ (s ++ rest)))
    four p q r s rest =
        append_assoc p (q ++ (r ++ s)) rest
        ∙ ap (λ l. p ++ l) (append_assoc q (r ++ s) rest ∙ ap (λ l. q ++ l) (append_assoc r s rest))

parted_symbols : (a b c d e f g h : Octree) {la lb lc ld le lf lg lh : List ℕ} → octree_symbols a ≡ la → octree_symbols b ≡ lb → octree_symbols c ≡ lc →
    octree_symbols d ≡ ld → octree_symbols e ≡ le → octree_symbols f ≡ lf → octree_symbols g ≡ lg → octree_symbols h ≡ lh →
    octree_symbols (parted a b c d e f g h) ≡ 80 ∷ (la ++ (lb ++ (lc ++ (ld ++ (le ++ (lf ++ (lg ++ lh)))))))
unfolding octree_symbols
parted_symbols a b c d e f g h pa pb pc pd pe pf pg ph = rw (pa, pb, pc, pd, pe, pf, pg, ph)

pub octree_sons : (n : ℕ) (t : Shape) → depth t ≤ 3 * n → octree_symbols (octree_of n t) ≡ son_symbols 0 n t
unfolding octree_of cube_of octree_symbols son_symbols
octree_sons zero (leaf c) h = refl
octree_sons zero (halved a b) h = absurd (halved_deep a b (omega arith))
octree_sons (suc n) (leaf c) h = refl
octree_sons (suc n) (halved a b) h =
    let l = low_two a b n h in
    let r = high_two a b n h in
    parted_symbols (octree_of n (low_part (low_part a))) (octree_of n (high_part (low_part a))) (octree_of n (low_part (high_part a)))
    (octree_of n (high_part (high_part a))) (octree_of n (low_part (low_part b))) (octree_of n (high_part (low_part b))) (octree_of n (low_part (high_part b)))
    (octree_of n (high_part (high_part b)))
    (octree_sons n (low_part (low_part a)) (quarter_0 n a l)) (octree_sons n (high_part (low_part a)) (quarter_1 n a l))
    (octree_sons n (low_part (high_part a)) (quarter_2 n a l)) (octree_sons n (high_part (high_part a)) (quarter_3 n a l))
    (octree_sons n (low_part (low_part b)) (quarter_0 n b r)) (octree_sons n (high_part (low_part b)) (quarter_1 n b r))
    (octree_sons n (low_part (high_part b)) (quarter_2 n b r)) (octree_sons n (high_part (high_part b)) (quarter_3 n b r))
    ∙ ap (λ (l : List ℕ). 80 ∷ l) (sym (eight_sons n a b))

-- ---- `write_octree`

module _ {u : Universe} {s : List ℕ} (r : Exportable u s) where
  cubic_u : Cubic u
  cubic_u = cubic u r.cube

  whole : (read_at s (levels u) 0 ≡ read r.shape) × (size r.shape ≡ length s)
  whole = reading.expression_at_lem u s r.shape r.reads

  deep : depth r.shape ≤ 3 * u.bits
  deep = omega (arith, (reading.read_is u s r.shape r.reads).1, cube_levels u cubic_u)

  all_levels : levels_in u.bits 0 ≡ levels u
  all_levels = omega (arith, cube_levels u cubic_u)

  all_there : read_at s (levels_in u.bits 0) 0 ≡ read r.shape
  all_there = ap (λ l. read_at s l 0) all_levels ∙ whole.0

  few_places : 2 ^ suc (3 * u.bits) ≤ 2 ^ suc (3 * most_bits)
  few_places = few_blocks u.bits cubic_u.few

  few_sons : length (son_symbols 0 u.bits r.shape) ≤ most_place
  few_sons = omega (arith, sons_shorter r.shape 0 u.bits, size_deep r.shape (3 * u.bits) deep, few_places)

  pub export_asks : Exporting s u.bits 0 0 0
  export_asks = record {
    shape = r.shape;
    there = all_there;
    short = omega (arith, few_sons);
  }

  export_is : export_symbols u s ≡ son_symbols 0 u.bits (merged r.shape)
  export_is =
      ap (λ x. of_shape x [] (λ a. octree_symbols (reduce (octree_of u.bits a)))) r.reads
      ∙ ap octree_symbols (reduce_octree u.bits r.shape deep)
      ∙ octree_sons u.bits (merged r.shape) (omega (arith, merged_depth r.shape, deep))

  module _ {piece : Piece} (e : piece ≡ export_piece u.bits 0 0 0 (read_at s (levels_in u.bits 0) 0)) where
    export_told : (piece.held ≡ held_symbol (merged r.shape)) × (piece.next ≡ 0 + size r.shape)
        × (piece.end ≡ 0 + length (son_symbols 0 u.bits (merged r.shape)))
    export_told = exports.told u.bits 0 0 0 r.shape all_there e

    pub export_length : piece.end ≡ length (export_symbols u s)
    export_length = omega (arith, export_told.2, ap length export_is)

    pub export_written : (o o₁ : List ℕ) {o₂ : List ℕ} → o₁ ≡ export_room o u.bits 0 0 (read_at s (levels_in u.bits 0) 0) → o₂ ≡ filled o₁ 0 1 piece.held →
        o₂ ≡ sets o 0 (export_symbols u s)
    export_written o o₁ f g =
        g
        ∙ ap₂ (λ l h. filled l 0 1 h) (f ∙ sym (exports.leaves o u.bits 0 0 r.shape all_there)) export_told.0
        ∙ exports.laid_filled o 0 0 u.bits (merged r.shape)
        ∙ ap (sets o 0) (sym export_is)

  -- THEOREM: so much room suffices
  pub export_suffices : length (export_symbols u s) + 3 ≤ 4 * length s
  export_suffices =
      omega (arith, ap length export_is, sons_shorter (merged r.shape) 0 u.bits, merged_size r.shape, whole.1)

  pub export_few : {most : ℕ} → most ≡ min (length s * 4) (2 ^ 64 - 1) → length (export_symbols u s) ≤ most
  export_few e = omega (
    arith,
    e,
    export_suffices,
    ap length export_is,
    exports.merged_length r.shape 0 u.bits,
    few_sons,
  )

-- ---- `write_merged`

module _ {u : Universe} {s : List ℕ} (r : Importable u s) where
  octree_there : (octree_at s u.bits 0 ≡ found r.octree r.past) × (r.past ≡ length s)
  octree_there = on_at u.bits s r.octree r.past r.reads

  run_there : run_at s u.bits 0 0 ≡ found (shape_of r.octree) r.past
  unfolding as_found
  run_there = imports.run_none s u.bits 0 ∙ ap (as_found shape_of) octree_there.0

  most : AtMost u.bits r.octree
  most = stands_most (stands s u.bits 0 r.octree r.past octree_there.0)

  few_symbols : size (shape_of r.octree) ≤ most_place
  few_symbols = omega (arith, size_deep (shape_of r.octree) (3 * u.bits) (shape_deep most), few_blocks u.bits (cubic u r.cube).few)

  pub import_asks : Importing s u.bits 0 0 0
  import_asks = record {
    shape = shape_of r.octree;
    past = r.past;
    there = run_there;
    short = omega (arith, few_symbols);
  }

  import_is : import_symbols u s ≡ symbols (merged (shape_of r.octree))
  import_is = ap (λ x. of_found x [] (λ o past. symbols (merged (shape_of o)))) r.reads

  import_size : length (import_symbols u s) ≡ size (merged (shape_of r.octree))
  import_size = ap length import_is ∙ length_symbols (merged (shape_of r.octree))

  module _ {piece : Piece} (e : piece ≡ import_piece 0 (run_at s u.bits 0 0)) where
    import_told : (piece.held ≡ held_leaf (merged (shape_of r.octree))) × (piece.next ≡ r.past) × (piece.end ≡ 0 + size (merged (shape_of r.octree)))
    import_told = imports.told 0 (shape_of r.octree) r.past run_there e

    pub import_length : piece.end ≡ length (import_symbols u s)
    import_length = omega (arith, import_told.2, import_size)

    pub import_written : (o o₁ : List ℕ) {o₂ : List ℕ} → o₁ ≡ import_room o 0 (run_at s u.bits 0 0) → o₂ ≡ filled o₁ 0 1 piece.held →
        o₂ ≡ sets o 0 (import_symbols u s)
    import_written o o₁ f g =
        g
        ∙ ap₂ (λ l h. filled l 0 1 h) (f ∙ sym (imports.leaves o 0 (shape_of r.octree) r.past run_there)) import_told.0
        ∙ imports.laid_filled o (merged (shape_of r.octree))
        ∙ ap (sets o 0) (sym import_is)

  -- THEOREM: so much room suffices
  pub import_suffices : length (import_symbols u s) < 2 * length s
  import_suffices =
      omega (
        arith,
        import_size,
        merged_size (shape_of r.octree),
        import_shorter r.octree,
        stands_past (stands s u.bits 0 r.octree r.past octree_there.0),
        octree_there.1,
      )

  pub import_few : {most : ℕ} → most ≡ min (length s * 2) (2 ^ 64 - 1) → length (import_symbols u s) ≤ most
  import_few e = omega (
    arith,
    e,
    import_suffices,
    import_size,
    merged_size (shape_of r.octree),
    few_symbols,
  )

pub ruleset write_laws = (rules, export_asks, export_length, export_written, import_asks, import_length, import_written)

-- ---- what is accepted can be exported, or imported

module _ (u : Universe) (s : List ℕ) (e : 0 ≡ cube_refusal u) where
  pub formed : {m : ℕ} → m ≡ well_formed_refusal u s → m ≡ expression_refusal u s
  formed = expression_told u s (cubic u (sym e)).fine

  pub exportable : 0 ≡ expression_refusal u s → Exportable u s
  exportable f = let a = reading.accepted_shape u s (sym f) in record { cube = sym e; shape = a.0; reads = a.1 }

  pub importable : 0 ≡ octree_refusal u.bits s → Importable u s
  importable f = go (octree_on u.bits s) refl
    where
      go : (x : Found Octree) → octree_on u.bits s ≡ x → Importable u s
      go nothing g = absurd (omega (arith, refused_as u.bits s g))
      go (found o q) g = record { cube = sym e; octree = o; past = q; reads = g }
