-- Runs of octrees (src/runs.rt): one `P` is the run of its eight sons, and a run is two halves, one straight after the other. So where a run ends, and what
-- laying its merged shape tells and leaves, comes of its two halves as merging joins them. Each law takes its premises in the form that code leaves them.
use mathlib.Core.Path.{◌≡◌, refl, sym, ap, fun_ext, ◌∙◌}
use mathlib.Core.Bool.{Bool, true, false}
use mathlib.Core.List.{List}
use Rattle.std.specs.Prelude.{Option, Some, None, unwrap_or}
use Prim.Native.Nat.{ℕ, zero, suc, ◌+◌, ◌-◌, ◌*◌, ◌^◌, ◌≤◌, ◌<◌}
use native.Mathlib.Omega.{arith}
use borrow.Author.Rules.{rules}
use borrow.Author.Tests.{eq-eqb, ne_eqb}
use lib.ListN.{length, get_or, get_or-eq_default}
use lib.Seq.{sets}
use Rattle.bintree.specs.declared.Colour.{Colour}
use Rattle.bintree.specs.declared.Colour.TheVariants.{White, Black}
use Rattle.bintree.specs.Shape.{Shape, leaf, halved, symbol_of, symbols, size}
use Rattle.bintree.specs.Merging.{merged}
use Rattle.bintree.specs.Walks.{leaf_symbol, is_alike, joined_halves, laid}
use Rattle.bintree.proofs.Shape.{size_positive}
use Rattle.bintree.proofs.Merging.{merged_size}
use Rattle.bintree.proofs.Lays.{merged_same, merged_apart, leaf_laid, apart_laid}
use Rattle.octree.specs.declared.Piece.{Piece}
use Rattle.octree.specs.Octree.{Octree, part_symbol, solid_symbol, Found, nothing}
use Rattle.octree.specs.Octree.{found, with_second, after_first, two_at, Two, parted_of, octree_at}
use Rattle.octree.specs.Parting.{shape_of}
use Rattle.octree.specs.Runs.{leaf_of, as_found, as_halved, run_at, past_run, Importing, is_same, held_leaf, filled, import_piece, import_room}
use Rattle.octree.proofs.Octrees.{Stands, stands, solid_stands, parted_stands, stands_past, stands_inside, octree_some, Both, found_two, two_found}
use Rattle.octree.proofs.Octrees.{at_part, at_solid, at_none, at_deep}

none_found : as_found shape_of nothing ≡ nothing
unfolding as_found
none_found = refl

-- ---- a `P` is the run of its eight sons

-- two that are found as shapes are one shape, halved
as_two : {A : Type 0} (f : ℕ → Found A) (g : A → Shape) (p : ℕ) →
    as_found (λ (x : A × A). halved (g x.0) (g x.1)) (two_at f p) ≡ as_found as_halved (two_at (λ q. as_found g (f q)) p)
unfolding as_found after_first with_second
as_two {A} f g p = go (f p)
  where
    second : (a : A) (y : Found A) →
        as_found (λ (x : A × A). halved (g x.0) (g x.1)) (with_second a y) ≡ as_found as_halved (with_second (g a) (as_found g y))
    second a nothing = refl
    second a (found b q) = refl

    go : (y : Found A) →
        as_found (λ (x : A × A). halved (g x.0) (g x.1)) (after_first f y) ≡ as_found as_halved (after_first (λ q. as_found g (f q)) (as_found g y))
    go nothing = refl
    go (found a q) = second a (f q)

abbrev shape_two : Two Octree → Shape
shape_two x = halved (shape_of x.0) (shape_of x.1)

abbrev shape_four : Two (Two Octree) → Shape
shape_four x = halved (shape_two x.0) (shape_two x.1)

abbrev shape_eight : Two (Two (Two Octree)) → Shape
shape_eight x = halved (shape_four x.0) (shape_four x.1)

as_eight : (y : Found (Two (Two (Two Octree)))) → as_found shape_of (parted_of y) ≡ as_found shape_eight y
unfolding as_found parted_of shape_of
as_eight nothing = refl
as_eight (found (((a, b), (c, d)), ((e, f), (g, h))) q) = refl

module _ (s : List ℕ) where
  pub run_none : (n p : ℕ) → run_at s n 0 p ≡ as_found shape_of (octree_at s n p)
  unfolding run_at
  run_none n p = refl

  pub run_more : (n m p : ℕ) → run_at s n (suc m) p ≡ as_found as_halved (two_at (λ q. run_at s n m q) p)
  unfolding run_at
  run_more n m p = refl

  run_two : (n p : ℕ) → run_at s n 1 p ≡ as_found shape_two (two_at (λ q. octree_at s n q) p)
  run_two n p =
      run_more n 0 p
      ∙ ap (λ (f : ℕ → Found Shape). as_found as_halved (two_at f p)) (fun_ext (λ q. run_none n q))
      ∙ sym (as_two (λ q. octree_at s n q) shape_of p)

  run_four : (n p : ℕ) → run_at s n 2 p ≡ as_found shape_four (two_at (two_at (λ q. octree_at s n q)) p)
  run_four n p =
      run_more n 1 p
      ∙ ap (λ (f : ℕ → Found Shape). as_found as_halved (two_at f p)) (fun_ext (λ q. run_two n q))
      ∙ sym (as_two (two_at (λ q. octree_at s n q)) shape_two p)

  run_eight : (n p : ℕ) → run_at s n 3 p ≡ as_found shape_eight (two_at (two_at (two_at (λ q. octree_at s n q))) p)
  run_eight n p =
      run_more n 2 p
      ∙ ap (λ (f : ℕ → Found Shape). as_found as_halved (two_at f p)) (fun_ext (λ q. run_four n q))
      ∙ sym (as_two (two_at (two_at (λ q. octree_at s n q))) shape_four p)

  -- THEOREM: so is its shape
  pub run_parted : (n p : ℕ) → get_or s p 0 ≡ part_symbol → run_at s (suc n) 0 p ≡ run_at s n 3 (suc p)
  run_parted n p e =
      run_none (suc n) p
      ∙ ap (as_found shape_of) (at_part s n p e)
      ∙ as_eight (two_at (two_at (two_at (λ q. octree_at s n q))) (suc p))
      ∙ sym (run_eight n (suc p))

  pub run_solid : (n p : ℕ) (c : Colour) → get_or s p 0 ≡ solid_symbol c → run_at s n 0 p ≡ found (leaf c) (suc p)
  unfolding as_found shape_of
  run_solid n p c e = run_none n p ∙ ap (as_found shape_of) (at_solid s n p c e)

  pub run_other : (n p : ℕ) → (get_or s p 0 ≡ part_symbol → ⊥) → (get_or s p 0 ≡ solid_symbol Black → ⊥) → (get_or s p 0 ≡ solid_symbol White → ⊥) →
      run_at s n 0 p ≡ nothing
  unfolding as_found
  run_other n p h k l = run_none n p ∙ ap (as_found shape_of) (at_none s n p h k l)

  pub run_deep : (p : ℕ) → get_or s p 0 ≡ part_symbol → run_at s 0 0 p ≡ nothing
  unfolding as_found
  run_deep p e = run_none 0 p ∙ ap (as_found shape_of) (at_deep s p e)

  -- ---- a run is two halves

  halved_found : (f : ℕ → Found Shape) (p : ℕ) (t : Shape) (r : ℕ) → as_found as_halved (two_at f p) ≡ found t r →
      (x : Shape × Shape) × Both f p x r × (t ≡ as_halved x)
  unfolding as_found
  halved_found f p t r e = go (two_at f p) refl e
    where
      go : (y : Found (Shape × Shape)) → two_at f p ≡ y → as_found as_halved y ≡ found t r → (x : Shape × Shape) × Both f p x r × (t ≡ as_halved x)
      go nothing g h = let z : ◌≡◌ {A = ℕ} 0 1 = cc in absurd (omega arith)
      go (found x q) g h =
          let k : q ≡ r = cc in
          (x, found_two f p r x (g ∙ ap (found x) k), (cc))

  pub run_halves : (n m p : ℕ) (t : Shape) (r : ℕ) → run_at s n (suc m) p ≡ found t r →
      (x : Shape × Shape) × Both (λ q. run_at s n m q) p x r × (t ≡ as_halved x)
  run_halves n m p t r e = halved_found (λ q. run_at s n m q) p t r (sym (run_more n m p) ∙ e)

  pub run_both : (n m p q r : ℕ) (a b : Shape) → run_at s n m p ≡ found a q → run_at s n m q ≡ found b r → run_at s n (suc m) p ≡ found (halved a b) r
  unfolding as_found
  run_both n m p q r a b e f = run_more n m p ∙ ap (as_found as_halved) (two_found (λ i. run_at s n m i) p q r a b e f)

  pub run_first : (n m p : ℕ) → run_at s n m p ≡ nothing → run_at s n (suc m) p ≡ nothing
  unfolding as_found after_first
  run_first n m p e = run_more n m p ∙ rw e

  pub run_second : (n m p q : ℕ) (a : Shape) → run_at s n m p ≡ found a q → run_at s n m q ≡ nothing → run_at s n (suc m) p ≡ nothing
  unfolding as_found after_first with_second
  run_second n m p q a e f = run_more n m p ∙ rw (e, after_first, f)

  -- ---- it ends behind where it begins, inside the text

  one_there : (n p : ℕ) (t : Shape) (q : ℕ) (y : Found Octree) → octree_at s n p ≡ y → as_found shape_of y ≡ found t q → (p < q) × (q ≤ length s)
  unfolding as_found
  one_there n p t q nothing e f = let z : ◌≡◌ {A = ℕ} 0 1 = cc in absurd (omega arith)
  one_there n p t q (found o r) e f =
      let w = stands s n p o r e in
      let k : r ≡ q = cc in
      (omega (arith, stands_past w, octree_some o, k), omega (arith, stands_inside w, k))

  pub run_there : (n m p : ℕ) (t : Shape) (q : ℕ) → run_at s n m p ≡ found t q → (p < q) × (q ≤ length s)
  run_there n zero p t q e = one_there n p t q (octree_at s n p) refl (sym (run_none n p) ∙ e)
  run_there n (suc m) p t q e =
      let w = run_halves n m p t q e in
      let a = run_there n m p w.0.0 w.1.middle w.1.first in
      let b = run_there n m w.1.middle w.0.1 q w.1.second in
      (omega (arith, a.0, b.0), b.1)

-- ---- `leaf_of`

pub leaf_black : (x : ℕ) → x ≡ 70 → 66 ≡ leaf_of x
leaf_black x e = rw (eq-eqb x 70 e)

pub leaf_white : (x : ℕ) → (x ≡ 70 → ⊥) → 87 ≡ leaf_of x
leaf_white x n = rw (ne_eqb x 70 n)

leaf_is : (c : Colour) (x : ℕ) → x ≡ solid_symbol c → leaf_of x ≡ symbol_of c
leaf_is Black x e = sym (leaf_black x e)
leaf_is White x e = sym (leaf_white x (λ z. omega arith))

-- ---- `run_end`

past_none : {y : Found Shape} → y ≡ nothing → past_run y ≡ None
unfolding past_run
past_none e = rw e

past_found : {y : Found Shape} (t : Shape) (q : ℕ) → y ≡ found t q → past_run y ≡ Some q
unfolding past_run
past_found t q e = rw e

module _ (s : List ℕ) (n m p : ℕ) where
  module _ (h : m ≡ 0 → ⊥) where
    suc_inside : m ≡ suc (m - 1)
    suc_inside = omega arith

    pub end_first : None ≡ past_run (run_at s n (m - 1) p) → past_run (run_at s n m p) ≡ None
    end_first e = go (run_at s n (m - 1) p) refl
      where
        go : (y : Found Shape) → run_at s n (m - 1) p ≡ y → past_run (run_at s n m p) ≡ None
        go nothing f = past_none (ap (λ k. run_at s n k p) suc_inside ∙ run_first s n (m - 1) p f)
        go (found t q) f = let z : ◌≡◌ {A = Option ℕ} None (Some q) = e ∙ past_found t q f in cc

    pub end_second : (middle : ℕ) → Some middle ≡ past_run (run_at s n (m - 1) p) →
        past_run (run_at s n m p) ≡ past_run (run_at s n (m - 1) middle)
    end_second middle e = first (run_at s n (m - 1) p) refl
      where
        second : (a : Shape) → run_at s n (m - 1) p ≡ found a middle → (y : Found Shape) → run_at s n (m - 1) middle ≡ y →
            past_run (run_at s n m p) ≡ past_run y
        second a g nothing i = past_none (ap (λ l. run_at s n l p) suc_inside ∙ run_second s n (m - 1) p middle a g i) ∙ sym (past_none refl)
        second a g (found b o) i =
            past_found (halved a b) o (ap (λ l. run_at s n l p) suc_inside ∙ run_both s n (m - 1) p middle o a b g i) ∙ sym (past_found b o refl)

        first : (y : Found Shape) → run_at s n (m - 1) p ≡ y → past_run (run_at s n m p) ≡ past_run (run_at s n (m - 1) middle)
        first nothing g = let z : ◌≡◌ {A = Option ℕ} (Some middle) None = e ∙ past_none g in cc
        first (found a q) g =
            let z : ◌≡◌ {A = Option ℕ} (Some middle) (Some q) = e ∙ past_found a q g in
            let w : q ≡ middle = cc in
            second a (g ∙ ap (found a) w) (run_at s n (m - 1) middle) refl

  module _ (z : m ≡ 0) where
    outer : run_at s n m p ≡ run_at s n 0 p
    outer = ap (λ l. run_at s n l p) z

    pub end_past : length s ≤ p → past_run (run_at s n m p) ≡ None
    end_past h =
        let e = get_or-eq_default s 0 h in
        past_none (outer ∙ run_other s n p (λ q. omega arith) (λ q. omega arith) (λ q. omega arith))

    pub end_deep : get_or s p 0 ≡ part_symbol → n ≡ 0 → past_run (run_at s n m p) ≡ None
    end_deep e h = past_none (outer ∙ ap (λ l. run_at s l 0 p) h ∙ run_deep s p e)

    parted_run : get_or s p 0 ≡ part_symbol → 1 ≤ n → run_at s n m p ≡ run_at s (n - 1) 3 (p + 1)
    parted_run e h =
        let w : n ≡ suc (n - 1) = omega arith in
        let v : suc p ≡ p + 1 = omega arith in
        outer ∙ ap (λ l. run_at s l 0 p) w ∙ run_parted s (n - 1) p e ∙ ap (run_at s (n - 1) 3) v

    pub end_parted : get_or s p 0 ≡ part_symbol → 1 ≤ n → past_run (run_at s n m p) ≡ past_run (run_at s (n - 1) 3 (p + 1))
    end_parted e h = ap past_run (parted_run e h)

    solid_run : (c : Colour) → get_or s p 0 ≡ solid_symbol c → run_at s n m p ≡ found (leaf c) (p + 1)
    solid_run c e = let v : suc p ≡ p + 1 = omega arith in outer ∙ run_solid s n p c e ∙ ap (found (leaf c)) v

    pub end_full : get_or s p 0 ≡ 70 → past_run (run_at s n m p) ≡ Some (p + 1)
    end_full e = past_found (leaf Black) (p + 1) (solid_run Black e)

    pub end_empty : get_or s p 0 ≡ 69 → past_run (run_at s n m p) ≡ Some (p + 1)
    end_empty e = past_found (leaf White) (p + 1) (solid_run White e)

    pub end_other : (get_or s p 0 ≡ 80 → ⊥) → (get_or s p 0 ≡ 70 → ⊥) → (get_or s p 0 ≡ 69 → ⊥) → past_run (run_at s n m p) ≡ None
    end_other h k l = past_none (outer ∙ run_other s n p h k l)

pub end_falls : (n m t : ℕ) → 4 * n + m ≡ t → (m ≡ 0 → ⊥) → 4 * n + (m - 1) < t
end_falls n m t e h = omega arith

-- ---- `lay_run`

pub piece_eq : {h h' : Option ℕ} {n n' e e' : ℕ} → h ≡ h' → n ≡ n' → e ≡ e' →
    ◌≡◌ {A = Piece} (record { held = h; next = n; end = e }) (record { held = h'; next = n'; end = e' })
piece_eq p q r = λ i. record { held = p i; next = q i; end = r i }

-- two parts that hold back the same symbol are leaves of one colour
held_alike : (a b : Shape) → is_same (held_leaf a) (held_leaf b) ≡ is_alike (leaf_symbol a) (leaf_symbol b)
unfolding held_leaf leaf_symbol is_same is_alike
held_alike (leaf Black) (leaf Black) = refl
held_alike (leaf Black) (leaf White) = refl
held_alike (leaf White) (leaf Black) = refl
held_alike (leaf White) (leaf White) = refl
held_alike (leaf Black) (halved x y) = refl
held_alike (leaf White) (halved x y) = refl
held_alike (halved x y) b = refl

-- what is written of a symbol that is held back
held_written : (a : Shape) → unwrap_or (held_leaf a) 0 ≡ leaf_symbol a
unfolding held_leaf leaf_symbol
held_written (leaf c) = refl
held_written (halved x y) = refl

pub laid_filled : (o : List ℕ) (a : Shape) → filled (laid o 0 a) 0 1 (held_leaf a) ≡ sets o 0 (symbols a)
unfolding filled held_leaf laid symbols
laid_filled o (leaf c) = refl
laid_filled o (halved x y) = refl

-- an octree that is no `P` is a solid
stands_solid : {s : List ℕ} {n p : ℕ} {o : Octree} {q : ℕ} → Stands s n p o q → (get_or s p 0 ≡ 80 → ⊥) → (c : Colour) × (get_or s p 0 ≡ solid_symbol c)
stands_solid (solid_stands {c = c} e) k = (c, e)
stands_solid (parted_stands e sa sb sc sd se sf sg sh) k = absurd (k e)

-- what is told of a run that is found
pub told : (to : ℕ) {r : Piece} {y : Found Shape} (t : Shape) (q : ℕ) → y ≡ found t q → r ≡ import_piece to y →
    (r.held ≡ held_leaf (merged t)) × (r.next ≡ q) × (r.end ≡ to + size (merged t))
unfolding import_piece
told to {r} {y} t q e f =
    let g : r ≡ import_piece to (found t q) = f ∙ ap (import_piece to) e in
    (ap (λ (x : Piece). x.held) g, ap (λ (x : Piece). x.next) g, ap (λ (x : Piece). x.end) g)

tells : (to : ℕ) {h : Option ℕ} {n e : ℕ} {y : Found Shape} (t : Shape) (q : ℕ) → y ≡ found t q → h ≡ held_leaf (merged t) → n ≡ q → e ≡ to + size (merged t) →
    ◌≡◌ {A = Piece} (record { held = h; next = n; end = e }) (import_piece to y)
unfolding import_piece
tells to t q e f g h = piece_eq f g h ∙ ap (import_piece to) (sym e)

pub leaves : (out : List ℕ) (to : ℕ) {y : Found Shape} (t : Shape) (q : ℕ) → y ≡ found t q → laid out to (merged t) ≡ import_room out to y
unfolding import_room
leaves out to t q e = ap (import_room out to) (sym e)

module _ {s : List ℕ} {n m p to : ℕ} (g : Importing s n m p to) where
  pub import_fits : to + 1 < 2 ^ 64
  import_fits = omega (arith, g.short, size_positive g.shape)

  -- a run of one octree
  module _ (z : m ≡ 0) where
    pub import_inside : p < length s
    import_inside = let w = run_there s n m p g.shape g.past g.there in omega (arith, w.0, w.1)

    pub import_next : length s < 2 ^ 64 → p + 1 < 2 ^ 64
    import_next h = omega (arith, import_inside)

    pub import_left : get_or s p 0 ≡ 80 → 1 ≤ n
    import_left e = go n refl
      where
        go : (l : ℕ) → n ≡ l → 1 ≤ n
        go zero f =
            let h : nothing ≡ found g.shape g.past = sym (outer s n m p z ∙ ap (λ l. run_at s l 0 p) f ∙ run_deep s p e) ∙ g.there in
            let y : ◌≡◌ {A = ℕ} 0 1 = cc in
            absurd (omega arith)
        go (suc l) f = omega arith

    module _ (e : get_or s p 0 ≡ 80) where
      pub parted_asks : Importing s (n - 1) 3 (p + 1) to
      parted_asks =
          record { shape = g.shape; past = g.past; there = sym (parted_run s n m p z e (import_left e)) ∙ g.there; short = g.short }

      pub parted_tells : {r : Piece} → r ≡ import_piece to (run_at s (n - 1) 3 (p + 1)) → r ≡ import_piece to (run_at s n m p)
      parted_tells f = f ∙ ap (import_piece to) (sym (parted_run s n m p z e (import_left e)))

      pub parted_leaves : (o : List ℕ) {o' : List ℕ} → o' ≡ import_room o to (run_at s (n - 1) 3 (p + 1)) → o' ≡ import_room o to (run_at s n m p)
      parted_leaves o f = f ∙ ap (import_room o to) (sym (parted_run s n m p z e (import_left e)))

      pub parted_falls : (t : ℕ) → 4 * n + m ≡ t → 4 * (n - 1) + 3 < t
      parted_falls t f = omega (arith, import_left e)

    module _ (k : get_or s p 0 ≡ 80 → ⊥) where
      one_solid : (c : Colour) × (get_or s p 0 ≡ solid_symbol c)
      one_solid = go (octree_at s n p) refl
        where
          go : (y : Found Octree) → octree_at s n p ≡ y → (c : Colour) × (get_or s p 0 ≡ solid_symbol c)
          go nothing f =
              let h : nothing ≡ found g.shape g.past = sym (outer s n m p z ∙ run_none s n p ∙ ap (as_found shape_of) f ∙ none_found) ∙ g.there in
              let y : ◌≡◌ {A = ℕ} 0 1 = cc in
              absurd (omega arith)
          go (found o q) f = stands_solid (stands s n p o q f) k

      pub solid_tells : {h : ℕ} → h ≡ leaf_of (get_or s p 0) → ◌≡◌ {A = Piece} (record { held = Some h; next = p + 1; end = to + 1 }) (import_piece to (run_at s n m p))
      unfolding merged held_leaf size
      solid_tells f =
          let w = one_solid in
          tells to (leaf w.0) (p + 1) (solid_run s n m p z w.0 w.1) (ap Some (f ∙ leaf_is w.0 (get_or s p 0) w.1)) refl refl

      pub solid_leaves : (o : List ℕ) → o ≡ import_room o to (run_at s n m p)
      unfolding merged laid
      solid_leaves o =
          let w = one_solid in
          leaves o to (leaf w.0) (p + 1) (solid_run s n m p z w.0 w.1)

  -- a run of two halves
  module _ (h : m ≡ 0 → ⊥) where
    again : run_at s n (suc (m - 1)) p ≡ found g.shape g.past
    again = let w : suc (m - 1) ≡ m = omega arith in ap (λ l. run_at s n l p) w ∙ g.there

    abbrev low : Shape
    low = (run_halves s n (m - 1) p g.shape g.past again).0.0

    abbrev high : Shape
    high = (run_halves s n (m - 1) p g.shape g.past again).0.1

    abbrev between : ℕ
    between = (run_halves s n (m - 1) p g.shape g.past again).1.middle

    low_there : run_at s n (m - 1) p ≡ found low between
    low_there = (run_halves s n (m - 1) p g.shape g.past again).1.first

    high_there : run_at s n (m - 1) between ≡ found high g.past
    high_there = (run_halves s n (m - 1) p g.shape g.past again).1.second

    whole : g.shape ≡ halved low high
    whole = (run_halves s n (m - 1) p g.shape g.past again).2

    all_there : run_at s n m p ≡ found (halved low high) g.past
    all_there = g.there ∙ ap (λ t. found t g.past) whole

    sizes : size g.shape ≡ suc (size low + size high)
    unfolding size
    sizes = ap size whole

    pub low_asks : Importing s n (m - 1) p (to + 1)
    low_asks = record { shape = low; past = between; there = low_there; short = omega (arith, g.short, sizes) }

    module _ {below : Piece} (e : below ≡ import_piece (to + 1) (run_at s n (m - 1) p)) where
      below_told : (below.held ≡ held_leaf (merged low)) × (below.next ≡ between) × (below.end ≡ to + 1 + size (merged low))
      below_told = told (to + 1) low between low_there e

      above_there : run_at s n (m - 1) below.next ≡ found high g.past
      above_there = ap (run_at s n (m - 1)) below_told.1 ∙ high_there

      pub high_asks : Importing s n (m - 1) below.next below.end
      high_asks = record {
        shape = high;
        past = g.past;
        there = above_there;
        short = omega (arith, g.short, sizes, below_told.2, merged_size low);
      }

      module _ {above : Piece} (f : above ≡ import_piece below.end (run_at s n (m - 1) below.next)) (b : Bool)
          (i : b ≡ is_same below.held above.held) where
        above_told : (above.held ≡ held_leaf (merged high)) × (above.next ≡ g.past) × (above.end ≡ below.end + size (merged high))
        above_told = told below.end high g.past above_there f

        test : (c : Bool) → b ≡ c → is_alike (leaf_symbol (merged low)) (leaf_symbol (merged high)) ≡ c
        test c k = sym (held_alike (merged low) (merged high)) ∙ rw (← below_told.0, ← above_told.0) (sym i ∙ k)

        module _ (k : b ≡ true) where
          same : (c : Colour) × (merged low ≡ leaf c) × (merged high ≡ leaf c) × (merged (halved low high) ≡ leaf c)
          same = merged_same low high (test true k)

          pub alike_tells : ◌≡◌ {A = Piece} (record { held = above.held; next = above.next; end = to + 1 }) (import_piece to (run_at s n m p))
          unfolding size
          alike_tells =
              tells to (halved low high) g.past all_there (above_told.0 ∙ ap held_leaf (same.2 ∙ sym same.3)) above_told.1
              (ap (λ t. to + size t) (sym same.3))

          pub alike_leaves : (o o₁ : List ℕ) {o₂ : List ℕ} → o₁ ≡ import_room o (to + 1) (run_at s n (m - 1) p) →
              o₂ ≡ import_room o₁ below.end (run_at s n (m - 1) below.next) → o₂ ≡ import_room o to (run_at s n m p)
          alike_leaves o o₁ {o₂} u v =
              v
              ∙ sym (leaves o₁ below.end high g.past above_there)
              ∙ leaf_laid o₁ below.end same.0 same.2
              ∙ u
              ∙ sym (leaves o (to + 1) low between low_there)
              ∙ leaf_laid o (to + 1) same.0 same.1
              ∙ sym (leaf_laid o to same.0 same.3)
              ∙ leaves o to (halved low high) g.past all_there

        module _ (k : b ≡ false) where
          apart : merged (halved low high) ≡ halved (merged low) (merged high)
          apart = merged_apart low high (test false k)

          pub apart_tells : ◌≡◌ {A = Piece} (record { held = None; next = above.next; end = above.end }) (import_piece to (run_at s n m p))
          unfolding size held_leaf
          apart_tells =
              tells to (halved low high) g.past all_there (sym (ap held_leaf apart)) above_told.1
              (omega (arith, above_told.2, below_told.2, ap size apart))

          pub apart_leaves : (o o₁ o₂ : List ℕ) {o₃ : List ℕ} → o₁ ≡ import_room o (to + 1) (run_at s n (m - 1) p) →
              o₂ ≡ import_room o₁ below.end (run_at s n (m - 1) below.next) →
              o₃ ≡ joined_halves o₂ to (unwrap_or below.held 0) below.end (unwrap_or above.held 0) → o₃ ≡ import_room o to (run_at s n m p)
          apart_leaves o o₁ o₂ {o₃} u v w =
              apart_laid o o₁ o₂ o₃ to below.end _ _ (merged low) (merged high)
              (u ∙ sym (leaves o (to + 1) low between low_there)) (v ∙ sym (leaves o₁ below.end high g.past above_there)) below_told.2
              (ap (λ x. unwrap_or x 0) below_told.0 ∙ held_written (merged low)) (ap (λ x. unwrap_or x 0) above_told.0 ∙ held_written (merged high)) w
              ∙ ap (laid o to) (sym apart)
              ∙ leaves o to (halved low high) g.past all_there

pub ruleset run_laws = (
  rules,
  import_fits,
  import_inside,
  import_next,
  import_left,
  parted_asks,
  parted_tells,
  parted_leaves,
  parted_falls,
  solid_tells,
  solid_leaves,
  low_asks,
  high_asks,
  alike_tells,
  alike_leaves,
  apart_tells,
  apart_leaves,
  end_falls,
)
