-- Octrees: eight sons that are solids of one colour, reduction, and reading: what is read at a place stands there, symbol for symbol, and what stands there is
-- read.
use mathlib.Core.Path.{◌≡◌, refl, sym, ap, ap₂, subst, ◌∙◌}
use mathlib.Core.Bool.{Bool, true, false, cond, ◌&&◌}
use mathlib.Core.List.{List, [], ◌∷◌, ◌++◌, append_assoc, append-nil}
use Prim.Native.Nat.{ℕ, zero, suc, ◌+◌, ◌-◌, ◌≤◌, ◌<◌}
use native.Mathlib.Omega.{arith}
use native.Mathlib.Decide.{ℕ_discrete}
use borrow.Author.Tests.{eq-eqb, ne_eqb}
use lib.ListN.{length, get_or, take, drop, length-append}
use lib.Seq.{take-add, drop-drop, drop-cons, get_or-drop, drop_at, take-length}
use Rattle.lemmas.proofs.Sums.{and_left, and_right}
use Rattle.bintree.specs.declared.Colour.{Colour}
use Rattle.bintree.specs.declared.Colour.TheVariants.{White, Black}
use Rattle.bintree.proofs.Reading.{within}
use Rattle.octree.specs.Octree.{Octree, solid, parted, part_symbol, solid_symbol, octree_symbols, octree_size, AtMost, solid_most, parted_most}
use Rattle.octree.specs.Octree.{Found, nothing, found, with_second, after_first, two_at, Two, parted_of, solid_at, octree_at, wholly, octree_on}
use Rattle.octree.specs.Octree.{is_solid, are_solid, join_sons, reduce, Reduced, solid_reduced, parted_reduced}

-- ---- eight solids of one colour

pub solid_is : (c : Colour) (o : Octree) → is_solid c o ≡ true → o ≡ solid c
unfolding is_solid
solid_is Black (solid Black) e = refl
solid_is Black (solid White) e = let z : ◌≡◌ {A = ℕ} 0 1 = cc in absurd (omega arith)
solid_is White (solid Black) e = let z : ◌≡◌ {A = ℕ} 0 1 = cc in absurd (omega arith)
solid_is White (solid White) e = refl
solid_is c (parted _ _ _ _ _ _ _ _) e = let z : ◌≡◌ {A = ℕ} 0 1 = cc in absurd (omega arith)

-- a cube of eight sons is one solid, or they are not all of one colour
pub data Cube : Octree → Octree → Octree → Octree → Octree → Octree → Octree → Octree → Octree → Type 0 where
  alike : (k : Colour) → Cube (solid k) (solid k) (solid k) (solid k) (solid k) (solid k) (solid k) (solid k) (solid k)
  apart : {a b c d e f g h : Octree} → are_solid Black a b c d e f g h ≡ false → are_solid White a b c d e f g h ≡ false →
      Cube a b c d e f g h (parted a b c d e f g h)

module _ {a b c d e f g h : Octree} where
  pub all_alike : (k : Colour) → are_solid k a b c d e f g h ≡ true → Cube a b c d e f g h (solid k)
  unfolding are_solid
  all_alike k z =
      let h7 = and_left (is_solid k a && is_solid k b && is_solid k c && is_solid k d && is_solid k e && is_solid k f && is_solid k g) (is_solid k h) z in
      let h6 = and_left (is_solid k a && is_solid k b && is_solid k c && is_solid k d && is_solid k e && is_solid k f) (is_solid k g) h7 in
      let h5 = and_left (is_solid k a && is_solid k b && is_solid k c && is_solid k d && is_solid k e) (is_solid k f) h6 in
      let h4 = and_left (is_solid k a && is_solid k b && is_solid k c && is_solid k d) (is_solid k e) h5 in
      let h3 = and_left (is_solid k a && is_solid k b && is_solid k c) (is_solid k d) h4 in
      let h2 = and_left (is_solid k a && is_solid k b) (is_solid k c) h3 in
      let ea = solid_is k a (and_left (is_solid k a) (is_solid k b) h2) in
      let eb = solid_is k b (and_right (is_solid k a) (is_solid k b) h2) in
      let ec = solid_is k c (and_right (is_solid k a && is_solid k b) (is_solid k c) h3) in
      let ed = solid_is k d (and_right (is_solid k a && is_solid k b && is_solid k c) (is_solid k d) h4) in
      let ee = solid_is k e (and_right (is_solid k a && is_solid k b && is_solid k c && is_solid k d) (is_solid k e) h5) in
      let ef = solid_is k f (and_right (is_solid k a && is_solid k b && is_solid k c && is_solid k d && is_solid k e) (is_solid k f) h6) in
      let eg = solid_is k g (and_right (is_solid k a && is_solid k b && is_solid k c && is_solid k d && is_solid k e && is_solid k f) (is_solid k g) h7) in
      let eh = solid_is k h (and_right (is_solid k a && is_solid k b && is_solid k c && is_solid k d && is_solid k e && is_solid k f && is_solid k g)
      (is_solid k h) z) in
      rw (ea, eb, ec, ed, ee, ef, eg, eh) (alike k)

pub cube : (a b c d e f g h : Octree) → Cube a b c d e f g h (join_sons a b c d e f g h)
unfolding join_sons
cube a b c d e f g h = black (are_solid Black a b c d e f g h) refl
  where
    white : (t : Bool) → are_solid White a b c d e f g h ≡ t → are_solid Black a b c d e f g h ≡ false →
        Cube a b c d e f g h (cond (are_solid Black a b c d e f g h) (solid Black) (cond (are_solid White a b c d e f g h) (solid White)
        (parted a b c d e f g h)))
    white true w n = rw (n, w) (all_alike White w)
    white false w n = rw (n, w) (apart n w)

    black : (t : Bool) → are_solid Black a b c d e f g h ≡ t →
        Cube a b c d e f g h (cond (are_solid Black a b c d e f g h) (solid Black) (cond (are_solid White a b c d e f g h) (solid White)
        (parted a b c d e f g h)))
    black true n = rw n (all_alike Black n)
    black false n = white (are_solid White a b c d e f g h) refl n

-- ---- reduction

-- THEOREM: a reduced octree is reduced, and is its own reduction
cube_reduced : {a b c d e f g h j : Octree} → Cube a b c d e f g h j → Reduced a → Reduced b → Reduced c → Reduced d → Reduced e → Reduced f → Reduced g →
    Reduced h → Reduced j
cube_reduced (alike k) ra rb rc rd re rf rg rh = solid_reduced
cube_reduced (apart x y) ra rb rc rd re rf rg rh = parted_reduced x y ra rb rc rd re rf rg rh

pub reduce_reduced : (o : Octree) → Reduced (reduce o)
unfolding reduce
reduce_reduced (solid c) = solid_reduced
reduce_reduced (parted a b c d e f g h) =
    cube_reduced (cube (reduce a) (reduce b) (reduce c) (reduce d) (reduce e) (reduce f) (reduce g) (reduce h))
    (reduce_reduced a) (reduce_reduced b) (reduce_reduced c) (reduce_reduced d) (reduce_reduced e) (reduce_reduced f) (reduce_reduced g) (reduce_reduced h)

join_apart : (a b c d e f g h : Octree) → are_solid Black a b c d e f g h ≡ false → are_solid White a b c d e f g h ≡ false →
    join_sons a b c d e f g h ≡ parted a b c d e f g h
unfolding join_sons
join_apart a b c d e f g h x y = rw (x, y)

pub reduced_self : {o : Octree} → Reduced o → reduce o ≡ o
unfolding reduce
reduced_self solid_reduced = refl
reduced_self (parted_reduced {a} {b} {c} {d} {e} {f} {g} {h} x y ra rb rc rd re rf rg rh) =
    rw (reduced_self ra, reduced_self rb, reduced_self rc, reduced_self rd, reduced_self re, reduced_self rf, reduced_self rg, reduced_self rh)
    (join_apart a b c d e f g h x y)

-- it goes no deeper
cube_most : {n : ℕ} {a b c d e f g h j : Octree} → Cube a b c d e f g h j → AtMost n a → AtMost n b → AtMost n c → AtMost n d → AtMost n e → AtMost n f →
    AtMost n g → AtMost n h → AtMost (suc n) j
cube_most (alike k) ma mb mc md me mf mg mh = solid_most
cube_most (apart x y) ma mb mc md me mf mg mh = parted_most ma mb mc md me mf mg mh

pub reduce_most : {n : ℕ} {o : Octree} → AtMost n o → AtMost n (reduce o)
unfolding reduce
reduce_most solid_most = solid_most
reduce_most (parted_most {n} {a} {b} {c} {d} {e} {f} {g} {h} ma mb mc md me mf mg mh) =
    cube_most (cube (reduce a) (reduce b) (reduce c) (reduce d) (reduce e) (reduce f) (reduce g) (reduce h))
    (reduce_most ma) (reduce_most mb) (reduce_most mc) (reduce_most md) (reduce_most me) (reduce_most mf) (reduce_most mg) (reduce_most mh)

-- ---- reading: symbols

pub part_not_solid : (c : Colour) → solid_symbol c ≡ part_symbol → ⊥
part_not_solid Black e = omega arith
part_not_solid White e = omega arith

pub solid_not_zero : (c : Colour) → solid_symbol c ≡ 0 → ⊥
solid_not_zero Black e = omega arith
solid_not_zero White e = omega arith

solid_read : (c : Colour) (p : ℕ) → solid_at (solid_symbol c) p ≡ found (solid c) (suc p)
unfolding solid_at
solid_read Black p = refl
solid_read White p = refl

solid_other : (x p : ℕ) → (x ≡ solid_symbol Black → ⊥) → (x ≡ solid_symbol White → ⊥) → solid_at x p ≡ nothing
unfolding solid_at
solid_other x p h k = rw (ne_eqb x (solid_symbol Black) h, ne_eqb x (solid_symbol White) k)

module _ (s : List ℕ) where
  pub at_part : (n p : ℕ) → get_or s p 0 ≡ part_symbol → octree_at s (suc n) p ≡ parted_of (two_at (two_at (two_at (λ q. octree_at s n q))) (suc p))
  unfolding octree_at
  at_part n p e = rw (octree_at, eq-eqb (get_or s p 0) part_symbol e)

  pub at_other : (n p : ℕ) → (get_or s p 0 ≡ part_symbol → ⊥) → octree_at s n p ≡ solid_at (get_or s p 0) p
  unfolding octree_at
  at_other zero p h = refl
  at_other (suc n) p h = rw (octree_at, ne_eqb (get_or s p 0) part_symbol h)

  pub at_bottom : (p : ℕ) → octree_at s 0 p ≡ solid_at (get_or s p 0) p
  unfolding octree_at
  at_bottom p = refl

  pub at_solid : (n p : ℕ) (c : Colour) → get_or s p 0 ≡ solid_symbol c → octree_at s n p ≡ found (solid c) (suc p)
  at_solid n p c e = at_other n p (λ z. part_not_solid c (sym e ∙ z)) ∙ ap (λ x. solid_at x p) e ∙ solid_read c p

  pub at_none : (n p : ℕ) → (get_or s p 0 ≡ part_symbol → ⊥) → (get_or s p 0 ≡ solid_symbol Black → ⊥) → (get_or s p 0 ≡ solid_symbol White → ⊥) →
      octree_at s n p ≡ nothing
  at_none n p h k l = at_other n p h ∙ solid_other (get_or s p 0) p k l

  pub at_deep : (p : ℕ) → get_or s p 0 ≡ part_symbol → octree_at s 0 p ≡ nothing
  at_deep p e = at_bottom p ∙ ap (λ x. solid_at x p) e ∙ solid_other part_symbol p (λ z. omega arith) (λ z. omega arith)

-- ---- two, one straight after the other

pub two_found : {A : Type 0} (f : ℕ → Found A) (p q r : ℕ) (a b : A) → f p ≡ found a q → f q ≡ found b r → two_at f p ≡ found (a, b) r
unfolding after_first with_second
two_found f p q r a b e g = rw (e, after_first, g)

pub record Both {A : Type 0} (f : ℕ → Found A) (p : ℕ) (x : A × A) (r : ℕ) : Type 0 where
  pub middle : ℕ
  pub first : f p ≡ found x.0 middle
  pub second : f middle ≡ found x.1 r

pub found_two : {A : Type 0} (f : ℕ → Found A) (p r : ℕ) (x : A × A) → two_at f p ≡ found x r → Both f p x r
unfolding after_first with_second
found_two {A} f p r x e = go (f p) refl e
  where
    second : (a : A) (q : ℕ) → f p ≡ found a q → (y : Found A) → f q ≡ y → with_second a y ≡ found x r → Both f p x r
    second a q g nothing h i = let z : ◌≡◌ {A = ℕ} 0 1 = cc in absurd (omega arith)
    second a q g (found b m) h i =
        let t : ◌≡◌ {A = A × A} (a, b) x = cc in
        let k : m ≡ r = cc in
        record { middle = q; first = g ∙ ap (λ (z : A × A). found z.0 q) t; second = h ∙ ap₂ (λ (z : A × A) n. found z.1 n) t k }

    go : (y : Found A) → f p ≡ y → after_first f y ≡ found x r → Both f p x r
    go nothing g h = let z : ◌≡◌ {A = ℕ} 0 1 = cc in absurd (omega arith)
    go (found a q) g h = second a q g (f q) refl h

-- ---- an octree's symbols stand in s from a place on, up to another

pub data Stands (s : List ℕ) : ℕ → ℕ → Octree → ℕ → Type 0 where
  solid_stands : {n p : ℕ} {c : Colour} → get_or s p 0 ≡ solid_symbol c → Stands s n p (solid c) (suc p)
  parted_stands : {n p i j k l m o q r : ℕ} {a b c d e f g h : Octree} → get_or s p 0 ≡ part_symbol → Stands s n (suc p) a i → Stands s n i b j →
      Stands s n j c k → Stands s n k d l → Stands s n l e m → Stands s n m f o → Stands s n o g q → Stands s n q h r →
      Stands s (suc n) p (parted a b c d e f g h) r

-- what is read there stands there
solid_symbol_lem : (x p : ℕ) (o : Octree) (q : ℕ) → solid_at x p ≡ found o q → (c : Colour) × (x ≡ solid_symbol c) × (o ≡ solid c) × (q ≡ suc p)
solid_symbol_lem x p o q e = at_black (ℕ_discrete x (solid_symbol Black))
  where
    at_white : (x ≡ solid_symbol Black → ⊥) → Dec (x ≡ solid_symbol White) → (c : Colour) × (x ≡ solid_symbol c) × (o ≡ solid c) × (q ≡ suc p)
    at_white k (yes h) = let f : solid_at x p ≡ found (solid White) (suc p) = rw h (solid_read White p) in (White, h, (cc), (cc))
    at_white k (no h) = let f : solid_at x p ≡ nothing = solid_other x p k h in let z : ◌≡◌ {A = ℕ} 0 1 = cc in absurd (omega arith)

    at_black : Dec (x ≡ solid_symbol Black) → (c : Colour) × (x ≡ solid_symbol c) × (o ≡ solid c) × (q ≡ suc p)
    at_black (yes h) = let f : solid_at x p ≡ found (solid Black) (suc p) = rw h (solid_read Black p) in (Black, h, (cc), (cc))
    at_black (no h) = at_white h (ℕ_discrete x (solid_symbol White))

solid_as : (s : List ℕ) (n p : ℕ) (o : Octree) (q : ℕ) (c : Colour) → get_or s p 0 ≡ solid_symbol c → o ≡ solid c → q ≡ suc p → Stands s n p o q
solid_as s n p o q c h e f = rw (e, f) (solid_stands h)

solid_there : (s : List ℕ) (n p : ℕ) (o : Octree) (q : ℕ) → solid_at (get_or s p 0) p ≡ found o q → Stands s n p o q
solid_there s n p o q e = let w = solid_symbol_lem (get_or s p 0) p o q e in solid_as s n p o q w.0 w.1 w.2 w.3

pub stands : (s : List ℕ) (n p : ℕ) (o : Octree) (q : ℕ) → octree_at s n p ≡ found o q → Stands s n p o q
unfolding parted_of
stands s zero p o q e = solid_there s 0 p o q (sym (at_bottom s p) ∙ e)
stands s (suc n) p o q e = go (λ i a j h. stands s n i a j h) (ℕ_discrete (get_or s p 0) part_symbol)
  where
    sons : ((i : ℕ) (a : Octree) (j : ℕ) → octree_at s n i ≡ found a j → Stands s n i a j) → get_or s p 0 ≡ part_symbol →
        (y : Found (Two (Two (Two Octree)))) → two_at (two_at (two_at (λ i. octree_at s n i))) (suc p) ≡ y → parted_of y ≡ found o q → Stands s (suc n) p o q
    sons ih h nothing f g = let z : ◌≡◌ {A = ℕ} 0 1 = cc in absurd (omega arith)
    sons ih h (found (((a, b), (c, d)), ((e', f'), (g', h'))) r) f g =
        let w = found_two (two_at (two_at (λ i. octree_at s n i))) (suc p) r (((a, b), (c, d)), ((e', f'), (g', h'))) f in
        let x = found_two (two_at (λ i. octree_at s n i)) (suc p) w.middle ((a, b), (c, d)) w.first in
        let y = found_two (two_at (λ i. octree_at s n i)) w.middle r ((e', f'), (g', h')) w.second in
        let ab = found_two (λ i. octree_at s n i) (suc p) x.middle (a, b) x.first in
        let cd = found_two (λ i. octree_at s n i) x.middle w.middle (c, d) x.second in
        let ef = found_two (λ i. octree_at s n i) w.middle y.middle (e', f') y.first in
        let gh = found_two (λ i. octree_at s n i) y.middle r (g', h') y.second in
        let v : o ≡ parted a b c d e' f' g' h' = cc in
        let k : q ≡ r = cc in
        rw (v, k)
        (parted_stands h (ih (suc p) a ab.middle ab.first) (ih ab.middle b x.middle ab.second)
        (ih x.middle c cd.middle cd.first) (ih cd.middle d w.middle cd.second)
        (ih w.middle e' ef.middle ef.first) (ih ef.middle f' y.middle ef.second)
        (ih y.middle g' gh.middle gh.first) (ih gh.middle h' r gh.second))

    go : ((i : ℕ) (a : Octree) (j : ℕ) → octree_at s n i ≡ found a j → Stands s n i a j) → Dec (get_or s p 0 ≡ part_symbol) → Stands s (suc n) p o q
    go ih (no h) = solid_there s (suc n) p o q (sym (at_other s (suc n) p h) ∙ e)
    go ih (yes h) = sons ih h (two_at (two_at (two_at (λ i. octree_at s n i))) (suc p)) refl (sym (at_part s n p h) ∙ e)

-- and what stands there is read
pub stood : {s : List ℕ} {n p : ℕ} {o : Octree} {q : ℕ} → Stands s n p o q → octree_at s n p ≡ found o q
unfolding parted_of
stood {s} (solid_stands {n = n} {p = p} {c = c} e) = at_solid s n p c e
stood {s} (parted_stands {n = n} {p = p} {i} {j} {k} {l} {m} {o} {q} {r} {a} {b} {c} {d} {e} {f} {g} {h} x sa sb sc sd se sf sg sh) =
    let one = two_found (λ t. octree_at s n t) (suc p) i j a b (stood sa) (stood sb) in
    let two = two_found (λ t. octree_at s n t) j k l c d (stood sc) (stood sd) in
    let three = two_found (λ t. octree_at s n t) l m o e f (stood se) (stood sf) in
    let four = two_found (λ t. octree_at s n t) o q r g h (stood sg) (stood sh) in
    let low = two_found (two_at (λ t. octree_at s n t)) (suc p) j l (a, b) (c, d) one two in
    let high = two_found (two_at (λ t. octree_at s n t)) l o r (e, f) (g, h) three four in
    at_part s n p x ∙ ap parted_of (two_found (two_at (two_at (λ t. octree_at s n t))) (suc p) l r ((a, b), (c, d)) ((e, f), (g, h)) low high)

-- it has no more levels, and ends where its symbols do, inside s
pub stands_most : {s : List ℕ} {n p : ℕ} {o : Octree} {q : ℕ} → Stands s n p o q → AtMost n o
stands_most (solid_stands e) = solid_most
stands_most (parted_stands x sa sb sc sd se sf sg sh) =
    parted_most (stands_most sa) (stands_most sb) (stands_most sc) (stands_most sd) (stands_most se) (stands_most sf) (stands_most sg) (stands_most sh)

pub stands_past : {s : List ℕ} {n p : ℕ} {o : Octree} {q : ℕ} → Stands s n p o q → q ≡ p + octree_size o
unfolding octree_size
stands_past (solid_stands e) = omega arith
stands_past (parted_stands x sa sb sc sd se sf sg sh) =
    omega (arith, stands_past sa, stands_past sb, stands_past sc, stands_past sd, stands_past se, stands_past sf, stands_past sg, stands_past sh)

pub stands_inside : {s : List ℕ} {n p : ℕ} {o : Octree} {q : ℕ} → Stands s n p o q → q ≤ length s
stands_inside {s} (solid_stands {p = p} {c = c} e) = within s p (λ z. solid_not_zero c (sym e ∙ z))
stands_inside (parted_stands x sa sb sc sd se sf sg sh) = stands_inside sh

pub octree_some : (o : Octree) → 0 < octree_size o
unfolding octree_size
octree_some (solid c) = omega arith
octree_some (parted a b c d e f g h) = omega arith

pub length_octree : (o : Octree) → length (octree_symbols o) ≡ octree_size o
unfolding octree_symbols octree_size
length_octree (solid c) = refl
length_octree (parted a b c d e f g h) =
    ap suc
    (more (octree_symbols a) _ _ _ (length_octree a) (more (octree_symbols b) _ _ _ (length_octree b) (more (octree_symbols c) _ _ _ (length_octree c)
    (more (octree_symbols d) _ _ _ (length_octree d) (more (octree_symbols e) _ _ _ (length_octree e) (more (octree_symbols f) _ _ _ (length_octree f)
    (more (octree_symbols g) _ _ _ (length_octree g) (length_octree h))))))))
  where
    more : (l r : List ℕ) (m n : ℕ) → length l ≡ m → length r ≡ n → length (l ++ r) ≡ m + n
    more l r m n e f = length-append l r ∙ ap₂ (λ x y. x + y) e f

-- what is read there is all that stands there
joint : (s : List ℕ) (p q r : ℕ) (l m : List ℕ) → take (q - p) (drop p s) ≡ l → take (r - q) (drop q s) ≡ m → p ≤ q → q ≤ r → take (r - p) (drop p s) ≡ l ++ m
joint s p q r l m e f h k =
    let w : r - p ≡ (q - p) + (r - q) = omega arith in
    let v : p + (q - p) ≡ q = omega arith in
    ap (λ n. take n (drop p s)) w
    ∙ take-add (q - p) (r - q) (drop p s)
    ∙ ap₂ (λ x y. x ++ y) e (ap (take (r - q)) (drop-drop (q - p) p s ∙ ap (λ n. drop n s) v) ∙ f)

pub stands_on : {s : List ℕ} {n p : ℕ} {o : Octree} {q : ℕ} → Stands s n p o q → p ≤ q
stands_on {p = p} {o = o} w = omega (arith, stands_past w)

pub spells : {s : List ℕ} {n p : ℕ} {o : Octree} {q : ℕ} → Stands s n p o q → take (q - p) (drop p s) ≡ octree_symbols o
unfolding octree_symbols
spells {s} (solid_stands {n = n} {p = p} {c = c} e) =
    let h : p < length s = within s p (λ z. solid_not_zero c (sym e ∙ z)) in
    let w : suc p - p ≡ 1 = omega arith in
    rw (w, drop-cons s p 0 h, e)
spells {s} (parted_stands {n = n} {p = p} {i} {j} {k} {l} {m} {o} {q} {r} {a} {b} {c} {d} {e} {f} {g} {h} x sa sb sc sd se sf sg sh) =
    let u : p < length s = within s p (λ z. omega (arith, sym x ∙ z)) in
    let on₇ = stands_on sh in
    let on₆ : o ≤ r = omega (arith, stands_on sg, stands_on sh) in
    let on₅ : m ≤ r = omega (arith, stands_on sf, on₆) in
    let on₄ : l ≤ r = omega (arith, stands_on se, on₅) in
    let on₃ : k ≤ r = omega (arith, stands_on sd, on₄) in
    let on₂ : j ≤ r = omega (arith, stands_on sc, on₃) in
    let on₁ : i ≤ r = omega (arith, stands_on sb, on₂) in
    let on₀ : suc p ≤ r = omega (arith, stands_on sa, on₁) in
    let w : r - p ≡ suc (r - suc p) = omega arith in
    let t₇ = spells sh in
    let t₆ = joint s o q r (octree_symbols g) (octree_symbols h) (spells sg) t₇ (stands_on sg) on₇ in
    let t₅ = joint s m o r (octree_symbols f) (octree_symbols g ++ octree_symbols h) (spells sf) t₆ (stands_on sf) on₆ in
    let t₄ = joint s l m r (octree_symbols e) (octree_symbols f ++ (octree_symbols g ++ octree_symbols h)) (spells se) t₅ (stands_on se) on₅ in
    let t₃ = joint s k l r (octree_symbols d) (octree_symbols e ++ (octree_symbols f ++ (octree_symbols g ++ octree_symbols h))) (spells sd) t₄ (stands_on sd) on₄ in
    let t₂ = joint s j k r (octree_symbols c) (octree_symbols d ++ (octree_symbols e ++ (octree_symbols f ++ (octree_symbols g ++ octree_symbols h)))) (spells sc) t₃
    (stands_on sc) on₃ in
    let t₁ = joint s i j r (octree_symbols b)
    (octree_symbols c ++ (octree_symbols d ++ (octree_symbols e ++ (octree_symbols f ++ (octree_symbols g ++ octree_symbols h))))) (spells sb) t₂
    (stands_on sb) on₂ in
    let t₀ = joint s (suc p) i r (octree_symbols a)
    (octree_symbols b ++ (octree_symbols c ++ (octree_symbols d ++ (octree_symbols e ++ (octree_symbols f ++ (octree_symbols g ++ octree_symbols h)))))) (spells sa) t₁
    (stands_on sa) on₁ in
    rw (w, drop-cons s p 0 u, x, t₀)

-- an octree's own symbols, whatever follows, stand where they begin
first_symbol : (s : List ℕ) (p x : ℕ) (r : List ℕ) → drop p s ≡ x ∷ r → get_or s p 0 ≡ x
first_symbol s p x r e = let z : p + 0 ≡ p = omega arith in ap (λ k. get_or s k 0) (sym z) ∙ sym (get_or-drop p s 0 0) ∙ ap (λ l. get_or l 0 0) e

after_symbol : (s : List ℕ) (p x : ℕ) (r : List ℕ) → drop p s ≡ x ∷ r → drop (suc p) s ≡ r
after_symbol s p x r e = let z : p + 1 ≡ suc p = omega arith in ap (λ k. drop k s) (sym z) ∙ sym (drop-drop 1 p s) ∙ ap (drop 1) e

after_octree : (s : List ℕ) (p : ℕ) (o : Octree) (r : List ℕ) → drop p s ≡ octree_symbols o ++ r → drop (p + octree_size o) s ≡ r
after_octree s p o r e = sym (drop-drop (octree_size o) p s) ∙ ap (drop (octree_size o)) e ∙ drop_at (octree_symbols o) r (octree_size o) (length_octree o)

past_all : (p a b c d e f g h : ℕ) → suc p + a + b + c + d + e + f + g + h ≡ p + suc (a + (b + (c + (d + (e + (f + (g + h)))))))
past_all p a b c d e f g h = omega arith

pub spelt : (s : List ℕ) (p : ℕ) {n : ℕ} {o : Octree} (rest : List ℕ) → AtMost n o → drop p s ≡ octree_symbols o ++ rest → Stands s n p o (p + octree_size o)
unfolding octree_symbols octree_size
spelt s p rest (solid_most {n = n} {c = c}) e =
    let w : p + 1 ≡ suc p = omega arith in rw w (solid_stands (first_symbol s p (solid_symbol c) rest e))
spelt s p rest (parted_most {n} {a} {b} {c} {d} {e} {f} {g} {h} ma mb mc md me mf mg mh) z =
    let r₇ = octree_symbols h ++ rest in
    let r₆ = octree_symbols g ++ r₇ in
    let r₅ = octree_symbols f ++ r₆ in
    let r₄ = octree_symbols e ++ r₅ in
    let r₃ = octree_symbols d ++ r₄ in
    let r₂ = octree_symbols c ++ r₃ in
    let r₁ = octree_symbols b ++ r₂ in
    let all = octree_symbols a
    ++ (octree_symbols b
    ++ (octree_symbols c ++ (octree_symbols d ++ (octree_symbols e ++ (octree_symbols f ++ (octree_symbols g ++ octree_symbols h)))))) in
    let p₀ = suc p in
    let p₁ = p₀ + octree_size a in
    let p₂ = p₁ + octree_size b in
    let p₃ = p₂ + octree_size c in
    let p₄ = p₃ + octree_size d in
    let p₅ = p₄ + octree_size e in
    let p₆ = p₅ + octree_size f in
    let p₇ = p₆ + octree_size g in
    let z₀ : drop p₀ s ≡ octree_symbols a ++ r₁ = after_symbol s p part_symbol (all ++ rest) z ∙ simp append_assoc in
    let z₁ : drop p₁ s ≡ r₁ = after_octree s p₀ a r₁ z₀ in
    let z₂ : drop p₂ s ≡ r₂ = after_octree s p₁ b r₂ z₁ in
    let z₃ : drop p₃ s ≡ r₃ = after_octree s p₂ c r₃ z₂ in
    let z₄ : drop p₄ s ≡ r₄ = after_octree s p₃ d r₄ z₃ in
    let z₅ : drop p₅ s ≡ r₅ = after_octree s p₄ e r₅ z₄ in
    let z₆ : drop p₆ s ≡ r₆ = after_octree s p₅ f r₆ z₅ in
    let z₇ : drop p₇ s ≡ r₇ = after_octree s p₆ g r₇ z₆ in
    subst (Stands s (suc n) p (parted a b c d e f g h))
    (past_all p (octree_size a) (octree_size b) (octree_size c) (octree_size d) (octree_size e) (octree_size f) (octree_size g) (octree_size h))
    (parted_stands (first_symbol s p part_symbol (all ++ rest) z) (spelt s p₀ r₁ ma z₀) (spelt s p₁ r₂ mb z₁) (spelt s p₂ r₃ mc z₂) (spelt s p₃ r₄ md z₃)
    (spelt s p₄ r₅ me z₄) (spelt s p₅ r₆ mf z₅) (spelt s p₆ r₇ mg z₆) (spelt s p₇ rest mh z₇))

-- ---- all of some bytes

module _ (n : ℕ) (s : List ℕ) where
  pub on_nothing : octree_at s n 0 ≡ nothing → octree_on n s ≡ nothing
  unfolding octree_on wholly
  on_nothing e = rw e

  pub on_found : (o : Octree) (q : ℕ) → octree_at s n 0 ≡ found o q → q ≡ length s → octree_on n s ≡ found o q
  unfolding octree_on wholly
  on_found o q e k = rw (e, wholly, eq-eqb q (length s) k)

  pub on_rest : (o : Octree) (q : ℕ) → octree_at s n 0 ≡ found o q → (q ≡ length s → ⊥) → octree_on n s ≡ nothing
  unfolding octree_on wholly
  on_rest o q e k = rw (e, wholly, ne_eqb q (length s) k)

  pub on_at : (o : Octree) (q : ℕ) → octree_on n s ≡ found o q → (octree_at s n 0 ≡ found o q) × (q ≡ length s)
  unfolding octree_on wholly
  on_at o q e = go (octree_at s n 0) e
    where
      go : (y : Found Octree) → wholly (length s) y ≡ found o q → (y ≡ found o q) × (q ≡ length s)
      go nothing f = let z : ◌≡◌ {A = ℕ} 0 1 = cc in absurd (omega arith)
      go (found x r) f = sized (ℕ_discrete r (length s))
        where
          sized : Dec (r ≡ length s) → (found x r ≡ found o q) × (q ≡ length s)
          sized (yes k) =
              let g : found x r ≡ found o q = rw (eq-eqb r (length s) k) at f in
              let i : r ≡ q = cc in
              (g, sym i ∙ k)
          sized (no k) =
              let g : nothing ≡ found o q = rw (ne_eqb r (length s) k) at f in
              let z : ◌≡◌ {A = ℕ} 0 1 = cc in
              absurd (omega arith)

-- THEOREM: what an octree's symbols say is the octree, and symbols that say an octree are its own
pub reads_back : {n : ℕ} {o : Octree} → AtMost n o → octree_on n (octree_symbols o) ≡ found o (length (octree_symbols o))
reads_back {n} {o} m =
    let w = spelt (octree_symbols o) 0 [] m (sym (append-nil (octree_symbols o))) in
    let e : 0 + octree_size o ≡ length (octree_symbols o) = omega (arith, length_octree o) in
    on_found n (octree_symbols o) o (length (octree_symbols o)) (stood w ∙ ap (found o) e) refl

pub read_is : (n : ℕ) (s : List ℕ) (o : Octree) (q : ℕ) → octree_on n s ≡ found o q → (octree_symbols o ≡ s) × AtMost n o
read_is n s o q e =
    let w = on_at n s o q e in
    let d = stands s n 0 o q w.0 in
    let z : q - 0 ≡ length s = omega (arith, w.1) in
    (sym (spells d) ∙ ap (λ k. take k s) z ∙ take-length s, stands_most d)
