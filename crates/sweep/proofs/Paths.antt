-- The path to a voxel, by the order of the axes: at each level a bit of the place along its axis, the highest first. Leaving an axis out leaves its levels
-- out; and a path over the path to a voxel is the path to a voxel over it, whose place is read from the halves at levels of the axis.
use mathlib.Core.Path.{◌≡◌, refl, sym, ap, ap₂, ◌∙◌}
use mathlib.Core.Bool.{cond}
use mathlib.Core.List.{List, [], ◌∷◌}
use Prim.Native.Nat.{ℕ, zero, suc, ◌+◌, ◌-◌, ◌*◌, ◌/◌, ◌%◌, ◌^◌, ◌≤◌, ◌<◌}
use native.Mathlib.Omega.{arith}
use native.Mathlib.Decide.{ℕ_discrete, dec_lt}
use native.Mathlib.Nat.{add-mul-div_right, div-eq_of_lt, pow-succ', le_refl}
use lib.Dec.{eqb}
use lib.ListN.{get_or, take, drop, take-append-drop, drop_of_length-le}
use lib.Seq.{drop-cons, take_all}
use lib.Pow.{pow_pos}
use borrow.Author.Tests.{eq-eqb, ne_eqb, lt-ltb, le-ltb}
use Rattle.lemmas.specs.Lists.{occurrences, Below, none, more}
use Rattle.lemmas.proofs.Lists.{occurrences_append}
use Rattle.universe.specs.declared.Universe.{Universe}
use Rattle.universe.specs.Rounds.{without, axis_after, axis_before}
use Rattle.universe.specs.Universe.{bits_along, levels, order, axis_at, halvings, block_side}
use Rattle.universe.specs.Voxel.{place_along, path_from, path_to}
use Rattle.universe.proofs.Leaving.{without_often}
use Rattle.universe.proofs.Universes.{some_axes, axis_below, order_length, halvings_often, halvings_all}
use Rattle.sweep.proofs.Sweeping.{Path, end, low, high, shadow, shadow_here, shadow_other, without_here, without_other}

-- ---- the path to places, given as a function of the axis

unfoldable pub path_by : List ℕ → (ℕ → ℕ) → List ℕ
path_by [] place = []
path_by (x ∷ order) place = (place x / 2 ^ occurrences x order % 2) ∷ path_by order place

-- all the halvings of an axis, and those that are still to come
pub all_often : (u : Universe) (i : ℕ) → i < u.axes → occurrences i (order u) ≡ bits_along u i
all_often u i h =
    ap (occurrences i) (sym (take_all (levels u) (order u) (omega (arith, order_length u))))
    ∙ sym (halvings_often u (levels u) i (le_refl (levels u)))
    ∙ halvings_all u i h

left_often : (u : Universe) (l i : ℕ) → i < u.axes → l ≤ levels u → bits_along u i - halvings u l i ≡ occurrences i (drop l (order u))
left_often u l i h k =
    let parts = ap (occurrences i) (sym (take-append-drop l (order u))) ∙ occurrences_append i (take l (order u)) (drop l (order u)) in
    omega (arith, halvings_often u l i k, all_often u i h, parts)

path_from_lem : (u : Universe) (v : List ℕ) (l n : ℕ) → l + n ≡ levels u → path_from u v l n ≡ path_by (drop l (order u)) (place_along v)
unfolding path_from path_by block_side axis_at
path_from_lem u v l zero e = ap (λ o. path_by o (place_along v)) (sym (drop_of_length-le (order u) {i = l} (omega (arith, order_length u))))
path_from_lem u v l (suc n) e =
    let x = axis_at u l in
    let here = left_often u (suc l) x (axis_below u (some_axes u l (omega arith)) l) (omega arith) in
    ap₂ ◌∷◌ (ap (λ m. place_along v x / 2 ^ m % 2) here) (path_from_lem u v (suc l) n (omega arith))
    ∙ ap (λ o. path_by o (place_along v)) (sym (drop-cons (order u) l 0 (omega (arith, order_length u))))

pub path_by_lem : (u : Universe) (v : List ℕ) → path_to u v ≡ path_by (order u) (place_along v)
path_by_lem u v = path_from_lem u v 0 (levels u) (omega arith)

-- ---- it is a path, and depends on the places along the order's axes only

half_path : (x : ℕ) (order : List ℕ) (h : ℕ) (p : List ℕ) → h < 2 → Path order p → Path (x ∷ order) (h ∷ p)
half_path x order zero p l w = low w
half_path x order (suc zero) p l w = high w
half_path x order (suc (suc h)) p l w = absurd (omega arith)

pub is_path : (order : List ℕ) (f : ℕ → ℕ) → Path order (path_by order f)
unfolding path_by
is_path [] f = end
is_path (x ∷ order) f = half_path x order (f x / 2 ^ occurrences x order % 2) (path_by order f) (omega arith) (is_path order f)

pub path_cong : {d : ℕ} {order : List ℕ} (f g : ℕ → ℕ) → Below d order → ((i : ℕ) → i < d → f i ≡ g i) → path_by order f ≡ path_by order g
unfolding path_by
path_cong f g none e = refl
path_cong f g (more {x = x} {xs = xs} h w) e = ap₂ ◌∷◌ (ap (λ a. a / 2 ^ occurrences x xs % 2) (e x h)) (path_cong f g w e)

-- ---- axis j left out

often_here : (i x : ℕ) (order : List ℕ) → x ≡ i → occurrences i (x ∷ order) ≡ suc (occurrences i order)
unfolding occurrences
often_here i x order e = rw (eq-eqb x i e) (omega arith)

often_other : (i x : ℕ) (order : List ℕ) → (x ≡ i → ⊥) → occurrences i (x ∷ order) ≡ occurrences i order
unfolding occurrences
often_other i x order n = rw (ne_eqb x i n) (omega arith)

pub before_after : (j y : ℕ) → (y ≡ j → ⊥) → axis_before j (axis_after j y) ≡ y
before_after j y n = go (dec_lt y j)
  where
    go : Dec (y < j) → axis_before j (axis_after j y) ≡ y
    go (yes h) = rw (lt-ltb y j h, lt-ltb y j h)
    go (no h) =
        let past : j < y = omega arith in
        rw (le-ltb y j (omega arith), le-ltb (y - 1) j (omega arith)) (omega arith)

often_without : (j y : ℕ) (order : List ℕ) → (y ≡ j → ⊥) → occurrences (axis_after j y) (without j order) ≡ occurrences y order
often_without j y order n = without_often j (axis_after j y) order ∙ ap (λ i. occurrences i order) (before_after j y n)

-- places g that are those of f with axis j left out have the path of f with the levels of axis j left out
pub shadow_by : (order : List ℕ) (j : ℕ) (f g : ℕ → ℕ) → ((y : ℕ) → (y ≡ j → ⊥) → f y ≡ g (axis_after j y)) →
    shadow order j (path_by order f) ≡ path_by (without j order) g
unfolding shadow path_by without
shadow_by [] j f g e = refl
shadow_by (x ∷ order) j f g e = step (ℕ_discrete x j) (shadow_by order j f g e)
  where
    step : Dec (x ≡ j) → shadow order j (path_by order f) ≡ path_by (without j order) g →
        shadow (x ∷ order) j (path_by (x ∷ order) f) ≡ path_by (without j (x ∷ order)) g
    step (yes q) ih =
        shadow_here x order j (f x / 2 ^ occurrences x order % 2) (path_by order f) q ∙ ih ∙ ap (λ o. path_by o g) (sym (without_here x order j q))
    step (no n) ih =
        shadow_other x order j (f x / 2 ^ occurrences x order % 2) (path_by order f) n
        ∙ ap₂ ◌∷◌ (ap₂ (λ a c. a / 2 ^ c % 2) (e x n) (sym (often_without j x order n))) ih
        ∙ ap (λ o. path_by o g) (sym (without_other x order j n))

-- ---- the places with x put in along axis j

abbrev pub put_in : ℕ → ℕ → (ℕ → ℕ) → ℕ → ℕ
put_in j x f i = cond (eqb i j) x (f (axis_after j i))

put_here : (j x : ℕ) (f : ℕ → ℕ) (i : ℕ) → i ≡ j → put_in j x f i ≡ x
put_here j x f i e = rw (eq-eqb i j e)

pub put_other : (j x : ℕ) (f : ℕ → ℕ) (i : ℕ) → (i ≡ j → ⊥) → put_in j x f i ≡ f (axis_after j i)
put_other j x f i n = rw (ne_eqb i j n)

-- the place along axis j that a path leads to
unfoldable pub place_of : List ℕ → ℕ → List ℕ → ℕ
place_of [] j p = 0
place_of (x ∷ order) j [] = 0
place_of (x ∷ order) j (h ∷ p) = cond (eqb x j) (place_of order j p + h * 2 ^ occurrences j order) (place_of order j p)

place_here : (x : ℕ) (order : List ℕ) (j h : ℕ) (p : List ℕ) → x ≡ j → place_of (x ∷ order) j (h ∷ p) ≡ place_of order j p + h * 2 ^ occurrences j order
unfolding place_of
place_here x order j h p e = rw (eq-eqb x j e)

place_other : (x : ℕ) (order : List ℕ) (j h : ℕ) (p : List ℕ) → (x ≡ j → ⊥) → place_of (x ∷ order) j (h ∷ p) ≡ place_of order j p
unfolding place_of
place_other x order j h p n = rw (ne_eqb x j n)

place_step : (x : ℕ) (order : List ℕ) (j h : ℕ) (p : List ℕ) → h < 2 → place_of order j p < 2 ^ occurrences j order →
    place_of (x ∷ order) j (h ∷ p) < 2 ^ occurrences j (x ∷ order)
place_step x order j h p l ih = go (ℕ_discrete x j)
  where
    two : (h a n : ℕ) → h < 2 → a < n → a + h * n < 2 * n
    two zero a n l k = omega arith
    two (suc zero) a n l k = omega arith
    two (suc (suc h)) a n l k = absurd (omega arith)

    go : Dec (x ≡ j) → place_of (x ∷ order) j (h ∷ p) < 2 ^ occurrences j (x ∷ order)
    go (yes e) =
        rw (place_here x order j h p e, often_here j x order e, pow-succ' 2 (occurrences j order)) (two h (place_of order j p) (2 ^ occurrences j order) l ih)
    go (no n) = rw (place_other x order j h p n, often_other j x order n) ih

pub place_below : (order : List ℕ) (j : ℕ) (p : List ℕ) → Path order p → place_of order j p < 2 ^ occurrences j order
unfolding place_of
place_below [] j p w = pow_pos (occurrences j [])
place_below (x ∷ order) j p (low {p = q} w) = place_step x order j 0 q (omega arith) (place_below order j q w)
place_below (x ∷ order) j p (high {p = q} w) = place_step x order j 1 q (omega arith) (place_below order j q w)

-- higher bits of a place do not matter
half_apart : (x k n : ℕ) → 0 < n → (x + k * (2 * n)) / n % 2 ≡ x / n % 2
half_apart x k n h =
    let e : x + k * (2 * n) ≡ x + (2 * k) * n = omega arith in
    rw (e, add-mul-div_right x (2 * k) h) (omega arith)

path_high : (order : List ℕ) (j x k : ℕ) (f : ℕ → ℕ) → path_by order (put_in j (x + k * 2 ^ occurrences j order) f) ≡ path_by order (put_in j x f)
unfolding path_by
path_high [] j x k f = refl
path_high (y ∷ order) j x k f = step (ℕ_discrete y j) (path_high order j x (2 * k) f) (path_high order j x k f)
  where
    step : Dec (y ≡ j) → path_by order (put_in j (x + (2 * k) * 2 ^ occurrences j order) f) ≡ path_by order (put_in j x f) →
        path_by order (put_in j (x + k * 2 ^ occurrences j order) f) ≡ path_by order (put_in j x f) →
        path_by (y ∷ order) (put_in j (x + k * 2 ^ occurrences j (y ∷ order)) f) ≡ path_by (y ∷ order) (put_in j x f)
    step (yes e) ih ig =
        let c = occurrences j order in
        let a : x + k * 2 ^ occurrences j (y ∷ order) ≡ x + k * (2 * 2 ^ c) = ap (λ n. x + k * n) (ap (λ n. 2 ^ n) (often_here j y order e) ∙ pow-succ' 2 c) in
        let b : x + k * (2 * 2 ^ c) ≡ x + (2 * k) * 2 ^ c = omega arith in
        ap₂ ◌∷◌
        (ap₂ (λ m n. m / 2 ^ n % 2) (put_here j (x + k * 2 ^ occurrences j (y ∷ order)) f y e ∙ a) (ap (λ i. occurrences i order) e)
        ∙ half_apart x k (2 ^ c) (pow_pos c)
        ∙ sym (ap₂ (λ m n. m / 2 ^ n % 2) (put_here j x f y e) (ap (λ i. occurrences i order) e)))
        (ap (λ m. path_by order (put_in j m f)) (a ∙ b) ∙ ih)
    step (no n) ih ig =
        ap₂ ◌∷◌
        (ap (λ m. m / 2 ^ occurrences y order % 2) (put_other j (x + k * 2 ^ occurrences j (y ∷ order)) f y n ∙ sym (put_other j x f y n)))
        (ap (λ m. path_by order (put_in j (x + k * 2 ^ m) f)) (often_other j y order n) ∙ ig)

-- ---- a path over the path to f is the path to f with its place put in

first_same : (a b : ℕ) (x y : List ℕ) → a ∷ x ≡ b ∷ y → a ≡ b
first_same a b x y e = ap (λ l. get_or l 0 0) e

rest_same : (a b : ℕ) (x y : List ℕ) → a ∷ x ≡ b ∷ y → x ≡ y
rest_same a b x y e = ap (λ l. drop 1 l) e

last_bit : (h x n : ℕ) → h < 2 → x < n → (x + h * n) / n % 2 ≡ h
last_bit h x n l k = rw (add-mul-div_right x h {z = n} (omega arith), div-eq_of_lt k) (omega arith)

module _ (x : ℕ) (order : List ℕ) (j : ℕ) (f : ℕ → ℕ) (h : ℕ) (p : List ℕ) where
  abbrev here : ℕ
  here = place_of (x ∷ order) j (h ∷ p)

  abbrev later : ℕ
  later = place_of order j p

  back_here : x ≡ j → h < 2 → later < 2 ^ occurrences j order → path_by order (put_in j later f) ≡ p → path_by (x ∷ order) (put_in j here f) ≡ h ∷ p
  unfolding path_by
  back_here e l k ih =
      ap₂ ◌∷◌
      (ap₂ (λ m n. m / 2 ^ n % 2) (put_here j here f x e ∙ place_here x order j h p e) (ap (λ i. occurrences i order) e)
      ∙ last_bit h later (2 ^ occurrences j order) l k)
      (ap (λ m. path_by order (put_in j m f)) (place_here x order j h p e) ∙ path_high order j later h f ∙ ih)

  back_other : (x ≡ j → ⊥) → h ≡ f (axis_after j x) / 2 ^ occurrences (axis_after j x) (without j order) % 2 → path_by order (put_in j later f) ≡ p →
      path_by (x ∷ order) (put_in j here f) ≡ h ∷ p
  unfolding path_by
  back_other n g ih =
      ap₂ ◌∷◌
      (ap₂ (λ m c. m / 2 ^ c % 2) (put_other j here f x n) (sym (often_without j x order n)) ∙ sym g)
      (ap (λ m. path_by order (put_in j m f)) (place_other x order j h p n) ∙ ih)

  back_step : Dec (x ≡ j) → h < 2 → Path order p → shadow (x ∷ order) j (h ∷ p) ≡ path_by (without j (x ∷ order)) f →
      (shadow order j p ≡ path_by (without j order) f → path_by order (put_in j later f) ≡ p) → path_by (x ∷ order) (put_in j here f) ≡ h ∷ p
  unfolding path_by
  back_step (yes e) l w s ih =
      back_here e l (place_below order j p w) (ih (sym (shadow_here x order j h p e) ∙ s ∙ ap (λ o. path_by o f) (without_here x order j e)))
  back_step (no n) l w s ih =
      let bit = f (axis_after j x) / 2 ^ occurrences (axis_after j x) (without j order) % 2 in
      let both : h ∷ shadow order j p ≡ bit ∷ path_by (without j order) f =
      sym (shadow_other x order j h p n) ∙ s ∙ ap (λ o. path_by o f) (without_other x order j n) in
      back_other n (first_same h bit (shadow order j p) (path_by (without j order) f) both) (ih (rest_same h bit (shadow order j p)
      (path_by (without j order) f) both))

pub path_back : (order : List ℕ) (j : ℕ) (f : ℕ → ℕ) (p : List ℕ) → Path order p → shadow order j p ≡ path_by (without j order) f →
    path_by order (put_in j (place_of order j p) f) ≡ p
unfolding path_by
path_back [] j f p end s = refl
path_back (x ∷ order) j f p (low {p = q} w) s = back_step x order j f 0 q (ℕ_discrete x j) (omega arith) w s (path_back order j f q w)
path_back (x ∷ order) j f p (high {p = q} w) s = back_step x order j f 1 q (ℕ_discrete x j) (omega arith) w s (path_back order j f q w)
