-- Sums over a grid: order, sums, the number of points, the grid whose cells are halved along one axis. And the bound on the cells that a test
-- crosses: a cell is crossed where the test fails at one corner and holds at the opposite one. All corners of one kind are as many as the cells,
-- and whatever the kind, the points one further along every axis than those of the grid shortened by one are among them. So the crossed cells
-- and these inner points together are no more than the cells.
use Prim.Native.Nat.{ℕ, zero, suc, ◌+◌, ◌*◌, ◌-◌, ◌≤◌, ◌<◌, zero-le}
use mathlib.Core.Path.{◌≡◌, refl, sym, ap, ap₂, ◌∙◌, fun_ext}
use mathlib.Core.Bool.{Bool, true, false, not, cond, ◌&&◌}
use mathlib.Core.List.{List, [], ◌∷◌, ◌++◌}
use native.Mathlib.Omega.{arith}
use native.Mathlib.Nat.{le_refl, le_trans}
use native.Mathlib.Decide.{ℕ_discrete}
use lib.Dec.{eqb, ltb}
use lib.ListN.{length, get_or, set, drop, replicate, length-set}
use lib.Seq.{ext_get_or, get_or-set_same, get_or-set_other}
use borrow.Author.Tests.{ltb-true, ltb-false, lt-ltb, le-ltb, eqb-true, eqb-false, eq-eqb, ne_eqb}
use Rattle.lemmas.specs.Sums.{sum, product}
use Rattle.lemmas.specs.Grid.{count, put, grid, stepped, listed}
use Rattle.lemmas.proofs.Sums.{sum_front, sum_mono, sum_cong, sum_add, sum_same}

-- ---- points
pub put_same : (a c : ℕ) (p : ℕ → ℕ) → put a c p a ≡ c
unfolding put
put_same a c p = rw (eq-eqb a a refl)

pub put_other : (a i c : ℕ) (p : ℕ → ℕ) → (a ≡ i → ⊥) → put a c p i ≡ p i
unfolding put
put_other a i c p h = rw (ne_eqb a i h)

-- the place put last counts, and places along two axes are put in either order
put_put : (a c e : ℕ) (p : ℕ → ℕ) → put a c (put a e p) ≡ put a c p
unfolding put
put_put a c e p = fun_ext (λ i. go (eqb a i) (p i))
  where
    go : (t : Bool) (x : ℕ) → cond t c (cond t e x) ≡ cond t c x
    go true x = refl
    go false x = refl

put_swap : (a b c e : ℕ) (p : ℕ → ℕ) → (a ≡ b → ⊥) → put a c (put b e p) ≡ put b e (put a c p)
unfolding put
put_swap a b c e p h = fun_ext (λ i. go i (eqb a i) (eqb b i) refl refl)
  where
    go : (i : ℕ) (t v : Bool) → eqb a i ≡ t → eqb b i ≡ v → cond t c (cond v e (p i)) ≡ cond v e (cond t c (p i))
    go i true true q r = absurd (h (eqb-true a i q ∙ sym (eqb-true b i r)))
    go i true false q r = refl
    go i false true q r = refl
    go i false false q r = refl

-- the corner's place along an axis; the corner of the cell of no axes; the corner with one axis more
pub stepped_along : (d i : ℕ) (s : ℕ → Bool) (p : ℕ → ℕ) → i < d → stepped d s p i ≡ p i + count (s i)
unfolding stepped
stepped_along d i s p h = rw (lt-ltb i d h)

stepped_none : (s : ℕ → Bool) (p : ℕ → ℕ) → stepped 0 s p ≡ p
unfolding stepped
stepped_none s p = fun_ext (λ i. rw (le-ltb i 0 zero-le) (omega arith))

stepped_put : (d c : ℕ) (s : ℕ → Bool) (p : ℕ → ℕ) → stepped (suc d) s (put d c p) ≡ put d (c + count (s d)) (stepped d s p)
unfolding put stepped
stepped_put d c s p = fun_ext (λ i. go i (eqb d i) (ltb i d) (ltb i (suc d)) refl refl refl)
  where
    go : (i : ℕ) (t x y : Bool) → eqb d i ≡ t → ltb i d ≡ x → ltb i (suc d) ≡ y →
        cond t c (p i) + count (y && s i) ≡ cond t (c + count (s d)) (p i + count (x && s i))
    go i true x true e q r = ap (λ j. c + count (s j)) (sym (eqb-true d i e))
    go i true x false e q r = absurd (omega (arith, eqb-true, ltb-false))
    go i false true true e q r = refl
    go i false false false e q r = refl
    go i false true false e q r = absurd (omega (arith, ltb-true, ltb-false))
    go i false false true e q r = absurd (omega (arith, ltb-true, ltb-false, eqb-false))

-- ---- what a rule gives, listed
module _ {A : Type 0} where
  pub listed_length : (n : ℕ) (f : ℕ → A) → length (listed n f) ≡ n
  unfolding listed
  listed_length zero f = refl
  listed_length (suc n) f = ap suc (listed_length n (λ i. f (suc i)))

  pub listed_cong : (n : ℕ) (f g : ℕ → A) → ((i : ℕ) → i < n → f i ≡ g i) → listed n f ≡ listed n g
  unfolding listed
  listed_cong zero f g h = refl
  listed_cong (suc n) f g h = ap₂ ◌∷◌ (h 0 (omega arith)) (listed_cong n (λ i. f (suc i)) (λ i. g (suc i)) (λ i l. h (suc i) (omega arith)))

  pub listed_same : (n : ℕ) (x : A) → listed n (λ i. x) ≡ replicate n x
  unfolding listed
  listed_same zero x = refl
  listed_same (suc n) x = ap (λ (s : List A). x ∷ s) (listed_same n x)

  -- one place more
  pub listed_next : (n : ℕ) (f : ℕ → A) → listed (suc n) f ≡ listed n f ++ (f n ∷ [])
  unfolding listed
  listed_next zero f = refl
  listed_next (suc n) f = ap (λ (s : List A). f 0 ∷ s) (listed_next n (λ i. f (suc i)))

  -- a list is what stands at its first places, and the rest
  pub listed_own : (n : ℕ) (f : ℕ → A) (l : List A) (d : A) → ((i : ℕ) → f i ≡ get_or l i d) → n ≤ length l → listed n f ++ drop n l ≡ l
  unfolding listed
  listed_own zero f l d e h = refl
  listed_own (suc n) f [] d e h = absurd (omega arith)
  listed_own (suc n) f (x ∷ l) d e h = ap₂ ◌∷◌ (e 0) (listed_own n (λ i. f (suc i)) l d (λ i. e (suc i)) (omega arith))

pub listed_at : (n : ℕ) (p : ℕ → ℕ) (i : ℕ) → i < n → get_or (listed n p) i 0 ≡ p i
unfolding listed
listed_at zero p i h = absurd (omega arith)
listed_at (suc n) p zero h = refl
listed_at (suc n) p (suc i) h = listed_at n (λ j. p (suc j)) i (omega arith)

pub listed_put : (n : ℕ) (p : ℕ → ℕ) (a c : ℕ) → set (listed n p) a c ≡ listed n (put a c p)
listed_put n p a c =
    ext_get_or 0 _ _ (length-set (listed n p) a c ∙ listed_length n p ∙ sym (listed_length n (put a c p)))
    (λ i l. let h : i < n = omega (arith, length-set (listed n p) a c, listed_length n p) in go i h (ℕ_discrete a i) ∙ sym (listed_at n (put a c p) i h))
  where
    go : (i : ℕ) → i < n → Dec (a ≡ i) → get_or (set (listed n p) a c) i 0 ≡ put a c p i
    go i h (yes e) = rw (← e) (get_or-set_same (listed n p) a c 0 (omega (arith, listed_length n p)) ∙ sym (put_same a c p))
    go i h (no k) = get_or-set_other (listed n p) a i c 0 (λ e. k (sym e)) ∙ listed_at n p i h ∙ sym (put_other a i c p k)

-- ---- sums over a grid
pub grid_mono : (d : ℕ) (n : ℕ → ℕ) (f g : (ℕ → ℕ) → ℕ) → ((p : ℕ → ℕ) → f p ≤ g p) → grid d n f ≤ grid d n g
unfolding grid
grid_mono zero n f g h = h (λ i. 0)
grid_mono (suc d) n f g h = sum_mono (n d) _ _ (λ c l. grid_mono d n (λ p. f (put d c p)) (λ p. g (put d c p)) (λ p. h (put d c p)))

pub grid_add : (d : ℕ) (n : ℕ → ℕ) (f g : (ℕ → ℕ) → ℕ) → grid d n (λ p. f p + g p) ≡ grid d n f + grid d n g
unfolding grid
grid_add zero n f g = refl
grid_add (suc d) n f g = sum_cong (n d) _ _ (λ c l. grid_add d n (λ p. f (put d c p)) (λ p. g (put d c p))) ∙ sum_add (n d) _ _

pub grid_const : (d : ℕ) (n : ℕ → ℕ) (a : ℕ) → grid d n (λ p. a) ≡ product d n * a
unfolding grid product
grid_const zero n a = omega arith
grid_const (suc d) n a = sum_cong (n d) _ _ (λ c l. grid_const d n a) ∙ sum_same (n d) _ ∙ omega arith

-- a grid is given by its lengths along its axes
pub grid_lengths : (d : ℕ) (n m : ℕ → ℕ) (f : (ℕ → ℕ) → ℕ) → ((i : ℕ) → i < d → n i ≡ m i) → grid d n f ≡ grid d m f
unfolding grid
grid_lengths zero n m f h = refl
grid_lengths (suc d) n m f h =
    rw (h d (omega arith)) (sum_cong (m d) _ _ (λ c l. grid_lengths d n m (λ p. f (put d c p)) (λ i k. h i (omega arith))))

-- a grid of one point
origin : (d : ℕ) → put d 0 (λ i. 0) ≡ (λ i. 0)
unfolding put
origin d = fun_ext (λ i. go (eqb d i))
  where
    go : (t : Bool) → ◌≡◌ {A = ℕ} (cond t 0 0) 0
    go true = refl
    go false = refl

pub grid_one : (d : ℕ) (n : ℕ → ℕ) (f : (ℕ → ℕ) → ℕ) → ((i : ℕ) → i < d → n i ≡ 1) → grid d n f ≡ f (λ i. 0)
unfolding grid sum
grid_one zero n f h = refl
grid_one (suc d) n f h = rw (h d (omega arith)) (omega (arith, grid_one d n (λ p. f (put d 0 p)) (λ i l. h i (omega arith)), ap f (origin d)))

-- ---- the grid whose cells are halved along one axis
sum_halves : (n : ℕ) (g : ℕ → ℕ) → sum n (λ c. g (2 * c) + g (suc (2 * c))) ≡ sum (2 * n) g
unfolding sum
sum_halves zero g = refl
sum_halves (suc n) g =
    let e : 2 * suc n ≡ suc (suc (2 * n)) = omega arith in
    rw e (omega (arith, sum_halves n g))

-- the point p with its place along axis a changed by g
abbrev changed : ℕ → (ℕ → ℕ) → (ℕ → ℕ) → ℕ → ℕ
changed a g p = put a (g (p a)) p

-- the lower and the upper half of a cell, as points of the grid that is twice as long along axis a
abbrev pub lower : ℕ → (ℕ → ℕ) → ℕ → ℕ
lower a p = changed a (λ c. 2 * c) p

abbrev pub upper : ℕ → (ℕ → ℕ) → ℕ → ℕ
upper a p = changed a (λ c. suc (2 * c)) p

changed_here : (a : ℕ) (g : ℕ → ℕ) (c : ℕ) (p : ℕ → ℕ) → changed a g (put a c p) ≡ put a (g c) p
changed_here a g c p = rw put_same (put_put a (g c) c p)

changed_there : (a : ℕ) (g : ℕ → ℕ) (b c : ℕ) (p : ℕ → ℕ) → (b ≡ a → ⊥) → changed a g (put b c p) ≡ put b c (changed a g p)
changed_there a g b c p h = rw (put_other b a c p h) (put_swap a b (g (p a)) c p (λ e. h (sym e)))

-- halving along the last axis, and along an earlier one
halves_last : (d : ℕ) (n : ℕ → ℕ) (f : (ℕ → ℕ) → ℕ) → grid (suc d) n (λ p. f (lower d p) + f (upper d p)) ≡ grid (suc d) (put d (2 * n d) n) f
unfolding grid
halves_last d n f =
    sum_cong (n d) _ _
    (λ c l. simp (changed_here d (λ x. 2 * x) c, changed_here d (λ x. suc (2 * x)) c)
    (grid_add d n (λ p. f (put d (2 * c) p)) (λ p. f (put d (suc (2 * c)) p))))
    ∙ sum_halves (n d) (λ c. grid d n (λ p. f (put d c p)))
    ∙ rw (put_same d (2 * n d) n)
    (sum_cong (2 * n d) _ _ (λ c l. grid_lengths d n (put d (2 * n d) n) _ (λ i k. sym (put_other d i (2 * n d) n (λ e. omega arith)))))

halves_before : (d a : ℕ) (n : ℕ → ℕ) (f : (ℕ → ℕ) → ℕ) → (d ≡ a → ⊥) →
    ((g : (ℕ → ℕ) → ℕ) → grid d n (λ p. g (lower a p) + g (upper a p)) ≡ grid d (put a (2 * n a) n) g) →
    grid (suc d) n (λ p. f (lower a p) + f (upper a p)) ≡ grid (suc d) (put a (2 * n a) n) f
unfolding grid
halves_before d a n f k before =
    rw (put_other a d (2 * n a) n (λ e. k (sym e)))
    (sum_cong (n d) _ _ (λ c l. simp (changed_there a (λ x. 2 * x) d c, changed_there a (λ x. suc (2 * x)) d c) (before (λ p. f (put d c p)))))

pub grid_halves : (d a : ℕ) (n : ℕ → ℕ) (f : (ℕ → ℕ) → ℕ) → a < d →
    grid d n (λ p. f (lower a p) + f (upper a p)) ≡ grid d (put a (2 * n a) n) f
grid_halves zero a n f h = absurd (omega arith)
grid_halves (suc d) a n f h = go (ℕ_discrete d a) (λ k g. grid_halves d a n g k)
  where
    go : Dec (d ≡ a) → (a < d → (g : (ℕ → ℕ) → ℕ) → grid d n (λ p. g (lower a p) + g (upper a p)) ≡ grid d (put a (2 * n a) n) g) →
        grid (suc d) n (λ p. f (lower a p) + f (upper a p)) ≡ grid (suc d) (put a (2 * n a) n) f
    go (yes e) before = rw (← e) (halves_last d n f)
    go (no k) before = halves_before d a n f k (before (omega arith))

-- ---- the points one further along every axis than those of the shortened grid are corners, whatever the kind of the corners
abbrev every_axis : ℕ → Bool
every_axis i = true

inner_along : (t : Bool) (n : ℕ) (g : ℕ → ℕ) → sum (n - 1) (λ c. g (c + 1)) ≤ sum n (λ c. g (c + count t))
unfolding sum
inner_along t zero g = zero-le
inner_along true (suc n) g = let e : suc n - 1 ≡ n = omega arith in rw e (omega arith)
inner_along false (suc n) g =
    let e : suc n - 1 ≡ n = omega arith in
    rw e (omega (arith, sum_front n (λ c. g (c + 0)), sum_cong n (λ c. g (suc c + 0)) (λ c. g (c + 1)) (λ c l. ap g (omega arith))))

inner_stepped : (s : ℕ → Bool) (d : ℕ) (n : ℕ → ℕ) (f : (ℕ → ℕ) → ℕ) →
    grid d (λ i. n i - 1) (λ p. f (stepped d every_axis p)) ≤ grid d n (λ p. f (stepped d s p))
unfolding grid
inner_stepped s zero n f = rw (stepped_none every_axis (λ i. 0), stepped_none s (λ i. 0)) (le_refl _)
inner_stepped s (suc d) n f =
    simp stepped_put
    (le_trans (sum_mono (n d - 1) _ _ (λ c l. inner_stepped s d n (λ p. f (put d (c + 1) p))))
    (inner_along (s d) (n d) (λ x. grid d n (λ p. f (put d x (stepped d s p))))))

-- a test and its opposite together count every point
test_or_not : (t : Bool) → count t + count (not t) ≡ 1
test_or_not true = refl
test_or_not false = refl

every_point : (d : ℕ) (n : ℕ → ℕ) (r : (ℕ → ℕ) → Bool) → grid d n (λ p. count (r p)) + grid d n (λ p. count (not (r p))) ≡ product d n
every_point d n r = sym (grid_add d n _ _) ∙ simp (test_or_not, grid_const) (omega arith)

-- ---- what a test crosses: f counts at most one for a cell, and none where the test is the same at the corner of kind s and at the opposite one
pub crossed_cells : (s : ℕ → Bool) (r : (ℕ → ℕ) → Bool) (f : (ℕ → ℕ) → ℕ) (d : ℕ) (n : ℕ → ℕ) →
    ((p : ℕ → ℕ) → f p + count (r (stepped d (λ i. not (s i)) p)) ≤ count (r (stepped d s p))) →
    grid d n f + product d (λ i. n i - 1) ≤ product d n
crossed_cells s r f d n h =
    omega (
      arith,
      grid_mono d n (λ p. f p + count (r (stepped d (λ i. not (s i)) p))) (λ p. count (r (stepped d s p))) h,
      grid_add d n f (λ p. count (r (stepped d (λ i. not (s i)) p))),
      inner_stepped (λ i. not (s i)) d n (λ p. count (r p)),
      inner_stepped s d n (λ p. count (not (r p))),
      every_point d n (λ p. r (stepped d s p)),
      every_point d (λ i. n i - 1) (λ p. r (stepped d every_axis p)),
    )
