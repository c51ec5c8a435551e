-- The points of a grid. A sum over a grid counts each of its points and no others: it depends on them alone, is at least what one of them gives, and
-- is above 0 only where one of them gives more than 0. And a grid that is twice as long along one axis is the grid and the grid moved along that axis.
use Prim.Native.Nat.{ℕ, zero, suc, ◌+◌, ◌*◌, ◌≤◌, ◌<◌}
use mathlib.Core.Path.{◌≡◌, refl, sym, ap, ◌∙◌, fun_ext}
use mathlib.Core.Bool.{Bool, true, false, cond}
use native.Mathlib.Omega.{arith}
use native.Mathlib.Nat.{le_trans}
use native.Mathlib.Decide.{ℕ_discrete, dec_lt}
use lib.Dec.{eqb}
use borrow.Author.Tests.{eqb-true, eq-eqb, ne_eqb}
use Rattle.lemmas.specs.Sums.{sum}
use Rattle.lemmas.specs.Grid.{put, grid}
use Rattle.lemmas.proofs.Sums.{sum_cong, sum_add, sum_part}
use Rattle.lemmas.proofs.Grid.{put_same, put_other, grid_lengths}

-- a point of the grid of d axes whose lengths are n
pub record Inside (d : ℕ) (n p : ℕ → ℕ) : Type 0 where
  pub below : (i : ℕ) → i < d → p i < n i
  pub beyond : (i : ℕ) → d ≤ i → p i ≡ 0

-- a point of the grid of one axis less, with a place along that axis
put_inside : (d c : ℕ) (n p : ℕ → ℕ) → Inside d n p → c < n d → Inside (suc d) n (put d c p)
put_inside d c n p w h = record { below = λ i l. below i l (ℕ_discrete d i); beyond = λ i l. put_other d i c p (λ e. omega arith) ∙ w.beyond i (omega arith) }
  where
    below : (i : ℕ) → i < suc d → Dec (d ≡ i) → put d c p i < n i
    below i l (yes e) = rw (← e, put_same d c p) h
    below i l (no k) = rw (put_other d i c p k) (w.below i (omega arith))

-- ---- a sum over a grid, and the points of the grid
pub grid_cong : (d : ℕ) (n : ℕ → ℕ) (f g : (ℕ → ℕ) → ℕ) → ((p : ℕ → ℕ) → Inside d n p → f p ≡ g p) → grid d n f ≡ grid d n g
unfolding grid
grid_cong zero n f g h = h (λ i. 0) (record { below = λ i l. absurd (omega arith); beyond = λ i l. refl })
grid_cong (suc d) n f g h =
    sum_cong (n d) _ _ (λ c l. grid_cong d n (λ p. f (put d c p)) (λ p. g (put d c p)) (λ p w. h (put d c p) (put_inside d c n p w l)))

-- a sum above 0 has a place above 0
some_place : (n : ℕ) (f : ℕ → ℕ) → 0 < sum n f → (c : ℕ) × (c < n) × (0 < f c)
unfolding sum
some_place zero f h = absurd (omega arith)
some_place (suc n) f h = go (dec_lt 0 (f n)) (some_place n f)
  where
    go : Dec (0 < f n) → (0 < sum n f → (c : ℕ) × (c < n) × (0 < f c)) → (c : ℕ) × (c < suc n) × (0 < f c)
    go (yes k) before = (n, omega arith, k)
    go (no k) before = let w = before (omega arith) in (w.0, omega (arith, w.1), w.2)

pub grid_some : (d : ℕ) (n : ℕ → ℕ) (f : (ℕ → ℕ) → ℕ) → 0 < grid d n f → (p : ℕ → ℕ) × Inside d n p × (0 < f p)
unfolding grid
grid_some zero n f h = ((λ i. 0), record { below = λ i l. absurd (omega arith); beyond = λ i l. refl }, h)
grid_some (suc d) n f h =
    let c = some_place (n d) (λ c. grid d n (λ p. f (put d c p))) h in
    let w = grid_some d n (λ p. f (put d c.0 p)) c.2 in
    (put d c.0 w.0, put_inside d c.0 n w.0 w.1 c.1, w.2)

-- a point of the grid by its place along the last axis and the rest
rest_inside : (d : ℕ) (n p : ℕ → ℕ) → Inside (suc d) n p → Inside d n (put d 0 p)
rest_inside d n p w = record {
  below = λ i l. rw (put_other d i 0 p (λ e. omega arith)) (w.below i (omega arith));
  beyond = λ i l. go i l (ℕ_discrete d i);
}
  where
    go : (i : ℕ) → d ≤ i → Dec (d ≡ i) → put d 0 p i ≡ 0
    go i l (yes e) = rw (← e) (put_same d 0 p)
    go i l (no k) = put_other d i 0 p k ∙ w.beyond i (omega arith)

put_back : (d : ℕ) (p : ℕ → ℕ) → put d (p d) (put d 0 p) ≡ p
unfolding put
put_back d p = fun_ext (λ i. go i (eqb d i) refl)
  where
    go : (i : ℕ) (t : Bool) → eqb d i ≡ t → cond t (p d) (cond t 0 (p i)) ≡ p i
    go i true e = ap p (eqb-true d i e)
    go i false e = refl

pub grid_part : (d : ℕ) (n : ℕ → ℕ) (f : (ℕ → ℕ) → ℕ) (p : ℕ → ℕ) → Inside d n p → f p ≤ grid d n f
unfolding grid
grid_part zero n f p w = let e : (λ i. 0) ≡ p = fun_ext (λ i. sym (w.beyond i (omega arith))) in rw e (omega arith)
grid_part (suc d) n f p w =
    let rest = grid_part d n (λ q. f (put d (p d) q)) (put d 0 p) (rest_inside d n p w) in
    le_trans (rw (put_back d p) at rest) (sum_part (n d) (λ c. grid d n (λ q. f (put d c q))) (p d) (w.below d (omega arith)))

-- ---- the grid that is twice as long along one axis
-- the point p moved by k along axis a
unfoldable pub moved : ℕ → ℕ → (ℕ → ℕ) → ℕ → ℕ
moved a k p i = p i + cond (eqb a i) k 0

pub moved_same : (a k : ℕ) (p : ℕ → ℕ) → moved a k p a ≡ p a + k
unfolding moved
moved_same a k p = rw (eq-eqb a a refl)

pub moved_other : (a k i : ℕ) (p : ℕ → ℕ) → (a ≡ i → ⊥) → moved a k p i ≡ p i
unfolding moved
moved_other a k i p h = rw (ne_eqb a i h) (omega arith)

moved_here : (a k c : ℕ) (p : ℕ → ℕ) → moved a k (put a c p) ≡ put a (c + k) p
unfolding put moved
moved_here a k c p = fun_ext (λ i. go i (eqb a i))
  where
    go : (i : ℕ) (t : Bool) → cond t c (p i) + cond t k 0 ≡ cond t (c + k) (p i)
    go i true = refl
    go i false = omega arith

moved_there : (a k d c : ℕ) (p : ℕ → ℕ) → (d ≡ a → ⊥) → moved a k (put d c p) ≡ put d c (moved a k p)
unfolding put moved
moved_there a k d c p h = fun_ext (λ i. go i (eqb d i) (eqb a i) refl refl)
  where
    go : (i : ℕ) (t x : Bool) → eqb d i ≡ t → eqb a i ≡ x → cond t c (p i) + cond x k 0 ≡ cond t c (p i + cond x k 0)
    go i true true e q = absurd (h (eqb-true d i e ∙ sym (eqb-true a i q)))
    go i true false e q = omega arith
    go i false x e q = refl

sum_twice : (n m : ℕ) (f : ℕ → ℕ) → sum (n + m) f ≡ sum n f + sum m (λ c. f (c + n))
unfolding sum
sum_twice n zero f = let e : n + 0 ≡ n = omega arith in rw e (omega arith)
sum_twice n (suc m) f =
    let e : n + suc m ≡ suc (n + m) = omega arith in
    let q : n + m ≡ m + n = omega arith in
    rw e (omega (arith, sum_twice n m f, ap f q))

module _ (d a : ℕ) (n : ℕ → ℕ) (f : (ℕ → ℕ) → ℕ) where
  double_last : grid (suc d) (put d (2 * n d) n) f ≡ grid (suc d) n f + grid (suc d) n (λ p. f (moved d (n d) p))
  unfolding grid
  double_last =
      let e : 2 * n d ≡ n d + n d = omega arith in
      rw (put_same d (2 * n d) n)
      (sum_cong (2 * n d) _ _ (λ c l. grid_lengths d (put d (2 * n d) n) n _ (λ i k. put_other d i (2 * n d) n (λ q. omega arith)))
      ∙ ap (λ m. sum m (λ c. grid d n (λ p. f (put d c p)))) e
      ∙ sum_twice (n d) (n d) (λ c. grid d n (λ p. f (put d c p)))
      ∙ simp (moved_here d (n d)))

  double_before : (d ≡ a → ⊥) →
      ((g : (ℕ → ℕ) → ℕ) → grid d (put a (2 * n a) n) g ≡ grid d n g + grid d n (λ p. g (moved a (n a) p))) →
      grid (suc d) (put a (2 * n a) n) f ≡ grid (suc d) n f + grid (suc d) n (λ p. f (moved a (n a) p))
  unfolding grid
  double_before k before =
      rw (put_other a d (2 * n a) n (λ e. k (sym e)))
      (sum_cong (n d) _ _ (λ c l. before (λ p. f (put d c p)))
      ∙ sum_add (n d) _ _
      ∙ simp (moved_there a (n a) d))

pub grid_double : (d a : ℕ) (n : ℕ → ℕ) (f : (ℕ → ℕ) → ℕ) → a < d →
    grid d (put a (2 * n a) n) f ≡ grid d n f + grid d n (λ p. f (moved a (n a) p))
grid_double zero a n f h = absurd (omega arith)
grid_double (suc d) a n f h = go (ℕ_discrete d a) (λ k g. grid_double d a n g k)
  where
    go : Dec (d ≡ a) → (a < d → (g : (ℕ → ℕ) → ℕ) → grid d (put a (2 * n a) n) g ≡ grid d n g + grid d n (λ p. g (moved a (n a) p))) →
        grid (suc d) (put a (2 * n a) n) f ≡ grid (suc d) n f + grid (suc d) n (λ p. f (moved a (n a) p))
    go (yes e) before = rw (← e) (double_last d a n f)
    go (no k) before = double_before d a n f k (before (omega arith))
