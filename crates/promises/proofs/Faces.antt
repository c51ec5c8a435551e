-- What a level counts for room: n1 · … · nd less (n1 − 1) · … · (nd − 1) is the number of its blocks that touch a low face of the universe, one by one. A
-- block touches one where its place along some axis is 0; those that touch none are a grid one shorter along each axis.
use Prim.Native.Nat.{ℕ, zero, suc, ◌+◌, ◌-◌, ◌*◌, ◌≤◌}
use mathlib.Core.Path.{◌≡◌, refl, ap, ap₂, ◌∙◌, fun_ext}
use mathlib.Core.Bool.{Bool, true, false, not, cond, ◌&&◌}
use native.Mathlib.Omega.{arith}
use lib.Dec.{ltb}
use borrow.Author.Tests.{lt-ltb}
use Rattle.lemmas.specs.Sums.{sum, product, every}
use Rattle.lemmas.specs.Grid.{count, put, grid}
use Rattle.lemmas.proofs.Sums.{sum_cong}
use Rattle.lemmas.proofs.Grid.{put_same, put_other, grid_add, grid_const}
use Rattle.universe.specs.declared.Universe.{Universe}
use Rattle.universe.specs.Universe.{blocks_along}
use Rattle.universe.specs.Room.{blocks_at, inner_blocks_at}
use Rattle.promises.specs.Faces.{inner, touches_low}

-- a place along axis d leaves the axes below it alone
inner_put : (d c m : ℕ) (p : ℕ → ℕ) → m ≤ d → inner m (put d c p) ≡ inner m p
unfolding every
inner_put d c zero p h = refl
inner_put d c (suc m) p h = ap₂ ◌&&◌ (inner_put d c m p (omega arith)) (ap (ltb 0) (put_other d m c p (λ e. omega arith)))

counted : (b t : Bool) → count (b && t) ≡ cond t (count b) 0
counted true true = refl
counted true false = refl
counted false true = refl
counted false false = refl

-- a sum of what stands at all places but 0
sum_after_first : (n a : ℕ) → sum (suc n) (λ c. cond (ltb 0 c) a 0) ≡ n * a
unfolding sum
sum_after_first zero a = omega arith
sum_after_first (suc n) a = let ih = sum_after_first n a in rw (lt-ltb 0 (suc n) (omega arith)) (omega (arith, ih))

sum_but_first : (n a : ℕ) → sum n (λ c. cond (ltb 0 c) a 0) ≡ (n - 1) * a
unfolding sum
sum_but_first zero a = omega arith
sum_but_first (suc n) a = let less : suc n - 1 ≡ n = omega arith in rw less (sum_after_first n a)

-- the points away from 0 along each axis
inner_count : (d : ℕ) (n : ℕ → ℕ) → grid d n (λ p. count (inner d p)) ≡ product d (λ i. n i - 1)
unfolding grid product every
inner_count zero n = refl
inner_count (suc d) n =
    sum_cong (n d) _ _ (λ c l. along (inner_count d n) c)
    ∙ sum_but_first (n d) (product d (λ i. n i - 1))
    ∙ omega arith
  where
    along : grid d n (λ p. count (inner d p)) ≡ product d (λ i. n i - 1) → (c : ℕ) →
        grid d n (λ p. count (inner (suc d) (put d c p))) ≡ cond (ltb 0 c) (product d (λ i. n i - 1)) 0
    along ih c = ap (grid d n) (fun_ext each) ∙ by (ltb 0 c)
      where
        each : (p : ℕ → ℕ) → count (inner (suc d) (put d c p)) ≡ cond (ltb 0 c) (count (inner d p)) 0
        each p = counted (inner d (put d c p)) (ltb 0 (put d c p d)) ∙ rw (inner_put d c d p (omega arith), put_same d c p)

        by : (t : Bool) → grid d n (λ p. cond t (count (inner d p)) 0) ≡ cond t (product d (λ i. n i - 1)) 0
        by true = ih
        by false = grid_const d n 0 ∙ omega arith

either : (b : Bool) → count b + count (not b) ≡ 1
either true = refl
either false = refl

-- THEOREM: what a level counts for each leaf is the number of its blocks that touch a low face
pub low_faces : (u : Universe) (l : ℕ) → blocks_at u l - inner_blocks_at u l ≡ grid u.axes (blocks_along u l) (touches_low u.axes)
unfolding blocks_at inner_blocks_at
low_faces u l =
    let d = u.axes in
    let n = blocks_along u l in
    let all : grid d n (λ p. count (inner d p) + touches_low d p) ≡ product d n * 1 = ap (grid d n) (fun_ext (λ p. either (inner d p))) ∙ grid_const d n 1 in
    omega (arith, all, grid_add d n (λ p. count (inner d p)) (touches_low d), inner_count d n)
