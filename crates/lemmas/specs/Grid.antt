-- Sums over a grid. A point has a place along each axis; a grid of d axes holds the points with a place below n i along
-- each axis i < d, and 0 along the others.
use Rattle.std.specs.Prelude.{ℕ, zero, suc, ◌+◌, Bool, cond, ◌&&◌, List, [], ◌∷◌, eqb, ltb}
use Rattle.lemmas.specs.Sums.{sum}

-- 1 where a test holds, else 0
abbrev pub count : Bool → ℕ
count t = cond t 1 0

-- the point p with the place c along axis a
unfoldable pub put : ℕ → ℕ → (ℕ → ℕ) → ℕ → ℕ
put a c p i = cond (eqb a i) c (p i)

-- f summed over all points of the grid
unfoldable pub grid : ℕ → (ℕ → ℕ) → ((ℕ → ℕ) → ℕ) → ℕ
grid zero n f = f (λ i. 0)
grid (suc d) n f = sum (n d) (λ c. grid d n (λ p. f (put d c p)))

-- of the cell of d axes that begins at the point p, the corner that is one further along the axes which s names
unfoldable pub stepped : ℕ → (ℕ → Bool) → (ℕ → ℕ) → ℕ → ℕ
stepped d s p i = p i + count (ltb i d && s i)

-- what a rule gives at the places 0 to n − 1, listed: the places of a point, numbers that stand one after the other
unfoldable pub listed : {A : Type 0} → ℕ → (ℕ → A) → List A
listed zero f = []
listed (suc n) f = f 0 ∷ listed n (λ i. f (suc i))
