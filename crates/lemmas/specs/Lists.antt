-- Lists of numbers: how often a number stands in one, and lists of numbers below d.
use Rattle.std.specs.Prelude.{ℕ, ◌+◌, ◌<◌, List, [], ◌∷◌, eqb}
use Rattle.lemmas.specs.Grid.{count}

-- how often i stands in a list
unfoldable pub occurrences : ℕ → List ℕ → ℕ
occurrences i [] = 0
occurrences i (x ∷ xs) = count (eqb x i) + occurrences i xs

-- every number of the list is below d
pub data Below (d : ℕ) : List ℕ → Type 0 where
  none : Below d []
  more : {x : ℕ} {xs : List ℕ} → x < d → Below d xs → Below d (x ∷ xs)
