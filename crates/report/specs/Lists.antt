-- Rule 5.5: a list of expressions in one slice, one straight after another; each ends where its own tree ends.
use Rattle.std.specs.Prelude.{ℕ, zero, suc, ◌+◌, true, false, cond, List, [], ◌∷◌, eqb, length}
use Rattle.universe.specs.declared.Universe.{Universe}
use Rattle.universe.specs.Refusals.{bad_expression}
use Rattle.universe.specs.Universe.{levels}
use Rattle.bintree.specs.Shape.{Shape, size}
use Rattle.bintree.specs.Reading.{read_at}
use Rattle.bintree.specs.Answers.{of_shape}

-- at most so many expressions are a list
abbrev pub most_expressions : ℕ
most_expressions = 256

-- what bytes say: no list, or one of these shapes
pub data Listing : Type 0 where
  unread : Listing
  shapes : List Shape → Listing

-- one more in front
unfoldable pub with_first : Shape → Listing → Listing
with_first a unread = unread
with_first a (shapes list) = shapes (a ∷ list)

-- the list of at most n expressions that begins at place p and is all that stands there
unfoldable pub list_from : Universe → List ℕ → ℕ → ℕ → Listing
list_from u s zero p = cond (eqb p (length s)) (shapes []) unread
list_from u s (suc n) p =
    elim (eqb p (length s)) [
      | true ↦ shapes []
      | false ↦ of_shape (read_at s (levels u) p) unread (λ a. with_first a (list_from u s n (p + size a)))
    ]

unfoldable pub list_of : Universe → List ℕ → Listing
list_of u s = list_from u s most_expressions 0

-- the shapes of a list; of no list, none
abbrev pub shapes_of : Listing → List Shape
shapes_of unread = []
shapes_of (shapes list) = list

-- rule 8.1, number 7: where there is no list
abbrev pub listing_refusal : Listing → ℕ
listing_refusal unread = bad_expression
listing_refusal (shapes list) = 0

unfoldable pub list_refusal : Universe → List ℕ → ℕ
list_refusal u s = listing_refusal (list_of u s)

-- f summed over a list
unfoldable pub sum_over : {A : Type 0} → List A → (A → ℕ) → ℕ
sum_over [] f = 0
sum_over (a ∷ list) f = f a + sum_over list f
