-- Rule 4.13: what is held back of an expression that is received symbol by symbol. A text is a list of symbols, a whole
-- expression or not.
use Rattle.std.specs.Prelude.{ℕ, zero, suc, ◌+◌, ◌-◌, ◌*◌, ◌≤◌, ◌≡◌, Bool, cond, ◌&&◌, ◌||◌, List, [], ◌∷◌, ◌++◌, eqb, length, take}
use Rattle.universe.specs.declared.Universe.{Universe}
use Rattle.universe.specs.Universe.{levels}
use Rattle.bintree.specs.declared.Colour.TheVariants.{White, Black}
use Rattle.bintree.specs.Told.{MergedAnswer}
use Rattle.bintree.specs.Shape.{Shape, leaf, halved, open_symbol, symbol_of}
use Rattle.bintree.specs.Reading.{expression_refusal}
use Rattle.bintree.specs.Merging.{merged_symbols}

-- `(BB` or `(WW`
abbrev pub is_triple : ℕ → ℕ → ℕ → Bool
is_triple x y z = eqb x open_symbol && ((eqb y (symbol_of Black) || eqb y (symbol_of White)) && eqb y z)

-- a symbol in front of a merged text, merged
unfoldable pub in_front : ℕ → List ℕ → List ℕ
in_front x [] = x ∷ []
in_front x (y ∷ []) = x ∷ y ∷ []
in_front x (y ∷ z ∷ m) = cond (is_triple x y z) (y ∷ m) (x ∷ y ∷ z ∷ m)

-- the merged text: every `(BB` and `(WW` replaced, until none is left (proofs/Rewriting.antt shows that it is this)
unfoldable pub merged_text : List ℕ → List ℕ
merged_text [] = []
merged_text (x ∷ t) = in_front x (merged_text t)

-- x begins y
pub record Begins (x y : List ℕ) : Type 0 where
  pub rest : List ℕ
  pub is : y ≡ x ++ rest

-- the first n symbols of the merged text so far begin the merged expression of every legal continuation: of every text
-- that completes what was read to a well-formed expression of the universe
pub record Fixed (u : Universe) (text : List ℕ) (n : ℕ) : Type 0 where
  pub within : n ≤ length (merged_text text)
  pub always : (more : List ℕ) → expression_refusal u (text ++ more) ≡ 0
      → Begins (take n (merged_text text)) (merged_symbols u (text ++ more))

-- h symbols are held: those after the longest such beginning
pub record Held (u : Universe) (text : List ℕ) (h : ℕ) : Type 0 where
  pub within : h ≤ length (merged_text text)
  pub fixed : Fixed u text (length (merged_text text) - h)
  pub longest : (n : ℕ) → Fixed u text n → n + h ≤ length (merged_text text)

-- m is the largest count that is held after a symbol of an expression
pub record LargestHeld (u : Universe) (text : List ℕ) (m : ℕ) : Type 0 where
  pub most : (n h : ℕ) → 1 ≤ n → n ≤ length text → Held u (take n text) h → h ≤ m
  pub after : ℕ
  pub read : (1 ≤ after) × (after ≤ length text)
  pub attained : Held u (take after text) m

-- what is promised of merging these bytes: the held count of an answer that refuses nothing is the largest; that of a
-- refused one, 6 too, is 0; and it is at most twice the levels
pub record HeldBack (u : Universe) (bytes : List ℕ) (answer : MergedAnswer) : Type 0 where
  pub largest : answer.refusal ≡ 0 → LargestHeld u bytes answer.held
  pub none : (answer.refusal ≡ 0 → ⊥) → answer.held ≡ 0
  pub few : answer.held ≤ 2 * levels u

-- `(B(B..W` of n levels, of which twice as many symbols are held at last
unfoldable pub at_bound : ℕ → Shape
at_bound zero = leaf White
at_bound (suc n) = halved (leaf Black) (at_bound n)
