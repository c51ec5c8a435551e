-- Rules 4.3, 4.10 and 4.13: merged is what is left once every halved block whose parts are two leaves of one colour has
-- been replaced by that leaf, again and again; how much merging holds back; and what it answers and writes.
use Rattle.std.specs.Prelude.{ℕ, ◌+◌, max, Bool, true, false, cond, not, ◌&&◌, List, [], ◌∷◌, ◌++◌, eqb}
use Rattle.universe.specs.declared.Universe.{Universe}
use Rattle.universe.specs.Refusals.{no_room}
use Rattle.bintree.specs.declared.Colour.{Colour}
use Rattle.bintree.specs.declared.Colour.TheVariants.{White, Black}
use Rattle.bintree.specs.Told.{WrittenAnswer, MergedAnswer}
use Rattle.bintree.specs.Shape.{Shape, leaf, halved, symbol_of, symbols}
use Rattle.bintree.specs.Reading.{expression}
use Rattle.bintree.specs.Answers.{of_shape, well_formed_refusal, written_answer, written_buffer}

-- two parts that hold no pair to replace, joined so that none is left
unfoldable pub join : Shape → Shape → Shape
join (leaf Black) (leaf Black) = leaf Black
join (leaf White) (leaf White) = leaf White
join (leaf Black) (leaf White) = halved (leaf Black) (leaf White)
join (leaf White) (leaf Black) = halved (leaf White) (leaf Black)
join (leaf c) (halved a b) = halved (leaf c) (halved a b)
join (halved a b) s = halved (halved a b) s

-- rule 4.3: the merged shape
unfoldable pub merged : Shape → Shape
merged (leaf c) = leaf c
merged (halved a b) = join (merged a) (merged b)

-- one replacement, anywhere in a shape: what `merged` is made of, and cannot go on (proofs/Merging.antt)
pub data Replaces : Shape → Shape → Type 0 where
  here : (c : Colour) → Replaces (halved (leaf c) (leaf c)) (leaf c)
  in_low : {a b : Shape} (h : Shape) → Replaces a b → Replaces (halved a h) (halved b h)
  in_high : {a b : Shape} (l : Shape) → Replaces a b → Replaces (halved l a) (halved l b)

-- replacements one after the other
pub data Becomes : Shape → Shape → Type 0 where
  none : (s : Shape) → Becomes s s
  next : {s t v : Shape} → Replaces s t → Becomes t v → Becomes s v

-- two leaves of one colour
unfoldable pub is_pair : Shape → Shape → Bool
is_pair (leaf c) (leaf d) = eqb (symbol_of c) (symbol_of d)
is_pair (leaf c) (halved a b) = false
is_pair (halved a b) s = false

-- whether no such pair is left
unfoldable pub is_merged : Shape → Bool
is_merged (leaf c) = true
is_merged (halved a b) = not (is_pair a b) && is_merged a && is_merged b

-- rule 4.13: while an expression is received, how many symbols at the end of the merged text so far could still become
-- one symbol of colour c. So many are `run` before a halved block; after its low part, these many
unfoldable pub onward : Colour → ℕ → Shape → ℕ
onward c run low = cond (is_pair (leaf c) (merged low)) (run + 2) 0

-- the larger of the two colours' numbers after each symbol of a shape but its last
unfoldable pub held_in : ℕ → ℕ → Shape → List ℕ
held_in black white (leaf c) = []
held_in black white (halved l h) =
    max (black + 1) (white + 1) ∷ (held_in (black + 1) (white + 1) l
    ++ (max (onward Black black l) (onward White white l) ∷ held_in (onward Black black l) (onward White white l) h))

-- what is held after each symbol of an expression: none after its last. Crate `held` says what is held over all legal
-- continuations, and proves that it is this
unfoldable pub held_after : Shape → List ℕ
held_after s = held_in 0 0 s ++ (0 ∷ [])

unfoldable pub largest : List ℕ → ℕ
largest [] = 0
largest (x ∷ l) = max x (largest l)

unfoldable pub most_held : Shape → ℕ
most_held s = largest (held_after s)

-- rule 4.10: merging writes the merged expression
abbrev pub merged_symbols : Universe → List ℕ → List ℕ
merged_symbols u s = of_shape (expression u s) [] (λ a. symbols (merged a))

-- merging is refused, has too little room, or is done
abbrev pub refused_merging : ℕ → MergedAnswer
refused_merging number = record { refusal = number; length = 0; held = 0 }

abbrev pub short_merging : ℕ → MergedAnswer
short_merging needed = record { refusal = no_room; length = needed; held = 0 }

abbrev pub done_merging : ℕ → ℕ → MergedAnswer
done_merging written held = record { refusal = 0; length = written; held = held }

-- its answer is that of a call that writes, with the largest held count; 0 on every refusal
abbrev pub with_held : ℕ → WrittenAnswer → MergedAnswer
with_held held answer =
    record { refusal = answer.refusal; length = answer.length; held = cond (eqb answer.refusal 0) held 0 }

unfoldable pub merge_answer : Universe → List ℕ → List ℕ → MergedAnswer
merge_answer u s out =
    with_held (of_shape (expression u s) 0 most_held)
    (written_answer (well_formed_refusal u s) out (merged_symbols u s))

unfoldable pub merge_buffer : Universe → List ℕ → List ℕ → List ℕ
merge_buffer u s out = written_buffer (well_formed_refusal u s) out (merged_symbols u s)
