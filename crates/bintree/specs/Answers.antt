-- Rules 8.3 to 8.5: what all questions over an expression have in common. The first of the checks, in the order 2, 7,
-- 9, that refuses is the answer's number, and the rest of the answer is zero; a call that writes symbols (or bytes)
-- into lent room then asks for room, 6.
use Rattle.std.specs.Prelude.{ℕ, cond, List, [], ◌∷◌, eqb, length}
use Rattle.universe.specs.declared.Universe.{Universe}
use Rattle.universe.specs.Refusals.{no_room, first_refusal}
use Rattle.universe.specs.Lent.{overwritten, room_refusal}
use Rattle.universe.specs.Universe.{universe_refusal}
use Rattle.bintree.specs.Told.{WrittenAnswer}
use Rattle.bintree.specs.Shape.{Shape}
use Rattle.bintree.specs.Reading.{Reading, none, read, expression_refusal}

-- of the shape that is read, or what stands for it where there is none
abbrev pub of_shape : {A : Type 0} → Reading → A → (Shape → A) → A
of_shape none other of = other
of_shape (read a) other of = of a

-- an answer by its number: refused with it, or done where it is 0
abbrev pub unless_refused : {A : Type 0} → ℕ → (ℕ → A) → A → A
unless_refused number refused done = cond (eqb number 0) done (refused number)

-- rule 8.5: the checks of an expression, 2 and then 7
abbrev pub expression_checks : Universe → List ℕ → List ℕ
expression_checks u s = universe_refusal u ∷ expression_refusal u s ∷ []

abbrev pub well_formed_refusal : Universe → List ℕ → ℕ
well_formed_refusal u s = first_refusal (expression_checks u s)

-- a call that writes is refused, has too little room, or is done; rule 8.3: with 6 comes the length that is needed, and
-- with another number 0
abbrev pub refused_writing : ℕ → WrittenAnswer
refused_writing number = record { refusal = number; length = 0 }

abbrev pub short_writing : ℕ → WrittenAnswer
short_writing needed = record { refusal = no_room; length = needed }

abbrev pub done_writing : ℕ → WrittenAnswer
done_writing written = record { refusal = 0; length = written }

-- what a call answers that writes these symbols into the room `out`: `refusal` is that of the checks before 6
unfoldable pub written_answer : ℕ → List ℕ → List ℕ → WrittenAnswer
written_answer refusal out symbols =
    unless_refused refusal refused_writing
    (unless_refused (room_refusal (length out) (length symbols)) (λ six. short_writing (length symbols))
    (done_writing (length symbols)))

-- and what it leaves there (rule 8.4)
unfoldable pub written_buffer : ℕ → List ℕ → List ℕ → List ℕ
written_buffer refusal out symbols = overwritten (written_answer refusal out symbols).refusal symbols out
