-- What all questions over an expression have in common: the checks 2 and then 7, before what else a question checks, and what they leave of an answer. Then the
-- answer and the room of a call that writes.
use mathlib.Core.Path.{◌≡◌, refl, sym, ap, ◌∙◌}
use mathlib.Core.List.{List, [], ◌∷◌, ◌++◌}
use Prim.Native.Nat.{ℕ, ◌*◌, ◌^◌, ◌≤◌, ◌<◌}
use native.Mathlib.Decide.{ℕ_discrete, dec_le}
use native.Mathlib.Omega.{arith}
use borrow.Author.Tests.{eq-eqb, ne_eqb}
use lib.ListN.{length, drop}
use Rattle.universe.specs.declared.Universe.{Universe}
use Rattle.universe.specs.Lent.{room_refusal}
use Rattle.universe.specs.Questions.{levels_answer}
use Rattle.universe.specs.Refusals.{bad_expression, first_refusal}
use Rattle.universe.specs.Universe.{universe_refusal, levels, most_levels}
use Rattle.universe.proofs.Refusing.{last_check}
use Rattle.universe.proofs.Universes.{accepted, levels_few}
use Rattle.universe.proofs.Lent.{untouched, written, room_enough, room_short}
use Rattle.universe.proofs.Questions.{levels_told, levels_answered}
use Rattle.bintree.specs.Told.{WrittenAnswer}
use Rattle.bintree.specs.Shape.{Shape}
use Rattle.bintree.specs.Reading.{none, read, expression, expression_refusal}
use Rattle.bintree.specs.Answers.{unless_refused, well_formed_refusal, refused_writing, short_writing, done_writing, written_answer, written_buffer}
use Rattle.bintree.proofs.Reading.{none_refused, shape_accepted}

-- an answer by its number, and its number again
module _ {A : Type 0} (refused : ℕ → A) (done : A) (n : ℕ) where
  pub is_refused : (n ≡ 0 → ⊥) → refused n ≡ unless_refused n refused done
  is_refused h = rw (ne_eqb n 0 h)

  pub is_done : n ≡ 0 → done ≡ unless_refused n refused done
  is_done h = rw (eq-eqb n 0 h)

  pub number_of : (field : A → ℕ) → ((m : ℕ) → field (refused m) ≡ m) → field done ≡ 0 → field (unless_refused n refused done) ≡ n
  number_of field e f = go (ℕ_discrete n 0)
    where
      go : Dec (n ≡ 0) → field (unless_refused n refused done) ≡ n
      go (yes h) = ap field (sym (is_done h)) ∙ f ∙ sym h
      go (no h) = ap field (sym (is_refused h)) ∙ e n

-- the levels that were asked for are few
pub levels_most : (u : Universe) (count : ℕ) → count ≡ levels_answer u → count ≤ most_levels
levels_most u count f = rw f (levels_answered u)

-- the levels of an accepted universe, and a place below them in an array of numbers
module _ (u : Universe) (ok : universe_refusal u ≡ 0) (count : ℕ) (c : count ≡ levels u) where
  pub accepted_most : count ≤ most_levels
  accepted_most = omega (arith, levels_few u (accepted u ok))

  module _ (n : ℕ) (h : n < count) where
    pub place_fits : n < most_levels
    place_fits = omega (arith, accepted_most)

    pub place_room : n * 8 < 2 ^ 64
    place_room = omega (arith, accepted_most)

-- `number` is what the universe's own check gave
module _ (u : Universe) (number : ℕ) (e : number ≡ universe_refusal u) where
  -- its levels, as code asks for them
  pub asked_levels : (count : ℕ) → number ≡ 0 → count ≡ levels_answer u → count ≡ levels u
  asked_levels count z = levels_told u e z

  -- the checks of an expression and those that a question has after them
  module _ (s more : List ℕ) where
    first_universe : (number ≡ 0 → ⊥) → first_refusal (universe_refusal u ∷ expression_refusal u s ∷ more) ≡ number
    first_universe n = rw (← e, ne_eqb number 0 n)

    first_none : number ≡ 0 → expression u s ≡ none → first_refusal (universe_refusal u ∷ expression_refusal u s ∷ more) ≡ bad_expression
    first_none z x = rw (← e, eq-eqb number 0 z, none_refused u s x)

    pub first_read : (a : Shape) → number ≡ 0 → expression u s ≡ read a → first_refusal (universe_refusal u ∷ expression_refusal u s ∷ more) ≡ first_refusal more
    first_read a z x = rw (← e, eq-eqb number 0 z, shape_accepted u s a x)

    -- an answer refused by them, and one that what comes after them decides
    module _ {A : Type 0} (refused : ℕ → A) (done answer : A) where
      pub answer_universe :
          (number ≡ 0 → ⊥) → answer ≡ refused number →
          answer ≡ unless_refused (first_refusal (universe_refusal u ∷ expression_refusal u s ∷ more)) refused done
      answer_universe n f = f ∙ rw (first_universe n) (is_refused refused done number n)

      pub answer_none :
          number ≡ 0 → expression u s ≡ none → answer ≡ refused bad_expression →
          answer ≡ unless_refused (first_refusal (universe_refusal u ∷ expression_refusal u s ∷ more)) refused done
      answer_none z x f = f ∙ rw (first_none z x)

      pub answer_read :
          (a : Shape) → number ≡ 0 → expression u s ≡ read a → answer ≡ unless_refused (first_refusal more) refused done →
          answer ≡ unless_refused (first_refusal (universe_refusal u ∷ expression_refusal u s ∷ more)) refused done
      answer_read a z x f = f ∙ rw (first_read a z x)

  -- with one check after them, and with none
  pub answer_last :
      {A :
      Type 0} (refused : ℕ →
      A) (done answer : A) (s : List ℕ) (last : ℕ) (a : Shape) → number ≡ 0 → expression u s ≡ read a → answer ≡ unless_refused last refused done →
      answer ≡ unless_refused (first_refusal (universe_refusal u ∷ expression_refusal u s ∷ last ∷ [])) refused done
  answer_last refused done answer s last a z x f = answer_read s (last ∷ []) refused done answer a z x (f ∙ rw (last_check last))

  module _ (s : List ℕ) where
    pub checks_universe : (number ≡ 0 → ⊥) → well_formed_refusal u s ≡ number
    checks_universe = first_universe s []

    pub checks_none : number ≡ 0 → expression u s ≡ none → well_formed_refusal u s ≡ bad_expression
    checks_none = first_none s []

    pub checks_read : (a : Shape) → number ≡ 0 → expression u s ≡ read a → well_formed_refusal u s ≡ 0
    checks_read = first_read s []

-- symbols written into lent room: a refusal before 6, too little room, and room enough; what is left of the room follows from the answer's number
module _ (n : ℕ) (out symbols : List ℕ) where
  pub written_refused : (n ≡ 0 → ⊥) → refused_writing n ≡ written_answer n out symbols
  unfolding written_answer
  written_refused h = rw (ne_eqb n 0 h)

  module _ (z : n ≡ 0) where
    pub written_short : length out < length symbols → short_writing (length symbols) ≡ written_answer n out symbols
    unfolding written_answer
    written_short h = rw (eq-eqb n 0 z, room_short (length out) (length symbols) h)

    pub written_all : length symbols ≤ length out → done_writing (length symbols) ≡ written_answer n out symbols
    unfolding written_answer
    written_all h = rw (eq-eqb n 0 z, room_enough (length out) (length symbols) h)

  -- THEOREM: the number is that of the checks before, then 6
  pub written_number : (written_answer n out symbols).refusal ≡ first_refusal (n ∷ room_refusal (length out) (length symbols) ∷ [])
  written_number = go (ℕ_discrete n 0) (dec_le (length symbols) (length out))
    where
      go :
          Dec (n ≡ 0) → Dec (length symbols ≤ length out) →
          (written_answer n out symbols).refusal ≡ first_refusal (n ∷ room_refusal (length out) (length symbols) ∷ [])
      go (no h) k = rw (← written_refused h, ne_eqb n 0 h)
      go (yes z) (yes k) = rw (← written_all z k, eq-eqb n 0 z, room_enough (length out) (length symbols) k)
      go (yes z) (no k) = rw (← written_short z (omega arith), eq-eqb n 0 z, room_short (length out) (length symbols) (omega arith))

  kept : {answer : WrittenAnswer} → answer ≡ written_answer n out symbols → (answer.refusal ≡ 0 → ⊥) → out ≡ written_buffer n out symbols
  unfolding written_buffer
  kept e h = untouched symbols out (λ z. h (ap (λ (a : WrittenAnswer). a.refusal) e ∙ z))

  pub kept_refused : (n ≡ 0 → ⊥) → out ≡ written_buffer n out symbols
  kept_refused h = kept (written_refused h) h

  module _ (z : n ≡ 0) where
    pub kept_short : length out < length symbols → out ≡ written_buffer n out symbols
    kept_short h = kept (written_short z h) (λ e. omega arith)

    pub left_all : length symbols ≤ length out → symbols ++ drop (length symbols) out ≡ written_buffer n out symbols
    unfolding written_buffer
    left_all h = written symbols out (sym (ap (λ (a : WrittenAnswer). a.refusal) (written_all z h))) refl
