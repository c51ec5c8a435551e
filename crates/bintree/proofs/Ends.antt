-- How a call ends that writes symbols where they fit, in answer and room: a check refuses, too little room is lent, or it writes. Its checks are two, of which
-- the second may be that of an expression.
use mathlib.Core.Path.{◌≡◌, refl, sym, ◌∙◌}
use mathlib.Core.List.{List, [], ◌∷◌}
use Prim.Native.Nat.{ℕ, ◌≤◌, ◌<◌}
use native.Mathlib.Omega.{arith}
use borrow.Author.Tests.{eq-eqb, ne_eqb}
use lib.ListN.{length}
use lib.Seq.{sets}
use Rattle.lemmas.proofs.Stores.{sets_first}
use Rattle.universe.specs.declared.Universe.{Universe}
use Rattle.universe.specs.declared.refusal.Refusal.{Refusal}
use Rattle.universe.specs.Refusals.{first_refusal}
use Rattle.universe.specs.Told.{number_of}
use Rattle.universe.specs.Universe.{universe_refusal}
use Rattle.universe.proofs.Refusing.{last_check}
use Rattle.universe.proofs.Telling.{number-not_zero}
use Rattle.bintree.specs.Told.{WrittenAnswer}
use Rattle.bintree.specs.Reading.{expression_refusal}
use Rattle.bintree.specs.Answers.{well_formed_refusal, refused_writing, short_writing, done_writing, written_answer, written_buffer}
use Rattle.bintree.proofs.Answers.{written_refused, written_short, written_all, kept_refused, kept_short, left_all}

-- what the checks of an expression tell after that of the universe
pub expression_told : (u : Universe) (s : List ℕ) {m : ℕ} → universe_refusal u ≡ 0 → m ≡ well_formed_refusal u s → m ≡ expression_refusal u s
expression_told u s e f = f ∙ rw (eq-eqb (universe_refusal u) 0 e) (last_check (expression_refusal u s))

module _ (out symbols : List ℕ) where
  -- the answer and the room, where the checks before 6 give n
  abbrev pub Ends : ℕ → WrittenAnswer → List ℕ → Type 0
  Ends n answer left = (answer ≡ written_answer n out symbols) × (left ≡ written_buffer n out symbols)

  ends_refused : (r : Refusal) {n : ℕ} → number_of r ≡ n → Ends n (refused_writing (number_of r)) out
  ends_refused r e =
      let h = number-not_zero r in
      rw (← e) (written_refused (number_of r) out symbols h, kept_refused (number_of r) out symbols h)

  -- the first check refuses, or the second
  pub ends_first : (r : Refusal) {a : ℕ} (more : List ℕ) → number_of r ≡ a → Ends (first_refusal (a ∷ more)) (refused_writing (number_of r)) out
  ends_first r more e = ends_refused r (rw (← e, ne_eqb (number_of r) 0 (number-not_zero r)))

  pub ends_second : (r : Refusal) {a b : ℕ} → 0 ≡ a → number_of r ≡ b → Ends (first_refusal (a ∷ b ∷ [])) (refused_writing (number_of r)) out
  ends_second r e f = ends_refused r (rw (← e, ← f) (sym (last_check (number_of r))))

  -- neither does, so that room decides
  pub ends_checked : {a b : ℕ} {answer : WrittenAnswer} {left : List ℕ} → 0 ≡ a → 0 ≡ b → Ends 0 answer left → Ends (first_refusal (a ∷ b ∷ [])) answer left
  ends_checked e f p = rw (← e, ← f) p

  pub ends_short : {k : ℕ} → k ≡ length symbols → length out < k → Ends 0 (short_writing k) out
  ends_short e h = rw e (written_short 0 out symbols refl (omega arith), kept_short 0 out symbols refl (omega arith))

  pub ends_written : {k : ℕ} {left : List ℕ} → k ≡ length symbols → k ≤ length out → left ≡ sets out 0 symbols → Ends 0 (done_writing k) left
  ends_written e h f =
      let fits : length symbols ≤ length out = omega arith in
      rw (e, f) (written_all 0 out symbols refl fits, sets_first symbols out fits ∙ left_all 0 out symbols refl fits)
