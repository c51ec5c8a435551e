-- A call that writes symbols into lent room keeps its promise where the symbols, read back, show the colours that they are to show and fit into room. The
-- three ends of such a call, one by one: refused before 6, too little room, written.
use Prim.Native.Nat.{ℕ, ◌≤◌, ◌<◌}
use mathlib.Core.Path.{◌≡◌, refl, sym, ap, ◌∙◌}
use mathlib.Core.List.{List, ◌∷◌, ◌++◌}
use native.Mathlib.Omega.{arith}
use native.Mathlib.Decide.{ℕ_discrete, dec_le}
use borrow.Author.Tests.{eq-eqb, ne_eqb}
use lib.ListN.{length, drop}
use lib.Seq.{take-append_seam, drop-append_seam}
use Rattle.universe.specs.declared.Universe.{Universe}
use Rattle.universe.specs.Refusals.{first_refusal}
use Rattle.universe.specs.Universe.{universe_refusal}
use Rattle.universe.specs.Voxel.{voxel_refusal}
use Rattle.universe.specs.Room.{room, room_answer}
use Rattle.bintree.specs.declared.Colour.{Colour}
use Rattle.bintree.specs.Told.{WrittenAnswer}
use Rattle.bintree.specs.Shape.{Shape}
use Rattle.bintree.specs.Reading.{read, expression}
use Rattle.bintree.specs.Answers.{refused_writing, short_writing, done_writing, written_answer, written_buffer}
use Rattle.bintree.specs.Parts.{colour_at, refused_colour, done_colour, colour_answer}
use Rattle.bintree.proofs.Answers.{answer_last, written_refused, written_short, written_all, kept_refused, kept_short, left_all}
use Rattle.promises.specs.Promises.{Promised}

-- ---- checks one after the other

pub first_accepts : (n : ℕ) (ns : List ℕ) → first_refusal (n ∷ ns) ≡ 0 → (n ≡ 0) × (first_refusal ns ≡ 0)
first_accepts n ns e = go (ℕ_discrete n 0)
  where
    go : Dec (n ≡ 0) → (n ≡ 0) × (first_refusal ns ≡ 0)
    go (yes z) = (z, rw (eq-eqb n 0 z) at e)
    go (no f) = absurd (f (rw (ne_eqb n 0 f) at e))

-- ---- the colour question, asked of a well-formed expression

pub colour_accepted : (u : Universe) (s v : List ℕ) (a : Shape) → universe_refusal u ≡ 0 → expression u s ≡ read a → voxel_refusal u v ≡ 0 →
    colour_answer u s v ≡ done_colour (colour_at u a v)
unfolding colour_answer
colour_accepted u s v a ok x w = sym (answer_last u 0 (sym ok) refused_colour _ (done_colour (colour_at u a v)) s (voxel_refusal u v) a refl x (rw (w, x)))

-- ---- what holds of each end of a call that writes holds of the call

module _ (before : ℕ) (out written : List ℕ) (Claim : WrittenAnswer → List ℕ → Type 0) where
  pub at_its_end :
      ((before ≡ 0 → ⊥) → Claim (refused_writing before) out) →
      (before ≡ 0 → length out < length written → Claim (short_writing (length written)) out) →
      (before ≡ 0 → length written ≤ length out → Claim (done_writing (length written)) (written ++ drop (length written) out)) →
      Claim (written_answer before out written) (written_buffer before out written)
  at_its_end refused short done = go (ℕ_discrete before 0) (dec_le (length written) (length out))
    where
      by : {a b : WrittenAnswer} {l m : List ℕ} → a ≡ b → l ≡ m → Claim a l → Claim b m
      by p q k = rw (← p, ← q) k

      go : Dec (before ≡ 0) → Dec (length written ≤ length out) → Claim (written_answer before out written) (written_buffer before out written)
      go (no n) d = by (written_refused before out written n) (kept_refused before out written n) (refused n)
      go (yes z) (no f) =
          let h : length out < length written = omega arith in
          by (written_short before out written z h) (kept_short before out written z h) (short z h)
      go (yes z) (yes h) = by (written_all before out written z h) (left_all before out written z h) (done z h)

-- ---- written or not, the answer tells how many symbols there are

pub length_told : (before : ℕ) (out written : List ℕ) → before ≡ 0 → (written_answer before out written).length ≡ length written
length_told before out written z = go (dec_le (length written) (length out))
  where
    go : Dec (length written ≤ length out) → (written_answer before out written).length ≡ length written
    go (yes h) = rw (← written_all before out written z h)
    go (no f) = rw (← written_short before out written z (let h : length out < length written = omega arith in h))

-- ---- symbols that show colours, and fit

pub record Showing (u : Universe) (leaves balls : ℕ) (colours : List ℕ → Colour) (written : List ℕ) : Type 0 where
  pub accepted : universe_refusal u ≡ 0
  pub shape : Shape
  pub reads : expression u written ≡ read shape
  pub shows : (v : List ℕ) → voxel_refusal u v ≡ 0 → colour_at u shape v ≡ colours v
  pub fits : length written ≤ room u leaves balls

room_told : (u : Universe) (leaves balls : ℕ) → universe_refusal u ≡ 0 → (room_answer u leaves balls).symbols ≡ room u leaves balls
unfolding room_answer
room_told u leaves balls ok = rw (eq-eqb (universe_refusal u) 0 ok)

module _ (u : Universe) (before leaves balls : ℕ) (colours : List ℕ → Colour) (out written : List ℕ)
    (shown : before ≡ 0 → Showing u leaves balls colours written) where
  abbrev Keeps : WrittenAnswer → List ℕ → Type 0
  Keeps answer left = Promised u before leaves balls colours out answer left

  refused : (before ≡ 0 → ⊥) → Keeps (refused_writing before) out
  refused n = record { kept = λ h. refl; behind = λ z. refl; coloured = λ z. absurd (n z); suffices = λ z. absurd (n z) }

  short : before ≡ 0 → length out < length written → Keeps (short_writing (length written)) out
  short z h =
      let s = shown z in
      record {
        kept = λ f. refl;
        behind = λ f. refl;
        coloured = λ f. absurd (omega arith);
        suffices = λ f g. absurd (omega (arith, s.fits, room_told u leaves balls s.accepted));
      }

  done : before ≡ 0 → Keeps (done_writing (length written)) (written ++ drop (length written) out)
  done z =
      let s = shown z in
      record {
        kept = λ f. absurd (f refl);
        behind = λ f. drop-append_seam written (drop (length written) out);
        coloured = λ f v w.
            rw (take-append_seam written (drop (length written) out))
            (colour_accepted u written v s.shape s.accepted s.reads w ∙ ap done_colour (s.shows v w));
        suffices = λ f g. refl;
      }

  pub keeps : Keeps (written_answer before out written) (written_buffer before out written)
  keeps = at_its_end before out written Keeps refused short (λ z h. done z)
