-- The answer of the call: refused by a check, refused for room by the largest need, or done where every stretch fits; it fits where the formula's room is lent.
use Prim.Native.Nat.{ℕ, ◌+◌, ◌-◌, ◌≤◌, ◌<◌}
use native.Mathlib.Omega.{arith}
use mathlib.Core.Path.{◌≡◌, refl, sym, ap, ◌∙◌}
use mathlib.Core.Bool.{Bool, true}
use mathlib.Core.List.{List}
use borrow.Author.Tests.{leb-true, le-leb, lt-leb, eq-eqb, ne_eqb}
use lib.Dec.{leb}
use lib.ListN.{length}
use Rattle.universe.specs.declared.Universe.{Universe}
use Rattle.universe.specs.Refusals.{no_room}
use Rattle.universe.specs.Room.{room}
use Rattle.csg.specs.Surfaces.{Surfaces, named}
use Rattle.csg.specs.Words.{most_words, halfspace_words, ball_words}
use Rattle.csg.proofs.Words.{accepted_length}
use Rattle.convert.specs.Told.{ClearanceAnswer}
use Rattle.convert.specs.Answers.{refused_clearance, done_clearance}
use Rattle.mover.specs.Keys.{Mover}
use Rattle.mover.specs.Stretches.{stretches}
use Rattle.mover.specs.Frames.{stretch_raw, mover_verdict}
use Rattle.mover.specs.Answers.{box_rows, mover_checks, mover_refusal, largest_need, mover_answer, after_stretches}
use Rattle.mover.specs.Answers.{mover_buffer}
use Rattle.mover.specs.Ready.{Ready, Fits}
use Rattle.mover.proofs.Trees.{stretch_fits}
use Rattle.mover.proofs.Judging.{most_needs}

module _ {u : Universe} {m : Mover} {surfaces : Surfaces} {words : List ℕ} (r : Ready u m surfaces words) where
  -- as much room as the formula says is enough for every stretch
  pub room_asks : length words ≤ most_words
  room_asks = accepted_length (named surfaces) words r.accepted_tree

  module _ {out : List ℕ} where
    pub room_enough : {v : Universe} {b : Bool} → v ≡ u → b ≡ leb (room v (halfspace_words words + box_rows) (ball_words words)) (length out) →
        b ≡ true → Fits u m surfaces words out
    unfolding largest_need
    room_enough same e t =
        let enough = leb-true (room u (halfspace_words words + box_rows) (ball_words words)) (length out) (rw same at (sym e ∙ t)) in
        record {
          ready = r;
          room =
              most_needs (stretches m.moments) (λ i. length (stretch_raw u m surfaces words i)) (length out)
              (λ i l. omega (arith, stretch_fits r i (omega arith)));
        }

    pub room_needed : {need : ℕ} → need ≡ largest_need u m surfaces words → need ≤ length out → Fits u m surfaces words out
    room_needed e h = record { ready = r; room = omega arith }

  none_refuses : mover_refusal u m surfaces words ≡ 0
  unfolding mover_checks
  none_refuses =
      rw (
        r.accepted_axes,
        r.accepted_box,
        r.accepted_corners,
        r.accepted_keys,
        r.accepted_steps,
        r.accepted_rows,
        r.accepted_balls,
        r.accepted_tree,
      )

-- ---- the three ends of the call
module _ (u : Universe) (m : Mover) (surfaces : Surfaces) (words out : List ℕ) where
  abbrev Ends : ClearanceAnswer → List ℕ → Type 0
  Ends answer left = (answer ≡ mover_answer u m surfaces words out) × (left ≡ mover_buffer u m surfaces words out)

  -- an answer that refuses leaves the room as it was
  kept : {answer : ClearanceAnswer} → answer ≡ mover_answer u m surfaces words out → (answer.refusal ≡ 0 → ⊥) → Ends answer out
  unfolding mover_buffer
  kept {answer} e h =
      let n : (mover_answer u m surfaces words out).refusal ≡ 0 → ⊥ = λ z. h (ap (λ (x : ClearanceAnswer). x.refusal) e ∙ z) in
      (e, rw (ne_eqb (mover_answer u m surfaces words out).refusal 0 n))

  module _ {n : ℕ} (e : n ≡ mover_refusal u m surfaces words) where
    pub ends_refused : (n ≡ 0 → ⊥) → {answer : ClearanceAnswer} → answer ≡ refused_clearance n 0 → Ends answer out
    unfolding mover_answer
    ends_refused h a = kept (a ∙ rw (← e, ne_eqb n 0 h)) (λ z. h (sym (ap (λ (x : ClearanceAnswer). x.refusal) a) ∙ z))

    module _ (z : n ≡ 0) where
      pub ends_short : {need : ℕ} → need ≡ largest_need u m surfaces words → length out < need → {answer : ClearanceAnswer} →
          answer ≡ refused_clearance no_room need → Ends answer out
      unfolding mover_answer
      ends_short {need} f h a =
          kept (a ∙ rw (← e, eq-eqb n 0 z, ← f, lt-leb need (length out) h)) (λ y. omega (arith, ap (λ (x : ClearanceAnswer). x.refusal) a))

      pub ends_done : largest_need u m surfaces words ≤ length out → {answer : ClearanceAnswer} {left : List ℕ} →
          answer ≡ done_clearance (mover_verdict u m surfaces words) (length (stretch_raw u m surfaces words (stretches m.moments - 1))) →
          left ≡ after_stretches u m surfaces words out (stretches m.moments) → Ends answer left
      unfolding mover_answer mover_buffer
      ends_done h a b = (
        a ∙ rw (← e, eq-eqb n 0 z, le-leb (largest_need u m surfaces words) (length out) h),
        b ∙ rw (← e, eq-eqb n 0 z, le-leb (largest_need u m surfaces words) (length out) h),
      )

module _ {u : Universe} {m : Mover} {surfaces : Surfaces} {words out : List ℕ} (f : Fits u m surfaces words out) where
  pub ends_fitting : {answer : ClearanceAnswer} {left : List ℕ} →
      answer ≡ done_clearance (mover_verdict u m surfaces words) (length (stretch_raw u m surfaces words (stretches m.moments - 1))) →
      left ≡ after_stretches u m surfaces words out (stretches m.moments) → Ends u m surfaces words out answer left
  ends_fitting a b = ends_done u m surfaces words out refl (none_refuses f.ready) f.room a b
