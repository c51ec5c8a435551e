-- Rules 17.1 to 17.3: what a supervisor is promised of the answers at once, in terms of what the two calls answer, of
-- what the verdict's call answers on the same scene, and of the voxels' colours.
use Rattle.std.specs.Prelude.{ℕ, ◌≡◌, List}
use Rattle.universe.specs.declared.Universe.{Universe}
use Rattle.universe.specs.Refusals.{no_room}
use Rattle.bintree.specs.declared.Verdict.TheVariants.{Clear}
use Rattle.csg.specs.Surfaces.{Surfaces}
use Rattle.demands.specs.Verdicts.{Judges}
use Rattle.convert.specs.Answers.{clearance_refusal, clearance_answer}
use Rattle.at_once.specs.Told.{JudgedAnswer, SpannedAnswer}
use Rattle.at_once.specs.Answers.{span_of}
use Rattle.promises.specs.Contacts.{shared_colour}

-- The two calls over two trees and the frames `from` to `to`, both ends in, answered `judged` and `spanned`.
pub record AtOnce
    (u : Universe) (surfaces : Surfaces) (first second : List ℕ) (from to : ℕ) (judged : JudgedAnswer)
    (spanned : SpannedAnswer) : Type 0 where
  -- both are refused as the verdict is before room is asked for, never for room, and then they are Clear
  pub number : judged.refusal ≡ clearance_refusal u surfaces first second from to
  pub same_number : spanned.refusal ≡ judged.refusal
  pub never_six : judged.refusal ≡ no_room → ⊥
  pub clear : (judged.refusal ≡ 0 → ⊥) → judged.verdict ≡ Clear
  -- the verdict is what the colours of the window's voxels say: both trees BLACK at a voxel's centre
  pub judges : judged.refusal ≡ 0 → Judges u (shared_colour u surfaces first second) from to judged.verdict
  -- it is the verdict that is answered on the same scene, wherever that is not refused for room
  pub same_verdict : (out : List ℕ) → ((clearance_answer u surfaces first second from to out).refusal ≡ no_room → ⊥) →
      (judged.refusal ≡ (clearance_answer u surfaces first second from to out).refusal)
      × (judged.verdict ≡ (clearance_answer u surfaces first second from to out).verdict)
  -- and the ends are its ends
  pub ends : spanned.span ≡ span_of judged.verdict
