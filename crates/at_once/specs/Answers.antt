-- What the questions answer at once (rules 5.1 and 5.2): a refusal, as a verdict of two trees is refused but for 6, or
-- the verdict of their raw expression over the window; and its first and last frame alone.
use Rattle.std.specs.Prelude.{ℕ, Option, Some, None, List}
use Rattle.universe.specs.declared.Universe.{Universe}
use Rattle.bintree.specs.declared.Verdict.{Verdict}
use Rattle.bintree.specs.declared.Verdict.TheVariants.{Clear, Hit}
use Rattle.bintree.specs.Answers.{unless_refused}
use Rattle.bintree.specs.Verdicts.{verdict}
use Rattle.csg.specs.Surfaces.{Surfaces}
use Rattle.csg.specs.Raw.{raw}
use Rattle.convert.specs.Blocks.{trees_of}
use Rattle.convert.specs.Answers.{clearance_refusal}
use Rattle.at_once.specs.declared.answer.Ends.{Ends}
use Rattle.at_once.specs.Told.{JudgedAnswer, SpannedAnswer}

abbrev pub refused_judged : ℕ → JudgedAnswer
refused_judged number = record { refusal = number; verdict = Clear }

abbrev pub done_judged : Verdict → JudgedAnswer
done_judged v = record { refusal = 0; verdict = v }

-- the verdict of two trees over a window
unfoldable pub verdict_at_once : Universe → Surfaces → List ℕ → List ℕ → ℕ → ℕ → JudgedAnswer
verdict_at_once u surfaces first second from to =
    unless_refused (clearance_refusal u surfaces first second from to) refused_judged
    (done_judged (verdict u (raw u surfaces (trees_of surfaces first second)) from to))

-- the ends of a verdict
abbrev pub span_of : Verdict → Option Ends
span_of Clear = None
span_of (Hit c) = Some (record { first = c.first; last = c.last })

abbrev pub refused_spanned : ℕ → SpannedAnswer
refused_spanned number = record { refusal = number; span = None }

abbrev pub done_spanned : Option Ends → SpannedAnswer
done_spanned s = record { refusal = 0; span = s }

unfoldable pub ends_at_once : Universe → Surfaces → List ℕ → List ℕ → ℕ → ℕ → SpannedAnswer
ends_at_once u surfaces first second from to =
    unless_refused (clearance_refusal u surfaces first second from to) refused_spanned
    (done_spanned (span_of (verdict u (raw u surfaces (trees_of surfaces first second)) from to)))
