-- Rules 5.5 to 5.8, both sides of their edges: what a report answers and what it leaves of the row lent, as one list. A
-- case is one line: what is asked, and what must be answered and stand there. Every place of the rows lent holds 9.
use Rattle.std.specs.Prelude.{ℕ, ◌≡◌, List, [], ◌∷◌, ◌++◌, map, replicate}
use Rattle.report.specs.Told.{ReportAnswer}
use Rattle.report.specs.Reports.{refused_report, short_report, done_report, report_answer, report_row}
use Rattle.cases.specs.Cases.{universe, text}

pub record Reported : Type 0 where
  pub answer : ReportAnswer
  pub row : List ℕ

pub record ReportCase : Type 0 where
  pub asked : Reported
  pub expected : Reported

abbrev pub ◌gives◌ : Reported → Reported → ReportCase
◌gives◌ a b = record { asked = a; expected = b }

infix 4 ◌gives◌
-- a list in a universe of d axes and k bits, over frames first to last, with so many places lent
abbrev pub asked : ℕ → ℕ → List ℕ → ℕ → ℕ → ℕ → Reported
asked d k s first last lent =
    let row = replicate {A = ℕ} lent 9 in
    record { answer = report_answer (universe d k) s first last row; row = report_row (universe d k) s first last row }

-- a refusal, with the row as it was; or so many frames and their total, and the row
abbrev pub refused : ℕ → ℕ → Reported
refused number lent = record { answer = refused_report number; row = replicate {A = ℕ} lent 9 }

abbrev pub short : ℕ → ℕ → Reported
short needed lent = record { answer = short_report needed; row = replicate {A = ℕ} lent 9 }

abbrev pub done : ℕ → ℕ → List ℕ → Reported
done frames total row = record { answer = done_report frames total; row = row }

-- the raw expression of the program's scene, and that of case 1
abbrev pub scene : List ℕ
scene = text "(W(((WBW((BWW"

abbrev pub slope : List ℕ
slope = text "(((W(BWW(B((BWB"

abbrev pub report_cases : List ReportCase
report_cases =
    -- the empty list
    (asked 2 2 [] 0 3 4 gives done 4 0 (replicate 4 0))
    -- as many expressions as there may be, and one more
    ∷ (asked 1 0 (replicate 256 66) 0 0 1 gives done 1 256 (256 ∷ []))
    ∷ (asked 1 0 (replicate 257 66) 0 0 1 gives refused 7 1)
    -- the program's scene, and twice
    ∷ (asked 2 2 scene 0 3 4 gives done 4 2 (0 ∷ 1 ∷ 1 ∷ 0 ∷ []))
    ∷ (asked 2 2 (scene ++ scene) 0 3 4 gives done 4 4 (0 ∷ 2 ∷ 2 ∷ 0 ∷ []))
    -- two that differ
    ∷ (asked 2 2 (scene ++ slope) 0 3 4 gives done 4 10 (3 ∷ 3 ∷ 3 ∷ 1 ∷ []))
    -- one frame at each end
    ∷ (asked 2 2 slope 0 0 1 gives done 1 3 (3 ∷ []))
    ∷ (asked 2 2 slope 3 3 1 gives done 1 1 (1 ∷ []))
    -- a row one place short, and one too long
    ∷ (asked 2 2 slope 0 3 3 gives short 4 3)
    ∷ (asked 2 2 slope 0 3 5 gives done 4 8 (3 ∷ 2 ∷ 2 ∷ 1 ∷ 9 ∷ []))
    -- rubbish behind a list, and half a tree
    ∷ (asked 2 2 (scene ++ text ")") 0 3 4 gives refused 7 4)
    ∷ (asked 2 2 (scene ++ text "(W") 0 3 4 gives refused 7 4)
    -- each refusal comes before the faults behind it
    ∷ (asked 5 2 (text "(B") 2 1 0 gives refused 2 0)
    ∷ (asked 2 2 (text "(B") 2 1 0 gives refused 7 0)
    ∷ (asked 2 2 (text "B") 0 4 0 gives refused 9 0)
    ∷ (asked 2 2 [] 2 1 0 gives refused 9 0)
    ∷ (asked 2 2 [] 0 3 0 gives short 4 0)
    ∷ []

-- every one is answered as it must be
abbrev pub ReportsHold : Type 0
ReportsHold = map (λ c. c.asked) report_cases ≡ map (λ c. c.expected) report_cases
