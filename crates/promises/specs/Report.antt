-- What a caller is promised of a report (rules 5.5 to 5.8): in terms of what the questions for colours and for numbers
-- answer of each expression alone.
use Rattle.std.specs.Prelude.{ℕ, ◌-◌, ◌*◌, ◌^◌, ◌≤◌, ◌<◌, ◌≡◌, List, [], ◌∷◌, ◌++◌, length, get_or, drop}
use Rattle.lemmas.specs.Sums.{sum}
use Rattle.universe.specs.declared.Universe.{Universe}
use Rattle.universe.specs.Refusals.{bad_expression, no_room, first_refusal}
use Rattle.universe.specs.Lent.{room_refusal}
use Rattle.universe.specs.Universe.{universe_refusal, most_levels}
use Rattle.bintree.specs.declared.Verdict.{Verdict}
use Rattle.bintree.specs.declared.Verdict.TheVariants.{Clear, Hit}
use Rattle.bintree.specs.Answers.{well_formed_refusal}
use Rattle.bintree.specs.Verdicts.{window_length, numbers_answer}
use Rattle.demands.specs.Voxels.{black_voxels_at}
use Rattle.report.specs.Told.{ReportAnswer}
use Rattle.report.specs.Lists.{most_expressions, list_refusal, sum_over}
use Rattle.report.specs.Reports.{list_checks}
use Rattle.promises.specs.Shortest.{colours_of}

-- expressions one straight after another
unfoldable pub joined : List (List ℕ) → List ℕ
joined [] = []
joined (e ∷ list) = e ++ joined list

-- each of them is well-formed by itself
pub data AllFormed (u : Universe) : List (List ℕ) → Type 0 where
  none_left : AllFormed u []
  one_more : {e : List ℕ} {list : List (List ℕ)} → well_formed_refusal u e ≡ 0 → AllFormed u list → AllFormed u (e ∷ list)

-- a list of expressions
pub record IsList (u : Universe) (s : List ℕ) : Type 0 where
  pub expressions : List (List ℕ)
  pub few : length expressions ≤ most_expressions
  pub formed : AllFormed u expressions
  pub are : s ≡ joined expressions

-- the black voxels that a verdict counts
abbrev pub voxels_told : Verdict → ℕ
voxels_told Clear = 0
voxels_told (Hit contact) = contact.voxels

-- What an accepted report tells of a list: each entry is the number of voxels of its frame at which the colour question
-- tells BLACK, summed over the expressions; the entries' sum is the total, and so is the sum of what the verdicts
-- count; it is at most the voxels of the largest universe, as often as there may be expressions; and what stands behind
-- the window's frames is what was there.
pub record Tallied (u : Universe) (first last : ℕ) (row : List ℕ) (answer : ReportAnswer) (after : List ℕ)
    (expressions : List (List ℕ)) : Type 0 where
  pub frames : answer.frames ≡ window_length first last
  pub long : length after ≡ length row
  pub entry :
      (c : ℕ) → first ≤ c → c ≤ last →
      get_or after (c - first) 0 ≡ sum_over expressions (λ e. black_voxels_at u (colours_of u e) c)
  pub behind : drop (window_length first last) after ≡ drop (window_length first last) row
  pub entries : sum (window_length first last) (λ c. get_or after c 0) ≡ answer.total
  pub verdicts : answer.total ≡ sum_over expressions (λ e. voxels_told (numbers_answer u e first last).verdict)
  pub most : answer.total ≤ most_expressions * 2 ^ most_levels

-- A report asked of the bytes s over frames first to last answered `answer`, and left `after` of the row that was lent.
pub record Reported (u : Universe) (s : List ℕ) (first last : ℕ) (row : List ℕ) (answer : ReportAnswer) (after : List ℕ) :
    Type 0 where
  -- its number is that of the first check that refuses: 2, 7, 9, and then 6
  pub number :
      let six = room_refusal (length row) (window_length first last) in
      answer.refusal ≡ first_refusal (list_checks u s first last ++ (six ∷ []))
  -- in an accepted universe there is no 7 exactly where the bytes are a list of expressions
  pub taken : universe_refusal u ≡ 0 → IsList u s → list_refusal u s ≡ 0
  pub refused : universe_refusal u ≡ 0 → (IsList u s → ⊥) → list_refusal u s ≡ bad_expression
  -- refused, its total is 0 and the row is as it was; with 6 comes the length that is needed, with another number 0
  pub no_total : (answer.refusal ≡ 0 → ⊥) → answer.total ≡ 0
  pub untouched : (answer.refusal ≡ 0 → ⊥) → after ≡ row
  pub no_frames : (first_refusal (list_checks u s first last) ≡ 0 → ⊥) → answer.frames ≡ 0
  pub needed :
      first_refusal (list_checks u s first last) ≡ 0 → length row < window_length first last →
      (answer.refusal ≡ no_room) × (answer.frames ≡ window_length first last)
  -- else the bytes are a list, and it is told
  pub listed : answer.refusal ≡ 0 → IsList u s
  pub told : answer.refusal ≡ 0 → (l : IsList u s) → Tallied u first last row answer after l.expressions
