-- Of each public function of `at_once`: its contract asks nothing, and two answers that it allows are equal, and so is what the lent buffer holds.
use mathlib.Core.Path.{refl}
use borrow.Fn.World.{World}
use Rattle.at_once.specs.contracts as questions
use Rattle.told_apart.specs.Answers.{TellsApart}
use Rattle.told_apart.proofs.Alike.{same, one, two, behind}
use Rattle.told_apart.proofs.Told.{contacts-read, judged-read, spanned-read, writing-read}

pub at_once_verdict : (w : World) → TellsApart w questions.verdict_at_once.ended questions.verdict_at_once.clauses
at_once_verdict w _ _ = ((tt, refl), λ _ _ _ _ _. one w (λ p q. (judged-read _ _ (same p q), refl)))

pub at_once_contacts : (w : World) → TellsApart w questions.contacts_of_two.ended questions.contacts_of_two.clauses
at_once_contacts w _ _ = ((tt, refl), λ _ _ _ _ _. one w (λ p q. (contacts-read _ _ (same p q), refl)))

pub at_once_ends : (w : World) → TellsApart w questions.ends_at_once.ended questions.ends_at_once.clauses
at_once_ends w _ _ = ((tt, refl), λ _ _ _ _ _. one w (λ p q. (spanned-read _ _ (same p q), refl)))

pub at_once_merged_of_one : (w : World) → TellsApart w questions.merged_of_one.ended questions.merged_of_one.clauses
at_once_merged_of_one w _ _ = ((tt, refl), λ _ _ _ _ _. two w (λ p q. (writing-read _ _ (same p.0 q.0), λ i. behind 4 (same p.1 q.1 i, tt))))

pub at_once_merged_of_two : (w : World) → TellsApart w questions.merged_of_two.ended questions.merged_of_two.clauses
at_once_merged_of_two w _ _ = ((tt, refl), λ _ _ _ _ _. two w (λ p q. (writing-read _ _ (same p.0 q.0), λ i. behind 5 (same p.1 q.1 i, tt))))

pub at_once_raw_of_one : (w : World) → TellsApart w questions.raw_of_one.ended questions.raw_of_one.clauses
at_once_raw_of_one w _ _ = ((tt, refl), λ _ _ _ _ _. two w (λ p q. (writing-read _ _ (same p.0 q.0), λ i. behind 4 (same p.1 q.1 i, tt))))

pub at_once_raw_of_two : (w : World) → TellsApart w questions.raw_of_two.ended questions.raw_of_two.clauses
at_once_raw_of_two w _ _ = ((tt, refl), λ _ _ _ _ _. two w (λ p q. (writing-read _ _ (same p.0 q.0), λ i. behind 5 (same p.1 q.1 i, tt))))
