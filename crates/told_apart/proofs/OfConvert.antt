-- Of each public function of `convert`: its contract asks nothing, and two answers that it allows are equal, and so is what the lent buffer holds.
use mathlib.Core.Path.{refl}
use borrow.Fn.World.{World}
use Rattle.convert.specs.contracts as convert
use Rattle.told_apart.specs.Answers.{TellsApart}
use Rattle.told_apart.proofs.Alike.{same, one, two, behind}
use Rattle.universe.proofs.Telling.{told-injective}
use Rattle.told_apart.proofs.Told.{clearance-read, writing-read}

pub convert_check_scene : (w : World) → TellsApart w convert.check_scene.ended convert.check_scene.clauses
convert_check_scene w _ _ = ((tt, refl), λ _ _ _ _ _. one w (λ p q. (told-injective _ _ (same p q), refl)))

pub convert_tested_code : (w : World) → TellsApart w convert.tested_code.ended convert.tested_code.clauses
convert_tested_code w _ _ = ((tt, refl), λ _ _ _ _ _. one w (λ p q. (same p q, refl)))

pub convert_symbol_of : (w : World) → TellsApart w convert.symbol_of.ended convert.symbol_of.clauses
convert_symbol_of w _ _ = ((tt, refl), λ _ _ _ _ _. one w (λ p q. (same p q, refl)))

pub convert_is_one : (w : World) → TellsApart w convert.is_one.ended convert.is_one.clauses
convert_is_one w _ _ = ((tt, refl), λ _ _ _ _ _. one w (λ p q. (same p q, refl)))

pub convert_raw_of_one : (w : World) → TellsApart w convert.raw_of_one.ended convert.raw_of_one.clauses
convert_raw_of_one w _ _ = ((tt, refl), λ _ _ _ _ _. two w (λ p q. (writing-read _ _ (same p.0 q.0), λ i. behind 4 (same p.1 q.1 i, tt))))

pub convert_raw_of_two : (w : World) → TellsApart w convert.raw_of_two.ended convert.raw_of_two.clauses
convert_raw_of_two w _ _ = ((tt, refl), λ _ _ _ _ _. two w (λ p q. (writing-read _ _ (same p.0 q.0), λ i. behind 5 (same p.1 q.1 i, tt))))

pub convert_merged_of_one : (w : World) → TellsApart w convert.merged_of_one.ended convert.merged_of_one.clauses
convert_merged_of_one w _ _ = ((tt, refl), λ _ _ _ _ _. two w (λ p q. (writing-read _ _ (same p.0 q.0), λ i. behind 4 (same p.1 q.1 i, tt))))

pub convert_merged_of_two : (w : World) → TellsApart w convert.merged_of_two.ended convert.merged_of_two.clauses
convert_merged_of_two w _ _ = ((tt, refl), λ _ _ _ _ _. two w (λ p q. (writing-read _ _ (same p.0 q.0), λ i. behind 5 (same p.1 q.1 i, tt))))

pub convert_verdict_of_two : (w : World) → TellsApart w convert.verdict_of_two.ended convert.verdict_of_two.clauses
convert_verdict_of_two w _ _ = ((tt, refl), λ _ _ _ _ _. two w (λ p q. (clearance-read _ _ (same p.0 q.0), λ i. behind 7 (same p.1 q.1 i, tt))))
