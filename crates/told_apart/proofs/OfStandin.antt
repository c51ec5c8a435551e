-- Of each public function of `standin`: its contract asks nothing, and two answers that it allows are equal.
use mathlib.Core.Path.{refl}
use borrow.Fn.World.{World}
use Rattle.standin.specs.contracts as standin
use Rattle.told_apart.specs.Answers.{TellsApart}
use Rattle.told_apart.proofs.Alike.{same, one}
use Rattle.universe.proofs.Telling.{told-injective}

pub standin_check : (w : World) → TellsApart w standin.check.ended standin.check.clauses
standin_check w _ _ = ((tt, refl), λ _ _ _ _ _. one w (λ p q. (told-injective _ _ (same p q), refl)))

pub standin_box_rows : (w : World) → TellsApart w standin.box_rows.ended standin.box_rows.clauses
standin_box_rows w _ _ = ((tt, refl), λ _ _ _ _ _. one w (λ p q. (same p q, refl)))

pub standin_box_row_count : (w : World) → TellsApart w standin.box_row_count.ended standin.box_row_count.clauses
standin_box_row_count w _ _ = ((tt, refl), λ _ _ _ _ _. one w (λ p q. (same p q, refl)))

pub standin_cut_row : (w : World) → TellsApart w standin.cut_row.ended standin.cut_row.clauses
standin_cut_row w _ _ = ((tt, refl), λ _ _ _ _ _. one w (λ p q. (same p q, refl)))

pub standin_cut_row_count : (w : World) → TellsApart w standin.cut_row_count.ended standin.cut_row_count.clauses
standin_cut_row_count w _ _ = ((tt, refl), λ _ _ _ _ _. one w (λ p q. (same p q, refl)))

pub standin_corner_sixteenths : (w : World) → TellsApart w standin.corner_sixteenths.ended standin.corner_sixteenths.clauses
standin_corner_sixteenths w _ _ = ((tt, refl), λ _ _ _ _ _. one w (λ p q. (same p q, refl)))

pub standin_rows_between : (w : World) → TellsApart w standin.rows_between.ended standin.rows_between.clauses
standin_rows_between w _ _ = ((tt, refl), λ _ _ _ _ _. one w (λ p q. (same p q, refl)))
