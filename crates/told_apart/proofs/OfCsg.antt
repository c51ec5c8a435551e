-- Of each public function of `csg`: its contract asks nothing, and two answers that it allows are equal.
use mathlib.Core.Path.{refl}
use borrow.Fn.World.{World}
use Rattle.csg.specs.contracts as csg
use Rattle.told_apart.specs.Answers.{TellsApart}
use Rattle.told_apart.proofs.Alike.{same, one}
use Rattle.universe.proofs.Telling.{told-injective}

pub csg_check_rows : (w : World) → TellsApart w csg.check_rows.ended csg.check_rows.clauses
csg_check_rows w _ _ = ((tt, refl), λ _ _ _ _ _. one w (λ p q. (told-injective _ _ (same p q), refl)))

pub csg_check_balls : (w : World) → TellsApart w csg.check_balls.ended csg.check_balls.clauses
csg_check_balls w _ _ = ((tt, refl), λ _ _ _ _ _. one w (λ p q. (told-injective _ _ (same p q), refl)))

pub csg_check_tree : (w : World) → TellsApart w csg.check_tree.ended csg.check_tree.clauses
csg_check_tree w _ _ = ((tt, refl), λ _ _ _ _ _. one w (λ p q. (told-injective _ _ (same p q), refl)))

pub csg_halfspace_words : (w : World) → TellsApart w csg.halfspace_words.ended csg.halfspace_words.clauses
csg_halfspace_words w _ _ = ((tt, refl), λ _ _ _ _ _. one w (λ p q. (same p q, refl)))

pub csg_ball_words : (w : World) → TellsApart w csg.ball_words.ended csg.ball_words.clauses
csg_ball_words w _ _ = ((tt, refl), λ _ _ _ _ _. one w (λ p q. (same p q, refl)))

pub csg_is_operator : (w : World) → TellsApart w csg.is_operator.ended csg.is_operator.clauses
csg_is_operator w _ _ = ((tt, refl), λ _ _ _ _ _. one w (λ p q. (same p q, refl)))
