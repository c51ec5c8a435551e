-- Of each public function of `universe`: its contract asks nothing, and two answers that it allows are equal.
use mathlib.Core.Path.{refl}
use borrow.Fn.World.{World}
use Rattle.universe.specs.contracts as universe
use Rattle.told_apart.specs.Answers.{TellsApart}
use Rattle.told_apart.proofs.Alike.{same, one}
use Rattle.universe.proofs.Telling.{told-injective}
use Rattle.universe.proofs.Acceptance.{accepted-injective}
use Rattle.told_apart.proofs.Told.{room-read}

pub universe_check : (w : World) → TellsApart w universe.Universe.check.ended universe.Universe.check.clauses
universe_check w _ _ = ((tt, refl), λ _ _ _ _ _. one w (λ p q. (told-injective _ _ (same p q), refl)))

pub universe_with_equal_bits : (w : World) → TellsApart w universe.Universe.with_equal_bits.ended universe.Universe.with_equal_bits.clauses
universe_with_equal_bits w _ _ = ((tt, refl), λ _ _ _ _ _. one w (λ p q. (same p q, refl)))

pub universe_check_window : (w : World) → TellsApart w universe.Universe.check_window.ended universe.Universe.check_window.clauses
universe_check_window w _ _ = ((tt, refl), λ _ _ _ _ _. one w (λ p q. (told-injective _ _ (same p q), refl)))

pub universe_room : (w : World) → TellsApart w universe.Universe.room.ended universe.Universe.room.clauses
universe_room w _ _ = ((tt, refl), λ _ _ _ _ _. one w (λ p q. (room-read _ _ (same p q), refl)))

pub universe_whole : (w : World) → TellsApart w universe.Universe.whole.ended universe.Universe.whole.clauses
universe_whole w _ _ = ((tt, refl), λ _ _ _ _ _. one w (λ p q. (same p q, refl)))

pub universe_levels : (w : World) → TellsApart w universe.Universe.levels.ended universe.Universe.levels.clauses
universe_levels w _ _ = ((tt, refl), λ _ _ _ _ _. one w (λ p q. (same p q, refl)))

pub universe_bits_along : (w : World) → TellsApart w universe.Universe.bits_along.ended universe.Universe.bits_along.clauses
universe_bits_along w _ _ = ((tt, refl), λ _ _ _ _ _. one w (λ p q. (same p q, refl)))

pub universe_side : (w : World) → TellsApart w universe.Universe.side.ended universe.Universe.side.clauses
universe_side w _ _ = ((tt, refl), λ _ _ _ _ _. one w (λ p q. (same p q, refl)))

pub universe_axes_left : (w : World) → TellsApart w universe.Universe.axes_left.ended universe.Universe.axes_left.clauses
universe_axes_left w _ _ = ((tt, refl), λ _ _ _ _ _. one w (λ p q. (same p q, refl)))

pub universe_voxels_left : (w : World) → TellsApart w universe.Universe.voxels_left.ended universe.Universe.voxels_left.clauses
universe_voxels_left w _ _ = ((tt, refl), λ _ _ _ _ _. one w (λ p q. (same p q, refl)))

pub universe_without_axis : (w : World) → TellsApart w universe.Universe.without_axis.ended universe.Universe.without_axis.clauses
universe_without_axis w _ _ = ((tt, refl), λ _ _ _ _ _. one w (λ p q. (same p q, refl)))

pub universe_accepted : (w : World) → TellsApart w universe.Universe.accepted.ended universe.Universe.accepted.clauses
universe_accepted w _ _ = ((tt, refl), λ _ _ _ _ _. one w (λ p q. (accepted-injective _ _ (same p q), refl)))

pub accepted_levels : (w : World) → TellsApart w universe.accepted.Accepted.levels.ended universe.accepted.Accepted.levels.clauses
accepted_levels w _ _ = ((tt, refl), λ _ _ _ _ _. one w (λ p q. (same p q, refl)))

pub accepted_frame_axis : (w : World) → TellsApart w universe.accepted.Accepted.frame_axis.ended universe.accepted.Accepted.frame_axis.clauses
accepted_frame_axis w _ _ = ((tt, refl), λ _ _ _ _ _. one w (λ p q. (same p q, refl)))

pub accepted_frames : (w : World) → TellsApart w universe.accepted.Accepted.frames.ended universe.accepted.Accepted.frames.clauses
accepted_frames w _ _ = ((tt, refl), λ _ _ _ _ _. one w (λ p q. (same p q, refl)))

pub accepted_side : (w : World) → TellsApart w universe.accepted.Accepted.side.ended universe.accepted.Accepted.side.clauses
accepted_side w _ _ = ((tt, refl), λ _ _ _ _ _. one w (λ p q. (same p q, refl)))

pub accepted_axes_left : (w : World) → TellsApart w universe.accepted.Accepted.axes_left.ended universe.accepted.Accepted.axes_left.clauses
accepted_axes_left w _ _ = ((tt, refl), λ _ _ _ _ _. one w (λ p q. (same p q, refl)))

pub accepted_room : (w : World) → TellsApart w universe.accepted.Accepted.room.ended universe.accepted.Accepted.room.clauses
accepted_room w _ _ = ((tt, refl), λ _ _ _ _ _. one w (λ p q. (same p q, refl)))

pub block_low_half : (w : World) → TellsApart w universe.Block.low_half.ended universe.Block.low_half.clauses
block_low_half w _ _ = ((tt, refl), λ _ _ _ _ _. one w (λ p q. (same p q, refl)))

pub block_high_half : (w : World) → TellsApart w universe.Block.high_half.ended universe.Block.high_half.clauses
block_high_half w _ _ = ((tt, refl), λ _ _ _ _ _. one w (λ p q. (same p q, refl)))

pub block_halves : (w : World) → TellsApart w universe.Block.halves.ended universe.Block.halves.clauses
block_halves w _ _ = ((tt, refl), λ _ _ _ _ _. one w (λ p q. (same p q, refl)))

pub refusal_number : (w : World) → TellsApart w universe.refusal.Refusal.number.ended universe.refusal.Refusal.number.clauses
refusal_number w _ _ = ((tt, refl), λ _ _ _ _ _. one w (λ p q. (same p q, refl)))

pub unwritten_number : (w : World) → TellsApart w universe.refusal.Unwritten.number.ended universe.refusal.Unwritten.number.clauses
unwritten_number w _ _ = ((tt, refl), λ _ _ _ _ _. one w (λ p q. (same p q, refl)))

pub unwritten_needed : (w : World) → TellsApart w universe.refusal.Unwritten.needed.ended universe.refusal.Unwritten.needed.clauses
unwritten_needed w _ _ = ((tt, refl), λ _ _ _ _ _. one w (λ p q. (same p q, refl)))
