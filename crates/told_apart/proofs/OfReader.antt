-- Of each public function of `reader`: its contract asks nothing, and two answers that it allows are equal; slices, and readers that are opened, are alike.
use mathlib.Core.Path.{refl}
use borrow.Fn.World.{World}
use Rattle.reader.specs.contracts as reader
use Rattle.told_apart.specs.Answers.{TellsApart, Fixes, SameSlice, SameReader}
use Rattle.told_apart.proofs.Alike.{same, one}
use Rattle.universe.proofs.Telling.{told-injective}

pub reader_check : (w : World) → TellsApart w reader.check.ended reader.check.clauses
reader_check w _ _ = ((tt, refl), λ _ _ _ _ _. one w (λ p q. (told-injective _ _ (same p q), refl)))

pub reader_symbol_at : (w : World) → TellsApart w reader.symbol_at.ended reader.symbol_at.clauses
reader_symbol_at w _ _ = ((tt, refl), λ _ _ _ _ _. one w (λ p q. (same p q, refl)))

pub reader_place_after : (w : World) → TellsApart w reader.place_after.ended reader.place_after.clauses
reader_place_after w _ _ = ((tt, refl), λ _ _ _ _ _. one w (λ p q. (same p q, refl)))

pub reader_first : (w : World) → TellsApart w reader.first.ended reader.first.clauses
reader_first w _ _ = ((tt, refl), λ _ _ _ _ _. one w (λ p q. (same p q, refl)))

pub reader_held : (w : World) → Fixes w reader.held.ended (λ lifetimes. SameSlice) reader.held.clauses
reader_held w _ _ = ((tt, refl), λ _ _ _ _ _. one w (λ p q. ((same p.0 q.0, same p.1 q.1), refl)))

pub reader_current : (w : World) → TellsApart w reader.current.ended reader.current.clauses
reader_current w _ _ = ((tt, refl), λ _ _ _ _ _. one w (λ p q. (same p q, refl)))

pub reader_advanced : (w : World) → TellsApart w reader.advanced.ended reader.advanced.clauses
reader_advanced w _ _ = ((tt, refl), λ _ _ _ _ _. one w (λ p q. (λ i. record { expression = same p.0 q.0 i; place = same p.1 q.1 i }, refl)))

pub reader_open : (w : World) → Fixes w reader.open.ended (λ lifetimes. SameReader) reader.open.clauses
reader_open w _ _ = ((tt, refl), λ _ _ _ _ _. one w (λ p q. (((same p.0.0 q.0.0, same p.0.1 q.0.1), same p.1 q.1), refl)))
