-- Of each public function of `bintree`: its contract asks nothing, and two answers that it allows are equal; two slices are alike.
use mathlib.Core.Path.{refl}
use borrow.Fn.World.{World}
use Rattle.bintree.specs.contracts as bintree
use Rattle.told_apart.specs.Answers.{TellsApart, Fixes, SameSlice}
use Rattle.told_apart.proofs.Alike.{same, one, two, behind}
use Rattle.universe.proofs.Telling.{told-injective}
use Rattle.told_apart.proofs.Told.{colour-read, merging-read, numbers-read, place-read}

pub bintree_well_formed : (w : World) → TellsApart w bintree.well_formed.ended bintree.well_formed.clauses
bintree_well_formed w _ _ = ((tt, refl), λ _ _ _ _ _. one w (λ p q. (told-injective _ _ (same p q), refl)))

pub bintree_tree_end : (w : World) → TellsApart w bintree.tree_end.ended bintree.tree_end.clauses
bintree_tree_end w _ _ = ((tt, refl), λ _ _ _ _ _. one w (λ p q. (same p q, refl)))

pub bintree_colour_at : (w : World) → TellsApart w bintree.colour_at.ended bintree.colour_at.clauses
bintree_colour_at w _ _ = ((tt, refl), λ _ _ _ _ _. one w (λ p q. (colour-read _ _ (same p q), refl)))

pub bintree_numbers_of : (w : World) → TellsApart w bintree.numbers_of.ended bintree.numbers_of.clauses
bintree_numbers_of w _ _ = ((tt, refl), λ _ _ _ _ _. one w (λ p q. (numbers-read _ _ (same p q), refl)))

pub bintree_check_part : (w : World) → TellsApart w bintree.check_part.ended bintree.check_part.clauses
bintree_check_part w _ _ = ((tt, refl), λ _ _ _ _ _. one w (λ p q. (told-injective _ _ (same p q), refl)))

pub bintree_part_place : (w : World) → TellsApart w bintree.part_place.ended bintree.part_place.clauses
bintree_part_place w _ _ = ((tt, refl), λ _ _ _ _ _. one w (λ p q. (place-read _ _ (same p q), refl)))

pub bintree_part : (w : World) → Fixes w bintree.part.ended (λ lifetimes. SameSlice) bintree.part.clauses
bintree_part w _ _ = ((tt, refl), λ _ _ _ _ _. two w (λ p q. ((same p.0 q.0, same p.1 q.1), refl)))

pub bintree_is_alike : (w : World) → TellsApart w bintree.is_alike.ended bintree.is_alike.clauses
bintree_is_alike w _ _ = ((tt, refl), λ _ _ _ _ _. one w (λ p q. (same p q, refl)))

pub bintree_note : (w : World) → TellsApart w bintree.note.ended bintree.note.clauses
bintree_note w _ _ = ((tt, refl), λ _ _ _ _ _. one w (λ p q. (refl, λ i. (same p q i, behind 2 tt))))

pub bintree_copy : (w : World) → TellsApart w bintree.copy.ended bintree.copy.clauses
bintree_copy w _ _ = ((tt, refl), λ _ _ _ _ _. one w (λ p q. (refl, λ i. behind 1 (same p q i, behind 1 tt))))

pub bintree_join_halves : (w : World) → TellsApart w bintree.join_halves.ended bintree.join_halves.clauses
bintree_join_halves w _ _ = ((tt, refl), λ _ _ _ _ _. one w (λ p q. (refl, λ i. (same p q i, behind 4 tt))))

pub bintree_merge : (w : World) → TellsApart w bintree.merge.ended bintree.merge.clauses
bintree_merge w _ _ = ((tt, refl), λ _ _ _ _ _. two w (λ p q. (merging-read _ _ (same p.0 q.0), λ i. behind 2 (same p.1 q.1 i, tt))))
