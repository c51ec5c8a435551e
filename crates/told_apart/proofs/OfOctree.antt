-- Of the public functions of `octree`: their contracts ask nothing, and two answers that they allow are equal, and so is what the lent room holds.
use mathlib.Core.Path.{refl}
use borrow.Fn.World.{World}
use Rattle.octree.specs.contracts as octree
use Rattle.told_apart.specs.Answers.{TellsApart}
use Rattle.told_apart.proofs.Alike.{same, two, behind}
use Rattle.told_apart.proofs.Told.{writing-read}

pub octree_export_octree : (w : World) → TellsApart w octree.export_octree.ended octree.export_octree.clauses
octree_export_octree w _ _ = ((tt, refl), λ _ _ _ _ _. two w (λ p q. (writing-read _ _ (same p.0 q.0), λ i. behind 2 (same p.1 q.1 i, tt))))

pub octree_import_octree : (w : World) → TellsApart w octree.import_octree.ended octree.import_octree.clauses
octree_import_octree w _ _ = ((tt, refl), λ _ _ _ _ _. two w (λ p q. (writing-read _ _ (same p.0 q.0), λ i. behind 2 (same p.1 q.1 i, tt))))
