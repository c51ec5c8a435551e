-- `check_octree` accepts where a run of one octree ends where the bytes do.
use Rattle.std.proofs.Common.{rules, ◌∙◌, sym}
use Rattle.octree.proofs.Answers.{octree_other, octree_fine}
use Rattle.octree.proofs.check_octree.Goals as goal

pub returns-then-ne : goal.returns-then-ne
returns-then-ne c = octree_other _ _ (λ e. let same = c.run_end.ensures ∙ e in search rules)

pub returns : goal.returns
returns c = octree_fine _ _ (sym c.run_end.ensures ∙ (search rules))
