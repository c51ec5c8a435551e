-- Each number negated fits, and each that is passed on is what it was.
use Rattle.lemmas.proofs.Machine.{near_back}
use Rattle.standin.proofs.Held.{reads, negated}
use Rattle.standin.proofs.six_rows.Goals as goal

pub returns : goal.returns
returns c =
    let near = reads c.requires.limited tt in
    let far = reads c.requires.limited_2 tt in
    let step = reads c.requires.limited_3 tt in
    simp (
      (near_back (negated near.x) tt).same,
      (near_back (negated near.y) tt).same,
      (near_back (negated near.z) tt).same,
      (near_back (negated step.x) tt).same,
      (near_back (negated step.y) tt).same,
      (near_back (negated step.z) tt).same,
    ) (simp (far.x.same, far.y.same, far.z.same, step.x.same, step.y.same, step.z.same))
