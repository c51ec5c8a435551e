-- Where both corners and the displacement are held, the order of the corners decides.
use Rattle.std.proofs.Common.{◌∙◌}
use Rattle.standin.proofs.Held.{box_all}
use Rattle.standin.proofs.scale_box.Goals as goal

pub returns : goal.returns
returns c =
    c.then_some.ensures
    ∙ rw c.in_order.ensures
    (box_all c.args.corners c.args.displacement c.scale_triple.ensures c.in_ok-near.was c.scale_triple-2.ensures c.in_ok-far.was
    c.scale_triple-3.ensures c.in_ok-displacement.was)
