-- Where all three numbers are held, the triple is.
use Rattle.standin.proofs.Held.{triple_all}
use Rattle.standin.proofs.scale_triple.Goals as goal

pub returns : goal.returns
returns c =
    triple_all c.args.triple c.args.limit c.ranges.limit c.requires c.scale.ensures c.in_ok-x.was c.scale-2.ensures c.in_ok-y.was
    c.scale-3.ensures c.in_ok-z.was
