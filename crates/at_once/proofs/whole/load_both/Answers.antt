-- `load_both` loads one tree's codes from the front on, and the other's behind them; the rows that they name begin with their offsets.
use Rattle.at_once.proofs.Wholes.{first_load, second_load, begin_job, both_loaded}
use Rattle.at_once.proofs.whole.load_both.Goals as goal

pub load-requires : goal.load-requires
load-requires c = first_load c.requires

pub load-requires-2 : goal.load-requires-2
load-requires-2 c =
    second_load c.requires (c.load.ensures (first_load c.requires))

pub begin-requires : goal.begin-requires
begin-requires c =
    let l = c.load.ensures (first_load c.requires) in
    begin_job c.requires l (c.load-2.ensures (second_load c.requires l))

pub returns : goal.returns
returns c =
    λ job. let l = c.load.ensures (first_load job) in
    both_loaded job l (c.load-2.ensures (second_load job l)) c.begin.ensures
