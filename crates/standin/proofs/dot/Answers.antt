-- Three products of numbers within the limit, and their sum, fit.
use Rattle.lemmas.proofs.Machine.{near_fits, near_back}
use Rattle.standin.proofs.Held.{reads, two, three}
use Rattle.standin.proofs.dot.Goals as goal

pub overflow_add-result : goal.overflow_add-result
overflow_add-result c = near_fits (two (reads c.requires.limited tt) (reads c.requires.limited_2 tt)) tt

pub overflow_add-result-2 : goal.overflow_add-result-2
overflow_add-result-2 c = near_fits (three (reads c.requires.limited tt) (reads c.requires.limited_2 tt)) tt

pub returns : goal.returns
returns c = (near_back (three (reads c.requires.limited tt) (reads c.requires.limited_2 tt)) tt).same
