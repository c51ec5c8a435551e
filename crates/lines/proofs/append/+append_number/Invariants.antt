-- The tens of a number are fewer than it is.
use Rattle.lines.proofs.append.+append_number.Given as goal

abbrev pub decreases-append_number : goal.decreases-append_number
decreases-append_number l = l.n
