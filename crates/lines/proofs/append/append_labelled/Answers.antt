-- A number of 64 bits has at most 20 digits.
use Rattle.std.proofs.Common.{arith}
use Rattle.lines.proofs.Decimal.{decimal_few}
use Rattle.lines.proofs.Appended.{labelled}
use Rattle.lines.proofs.append.append_labelled.Goals as goal

pub append_number-requires : goal.append_number-requires
append_number-requires c =
    omega (arith, c.requires, decimal_few c.args.n c.ranges.n.fits, c.append_text-next.ensures.end)

pub returns : goal.returns
returns c = labelled c.ranges.n.fits c.append_text-next.ensures c.append_number.ensures
