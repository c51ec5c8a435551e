-- 16 times each number, and the dot product negated, fit.
use Rattle.std.proofs.Common.{pos}
use Rattle.lemmas.proofs.Machine.{near_lit, near_mul, near_fits, near_back}
use Rattle.standin.proofs.Held.{reads, number, negated, dot_read}
use Rattle.standin.proofs.one_row.Goals as goal

pub overflow_sub-result : goal.overflow_sub-result
overflow_sub-result c = near_fits (negated (dot_read c.requires.limited c.requires.limited_2 c.dot.ensures)) tt

pub returns : goal.returns
returns c =
    let n = reads c.requires.limited tt in
    simp (
      (near_back (near_mul (near_lit (pos 16)) (number c.args.offset c.requires.offset_bound)) tt).same,
      (near_back (near_mul (near_lit (pos 16)) n.x) tt).same,
      (near_back (near_mul (near_lit (pos 16)) n.y) tt).same,
      (near_back (near_mul (near_lit (pos 16)) n.z) tt).same,
      (near_back (negated (dot_read c.requires.limited c.requires.limited_2 c.dot.ensures)) tt).same,
    )
