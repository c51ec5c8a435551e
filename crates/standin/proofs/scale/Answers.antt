-- A constant of the source stands here by its bit pattern, and is the number that the laws name once `of_bits` and `neg` are unfolded.
use Rattle.std.proofs.Common.{T, sym, subst}
use lib.Ieee.{of_bits, neg}
use Rattle.standin.proofs.Guess.{below_all, above_all, too_large, too_small, not_the_same, the_same}
use Rattle.standin.proofs.scale.Goals.{else-limit-z-via-then-limit-z+then-z-limit+else-nearest_i64_to_f64-x, else-limit-z-via-then-limit-z+else-z-limit, else-limit-z-via-else-limit-z, else-y-via-then-y+else-y-2, else-y-via-else-y}
use Rattle.standin.proofs.scale.Goals as goal

pub truncating_f64_to_i64-z-requires-clause-lower_bound : goal.truncating_f64_to_i64-z-requires-clause-lower_bound
unfolding of_bits neg
truncating_f64_to_i64-z-requires-clause-lower_bound c = subst T (sym c.if-y.true) tt

pub truncating_f64_to_i64-z-requires-clause-upper_bound : goal.truncating_f64_to_i64-z-requires-clause-upper_bound
unfolding of_bits neg
truncating_f64_to_i64-z-requires-clause-upper_bound c = subst T (sym c.if-y-2.true) tt

pub returns-then-nearest_i64_to_f64-x : goal.returns-then-nearest_i64_to_f64-x
unfolding of_bits neg
returns-then-nearest_i64_to_f64-x c =
    the_same c.args.x c.args.limit _ c.requires c.ranges.limit c.truncating_f64_to_i64-z.ensures _ c.nearest_i64_to_f64.ensures
    c.if-limit-z.true c.if-z-limit.true c.if-nearest_i64_to_f64-x.true

pub returns-else-limit-z : goal.returns-else-limit-z
unfolding of_bits neg
returns-else-limit-z c =
    let gave = c.truncating_f64_to_i64-z.ensures in
    elim c.else-limit-z.branch [
      | else-limit-z-via-then-limit-z+then-z-limit+else-nearest_i64_to_f64-x w ↦
          not_the_same c.args.x c.args.limit _ c.requires c.ranges.limit gave _ w.nearest_i64_to_f64.ensures w.if-nearest_i64_to_f64-x.false
      | else-limit-z-via-then-limit-z+else-z-limit w ↦ too_large c.args.x c.args.limit _ c.requires c.ranges.limit gave w.if-z-limit.false
      | else-limit-z-via-else-limit-z w ↦ too_small c.args.x c.args.limit _ c.requires c.ranges.limit gave w.if-limit-z.false
    ]

pub returns-else-y : goal.returns-else-y
unfolding of_bits neg
returns-else-y c =
    elim c.else-y.branch [
      | else-y-via-then-y+else-y-2 w ↦ above_all c.args.x c.args.limit c.requires w.if-y-2.false
      | else-y-via-else-y w ↦ below_all c.args.x c.args.limit c.requires w.if-y.false
    ]
