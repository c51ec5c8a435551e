-- `past` gives past_at: at each place the tree at hand opens, ends or is the last.
use Rattle.std.proofs.Common.{arith}
use Rattle.sweep.proofs.Slots.{passing_first, passing_end, passing_open, passing_leaf, passing_last}
use Rattle.sweep.proofs.places.past.Goals.{then-expression-place-eq40, else-expression-place-eq40+else-more-eq0}
use Rattle.sweep.proofs.places.past.Goals as goal

pub loop-place-init : goal.loop-place-init
loop-place-init c = record { passing = passing_first _ _; most = omega arith }

pub returns-then-more-eq0 : goal.returns-then-more-eq0
returns-then-more-eq0 c =
    passing_last _ _ _ _ c.loop-place.invariant.passing c.loop-place-test.true c.if-expression-place-eq40.false c.if-more-eq0.true

pub loop-place-preserved : goal.loop-place-preserved
loop-place-preserved c =
    let here = c.loop-place.invariant.passing in
    elim c.if-expression-place-eq40.branch [
      | then-expression-place-eq40 w ↦ rw w.more-is (record {
        passing = passing_open _ _ _ _ here c.loop-place-test.true w.if-expression-place-eq40.true;
        most = omega (arith, c.loop-place-test.true);
      })
      | else-expression-place-eq40+else-more-eq0 w ↦ rw w.more-is (record {
        passing = passing_leaf _ _ _ _ here c.loop-place-test.true w.if-expression-place-eq40.false w.if-more-eq0.false;
        most = omega (arith, c.loop-place-test.true);
      })
    ]

pub returns : goal.returns
returns c = omega (arith, passing_end _ _ _ _ c.loop-place.invariant.passing c.loop-place-test.false, c.max.ensures)
