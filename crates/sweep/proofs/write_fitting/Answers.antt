-- `write_fitting` writes at once where as much room is lent as the expression is long, else it measures first.
use Rattle.std.proofs.Common.{arith}
use Rattle.bintree.proofs.Ends.{ends_short, ends_written}
use Rattle.sweep.proofs.Answers.{no_longer}
use Rattle.sweep.proofs.write_fitting.Goals as goal

pub returns-then-expression-out : goal.returns-then-expression-out
returns-then-expression-out c =
    let e = c.write_swept.ensures.value in
    let a = ends_written _ _ e (omega (arith, e, no_longer c.requires, c.if-expression-out.true)) c.write_swept.ensures.out_after in
    record { result_value = a.0; out_after = a.1 }

pub returns-then-out-needed : goal.returns-then-out-needed
returns-then-out-needed c =
    let a = ends_short _ _ c.write_swept-needed.ensures.value c.if-out-needed.true in
    record { result_value = a.0; out_after = a.1 }

pub returns : goal.returns
returns c =
    let a = ends_written _ _ c.write_swept-needed.ensures.value c.if-out-needed.false c.write_swept-2.ensures.out_after in
    record { result_value = a.0; out_after = a.1 }
