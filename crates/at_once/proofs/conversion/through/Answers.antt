-- `through` ends in too little room, in a copy of what it wrote into the scratch room, or in what it wrote once more.
use mathlib.Core.Path.{refl}
use native.Mathlib.Omega.{arith}
use Rattle.convert.proofs.Answers.{ends_short, ends_written, ends_copied}
use Rattle.at_once.proofs.Conversions.{ready_again}
use Rattle.at_once.proofs.conversion.through.Goals as goal

pub returns-then-out-length : goal.returns-then-out-length
returns-then-out-length g c =
    let e = ends_short _ _ c.write_whole-length.ensures.result_value c.if-out-length.true refl in
    record { result_value = e.0; out_after = e.1 }

pub returns-then-length-scratch : goal.returns-then-length-scratch
returns-then-length-scratch g c =
    let w = c.write_whole-length.ensures in
    let e = ends_copied c.args.out.now _ w.result_value _ _ (omega arith) c.if-length-scratch.true w.out_after c.copy.ensures refl in
    record { result_value = e.0; out_after = e.1 }

pub write_whole-requires : goal.write_whole-requires
write_whole-requires g c = ready_again c.requires c.write_whole-length.auto.codes

pub returns : goal.returns
returns g c =
    let e = ends_written c.args.out.now _ c.write_whole-length.ensures.result_value (omega arith) c.write_whole.ensures.out_after refl in
    record { result_value = e.0; out_after = e.1 }
