-- There is too little room, or what was written into the scratch room is copied, or it is written once more.
use lib.Seq.{length-sets}
use Rattle.std.proofs.Common.{ℕ, length, refl, ap, ◌∙◌, arith}
use Rattle.std.proofs.lemmas.List.{length-replicate}
use Rattle.csg.specs.Surfaces.{surfaces_of}
use Rattle.convert.specs.Answers.{written_of_two}
use Rattle.convert.proofs.Answers.{ends_short, ends_written, ends_copied}
use Rattle.convert.proofs.scratch.in_scratch.Goals as goal

pub returns-then-out-length : goal.returns-then-out-length
returns-then-out-length g c =
    let w = ends_short _ _ c.write_whole-length.ensures.result_value c.if-out-length.true refl in
    record { result_value = w.0; out_after = w.1 }

pub returns-then-length : goal.returns-then-length
returns-then-length g c =
    let e = c.write_whole-length.ensures in
    let a = c.args in
    let written = written_of_two a.merging a.universe (surfaces_of a.rows.now a.balls.now) a.first.now a.second.now in
    let long = ap length e.out_after ∙ length-sets _ 0 written ∙ length-replicate {A = ℕ} g.row.ROOM 0 in
    let w = ends_copied _ _ e.result_value _ _ (omega (arith, c.if-out-length.false)) (omega (arith, long, c.if-length.true)) e.out_after c.copy.ensures refl in
    record { result_value = w.0; out_after = w.1 }

pub returns : goal.returns
returns g c =
    let e = c.write_whole-length.ensures.result_value in
    let w = ends_written _ _ e (omega (arith, c.if-out-length.false)) c.write_whole.ensures.out_after refl in
    record { result_value = w.0; out_after = w.1 }
