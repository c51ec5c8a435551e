-- `export_octree` refuses by the universe, then by the expression, and else writes.
use Rattle.std.proofs.Common.{rules, ◌≡◌, [], ◌∷◌, Err}
use Rattle.universe.specs.declared.refusal.Unwritten.TheVariants.{Refused}
use Rattle.bintree.specs.Reading.{expression_refusal}
use Rattle.bintree.proofs.Ends.{ends_first, ends_second, ends_checked}
use Rattle.octree.specs.Answers.{export_symbols, export_answer, export_buffer}
use Rattle.octree.proofs.Answers.{export_few, formed, exportable}
use Rattle.octree.proofs.export_octree.Goals as goal

pub returns-in_err-check_cube : goal.returns-in_err-check_cube
unfolding export_answer export_buffer
returns-in_err-check_cube c =
    let e : c.from_residual.result ≡ Err (Refused c.in_err-check_cube.field-0.0) = search rules in
    let s = c.args.expression.now in
    let a = ends_first c.args.out.now (export_symbols c.args.universe s) _ (expression_refusal c.args.universe s ∷ []) c.in_err-check_cube.ensures in
    record { value = rw e a.0; out_after = a.1 }

pub returns-in_err-well_formed : goal.returns-in_err-well_formed
unfolding export_answer export_buffer
returns-in_err-well_formed c =
    let e : c.from_residual-in_err-well_formed.result ≡ Err (Refused c.in_err-well_formed.field-0.0) = search rules in
    let a = ends_second c.args.out.now _ _ c.in_ok-check_cube.ensures (formed _ _ c.in_ok-check_cube.ensures c.in_err-well_formed.ensures) in
    record { value = rw e a.0; out_after = a.1 }

pub write_fitting-requires : goal.write_fitting-requires
write_fitting-requires c =
    let able = exportable _ _ c.in_ok-check_cube.ensures (formed _ _ c.in_ok-check_cube.ensures c.in_ok-well_formed.ensures) in
    search rules

pub returns : goal.returns
unfolding export_answer export_buffer
returns c =
    let able = exportable _ _ c.in_ok-check_cube.ensures (formed _ _ c.in_ok-check_cube.ensures c.in_ok-well_formed.ensures) in
    let symbols = export_symbols c.args.universe c.args.expression.now in
    let written =
    c.write_fitting.ensures symbols (record { few = export_few able c.saturating_mul-most.ensures; written = λ room count left p. search rules }) in
    let a = ends_checked c.args.out.now _ c.in_ok-check_cube.ensures (formed _ _ c.in_ok-check_cube.ensures c.in_ok-well_formed.ensures) written in
    record { value = a.0; out_after = a.1 }
