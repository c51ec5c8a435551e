-- `import_octree` refuses by the universe, then by the octree, and else writes.
use Rattle.std.proofs.Common.{rules, ◌≡◌, [], ◌∷◌, Err}
use Rattle.universe.specs.declared.refusal.Unwritten.TheVariants.{Refused}
use Rattle.bintree.proofs.Ends.{ends_first, ends_second, ends_checked}
use Rattle.octree.specs.Answers.{octree_refusal, import_symbols, import_answer, import_buffer}
use Rattle.octree.proofs.Answers.{import_few, importable}
use Rattle.octree.proofs.import_octree.Goals as goal

pub returns-in_err-check_cube : goal.returns-in_err-check_cube
unfolding import_answer import_buffer
returns-in_err-check_cube c =
    let e : c.from_residual.result ≡ Err (Refused c.in_err-check_cube.field-0.0) = search rules in
    let s = c.args.octree.now in
    let a = ends_first c.args.out.now (import_symbols c.args.universe s) _ (octree_refusal c.args.universe.bits s ∷ []) c.in_err-check_cube.ensures in
    record { value = rw e a.0; out_after = a.1 }

pub returns-in_err-check_octree : goal.returns-in_err-check_octree
unfolding import_answer import_buffer
returns-in_err-check_octree c =
    let e : c.from_residual-in_err-check_octree.result ≡ Err (Refused c.in_err-check_octree.field-0.0) = search rules in
    let a = ends_second c.args.out.now _ _ c.in_ok-check_cube.ensures c.in_err-check_octree.ensures in
    record { value = rw e a.0; out_after = a.1 }

pub write_fitting-requires : goal.write_fitting-requires
write_fitting-requires c = let able = importable _ _ c.in_ok-check_cube.ensures c.in_ok-check_octree.ensures in search rules

pub returns : goal.returns
unfolding import_answer import_buffer
returns c =
    let able = importable _ _ c.in_ok-check_cube.ensures c.in_ok-check_octree.ensures in
    let symbols = import_symbols c.args.universe c.args.octree.now in
    let written =
    c.write_fitting.ensures symbols (record { few = import_few able c.saturating_mul-most.ensures; written = λ room count left p. search rules }) in
    let a = ends_checked c.args.out.now _ c.in_ok-check_cube.ensures c.in_ok-check_octree.ensures written in
    record { value = a.0; out_after = a.1 }
