-- `of_two` ends in a refusal by the checks, in too little work room, or in what the conversion after them came to.
use Rattle.std.proofs.Common.{◌≡◌, Err, sym, rules, arith}
use Rattle.pruned.specs.declared.answer.Unconverted.TheVariants.{Refused}
use Rattle.pruned.proofs.Conversions.{converted_refused, converted_short, converted_ended, two_words, two_levels, two_few, two_needed, two_ready}
use Rattle.pruned.proofs.conversion.of_two.Goals as goal

pub returns-in_err-check_scene : goal.returns-in_err-check_scene
returns-in_err-check_scene c =
    let r = c.in_err-check_scene.field-0.0 in
    let e : c.from_residual.result ≡ Err (Refused r) = search rules in
    rw e (converted_refused r c.in_err-check_scene.ensures)

pub overflow_add-words : goal.overflow_add-words
overflow_add-words c = omega (arith, two_words _ _ _ _ c.in_ok-check_scene.ensures)

pub overflow_add-needed : goal.overflow_add-needed
overflow_add-needed c = omega (arith, two_levels _ _ _ _ c.in_ok-check_scene.ensures c.levels.ensures)

pub overflow_mul-needed : goal.overflow_mul-needed
overflow_mul-needed c = omega (arith, two_few _ _ _ _ c.in_ok-check_scene.ensures c.levels.ensures)

pub returns-then-work-needed : goal.returns-then-work-needed
returns-then-work-needed c =
    let s = c.in_ok-check_scene.ensures in
    converted_short (sym s) (two_needed _ _ _ _ s c.levels.ensures) c.if-work-needed.true

pub written_of_two-requires : goal.written_of_two-requires
written_of_two-requires c =
    two_ready _ _ _ _ c.in_ok-check_scene.ensures c.levels.ensures c.if-work-needed.false (omega arith)

pub returns : goal.returns
returns c =
    let s = c.in_ok-check_scene.ensures in
    converted_ended (sym s) (omega (arith, two_needed _ _ _ _ s c.levels.ensures, c.if-work-needed.false)) c.written_of_two.ensures
