-- `of_two` ends in a refusal by the checks, or in what the conversion after them came to, with room for the fewest codes, for few or for the most.
use Rattle.std.proofs.Common.{◌≡◌, Err, refl, rules}
use Rattle.universe.specs.declared.refusal.Unwritten.TheVariants.{Refused}
use Rattle.universe.proofs.Telling.{number-not_zero}
use Rattle.convert.proofs.Answers.{ends_refused, ends_accepted}
use Rattle.at_once.proofs.Conversions.{all_ready, levels_fit, codes_fit, few_ready, most_ready}
use Rattle.at_once.proofs.conversion.of_two.Goals as goal

pub returns-in_err-check_scene : goal.returns-in_err-check_scene
returns-in_err-check_scene g c =
    let e : c.from_residual.result ≡ Err (Refused c.in_err-check_scene.field-0.0) = search rules in
    let f = ends_refused c.args.out.now _ c.in_err-check_scene.ensures (number-not_zero c.in_err-check_scene.field-0.0) refl in
    rw e (record { result_value = f.0; out_after = f.1 })

pub overflow_add-needed : goal.overflow_add-needed
overflow_add-needed g c = record { fits = levels_fit (all_ready c.in_ok-check_scene.ensures refl) c.levels.ensures }

pub overflow_mul-needed : goal.overflow_mul-needed
overflow_mul-needed g c = record { fits = codes_fit (all_ready c.in_ok-check_scene.ensures refl) c.levels.ensures }

pub in_room-requires-clause-few_ready : goal.in_room-requires-clause-few_ready
in_room-requires-clause-few_ready g c = few_ready (all_ready c.in_ok-check_scene.ensures refl) c.levels.ensures c.if-needed.true

pub returns-then-needed : goal.returns-then-needed
returns-then-needed g c =
    let k = c.in_room.ensures in
    let e = ends_accepted _ _ c.in_ok-check_scene.ensures refl (k.result_value, k.out_after) in
    record { result_value = e.0; out_after = e.1 }

pub in_room-requires-then-needed-2-clause-few_ready : goal.in_room-requires-then-needed-2-clause-few_ready
in_room-requires-then-needed-2-clause-few_ready g c = few_ready (all_ready c.in_ok-check_scene.ensures refl) c.levels.ensures c.if-needed-2.true

pub returns-then-needed-2 : goal.returns-then-needed-2
returns-then-needed-2 g c =
    let k = c.in_room-then-needed-2.ensures in
    let e = ends_accepted _ _ c.in_ok-check_scene.ensures refl (k.result_value, k.out_after) in
    record { result_value = e.0; out_after = e.1 }

pub in_room-requires-2-clause-few_ready : goal.in_room-requires-2-clause-few_ready
in_room-requires-2-clause-few_ready g c = most_ready (all_ready c.in_ok-check_scene.ensures refl)

pub returns : goal.returns
returns g c =
    let k = c.in_room-2.ensures in
    let e = ends_accepted _ _ c.in_ok-check_scene.ensures refl (k.result_value, k.out_after) in
    record { result_value = e.0; out_after = e.1 }
