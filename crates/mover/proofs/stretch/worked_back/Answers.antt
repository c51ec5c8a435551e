-- `worked_back`: each number is worked back along its axis.
use Rattle.std.proofs.Common.{◌≡◌, ◌-ℤ◌, ◌*ℤ◌, pos, rules}
use Rattle.mover.proofs.Steps.{numbers_eq}
use Rattle.mover.proofs.stretch.worked_back.Goals as goal

pub returns : goal.returns
returns c =
    let corner = c.args.corner in
    let step = c.args.step in
    let x : c.each.result.x ≡ (corner.x -ℤ pos c.args.moment *ℤ step.x) = search rules in
    let y : c.each.result.y ≡ (corner.y -ℤ pos c.args.moment *ℤ step.y) = search rules in
    let z : c.each.result.z ≡ (corner.z -ℤ pos c.args.moment *ℤ step.z) = search rules in
    numbers_eq x y z
