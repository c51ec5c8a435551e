-- `less`: numbers within the corner's limit are subtracted with no overflow.
use Rattle.std.proofs.Common.{◌≡◌, ◌∙◌, ◌-ℤ◌, rules}
use Rattle.standin.proofs.Held.{back}
use Rattle.mover.proofs.Steps.{numbers_eq, less_is}
use Rattle.mover.proofs.step.less.Goals as goal

pub returns : goal.returns
returns c =
    let a = c.args.a in
    let b = c.args.b in
    let x : c.each.result.x ≡ back (back a.x -ℤ back b.x) = search rules in
    let y : c.each.result.y ≡ back (back a.y -ℤ back b.y) = search rules in
    let z : c.each.result.z ≡ back (back a.z -ℤ back b.z) = search rules in
    numbers_eq x y z ∙ less_is c.requires.limited c.requires.limited_2
