-- The largest of the three decides; each number is read back from its bits.
use Rattle.std.proofs.Common.{◌≡◌, nat_abs, rules}
use Rattle.standin.proofs.Held.{back, largest_decides}
use Rattle.standin.proofs.is_limited.Goals as goal

pub returns : goal.returns
returns c =
    let x : back c.args.numbers.x ≡ c.args.numbers.x = search rules in
    let y : back c.args.numbers.y ≡ c.args.numbers.y = search rules in
    let z : back c.args.numbers.z ≡ c.args.numbers.z = search rules in
    let l : back c.args.limit ≡ c.args.limit = search rules in
    rw (
      c.max-largest.ensures,
      c.max.ensures,
      c.unsigned_abs.ensures.value,
      c.unsigned_abs-2.ensures.value,
      c.unsigned_abs-3.ensures.value,
      c.unsigned_abs-4.ensures.value,
      x,
      y,
      z,
      l,
    )
    (largest_decides (nat_abs c.args.limit) c.args.numbers)
