-- The eight bytes are read as an unsigned number first.
use Rattle.std.proofs.Common.{◌≡◌, rules, arith}
use Rattle.std.proofs.lemmas.Grind.{common_steps}
use Rattle.files.specs.Numbers.{u64_at}
use Rattle.files.proofs.Numbers.{long_read}
use Rattle.files.proofs.decode.i64_at.Goals as goal

pub returns : goal.returns
returns c =
    let read : c.from_le_bytes.result ≡ u64_at c.args.bytes.now c.args.at = grind (arith, common_steps) in
    rw (← read) (search (rules, long_read))
