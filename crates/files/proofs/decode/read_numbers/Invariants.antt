-- Each place holds the number of the file that its rule gives.
use Rattle.std.proofs.Common.{◌+◌, ◌*◌}
use Rattle.files.specs.Numbers.{u64_at, from_bits, number_bytes}
use Rattle.files.proofs.decode.read_numbers.Given as goal

abbrev pub ghost-fill : goal.ghost-fill
ghost-fill a = λ k. from_bits 64 (u64_at a.read.0.now (a.read.1.now + number_bytes * k))
