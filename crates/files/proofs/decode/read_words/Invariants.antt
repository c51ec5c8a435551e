-- Each place holds the word of the file.
use Rattle.std.proofs.Common.{◌+◌, ◌*◌}
use Rattle.files.specs.Numbers.{u16_at, word_bytes}
use Rattle.files.proofs.decode.read_words.Given as goal

abbrev pub ghost-fill : goal.ghost-fill
ghost-fill a = λ k. u16_at a.read.0.now (a.read.1.now + word_bytes * k)
