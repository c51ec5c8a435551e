-- What the functions that write into the lent array say of it.
use Rattle.std.specs.Prelude.{ℕ, ◌+◌, ◌≤◌, ◌≡◌, List, length}
use Rattle.std.proofs.lemmas.List.Edits.{sets}

-- the longest decimal number of 64 bits, in digits
abbrev pub most_digits : ℕ
most_digits = 20

-- the bytes of the lent array: no answer has more
abbrev pub most_bytes : ℕ
most_bytes = 256

-- these bytes, no more than so many, were stored from a place of the lent array on, and the next place is behind them
pub record Appended (most : ℕ) (before : List ℕ) (at : ℕ) (bytes after : List ℕ) (next : ℕ) : Type 0 where
  pub long : length before ≡ most_bytes
  pub few : length bytes ≤ most
  pub same : after ≡ sets before at bytes
  pub end : next ≡ at + length bytes
