-- What line 1 says of the bits, by the version of the scene: its two cases.
use Prim.Native.Nat.{ℕ}
use mathlib.Core.Path.{◌≡◌}
use mathlib.Core.List.{◌++◌}
use borrow.Author.Tests.{eq-eqb, ne_eqb}
use Rattle.universe.specs.declared.Universe.{Universe}
use Rattle.lines.specs.Lines.{labelled, bits_of}

module _ (version : ℕ) (u : Universe) where
  pub first_bits : version ≡ 1 → labelled " bits " u.frame_bits ≡ bits_of version u
  unfolding bits_of
  first_bits e = rw (eq-eqb version 1 e)

  pub later_bits : (version ≡ 1 → ⊥) → labelled " bits " u.bits ++ labelled " frame " u.frame_bits ≡ bits_of version u
  unfolding bits_of
  later_bits n = rw (ne_eqb version 1 n)
