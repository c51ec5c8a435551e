-- `check_window` tests both ends of a window; with 64 bits or more every u64 is a frame.
use Prim.Native.Nat.{ℕ, ◌*◌, ◌%◌, ◌^◌, ◌≤◌, ◌<◌}
use mathlib.Core.Path.{◌≡◌}
use native.Mathlib.Omega.{arith}
use borrow.Author.Tests.{lt-leb, le-leb, lt-ltb, le-ltb}
use lib.Pow.{pow_mono}
use Rattle.lemmas.proofs.Machine.{shifted_one}
use Rattle.universe.specs.declared.Universe.{Universe}
use Rattle.universe.specs.Refusals.{outside}
use Rattle.universe.specs.Voxel.{window_refusal}
use Rattle.universe.proofs.Universes.{frame_bits_lem}
use Rattle.universe.proofs.Universe.check_window.Goals as goal

pub returns-then-last-first : goal.returns-then-last-first
unfolding window_refusal
returns-then-last-first c = rw (lt-leb _ _ c.if-last-first.true)

module _ (u : Universe) (first last : ℕ) (k : first ≤ last) where
  inside : last < 2 ^ u.frame_bits → 0 ≡ window_refusal u first last
  unfolding window_refusal
  inside h = rw (le-leb _ _ k, frame_bits_lem u, lt-ltb last (2 ^ u.frame_bits) h)

  past_end : u.frame_bits ≤ 63 → 1 * 2 ^ u.frame_bits % 18446744073709551616 ≤ last → outside ≡ window_refusal u first last
  unfolding window_refusal
  past_end f h =
      let past : 2 ^ u.frame_bits ≤ last = rw (shifted_one u.frame_bits (omega arith)) at h in
      rw (le-leb _ _ k, frame_bits_lem u, le-ltb last (2 ^ u.frame_bits) past)

pub returns-then-bits-gt63 : goal.returns-then-bits-gt63
returns-then-bits-gt63 c =
    inside _ _ _ c.if-last-first.false
    (omega (arith, c.ranges.last.fits, pow_mono {i = 64} {j = c.args.self.frame_bits} (omega arith)))

pub returns-then-last-bits : goal.returns-then-last-bits
returns-then-last-bits c =
    inside _ _ _ c.if-last-first.false (rw (shifted_one c.args.self.frame_bits (omega arith)) at c.if-last-bits.true)

pub returns : goal.returns
returns c = past_end _ _ _ c.if-last-first.false (omega arith) c.if-last-bits.false
