-- Rule 14.4: a verdict is that of a count: Clear exactly where it is 0, and else Hit with it.
use Rattle.std.specs.Prelude.{ℕ, ◌≡◌}
use Rattle.bintree.specs.declared.Contact.{Contact}
use Rattle.bintree.specs.declared.Verdict.{Verdict}
use Rattle.bintree.specs.declared.Verdict.TheVariants.{Clear, Hit}

pub record VerdictOf (voxels : ℕ) (verdict : Verdict) : Type 0 where
  pub none_clear : voxels ≡ 0 → verdict ≡ Clear
  pub clear_none : verdict ≡ Clear → voxels ≡ 0
  pub hit_counts : (contact : Contact) → verdict ≡ Hit contact → contact.voxels ≡ voxels
