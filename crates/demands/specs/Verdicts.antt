-- Rule 5.2: what a verdict says of the voxels, of those that are black in the window, one by one.
use Rattle.std.specs.Prelude.{ℕ, ◌+◌, ◌≤◌, ◌≡◌, List}
use Rattle.lemmas.specs.Sums.{sum}
use Rattle.universe.specs.declared.Universe.{Universe}
use Rattle.universe.specs.Universe.{frame_axis}
use Rattle.universe.specs.Voxel.{place_along, voxel_refusal}
use Rattle.bintree.specs.declared.Colour.TheVariants.{Black}
use Rattle.bintree.specs.declared.Contact.{Contact}
use Rattle.bintree.specs.declared.Verdict.{Verdict}
use Rattle.bintree.specs.declared.Verdict.TheVariants.{Clear, Hit}
use Rattle.bintree.specs.Verdicts.{window_length}
use Rattle.demands.specs.Voxels.{Colouring, black_voxels_at}

-- the frame of a voxel
abbrev pub frame_of : Universe → List ℕ → ℕ
frame_of u v = place_along v (frame_axis u)

-- a black voxel in the frames first to last, both ends in
pub record BlackVoxel (u : Universe) (colours : Colouring) (first last : ℕ) : Type 0 where
  pub voxel : List ℕ
  pub inside : voxel_refusal u voxel ≡ 0
  pub from : first ≤ frame_of u voxel
  pub to : frame_of u voxel ≤ last
  pub black : colours voxel ≡ Black

-- a Hit's first frame is that of a black voxel of the window, none of which is earlier; its last frame is that of one,
-- none of which is later; and its count is that of all of them
pub record Touches (u : Universe) (colours : Colouring) (first last : ℕ) (contact : Contact) : Type 0 where
  pub earliest : BlackVoxel u colours first last
  pub first_frame : contact.first ≡ frame_of u earliest.voxel
  pub none_before : (b : BlackVoxel u colours first last) → contact.first ≤ frame_of u b.voxel
  pub latest : BlackVoxel u colours first last
  pub last_frame : contact.last ≡ frame_of u latest.voxel
  pub none_after : (b : BlackVoxel u colours first last) → frame_of u b.voxel ≤ contact.last
  pub all : contact.voxels ≡ sum (window_length first last) (λ c. black_voxels_at u colours (first + c))

-- the verdict is Clear exactly where the window has no black voxel, Hit exactly where it has one, and then as above
pub record Judges (u : Universe) (colours : Colouring) (first last : ℕ) (verdict : Verdict) : Type 0 where
  pub clear_none : verdict ≡ Clear → BlackVoxel u colours first last → ⊥
  pub none_clear : (BlackVoxel u colours first last → ⊥) → verdict ≡ Clear
  pub black_hit : BlackVoxel u colours first last → (contact : Contact) × (verdict ≡ Hit contact)
  pub hit_touches : (contact : Contact) → verdict ≡ Hit contact → Touches u colours first last contact
