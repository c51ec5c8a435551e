-- How one walk over an expression meets rule 5.4, and finds the volume of its shape and its contact with a window:
-- block by block, each black block adds its voxels and joins its frames in the window. A contact with no black voxel
-- yet has voxels 0 and the window's ends the other way round, so that the first frames joined take their places.
use Rattle.std.specs.Prelude.{ℕ, suc, ◌+◌, ◌-◌, ◌*◌, ◌^◌, ◌≤◌, ◌<◌, min, max, ◌≡◌, cond}
use Rattle.std.specs.Prelude.{List, Option, Some, None, eqb, leb, length, get_or}
use Rattle.universe.specs.declared.Universe.{Universe}
use Rattle.universe.specs.Universe.{bits_along, levels, most_levels, frame_axis, halvings}
use Rattle.bintree.specs.declared.Colour.TheVariants.{White, Black}
use Rattle.bintree.specs.declared.Contact.{Contact}
use Rattle.bintree.specs.declared.Verdict.{Verdict}
use Rattle.bintree.specs.declared.Verdict.TheVariants.{Clear, Hit}
use Rattle.bintree.specs.declared.window.Window.{Window}
use Rattle.bintree.specs.declared.window.Watched.{Watched}
use Rattle.bintree.specs.Shape.{Shape, leaf, halved, size}
use Rattle.bintree.specs.Reading.{Reading, none, read}
use Rattle.bintree.specs.Counts.{volume, frames, voxels_each}
use Rattle.bintree.specs.Verdicts.{window_length}

-- a contact with no black voxel yet
abbrev pub no_contact : ℕ → ℕ → Contact
no_contact first last = record { first = last; last = first; voxels = 0 }

-- a contact with frames `from` to `to` of the window too, of which each has as many black voxels
abbrev pub with_frames : Contact → ℕ → ℕ → ℕ → Contact
with_frames k from to each =
    record { first = min k.first from; last = max k.last to; voxels = k.voxels + window_length from to * each }

-- and with n frames from `frame` on, as far as they lie in the window
unfoldable pub touched : Contact → ℕ → ℕ → ℕ → ℕ → ℕ → Contact
touched k first last frame n each =
    let from = max frame first in
    let to = min (frame + (n - 1)) last in
    cond (leb from to) (with_frames k from to each) k

-- a contact joined with a shape that stands for a block of level l, whose frames begin at `frame`: the high half's
-- frames begin later by as much as the halves have fewer frames
unfoldable pub contact_from : Universe → ℕ → ℕ → ℕ → ℕ → Shape → Contact → Contact
contact_from u first last l frame (leaf Black) k = touched k first last frame (frames u l) (voxels_each u l)
contact_from u first last l frame (leaf White) k = k
contact_from u first last l frame (halved a b) k =
    contact_from u first last (suc l) (frame + (frames u l - frames u (suc l))) b
    (contact_from u first last (suc l) frame a k)

-- a block with n levels left has 2 to these many frames
unfoldable pub frame_bits : Universe → ℕ → ℕ
frame_bits u n = bits_along u (frame_axis u) - halvings u (levels u - n) (frame_axis u)

-- and the frames of a high half with n levels left begin later than its block's by as many as it has fewer
abbrev pub later_frames : Universe → ℕ → ℕ
later_frames u n = 2 ^ frame_bits u (suc n) - 2 ^ frame_bits u n

-- tables of both, by the levels left
pub record FrameTable (u : Universe) (table : List ℕ) : Type 0 where
  pub long : length table ≡ suc most_levels
  pub holds : (n : ℕ) → n ≤ levels u → get_or table n 0 ≡ frame_bits u n

pub record LaterTable (u : Universe) (table : List ℕ) : Type 0 where
  pub long : length table ≡ most_levels
  pub holds : (n : ℕ) → n < levels u → get_or table n 0 ≡ later_frames u n

-- the place after the tree that the whole universe's expression is, its volume and its contact with the window
unfoldable pub watched : Window → Reading → Option Watched
watched w none = None
watched w (read a) =
    let none_yet = no_contact w.first w.last in
    Some (record {
      end = size a;
      volume = volume w.accepted.universe a;
      contact = contact_from w.accepted.universe w.first w.last 0 0 a none_yet;
    })

-- the verdict that a contact is
abbrev pub verdict_of : Contact → Verdict
verdict_of k = cond (eqb k.voxels 0) Clear (Hit k)
