-- What the recursion over blocks asks of a block and of both its halves, and what it comes to: a contact with the
-- block's black voxels of a window joined, or the better of a frame and of theirs.
use Rattle.std.specs.Prelude.{ℕ, suc, ◌+◌, ◌-◌, ◌*◌, ◌/◌, ◌^◌, ◌≤◌, ◌<◌, min, max, ◌≡◌, Bool, List, length}
use Rattle.universe.specs.Universe.{most_levels, longest_side}
use Rattle.bintree.specs.declared.Contact.{Contact}
use Rattle.csg.specs.Surfaces.{Surfaces}
use Rattle.demands.specs.Voxels.{Colouring}
use Rattle.masks.specs.Block.{block_mask}
use Rattle.masks.specs.Windows.{windowed}
use Rattle.masks.specs.Contacts.{contact_in}
use Rattle.masks.specs.Ends.{end_in}
use Rattle.pruned.specs.Left.{all_colour}
use Rattle.at_once.specs.Codes.{SameCodes, AtBlock, block_at, Carrying}
use Rattle.at_once.specs.Words.{word_levels, Tabled}

-- a block that stands in the arrays, the trees that are carried into it, and room for so many times their codes from
-- there on: of a block with n levels left n + 1 times, of both its halves n times
pub record BlockJob (surfaces : Surfaces) (axes : ℕ) (table lengths low side : List ℕ) (left : ℕ)
    (codes : List ℕ) (from count times : ℕ) : Type 0 where
  pub at : AtBlock surfaces axes low side left
  pub tabled : Tabled at.universe table lengths
  pub carrying : Carrying surfaces codes from count
  pub room : from + times * count ≤ length codes
  pub bounded : length codes < 2 ^ 60

module _ {surfaces : Surfaces} {axes : ℕ} {table lengths low side : List ℕ} {left : ℕ} {codes : List ℕ}
    {from count times : ℕ} where
  -- the colours of what is carried
  abbrev pub colours_of : BlockJob surfaces axes table lengths low side left codes from count times → Colouring
  colours_of job = all_colour surfaces job.at.universe job.carrying.trees

  -- a contact with the block joined, and a frame that is known or a better one of the block's
  abbrev pub contact_over : ℕ → ℕ → BlockJob surfaces axes table lengths low side left codes from count times →
      Contact → Contact
  contact_over first last job k = contact_in first last (colours_of job) left (block_at job.at) k

  abbrev pub end_over : Bool → ℕ → ℕ → BlockJob surfaces axes table lengths low side left codes from count times →
      ℕ → ℕ
  end_over backward first last job known =
      end_in backward (windowed job.at.universe first last (colours_of job)) left (block_at job.at) known

-- a block whose voxels can be counted
pub record CountJob (surfaces : Surfaces) (axes : ℕ) (table lengths low side : List ℕ) (left : ℕ)
    (codes : List ℕ) (from count times : ℕ) (first last : ℕ) (contact : Contact) : Type 0 where
  pub block : BlockJob surfaces axes table lengths low side left codes from count times
  pub counts : (contact_over first last block contact).voxels < 2 ^ 64

-- the word of a block that stands in the arrays: a digit for each voxel, by the trees that are carried into it; and one
-- whose voxels can be counted
pub record WordOver (axes : ℕ) (table lengths low side : List ℕ) (left word : ℕ) : Type 0 where
  pub surfaces : Surfaces
  pub codes : List ℕ
  pub from : ℕ
  pub count : ℕ
  pub times : ℕ
  pub block : BlockJob surfaces axes table lengths low side left codes from count times
  pub few : left ≤ word_levels
  pub word_is : word ≡ block_mask (colours_of block) left (block_at block.at)

pub record CountWord (axes : ℕ) (table lengths low side : List ℕ) (left word first last : ℕ) (contact : Contact)
    : Type 0 where
  pub over : WordOver axes table lengths low side left word
  pub counts : (contact_over first last over.block contact).voxels < 2 ^ 64

-- what is changed of the low places and of the sides is put back, and the codes below a place stay
pub record PutBack (place : ℕ) (low side codes low' side' codes' : List ℕ) : Type 0 where
  pub lows : low' ≡ low
  pub sides : side' ≡ side
  pub below : SameCodes place codes codes'

-- a contact with frames `begin` to `end` joined, which have so many black voxels
abbrev pub joined_contact : Contact → ℕ → ℕ → ℕ → Contact
joined_contact k begin end voxels =
    record { first = min k.first begin; last = max k.last end; voxels = k.voxels + voxels }

-- frames `begin` to `end` of a black block with so many levels left and so many frames, and the voxels in them
pub record BlackFrames (left wide begin end : ℕ) : Type 0 where
  pub few : left ≤ most_levels
  pub order : begin ≤ end
  pub within : suc end ≤ begin + wide
  pub short : wide ≤ longest_side

abbrev pub black_voxels : ℕ → ℕ → ℕ → ℕ → ℕ
black_voxels left wide begin end = (suc end - begin) * (2 ^ left / wide)
