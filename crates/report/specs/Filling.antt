-- How the code meets rules 5.5 to 5.7: the row is cleared, and then each tree of the list, block by block, adds its
-- black voxels at the places of its frames in the window. Place c of the row is frame first + c.
use Rattle.std.specs.Prelude.{ℕ, ◌+◌, ◌-◌, ◌*◌, ◌^◌, ◌≤◌, ◌<◌, min, ◌≡◌, List, length, get_or, drop}
use Rattle.universe.specs.declared.Universe.{Universe}
use Rattle.universe.specs.Questions.{axes_left}
use Rattle.universe.specs.Universe.{universe_refusal, levels, most_levels, frame_count}
use Rattle.bintree.specs.Shape.{Shape, size}
use Rattle.bintree.specs.Reading.{read, read_at}
use Rattle.bintree.specs.Counts.{frames, voxels_from, voxels_at, inside}
use Rattle.bintree.specs.Verdicts.{window_length}
use Rattle.bintree.specs.Windows.{frame_bits}
use Rattle.report.specs.declared.window.Window.{Window}
use Rattle.report.specs.Lists.{most_expressions, list_refusal, sum_over}

-- no list has more voxels: those of the largest universe, as often as there may be expressions
abbrev pub most_total : ℕ
most_total = most_expressions * 2 ^ most_levels

-- how many frames a window has
abbrev pub length_of : Window → ℕ
length_of w = window_length w.first w.last

-- how many places of its row are of frames before this one
abbrev pub places_before : Window → ℕ → ℕ
places_before w frame = min (frame - w.first) (length_of w)

-- a row whose first n places are zeros, the rest as before
pub record Cleared (n : ℕ) (before after : List ℕ) : Type 0 where
  pub long : length after ≡ length before
  pub front : (c : ℕ) → c < n → get_or after c 0 ≡ 0
  pub behind : drop n after ≡ drop n before

-- a row with more at its first n places, the rest as before
pub record Adds (n : ℕ) (more : ℕ → ℕ) (before after : List ℕ) : Type 0 where
  pub long : length after ≡ length before
  pub front : (c : ℕ) → c < n → get_or after c 0 ≡ get_or before c 0 + more c
  pub behind : drop n after ≡ drop n before

-- a row to whose places before `to` so much can be added, and after it was: at those from `from` on
pub record Roomy (to each : ℕ) (row : List ℕ) : Type 0 where
  pub long : to ≤ length row
  pub under : (c : ℕ) → c < to → get_or row c 0 + each < 2 ^ 64

pub record AddsEach (from to each : ℕ) (before after : List ℕ) : Type 0 where
  pub adds : (n : ℕ) → to ≤ n → Adds n (inside from (to - from) (λ e. each)) before after

-- a row as long as the window at least, to whose places so much can be added
pub record Takes (w : Window) (most : ℕ) (row : List ℕ) : Type 0 where
  pub long : length_of w ≤ length row
  pub under : (c : ℕ) → c < length_of w → get_or row c 0 + most ≤ most_total

-- what a black block with 2^bits frames from `frame` on and 2^rest voxels in each has at place c
abbrev pub black_of : Window → ℕ → ℕ → ℕ → ℕ → ℕ
black_of w frame bits rest c = inside frame (2 ^ bits) (λ e. 2 ^ rest) (w.first + c)

-- a block that is halved: its levels left, the bits of its frames, the axes by levels left
pub record Halved (u : Universe) (axes : List ℕ) (left bits : ℕ) : Type 0 where
  pub accepts : universe_refusal u ≡ 0
  pub table : axes ≡ axes_left u
  pub some : 0 < left
  pub few : left ≤ levels u
  pub wide : bits ≡ frame_bits u left

-- what stands before the tree of a block is filled in: its levels left, the bits of its frames and the first of them
pub record Fillable (w : Window) (axes s row : List ℕ) (at left bits frame : ℕ) : Type 0 where
  pub table : axes ≡ axes_left w.universe
  pub few : left ≤ levels w.universe
  pub wide : bits ≡ frame_bits w.universe left
  pub within : frame + 2 ^ bits ≤ frame_count w.universe
  pub begins : (k : ℕ) × (frame ≡ k * frames w.universe (levels w.universe - left))
  pub shape : Shape
  pub reads : read_at s left at ≡ read shape
  pub takes : Takes w (2 ^ left) row

-- the black voxels of a frame, of all shapes of a list, block by block
abbrev pub voxels_over : Universe → List Shape → ℕ → ℕ
voxels_over u list frame = sum_over list (λ a. voxels_at u a frame)

-- what the tree of such a block has at place c
abbrev pub voxels_of : Window → ℕ → ℕ → Shape → ℕ → ℕ
voxels_of w left frame a c =
    let l = levels w.universe - left in
    inside frame (frames w.universe l) (voxels_from w.universe l a) (w.first + c)

-- and what stands after it: the place after the tree, and the row with its voxels
pub record Filled (w : Window) (s : List ℕ) (at left frame end : ℕ) (before after : List ℕ) : Type 0 where
  pub ends : (a : Shape) → read_at s left at ≡ read a → end ≡ at + size a
  pub adds : (a : Shape) → read_at s left at ≡ read a → Adds (length_of w) (voxels_of w left frame a) before after

-- before the whole list is filled in
pub record Listed (w : Window) (s row : List ℕ) : Type 0 where
  pub list : list_refusal w.universe s ≡ 0
  pub long : length_of w ≤ length row
