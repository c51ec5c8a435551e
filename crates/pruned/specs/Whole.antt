-- How the whole universe is written from the nodes of the full trees: pruned over it in place, it is one symbol, or its
-- halves are laid, once where the room lent suffices by the formula, else into scratch room or first for their length.
use Rattle.std.specs.Prelude.{ℕ, ◌+◌, ◌*◌, ◌-◌, ◌^◌, ◌≤◌, ◌<◌, ◌≡◌, Bool, List, [], ◌∷◌, ℤ, length, get_or, replicate}
use Rattle.std.proofs.lemmas.List.Edits.{sets}
use Rattle.universe.specs.declared.Universe.{Universe}
use Rattle.universe.specs.Universe.{most_axes, levels}
use Rattle.universe.specs.Block.{whole_block}
use Rattle.bintree.specs.Shape.{Shape, size, symbols}
use Rattle.csg.specs.Surfaces.{Surfaces, named}
use Rattle.csg.specs.Tree.{Plain}
use Rattle.csg.specs.Words.{most_words, tree_refusal}
use Rattle.convert.specs.Blocks.{Standing, block_left}
use Rattle.convert.specs.Shapes.{shaped}
use Rattle.pruned.specs.Told.{ConversionAnswer}
use Rattle.pruned.specs.Looked.{examine_all}
use Rattle.pruned.specs.Nodes.{all_postfix, node_length, Holds, SameBelow, OneOrTwo, most_shapes}
use Rattle.pruned.specs.Laying.{SoundScene, halves_shape, looked_in_halves, HalvesJob}
use Rattle.pruned.specs.Loading.{whole_of}
use Rattle.pruned.specs.Answers.{nodes_needed, written_conversion, written_room, work_refusal, conversion_answer}
use Rattle.pruned.specs.Answers.{conversion_room}

-- the shape that both halves of a block come to
abbrev pub halves_of : {surfaces : Surfaces} {axes : ℕ} {table low side : List ℕ} {left : ℕ} {work : List ℤ} {from count
    : ℕ}
    {looked : List ℕ} {at : ℕ} → Bool → HalvesJob surfaces axes table low side left work from count looked at → Shape
halves_of {surfaces = surfaces} {low = low} {left = left} merging job =
    shaped merging (halves_shape surfaces job.trees (left - 1) (block_left job.universe left low))

abbrev pub looked_in : {surfaces : Surfaces} {axes : ℕ} {table low side : List ℕ} {left : ℕ} {work : List ℤ} {from count
    : ℕ}
    {looked : List ℕ} {at : ℕ} → HalvesJob surfaces axes table low side left work from count looked at → ℕ
looked_in {surfaces = surfaces} {low = low} {left = left} job =
    looked_in_halves surfaces job.trees (left - 1) (block_left job.universe left low)

-- both halves written from the room's front on, the one leaf too that they may have been merged to
pub record HalvesWritten {surfaces : Surfaces} {axes : ℕ} {table low side : List ℕ} {left : ℕ}
    {work : List ℤ} {from count : ℕ} {looked : List ℕ}
    (job : HalvesJob surfaces axes table low side left work from count looked 0)
    (merging : Bool) (out : List ℕ) (long : ℕ) (out' looked' low' side' : List ℕ) (work' : List ℤ) : Type 0 where
  pub long_is : long ≡ length (symbols (halves_of merging job))
  pub room : out' ≡ sets out 0 (symbols (halves_of merging job))
  pub counted : looked' ≡ (get_or looked 0 0 + looked_in job) ∷ []
  pub lows : low' ≡ low
  pub sides : side' ≡ side
  pub below : SameBelow (from + count) work work'

-- the same as a conversion's end, where room for so many symbols suffices
pub record OpenJob (surfaces : Surfaces) (axes : ℕ) (table low side : List ℕ) (left : ℕ)
    (work : List ℤ) (count before room : ℕ) : Type 0 where
  pub halves : HalvesJob surfaces axes table low side left work 0 count (before ∷ []) 0
  pub suffices : (merging : Bool) → length (symbols (halves_of merging halves)) ≤ room

pub record Ended (out written : List ℕ) (looked : ℕ) (r : ConversionAnswer) (out' : List ℕ) : Type 0 where
  pub answer : r ≡ written_conversion out written looked
  pub room : out' ≡ written_room out written

-- what writing the whole universe asks: the full trees stand from the room's front on, with their values over it
pub record WholeJob (u : Universe) (surfaces : Surfaces) (side : List ℕ) (work : List ℤ) (count : ℕ) (starts : List ℕ)
    (room : ℕ) : Type 0 where
  pub scene : SoundScene u surfaces
  pub trees : List Plain
  pub few : OneOrTwo (named surfaces) trees
  pub counted : count ≡ length (all_postfix trees)
  pub short : count ≤ 2 * most_words
  pub holds : Holds surfaces (whole_of u) work 0 (all_postfix trees)
  pub standing : Standing u (levels u) (replicate most_axes 0) side
  pub enough : node_length * ((levels u + 1) * count) ≤ length work
  pub bounded : length work < 2 ^ 60
  pub starts_long : length starts ≡ most_shapes
  pub suffices : size (examine_all surfaces trees (levels u) (whole_block u)) ≤ room

-- the symbols of the trees of a run, raw or merged
abbrev pub symbols_of : Bool → Universe → Surfaces → List Plain → List ℕ
symbols_of merging u surfaces ps = symbols (shaped merging (examine_all surfaces ps (levels u) (whole_block u)))

-- what converting one tree, and two, asks after the checks up to that of the work room
pub record OneReady (u : Universe) (surfaces : Surfaces) (words : List ℕ) (work : List ℤ) : Type 0 where
  pub scene : SoundScene u surfaces
  pub accepted : tree_refusal (named surfaces) words ≡ 0
  pub enough : node_length * nodes_needed u (length words) ≤ length work
  pub bounded : length work < 2 ^ 60

pub record TwoReady (u : Universe) (surfaces : Surfaces) (first second : List ℕ) (work : List ℤ) : Type 0 where
  pub scene : SoundScene u surfaces
  pub accepted_first : tree_refusal (named surfaces) first ≡ 0
  pub accepted_second : tree_refusal (named surfaces) second ≡ 0
  pub enough : node_length * nodes_needed u (length first + length second) ≤ length work
  pub bounded : length work < 2 ^ 60

-- how a conversion ends: its answer, what it leaves of the room for symbols, and that it leaves the work room alone
-- where the checks up to that of the work room refuse it; `refusal` is that of the checks up to the trees
pub record Converted (refusal : ℕ) (work : List ℤ) (needed : ℕ) (out written : List ℕ) (looked : ℕ)
    (r : ConversionAnswer) (out' : List ℕ) (work' : List ℤ) : Type 0 where
  pub answer : r ≡ conversion_answer refusal work needed out written looked
  pub room : out' ≡ conversion_room refusal work needed out written
  pub kept : (work_refusal refusal work needed ≡ 0 → ⊥) → work' ≡ work
