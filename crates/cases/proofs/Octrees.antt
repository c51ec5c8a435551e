-- The cases of octrees hold: both sides are computed and compared.
use mathlib.Core.Path.{refl}
use Rattle.lemmas.specs.Sums.{sum, every}
use Rattle.universe.specs.Lent.{overwritten}
use Rattle.universe.specs.Universe.{universe_refusal, bits_along, levels}
use Rattle.bintree.specs.Shape.{symbols, size}
use Rattle.bintree.specs.Reading.{read_leaf, with_high, read_halves, read_at, exactly, expression, expression_refusal}
use Rattle.bintree.specs.Answers.{written_answer, written_buffer}
use Rattle.bintree.specs.Merging.{join, merged}
use Rattle.octree.specs.Octree.{octree_symbols, with_second, after_first, parted_of, solid_at, octree_at, wholly, octree_on, is_solid, are_solid, join_sons, reduce}
use Rattle.octree.specs.Parting.{cube_of, octree_of, shape_of}
use Rattle.octree.specs.Answers.{cube_refusal, octree_refusal, export_answer, export_buffer, import_answer, import_buffer}
use Rattle.cases.specs.Swept.{Hold}
use Rattle.cases.specs.Octrees.{lowest, triples, unreduced, bad}

pub lowest_hold : Hold lowest
unfolding
    sum every overwritten universe_refusal bits_along levels symbols size read_leaf with_high read_halves read_at exactly expression expression_refusal
    written_answer written_buffer join merged octree_symbols with_second after_first parted_of solid_at octree_at wholly octree_on is_solid are_solid join_sons reduce
    cube_of octree_of shape_of cube_refusal octree_refusal export_answer export_buffer import_answer import_buffer
lowest_hold = refl

pub triples_hold : Hold triples
unfolding
    sum every overwritten universe_refusal bits_along levels symbols size read_leaf with_high read_halves read_at exactly expression expression_refusal
    written_answer written_buffer join merged octree_symbols with_second after_first parted_of solid_at octree_at wholly octree_on is_solid are_solid join_sons reduce
    cube_of octree_of shape_of cube_refusal octree_refusal export_answer export_buffer import_answer import_buffer
triples_hold = refl

pub unreduced_hold : Hold unreduced
unfolding
    sum every overwritten universe_refusal bits_along levels symbols size read_leaf with_high read_halves read_at exactly expression expression_refusal
    written_answer written_buffer join merged octree_symbols with_second after_first parted_of solid_at octree_at wholly octree_on is_solid are_solid join_sons reduce
    cube_of octree_of shape_of cube_refusal octree_refusal export_answer export_buffer import_answer import_buffer
unreduced_hold = refl

pub bad_hold : Hold bad
unfolding
    sum every overwritten universe_refusal bits_along levels symbols size read_leaf with_high read_halves read_at exactly expression expression_refusal
    written_answer written_buffer join merged octree_symbols with_second after_first parted_of solid_at octree_at wholly octree_on is_solid are_solid join_sons reduce
    cube_of octree_of shape_of cube_refusal octree_refusal export_answer export_buffer import_answer import_buffer
bad_hold = refl
