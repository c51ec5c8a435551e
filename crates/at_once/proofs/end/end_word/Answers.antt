-- `end_word` betters a frame by the word of the trees that are carried into the block.
use Rattle.at_once.proofs.Jobs.{trees_job, trees_are}
use Rattle.at_once.proofs.Counting.{word_over}
use Rattle.at_once.proofs.end.end_word.Goals as goal

pub trees_word-trees-requires : goal.trees_word-trees-requires
trees_word-trees-requires c =
    record { fact = trees_job c.requires.fact c.requires.left_le_word_levels; right_values = c.requires.right_values }

pub read_word-requires : goal.read_word-requires
read_word-requires c =
    let h = c.requires.left_le_word_levels in
    word_over c.requires.fact h (trees_are c.requires.fact h c.trees_word-trees.ensures)

pub returns : goal.returns
returns c =
    let h = c.requires.left_le_word_levels in
    λ job. c.read_word.ensures (word_over job h (trees_are job h c.trees_word-trees.ensures))
