-- `count_word` joins the word of the trees that are carried into the block.
use Rattle.at_once.proofs.Jobs.{trees_job, trees_are}
use Rattle.at_once.proofs.Counting.{count_word}
use Rattle.at_once.proofs.count.count_word.Goals as goal

pub trees_word-trees-requires : goal.trees_word-trees-requires
trees_word-trees-requires c =
    record { fact = trees_job c.requires.fact.block c.requires.left_le_word_levels; right_values = c.requires.right_values }

pub join_word-requires : goal.join_word-requires
join_word-requires c =
    let h = c.requires.left_le_word_levels in
    count_word c.requires.fact h (trees_are c.requires.fact.block h c.trees_word-trees.ensures)

pub returns : goal.returns
returns c =
    let h = c.requires.left_le_word_levels in
    λ job. c.join_word.ensures (count_word job h (trees_are job.block h c.trees_word-trees.ensures))
