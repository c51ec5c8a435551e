-- `size_of_word` adds up the blocks of each size whose digits are not alike.
use mathlib.Core.Path.{refl}
use Rattle.at_once.proofs.Texts.{size_is}
use borrow.Author.Rules.{rules}
use Rattle.at_once.proofs.text.size_of_word.Goals as goal

pub returns : goal.returns
returns c =
    size_is c.args.word refl refl refl refl refl refl (search rules)
    c.mixed_blocks-blocks.ensures.value c.mixed_blocks-blocks-2.ensures.value
    c.mixed_blocks-blocks-3.ensures.value c.mixed_blocks-blocks-4.ensures.value c.mixed_blocks-blocks-5.ensures.value
    c.mixed_blocks-blocks-6.ensures.value
