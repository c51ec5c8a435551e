-- The loop counts those of the words that it has read.
use Rattle.csg.proofs.Checking.{NamesSofar}
use Rattle.csg.proofs.count_words.Given as goal

abbrev pub invariant-loop-word : goal.invariant-loop-word
invariant-loop-word l = NamesSofar l.first l.most l.words l.count l.word-index
