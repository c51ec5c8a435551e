-- `end_words`: the words of both halves by one pass, and the frame bettered by the low one and then by the high one.
use native.Mathlib.Omega.{arith}
use borrow.Author.Rules.{rules}
use Rattle.at_once.proofs.Rooms.{same_itself}
use Rattle.at_once.proofs.Jobs.{near_fits, trees_are, lower_job, upper_job}
use Rattle.at_once.proofs.Moving.{half_power}
use Rattle.at_once.proofs.BothWords.{some, six, axis_here, low_trees, high_trees}
use Rattle.at_once.proofs.Counting.{word_over, words_back}
use Rattle.at_once.proofs.Betters.{ends_in_order}
use Rattle.at_once.proofs.end.end_words.Statement.{statement}
use Rattle.at_once.proofs.end.end_words.Tie as tie

both-words-requires : tie.Need-both_words-words-requires
both-words-requires c κs =
    let k = c.requires in
    (low_trees k.0, (high_trees k.0, (axis_here k.0, (k.1.0, (half_power k.0 some, k.1.1)))))

read-word-requires : tie.Need-read_word-below-requires
read-word-requires c κs =
    let b = c in let low = lower_job b.requires.0 some in
    word_over low six (trees_are low six b.both_words-words.ensures.0)

read-word-requires-2 : tie.Need-read_word-above-requires
read-word-requires-2 c κs =
    let b = c in let high = upper_job b.requires.0 some
    same_itself in
    word_over high six (trees_are high six b.both_words-words.ensures.1.0)

returns : tie.Need-returns
returns c =
    let l = c in let b = l in let k = b in
    let e = b.both_words-words.ensures in (
      λ job. ends_in_order job some k.args.first k.args.last k.args.backward k.args.known
          (λ low. l.read_word-below.ensures (word_over low six (trees_are low six e.0)))
          (λ high. c.read_word-above.ensures (word_over high six (trees_are high six e.1.0))),
      (words_back _ _ _, e.1.1),
    )

pub end_words_spec : {M : Type 1} → statement M
end_words_spec =
    tie.close
    (tie.spec
    (λ c. search rules)
    (λ c. omega (arith, axis_here c.requires.0))
    (λ c. omega (arith, axis_here c.requires.0))
    (λ c. omega (arith, axis_here c.requires.0))
    (λ c. omega (arith, axis_here c.requires.0))
    both-words-requires
    (λ c. omega (arith, axis_here c.requires.0))
    (λ c. omega (arith, axis_here c.requires.0))
    read-word-requires
    (λ c. omega (arith, near_fits c.requires.0 some))
    (λ c. omega (arith, axis_here c.requires.0))
    (λ c. omega (arith, axis_here c.requires.0))
    read-word-requires-2
    (λ c. omega (arith, axis_here c.requires.0))
    (λ c. omega (arith, axis_here c.requires.0))
    (λ c. omega (arith, axis_here c.requires.0))
    (λ c. omega (arith, axis_here c.requires.0))
    returns)
