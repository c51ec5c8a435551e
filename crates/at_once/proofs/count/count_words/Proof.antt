-- `count_words`: the words of both halves by one pass, the low one joined and to that the high one.
use native.Mathlib.Omega.{arith}
use borrow.Author.Rules.{rules}
use Rattle.at_once.proofs.Jobs.{near_fits, put_same, trees_are}
use Rattle.at_once.proofs.Moving.{half_power}
use Rattle.at_once.proofs.BothWords.{axis_here, low_trees, high_trees, some, six}
use Rattle.at_once.proofs.Counting.{count_word, count_lower, count_upper, count_both, words_back}
use Rattle.at_once.proofs.count.count_words.Statement.{statement}
use Rattle.at_once.proofs.count.count_words.Tie as tie

both-words-requires : tie.Need-both_words-words-requires
both-words-requires c κs =
    let k = c.requires in
    let j = k.0.block in
    (low_trees j, (high_trees j, (axis_here j, (k.1.0, (half_power j some, k.1.1)))))

join-word-requires : tie.Need-join_word-below-requires
join-word-requires c κs =
    let b = c in let j = b.requires.0 in
    let low = count_lower j some in
    count_word low six (trees_are low.block six b.both_words-words.ensures.0)

join-word-requires-2 : tie.Need-join_word-above-requires
join-word-requires-2 c κs =
    let l = c in let b = l in let j = b.requires.0 in
    let e = b.both_words-words.ensures in
    let low = count_lower j some in
    let high = count_upper j some (l.join_word-below.ensures (count_word low six (trees_are low.block six e.0))) put_same in
    count_word high six (trees_are high.block six e.1.0)

returns : tie.Need-returns
returns c =
    let l = c in let b = l in let k = b in
    let e = b.both_words-words.ensures in (
      λ job. let low = count_lower job some in
          count_both job some (l.join_word-below.ensures (count_word low six (trees_are low.block six e.0))) put_same
          (λ high. c.join_word-above.ensures (count_word high six (trees_are high.block six e.1.0))) put_same,
      (words_back _ _ _, e.1.1),
    )

pub count_words_spec : {M : Type 1} → statement M
count_words_spec =
    tie.close
    (tie.spec
    (λ c. search rules)
    (λ c. omega (arith, axis_here c.requires.0.block))
    (λ c. omega (arith, axis_here c.requires.0.block))
    (λ c. omega (arith, axis_here c.requires.0.block))
    (λ c. omega (arith, axis_here c.requires.0.block))
    both-words-requires
    (λ c. omega (arith, axis_here c.requires.0.block))
    (λ c. omega (arith, axis_here c.requires.0.block))
    join-word-requires
    (λ c. omega (arith, near_fits c.requires.0.block some))
    (λ c. omega (arith, axis_here c.requires.0.block))
    (λ c. omega (arith, axis_here c.requires.0.block))
    join-word-requires-2
    (λ c. omega (
      arith,
      axis_here c.requires.0.block,
    ))
    (λ c. omega (
      arith,
      axis_here c.requires.0.block,
    ))
    (λ c. omega (
      arith,
      axis_here c.requires.0.block,
    ))
    (λ c. omega (
      arith,
      axis_here c.requires.0.block,
    ))
    returns)
