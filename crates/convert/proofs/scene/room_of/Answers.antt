-- A tree has no more halfspace words and no more ball words than words, so that the sums fit.
use Rattle.std.proofs.Common.{arith, ◌∙◌}
use Rattle.csg.specs.Halfspace.{most_rows}
use Rattle.csg.specs.Ball.{most_balls}
use Rattle.csg.specs.Words.{first_halfspace, first_ball}
use Rattle.csg.proofs.Words.{count_words_most}
use Rattle.convert.proofs.Answers.{room_is}
use Rattle.convert.proofs.scene.room_of.Goals as goal

pub overflow_add-leaves : goal.overflow_add-leaves
overflow_add-leaves c =
    let a = c.args in
    omega (arith, count_words_most first_halfspace most_rows a.first.now, count_words_most first_halfspace most_rows a.second.now)

pub overflow_add-balls : goal.overflow_add-balls
overflow_add-balls c =
    let a = c.args in
    omega (arith, count_words_most first_ball most_balls a.first.now, count_words_most first_ball most_balls a.second.now)

pub returns : goal.returns
returns c =
    c.unwrap_or.ensures
    ∙ room_is _ _ _ _ c.requires.accepted_universe c.halfspace_words.ensures c.halfspace_words-2.ensures c.ball_words.ensures c.ball_words-2.ensures c.room.ensures
