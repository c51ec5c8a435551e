-- `room_of` asks the room question for the halfspace words and the ball words of both trees, of which there are at most 510.
use mathlib.Core.Path.{◌∙◌}
use native.Mathlib.Omega.{arith}
use Rattle.csg.specs.Halfspace.{most_rows}
use Rattle.csg.specs.Ball.{most_balls}
use Rattle.csg.specs.Words.{first_halfspace, first_ball}
use Rattle.csg.proofs.Words.{count_words_most}
use Rattle.at_once.proofs.Conversions.{room_answered}
use Rattle.at_once.proofs.conversion.room_of.Goals as goal

pub overflow_add-leaves : goal.overflow_add-leaves
overflow_add-leaves c =
    let f = count_words_most first_halfspace most_rows c.args.first.now in
    let s = count_words_most first_halfspace most_rows c.args.second.now in
    omega (arith, c.halfspace_words.ensures, c.halfspace_words-2.ensures, c.requires.first_few, c.requires.second_few, f, s)

pub overflow_add-balls : goal.overflow_add-balls
overflow_add-balls c =
    let f = count_words_most first_ball most_balls c.args.first.now in
    let s = count_words_most first_ball most_balls c.args.second.now in
    omega (arith, c.ball_words.ensures, c.ball_words-2.ensures, c.requires.first_few, c.requires.second_few, f, s)

pub returns : goal.returns
returns c =
    c.unwrap_or.ensures
    ∙ rw (← c.halfspace_words.ensures, ← c.halfspace_words-2.ensures, ← c.ball_words.ensures, ← c.ball_words-2.ensures)
    (room_answered _ _ _ c.requires.accepted_universe _ c.room.ensures)
