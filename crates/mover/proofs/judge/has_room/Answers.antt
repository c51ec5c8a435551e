-- `has_room`: the words are so few that the halfspaces and the Box's rows are counted with no overflow.
use Rattle.mover.proofs.Judging.{room_leaves}
use Rattle.mover.proofs.judge.has_room.Goals as goal

pub overflow_add-leaves : goal.overflow_add-leaves
overflow_add-leaves c = record { fits = room_leaves c.args.words.now c.halfspace_words.ensures c.requires }
